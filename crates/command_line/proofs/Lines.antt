-- Word counts that no command has.
use Rattle.std.proofs.Common.{◌≡◌, ◌<◌, ◌≤◌, ◌^◌, ℕ, Bool, true, false, List, [], ◌∷◌, length, take, codes, Option, Some, None, is_some, refl, sym, ap, ◌∙◌, arith, if◌then◌else◌}
use Rattle.command_line.specs.Numbers.{Text, number_below}
use Rattle.std.specs.Prelude.{option_map, option_and_then}
use Rattle.base.specs.declared.key.Key.{Key}
use Rattle.command_line.specs.Lines.{IsPut, command_of, has_outer_space, is_skipped, is_word, key_of, line_of, put_command, put_of, words_of}
use Rattle.command_line.specs.Rows.{row_of}
use Rattle.command_line.specs.Scripts.{line_of_words, own_line, script_line_of}
use Rattle.command_line.specs.declared.command.Command.{Command}
use Rattle.command_line.specs.declared.script_line.ScriptLine.{ScriptLine}

pub command_of-three_words : (words : List Text) → 3 ≤ length words → length words < 4 → command_of words ≡ None
command_of-three_words [] h k = absurd (omega arith)
command_of-three_words (a ∷ []) h k = absurd (omega arith)
command_of-three_words (a ∷ b ∷ []) h k = absurd (omega arith)
command_of-three_words (a ∷ b ∷ c ∷ []) h k = refl
command_of-three_words (a ∷ b ∷ c ∷ d ∷ words) h k = absurd (omega arith)

pub own_line-two_words : (words : List Text) → 2 ≤ length words → length words < 3 → own_line words ≡ None
own_line-two_words [] h k = absurd (omega arith)
own_line-two_words (a ∷ []) h k = absurd (omega arith)
own_line-two_words (a ∷ b ∷ []) h k = refl
own_line-two_words (a ∷ b ∷ c ∷ words) h k = absurd (omega arith)

-- ---- the first words decide

command_of-first : (words : List Text) → command_of (take 6 words) ≡ command_of words
command_of-first [] = refl
command_of-first (a ∷ []) = refl
command_of-first (a ∷ b ∷ []) = refl
command_of-first (a ∷ b ∷ c ∷ []) = refl
command_of-first (a ∷ b ∷ c ∷ d ∷ []) = refl
command_of-first (a ∷ b ∷ c ∷ d ∷ e ∷ []) = refl
command_of-first (a ∷ b ∷ c ∷ d ∷ e ∷ f ∷ words) = refl

line_of_words-first : (words : List Text) → line_of_words (take 6 words) ≡ line_of_words words
line_of_words-first [] = refl
line_of_words-first (a ∷ []) = refl
line_of_words-first (a ∷ b ∷ []) = refl
line_of_words-first (a ∷ b ∷ c ∷ []) = refl
line_of_words-first (a ∷ b ∷ c ∷ d ∷ []) = refl
line_of_words-first (a ∷ b ∷ c ∷ d ∷ e ∷ []) = refl
line_of_words-first (a ∷ b ∷ c ∷ d ∷ e ∷ f ∷ words) = refl

neither-so : {A : Type 0} (skipped outer : Bool) (read : Option A) (spelled : Option A) → skipped ≡ false → outer ≡ false → read ≡ spelled
    → (if skipped then Some None else if outer then None else option_map (λ (x : A). Some x) read) ≡ option_map (λ (x : A). Some x) spelled
neither-so a outer read spelled s o h = grind (arith)

pub line-so : (line : Text) (words : List Text) (spelled : Option Command) → is_skipped line ≡ false → has_outer_space line ≡ false → words ≡ take 6 (words_of line)
    → command_of words ≡ spelled → line_of line ≡ option_map (λ command. Some command) spelled
line-so line words spelled skipped outer first is =
    neither-so (is_skipped line) (has_outer_space line) (command_of (words_of line)) spelled skipped outer (sym (command_of-first (words_of line)) ∙ (ap command_of (sym first) ∙ is))

pub script-line-so : (line : Text) (words : List Text) (spelled : Option ScriptLine) → is_skipped line ≡ false → has_outer_space line ≡ false → words ≡ take 6 (words_of line)
    → line_of_words words ≡ spelled → script_line_of line ≡ option_map (λ read. Some read) spelled
script-line-so line words spelled skipped outer first is =
    neither-so (is_skipped line) (has_outer_space line) (line_of_words (words_of line)) spelled skipped outer (sym (line_of_words-first (words_of line)) ∙ (ap line_of_words (sym first) ∙ is))

-- ---- a put

put-by : (named : Bool) (session : Option ℕ) (key : Option Key) (row : Option (List ℕ)) (s : ℕ) (k : Key) → named ≡ true → session ≡ Some s → key ≡ Some k → is_some row ≡ true
    → IsPut (if named then option_and_then (λ s'. option_and_then (λ k'. option_map (put_of s' k') row) key) session else None)
put-by true session key (Some r) s k n es ek er = (s, k, r, rw (es, ek) refl)
put-by true session key None s k n es ek er = cc er
put-by false session key row s k n es ek er = cc n

pub put-so : (name session table key row : Text) (s : ℕ) (k : Key) → is_word name (codes "put") ≡ true → number_below (2 ^ 8) session ≡ Some s → key_of table key ≡ Some k
    → is_some (row_of row) ≡ true → IsPut (put_command name session table key row)
put-so name session table key row s k n es ek er = put-by (is_word name (codes "put")) (number_below (2 ^ 8) session) (key_of table key) (row_of row) s k n es ek er
