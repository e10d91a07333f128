-- How the lines of a script add up.
use Rattle.std.proofs.Common.{◌≡◌, ◌≢◌, ℕ, ◌+◌, ◌-◌, ◌^◌, ◌<◌, suc, false, List, [], ◌∷◌, ◌++◌, length, map, take, get_or, Option, Some, None, refl, sym, ◌∙◌, ap, subst, inl, inr, arith, append_assoc, append-nil, Bor}
use Rattle.std.specs.Prelude.{min, Result, IfErr, IfOk}
use Rattle.std.specs.List.{flat_map}
use Rattle.std.specs.Option.{option_to_list}
use Rattle.std.proofs.Math.Seq.{split_at}
use Rattle.std.proofs.lemmas.Grind.{flat_map-append}
use Rattle.std.proofs.lemmas.List.{map-append, length-map}
use Rattle.base.specs.Layout.{is_in_limits, layout_with, plain_version}
use Rattle.command_line.specs.Lines.{texts}
use Rattle.command_line.specs.Numbers.{Text}
use Rattle.command_line.specs.Scripts.{AreReadAs, BeginScript, HasBadGeometry, IfBadGeometry, IfWrongLine, IsFirstWrongLine, IsNoLineOf, IsOutOfPlace, IsShut, IsWrongAfter, IsWrongLine, SpellsScript, closing, leaves_life_open, lines_in, lines_of, lines_of_life, lines_so_far, lines_with, script_line_of, script_lines}
use Rattle.command_line.specs.declared.script.Draft.{Draft}
use Rattle.command_line.specs.declared.script.Script.{Script}
use Rattle.command_line.specs.declared.script.ScriptFault.{ScriptFault}
use Rattle.command_line.specs.declared.script.ScriptFault.TheVariants.{BadGeometry}
use Rattle.command_line.specs.declared.script.ScriptLife.{ScriptLife}
use Rattle.command_line.specs.declared.script_line.ScriptLine.{ScriptLine}
use Rattle.command_line.specs.declared.script_line.ScriptLine.TheVariants as line

-- ---- lines that are read

pub read-none : AreReadAs [] []
read-none = ([], refl, refl)

pub read-more : (written : List Text) (lines now : List ScriptLine) (text : Text) (read : Option ScriptLine) → AreReadAs written lines → script_line_of text ≡ Some read
    → now ≡ lines ++ option_to_list read → AreReadAs (written ++ text ∷ []) now
read-more written lines now text read (each, spelled, are) is more = grind (arith, map-append script_line_of written (text ∷ []), map-append, flat_map-append option_to_list each (read ∷ []))

-- ---- lines that are added

lives-with : (before : List ScriptLife) (life : ScriptLife) → flat_map lines_of_life (before ++ life ∷ []) ≡ flat_map lines_of_life before ++ lines_of_life life
lives-with before life = flat_map-append lines_of_life before (life ∷ []) ∙ ap (λ l. flat_map lines_of_life before ++ l) (append-nil (lines_of_life life))

-- ---- lines that are out of place

-- if no life is open, the last line leaves none open
shut-last : (slots places window : ℕ) (lives : List ScriptLife) → IsShut lives
    → (earlier : List ScriptLine) × (last : ScriptLine) × (lines_with slots places window lives ≡ earlier ++ last ∷ []) × (leaves_life_open last ≡ false)
shut-last slots places window lives (inl none) = ([], line.Geometry slots places window, ap (lines_with slots places window) none, refl)
shut-last slots places window lives (inr (earlier, life, are, closes)) =
    let first = line.Geometry slots places window in
    let front = line.Life life.fuse life.keeps ∷ map (λ c. line.Command c) life.commands.items in
    let closed : lines_of_life life ≡ front ++ line.Close ∷ [] = ap (λ b. front ++ closing b) closes in (
      first ∷ (flat_map lines_of_life earlier ++ front),
      line.Close,
      ap (λ l. first ∷ l)
          (ap (flat_map lines_of_life) are
          ∙ (lives-with earlier life
          ∙ (ap (λ l. flat_map lines_of_life earlier ++ l) closed ∙ sym (append_assoc (flat_map lines_of_life earlier) front (line.Close ∷ []))))),
      refl,
    )

no-cons : {A : Type 0} (x : A) (xs : List A) → x ∷ xs ≢ []
no-cons x xs e = let size : suc (length xs) ≡ 0 = ap length e in absurd (omega (arith, size))

pub out-of-lives : (slots places window : ℕ) (lives : List ScriptLife) (one : ScriptLine) → IsNoLineOf lives one → IsOutOfPlace (lines_with slots places window lives) one
out-of-lives slots places window lives one (inl geometry) = inr (inl (no-cons _ _, geometry))
out-of-lives slots places window lives one (inr (within, shut)) = let last = shut-last slots places window lives shut in inr (inr (within, last.0, last.1, last.2, last.3))

-- ---- why a text isn't a script

pub wrong-by : (fault : ScriptFault) (P Q : ℕ → Type 0) → ((number : ℕ) → P number → Q number) → IfWrongLine P fault → IfWrongLine Q fault
wrong-by a b d says p = grind (arith)

pub geometry-by : (fault : ScriptFault) (P Q : Type 0) → (P → Q) → IfBadGeometry P fault → IfBadGeometry Q fault
geometry-by a b d says p = grind (arith)

-- the lines of a draft are a beginning of a script
begin-so : (draft : Option Draft) → BeginScript (lines_so_far draft)
begin-so a = grind (arith)

-- the line that follows those that were read
pub line-at : (text : Text) (yielded : List (Bor Text)) (line : Bor Text) (draft : Option Draft) (number : ℕ)
    → texts yielded ≡ take (length yielded) (script_lines text) → length yielded < length (script_lines text) → line.now ≡ get_or (script_lines text) (length yielded) line.now
    → AreReadAs (texts yielded) (lines_so_far draft) → number ≡ min (length yielded + 1) (2 ^ 64 - 1) → IsWrongAfter (lines_so_far draft) line.now → IsFirstWrongLine text number
line-at text yielded one draft number so_far there here reads counted wrong = grind (arith, split_at (script_lines text) (length yielded) one.now there, begin-so, length-map)

-- ---- the end of the text

-- all lines are those of the draft
pub all-read : (text : Text) (yielded : List (Bor Text)) (read : Option Draft) (draft : Draft) → read ≡ Some draft → texts yielded ≡ script_lines text
    → AreReadAs (texts yielded) (lines_so_far read) → AreReadAs (script_lines text) (lines_in draft)
all-read text yielded read draft is all reads =
    subst (λ (o : Option Draft). AreReadAs (script_lines text) (lines_so_far o)) is (subst (λ (written : List Text). AreReadAs written (lines_so_far read)) all reads)

pub no-line : (text : Text) (yielded : List (Bor Text)) (read : Option Draft) → read ≡ None → texts yielded ≡ script_lines text → AreReadAs (texts yielded) (lines_so_far read)
    → IsWrongLine text 1
no-line text yielded read is all reads =
    inr (subst (λ (o : Option Draft). AreReadAs (script_lines text) (lines_so_far o)) is (subst (λ (written : List Text). AreReadAs written (lines_so_far read)) all reads), refl)

-- ---- a draft that is finished

pub spelled-in : (text : Text) (draft : Draft) (r : Result Script ScriptFault) → AreReadAs (script_lines text) (lines_in draft)
    → IfOk r (λ script. lines_of script.geometry script.lives.items ≡ lines_in draft) → IfOk r (λ script. script.geometry.version ≡ plain_version)
    → IfOk r (λ script. SpellsScript text script.geometry script.lives.items)
spelled-in text draft a reads same newest = grind (arith)

-- the numbers of its image alone are wrong
outside-is : (draft : Draft) (fault : ScriptFault) → (fault ≡ BadGeometry) × (is_in_limits (layout_with plain_version draft.slots draft.places draft.window) ≡ false)
    → (P : ScriptFault → Type 0) → P BadGeometry → P fault
outside-is draft fault is P p = subst P (sym is.0) p

pub no-wrong-line : (draft : Draft) (Q : ℕ → Type 0) (r : Result Script ScriptFault)
    → IfErr r (λ fault. (fault ≡ BadGeometry) × (is_in_limits (layout_with plain_version draft.slots draft.places draft.window) ≡ false)) → IfErr r (IfWrongLine Q)
no-wrong-line draft a b is = grind (arith, outside-is)

pub outside-in : (text : Text) (draft : Draft) (r : Result Script ScriptFault) → AreReadAs (script_lines text) (lines_in draft)
    → IfErr r (λ fault. (fault ≡ BadGeometry) × (is_in_limits (layout_with plain_version draft.slots draft.places draft.window) ≡ false))
    → IfErr r (IfBadGeometry (HasBadGeometry text))
outside-in text draft a reads is = grind (arith, outside-is)
