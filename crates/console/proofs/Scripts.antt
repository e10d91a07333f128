-- How the lines of lives add up.
use Rattle.std.proofs.Common.{◌≡◌, ◌<◌, ◌+◌, ℕ, List, ◌∷◌, ◌++◌, length, drop, get_or, sym, ap, ◌∙◌, arith, append_assoc}
use Rattle.std.specs.Prelude.{Option, Result, OnOk}
use Rattle.std.specs.Io.KnownBytes.{Appends}
use Rattle.std.proofs.lemmas.List.{drop_more}
use Rattle.command_line.specs.Numbers.{Text}
use Rattle.lives.specs.declared.life.LifeReport.{LifeReport}
use Rattle.console.specs.Scripts.{life_text, lives_text}
use Rattle.console.proofs.Obeyed.{appends-more}

-- ---- the lives of a script

-- one more life is printed
pub lives-go-on : (said : Text) (i n : ℕ) (reports : List LifeReport) (report : LifeReport) (all : Text)
    → i < length reports → report ≡ get_or reports i report → said ++ lives_text n (drop i reports) ≡ all
    → (said ++ life_text n report) ++ lives_text (n + 1) (drop (i + 1) reports) ≡ all
lives-go-on said i n reports report all more is whole =
    let left : drop i reports ≡ report ∷ drop (i + 1) reports = drop_more reports i report more ∙ ap (λ r. r ∷ drop (i + 1) reports) (sym is) in
    append_assoc said (life_text n report) (lives_text (n + 1) (drop (i + 1) reports))
    ∙ (ap (λ l. said ++ l) (sym (ap (λ r. lives_text n r) left)) ∙ whole)

-- ---- what a last call prints

pub printed-last : {T E : Type 0} (r : Result T E) (old mid new : Option Text) (a b : Text) → Appends old mid a → OnOk r (Appends mid new b) → OnOk r (Appends old new (a ++ b))
printed-last d old mid new a b first last = grind (arith, appends-more)
