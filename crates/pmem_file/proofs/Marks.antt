-- Lines that are marked, and listed.
use Rattle.std.proofs.Common.{◌≡◌, ◌≢◌, ℕ, suc, ◌+◌, ◌<◌, Bool, true, false, ◌||◌, if◌then◌else◌, ◌==◌, List, [], ◌∷◌, ◌++◌, length, drop, set, get_or, refl, sym, ◌∙◌, ap, subst, arith, nat_eq}
use Rattle.std.proofs.Common.{drop-cons, add-one}
use Rattle.std.proofs.lemmas.Bool.{or_left, or_right, or_cases, or_parts, eq-eqb, true≢false}
use Rattle.std.proofs.lemmas.Bool.Decides.{nat_tests}
use Rattle.std.proofs.lemmas.List.{get_or-set_same, get_or-set_other}
use Rattle.journal.specs.Changes.{is_listed}
use Rattle.pmem_file.specs.Journaled.{is_gate_line}
use Rattle.pmem_file.specs.Changed.{is_change, is_plain_change, is_marked, is_plain, mark_of, AreMarked, Unmarks}
use Rattle.pmem_file.specs.declared.changed.Mark.{Mark}
use Rattle.pmem_file.specs.declared.changed.Mark.TheVariants.{Unchanged, Plain, Gates}

pub listed-last : (lines : List ℕ) (line : ℕ) → is_listed (lines ++ line ∷ []) line ≡ true
listed-last [] line = or_left (line == line) false (eq-eqb line line refl)
listed-last (first ∷ lines) line = or_right (first == line) (is_listed (lines ++ line ∷ []) line) (listed-last lines line)

pub listed-before : (lines : List ℕ) (line other : ℕ) → is_listed lines other ≡ true → is_listed (lines ++ line ∷ []) other ≡ true
listed-before [] line other is = absurd (true≢false (sym is))
listed-before (first ∷ lines) line other is = grind (arith, or_cases, or_left, or_right, listed-before lines line other)

-- a line is added and marked
pub marked-more : (places : ℕ) (lines : List ℕ) (marks : List Mark) (line : ℕ) → line < length marks → AreMarked places lines marks → AreMarked places (lines ++ line ∷ []) (set marks line (mark_of places line))
marked-more places lines marks line lt are = record {
  listed = λ other is. by_line other is (nat_eq other line) refl;
  plain = λ other is. plain_by other is (nat_eq other line) refl;
}
  where
    mark : Mark
    mark = mark_of places line

    apart : (other : ℕ) → nat_eq other line ≡ false → get_or (set marks line mark) other Unchanged ≡ get_or marks other Unchanged
    apart other it = let differs : other ≢ line = grind (arith, nat_tests) in get_or-set_other marks line other mark Unchanged differs

    by_line : (other : ℕ) → is_marked (set marks line mark) other ≡ true → (b : Bool) → nat_eq other line ≡ b → is_listed (lines ++ line ∷ []) other ≡ true
    by_line other is true it = let same : line ≡ other = grind (arith, nat_tests) in subst (λ (n : ℕ). is_listed (lines ++ line ∷ []) n ≡ true) same (listed-last lines line)
    by_line other is false it = listed-before lines line other (are.listed other (ap is_change (sym (apart other it)) ∙ is))

    of_plain : (gates : Bool) → is_plain_change (if gates then Gates else Plain) ≡ true → gates ≡ false
    of_plain true is = absurd (true≢false (sym is))
    of_plain false is = refl

    plain_by : (other : ℕ) → is_plain (set marks line mark) other ≡ true → (b : Bool) → nat_eq other line ≡ b → is_gate_line places other ≡ false
    plain_by other is true it =
        let same : line ≡ other = grind (arith, nat_tests) in
        let here : get_or (set marks line mark) other Unchanged ≡ mark = subst (λ (n : ℕ). get_or (set marks line mark) n Unchanged ≡ mark) same (get_or-set_same marks line mark Unchanged lt) in
        subst (λ (n : ℕ). is_gate_line places n ≡ false) same (of_plain (is_gate_line places line) (ap is_plain_change (sym here) ∙ is))
    plain_by other is false it = are.plain other (ap is_plain_change (sym (apart other it)) ∙ is)

-- what is marked once the first lines aren't any more
pub record Left (lines : List ℕ) (before now : List Mark) (at : ℕ) : Type 0 where
  pub each : (other : ℕ) → is_marked now other ≡ true → (is_marked before other ≡ true) × (is_listed lines other ≡ is_listed (drop at lines) other)
  pub plain : (other : ℕ) → is_plain now other ≡ true → is_plain before other ≡ true
  pub size : length now ≡ length before

pub left-next : (lines : List ℕ) (before now after : List Mark) (at line : ℕ) → at < length lines → line ≡ get_or lines at 0 → Left lines before now at → Unmarks (line ∷ []) now after → length after ≡ length now → Left lines before after (at + 1)
left-next lines before now after at line lt is left unmarks same = record {
  each = λ other marked.
      let was = unmarks.marked other marked in
      let l = left.each other was.0 in
      let apart : (get_or lines at 0 == other) ≡ false = subst (λ (n : ℕ). (n == other) ≡ false) is (or_parts (line == other) false was.1).0 in
      (l.0, l.1 ∙ ap (λ (ns : List ℕ). is_listed ns other) (drop-cons lines at 0 lt) ∙ ap (λ (b : Bool). b || is_listed (drop (suc at) lines) other) apart ∙ ap (λ (n : ℕ). is_listed (drop n lines) other) (sym (add-one at)));
  plain = λ other is. left.plain other (unmarks.plain other is);
  size = same ∙ left.size;
}

-- no mark is left where each was listed
pub none-left : (places : ℕ) (lines : List ℕ) (old new : List Mark) → AreMarked places lines old → Unmarks lines old new → AreMarked places [] new
none-left places lines old new are unmarks = grind (arith, true≢false)
