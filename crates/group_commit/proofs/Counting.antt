-- What each tick of a cycle does, by how many were made.
use Rattle.std.proofs.Common.{◌≡◌, ◌≢◌, inl, inr, ℕ, zero, suc, ◌+◌, ◌<◌, Bool, true, cond, List, [], ◌∷◌, length, find, Option, Some, None, refl, sym, ◌∙◌, ap, subst, arith}
use Rattle.std.specs.Prelude.{slice_get, nat_le}
use Rattle.std.proofs.lemmas.Bool.{and_parts, ltb-true, le-leb, cases_lt, lt-leb}
use Rattle.std.proofs.lemmas.Option.{slice_get_within, slice_get_past, slice_get-get_or}
use Rattle.base.specs.Records.{are_rising}
use Rattle.log_area.specs.declared.stage.WritingStage.{WritingStage}
use Rattle.log_area.specs.declared.stage.WritingStage.TheVariants.{StoreBody, FlushBody, FenceBody, StoreGate, FlushGate, FenceGate, Done}
use Rattle.log_area.specs.Stages.{IsStage, reached_by, operations_before}
use Rattle.log_area.specs.Writings.{advanced, operation_of}
use Rattle.base.specs.declared.step.Stage.TheVariants.{LineFlushed, LinesFenced}
use Rattle.base.specs.Actors.{committer}
use Rattle.base.proofs.Lists.{rising-rest}
use Rattle.pmem.specs.Trace.{flush_op, fence_op}
use Rattle.log_area.proofs.Stages.{operations-next, staged-next}
use Rattle.group_commit.specs.declared.stage.CycleStage.{CycleStage}
use Rattle.group_commit.specs.declared.stage.CycleStage.TheVariants.{FlushLines, WriteRecord}
use Rattle.group_commit.specs.Cycles.{Cycling, flush_or_fence, flushed_or_fenced, next_at, operation_at, reached_at, ticked_at}
use Rattle.group_commit.specs.Laws.{IsCut, IsAt, IsAfter, TicksAreCounted}

-- ---- lines

cut-rest : (x : ℕ) (xs : List ℕ) (flushed from : ℕ) → IsCut (x ∷ xs) (suc flushed) from → IsCut xs flushed from
cut-rest x xs flushed from cut = record {
  within = omega (arith, cut.within);
  below = λ i line less at. cut.below (suc i) line (omega (arith, less)) at;
  others = λ i line le at. cut.others (suc i) line (omega (arith, le)) at;
}

-- the first line that isn't below is the next one
pub find-cut : (lines : List ℕ) (flushed from : ℕ) → IsCut lines flushed from → find (nat_le from) lines ≡ slice_get lines flushed
find-cut [] flushed from cut = refl
find-cut (x ∷ xs) zero from cut = ap (λ (b : Bool). cond b (Some x) (find (nat_le from) xs)) (le-leb from x (cut.others 0 x (omega arith) refl))
find-cut (x ∷ xs) (suc flushed) from cut =
    ap (λ (b : Bool). cond b (Some x) (find (nat_le from) xs)) (lt-leb from x (cut.below 0 x (omega arith) refl)) ∙ find-cut xs flushed from (cut-rest x xs flushed from cut)

-- rising lines are above the first
above-first : (x : ℕ) (xs : List ℕ) (i line : ℕ) → are_rising (x ∷ xs) ≡ true → slice_get xs i ≡ Some line → x < line
above-first x [] i line rising at = absurd (cc at)
above-first x (y ∷ xs) zero line rising at = grind (arith, and_parts, ltb-true)
above-first x (y ∷ xs) (suc i) line rising at = grind (arith, and_parts, ltb-true, above-first y xs i line)

later-above : (lines : List ℕ) (i j a b : ℕ) → are_rising lines ≡ true → i < j → slice_get lines i ≡ Some a → slice_get lines j ≡ Some b → a < b
later-above [] i j a b rising less at_i at_j = absurd (cc at_i)
later-above (x ∷ xs) i zero a b rising less at_i at_j = absurd (omega (arith, less))
later-above (x ∷ xs) zero (suc j) a b rising less at_i at_j = let same : x ≡ a = cc at_i in omega (arith, same, above-first x xs j b rising at_j)
later-above (x ∷ xs) (suc i) (suc j) a b rising less at_i at_j = later-above xs i j a b (rising-rest x xs rising) (omega (arith, less)) at_i at_j

-- the next line is flushed
pub cut-next : (lines : List ℕ) (flushed from line : ℕ) → are_rising lines ≡ true → IsCut lines flushed from → slice_get lines flushed ≡ Some line → IsCut lines (flushed + 1) (line + 1)
cut-next lines flushed from line rising cut at = grind (arith, slice_get_within, cases_lt, later-above) steps 800000

-- none is left
pub cut-whole : (lines : List ℕ) (flushed from : ℕ) → IsCut lines flushed from → slice_get lines flushed ≡ None → flushed ≡ length lines
cut-whole lines flushed from cut none = elim (cases_lt flushed (length lines)) [
  | inl less ↦ (let clash = sym none ∙ slice_get-get_or lines flushed 0 less in absurd (cc clash))
  | inr all ↦ omega (arith, all, cut.within)
]

-- ---- the writing

few : (stage : WritingStage) → IsStage stage → stage ≢ Done → operations_before stage < 39
few (StoreBody w) is un = omega (arith, is.0, is.1)
few (FlushBody line) is un = omega (arith, is)
few FenceBody is un = omega arith
few StoreGate is un = omega arith
few FlushGate is un = omega arith
few FenceGate is un = omega arith
few Done is un = absurd (un refl)

-- ---- a tick

module _ (lines : List ℕ) (cycle : Cycling) where
  next : (ticks : ℕ) → are_rising lines ≡ true → cycle.writing.stage ≢ Done → (s : CycleStage) → cycle.stage ≡ s → IsAt lines ticks cycle.writing s → IsAfter lines (ticks + 1) (ticked_at lines cycle s)
  next ticks rising un (FlushLines flushed from) same at = subst (λ (o : Option ℕ). IsAt lines (ticks + 1) cycle.writing (next_at flushed o)) (sym (find-cut lines flushed from at.1)) (by_line (slice_get lines flushed) refl)
    where
      by_line : (o : Option ℕ) → slice_get lines flushed ≡ o → IsAt lines (ticks + 1) cycle.writing (next_at flushed o)
      by_line (Some line) is = (omega (arith, at.0), cut-next lines flushed from line rising at.1 is, at.2)
      by_line None is =
          let none : operations_before cycle.writing.stage ≡ 0 = ap operations_before at.2 in
          (omega (arith, at.0, cut-whole lines flushed from at.1 is, none), subst IsStage (sym at.2) (omega arith, omega arith))
  next ticks rising un WriteRecord same at =
      subst (IsAt lines (ticks + 1) (advanced cycle.writing)) (sym same) (omega (arith, at.0, operations-next cycle.writing.stage at.1 un), staged-next cycle.writing.stage at.1)

  line-at : (i line : ℕ) (s : CycleStage) → IsAt lines (1 + i) cycle.writing s → slice_get lines i ≡ Some line → (operation_at lines cycle.writing s ≡ flush_op committer line) × (reached_at lines cycle.writing s ≡ Some (LineFlushed i))
  line-at i line WriteRecord at is = absurd (omega (arith, at.0, slice_get_within lines i line is))
  line-at i line (FlushLines flushed from) at is = grind (arith, find-cut)

  fence-at : (s : CycleStage) → IsAt lines (1 + length lines) cycle.writing s → (operation_at lines cycle.writing s ≡ fence_op committer) × (reached_at lines cycle.writing s ≡ Some LinesFenced)
  fence-at WriteRecord at = absurd (omega (arith, at.0))
  fence-at (FlushLines flushed from) at =
      let same : flushed ≡ length lines = omega (arith, at.0) in
      let found : find (nat_le from) lines ≡ None = find-cut lines flushed from at.1 ∙ slice_get_past lines flushed (omega (arith, same)) in
      (ap flush_or_fence found, ap (flushed_or_fenced flushed) found)

  writes-at : (ticks : ℕ) (s : CycleStage) → IsAt lines ticks cycle.writing s → 1 + length lines < ticks
      → (ticks ≡ 2 + length lines + operations_before cycle.writing.stage) × (operation_at lines cycle.writing s ≡ operation_of cycle.writing) × (reached_at lines cycle.writing s ≡ reached_by cycle.writing.stage)
  writes-at ticks (FlushLines flushed from) at more = absurd (omega (arith, at.0, at.1.within, more))
  writes-at ticks WriteRecord at more = (at.0, refl, refl)

  last-at : (ticks : ℕ) (s : CycleStage) → IsAt lines ticks cycle.writing s → cycle.writing.stage ≡ Done → ticks ≡ length lines + 41
  last-at ticks (FlushLines flushed from) at done = let clash : StoreBody 1 ≡ Done = sym at.2 ∙ done in absurd (cc clash)
  last-at ticks WriteRecord at done = let all : operations_before cycle.writing.stage ≡ 39 = ap operations_before done in omega (arith, at.0, all)

  before-at : (ticks : ℕ) (s : CycleStage) → IsAt lines ticks cycle.writing s → cycle.writing.stage ≢ Done → ticks < length lines + 41
  before-at ticks (FlushLines flushed from) at un = omega (arith, at.0, at.1.within)
  before-at ticks WriteRecord at un = omega (arith, at.0, few cycle.writing.stage at.1 un)

pub ticks-are_counted : TicksAreCounted
ticks-are_counted = record {
  begins = λ lines cycle stage writing. subst (IsAt lines 1 cycle.writing) (sym stage) (refl, record { within = omega arith; below = λ i line less at. absurd (omega (arith, less)); others = λ i line le at. omega arith }, writing);
  goes_on = λ lines ticks cycle rising un at. next lines cycle ticks rising un cycle.stage refl at;
  line = λ lines cycle i line at is. line-at lines cycle i line cycle.stage at is;
  fence = λ lines cycle at. fence-at lines cycle cycle.stage at;
  writes = λ lines ticks cycle at more. writes-at lines cycle ticks cycle.stage at more;
  last = λ lines ticks cycle at done. last-at lines cycle ticks cycle.stage at done;
  before = λ lines ticks cycle at un. before-at lines cycle ticks cycle.stage at un;
}
