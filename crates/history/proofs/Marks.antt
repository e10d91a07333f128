-- What one step more leaves of the marks.
use Rattle.std.proofs.Common.{◌≡◌, ◌≢◌, ℕ, ◌<◌, ◌≤◌, Bool, true, false, nat_eq, List, [], ◌∷◌, ◌++◌, length, replicate, slice_index, slice_set, ◌⊎◌, inl, inr, refl, ap, sym, ◌∙◌, subst, arith, length-append, Some, None, drop}
use Rattle.std.specs.Prelude.{MatchBool}
use Rattle.std.specs.Bool.{OnTrue}
use Rattle.std.proofs.lemmas.List.{get_or-replicate, get_or-set_same, get_or-set_other, length-set, drop-append-le}
use Rattle.std.proofs.Math.Seq.{drop-append_seam}
use Rattle.std.proofs.lemmas.Bool.Decides.{eqb_tells}
use mathlib.Core.List.{IsPrefix}
use Rattle.base.specs.declared.step.Step.{Step}
use Rattle.machine.specs.Machine.{session_of}
use Rattle.session_laws.specs.Logs.{is_own, own, Follows, IsQuietSince}
use Rattle.session_laws.proofs.Logs.{own-append, mark-quiet, mark-other, mark-moved}
use Rattle.history.specs.Marks.{AreMarked}

nothing : (x y : List Step) → x ++ y ≡ [] → y ≡ []
nothing [] y is = is
nothing (x ∷ xs) y is = absurd (cc is)

-- a session is quiet since each later place too
later : (s at : ℕ) (seen more : List Step) → at ≤ length seen → IsQuietSince s at (seen ++ more) → IsQuietSince s (length seen) (seen ++ more)
later s at seen more le quiet = (
  omega (arith, length-append seen more),
  ap (own s) (drop-append_seam seen more) ∙ nothing (own s (drop at seen)) (own s more) (sym (own-append s (drop at seen) more) ∙ (ap (own s) (sym (drop-append-le at seen more le)) ∙ quiet.1)),
)

-- a mark that isn't behind the end of something seen tells that the session was quiet since
follows : (s at : ℕ) (seen log : List Step) → at ≤ length seen → IsPrefix seen log → IsQuietSince s at log → Follows s seen log
follows s at seen log le (more, whole) quiet =
    subst (Follows s seen) whole (mark-quiet s (length seen) seen more refl (later s at seen more le (subst (IsQuietSince s at) (sym whole) quiet)))

-- the test of a mark
pub follows-test : (s at n : ℕ) (last : List ℕ) (seen log front : List Step) (is : Bool) → at ≡ s → at < 64 → n ≡ length seen → slice_index last at ≤ n → AreMarked last front → front ≡ log → MatchBool is (IsPrefix seen front) (IsPrefix front seen)
    → OnTrue is (Follows s seen log)
follows-test s at n last seen log front true here few len low marked same begins =
    let le : slice_index last s ≤ length seen = subst (λ (k : ℕ). slice_index last k ≤ length seen) here (subst (λ (k : ℕ). slice_index last at ≤ k) len low) in
    subst (Follows s seen) same (follows s (slice_index last s) seen front le begins (marked.quiet s (subst (λ (k : ℕ). k < 64) here few)))
follows-test s at n last seen log front false here few len low marked same begins = tt

-- a step of no session is not its own
of_none : (s : ℕ) (step : Step) → session_of step ≡ None → is_own s step ≡ false
of_none s step is = rw is refl

of_session : (s n : ℕ) (step : Step) → session_of step ≡ Some n → is_own s step ≡ nat_eq s n
of_session s n step is = rw is refl

-- no mark moves with a step of no session
pub marked-none : (last : List ℕ) (log : List Step) (step : Step) → session_of step ≡ None → AreMarked last log → AreMarked last (log ++ step ∷ [])
marked-none last log step is marked = record { size = marked.size; quiet = λ s few. mark-other s (slice_index last s) log step (of_none s step is) (marked.quiet s few) }

differs : (s n : ℕ) → s < 64 → 64 ≤ n → ((nat_eq s n ≡ true) × (s ≡ n)) ⊎ ((nat_eq s n ≡ false) × (s ≢ n)) → nat_eq s n ≡ false
differs s n few many (inl same) = absurd (omega (arith, few, many, same.1))
differs s n few many (inr other) = other.0

-- nor with one under a number that is no session's
pub marked-far : (last : List ℕ) (log : List Step) (step : Step) (n : ℕ) → session_of step ≡ Some n → 64 ≤ n → AreMarked last log → AreMarked last (log ++ step ∷ [])
marked-far last log step n is many marked = record {
  size = marked.size;
  quiet = λ s few. mark-other s (slice_index last s) log step (of_session s n step is ∙ differs s n few many (eqb_tells s n)) (marked.quiet s few);
}

moves : (last : List ℕ) (log : List Step) (step : Step) (n at s : ℕ) → n < length last → at ≡ length (log ++ step ∷ []) → session_of step ≡ Some n → IsQuietSince s (slice_index last s) log
    → ((nat_eq s n ≡ true) × (s ≡ n)) ⊎ ((nat_eq s n ≡ false) × (s ≢ n)) → IsQuietSince s (slice_index (slice_set last n at) s) (log ++ step ∷ [])
moves last log step n at s low is owner quiet (inl same) =
    let here : slice_index (slice_set last n at) s ≡ length (log ++ step ∷ []) = ap (slice_index (slice_set last n at)) same.1 ∙ (get_or-set_same last n at 0 low ∙ is) in
    subst (λ (k : ℕ). IsQuietSince s k (log ++ step ∷ [])) (sym here) (mark-moved s (log ++ step ∷ []))
moves last log step n at s low is owner quiet (inr other) =
    let there : slice_index (slice_set last n at) s ≡ slice_index last s = get_or-set_other last n s at 0 other.1 in
    subst (λ (k : ℕ). IsQuietSince s k (log ++ step ∷ [])) (sym there) (mark-other s (slice_index last s) log step (of_session s n step owner ∙ other.0) quiet)

-- the mark of its session moves to the end
pub marked-own : (last : List ℕ) (log : List Step) (step : Step) (n at : ℕ) → session_of step ≡ Some n → n < 64 → at ≡ length (log ++ step ∷ []) → AreMarked last log → AreMarked (slice_set last n at) (log ++ step ∷ [])
marked-own last log step n at is low end marked = record {
  size = length-set last n at ∙ marked.size;
  quiet = λ s few. moves last log step n at s (omega (arith, marked.size, low)) end is (marked.quiet s few) (eqb_tells s n);
}

-- a history with no step has all marks at its start
pub marked-start : AreMarked (replicate 64 0) []
marked-start = record {
  size = refl;
  quiet = λ s few. subst (λ (k : ℕ). IsQuietSince s k []) (sym (get_or-replicate 64 s 0 0 few)) (mark-moved s []);
}
