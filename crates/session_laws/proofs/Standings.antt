-- A commit all of whose keys are stamped stays so until it is covered.
use Rattle.std.proofs.Common.{◌≡◌, ◌≢◌, ◌⊎◌, inl, inr, ℕ, Bool, true, false, cond, not, ◌&&◌, ◌||◌, List, [], ◌∷◌, ◌++◌, map, refl, sym, ◌∙◌, ap, Option, Some, None, nat_eq, true≢false, ◌+◌}
use Rattle.std.specs.Prelude.{filter}
use Rattle.std.specs.List.{list_any}
use Rattle.std.proofs.lemmas.Bool.{and_parts, eqb-true, ne_eqb, cases_eq, or_left, or_right}
use Rattle.std.proofs.lemmas.List.Folds.{list_any-append}
use Rattle.base.specs.declared.step.Step.{Step}
use Rattle.base.specs.declared.step.Step.TheVariants.{Begin, Get, Scan, Put, Delete, Draw, Stamp, Poll, Abort, End, Commit as CommitTick, Collect}
use Rattle.base.specs.declared.step.Stage.{Stage}
use Rattle.base.specs.Commits.{Commit, Writes}
use Rattle.base.specs.Stands.{has_timestamp}
use Rattle.base.proofs.Lists.{any-map, any-same}
use Rattle.machine.specs.Machine.{State, Drew, Drawn, Hand, IsDrawn, IsStamped, IsCovered, standing_of, is_stamped, refusal, next_state, state_ticked, state_ticked_on, state_drawn, state_covered, next_stage, is_idle, taken_in_hand, writes_of, timestamp_of, counted}
use Rattle.machine.proofs.Growth.{stays-in}
use Rattle.machine.proofs.collector.Visits.{visit-changes}
use Rattle.state_invariant.proofs.steps.Refusals.{allowed, stamping}
use Rattle.session_laws.specs.Logs.{state_after, AreMade}
use Rattle.session_laws.specs.Laws.{GoesOn}
use Rattle.session_laws.proofs.Sessions.{grows}

-- the drawn commit has this timestamp and all its keys are stamped
abbrev is_whole : ℕ → Drawn → Bool
is_whole t d = nat_eq d.commit.timestamp t && is_stamped d

-- one of the drawn commits is that
abbrev has_whole : State → ℕ → Bool
has_whole q t = list_any (is_whole t) q.drawn

-- it is still there, or it is covered
abbrev Waits : State → ℕ → Type 0
Waits q t = (has_whole q t ≡ true) ⊎ (has_timestamp q.history t ≡ true)

-- ---- a stamp of another commit

counted-apart : (t u : ℕ) (d : Drawn) → u ≢ t → is_whole t (counted u d) ≡ is_whole t d
counted-apart t u d apart = by (nat_eq d.commit.timestamp u) refl
  where
    by : (b : Bool) → nat_eq d.commit.timestamp u ≡ b → is_whole t (cond b (record { commit = d.commit; stamped = d.stamped + 1 }) d) ≡ is_whole t d
    by false is = refl
    by true is =
        let other : nat_eq d.commit.timestamp t ≡ false = ne_eqb d.commit.timestamp t (λ e. apart (sym (eqb-true d.commit.timestamp u is) ∙ e)) in
        ap (λ (b : Bool). b && is_stamped (record { commit = d.commit; stamped = d.stamped + 1 })) other ∙ sym (ap (λ (b : Bool). b && is_stamped d) other)

waits-stamp : (q : State) (n t : ℕ) → refusal q (Stamp n) ≡ None → has_whole q t ≡ true → Waits (next_state q (Stamp n)) t
waits-stamp q n t none whole = by (cases_eq s.0 t)
  where
    s : (u : ℕ) × (q.sessions n ≡ Some (Drew u)) × (has_timestamp q.history u ≡ false) × (list_any (λ d. nat_eq d.commit.timestamp u && is_stamped d) q.drawn ≡ false)
    s = stamping q n (q.sessions n) (allowed q (Stamp n) none).there (allowed q (Stamp n) none).placed

    by : (s.0 ≡ t) ⊎ (s.0 ≢ t) → (list_any (is_whole t) (map (counted (timestamp_of (q.sessions n))) q.drawn) ≡ true) ⊎ (has_timestamp q.history t ≡ true)
    by (inl same) = absurd (true≢false (sym whole ∙ ap (has_whole q) (sym same) ∙ s.3))
    by (inr apart) =
        let its : timestamp_of (q.sessions n) ≢ t = λ e. apart (sym (ap timestamp_of s.1) ∙ e) in
        inl (any-map (is_whole t) (counted (timestamp_of (q.sessions n))) q.drawn
        ∙ any-same (λ (d : Drawn). is_whole t (counted (timestamp_of (q.sessions n)) d)) (is_whole t) q.drawn (λ d. counted-apart t (timestamp_of (q.sessions n)) d its)
        ∙ whole)

-- ---- a draw, and a batch that is covered

waits-drawn : (q : State) (n t : ℕ) (writes : Writes) → has_whole q t ≡ true → Waits (state_drawn q n writes) t
waits-drawn q n t [] whole = inl whole
waits-drawn q n t (write ∷ writes) whole = inl (list_any-append (is_whole t) q.drawn _ ∙ or_left (has_whole q t) _ whole)

any-filtered : (p f : Drawn → Bool) (ds : List Drawn) → ((d : Drawn) → p d ≡ true → f d ≡ true) → list_any p ds ≡ true → list_any p (filter f ds) ≡ true
any-filtered p f [] each any = any
any-filtered p f (d ∷ ds) each any = by (any-filtered p f ds each) (p d) refl any (f d) refl
  where
    by : (list_any p ds ≡ true → list_any p (filter f ds) ≡ true) → (b : Bool) → p d ≡ b → (b || list_any p ds) ≡ true → (c : Bool) → f d ≡ c → list_any p (cond c (d ∷ filter f ds) (filter f ds)) ≡ true
    by more true is any true keeps = or_left (p d) (list_any p (filter f ds)) is
    by more true is any false drops = absurd (true≢false (sym (each d is) ∙ drops))
    by more false is any true keeps = or_right (p d) (list_any p (filter f ds)) (more any)
    by more false is any false drops = more any

waits-covered : (q : State) (hand : Hand) (t : ℕ) → has_whole q t ≡ true → Waits (state_covered q hand) t
waits-covered q hand t whole = by (has_timestamp hand.commits t) refl
  where
    by : (b : Bool) → has_timestamp hand.commits t ≡ b
        → (list_any (is_whole t) (filter (λ d. not (has_timestamp hand.commits d.commit.timestamp)) q.drawn) ≡ true) ⊎ (has_timestamp (q.history ++ hand.commits) t ≡ true)
    by true has = inr (list_any-append (λ (c : Commit). nat_eq c.timestamp t) q.history hand.commits ∙ or_right (has_timestamp q.history t) (has_timestamp hand.commits t) has)
    by false out =
        inl (any-filtered (is_whole t) (λ d. not (has_timestamp hand.commits d.commit.timestamp)) q.drawn
        (λ d is. ap (λ (u : ℕ). not (has_timestamp hand.commits u)) (eqb-true d.commit.timestamp t (and_parts (nat_eq d.commit.timestamp t) (is_stamped d) is).0) ∙ ap not out) whole)

waits-ticked_on : (q : State) (hand : Hand) (stage : Option Stage) (t : ℕ) → has_whole q t ≡ true → Waits (state_ticked_on q hand stage) t
waits-ticked_on q hand (Some stage) t whole = inl whole
waits-ticked_on q hand None t whole = waits-covered q hand t whole

waits-ticked : (q : State) (hand : Option Hand) (t : ℕ) → has_whole q t ≡ true → Waits (state_ticked q hand) t
waits-ticked q None t whole = by (is_idle q)
  where
    by : (b : Bool) → Waits (cond b q (record q { hand = Some (taken_in_hand q) })) t
    by true = inl whole
    by false = inl whole
waits-ticked q (Some hand) t whole = waits-ticked_on q hand (next_stage q hand) t whole

-- ---- a step

waits-next : (q : State) (step : Step) (t : ℕ) → refusal q step ≡ None → has_whole q t ≡ true → Waits (next_state q step) t
waits-next q Begin t none whole = inl whole
waits-next q (Get n key) t none whole = inl whole
waits-next q (Scan n table lo hi) t none whole = inl whole
waits-next q (Put n key row) t none whole = inl whole
waits-next q (Delete n key) t none whole = inl whole
waits-next q (Draw n) t none whole = waits-drawn q n t (writes_of (q.sessions n)) whole
waits-next q (Stamp n) t none whole = waits-stamp q n t none whole
waits-next q (Poll n) t none whole = inl whole
waits-next q (Abort n) t none whole = inl whole
waits-next q (End n) t none whole = inl whole
waits-next q CommitTick t none whole = waits-ticked q q.hand t whole
waits-next q Collect t none whole = inl (ap (list_any (is_whole t)) (visit-changes q).drawn ∙ whole)

-- ---- a log

waits-log : (q : State) (log : List Step) (t : ℕ) → AreMade q log → Waits q t → Waits (state_after q log) t
waits-log q log t m (inr covered) = inr (stays-in q.history (state_after q log) t (grows q log m) covered)
waits-log q [] t m (inl whole) = inl whole
waits-log q (step ∷ log) t m (inl whole) = waits-log (next_state q step) log t m.1 (waits-next q step t m.0 whole)

-- in which state it is
standing-of : (q : State) (t : ℕ) → Waits q t → (standing_of q (Drew t) ≡ IsStamped) ⊎ (standing_of q (Drew t) ≡ IsCovered)
standing-of q t waits = by (has_timestamp q.history t) refl (has_whole q t) refl waits
  where
    by : (covered : Bool) → has_timestamp q.history t ≡ covered → (whole : Bool) → has_whole q t ≡ whole → (whole ≡ true) ⊎ (covered ≡ true)
        → (cond covered IsCovered (cond whole IsStamped IsDrawn) ≡ IsStamped) ⊎ (cond covered IsCovered (cond whole IsStamped IsDrawn) ≡ IsCovered)
    by true c whole w either = inr refl
    by false c true w either = inl refl
    by false c false w (inl e) = absurd (true≢false (sym e))
    by false c false w (inr e) = absurd (true≢false (sym e))

waits-if : (q : State) (t : ℕ) → standing_of q (Drew t) ≡ IsStamped → Waits q t
waits-if q t is = by (has_timestamp q.history t) refl (has_whole q t) refl is
  where
    by : (covered : Bool) → has_timestamp q.history t ≡ covered → (whole : Bool) → has_whole q t ≡ whole → cond covered IsCovered (cond whole IsStamped IsDrawn) ≡ IsStamped → Waits q t
    by true c whole w e = inr c
    by false c true w e = inl w
    by false c false w e = absurd (cc e)

covered-if : (q : State) (t : ℕ) → standing_of q (Drew t) ≡ IsCovered → has_timestamp q.history t ≡ true
covered-if q t is = by (has_timestamp q.history t) refl (has_whole q t) refl is
  where
    by : (covered : Bool) → has_timestamp q.history t ≡ covered → (whole : Bool) → has_whole q t ≡ whole → cond covered IsCovered (cond whole IsStamped IsDrawn) ≡ IsCovered → has_timestamp q.history t ≡ true
    by true c whole w e = c
    by false c true w e = absurd (cc e)
    by false c false w e = absurd (cc e)

pub goes-on : (q : State) (t : ℕ) (log : List Step) → AreMade q log → GoesOn q (state_after q log) t
goes-on q t log m = record {
  stamped = λ is. standing-of (state_after q log) t (waits-log q log t m (waits-if q t is));
  covered = λ is. ap (λ (b : Bool). cond b IsCovered (cond (has_whole (state_after q log) t) IsStamped IsDrawn)) (stays-in q.history (state_after q log) t (grows q log m) (covered-if q t is));
}
