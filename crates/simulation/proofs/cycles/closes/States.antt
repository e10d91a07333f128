-- From which state closing goes on, after a tick or a stamp.
use Rattle.std.proofs.Common.{◌≡◌, ◌⊎◌, inl, inr, ℕ, ◌+◌, ◌-◌, Bool, true, false, not, ◌||◌, List, [], ◌∷◌, ◌++◌, map, filter, refl, sym, ◌∙◌, ap, subst, arith, append_assoc, true≢false}
use Rattle.std.specs.Prelude.{Option, Some, Contains, if◌then◌else◌}
use Rattle.std.proofs.lemmas.Bool.{or_left}
use Rattle.std.proofs.lemmas.List.Folds.{list_any-append}
use Rattle.std.proofs.lemmas.List.Elements.{Contains-append_cases}
use Rattle.base.specs.declared.gap.Gap.{Gap}
use Rattle.base.specs.declared.step.Reply.{Reply}
use Rattle.base.specs.declared.step.Step.TheVariants.{Stamp, Commit as CommitTick}
use Rattle.base.specs.Commits.{Commit}
use Rattle.base.specs.Images.{Image, ruling}
use Rattle.base.specs.Records.{is_committed}
use Rattle.base.specs.Stands.{has_timestamp}
use Rattle.machine.specs.Machine.{State, Cover, Drawn, Hand, Stepped, next_state, state_covered, present, covers_at, closed, uncovered, in_hand, drawn_of, timestamp_of, StandsUnder, StandsWithin, StandsClosing}
use Rattle.base.proofs.Lists.{filter-all}
use Rattle.machine.proofs.stamps.Drawn.{counted-commits}
use Rattle.state_invariant.specs.Kept.{KeepsHand}
use Rattle.state_invariant.proofs.Lists.{all-filtered}
use Rattle.device_invariant.specs.Laws.{one_tick_on}
use Rattle.device_invariant.proofs.Upheld.{stands-in_hand}
use Rattle.simulation.specs.cycles.Closing.{ClosesAs}
use Rattle.simulation.specs.cycles.Laws.{ClosesOn}
use Rattle.simulation.proofs.cycles.closes.Covers.{one-is, among, at-first, second-at, closing-last, within-closing, within-same}
use Rattle.simulation.proofs.cycles.covers.Ticks.{refusal-in_hand}

-- what is drawn, covered and pending stays
closes-same : (q q' : State) → q'.layout ≡ q.layout → drawn_of q' ≡ drawn_of q → q'.next ≡ q.next → covers_at q' ≡ covers_at q → closed q' ≡ closed q → ClosesAs q q'
closes-same q q' layout drawn next covers last = grind arith

-- ---- a tick

tick-on : (q : State) (hand : Hand) → q.hand ≡ Some hand → ClosesAs q (one_tick_on q hand)
tick-on q hand in_hand = subst (λ (h : Option Hand). ClosesAs (record q { hand = h }) (one_tick_on q hand)) (sym in_hand) (record {
  number = refl;
  within = λ image s. (s.0, s.1, record { stands = s.2.stands; ruled = s.2.ruled; laid_out = s.2.laid_out });
  after_it = λ image s. record { stands = s.stands; ruled = s.ruled; laid_out = s.laid_out };
})

tick-on_within : (q : State) (hand : Hand) → q.hand ≡ Some hand → (image : Image) → StandsWithin q (one_tick_on q hand) image → StandsClosing q image
tick-on_within q hand in_hand = within-closing q (one_tick_on q hand) (λ cover c. among (covers_at q) (present (state_covered q hand)) cover (second-at q hand in_hand) c) (at-first q)

-- the batch is covered
tick-covers_within : (q : State) (hand : Hand) → q.hand ≡ Some hand → (image : Image) → StandsWithin q (state_covered q hand) image → StandsClosing q image
tick-covers_within q hand in_hand = within-closing q (state_covered q hand) (λ cover c. absurd (omega (arith, c.1))) (second-at q hand in_hand)

filter-drawn : (p : Commit → Bool) (ds : List Drawn) → map (λ (d : Drawn). d.commit) (filter (λ (d : Drawn). p d.commit) ds) ≡ filter p (map (λ (d : Drawn). d.commit) ds)
filter-drawn p [] = refl
filter-drawn p (d ∷ ds) = grind (arith, filter-drawn p ds)

-- the gaps are as they were, or are dropped once they are swept
gaps-dropped : (q : State) (gaps : List Gap) → (gaps ≡ q.ruling.gaps) ⊎ ((q.swept ≡ true) × (gaps ≡ [])) → (if q.swept then [] else gaps) ≡ (if q.swept then [] else q.ruling.gaps)
gaps-dropped q gaps a = grind (arith)

-- closing covers the same commits, under the same record
closed-covered : (q : State) (hand : Hand) → KeepsHand q hand → closed (state_covered q hand) ≡ closed (record q { hand = Some hand })
closed-covered q hand k = λ i. record {
  ruled_by = record { gate = number i; persisted = q.next - 1; dirty = q.next; gaps = gaps-dropped q hand.target.gaps k.gaps i; longs = [] };
  commits = listed i;
}
  where
    number : hand.target.gate + 1 ≡ q.ruling.gate + 2
    number = omega (arith, k.gate)

    rest : uncovered (state_covered q hand) ≡ filter (λ (c : Commit). not (has_timestamp hand.commits c.timestamp)) (drawn_of q)
    rest = filter-all (drawn_of (state_covered q hand)) ∙ filter-drawn (λ (c : Commit). not (has_timestamp hand.commits c.timestamp)) q.drawn

    listed : (q.history ++ hand.commits) ++ uncovered (state_covered q hand) ≡ q.history ++ (hand.commits ++ filter (λ (c : Commit). not (has_timestamp hand.commits c.timestamp)) (drawn_of q))
    listed = ap (λ (cs : List Commit). (q.history ++ hand.commits) ++ cs) rest ∙ append_assoc q.history hand.commits (filter (λ (c : Commit). not (has_timestamp hand.commits c.timestamp)) (drawn_of q))

-- if the batch's commits are covered, the state before may say so too
under-covered : (q : State) (hand : Hand) (more : List Commit) (cover : Cover) (image : Image) → cover.commits ≡ (q.history ++ hand.commits) ++ more → StandsUnder (state_covered q hand) cover image → StandsUnder q cover image
under-covered q hand more cover image is s = record {
  stands = record {
    sound = s.stands.sound;
    tables = s.stands.tables;
    covered = s.stands.covered;
    left_out = all-filtered (λ (c : Commit). has_timestamp cover.commits c.timestamp || not (is_committed (ruling image) c.timestamp)) (λ (d : Drawn). d.commit) (λ (d : Drawn). has_timestamp hand.commits d.commit.timestamp) q.drawn
        (λ d in_batch. or_left (has_timestamp cover.commits d.commit.timestamp) (not (is_committed (ruling image) d.commit.timestamp)) (has d.commit.timestamp in_batch))
        s.stands.left_out;
    reserved = s.stands.reserved;
  };
  ruled = s.ruled;
  laid_out = s.laid_out;
}
  where
    has : (t : ℕ) → has_timestamp hand.commits t ≡ true → has_timestamp cover.commits t ≡ true
    has t in_batch = grind (arith, list_any-append)

tick-covers : (q : State) (hand : Hand) → q.hand ≡ Some hand → KeepsHand q hand → ClosesAs q (state_covered q hand)
tick-covers q hand in_hand k = record {
  number = ap (λ (c : Cover). c.ruled_by.gate) is_closed;
  within = λ image s. by image s.0 s.2 (Contains-append_cases (covers_at (state_covered q hand)) (closed (state_covered q hand) ∷ []) s.0 s.1);
  after_it = λ image s. last image s;
}
  where
    is_closed : closed (state_covered q hand) ≡ closed q
    is_closed = closed-covered q hand k ∙ ap (λ (h : Option Hand). closed (record q { hand = h })) (sym in_hand)

    last : (image : Image) → StandsUnder (state_covered q hand) (closed (state_covered q hand)) image → StandsUnder q (closed q) image
    last image s = subst (λ (c : Cover). StandsUnder q c image) is_closed (under-covered q hand (uncovered (state_covered q hand)) (closed (state_covered q hand)) image refl s)

    by : (image : Image) (cover : Cover) → StandsUnder (state_covered q hand) cover image → Contains (covers_at (state_covered q hand)) cover ⊎ Contains (closed (state_covered q hand) ∷ []) cover → StandsClosing q image
    by image cover s (inl c) = grind (arith, one-is (present (state_covered q hand)) cover c, second-at q hand in_hand, stands-in_hand q hand image)
    by image cover s (inr c) = grind (arith, one-is (closed (state_covered q hand)) cover c, closing-last q, last image)

-- ---- whatever the result of the tick

module _ (q q' : State) (hand : Hand) (reply : Reply) (in_hand : q.hand ≡ Some hand) (up : q.failed ≡ false) (stepped : Stepped q CommitTick reply q') where
  outcome : (q' ≡ one_tick_on q hand) ⊎ ((q' ≡ state_covered q hand) ⊎ (q' ≡ record q { failed = true }))
  outcome = grind (arith, refusal-in_hand, true≢false)

  tick-within : (image : Image) → StandsWithin q q' image → StandsClosing q image
  tick-within image = by outcome
    where
      by : (q' ≡ one_tick_on q hand) ⊎ ((q' ≡ state_covered q hand) ⊎ (q' ≡ record q { failed = true })) → StandsWithin q q' image → StandsClosing q image
      by (inl is) s = tick-on_within q hand in_hand image (subst (λ (p : State). StandsWithin q p image) is s)
      by (inr (inl is)) s = tick-covers_within q hand in_hand image (subst (λ (p : State). StandsWithin q p image) is s)
      by (inr (inr is)) s = within-same q (record q { failed = true }) refl refl image (subst (λ (p : State). StandsWithin q p image) is s)

  tick-closes : KeepsHand q hand → q'.failed ≡ false → ClosesAs q q'
  tick-closes k works = by outcome
    where
      by : (q' ≡ one_tick_on q hand) ⊎ ((q' ≡ state_covered q hand) ⊎ (q' ≡ record q { failed = true })) → ClosesAs q q'
      by (inl is) = subst (ClosesAs q) (sym is) (tick-on q hand in_hand)
      by (inr (inl is)) = subst (ClosesAs q) (sym is) (tick-covers q hand in_hand k)
      by (inr (inr is)) = absurd (true≢false (sym (ap (λ (p : State). p.failed) is) ∙ works))

-- ---- a stamp

stamp-closes : (q : State) (n : ℕ) → ClosesAs q (next_state q (Stamp n))
stamp-closes q n =
    let drawn : drawn_of (next_state q (Stamp n)) ≡ drawn_of q = counted-commits (timestamp_of (q.sessions n)) q.drawn in
    closes-same q (next_state q (Stamp n)) refl drawn refl refl
    (ap (λ (ds : List Commit). let c : Cover = record { ruled_by = (closed q).ruled_by; commits = q.history ++ (in_hand q ++ filter (λ (c : Commit). not (has_timestamp (in_hand q) c.timestamp)) ds) } in c) drawn)

pub closes-on : ClosesOn
closes-on = record {
  tick = λ o q q' hand reply kept in_hand up stepped works. tick-closes q q' hand reply in_hand up stepped (kept.numbers.hand hand in_hand) works;
  ticking = λ q q' hand reply image in_hand up stepped s. tick-within q q' hand reply in_hand up stepped image s;
  stamp = stamp-closes;
  stamping = λ q n image s. within-same q (next_state q (Stamp n)) refl refl image s;
  failing = λ q image s. within-same q (record q { failed = true }) refl refl image s;
}
