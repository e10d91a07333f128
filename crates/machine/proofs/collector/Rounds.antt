-- Rounds of the collector with nothing between them: the second changes nothing.
use Rattle.std.proofs.Common.{◌≡◌, ◌⊎◌, inl, inr, ℕ, zero, suc, ◌+◌, ◌-◌, ◌*◌, ◌<◌, ◌≤◌, Bool, true, false, ◌&&◌, cond, replicate, refl, sym, ◌∙◌, ap, subst, arith, nat_eq, Option, None}
use Rattle.std.specs.List.{list_all}
use Rattle.std.proofs.lemmas.Bool.{cases_lt, eq-eqb, lt-ltb, le-ltb}
use Rattle.base.specs.declared.step.Step.TheVariants.{Collect}
use Rattle.base.specs.Layout.{Layout}
use Rattle.base.specs.Lists.{replaced}
use Rattle.machine.specs.State.{State, Version, session_numbers}
use Rattle.machine.specs.Collecting.{replace, sees_replaced, is_garbage, is_at_slot, slot_visited, sweep_ended, visited, collected}
use Rattle.machine.specs.Machine.{refusal}
use Rattle.machine.specs.Replay.{reply_on, state_on, reply_of, state_of, replies as replies_to, end}
use Rattle.machine.specs.Rounds.{visits, visits_answer, round_of, VisitsFollow, RoundsRepeat}
use Rattle.machine.proofs.collector.Visits.{visit-changes}

-- ---- visits, one after another

pub visits-add : (m n : ℕ) (q : State) → visits (m + n) q ≡ visits n (visits m q)
visits-add zero n q = let e : zero + n ≡ n = omega arith in ap (λ (k : ℕ). visits k q) e
visits-add (suc m) n q = let e : suc m + n ≡ suc (m + n) = omega arith in ap (λ (k : ℕ). visits k q) e ∙ visits-add m n (visited q)

pub visits-split : (all m n : ℕ) (q : State) → all ≡ m + n → visits all q ≡ visits n (visits m q)
visits-split all m n q e = ap (λ (k : ℕ). visits k q) e ∙ visits-add m n q

layout-visited : (q : State) → (visited q).layout ≡ q.layout
layout-visited q = (visit-changes q).layout

pub layout-visits : (n : ℕ) (q : State) → (visits n q).layout ≡ q.layout
layout-visits zero q = refl
layout-visits (suc n) q = layout-visits n (visited q) ∙ layout-visited q

slots-visited : (q : State) → (visited q).layout.slots ≡ q.layout.slots
slots-visited q = ap (λ (a : Layout). a.slots) (layout-visited q)

slots-visits : (n : ℕ) (q : State) → (visits n q).layout.slots ≡ q.layout.slots
slots-visits n q = ap (λ (a : Layout). a.slots) (layout-visits n q)

-- ---- the place

at-slot : (q : State) → q.place < q.layout.slots → visited q ≡ slot_visited q
at-slot q lt = ap (λ (b : Bool). cond b (slot_visited q) (sweep_ended q)) (lt-ltb q.place q.layout.slots lt)

at-end : (q : State) → q.layout.slots ≤ q.place → visited q ≡ sweep_ended q
at-end q le = ap (λ (b : Bool). cond b (slot_visited q) (sweep_ended q)) (le-ltb q.place q.layout.slots le)

place-up : (n : ℕ) (q : State) → q.place + n ≤ q.layout.slots → (visits n q).place ≡ q.place + n
place-up zero q le = omega arith
place-up (suc n) q le = grind (arith, place-up n (visited q))

-- ---- versions that are read stay, and garbage goes

abbrev garbage_of : State → Option Version → Bool
garbage_of q o = replace q.history o && list_all (λ n. sees_replaced q.history o (q.sessions n)) session_numbers

clean-visited : (q : State) (slot : ℕ) → is_garbage q slot ≡ false → is_garbage (visited q) slot ≡ false
clean-visited q slot clean = by (is_at_slot q)
  where
    by_place : (b : Bool) → garbage_of q (cond b None (q.held slot)) ≡ false
    by_place true = refl
    by_place false = clean

    by_garbage : (b : Bool) → garbage_of q (cond b (replaced q.place None q.held) q.held slot) ≡ false
    by_garbage true = by_place (nat_eq slot q.place)
    by_garbage false = clean

    by : (b : Bool) → is_garbage (cond b (slot_visited q) (sweep_ended q)) slot ≡ false
    by true = by_garbage (is_garbage q q.place)
    by false = clean

clean-visits : (n : ℕ) (q : State) (slot : ℕ) → is_garbage q slot ≡ false → is_garbage (visits n q) slot ≡ false
clean-visits zero q slot clean = clean
clean-visits (suc n) q slot clean = clean-visits n (visited q) slot (clean-visited q slot clean)

-- the slot that is visited
freed : (q : State) → is_garbage (slot_visited q) q.place ≡ false
freed q = grind (arith, eq-eqb)

clean-at : (n : ℕ) (q : State) (slot : ℕ) → q.place + n ≡ slot → slot < q.layout.slots → is_garbage (visits (suc n) q) slot ≡ false
clean-at zero q slot is lt = grind (arith, at-slot)
clean-at (suc n) q slot is lt = grind (arith, clean-at n (visited q) slot)

-- ---- the sweep

swept-visited : (q : State) → q.swept ≡ true → (visited q).swept ≡ true
swept-visited q is = grind arith

swept-visits : (n : ℕ) (q : State) → q.swept ≡ true → (visits n q).swept ≡ true
swept-visits zero q is = is
swept-visits (suc n) q is = swept-visits n (visited q) (swept-visited q is)

-- once the closing place is visited
record IsOver (q : State) : Type 0 where
  swept : q.swept ≡ true
  place : q.place ≡ 0

over-visited : (q : State) → q.layout.slots ≤ q.place → IsOver (visited q)
over-visited q le = subst IsOver (sym (at-end q le)) (record { swept = refl; place = refl })

over-at : (n : ℕ) (q : State) → q.place + n ≡ q.layout.slots → IsOver (visits (suc n) q)
over-at zero q is = over-visited q (omega (arith, is))
over-at (suc n) q is = grind (arith, over-at n (visited q))

-- ---- a round

-- nothing is left to free or to sweep
record IsSettled (q : State) : Type 0 where
  clean : (slot : ℕ) → slot < q.layout.slots → is_garbage q slot ≡ false
  swept : q.swept ≡ true
  place : q.place ≤ q.layout.slots

-- from a place on the way: up to the closing place, and then up to the place again
module _ (q : State) (within : q.place ≤ q.layout.slots) where
  abbrev left : ℕ
  left = q.layout.slots - q.place

  abbrev mid : State
  mid = visits (suc left) q

  over : IsOver mid
  over = over-at left q (omega (arith, within))

  whole : round_of q ≡ visits q.place mid
  whole = visits-split (q.layout.slots + 1) (suc left) q.place q (omega (arith, within))

  back : (round_of q).place ≡ q.place
  back =
      let up : (visits q.place mid).place ≡ mid.place + q.place = place-up q.place mid (omega (arith, within, over.place, slots-visits (suc left) q)) in
      omega (arith, ap (λ (p : State). p.place) whole, up, over.place)

  clean-round : (slot : ℕ) → slot < q.layout.slots → is_garbage (round_of q) slot ≡ false
  clean-round slot lt = by (cases_lt slot q.place)
    where
      by : (slot < q.place) ⊎ (q.place ≤ slot) → is_garbage (round_of q) slot ≡ false
      by (inl before) =
          let here : is_garbage (visits (suc slot) mid) slot ≡ false = clean-at slot mid slot (omega (arith, over.place)) (omega (arith, lt, slots-visits (suc left) q)) in
          let parts : visits q.place mid ≡ visits (q.place - suc slot) (visits (suc slot) mid) = visits-split q.place (suc slot) (q.place - suc slot) mid (omega (arith, before)) in
          subst (λ (p : State). is_garbage p slot ≡ false) (sym (whole ∙ parts)) (clean-visits (q.place - suc slot) (visits (suc slot) mid) slot here)
      by (inr from) =
          let here : is_garbage (visits (suc (slot - q.place)) q) slot ≡ false = clean-at (slot - q.place) q slot (omega (arith, from)) lt in
          let rest : ℕ = q.layout.slots - (slot - q.place) in
          let parts : round_of q ≡ visits rest (visits (suc (slot - q.place)) q) = visits-split (q.layout.slots + 1) (suc (slot - q.place)) rest q (omega (arith, from, lt)) in
          subst (λ (p : State). is_garbage p slot ≡ false) (sym parts) (clean-visits rest (visits (suc (slot - q.place)) q) slot here)

  settled-within : IsSettled (round_of q)
  settled-within = grind (arith, clean-round, slots-visits, whole, swept-visits, over, back)

-- from a place past the closing one
module _ (q : State) (past : q.layout.slots < q.place) where
  abbrev first : State
  first = visited q

  over-first : IsOver first
  over-first = over-visited q (omega (arith, past))

  whole-past : round_of q ≡ visits q.layout.slots first
  whole-past = visits-split (q.layout.slots + 1) 1 q.layout.slots q (omega arith)

  settled-past : IsSettled (round_of q)
  settled-past = record {
    clean = λ slot lt.
        let below : slot < q.layout.slots = omega (arith, lt, slots-visits (q.layout.slots + 1) q) in
        let here : is_garbage (visits (suc slot) first) slot ≡ false = clean-at slot first slot (omega (arith, over-first.place)) (omega (arith, below, slots-visited q)) in
        let rest : ℕ = q.layout.slots - suc slot in
        let parts : visits q.layout.slots first ≡ visits rest (visits (suc slot) first) = visits-split q.layout.slots (suc slot) rest first (omega (arith, below)) in
        subst (λ (p : State). is_garbage p slot ≡ false) (sym (whole-past ∙ parts)) (clean-visits rest (visits (suc slot) first) slot here);
    swept = ap (λ (p : State). p.swept) whole-past ∙ swept-visits q.layout.slots first over-first.swept;
    place = grind (arith, place-up, slots-visits);
  }

round-settles : (q : State) → IsSettled (round_of q)
round-settles q = grind (arith, cases_lt, settled-past, settled-within)

-- ---- if nothing is left, only the place moves

settled-visit : (q : State) → IsSettled q → (visited q ≡ record q { place = (visited q).place }) × IsSettled (visited q)
settled-visit q settled = grind (arith, cases_lt, clean-visited, slots-visited, at-slot, swept-visited, at-end)

settled-visits : (n : ℕ) (q : State) → IsSettled q → visits n q ≡ record q { place = (visits n q).place }
settled-visits zero q settled = refl
settled-visits (suc n) q settled = grind (arith, settled-visit, settled-visits n (visited q))

settled-round : (q : State) → IsSettled q → round_of q ≡ q
settled-round q settled = settled-visits (q.layout.slots + 1) q settled ∙ (λ i. record q { place = back q settled.place i })

round-repeats : (q : State) (rounds more : ℕ) → round_of q ≡ q → visits (rounds * (q.layout.slots + 1) + more) q ≡ visits more q
round-repeats q zero more same = let e : zero * (q.layout.slots + 1) + more ≡ more = omega arith in ap (λ (k : ℕ). visits k q) e
round-repeats q (suc rounds) more same = grind (arith, visits-split, round-repeats q rounds more same)

pub rounds-repeat : RoundsRepeat
rounds-repeat = record { settle = λ q. settled-round (round_of q) (round-settles q); repeat = round-repeats }

-- ---- steps of the collector

works-on : (q : State) → q.failed ≡ false → (visited q).failed ≡ false
works-on q works = (visit-changes q).failed ∙ works

allowed : (q : State) → q.failed ≡ false → refusal q Collect ≡ None
allowed q works = rw works refl

leads : (q : State) → q.failed ≡ false → state_of q Collect ≡ visited q
leads q works = ap (state_on q Collect) (allowed q works)

answers : (q : State) → q.failed ≡ false → reply_of q Collect ≡ collected q
answers q works = ap (reply_on q Collect) (allowed q works)

states-follow : (n : ℕ) (q : State) → q.failed ≡ false → end q (replicate n Collect) ≡ visits n q
states-follow zero q works = refl
states-follow (suc n) q works = ap (λ (p : State). end p (replicate n Collect)) (leads q works) ∙ states-follow n (visited q) (works-on q works)

replies-follow : (n : ℕ) (q : State) → q.failed ≡ false → replies_to q (replicate n Collect) ≡ visits_answer n q
replies-follow zero q works = refl
replies-follow (suc n) q works = grind (arith, replies-follow n (visited q) (works-on q works))

pub visits-follow : VisitsFollow
visits-follow = record { states = λ q n works. states-follow n q works; replies = λ q n works. replies-follow n q works }
