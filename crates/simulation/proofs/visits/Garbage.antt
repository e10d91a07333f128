-- What a version's end shows.
use Rattle.std.proofs.Common.{◌≡◌, inl, inr, ℕ, ◌<◌, true, false, length, refl, sym, ◌∙◌, ap, arith, Option, Some, None}
use Rattle.std.specs.List.{list_all}
use Rattle.std.specs.Cmp.{both_ways}
use Rattle.std.proofs.lemmas.Bool.{and_parts, and_from}
use Rattle.base.specs.Commits.{Writes}
use Rattle.machine.specs.Machine.{State, Session, Active, Drew, WroteNothing, Version, session_numbers, most_sessions}
use Rattle.machine.specs.Collecting.{is_garbage, slot_visited, sweep_ended}
use Rattle.pmem.specs.Device.{Device, IsOrderly}
use Rattle.pmem.specs.Words.{value_of}
use Rattle.snapshot.specs.Snapshots.{Seen, covers, seen_by}
use Rattle.state_invariant.specs.Kept.{Origin, IsInUse}
use Rattle.state_invariant.specs.Shown.{word_of, IsOutOfSwept, counts_at}
use Rattle.state_invariant.proofs.collector.Garbage.{garbage-is, is-garbage, garbage-ended, ended-garbage, range-all, all-each}
use Rattle.state_invariant.proofs.reads.SweptGaps.{out-counted, end-out}
use Rattle.device_invariant.specs.Upholds.{Upholds}
use Rattle.simulation.specs.sessions.Sees.{Sees}
use Rattle.simulation.proofs.sessions.Present.{present-sees}
use Rattle.simulation.proofs.sessions.Sight.{still}
use Rattle.simulation.specs.visits.Garbage.{is_covered_for, is_covered_by_all}
use Rattle.simulation.specs.visits.Laws.{EndsShowGarbage, VisitsKeepSight}
use Rattle.simulation.proofs.visits.Visits.{value-survives}

module _ (o : Origin) (q : State) (device : Device) (snapshots : ℕ → Seen) (slot : ℕ) (v : Version) (up : q.failed ≡ false) (orderly : IsOrderly device) (u : Upholds o q device)
    (sees : (n begun : ℕ) (writes : Writes) → q.sessions n ≡ Some (Active begun writes) → Sees o q (snapshots n) begun) (lt : slot < q.layout.slots) (held : q.held slot ≡ Some v) where
  abbrev end : ℕ
  end = value_of device (word_of q.layout slot 1)

  before : end < q.next
  before = (u.holds.slots.each slot lt).end_before.each end (value-survives o q device u orderly slot 1 lt (omega arith))

  present : Sees o q (seen_by q.ruling) (length q.history)
  present = present-sees o q u.keeps

  -- if all cover the end, it counts at each snapshot in use
  counted : is_covered_by_all q snapshots end ≡ true → (n : ℕ) → IsInUse q n → counts_at o q n end ≡ true
  counted all n in_use = by in_use
    where
      both : (covers (seen_by q.ruling) end ≡ true) × (list_all (λ n. is_covered_for (snapshots n) end (q.sessions n)) session_numbers ≡ true)
      both = and_parts (covers (seen_by q.ruling) end) (list_all (λ n. is_covered_for (snapshots n) end (q.sessions n)) session_numbers) all

      out : IsOutOfSwept o q end
      out = end-out o q u.keeps up (value_of device) slot lt v held (u.shows.each slot lt)

      by : IsInUse q n → counts_at o q n end ≡ true
      by (inl is) = ap (λ (m : ℕ). counts_at o q m end) is ∙ sym (present.covered end before out) ∙ both.0
      by (inr (session, writes, active)) =
          let number = u.keeps.numbers.numbered session (Active n writes) active in
          sym ((sees session n writes active).covered end before out)
          ∙ ap (is_covered_for (snapshots session) end) (sym active)
          ∙ range-all (λ k. is_covered_for (snapshots k) end (q.sessions k)) 2 most_sessions session both.1 number.0 number.1

  -- and the other way round
  covered : ((n : ℕ) → IsInUse q n → counts_at o q n end ≡ true) → is_covered_by_all q snapshots end ≡ true
  covered counts =
      and_from (covers (seen_by q.ruling) end) (list_all (λ n. is_covered_for (snapshots n) end (q.sessions n)) session_numbers)
      (present.covered end before out ∙ counts (length q.history) (inl refl))
      (all-each (λ n. is_covered_for (snapshots n) end (q.sessions n)) session_numbers (λ n. each n (q.sessions n) refl))
    where
      out : IsOutOfSwept o q end
      out swept = out-counted o q u.keeps (length q.history) end (counts (length q.history) (inl refl))

      each : (n : ℕ) (s : Option Session) → q.sessions n ≡ s → is_covered_for (snapshots n) end s ≡ true
      each n None is = refl
      each n (Some (Active begun writes)) is = (sees n begun writes is).covered end before out ∙ counts begun (inr (n, writes, is))
      each n (Some (Drew t)) is = refl
      each n (Some WroteNothing) is = refl

  pub tells : is_covered_by_all q snapshots end ≡ is_garbage q slot
  tells =
      both_ways (is_covered_by_all q snapshots end) (is_garbage q slot)
      (λ all. is-garbage q slot (ended-garbage o q u.keeps (value_of device) slot lt up v held (u.shows.each slot lt) (counted all)))
      (λ garbage. covered (garbage-ended o q u.keeps (value_of device) slot lt (garbage-is o q slot u.keeps garbage) (u.shows.each slot lt)))

pub ends-show-garbage : EndsShowGarbage
ends-show-garbage o q device snapshots slot v up orderly u sees lt held = tells o q device snapshots slot v up orderly u sees lt held

pub visits-keep-sight : VisitsKeepSight
visits-keep-sight o q snapshot begun kept within sees = grind (arith, still o q snapshot begun within kept sees (slot_visited q) refl refl, still o q snapshot begun within kept sees (sweep_ended q) refl refl)
