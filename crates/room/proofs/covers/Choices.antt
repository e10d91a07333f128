-- The ticks that make no operation: nothing is due, or a batch is chosen, or the tick is refused.
use Rattle.std.proofs.Common.{◌≡◌, inl, inr, ℕ, ◌+◌, ◌^◌, ◌<◌, ◌≤◌, ◌&&◌, Bool, true, false, cond, List, length, map, refl, sym, ◌∙◌, ap, subst, arith, nat_eq, nat_le}
use Rattle.std.specs.Prelude.{Option, Some, None}
use Rattle.std.specs.List.{list_any}
use Rattle.std.proofs.lemmas.Bool.{le-leb, lt-leb}
use Rattle.base.specs.declared.fault.Fault.{Fault}
use Rattle.base.specs.declared.fault.Fault.TheVariants.{Device as DeviceFault, TimestampsOut}
use Rattle.base.specs.declared.step.Step.TheVariants.{Commit as CommitTick}
use Rattle.base.specs.declared.step.Stage.TheVariants.{Chosen}
use Rattle.base.specs.declared.step.Reply.{Reply}
use Rattle.base.specs.declared.step.Reply.TheVariants.{Idle, Ticked, Refused}
use Rattle.base.specs.Choosing as choosing
use Rattle.base.specs.Records.{Record, is_committed}
use Rattle.machine.specs.Machine.{State, is_idle, refusal, taken_in_hand, chosen, target_of, batch_of}
use Rattle.base.proofs.WellFormed.{well_formed-parts}
use Rattle.pmem.specs.Device.{Device, IsOrderly}
use Rattle.log_area.specs.declared.stage.WritingStage.TheVariants.{StoreBody, Done}
use Rattle.log_area.specs.Writings.{Progress, begun}
use Rattle.txn.specs.declared.drawn.DrawnCommit.{DrawnCommit}
use Rattle.dirty_table.specs.Touches.{has}
use Rattle.group_commit.specs.declared.stage.CycleStage.TheVariants.{FlushLines}
use Rattle.group_commit.specs.Cycles.{Cycling, IsBeginFault}
use Rattle.group_commit.proofs.Counting.{ticks-are_counted}
use Rattle.state_invariant.specs.Kept.{Origin}
use Rattle.state_invariant.proofs.covers.Chosen.{keeps-chosen}
use Rattle.device_invariant.specs.Upholds.{Upholds}
use Rattle.simulation.specs.cycles.Leads.{Ticks}
use Rattle.simulation.proofs.cycles.covers.Ticks.{idle-ticks, choosing-ticks, refused-ticks}
use Rattle.session_steps.specs.declared.sessions.Sessions.{Sessions}
use Rattle.simulation.specs.cycles.Batches.{line_numbers}
use Rattle.session_steps.specs.Shows.{plain_drawn}
use Rattle.session_steps.proofs.AnyHand.{shows-hand}
use Rattle.session_steps.proofs.Effects.{nothing-done}
use Rattle.room.specs.Committing.{HoldsHand, HoldsCycle, ShowsIn}
use Rattle.room.specs.Steps.{StepsToIn}

-- without a cycle no batch is pending
pub rests-of : (q : State) (drawn : List DrawnCommit) → HoldsCycle q drawn q.hand None → q.hand ≡ None
rests-of q drawn holds = grind (arith) steps 800000

-- whether no record is due, and the one that is next
abbrev pub has_rest : Sessions → Bool
has_rest s = choosing.is_idle s.numbers.geometry s.numbers.record s.numbers.next s.collector.swept (map plain_drawn s.drawn.commits)

abbrev pub next_record : Sessions → Record
next_record s = choosing.target_of s.numbers.geometry s.numbers.record s.numbers.next s.collector.swept (map plain_drawn s.drawn.commits)

-- the numbers are in range
pub next-below : (s : Sessions) (cycle : Option Cycling) (device : Device) (q : State) → ShowsIn s cycle device q → s.numbers.next ≤ 2 ^ 62
next-below s cycle device q shows = let is : q.next ≡ s.numbers.next = ap (λ (p : State). p.next) shows.shown.plain in omega (arith, is, shows.shown.upholds.keeps.numbers.room)

pub gate-below : (s : Sessions) (device : Device) (q : State) → ShowsIn s None device q → s.numbers.record.gate < 2 ^ 62
gate-below s device q shows = grind (arith, rests-of)

-- the next record names no more long commits than it has words for
pub few-passed : (s : Sessions) (device : Device) (q : State) → ShowsIn s None device q → length (next_record s).longs ≤ 12
few-passed s device q shows =
    let formed = well_formed-parts q.layout.version (target_of q) (keeps-chosen shows.shown.hidden.origin q shows.shown.upholds.keeps).formed in
    let same = ap (λ (p : State). length (target_of p).longs) shows.shown.plain in
    omega (arith, same, formed.fewer, few-longs (nat_eq q.layout.version 1))
  where
    few-longs : (b : Bool) → cond b 0 12 ≤ 12
    few-longs true = omega arith
    few-longs false = omega arith

-- a tick without an operation, whose reply isn't the device's
quietly : (o : Origin) (q q' : State) (reply : Reply) (device : Device) (sessions : Sessions) (cycle : Option Cycling) → Ticks o q q' reply device device → ShowsIn sessions cycle device q' → (reply ≡ Refused DeviceFault → ⊥)
    → StepsToIn sessions cycle device device CommitTick reply q q'
quietly o q q' reply device sessions cycle ticks shows untold = record { stepped = ticks.stepped; shows = shows; effect = nothing-done ticks.leads.images untold }

module _ (s : Sessions) (device : Device) (orderly : IsOrderly device) (q : State) (shows : ShowsIn s None device q) (works : q.failed ≡ false) where
  abbrev ds : List DrawnCommit
  ds = s.drawn.commits

  abbrev o : Origin
  o = shows.shown.hidden.origin

  upholds : Upholds o q device
  upholds = shows.shown.upholds

  rests : q.hand ≡ None
  rests = rests-of q ds shows.cycle_is

  layout : q.layout ≡ s.numbers.geometry
  layout = ap (λ (p : State). p.layout) shows.shown.plain

  ruling : q.ruling ≡ s.numbers.record
  ruling = ap (λ (p : State). p.ruling) shows.shown.plain

  due-same : is_idle q ≡ has_rest s
  due-same = ap is_idle shows.shown.plain

  -- ---- nothing is due

  pub idles : has_rest s ≡ true → (q' : State) × StepsToIn s None device device CommitTick Idle q q'
  idles idle = grind (arith, due-same, rests, quietly, idle-ticks, upholds)

  -- ---- a batch is due

  module _ (busy : has_rest s ≡ false) where
    due : is_idle q ≡ false
    due = due-same ∙ busy

    within : s.numbers.record.gate + 1 < 2 ^ 62 → nat_le (2 ^ 62) (q.ruling.gate + 1) ≡ false
    within lt = ap (λ (r : Record). nat_le (2 ^ 62) (r.gate + 1)) ruling ∙ lt-leb (2 ^ 62) (s.numbers.record.gate + 1) lt

    unrefused : s.numbers.record.gate + 1 < 2 ^ 62 → refusal q CommitTick ≡ None
    unrefused lt = let fits = within lt in rw (works, rests, due, fits) refl

    refused-out : 2 ^ 62 ≤ s.numbers.record.gate + 1 → refusal q CommitTick ≡ Some TimestampsOut
    refused-out le =
        let past : nat_le (2 ^ 62) (q.ruling.gate + 1) ≡ true = ap (λ (r : Record). nat_le (2 ^ 62) (r.gate + 1)) ruling ∙ le-leb (2 ^ 62) (s.numbers.record.gate + 1) le in
        rw (works, rests, due, past) refl

    pub refuses : (fault : Fault) → IsBeginFault s.numbers.record fault → (q' : State) × StepsToIn s None device device CommitTick (Refused fault) q q'
    refuses fault (inl out) = (
      q,
      quietly o q q (Refused fault) device s None
          (refused-ticks.refused o q device fault orderly (refused-out out.0 ∙ ap (λ (f : Fault). Some f) (sym out.1)) upholds) shows
          (λ told. let same : fault ≡ DeviceFault = cc told in absurd (cc (same, out.1))),
    )
    refuses fault (inr wanting) = (
      q,
      quietly o q q (Refused fault) device s None
          (subst (λ (f : Fault). Ticks o q q (Refused f) device device) (sym wanting.1) (refused-ticks.memory o q device orderly (unrefused wanting.0) rests due upholds)) shows
          (λ told. let same : fault ≡ DeviceFault = cc told in absurd (cc (same, wanting.1))),
    )

    module _ (cycle : Cycling) (numbered : s.numbers.record.gate + 1 < 2 ^ 62) (batch : cycle.batch ≡ choosing.batch_of s.numbers.record cycle.writing.target (choosing.chosen cycle.writing.target.persisted (map plain_drawn ds)))
        (sessions : (n : ℕ) → has cycle.sessions n ≡ list_any (λ (d : DrawnCommit). nat_eq d.session n && is_committed cycle.writing.target d.timestamp) ds) (writing : cycle.writing ≡ begun s.numbers.geometry (next_record s)) (stage : cycle.stage ≡ FlushLines 0 0) where
      abbrev taken : State
      taken = record q { hand = Some (taken_in_hand q) }

      writing-stage : cycle.writing.stage ≡ StoreBody 1
      writing-stage = ap (λ (p : Progress). p.stage) writing

      target-is : cycle.writing.target ≡ target_of q
      target-is = ap (λ (p : Progress). p.target) writing ∙ sym (ap target_of shows.shown.plain)

      batch-is : cycle.batch ≡ batch_of q (taken_in_hand q)
      batch-is =
          batch ∙ (λ i. choosing.batch_of s.numbers.record (writing i).target (choosing.chosen (writing i).target.persisted (map plain_drawn ds)))
          ∙ sym (ap (λ (p : State). batch_of p (taken_in_hand p)) shows.shown.plain)

      holds : HoldsHand taken ds (taken_in_hand q) cycle
      holds = record {
        sessions = λ n. sessions n ∙ ap (λ (r : Record). list_any (λ (d : DrawnCommit). nat_eq d.session n && is_committed r d.timestamp) ds) target-is;
        batch = batch-is;
        layout = ap (λ (p : Progress). p.layout) writing ∙ sym layout;
        target = target-is;
        unfinished = λ done. let both : StoreBody 1 ≡ Done = sym writing-stage ∙ done in absurd (cc both);
        ticks = ticks-are_counted.begins (line_numbers taken (chosen q)) cycle stage writing-stage;
      }

      pub takes : (q' : State) × StepsToIn s (Some cycle) device device CommitTick (Ticked Chosen) q q'
      takes =
          let ticks = choosing-ticks o q device orderly (unrefused numbered) rests due upholds in
          (taken, quietly o q taken (Ticked Chosen) device s (Some cycle) ticks record { shown = shows-hand s device device q (Some (taken_in_hand q)) shows.shown ticks.leads.upholds; cycle_is = holds } (λ told. absurd (cc told)))
