use Rattle.std.proofs.Common.{◌≡◌, ◌<◌, ◌+◌, ℕ, length, sym, ap, ◌∙◌, subst, arith}
use Rattle.base.specs.Actors.{committer}
use Rattle.base.proofs.Results.{on_err}
use Rattle.pmem.specs.Trace.{fence_op, Runs}
use Rattle.pmem.specs.Words.{value_of, image_of}
use Rattle.pmem.proofs.Traces.{runs-more, stops-one, stops-then, words-run}
use Rattle.recovery.specs.Sweeping.{sweep_below}
use Rattle.recovery.proofs.sweeps.Slots.{ruled-size, hit-is, swept-hit, swept-unhit, stops-hit}
use Rattle.recovery.proofs.openings.Devices.{may-rule}
use Rattle.recovery.proofs.sweeps.Hits.{hits-size, hit-at}
use Rattle.recovery.proofs.sweeping.sweep.Goals as goal
use Rattle.recovery.proofs.sweeping.sweep.Goals.{then-hits-slot+in_ok-sweep_slot, else-hits-slot}

pub sweep_slot-requires-clause-may_rule : goal.sweep_slot-requires-clause-may_rule
sweep_slot-requires-clause-may_rule g c = may-rule c.args.geometry c.args.ruling (image_of (g.D.Pmem.state c.args.device.now)) c.requires.rules

pub sweep_slot-requires-clause-size : goal.sweep_slot-requires-clause-size
sweep_slot-requires-clause-size g c = words-run c.loop-slot.invariant ∙ ruled-size (g.D.Pmem.state c.args.device.now) c.args.geometry c.args.ruling c.requires.rules

pub bounds-hits-slot : goal.bounds-hits-slot
bounds-hits-slot g c = omega (arith, c.loop-slot-test.true, c.slots-slot-end.ensures.value, ap length c.requires.hits, hits-size (image_of (g.D.Pmem.state c.args.device.now)) c.args.geometry.slots)

pub loop-slot-preserved : goal.loop-slot-preserved
loop-slot-preserved g c =
    let start = g.D.Pmem.state c.args.device.now in
    let slot = c.loop-slot.slot in
    let within : slot < c.args.geometry.slots = omega (arith, c.loop-slot-test.true, c.slots-slot-end.ensures.value) in
    let hit = sym (hit-is c.args.geometry c.args.ruling start c.requires.rules (ruled-size start c.args.geometry c.args.ruling c.requires.rules) slot within) ∙ sym (hit-at (image_of start) c.args.geometry.slots slot _ c.args.hits.now c.requires.hits within) in
    elim c.if-hits-slot.branch [
      | then-hits-slot+in_ok-sweep_slot w ↦
          subst (λ device. Runs (sweep_below c.args.geometry c.args.ruling (value_of start) (slot + 1)) start (g.D.Pmem.state device)) (sym w.device-is)
          (swept-hit c.args.geometry c.args.ruling start slot c.loop-slot.invariant (hit ∙ w.if-hits-slot.true) w.in_ok-sweep_slot.ensures.run)
      | else-hits-slot w ↦
          subst (λ device. Runs (sweep_below c.args.geometry c.args.ruling (value_of start) (slot + 1)) start (g.D.Pmem.state device)) (sym w.device-is)
          (swept-unhit c.args.geometry c.args.ruling start slot c.loop-slot.invariant (hit ∙ w.if-hits-slot.false))
    ]

pub returns-in_err-sweep_slot-clause-stopped : goal.returns-in_err-sweep_slot-clause-stopped
returns-in_err-sweep_slot-clause-stopped g c =
    let start = g.D.Pmem.state c.args.device.now in
    let slot = c.loop-slot.slot in
    let within : slot < c.args.geometry.slots = omega (arith, c.loop-slot-test.true, c.slots-slot-end.ensures.value) in
    let hit = sym (hit-is c.args.geometry c.args.ruling start c.requires.rules (ruled-size start c.args.geometry c.args.ruling c.requires.rules) slot within) ∙ sym (hit-at (image_of start) c.args.geometry.slots slot _ c.args.hits.now c.requires.hits within) in
    on_err c.from_residual.result (stops-hit c.args.geometry c.args.ruling start slot c.loop-slot.invariant (hit ∙ c.if-hits-slot.true) within c.in_err-sweep_slot.ensures.stopped)

pub returns-in_err-fence-clause-stopped : goal.returns-in_err-fence-clause-stopped
returns-in_err-fence-clause-stopped g c =
    let state = g.D.Pmem.state in
    let orderly = g.met.D.Pmem.orderly in
    let start = state c.args.device.now in
    let done : c.loop-slot.slot ≡ c.args.geometry.slots = omega (arith, c.loop-slot-test.false, c.loop-slot.auto.slot-end, c.slots-slot-end.ensures.value) in
    let all = subst (λ (n : ℕ). Runs (sweep_below c.args.geometry c.args.ruling (value_of start) n) start (state c.loop-slot.device)) done c.loop-slot.invariant in
    on_err c.from_residual-in_err-fence.result (stops-then all (stops-one (fence_op committer) (state c.loop-slot.device) (state c.fence.new.self) (orderly c.loop-slot.device) (orderly c.fence.new.self) c.in_err-fence.ensures.err))

pub returns-clause-run : goal.returns-clause-run
returns-clause-run g c =
    let state = g.D.Pmem.state in
    let start = state c.args.device.now in
    let done : c.loop-slot.slot ≡ c.args.geometry.slots = omega (arith, c.loop-slot-test.false, c.loop-slot.auto.slot-end, c.slots-slot-end.ensures.value) in
    let all = subst (λ (n : ℕ). Runs (sweep_below c.args.geometry c.args.ruling (value_of start) n) start (state c.loop-slot.device)) done c.loop-slot.invariant in
    runs-more (sweep_below c.args.geometry c.args.ruling (value_of start) c.args.geometry.slots) (fence_op committer) start (state c.loop-slot.device) (state c.fence.new.self) (g.met.D.Pmem.orderly c.fence.new.self) c.in_ok-fence.ensures.ok all
