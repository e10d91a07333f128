use Rattle.std.proofs.Common.{◌≡◌, ◌<◌, List, true, refl, sym, ◌∙◌, ap, subst}
use Rattle.std.specs.Prelude.{Option, Some, Ok}
use Rattle.std.proofs.Math.Bridge.{le_prop}
use Rattle.std.proofs.Math.Nat.{ℕ_set}
use Rattle.std.proofs.Math.Logic.{∥∥₁_elim, ∥∥₁_map}
use Rattle.base.specs.Batches.{Batch}
use Rattle.base.specs.Records.{are_rising}
use Rattle.pmem.specs.Trace.{applied}
use Rattle.dirty_table.specs.declared.sessions.SessionSet.{SessionSet}
use Rattle.dirty_table.specs.Touches.{lines_touched}
use Rattle.group_commit.specs.Cycles.{line_from, operation_in, reached_in, ticked_in}
use Rattle.group_commit.specs.Cycles.{Cycling}
use Rattle.room.specs.Committing.{ShowsIn}
use Rattle.room.specs.Closing.{ticks_left}
use Rattle.room.specs.Ticks.{as_reply}
use Rattle.room.specs.declared.ticks.Tick.TheVariants.{Covered}
use Rattle.room.proofs.closes.Ticks.{with-hand, one-hand}
use Rattle.room.proofs.covers.Ticks.{unfinished, sized, line-fits, goes-on, comes-closer, may-cover, covers, fails-on}
use Rattle.room.proofs.volatile.VolatileState.advance.Goals as goal

pub tick-requires-clause-unfinished : goal.tick-requires-clause-unfinished
tick-requires-clause-unfinished g c = λ done. ∥∥₁_elim (with-hand c.args.self.now.sessions c.args.self.now.cycle c.in-Some.cycle (g.D.Pmem.state c.args.device.now) c.in-Some.is c.requires.shown) (λ x y. absurd x) (λ some. unfinished c.args.self.now.sessions c.in-Some.cycle (g.D.Pmem.state c.args.device.now) (g.met.D.Pmem.orderly _) some.0 some.1 done)

pub tick-requires-clause-size : goal.tick-requires-clause-size
tick-requires-clause-size g c = ∥∥₁_elim (with-hand c.args.self.now.sessions c.args.self.now.cycle c.in-Some.cycle (g.D.Pmem.state c.args.device.now) c.in-Some.is c.requires.shown) (ℕ_set _ _) (λ some. sized c.args.self.now.sessions c.in-Some.cycle (g.D.Pmem.state c.args.device.now) (g.met.D.Pmem.orderly _) some.0 some.1)

pub tick-requires-clause-lines : goal.tick-requires-clause-lines
tick-requires-clause-lines g c = λ line is. ∥∥₁_elim (with-hand c.args.self.now.sessions c.args.self.now.cycle c.in-Some.cycle (g.D.Pmem.state c.args.device.now) c.in-Some.is c.requires.shown) le_prop (λ some. line-fits c.args.self.now.sessions c.in-Some.cycle (g.D.Pmem.state c.args.device.now) (g.met.D.Pmem.orderly _) some.0 some.1 line (sym (λ i. line_from (lines_touched c.in-Some.cycle.sessions (c.dirty.ensures i)) c.in-Some.cycle.stage) ∙ is))

pub returns-in-Ok-Some-clause-step : goal.returns-in-Ok-Some-clause-step
returns-in-Ok-Some-clause-step g c = λ q shows works.
    goes-on c.args.self.now.sessions c.in-Some.cycle (g.D.Pmem.state c.args.device.now) (g.met.D.Pmem.orderly _) q (subst (λ (o : Option Cycling). ShowsIn c.args.self.now.sessions o (g.D.Pmem.state c.args.device.now) q) c.in-Some.is shows)
    (λ done from is. subst (λ (t : List SessionSet). are_rising (lines_touched c.in-Some.cycle.sessions t) ≡ true) c.dirty.ensures (c.tick.ensures.rising done from is))
    (g.D.Pmem.state c.tick.new.device) (g.met.D.Pmem.orderly _) works (c.in-Ok-Some.ensures.operation ∙ λ i. applied (operation_in (lines_touched c.in-Some.cycle.sessions (c.dirty.ensures i)) c.in-Some.cycle) (g.D.Pmem.state c.args.device.now))
    c.in-Ok-Some.stage (sym c.in-Ok-Some.field-0-is ∙ c.in-Ok-Some.ensures.reached ∙ λ i. reached_in (lines_touched c.in-Some.cycle.sessions (c.dirty.ensures i)) c.in-Some.cycle) c.tick.new.self (c.in-Ok-Some.ensures.ok ∙ λ i. ticked_in (lines_touched c.in-Some.cycle.sessions (c.dirty.ensures i)) c.in-Some.cycle)

pub returns-in-Ok-Some-clause-closer : goal.returns-in-Ok-Some-clause-closer
returns-in-Ok-Some-clause-closer g c = λ un.
    subst (λ (o : Option Cycling). ticks_left c.args.self.now.sessions.dirty (Some c.tick.new.self) < ticks_left c.args.self.now.sessions.dirty o) (sym c.in-Some.is)
    (∥∥₁_elim (with-hand c.args.self.now.sessions c.args.self.now.cycle c.in-Some.cycle (g.D.Pmem.state c.args.device.now) c.in-Some.is c.requires.shown) le_prop (λ some.
    comes-closer c.args.self.now.sessions c.in-Some.cycle (g.D.Pmem.state c.args.device.now) (g.met.D.Pmem.orderly _) some.0 some.1
    (λ done from is. subst (λ (t : List SessionSet). are_rising (lines_touched c.in-Some.cycle.sessions t) ≡ true) c.dirty.ensures (c.tick.ensures.rising done from is))
    (g.D.Pmem.state c.tick.new.device) (g.met.D.Pmem.orderly _) some.2 (c.in-Ok-Some.ensures.operation ∙ λ i. applied (operation_in (lines_touched c.in-Some.cycle.sessions (c.dirty.ensures i)) c.in-Some.cycle) (g.D.Pmem.state c.args.device.now))
    c.in-Ok-Some.stage (sym c.in-Ok-Some.field-0-is ∙ c.in-Ok-Some.ensures.reached ∙ λ i. reached_in (lines_touched c.in-Some.cycle.sessions (c.dirty.ensures i)) c.in-Some.cycle) c.tick.new.self (c.in-Ok-Some.ensures.ok ∙ λ i. ticked_in (lines_touched c.in-Some.cycle.sessions (c.dirty.ensures i)) c.in-Some.cycle)))

pub cover-requires-clause-may : goal.cover-requires-clause-may
cover-requires-clause-may g c = λ cycle is. ∥∥₁_map (with-hand c.args.self.now.sessions c.args.self.now.cycle c.in-Some.cycle (g.D.Pmem.state c.args.device.now) c.in-Some.is c.requires.shown) (λ some.
    may-cover c.args.self.now.sessions c.in-Some.cycle (g.D.Pmem.state c.args.device.now) (g.met.D.Pmem.orderly _) some.0 some.1
    (λ done from is. subst (λ (t : List SessionSet). are_rising (lines_touched c.in-Some.cycle.sessions t) ≡ true) c.dirty.ensures (c.tick.ensures.rising done from is))
    (g.D.Pmem.state c.tick.new.device) (g.met.D.Pmem.orderly _) some.2 (c.in-Ok-None.ensures.operation ∙ λ i. applied (operation_in (lines_touched c.in-Some.cycle.sessions (c.dirty.ensures i)) c.in-Some.cycle) (g.D.Pmem.state c.args.device.now))
    (sym c.in-Ok-None.field-0-is ∙ c.in-Ok-None.ensures.reached ∙ λ i. reached_in (lines_touched c.in-Some.cycle.sessions (c.dirty.ensures i)) c.in-Some.cycle) c.tick.new.self (c.in-Ok-None.ensures.ok ∙ λ i. ticked_in (lines_touched c.in-Some.cycle.sessions (c.dirty.ensures i)) c.in-Some.cycle) cycle.batch cycle.writing.target (ap (λ (x : Cycling). x.batch) (one-hand (Some cycle) cycle c.tick.new.self refl (sym is))) (ap (λ (x : Cycling). x.writing.target) (one-hand (Some cycle) cycle c.tick.new.self refl (sym is))))

pub returns-in-Ok-None-clause-step : goal.returns-in-Ok-None-clause-step
returns-in-Ok-None-clause-step g c = λ q shows works.
    covers c.args.self.now.sessions c.in-Some.cycle (g.D.Pmem.state c.args.device.now) (g.met.D.Pmem.orderly _) q (subst (λ (o : Option Cycling). ShowsIn c.args.self.now.sessions o (g.D.Pmem.state c.args.device.now) q) c.in-Some.is shows)
    (λ done from is. subst (λ (t : List SessionSet). are_rising (lines_touched c.in-Some.cycle.sessions t) ≡ true) c.dirty.ensures (c.tick.ensures.rising done from is))
    (g.D.Pmem.state c.tick.new.device) (g.met.D.Pmem.orderly _) works (c.in-Ok-None.ensures.operation ∙ λ i. applied (operation_in (lines_touched c.in-Some.cycle.sessions (c.dirty.ensures i)) c.in-Some.cycle) (g.D.Pmem.state c.args.device.now))
    (sym c.in-Ok-None.field-0-is ∙ c.in-Ok-None.ensures.reached ∙ λ i. reached_in (lines_touched c.in-Some.cycle.sessions (c.dirty.ensures i)) c.in-Some.cycle) c.tick.new.self (c.in-Ok-None.ensures.ok ∙ λ i. ticked_in (lines_touched c.in-Some.cycle.sessions (c.dirty.ensures i)) c.in-Some.cycle) c.tick.new.self.batch c.tick.new.self.writing.target refl refl
    c.cover.new.self.sessions c.cover.new.self.cycle (as_reply (Ok Covered) c.cover.new.self.covered) (c.cover.ensures.shows c.tick.new.self refl) c.cover.ensures.cycle (ap (λ (b : Option Batch). as_reply (Ok Covered) b) (c.cover.ensures.batch c.tick.new.self refl))

pub returns-in-Err-clause-step : goal.returns-in-Err-clause-step
returns-in-Err-clause-step g c = λ q shows works.
    fails-on c.args.self.now.sessions c.in-Some.cycle (g.D.Pmem.state c.args.device.now) (g.met.D.Pmem.orderly _) q (subst (λ (o : Option Cycling). ShowsIn c.args.self.now.sessions o (g.D.Pmem.state c.args.device.now) q) c.in-Some.is shows) (g.D.Pmem.state c.tick.new.device) (g.met.D.Pmem.orderly _) works c.in-Err.ensures.failure c.tick.new.self c.in-Err.ensures.err c.in-Err.reason c.in-Err.ensures.fault
