use Rattle.std.proofs.Common.{◌≡◌, refl, subst, sym, ◌∙◌, ap, length, map, arith}
use Rattle.std.specs.Prelude.{Option, ◌&&◌, nat_eq}
use Rattle.std.specs.List.{list_any}
use Rattle.std.proofs.Math.Bridge.{le_prop}
use Rattle.std.proofs.Math.Logic.{∥∥₁_elim}
use Rattle.base.specs.declared.step.Step.TheVariants.{Commit as CommitTick}
use Rattle.base.specs.declared.step.Reply.TheVariants.{Idle, Refused}
use Rattle.machine.specs.Machine.{State}
use Rattle.base.specs.Choosing.{chosen, is_idle, batch_of, target_of}
use Rattle.base.specs.Records.{is_committed}
use Rattle.group_commit.specs.Cycles.{Cycling, IsBeginFault}
use Rattle.log_area.specs.Writings.{begun}
use Rattle.txn.specs.declared.drawn.DrawnCommit.{DrawnCommit}
use Rattle.txn.specs.DrawnCommits.{plain_drawn}
use Rattle.snapshot.specs.declared.numbers.Numbers.{Numbers}
use Rattle.room.specs.Steps.{StepsToIn}
use Rattle.room.proofs.covers.Choices.{next_record, next-below, gate-below, few-passed, idles, takes, refuses}
use Rattle.room.proofs.volatile.VolatileState.choose.Goals as goal

pub is_idle-requires : goal.is_idle-requires
is_idle-requires c = ∥∥₁_elim c.requires.shown le_prop (λ some. let is = ap (λ (n : Numbers). n.next) c.numbers-numbers.ensures in let below = next-below _ _ _ _ some.1.1 in omega (arith, is, below))

pub returns-then-is_idle : goal.returns-then-is_idle
returns-then-is_idle c = record {
  step = λ device orderly q shows works.
      subst (λ (o : Option Cycling). (q' : State) × StepsToIn c.args.self.now.sessions o device device CommitTick Idle q q') (sym c.requires.rests)
      (idles c.args.self.now.sessions device orderly q shows works
      (sym (λ i. let n = c.numbers-numbers.ensures i in is_idle n.geometry n.record n.next (c.has_swept-swept.ensures i) (map plain_drawn (c.drawn-drawn.ensures i).commits)) ∙ sym c.is_idle.ensures ∙ c.if-is_idle.true));
  waits = refl;
}

pub begin-requires-clause-numbered : goal.begin-requires-clause-numbered
begin-requires-clause-numbered c = ∥∥₁_elim c.requires.shown le_prop (λ some. let is = ap (λ (n : Numbers). n.record.gate) c.numbers-numbers.ensures in let below = gate-below _ _ _ some.1.1 in omega (arith, is, below))

pub begin-requires-clause-countable : goal.begin-requires-clause-countable
begin-requires-clause-countable c = ∥∥₁_elim c.requires.shown le_prop (λ some. let is = ap (λ (n : Numbers). n.next) c.numbers-numbers.ensures in let below = next-below _ _ _ _ some.1.1 in omega (arith, is, below))

pub begin-requires-clause-few : goal.begin-requires-clause-few
begin-requires-clause-few c = ∥∥₁_elim c.requires.shown le_prop (λ some.
    let same : length (target_of c.numbers-numbers.result.now.geometry c.numbers-numbers.result.now.record c.numbers-numbers.result.now.next c.has_swept-swept.result (map plain_drawn c.drawn-drawn.result.now.commits)).longs ≡ length (next_record c.args.self.now.sessions).longs =
    λ i. let n = c.numbers-numbers.ensures i in length (target_of n.geometry n.record n.next (c.has_swept-swept.ensures i) (map plain_drawn (c.drawn-drawn.ensures i).commits)).longs in
    let few = few-passed _ _ _ some.1.1 in
    omega (arith, same, few))

pub returns-in-Ok : goal.returns-in-Ok
returns-in-Ok c = record {
  step = λ device orderly q shows works.
      takes c.args.self.now.sessions device orderly q shows works
      (sym (λ i. let n = c.numbers-numbers.ensures i in is_idle n.geometry n.record n.next (c.has_swept-swept.ensures i) (map plain_drawn (c.drawn-drawn.ensures i).commits)) ∙ sym c.is_idle.ensures ∙ c.if-is_idle.false) c.in-Ok.cycle
      (let is = ap (λ (n : Numbers). n.record.gate) c.numbers-numbers.ensures in let below = c.in-Ok.ensures.numbered in omega (arith, is, below))
      (c.in-Ok.ensures.batch ∙ λ i. batch_of (c.numbers-numbers.ensures i).record c.in-Ok.cycle.writing.target (chosen c.in-Ok.cycle.writing.target.persisted (map plain_drawn (c.drawn-drawn.ensures i).commits)))
      (λ n. c.in-Ok.ensures.sessions n ∙ λ i. list_any (λ (d : DrawnCommit). nat_eq d.session n && is_committed c.in-Ok.cycle.writing.target d.timestamp) (c.drawn-drawn.ensures i).commits)
      (c.in-Ok.ensures.writing ∙ λ i. let n = c.numbers-numbers.ensures i in begun n.geometry (target_of n.geometry n.record n.next (c.has_swept-swept.ensures i) (map plain_drawn (c.drawn-drawn.ensures i).commits))) c.in-Ok.ensures.stage;
  waits = refl;
}

pub returns-in-Err : goal.returns-in-Err
returns-in-Err c = record {
  step = λ device orderly q shows works.
      subst (λ (o : Option Cycling). (q' : State) × StepsToIn c.args.self.now.sessions o device device CommitTick (Refused c.in-Err.fault) q q') (sym c.requires.rests)
      (refuses c.args.self.now.sessions device orderly q shows works
      (sym (λ i. let n = c.numbers-numbers.ensures i in is_idle n.geometry n.record n.next (c.has_swept-swept.ensures i) (map plain_drawn (c.drawn-drawn.ensures i).commits)) ∙ sym c.is_idle.ensures ∙ c.if-is_idle.false) c.in-Err.fault
      (subst (λ (n : Numbers). IsBeginFault n.record c.in-Err.fault) c.numbers-numbers.ensures c.in-Err.ensures.fault));
  waits = refl;
}
