use Rattle.std.proofs.Common.{◌≡◌, ◌+◌, List, [], ◌∷◌, ◌++◌, take, sym, ◌∙◌, ap, subst, add-one, arith}
use Rattle.std.proofs.Math.Seq.{take-suc}
use Rattle.std.proofs.lemmas.List.{take_all}
use Rattle.base.specs.declared.step.Step.{Step}
use Rattle.base.specs.declared.step.Reply.{Reply}
use Rattle.machine.specs.Machine.{final}
use Rattle.std.specs.Prelude.{Option, fold}
use Rattle.std.proofs.lemmas.List.Sums.{fold-append}
use Rattle.base.specs.Batches.{Batch}
use Rattle.room.specs.Room.{RunsTo, covered_by, left_after}
use Rattle.room.proofs.Runs.{run-none, run-then}
use Rattle.room.proofs.room.Room.drive.Goals as goal

pub loop-step-init : goal.loop-step-init
loop-step-init g c = record {
  runs = λ q shows. (
    [],
    subst (λ (r : List Reply). RunsTo g.D.Pmem.state c.args.self.now c.args.self.now [] r q []) (sym c.in-Ok.ensures.items)
        (run-none g.D.Pmem.state c.args.self.now q (g.met.D.Pmem.orderly c.args.self.now.device) shows),
  );
  waits = ap (λ (r : List Reply). fold left_after (covered_by c.args.self.now) r) (sym c.in-Ok.ensures.items);
  replied = c.in-Ok.ensures.len;
  reserved = c.in-Ok.ensures.capacity;
}

pub push_reserved-requires : goal.push_reserved-requires
push_reserved-requires g c = omega (arith, c.loop-step.invariant.replied, c.loop-step.invariant.reserved, c.loop-step-test.true)

pub loop-step-preserved : goal.loop-step-preserved
loop-step-preserved g c = record {
  runs = λ q shows.
      let steps = c.args.steps.now in
      let i = c.loop-step.step-index in
      let step = c.step-item.result in
      let reply = c.step.result in
      let before = c.loop-step.invariant.runs q shows in
      let one = c.step.ensures.step (final q before.0) before.1.shows in
      let done : take (i + 1) steps ≡ take i steps ++ step ∷ [] =
      ap (λ n. take n steps) (add-one i) ∙ take-suc steps i step c.loop-step-test.true ∙ ap (λ (s : Step). take i steps ++ s ∷ []) (sym {A = Step} c.step-item.is) in (
        before.0 ++ one.0 ∷ [],
        subst (λ (s : List Step). RunsTo g.D.Pmem.state c.args.self.now c.step.new.self s c.push_reserved.new.self.items q (before.0 ++ one.0 ∷ [])) (sym done)
            (subst (λ (r : List Reply). RunsTo g.D.Pmem.state c.args.self.now c.step.new.self (take i steps ++ step ∷ []) r q (before.0 ++ one.0 ∷ [])) (sym c.push_reserved.ensures.items)
            (run-then g.D.Pmem.state c.args.self.now c.loop-step.self c.step.new.self (take i steps) c.loop-step.replies.items step reply q before.0 one.0 before.1 one.1)),
      );
  waits =
      c.step.ensures.waits ∙ ap (λ (o : Option Batch). left_after o c.step.result) c.loop-step.invariant.waits
      ∙ sym (ap (λ (r : List Reply). fold left_after (covered_by c.args.self.now) r) c.push_reserved.ensures.items ∙ fold-append left_after (covered_by c.args.self.now) c.loop-step.replies.items (c.step.result ∷ []));
  replied = omega (arith, c.push_reserved.ensures.len, c.loop-step.invariant.replied);
  reserved = omega (arith, c.push_reserved.ensures.capacity, c.loop-step.invariant.reserved);
}

pub returns-clause-run : goal.returns-clause-run
returns-clause-run g c = λ q shows.
    let done = c.loop-step.invariant.runs q shows in (
      done.0,
      subst (λ (s : List Step). RunsTo g.D.Pmem.state c.args.self.now c.loop-step.self s c.loop-step.replies.items q done.0) (take_all c.loop-step.step-index c.args.steps.now c.loop-step-test.false) done.1,
    )

pub returns-clause-waits : goal.returns-clause-waits
returns-clause-waits g c = c.loop-step.invariant.waits
