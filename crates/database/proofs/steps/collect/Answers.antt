use Rattle.std.proofs.Common.{◌≡◌, ◌∙◌, ◌+◌, ◌-◌, ℕ, [], refl, subst, arith, rules}
use Rattle.database.specs.Obeys.{RepeatsTimes}
use Rattle.base.specs.declared.step.Step.TheVariants.{Collect}
use Rattle.session_laws.specs.Logs.{own}
use Rattle.database.proofs.Covering.{times-none, times-join}
use Rattle.database.proofs.Histories.{goes-none, quiet-join}
use Rattle.database.proofs.steps.collect.Goals as goal

pub loop-left-init : goal.loop-left-init
loop-left-init g c = record {
  within = omega arith;
  visits = subst (λ (n : ℕ). RepeatsTimes g.D.Pmem.state c.args.room.now.room c.args.room.now.room Collect n) (omega arith) (times-none g.D.Pmem.state c.args.room.now.room Collect (g.met.D.Pmem.orderly c.args.room.now.room.device));
  ended = refl;
  log = goes-none (λ x. (s : ℕ) → own s x ≡ []) c.args.room.now.log (λ s. refl);
}

pub loop-left-preserved : goal.loop-left-preserved
loop-left-preserved g c =
    let within = c.loop-left.invariant.within in
    let most = c.visit_next-left.ensures.most in
    let more : (c.args.places - c.loop-left.left) + c.visit_next-left.result ≡ c.args.places - (c.loop-left.left - c.visit_next-left.result) = omega (arith, within, most) in
    record {
      within = omega (arith, within, most);
      visits = subst (λ (n : ℕ). RepeatsTimes g.D.Pmem.state c.args.room.now.room c.visit_next-left.new.room.room Collect n) more
          (times-join g.D.Pmem.state c.args.room.now.room c.loop-left.room.room c.visit_next-left.new.room.room Collect (c.args.places - c.loop-left.left) c.visit_next-left.result c.loop-left.invariant.visits c.visit_next-left.ensures.visits);
      ended = c.visit_next-left.ensures.ended ∙ c.loop-left.invariant.ended;
      log = quiet-join c.args.room.now.log c.loop-left.room.log c.visit_next-left.new.room.log c.loop-left.invariant.log c.visit_next-left.ensures.log;
    }

pub returns-clause-visits : goal.returns-clause-visits
returns-clause-visits g c = subst (λ (n : ℕ). RepeatsTimes g.D.Pmem.state c.args.room.now.room c.loop-left.room.room Collect n) all c.loop-left.invariant.visits
  where
    all : c.args.places - c.loop-left.left ≡ c.args.places
    all = search rules
