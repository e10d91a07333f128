use Rattle.std.proofs.Common.{◌≡◌, ◌∙◌, ap, inr, refl}
use Rattle.std.proofs.lemmas.List.Elements.{All-push}
use Rattle.base.specs.declared.step.Step.TheVariants.{Stamp}
use Rattle.base.specs.declared.step.Reply.{Reply}
use Rattle.base.specs.Replies.{note_of}
use Rattle.audited.specs.declared.receipt.Receipt.{Receipt}
use Rattle.engine.specs.Phases.{phase_after_step}
use Rattle.engine.proofs.Calls.{Called-more}
use Rattle.engine.specs.Calls.{refused_with}
use Rattle.engine.proofs.Refusing.{clean-reported, more-clean, more-refused}
use Rattle.engine.proofs.session.Session.stamp_all.Goals as goal

pub loop-preserved : goal.loop-preserved
loop-preserved g c = record {
  steps = Called-more _ _ _ _ _ _ _ c.loop.invariant.steps c.in_ok-make.ensures.ok (λ added r all step note. All-push (λ (s : Receipt). s.step ≡ Stamp c.args.number) added r all step);
  clean = more-clean _ _ _ _ _ c.loop.invariant.clean c.in_ok-make.ensures.ok (ap (λ (reply : Reply). refused_with (note_of reply)) c.in-More.is);
  phase = c.in_ok-make.ensures.moved ∙ (ap (λ (reply : Reply). phase_after_step c.loop.self.phase (Stamp c.args.number) (note_of reply)) c.in-More.is ∙ c.loop.invariant.phase);
  published = c.in_ok-make.ensures.published ∙ c.loop.invariant.published;
  told = c.in_ok-make.ensures.told ∙ c.loop.invariant.told;
}

pub returns-in-Stamped-clause-steps : goal.returns-in-Stamped-clause-steps
returns-in-Stamped-clause-steps g c =
    Called-more _ _ _ _ _ _ _ c.loop.invariant.steps c.in_ok-make.ensures.ok (λ added r all step note.
    (All-push (λ (s : Receipt). s.step ≡ Stamp c.args.number) added r all step, (added, r, refl, note ∙ ap note_of c.in-Stamped.is)))

pub returns-in-Refused-clause-steps : goal.returns-in-Refused-clause-steps
returns-in-Refused-clause-steps g c =
    Called-more _ _ _ _ _ _ _ c.loop.invariant.steps c.in_ok-make.ensures.ok (λ added r all step note.
    (All-push (λ (s : Receipt). s.step ≡ Stamp c.args.number) added r all step, inr (added, r, refl, note ∙ ap note_of c.in-Refused.is)))

-- ---- which refusal is reported

pub returns-in-Stamped-clause-refusal : goal.returns-in-Stamped-clause-refusal
returns-in-Stamped-clause-refusal g c =
    clean-reported _ _ (more-clean _ _ _ _ _ c.loop.invariant.clean c.in_ok-make.ensures.ok (ap (λ (reply : Reply). refused_with (note_of reply)) c.in-Stamped.is))

pub returns-in-Refused-clause-refusal : goal.returns-in-Refused-clause-refusal
returns-in-Refused-clause-refusal g c = more-refused _ _ _ _ _ c.in-Refused.fault c.loop.invariant.clean c.in_ok-make.ensures.ok (ap note_of c.in-Refused.is)
