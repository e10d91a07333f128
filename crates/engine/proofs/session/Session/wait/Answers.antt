use Rattle.std.proofs.Common.{◌≡◌, ◌∙◌, ap, inl, inr, refl}
use Rattle.std.proofs.lemmas.List.Elements.{All-push}
use Rattle.base.specs.declared.step.Step.TheVariants.{Poll}
use Rattle.base.specs.declared.step.Note.TheVariants.{Waiting}
use Rattle.base.specs.declared.step.Reply.{Reply}
use Rattle.base.specs.Replies.{note_of}
use Rattle.audited.specs.declared.receipt.Receipt.{Receipt}
use Rattle.engine.proofs.Calls.{Called-more}
use Rattle.engine.specs.Calls.{refused_with}
use Rattle.engine.proofs.Refusing.{clean-reported, more-clean, more-refused}
use Rattle.engine.proofs.session.Session.wait.Goals as goal

pub loop-preserved : goal.loop-preserved
loop-preserved g c = record {
  polls = Called-more _ _ _ _ _ _ _ c.loop.invariant.polls c.in_ok-make.ensures.ok (λ added r polls step note. (
    All-push (λ (s : Receipt). s.step ≡ Poll c.args.number) added r polls.0 step,
    All-push (λ (s : Receipt). s.note ≡ Waiting) added r polls.1 (note ∙ ap note_of c.in-Waiting.is),
  ));
  clean = more-clean _ _ _ _ _ c.loop.invariant.clean c.in_ok-make.ensures.ok (ap (λ (reply : Reply). refused_with (note_of reply)) c.in-Waiting.is);
  published = c.in_ok-make.ensures.published ∙ c.loop.invariant.published;
  told = c.in_ok-make.ensures.told ∙ c.loop.invariant.told;
}

pub returns-in-Committed-clause-steps : goal.returns-in-Committed-clause-steps
returns-in-Committed-clause-steps g c =
    Called-more _ _ _ _ _ _ _ c.loop.invariant.polls c.in_ok-make.ensures.ok (λ added r polls step note.
    (All-push (λ (s : Receipt). s.step ≡ Poll c.args.number) added r polls.0 step, (added, r, refl, note ∙ ap note_of c.in-Committed.is)))

pub returns-in-Done-clause-steps : goal.returns-in-Done-clause-steps
returns-in-Done-clause-steps g c =
    Called-more _ _ _ _ _ _ _ c.loop.invariant.polls c.in_ok-make.ensures.ok (λ added r polls step note.
    (All-push (λ (s : Receipt). s.step ≡ Poll c.args.number) added r polls.0 step, (added, r, refl, note ∙ ap note_of c.in-Done.is)))

pub returns-in-Refused-clause-steps : goal.returns-in-Refused-clause-steps
returns-in-Refused-clause-steps g c =
    Called-more _ _ _ _ _ _ _ c.loop.invariant.polls c.in_ok-make.ensures.ok (λ added r polls step note.
    (All-push (λ (s : Receipt). s.step ≡ Poll c.args.number) added r polls.0 step, inl (inr (added, r, refl, note ∙ ap note_of c.in-Refused.is))))

-- ---- which refusal is reported

pub returns-in-Committed-clause-refusal : goal.returns-in-Committed-clause-refusal
returns-in-Committed-clause-refusal g c =
    clean-reported _ _
    (more-clean _ _ _ _ _ c.loop.invariant.clean c.in_ok-make.ensures.ok (ap (λ (reply : Reply). refused_with (note_of reply)) c.in-Committed.is))

pub returns-in-Done-clause-refusal : goal.returns-in-Done-clause-refusal
returns-in-Done-clause-refusal g c =
    clean-reported _ _
    (more-clean _ _ _ _ _ c.loop.invariant.clean c.in_ok-make.ensures.ok (ap (λ (reply : Reply). refused_with (note_of reply)) c.in-Done.is))

pub returns-in-Refused-clause-refusal : goal.returns-in-Refused-clause-refusal
returns-in-Refused-clause-refusal g c =
    more-refused _ _ _ _ _ c.in-Refused.fault c.loop.invariant.clean c.in_ok-make.ensures.ok (ap note_of c.in-Refused.is)
