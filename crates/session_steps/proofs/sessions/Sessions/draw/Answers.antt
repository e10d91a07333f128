use Rattle.std.proofs.Math.Bridge.{le_prop}
use Rattle.std.proofs.Math.Logic.{∥∥₁_elim}
use Rattle.session_steps.proofs.Limits.{next-below}
use Rattle.std.proofs.Common.{true, false, refl, sym, ◌∙◌}
use Rattle.std.specs.Prelude.{Some, None}
use Rattle.base.specs.declared.fault.Fault.TheVariants.{Conflict, WindowFull, TimestampsOut}
use Rattle.base.specs.declared.step.SessionStep.TheVariants.{Draw}
use Rattle.session_steps.proofs.draws.Steps.{draw-asks, draws-nothing}
use Rattle.session_steps.proofs.transactions.Steps.{inactive, refuses}
use Rattle.txn.specs.Transactions.{transaction_at}
use Rattle.session_steps.specs.Steps.{is_active}
use Rattle.session_steps.proofs.CodeTests.{nothing-is, some-is, barred}
use Rattle.session_steps.specs.Replies.{drawn}
use Rattle.session_steps.proofs.Settled.{takes-tidied}
use Rattle.session_steps.proofs.sessions.Sessions.draw.Goals as goal

pub returns-in-Err : goal.returns-in-Err
returns-in-Err c = record { step = λ h holds. inactive c.args.self.now (Draw c.args.session) c.args.session c.bar.result h refl refl (barred is_active (transaction_at c.args.self.now.transactions c.args.session) c.bar.result c.in-Err.ensures.barred c.bar.ensures) holds }

pub returns-then-is_empty : goal.returns-then-is_empty
returns-then-is_empty c = record {
  step = λ h holds. draws-nothing c.args.self.now c.set.new.self c.args.session c.in-Ok.active.snapshot.now h (rw (← nothing-is _ _ c.is_empty.ensures c.if-is_empty.true) c.in-Ok.ensures.ok) c.set.ensures holds;
}

pub returns-in-Some : goal.returns-in-Some
returns-in-Some c = record {
  step = λ h holds.
      refuses c.args.self.now (Draw c.args.session) (Conflict c.in-Some.key) h holds
      (draw-asks c.args.self.now h c.args.session _ _ (Some c.in-Some.key) _ _ (some-is _ _ c.is_empty.ensures c.if-is_empty.false) c.in-Ok.ensures.ok holds (sym c.in-Some.is ∙ c.ask-asked.ensures.conflict) refl refl);
}

pub returns-then-is_window_full : goal.returns-then-is_window_full
returns-then-is_window_full c = record {
  step = λ h holds.
      refuses c.args.self.now (Draw c.args.session) WindowFull h holds
      (draw-asks c.args.self.now h c.args.session _ _ None true _ (some-is _ _ c.is_empty.ensures c.if-is_empty.false) c.in-Ok.ensures.ok holds (sym c.in_default.is ∙ c.ask-asked.ensures.conflict) (sym c.is_window_full.ensures ∙ c.if-is_window_full.true) refl);
}

pub returns-then-is_near_limit : goal.returns-then-is_near_limit
returns-then-is_near_limit c = record {
  step = λ h holds.
      refuses c.args.self.now (Draw c.args.session) TimestampsOut h holds
      (draw-asks c.args.self.now h c.args.session _ _ None false true (some-is _ _ c.is_empty.ensures c.if-is_empty.false) c.in-Ok.ensures.ok holds (sym c.in_default.is ∙ c.ask-asked.ensures.conflict) (sym c.is_window_full.ensures ∙ c.if-is_window_full.false) (sym c.is_near_limit.ensures ∙ c.if-is_near_limit.true));
}

pub is_near_limit-requires : goal.is_near_limit-requires
is_near_limit-requires c = ∥∥₁_elim c.requires.shown le_prop (λ shown. next-below c.args.self.now shown.0 shown.1)

pub returns : goal.returns
returns c = record { step = takes-tidied c.args.self.now c.draw_next-drawn.new.self c.settle_next.new.self (Draw c.args.session) (drawn c.draw_next-drawn.result) c.settle_next.ensures c.draw_next-drawn.ensures.step }
