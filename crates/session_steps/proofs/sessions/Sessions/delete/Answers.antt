use Rattle.std.proofs.Math.Bool.{Bool-set}
use Rattle.std.proofs.Math.Logic.{∥∥₁_elim}
use Rattle.std.proofs.Common.{refl, sym, ◌∙◌, true, ap, ℕ, length}
use Rattle.std.specs.Prelude.{Option}
use Rattle.session_steps.specs.Giving.{fits_slot, given}
use Rattle.base.specs.declared.fault.Fault.TheVariants.{WriteSetFull}
use Rattle.base.specs.declared.step.SessionStep.TheVariants.{Delete}
use Rattle.session_steps.proofs.slots.Freeing.{deletes, delete-asks, fits-own_of}
use Rattle.session_steps.proofs.transactions.Steps.{inactive, refuses}
use Rattle.session_steps.proofs.sessions.Sessions.delete.Goals as goal

pub returns-in-Err-clause-step : goal.returns-in-Err-clause-step
returns-in-Err-clause-step c = λ h holds. inactive c.args.self.now (Delete c.args.session c.args.key) c.args.session c.in-Err.fault h refl refl c.in-Err.ensures.fault holds

pub returns-then-own-clause-step : goal.returns-then-own-clause-step
returns-then-own-clause-step c = λ h holds. refuses c.args.self.now (Delete c.args.session c.args.key) WriteSetFull h holds (delete-asks c.args.self.now h c.args.session c.args.key _ _ true holds c.in-Ok.ensures.ok (sym c.own_key-own.ensures.full ∙ c.if-own.true))

pub give-requires : goal.give-requires
give-requires c = ap (fits_slot (length c.args.self.now.slots)) c.own_key-own.ensures.slot ∙ ∥∥₁_elim c.requires.shown (Bool-set _ _) (λ shown. fits-own_of c.args.self.now c.args.session c.args.key _ _ shown.0 c.in-Ok.ensures.ok shown.1)

pub returns-clause-step : goal.returns-clause-step
returns-clause-step c = λ h holds.
    deletes c.args.self.now c.write.new.self c.give.new.slots c.args.session c.args.key c.place.result _ _ h c.in-Ok.ensures.ok (sym c.own_key-own.ensures.full ∙ c.if-own.false)
    (c.give.ensures ∙ ap (λ (o : Option ℕ). given o c.args.self.now.slots) c.own_key-own.ensures.slot) (c.write.ensures _ _ c.in-Ok.ensures.ok) holds
