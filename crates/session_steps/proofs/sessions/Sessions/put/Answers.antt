use Rattle.std.proofs.Common.{refl, sym, ◌∙◌, ap, length, arith}
use Rattle.base.specs.declared.fault.Fault.TheVariants.{TooLong, WriteSetFull}
use Rattle.base.specs.declared.step.SessionStep.TheVariants.{Put}
use Rattle.session_steps.proofs.puts.Steps.{full-refusal, long-refusal}
use Rattle.session_steps.proofs.transactions.Steps.{inactive-refusal}
use Rattle.session_steps.proofs.Stepping.{held-on, refused-on}
use Rattle.session_steps.proofs.sessions.Sessions.put.Goals as goal

pub returns-in-Err-clause-step : goal.returns-in-Err-clause-step
returns-in-Err-clause-step g c = λ h holds.
    refused-on c.args.self.now (g.D.Pmem.state c.args.device.now) (Put c.args.session c.args.key c.args.row.now) c.in-Err.fault h (g.met.D.Pmem.orderly _) holds
    (inactive-refusal c.args.self.now (Put c.args.session c.args.key c.args.row.now) c.args.session c.in-Err.fault h refl refl c.in-Err.ensures.fault holds.works)

pub returns-then-as_bytes-row_limit-clause-step : goal.returns-then-as_bytes-row_limit-clause-step
returns-then-as_bytes-row_limit-clause-step g c = λ h holds.
    refused-on c.args.self.now (g.D.Pmem.state c.args.device.now) (Put c.args.session c.args.key c.args.row.now) TooLong h (g.met.D.Pmem.orderly _) holds
    (long-refusal c.args.self.now h c.args.session c.args.key c.args.row.now _ _ (held-on c.args.self.now h _ holds) c.in-Ok.ensures.ok (omega (arith, c.if-as_bytes-row_limit.true, c.row_limit.ensures.value, ap length c.as_bytes.ensures.value)))

pub returns-then-own-clause-step : goal.returns-then-own-clause-step
returns-then-own-clause-step g c = λ h holds.
    refused-on c.args.self.now (g.D.Pmem.state c.args.device.now) (Put c.args.session c.args.key c.args.row.now) WriteSetFull h (g.met.D.Pmem.orderly _) holds
    (full-refusal c.args.self.now h c.args.session c.args.key c.args.row.now _ _ (held-on c.args.self.now h _ holds) c.in-Ok.ensures.ok (omega (arith, c.if-as_bytes-row_limit.false, c.row_limit.ensures.value, ap length c.as_bytes.ensures.value)) (sym c.own_key-own.ensures.full ∙ c.if-own.true))
