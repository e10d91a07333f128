use Rattle.std.proofs.Common.{◌-◌, suc, inl, inr, arith, rules}
use Rattle.pmem_model.specs.Sim.{device_of}
use Rattle.room.specs.Room.{Shows, device_of as device_in}
use Rattle.lives.proofs.Ends.{orderly}
use Rattle.lives.proofs.Taken.{room-takes, taken-once, taken-more, repeated-so}
use Rattle.lives.proofs.obeying.take.Goals as goal

pub loop-init : goal.loop-init
loop-init c = (
  0,
  omega arith,
  omega arith,
  λ q shows. taken-once q (device_in device_of c.args.room.now) (device_in device_of c.step-reply.new.self) c.args.asked.step c.step-reply.result (Shows device_of c.args.room.now) (Shows device_of c.step-reply.new.self) shows
      (room-takes device_of c.args.room.now c.step-reply.new.self c.args.asked.step c.step-reply.result c.step-reply.ensures.step),
)

pub loop-preserved : goal.loop-preserved
loop-preserved c =
    let before = c.loop.invariant in
    let again = c.step-reply-in-loop in (
      suc before.0,
      omega (arith, before.1),
      omega (arith, before.1, before.2, c.loop-test.true),
      λ q shows. taken-more q (device_in device_of c.args.room.now) (device_in device_of c.loop.room) (device_in device_of again.new.self) c.args.asked.step before.0 c.loop.reply again.result
          (Shows device_of c.loop.room) (Shows device_of again.new.self) (search rules) (before.3 q shows)
          (room-takes device_of c.loop.room again.new.self c.args.asked.step again.result again.ensures.step),
    )

pub returns-after-loop : goal.returns-after-loop
returns-after-loop c =
    let made = c.loop.invariant in
    let some = c.requires in
    λ q shows. repeated-so device_of c.loop.room q (device_in device_of c.args.room.now) c.args.asked made.0 (c.args.asked.times - made.0 - 1) c.loop.reply (orderly c.loop.room.device)
    (omega (arith, made.2, some)) (inl (omega (arith, made.1, made.2, c.loop-test.false))) (made.3 q shows)

pub returns-then-is_final : goal.returns-then-is_final
returns-then-is_final c =
    let made = c.loop.invariant in
    let some = c.requires in
    λ q shows. repeated-so device_of c.loop.room q (device_in device_of c.args.room.now) c.args.asked made.0 (c.args.asked.times - made.0 - 1) c.loop.reply (orderly c.loop.room.device)
    (omega (arith, made.2, some)) (inr (search rules)) (made.3 q shows)
