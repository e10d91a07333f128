use Rattle.std.proofs.Common.{rules}
use Rattle.pmem_model.specs.Sim.{device_of}
use Rattle.room.specs.Room.{Shows, device_of as device_in}
use Rattle.lives.proofs.Taken.{repeated-none}
use Rattle.lives.proofs.obeying.repeat.Goals as goal

pub returns-then-asked-eq0 : goal.returns-then-asked-eq0
returns-then-asked-eq0 c = λ q shows. repeated-none q (device_in device_of c.args.room.now) c.args.asked (Shows device_of c.args.room.now) (search rules) shows
