use Rattle.room.proofs.room.Room.usage.Goals as goal

pub returns : goal.returns
returns g c = λ q shows. record {
  rows = c.row_count.ensures (g.D.Pmem.state c.args.self.now.device) q shows.agrees.shown.shown;
  free = c.free_slots.ensures (g.D.Pmem.state c.args.self.now.device) q shows.agrees.shown.shown;
}
