use Rattle.std.proofs.Common.{◌≡◌, ◌<◌, ◌+◌, ◌*◌, ◌/◌, length, arith, ◌∙◌, ◌==◌, cond}
use Rattle.base.proofs.Lists.{read-same}
use Rattle.pmem.specs.Device.{persisted}
use Rattle.pmem_model.specs.Listing.{line_at}
use Rattle.pmem_model.specs.Past.{history_of}
use Rattle.pmem_model.proofs.Listed.{visited_more}
use Rattle.pmem_model.proofs.pending.Pending.persist_listed.Goals as goal

-- the line that was read
line_read : (c : goal.After-row_known-1) → c.index.result.now ≡ line_at c.args.self.now.listed.items c.args.actor.number c.loop-place.place
line_read c = grind (arith, read-same)

pub persist_line-requires : goal.persist_line-requires
persist_line-requires c = grind (arith, line_read)

pub loop-place-preserved : goal.loop-place-preserved
loop-place-preserved c =
    let p = c.args.self.now in
    let inv = c.loop-place.invariant in
    let done = c.persist_line.ensures in
    let within : 64 * c.loop-place.place + c.args.actor.number < length p.listed.items = omega (arith, c.loop-place-test.true, p.listing.within c.args.actor.number, p.listed_size, p.listed.ok, c.args.actor.in_range) in
    let read = read-same p.listed.items (64 * c.loop-place.place + c.args.actor.number) c.index.result.now within c.index.ensures in
    record {
      visited = visited_more p.listed.items c.args.actor.number c.args.histories.now.clock c.loop-place.place (history_of c.args.histories.now.past) (history_of c.loop-place.histories.past) (history_of c.persist_line.new.self.past) inv.visited
          (λ word. done.history word ∙ (λ i. cond ((word / 8) == read i) (persisted c.args.actor.number (inv.clock i) (history_of c.loop-place.histories.past word)) (history_of c.loop-place.histories.past word)));
      values = done.values ∙ inv.values;
      clock = done.clock ∙ inv.clock;
      room = done.room ∙ inv.room;
    }
