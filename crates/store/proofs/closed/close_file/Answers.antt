use Rattle.pmem_file.specs.Devices.{last_image, state_of}
use Rattle.store.proofs.Closings.{covers-history}
use Rattle.store.proofs.closed.close_file.Goals as goal

pub returns-in-Ok-clause-file : goal.returns-in-Ok-clause-file
returns-in-Ok-clause-file g c = record {
  image = last_image c.args.closed.device;
  found = c.in-Ok.ensures.left;
  cut = c.in-Ok.ensures.cut;
  covers =
      covers-history g.J.Origin.opened (state_of c.args.closed.device) g.J.Origin.kept (last_image c.args.closed.device) c.args.closed.front c.if-not-is_written.ensures.left c.requires.history;
}
