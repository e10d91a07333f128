use Rattle.std.proofs.Common.{◌+◌, ℕ, arith}
use Rattle.std.proofs.lemmas.List.{length-set}
use Rattle.pmem.specs.Words.{value_of}
use Rattle.version_slot.proofs.Decoding.{set_from}
use Rattle.version_slot.proofs.reading.line_from.Goals as goal

pub loop-w-preserved : goal.loop-w-preserved
loop-w-preserved g c = record {
  size = omega (arith, length-set {A = ℕ}, c.loop-w.invariant.size);
  loaded =
      set_from (λ w. value_of (g.D.Pmem.state c.args.device.now) (c.slot_start-start.result + w)) c.loop-w.words c.args.first c.loop-w.w _
      (omega (arith, c.loop-w.invariant.size, c.loop-w-test.true)) c.load.ensures c.loop-w.invariant.loaded;
}

pub returns : goal.returns
returns g c = grind (arith)
