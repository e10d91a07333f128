use Rattle.std.proofs.Common.{nat_eq, None, ◌∙◌}
use Rattle.board.specs.Versions.{lookup_version}
use Rattle.board.proofs.Places.{version_changed, forgotten_write}
use Rattle.board.proofs.versions.forget_writes.Goals as goal

pub loop-write-preserved : goal.loop-write-preserved
loop-write-preserved c k s =
    forgotten_write c.args.writes.now c.loop-write.write-index c.write-item.result k (nat_eq c.args.stamp s) (lookup_version c.loop-write.versions.entries k s) (lookup_version c.remove.new.self.entries k s) c.write-item.is c.loop-write-test.true
    (version_changed c.loop-write.versions.entries c.remove.new.self.entries (record { key = c.write-item.result.0; stamp = c.args.stamp }) None (λ q. c.remove.ensures.updates.0 q) k s)
    ∙ c.loop-write.invariant k s
