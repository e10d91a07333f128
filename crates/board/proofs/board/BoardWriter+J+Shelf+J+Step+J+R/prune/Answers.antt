use Rattle.board.proofs.Growing.{raises}
use Rattle.board.proofs.board.BoardWriter+J+Shelf+J+Step+J+R.prune.Goals as goal

pub add-requires : goal.add-requires
add-requires g c published = raises c.args.self.now.list c.args.self.now.waits c.args.stamp c.requires published
