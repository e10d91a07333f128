use Rattle.board.specs.Shown.{whole}
use Rattle.board.proofs.Growing.{fits}
use Rattle.board.proofs.board.BoardWriter+J+Shelf+J+Step+J+R.publish.Goals as goal

pub add-requires : goal.add-requires
add-requires g c published = fits (whole c.args.self.now) c.args.batch published c.requires
