use Rattle.base.proofs.Fresh.{fresh-stands}
use Rattle.base.proofs.law.fresh_images_stand.Goals as goal

pub returns : goal.returns
returns c = fresh-stands
