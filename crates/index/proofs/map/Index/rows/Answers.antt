use Rattle.index.specs.Reading.{ranged}
use Rattle.index.proofs.map.Index.rows.Goals as goal

pub returns-clause-ok : goal.returns-clause-ok
returns-clause-ok g c = λ counts tables agree linked shows. c.in-Ok-listed.ensures.rows (ranged c.args.range tables) (c.in-Ok.ensures counts tables agree linked shows)
