use Rattle.base.specs.Commits.{overlaid}
use Rattle.txn.specs.WriteSets.{plain_writes}
use Rattle.index.specs.Reading.{ranged}
use Rattle.session_steps.proofs.sessions.Sessions.seen_rows.Goals as goal

pub returns-in-Ok-listed : goal.returns-in-Ok-listed
returns-in-Ok-listed g c = λ counts tables agree linked shows.
    c.in-Ok-listed.ensures.rows (ranged c.args.range (overlaid (plain_writes c.args.writes.now) tables)) (c.in-Ok-lay_over.ensures.rows tables (c.in-Ok.ensures counts tables agree linked shows))
