use Rattle.journal.proofs.Files.{decided-stands_still}
use Rattle.journal.proofs.law.decided_files_stand_still.Goals as goal

pub returns : goal.returns
returns g c image opens =
    let before = g.B.Storage.may_hold c.args.before.now in
    let now = g.S.Storage.may_hold c.args.now.now in
    decided-stands_still before now c.args.words c.args.room c.args.file.now image c.requires.decides c.requires.found opens c.requires.within
