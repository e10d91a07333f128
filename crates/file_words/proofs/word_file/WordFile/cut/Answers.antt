use Rattle.file_words.specs.Accounts.{Held}
use Rattle.file_words.proofs.Syncs.{sized, sync-found}
use Rattle.file_words.proofs.word_file.WordFile.cut.Goals as goal

pub returns-clause-found : goal.returns-clause-found
returns-clause-found c word x lt held = sized Held _ _ _ _ c.resize.ensures word x lt (sync-found _ _ _ c.sync_all.ensures word x held)
