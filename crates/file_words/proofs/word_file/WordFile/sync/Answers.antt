use Rattle.file_words.proofs.Syncs.{sync-found}
use Rattle.file_words.proofs.word_file.WordFile.sync.Goals as goal

pub returns-clause-found : goal.returns-clause-found
returns-clause-found c word x held = sync-found _ _ _ c.note_sync.ensures word x held
