use Rattle.file_words.specs.Accounts.{Anything, shown_is_held}
use Rattle.file_words.specs.Calls.{calls_of, held_by, shown_by}
use Rattle.file_words.proofs.Zeros.{shown-zero, zero-again}
use Rattle.file_words.proofs.word_file.WordFile.write_zeros.Goals as goal

pub returns-clause-found : goal.returns-clause-found
returns-clause-found c word x =
    let calls = calls_of c.args.self.now.account in
    zero-again (held_by c.args.self.now.account) (held_by c.write_part.new.self.account) c.args.start 4096 c.args.count c.requires.few
    (λ place le lt. shown_is_held Anything calls place 0 (shown-zero calls place (c.requires.zeros place le lt))) word x (c.write_part.ensures.found word x)

pub returns-clause-others : goal.returns-clause-others
returns-clause-others c word x =
    let calls = calls_of c.args.self.now.account in
    zero-again (shown_by c.args.self.now.account) (shown_by c.write_part.new.self.account) c.args.start 4096 c.args.count c.requires.few
    (λ place le lt. shown-zero calls place (c.requires.zeros place le lt)) word x (c.write_part.ensures.others word x)
