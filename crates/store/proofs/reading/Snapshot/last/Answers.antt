use Rattle.std.proofs.Common.{◌≡◌, inl, ℕ, ◌+◌, ◌≤◌, ◌^◌, List, take, reverse, arith}
use Rattle.std.specs.Prelude.{Ok, Err}
use Rattle.std.proofs.lemmas.Result.{MatchResult-weaker}
use Rattle.std.specs.Range.Bound.{start_index, end_index}
use Rattle.base.specs.declared.key.Key.{Key}
use Rattle.store.proofs.RangeReads.{read}
use Rattle.store.proofs.reading.Snapshot.last.Goals as goal

pub returns-in-Some-clause-ok : goal.returns-in-Some-clause-ok
returns-in-Some-clause-ok g c has =
    let start = start_index (g.B.RangeBounds.start_bound c.args.range) in
    let end = end_index (g.B.RangeBounds.end_bound c.args.range) (2 ^ 64) in
    let first : c.in-Some.least ≡ start = omega (arith, c.in-Some.ensures.least has, c.in-Some.least-is) in
    let last : c.in-Some.greatest + 1 ≡ end = omega (arith, c.in-Some.ensures.greatest has, c.in-Some.greatest-is) in
    let below : c.in-Some.least ≤ c.in-Some.greatest = omega (arith, c.in-Some.ensures.some, c.in-Some.least-is, c.in-Some.greatest-is) in
    MatchResult-weaker c.last_between.result c.last_between.ensures
    (λ rows answers. inl (read (λ (all : List (Key × List ℕ)). take c.args.limit (reverse all)) c.args.self.now.reads.session c.args.table c.in-Some.least c.in-Some.greatest start end (Ok rows.items) first last below answers))
    (λ error answers. tt)

pub returns-in-Some-clause-err : goal.returns-in-Some-clause-err
returns-in-Some-clause-err g c has =
    let start = start_index (g.B.RangeBounds.start_bound c.args.range) in
    let end = end_index (g.B.RangeBounds.end_bound c.args.range) (2 ^ 64) in
    let first : c.in-Some.least ≡ start = omega (arith, c.in-Some.ensures.least has, c.in-Some.least-is) in
    let last : c.in-Some.greatest + 1 ≡ end = omega (arith, c.in-Some.ensures.greatest has, c.in-Some.greatest-is) in
    let below : c.in-Some.least ≤ c.in-Some.greatest = omega (arith, c.in-Some.ensures.some, c.in-Some.least-is, c.in-Some.greatest-is) in
    MatchResult-weaker c.last_between.result c.last_between.ensures
    (λ rows answers. tt)
    (λ error answers.
    let told = read (λ (all : List (Key × List ℕ)). take c.args.limit (reverse all)) c.args.self.now.reads.session c.args.table c.in-Some.least c.in-Some.greatest start end (Err answers.0) first last below answers.2 in
    (told.0, (answers.0, answers.1, told.1)))
