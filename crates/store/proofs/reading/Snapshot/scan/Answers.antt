use Rattle.std.proofs.Common.{◌≡◌, inl, ℕ, ◌+◌, ◌-◌, ◌<◌, ◌≤◌, ◌^◌, List, subst, arith}
use Rattle.std.specs.Prelude.{Option, Result, Ok, Err}
use Rattle.std.proofs.lemmas.Result.{IfOk-weaker, MatchResult-weaker}
use Rattle.std.specs.Range.Bound.{start_index, end_index}
use Rattle.base.specs.declared.fault.Fault.{Fault}
use Rattle.base.specs.declared.key.Key.{Key}
use Rattle.base.specs.declared.step.Step.TheVariants.{Scan}
use Rattle.database.specs.Replies.{rows_of}
use Rattle.database.specs.Obeys.{AnswersStep}
use Rattle.database.specs.Histories.{Known, Replies, Sees}
use Rattle.pmem.specs.Device.{Device}
use Rattle.store.specs.Answers.{SeesScan}
use Rattle.store.proofs.reading.Snapshot.scan.Goals as goal

-- the same scan, in terms of where the range begins and ends
scanned : (session table least greatest start end : ℕ) (told : Result (List (Key × List ℕ)) Fault) → least ≡ start → greatest + 1 ≡ end → least ≤ greatest
    → AnswersStep (Scan session table least greatest) rows_of told → (start < end) × AnswersStep (Scan session table start (end - 1)) rows_of told
scanned session table least greatest start end told first last below answers =
    let ends : greatest ≡ end - 1 = omega (arith, last) in (
      omega (arith, first, last, below),
      subst (λ (n : ℕ). AnswersStep (Scan session table start n) rows_of told) ends (subst (λ (n : ℕ). AnswersStep (Scan session table n greatest) rows_of told) first answers),
    )

-- the same of what is seen
seen : (opened : Device) (session table least greatest start end : ℕ) (trace : Option Known) (rows : List (Key × List ℕ)) → least ≡ start → greatest + 1 ≡ end
    → Sees opened session trace (λ q. Replies q (Scan session table least greatest) rows_of (Ok rows)) → Sees opened session trace (λ q. Replies q (Scan session table start (end - 1)) rows_of (Ok rows))
seen opened session table least greatest start end trace rows first last sees =
    let ends : greatest ≡ end - 1 = omega (arith, last) in
    subst (λ (n : ℕ). Sees opened session trace (λ q. Replies q (Scan session table start n) rows_of (Ok rows))) ends
    (subst (λ (n : ℕ). Sees opened session trace (λ q. Replies q (Scan session table n greatest) rows_of (Ok rows))) first sees)

pub returns-in-Some-clause-ok : goal.returns-in-Some-clause-ok
returns-in-Some-clause-ok g c has =
    let start = start_index (g.B.RangeBounds.start_bound c.args.range) in
    let end = end_index (g.B.RangeBounds.end_bound c.args.range) (2 ^ 64) in
    let first : c.in-Some.least ≡ start = omega (arith, c.in-Some.ensures.least has, c.in-Some.least-is) in
    let last : c.in-Some.greatest + 1 ≡ end = omega (arith, c.in-Some.ensures.greatest has, c.in-Some.greatest-is) in
    let below : c.in-Some.least ≤ c.in-Some.greatest = omega (arith, c.in-Some.ensures.some, c.in-Some.least-is, c.in-Some.greatest-is) in
    MatchResult-weaker c.scan_between.result c.scan_between.ensures.answers
    (λ rows answers. inl (scanned c.args.self.now.reads.session c.args.table c.in-Some.least c.in-Some.greatest start end (Ok rows.items) first last below answers))
    (λ error answers. tt)

pub returns-in-Some-clause-err : goal.returns-in-Some-clause-err
returns-in-Some-clause-err g c has =
    let start = start_index (g.B.RangeBounds.start_bound c.args.range) in
    let end = end_index (g.B.RangeBounds.end_bound c.args.range) (2 ^ 64) in
    let first : c.in-Some.least ≡ start = omega (arith, c.in-Some.ensures.least has, c.in-Some.least-is) in
    let last : c.in-Some.greatest + 1 ≡ end = omega (arith, c.in-Some.ensures.greatest has, c.in-Some.greatest-is) in
    let below : c.in-Some.least ≤ c.in-Some.greatest = omega (arith, c.in-Some.ensures.some, c.in-Some.least-is, c.in-Some.greatest-is) in
    MatchResult-weaker c.scan_between.result c.scan_between.ensures.answers
    (λ rows answers. tt)
    (λ error answers.
    let told = scanned c.args.self.now.reads.session c.args.table c.in-Some.least c.in-Some.greatest start end (Err answers.0) first last below answers.2 in
    (told.0, (answers.0, answers.1, told.1)))

pub returns-in-Some-clause-sees : goal.returns-in-Some-clause-sees
returns-in-Some-clause-sees g c has =
    let start = start_index (g.B.RangeBounds.start_bound c.args.range) in
    let end = end_index (g.B.RangeBounds.end_bound c.args.range) (2 ^ 64) in
    let first : c.in-Some.least ≡ start = omega (arith, c.in-Some.ensures.least has, c.in-Some.least-is) in
    let last : c.in-Some.greatest + 1 ≡ end = omega (arith, c.in-Some.ensures.greatest has, c.in-Some.greatest-is) in
    let below : c.in-Some.least ≤ c.in-Some.greatest = omega (arith, c.in-Some.ensures.some, c.in-Some.least-is, c.in-Some.greatest-is) in
    IfOk-weaker c.scan_between.result
    (λ rows. Sees g.J.Origin.opened c.args.self.now.reads.session c.args.self.now.reads.trace (λ q. Replies q (Scan c.args.self.now.reads.session c.args.table c.in-Some.least c.in-Some.greatest) rows_of (Ok rows.items)))
    (λ rows. SeesScan g.J.Origin.opened c.args.self.now.reads.session c.args.self.now.reads.trace c.args.table start end rows.items)
    (λ rows sees. inl (omega (arith, first, last, below), seen g.J.Origin.opened c.args.self.now.reads.session c.args.table c.in-Some.least c.in-Some.greatest start end c.args.self.now.reads.trace rows.items first last sees))
    c.scan_between.ensures.sees
