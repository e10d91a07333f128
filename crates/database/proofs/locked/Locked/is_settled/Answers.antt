use Rattle.std.proofs.Common.{inl, ◌≡◌, ◌∙◌, ◌≤◌, ap, sym, false, subst, leb-true, rules}
use Rattle.std.specs.Prelude.{is_some}
use Rattle.database.specs.Obeys.{ended_of}
use Rattle.room.specs.Room.{ShowsStatus}
use Rattle.room.proofs.Runs.{comes-weaken}
use Rattle.database.proofs.Errors.{settled-ended, settled-exact}
use Rattle.database.proofs.locked.Locked.is_settled.Goals as goal

pub returns-then-is_some-clause-so : goal.returns-then-is_some-clause-so
returns-then-is_some-clause-so g c is = settled-ended c.args.timestamp c.ended.result c.ended.ensures.so (search rules)

pub returns-in-Some-clause-so : goal.returns-in-Some-clause-so
returns-in-Some-clause-so g c is =
    inl (comes-weaken (λ q. ShowsStatus q c.status.result) (λ q. c.args.timestamp ≤ q.ruling.persisted)
    (λ q shows. subst (λ n. c.args.timestamp ≤ n) shows.persisted (leb-true c.args.timestamp c.status.result.persisted is)) c.status.ensures.comes)

pub returns-in-Some-clause-exact : goal.returns-in-Some-clause-exact
returns-in-Some-clause-exact g c =
    let none : is_some c.ended.result ≡ false = search rules in
    settled-exact g.D.Pmem.state c.args.self.now.room c.in-Some.room c.args.timestamp c.status.result c.in-Some.is (sym (ap is_some (c.ended.ensures.ended ∙ ap ended_of c.in-Some.is)) ∙ none) c.status.ensures.shows
