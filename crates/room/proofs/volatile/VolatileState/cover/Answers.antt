use Rattle.std.proofs.Common.{◌∙◌, sym, ap, subst}
use Rattle.base.specs.Records.{Record}
use Rattle.group_commit.specs.Cycles.{Cycling}
use Rattle.session_steps.specs.Covering.{MayCoverSome, ShowsCovered}
use Rattle.room.proofs.closes.Ticks.{one-hand}
use Rattle.room.proofs.volatile.VolatileState.cover.Goals as goal

pub cover-requires : goal.cover-requires
cover-requires c = subst (λ (r : Record). ∥ MayCoverSome c.args.self.now.sessions r ∥₁) (sym c.record.ensures) (c.requires.may c.in-Some.cycle (sym c.take.ensures.value ∙ c.in-Some.is))

pub returns-clause-shows : goal.returns-clause-shows
returns-clause-shows c = λ cycle is.
    subst (λ (r : Record). ShowsCovered c.args.self.now.sessions c.cover.new.self r)
    (c.record.ensures ∙ ap (λ (x : Cycling). x.writing.target) (one-hand c.args.self.now.cycle c.in-Some.cycle cycle (sym c.take.ensures.value ∙ c.in-Some.is) is))
    c.cover.ensures.shows
