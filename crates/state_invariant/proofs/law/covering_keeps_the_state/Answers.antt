use Rattle.state_invariant.proofs.covers.Kept.{keeps-covered}
use Rattle.state_invariant.proofs.covers.Shown.{shows-covered}
use Rattle.state_invariant.proofs.law.covering_keeps_the_state.Goals as goal

pub returns : goal.returns
returns c = record {
  keeps = λ o q hand kept is. keeps-covered o q hand kept (kept.numbers.hand hand is);
  shows = λ o q hand value up kept is shows. shows-covered o q hand value up kept (kept.numbers.hand hand is) shows;
}
