use Rattle.std.proofs.Common.{◌∙◌, sym, arith}
use Rattle.std.proofs.lemmas.Option.{slice_get_read}
use Rattle.base.proofs.Keys.{key_eq-true}
use Rattle.index.proofs.Changes.{at-place}
use Rattle.index.proofs.map.Index.seek.Goals as goal

pub returns-then-eq-clause-some : goal.returns-then-eq-clause-some
returns-then-eq-clause-some c = grind (arith, key_eq-true c.key.result c.args.key (sym c.eq.ensures ∙ c.if-eq.true), slice_get_read, at-place, c.key.ensures, c.eq.ensures, c.if-eq.true, c.index.ensures, c.self.invariant.0)
