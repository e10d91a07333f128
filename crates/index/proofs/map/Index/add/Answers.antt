use Rattle.std.proofs.Common.{◌≡◌, [], ◌∷◌, ◌++◌, arith}
use Rattle.index.proofs.Changes.{updated, add-placed, add-sets, add-gains}
use Rattle.index.proofs.LiveKeys.{live-blank}
use Rattle.index.proofs.map.Index.add.Goals as goal

pub invariant_of-self-2 : goal.invariant_of-self-2
invariant_of-self-2 c =
    let added : c.push_reserved.new.self.items ≡ c.self.inside.entries.items ++ (c.args.key, c.blank.result) ∷ [] = grind (arith) in
    (grind (arith, add-placed, updated), live-blank c.self.inside.live c.self.inside.entries.items c.push_reserved.new.self.items c.args.key c.blank.result c.self.invariant.1 c.blank.ensures added)

pub returns-clause-sets : goal.returns-clause-sets
returns-clause-sets c = grind (arith, add-sets)

pub returns-clause-room : goal.returns-clause-room
returns-clause-room c = grind (arith, add-gains)
