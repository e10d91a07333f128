use Rattle.std.proofs.Common.{◌*◌, ◌≤◌, arith}
use Rattle.std.proofs.Math.Nat.{mul-le-mul}
use Rattle.base.specs.Layout.{Layout}
use Rattle.base.proofs.Layouts.{few_slots, in-limits}
use Rattle.base.proofs.geometry.Geometry.words.Goals as goal

pub overflow_mul-result-2 : goal.overflow_mul-result-2
overflow_mul-result-2 c =
    let a : Layout = record { version = c.self.inside.version; slots = c.self.inside.slots; places = c.self.inside.places; window = c.self.inside.window } in
    let few : c.slot_words.result * c.self.inside.slots ≤ 1073741824 = mul-le-mul c.slot_words.ensures.few (few_slots a c.self.invariant) in
    omega (arith, few)

pub overflow_add-result-2 : goal.overflow_add-result-2
overflow_add-result-2 c =
    let a : Layout = record { version = c.self.inside.version; slots = c.self.inside.slots; places = c.self.inside.places; window = c.self.inside.window } in
    let few : c.slot_words.result * c.self.inside.slots ≤ 1073741824 = mul-le-mul c.slot_words.ensures.few (few_slots a c.self.invariant) in
    omega (arith, few, (in-limits a c.self.invariant).places.1)

pub returns-clause-low : goal.returns-clause-low
returns-clause-low c =
    let a : Layout = record { version = c.self.inside.version; slots = c.self.inside.slots; places = c.self.inside.places; window = c.self.inside.window } in
    let few : c.slot_words.result * c.self.inside.slots ≤ 1073741824 = mul-le-mul c.slot_words.ensures.few (few_slots a c.self.invariant) in
    omega (arith, few, (in-limits a c.self.invariant).places.1)
