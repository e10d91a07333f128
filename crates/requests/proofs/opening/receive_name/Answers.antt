use Rattle.std.proofs.Common.{◌≡◌, length, take_all, Bool, true, rules, sym, ◌∙◌, subst}
use Rattle.std.proofs.lemmas.List.{take-append-le}
use Rattle.std.specs.Io.KnownBytes.{Consumes}
use Rattle.requests.specs.Frames.{Fills}
use Rattle.requests.proofs.Openings.{receives-whole}
use Rattle.requests.proofs.opening.receive_name.Goals as goal

pub returns : goal.returns
returns g c =
    let old = g.R.Read.remaining c.args.input.now in
    let new = g.R.Read.remaining c.fill.new.input in
    let payload = c.as_slice.result.now in
    let came : c.in_ok-fill.field-0 ≡ true = search rules in
    let size : length c.fill.new.buffer ≡ c.resize.new.self.len = search rules in
    let same : payload ≡ c.fill.new.buffer =
    c.as_slice.ensures.value ∙ take-append-le c.resize.new.self.len c.fill.new.buffer _ (search (rules, size)) ∙ take_all c.resize.new.self.len c.fill.new.buffer (search (rules, size)) in
    let read : Consumes old new c.fill.new.buffer = subst (λ (b : Bool). Fills b old new c.fill.new.buffer) came c.in_ok-fill.ensures in
    receives-whole c.args.head.now old new payload c.in_ok-opening_of.field-0 (subst (Consumes old new) (sym same) read) (search rules) c.in_ok-opening_of.ensures
