use Rattle.std.proofs.Common.{◌≡◌, Bool, true, rules, subst, sym}
use Rattle.std.specs.Io.KnownBytes.{Consumes}
use Rattle.requests.specs.Frames.{Fills}
use Rattle.requests.proofs.Openings.{receives-opening-ok}
use Rattle.requests.proofs.opening.receive_opening.Goals as goal

pub returns : goal.returns
returns g c =
    let old = g.R.Read.remaining c.args.input.now in
    let mid = g.R.Read.remaining c.fill.new.input in
    let came : c.in_ok-fill.field-0 ≡ true = search rules in
    let first : Consumes old mid c.fill.new.buffer = subst (λ (b : Bool). Fills b old mid c.fill.new.buffer) came c.in_ok-fill.ensures in
    receives-opening-ok c.of.result old mid _ c.receive_name.result c.of.ensures.head (subst (Consumes old mid) (sym c.of.ensures.bytes) first) c.receive_name.ensures
