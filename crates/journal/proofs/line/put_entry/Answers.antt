use Rattle.std.proofs.Common.{◌≡◌, ◌∙◌, ℕ, ◌*◌, ◌∷◌, List, length, take, sym, ap, arith}
use Rattle.std.proofs.Math.Seq.{take-length}
use Rattle.journal.specs.declared.line.Line.{Line}
use Rattle.journal.specs.Entries.{marked, marks}
use Rattle.journal.specs.LinePayloads.{payloads_of_lines}
use Rattle.journal.proofs.Opened.{size}
use Rattle.journal.proofs.line.put_entry.Goals as goal

pub returns : goal.returns
returns c =
    let lines : List Line = c.args.lines.now in
    let all : c.loop-line.line-index ≡ length lines = omega (arith, c.loop-line-test.false, c.loop-line.auto.line-index-end) in
    let taken : take c.loop-line.line-index lines ≡ lines = ap (λ (n : ℕ). take n lines) all ∙ take-length lines in
    let count : 9 * length lines ≡ length (payloads_of_lines lines) = sym (size lines c.requires.lines_are) in
    c.loop-line.invariant ∙ (λ i. marked c.args.pass (count i) ∷ marks c.args.pass (payloads_of_lines (taken i)))
