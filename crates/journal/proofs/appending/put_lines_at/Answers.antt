use Rattle.std.proofs.Common.{◌≡◌, ℕ, suc, ◌+◌, List, length, take, sym, subst, arith}
use Rattle.std.proofs.Math.Seq.{take-suc, take-length}
use Rattle.journal.specs.Changes.{AreFound}
use Rattle.journal.proofs.Changes.{found-changed}
use Rattle.journal.proofs.appending.put_lines_at.Goals as goal

pub loop-number-preserved : goal.loop-number-preserved
loop-number-preserved c =
    let numbers = c.args.numbers.now in
    let n = c.loop-number.number-index in
    let next : n + 1 ≡ suc n = omega arith in
    let P : List ℕ → Type 0 = λ l. AreFound c.push_line.new.lines.items c.args.words.now l in
    subst (λ (m : ℕ). P (take m numbers)) (sym next) (subst P (sym (take-suc numbers n _ c.loop-number-test.true)) (c.in_ok-push_line.ensures (take n numbers) c.loop-number.invariant))

pub returns : goal.returns
returns c durable differs =
    let numbers = c.args.numbers.now in
    let all : c.loop-number.number-index ≡ length numbers = omega (arith, c.loop-number-test.false, c.loop-number.auto.number-index-end) in
    let P : List ℕ → Type 0 = λ l. AreFound c.loop-number.lines.items c.args.words.now l in
    found-changed c.loop-number.lines.items durable c.args.words.now numbers
    (subst P (take-length numbers) (subst (λ (n : ℕ). P (take n numbers)) all c.loop-number.invariant)) differs
