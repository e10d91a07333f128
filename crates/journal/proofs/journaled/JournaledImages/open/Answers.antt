use Rattle.std.proofs.Common.{◌≡◌, ◌∙◌, inl, true, false, Bool, ℕ, ◌+◌, ◌*◌, ◌<◌, ◌≤◌, List, length, refl, sym, ap, arith}
use Rattle.journal.specs.declared.line.Line.{Line}
use Rattle.journal.specs.Kept.{is_put_at}
use Rattle.journal.specs.Files.{pass_word}
use Rattle.journal.proofs.Appended.{may-kept}
use Rattle.journal.proofs.Files.{read-stands, rewritten-stands}
use Rattle.journal.proofs.Tails.{names_read, first_read, first_pass}
use Rattle.journal.proofs.Decides.{decides_rests}
use Rattle.journal.proofs.Placings.{placed-read}
use Rattle.journal.proofs.journaled.JournaledImages.open.Goals as goal
use Rattle.journal.proofs.journaled.JournaledImages.open.Goals.{then-pass, else-pass}

false-true : false ≡ true → ⊥
false-true is = grind (arith)

pass_true : (pass : Bool) → pass_word pass ≡ 0 → pass ≡ true
pass_true true is = refl
pass_true false is = absurd (omega (arith, is))

pub returns-in-Err-clause-unopened : goal.returns-in-Err-clause-unopened
returns-in-Err-clause-unopened g c = read-stands (g.S.Storage.may_hold c.args.storage) c.args.words c.args.room c.args.file.now.items c.requires.back c.requires.still

pub returns-in-Err-clause-first : goal.returns-in-Err-clause-first
returns-in-Err-clause-first g c is begins = inl (first_read (g.S.Storage.may_hold c.args.storage) c.args.words c.args.room c.args.file.now.items (c.requires.back is.size) begins)

pub returns-in_default-clause-unopened : goal.returns-in_default-clause-unopened
returns-in_default-clause-unopened g c = read-stands (g.S.Storage.may_hold c.args.storage) c.args.words c.args.room c.args.file.now.items c.requires.back c.requires.still

pub returns-in_default-clause-tail : goal.returns-in_default-clause-tail
returns-in_default-clause-tail g c is has = names_read (g.S.Storage.may_hold c.args.storage) c.args.words c.args.room c.args.file.now.items (c.requires.back is.size) has

pub returns-in-Ok-rewrite-clause-found : goal.returns-in-Ok-rewrite-clause-found
returns-in-Ok-rewrite-clause-found g c image may =
    let is : c.of.result.value.items ≡ c.leave_image.new.file.items = ap (λ v. v.items) c.of.ensures in
    let durable = c.of.result.value.items in
    may-kept (g.S.Storage.may_hold c.rewrite.new.storage) (length durable) c.args.room true 0 durable image (rw (sym is) at c.in-Ok-rewrite.ensures.rests) refl may

pub returns-in-Err-rewrite-clause-unopened : goal.returns-in-Err-rewrite-clause-unopened
returns-in-Err-rewrite-clause-unopened g c =
    let opens = c.in-Ok.ensures.stands in
    let old = g.S.Storage.may_hold c.args.storage in
    let new = g.S.Storage.may_hold c.rewrite.new.storage in
    rewritten-stands old new c.args.words c.args.room c.args.file.now.items c.leave_image.new.file.items c.in-Ok.ensures.file.size c.requires.back c.requires.still opens (rw opens.size at c.rewrite.ensures.opens)

pub returns-in-Err-rewrite-clause-tail : goal.returns-in-Err-rewrite-clause-tail
returns-in-Err-rewrite-clause-tail g c is has =
    let old = g.S.Storage.may_hold c.args.storage in
    let size = c.in-Ok.ensures.stands.size in
    (rw size at c.rewrite.ensures.tail) (names_read old c.args.words c.args.room c.args.file.now.items (c.requires.back is.size) has)

pub returns-in-Err-rewrite-clause-first : goal.returns-in-Err-rewrite-clause-first
returns-in-Err-rewrite-clause-first g c is begins =
    let words = c.args.words in
    let room = c.args.room in
    let file : List ℕ = c.args.file.now.items in
    let size = c.in-Ok.ensures.stands.size in
    let pass = pass_true c.in-Ok.left.0 (sym c.in-Ok.ensures.pass ∙ first_pass words room file begins) in
    (rw size at c.rewrite.ensures.first) pass (first_read (g.S.Storage.may_hold c.args.storage) words room file (c.requires.back is.size) begins)

pub invariant_of-result-clause-sized : goal.invariant_of-result-clause-sized
invariant_of-result-clause-sized g c =
    let is : c.of.result.value.items ≡ c.leave_image.new.file.items = ap (λ v. v.items) c.of.ensures in
    let size : length c.of.result.value.items ≡ c.args.words = ap (λ (l : List ℕ). length l) is ∙ c.in-Ok.ensures.stands.size in
    sym size

pub invariant_of-result-clause-whole : goal.invariant_of-result-clause-whole
invariant_of-result-clause-whole g c =
    let is : c.of.result.value.items ≡ c.leave_image.new.file.items = ap (λ v. v.items) c.of.ensures in
    let size : length c.of.result.value.items ≡ c.args.words = ap (λ (l : List ℕ). length l) is ∙ c.in-Ok.ensures.stands.size in
    omega (arith, c.in-Ok.ensures.file.whole, size)

pub invariant_of-result-clause-fits : goal.invariant_of-result-clause-fits
invariant_of-result-clause-fits g c =
    let is : c.of.result.value.items ≡ c.leave_image.new.file.items = ap (λ v. v.items) c.of.ensures in
    let size : length c.of.result.value.items ≡ c.args.words = ap (λ (l : List ℕ). length l) is ∙ c.in-Ok.ensures.stands.size in
    omega (arith, c.in-Ok.ensures.file.fits, size)

pub invariant_of-result-clause-rests : goal.invariant_of-result-clause-rests
invariant_of-result-clause-rests g c works none =
    let is : c.of.result.value.items ≡ c.leave_image.new.file.items = ap (λ v. v.items) c.of.ensures in
    rw (sym is) at c.in-Ok-rewrite.ensures.rests

pub invariant_of-result-clause-named : goal.invariant_of-result-clause-named
invariant_of-result-clause-named g c =
    let is : c.of.result.value.items ≡ c.leave_image.new.file.items = ap (λ v. v.items) c.of.ensures in
    rw (sym is) at c.in-Ok-rewrite.ensures.named

pub invariant_of-result-clause-part : goal.invariant_of-result-clause-part
invariant_of-result-clause-part g c =
    let is : c.of.result.value.items ≡ c.leave_image.new.file.items = ap (λ v. v.items) c.of.ensures in
    rw (sym is) at c.in-Ok-rewrite.ensures.part

pub invariant_of-result-clause-holds : goal.invariant_of-result-clause-holds
invariant_of-result-clause-holds g c =
    let is : c.of.result.value.items ≡ c.leave_image.new.file.items = ap (λ v. v.items) c.of.ensures in
    rw (sym is) at c.in-Ok-rewrite.ensures.holds

pub invariant_of-result-clause-decides : goal.invariant_of-result-clause-decides
invariant_of-result-clause-decides g c =
    let is : c.of.result.value.items ≡ c.leave_image.new.file.items = ap (λ v. v.items) c.of.ensures in
    let durable = c.of.result.value.items in
    decides_rests (g.S.Storage.may_hold c.rewrite.new.storage) (length durable) c.args.room true 0 durable (rw (sym is) at c.in-Ok-rewrite.ensures.rests)

pub invariant_of-result-clause-placed : goal.invariant_of-result-clause-placed
invariant_of-result-clause-placed g c works =
    let is : c.of.result.value.items ≡ c.leave_image.new.file.items = ap (λ v. v.items) c.of.ensures in
    rw (sym is) at c.in-Ok-rewrite.ensures.placed

pub rewrite-requires-clause-placed : goal.rewrite-requires-clause-placed
rewrite-requires-clause-placed g c =
    let size : 8 * length c.in-Ok-new.unplaced.marks.items ≡ length c.leave_image.new.file.items = omega (arith, c.in-Ok-new.ensures.size, c.in-Ok.ensures.file.whole, c.in-Ok.ensures.stands.size) in
    let lines = c.in-Ok-new.ensures.lines ∙ c.in-Ok.ensures.lines in
    placed-read (g.S.Storage.may_hold c.args.storage) c.args.words c.args.room c.in-Ok-new.unplaced.lines.items c.in-Ok-new.unplaced.marks.items c.args.file.now.items c.leave_image.new.file.items lines size
    (λ number lt. c.in-Ok-new.ensures.marks number (omega (arith, lt, c.in-Ok-new.ensures.size)) ∙ ap (λ (l : List Line). is_put_at l number) (sym c.in-Ok-new.ensures.lines))
    c.in-Ok.ensures.stands (c.requires.still c.in-Ok.ensures.file.size)

pub rewrite-requires-clause-blank : goal.rewrite-requires-clause-blank
rewrite-requires-clause-blank g c is = elim c.if-pass.branch [
  | then-pass w ↦
      let size = c.in-Ok.ensures.stands.size in
      let zeroed = sym w.is_blank-is ∙ is in (
        w.if-pass.true,
        λ word x above below held.
            let from : c.args.words ≤ word = omega (arith, size, above) in
            let to : word < c.args.words + c.args.room = omega (arith, size, below) in
            c.requires.back c.in-Ok.ensures.file.size word x from (omega (arith, to)) held ∙ (rw c.as_slice.ensures.value at c.is_zeroed-is_zeroed.ensures) zeroed word from to,
      )
  | else-pass w ↦ absurd (false-true (sym w.if-pass.false ∙ sym w.is_blank-is ∙ is))
]
