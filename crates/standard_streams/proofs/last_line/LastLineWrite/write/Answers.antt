use Rattle.std.proofs.Common.{◌≡◌, ap, ◌∙◌, ◌++◌, [], sym, refl, arith, true, false}
use Rattle.std.proofs.lemmas.Bool.{false≢true}
use Rattle.std.proofs.lemmas.Grind.{common_steps}
use Rattle.std.proofs.lemmas.Result.{IfOk-weaker}
use Rattle.std.specs.Io.KnownBytes.{Keeps, append_known}
use Rattle.standard_streams.specs.Lines.{ends_work, is_ended, unfinished}
use Rattle.standard_streams.proofs.Known.{held-appends, keeps-same}
use Rattle.standard_streams.proofs.Taking.{first-of, one-line-grown, takes-all, takes-some, unfinished-ended, unfinished-open}
use Rattle.standard_streams.proofs.last_line.LastLineWrite.write.Goals as goal
use Rattle.standard_streams.proofs.last_line.LastLineWrite.write.Goals.{then-is_ended+in_ok-pass_on, else-is_ended}
use Rattle.standard_streams.proofs.last_line.LastLineWrite.write.Goals.{else-is_empty-via-then-is_empty+then-is_ended-2+else-not-ends_work, else-is_empty-via-then-is_empty+else-is_ended-2, else-is_empty-via-else-is_empty}

-- src/last_line.rt:72:5
pub returns-clause-bytes : goal.returns-clause-bytes
returns-clause-bytes g c =
    let kept : Keeps (append_known (g.W.Write.contents c.args.self.now.output) c.args.self.now.held.items) (append_known (g.W.Write.contents c.if-is_ended.self.output) c.if-is_ended.self.held.items) =
    elim c.if-is_ended.branch [
      | then-is_ended+in_ok-pass_on w ↦ rw w.self-is (w.pass_on.ensures.bytes)
      | else-is_ended w ↦ rw w.self-is (keeps-same _)
    ] in
    held-appends _ _ _ _ _ kept (c.in_ok-extend_from_slice.ensures.items ∙ ap (λ line. c.if-is_ended.self.held.items ++ line) c.first_line-line.ensures.front)

pub invariant_of-self-2 : goal.invariant_of-self-2
invariant_of-self-2 g c = grind (arith, one-line-grown, c.if-is_ended.branch, c.as_slice.ensures.value, c.first_line-line.ensures.one_line)

pub returns-then-not-ends_work-clause-line : goal.returns-then-not-ends_work-clause-line
returns-then-not-ends_work-clause-line g c =
    let none : c.if-is_ended.self.held.items ≡ [] = grind (arith, common_steps) in
    let ended : is_ended c.first_line-line.result.now ≡ true = sym c.is_ended-then-is_empty.ensures ∙ c.if-is_ended-2.true in
    let plain : ends_work c.first_line-line.result.now ≡ false = grind (arith, common_steps) in
    let empty : unfinished c.args.self.now.held.items ≡ [] = elim c.if-is_ended.branch [
      | then-is_ended+in_ok-pass_on w ↦ unfinished-ended c.args.self.now.held.items (ap is_ended (sym c.as_slice.ensures.value) ∙ (sym c.is_ended.ensures ∙ w.if-is_ended.true))
      | else-is_ended w ↦ unfinished-open c.args.self.now.held.items (ap is_ended (sym c.as_slice.ensures.value) ∙ (sym c.is_ended.ensures ∙ w.if-is_ended.false))
          ∙ (let e : c.args.self.now.held.items ≡ [] = rw (sym w.self-is) none in e)
    ] in
    let first = first-of c.args.buf.now c.first_line-line.result.now c.first_line-line.ensures.front c.first_line-line.ensures.one_line c.first_line-line.ensures.ended in
    IfOk-weaker c.write.result _ _ (λ count few. takes-some _ c.first_line-line.result.now _ c.args.buf.now count empty first few ended plain none) c.write.ensures.bound

pub returns-clause-line : goal.returns-clause-line
returns-clause-line g c =
    let same : c.if-is_ended.self.held.items ≡ unfinished c.args.self.now.held.items = elim c.if-is_ended.branch [
      | then-is_ended+in_ok-pass_on w ↦ (rw w.self-is w.in_ok-pass_on.ensures.all)
          ∙ sym (unfinished-ended c.args.self.now.held.items (ap is_ended (sym c.as_slice.ensures.value) ∙ (sym c.is_ended.ensures ∙ w.if-is_ended.true)))
      | else-is_ended w ↦ rw w.self-is (sym (unfinished-open c.args.self.now.held.items (ap is_ended (sym c.as_slice.ensures.value) ∙ (sym c.is_ended.ensures ∙ w.if-is_ended.false))))
    ] in
    let first = first-of c.args.buf.now c.first_line-line.result.now c.first_line-line.ensures.front c.first_line-line.ensures.one_line c.first_line-line.ensures.ended in
    takes-all c.args.self.now.held.items c.if-is_ended.self.held.items c.first_line-line.result.now c.extend_from_slice.new.self.items c.args.buf.now _ same first refl c.in_ok-extend_from_slice.ensures.items
    (λ none ended plain. elim c.else-is_empty.branch [
      | else-is_empty-via-then-is_empty+then-is_ended-2+else-not-ends_work w ↦ false≢true (sym plain ∙ (let e : ends_work c.first_line-line.result.now ≡ true = grind (arith, common_steps, w.if-not-ends_work.false) in e))
      | else-is_empty-via-then-is_empty+else-is_ended-2 w ↦ false≢true (sym (sym w.is_ended-then-is_empty.ensures ∙ w.if-is_ended-2.false) ∙ ended)
      | else-is_empty-via-else-is_empty w ↦ (let gone : c.if-is_ended.self.held.items ≡ [] = same ∙ none in let e : ⊥ = grind (arith, common_steps, gone, w.if-is_empty.false) in e)
    ])
