use Rattle.std.proofs.Common.{◌≡◌, ◌==◌, ◌+◌, ◌<◌, ℕ, zero, suc, List, get_or, refl, sym, subst, arith}
use Rattle.std.proofs.lemmas.List.{get_or_read}
use Rattle.journal.specs.Files.{pass_word}
use Rattle.journal.proofs.file_image.leave_image.Goals as goal

pass_is : (x : ℕ) → x < 2 → x ≡ pass_word (x == 0)
pass_is zero lt = refl
pass_is (suc zero) lt = refl
pass_is (suc (suc x)) lt = absurd (omega (arith, lt))

pub returns-clause-pass : goal.returns-clause-pass
returns-clause-pass c =
    let file : List ℕ = c.args.file.now.items in
    let at : ℕ = c.args.words + c.args.room + 3 in
    let size = (rw c.as_slice.ensures.value at c.in_ok-payloads.ensures.file).size in
    let read : c.index.result.now ≡ get_or file at 0 = get_or_read file at c.index.result.now (omega (arith, size)) c.index.ensures 0 in
    subst (λ (x : ℕ). get_or file at 0 ≡ pass_word (x == 0)) (sym read) (pass_is (get_or file at 0) (rw c.as_slice.ensures.value at c.in_ok-payloads.ensures.pass))
