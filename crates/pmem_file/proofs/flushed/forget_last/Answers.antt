use Rattle.std.proofs.Common.{◌≡◌, ◌∙◌, ◌-◌, ◌<◌, ℕ, List, Some, get_or, length, vec_len, sym, ap, subst, arith}
use Rattle.std.proofs.lemmas.Option.{get_or_from_slice_get, slice_get_within}
use Rattle.pmem_file.specs.declared.flushed.Flushed.{Flushed}
use Rattle.pmem_file.proofs.Flushes.{others-left}
use Rattle.pmem_file.proofs.flushed.forget_last.Goals as goal

pub loop-last-preserved : goal.loop-last-preserved
loop-last-preserved c =
    let old = c.loop-last.flushed in
    let listed = c.as_slice.result.now in
    let last = c.in-Some.last.now in
    let there = sym c.in-Some.ensures.value in
    let count : length listed ≡ vec_len old = omega (arith, c.as_slice.ensures.len) in
    let some : 0 < vec_len old = let within = slice_get_within listed (length listed - 1) last there in omega (arith, within, count) in
    let is : get_or old.items (vec_len old - 1) last ≡ last =
    subst (λ (n : ℕ). get_or old.items (n - 1) last ≡ last) count
    (subst (λ (l : List Flushed). get_or l (length listed - 1) last ≡ last) c.as_slice.ensures.value (get_or_from_slice_get listed (length listed - 1) last last there)) in
    let popped : c.pop.result ≡ Some last = c.pop.ensures.value last some ∙ ap (λ (one : Flushed). Some one) is in
    let own : last.actor ≡ c.args.actor = omega (arith, c.if-last-actor.false) in
    others-left c.args.actor old.items c.pop.new.self.items c.pop.result last c.pop.ensures.items popped own ∙ c.loop-last.invariant
