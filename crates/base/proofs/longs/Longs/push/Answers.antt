use Rattle.std.proofs.Common.{ℕ, length, ◌≡◌, ◌-◌, ◌+◌, ◌<◌, drop, replicate, ap, ◌∙◌, sym, arith}
use Rattle.std.proofs.lemmas.List.{length-set, drop-set-lt, drop-drop, drop-replicate, length-take-le}
use Rattle.base.proofs.longs.Longs.push.Goals as goal

pub invariant_of-self : goal.invariant_of-self
invariant_of-self c =
    let n = c.self.inside.len in
    let timestamps = c.self.inside.timestamps in
    let inv = c.self.invariant in
    let room : n < 12 = omega (arith, length-take-le n timestamps (omega (arith, inv.0, inv.1)), ap (length {A = ℕ}) c.self.view_is, c.requires) in
    let less : 12 - n - 1 ≡ 12 - (n + 1) = omega arith in (
      omega (arith, room),
      length-set timestamps n c.args.timestamp ∙ inv.1,
      drop-set-lt (n + 1) timestamps n c.args.timestamp (omega arith) ∙ sym (drop-drop 1 n timestamps) ∙ ap (drop 1) inv.2 ∙ drop-replicate 1 (12 - n) 0 ∙ ap (λ (k : ℕ). replicate k 0) less,
    )
