-- What holds over any number of lives.
use Rattle.std.proofs.Common.{◌≡◌, ℕ, List, [], ◌∷◌, ◌++◌, sym, ◌∙◌, ap, subst, inl, inr, append-nil, append_assoc, arith}
use Rattle.std.specs.Prelude.{Bool, true, false, Option, Some, None, Result, Ok, Err}
use Rattle.base.specs.declared.fault.Fault.{Fault}
use Rattle.base.specs.declared.step.Reply.{Reply}
use Rattle.machine.specs.Machine.{State, Cover}
use Rattle.machine.specs.Lives.{World, IsWorld, Opening, Opens, Fails, Numbers, Asked, Report, StopsAt, EndsAs, LifeAs, Lives, left_out}

-- what was lost stays lost
abbrev LosesMore : World → World → Type 0
LosesMore before after = (more : List ℕ) × (after.lost ≡ before.lost ++ more)

none_more : (before after : World) → after.lost ≡ before.lost → LosesMore before after
none_more before after e = ([], e ∙ sym (append-nil before.lost))

stop-loses : (q : State) (covers : List Cover) (before after : World) → StopsAt q covers before.lost after → LosesMore before after
stop-loses q covers before after s = (left_out after.history after.drawn, s.loses)

end-loses : (q : State) (closes : Bool) (closed : Option (Result Numbers Fault)) (before after : World) → EndsAs q closes closed before.lost after → LosesMore before after
end-loses q closes None before after (c, s) = stop-loses q _ before after s
end-loses q closes (Some (Err fault)) before after (c, works, inl (f, s)) = stop-loses q _ before after s
end-loses q closes (Some (Err fault)) before after (c, works, inr (f, d, s)) = stop-loses q _ before after s
end-loses q closes (Some (Ok numbers)) before after (c, works, f, n, s) = stop-loses q _ before after s

life-loses : (before : World) (asked : Asked) (opening : Opening) (replies : List Reply) (closed : Option (Result Numbers Fault)) (after : World)
    → LifeAs before asked opening replies closed after → LosesMore before after
life-loses before asked (Fails fault) replies closed after (inl f, r, n) = none_more before after (ap (λ (w : World). w.lost) f.1)
life-loses before asked (Fails fault) replies closed after (inr (inl f), r, n) = none_more before after (ap (λ (w : World). w.lost) f.2)
life-loses before asked (Fails fault) replies closed after (inr (inr f), r, n) = none_more before after f.1.lost
life-loses before asked (Opens numbers next gaps rows) replies closed after l = end-loses _ asked.closes closed before after l.9

pub lives-lose : (before : World) (asked : List Asked) (reports : List Report) (after : World) → Lives before asked reports after → LosesMore before after
lives-lose before [] [] after e = none_more before after (ap (λ (w : World). w.lost) e)
lives-lose before (a ∷ asked) (r ∷ reports) after (mid, life, lives) =
    let first = life-loses before a r.opening r.replies r.closed mid life in
    let rest = lives-lose mid asked reports after lives in
    (first.0 ++ rest.0, rest.1 ∙ (ap (λ (l : List ℕ). l ++ rest.0) first.1 ∙ append_assoc before.lost first.0 rest.0))
lives-lose before [] (r ∷ reports) after none = absurd none
lives-lose before (a ∷ asked) [] after none = absurd none

end-stands : (q : State) (closes : Bool) (closed : Option (Result Numbers Fault)) (lost : List ℕ) (after : World) → EndsAs q closes closed lost after → IsWorld after
end-stands q closes a lost after b = grind (arith)

pub life-stands : (before : World) (asked : Asked) (opening : Opening) (replies : List Reply) (closed : Option (Result Numbers Fault)) (after : World)
    → IsWorld before → LifeAs before asked opening replies closed after → IsWorld after
life-stands before asked a replies closed after w l = grind (arith, end-stands)

pub lives-stand : (before : World) (asked : List Asked) (reports : List Report) (after : World) → IsWorld before → Lives before asked reports after → IsWorld after
lives-stand before [] [] after w e = subst IsWorld (sym e) w
lives-stand before (a ∷ asked) (r ∷ reports) after w (mid, life, lives) = lives-stand mid asked reports after (life-stands before a r.opening r.replies r.closed mid w life) lives
lives-stand before [] (r ∷ reports) after w none = absurd none
lives-stand before (a ∷ asked) [] after w none = absurd none

-- if closing was requested, its outcome is reported, unless the device had failed
pub close-told : (q : State) (lost : List ℕ) (after : World) → q.failed ≡ false → EndsAs q true None lost after → ⊥
close-told q lost after works (failed, s) = grind arith
