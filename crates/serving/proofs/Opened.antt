-- The replies with an open transaction and without one.
use Rattle.std.proofs.Common.{◌≡◌, ℕ, None, Some, refl, sym, subst}
use Rattle.std.specs.Prelude.{Option, option_map}
use Rattle.requests.specs.declared.answer.Answer.{Answer}
use Rattle.requests.specs.declared.answer.Answer.TheVariants.{Misuse}
use Rattle.requests.specs.declared.request.Request.{Request}
use Rattle.serving.specs.Served.{InOpen, Serves}

pub in-none : {T : Type 0} (session_of : T → ℕ) (Fact : ℕ → Answer → Type 0) (held : Option T) → held ≡ None → InOpen Fact (option_map session_of held) Misuse
in-none {T} session_of Fact held is = subst (λ (o : Option T). InOpen Fact (option_map session_of o) Misuse) (sym is) refl

pub in-some : {T : Type 0} (session_of : T → ℕ) (Fact : ℕ → Answer → Type 0) (held : Option T) (t : T) (told : Answer) → held ≡ Some t → Fact (session_of t) told
    → InOpen Fact (option_map session_of held) told
in-some {T} session_of Fact held t told is fact = subst (λ (o : Option T). InOpen Fact (option_map session_of o) told) (sym is) fact

-- the answer is that of the request that was asked
pub serves-so : (prior after : Option ℕ) (asked request : Request) (told : Answer) → asked ≡ request → Serves prior request told after → Serves prior asked told after
serves-so prior after asked request told is serves = subst (λ (r : Request). Serves prior r told after) (sym is) serves
