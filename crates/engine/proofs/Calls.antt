-- Calls of several steps.
use Rattle.std.proofs.Common.{◌≡◌, List, [], ◌∷◌, ◌++◌, sym, ap, ◌∙◌, append_assoc, append-nil}
use Rattle.std.proofs.lemmas.List.Elements.{All-push, All-nil, All-cons, All-append}
use Rattle.base.specs.declared.step.Step.{Step}
use Rattle.base.specs.declared.step.Note.{Note}
use Rattle.audited.specs.declared.receipt.Receipt.{Receipt}
use Rattle.audited.specs.Audit.{IsLastOfRun}
use Rattle.engine.specs.Receipts.{Asks}
use Rattle.engine.specs.Calls.{Called}

-- a call that made no step
pub Called-none : (old : List Receipt) (F : List Receipt → Type 0) → F [] → Called old old F
Called-none old F f = record { added = []; is = sym (append-nil old); runs = All-nil (λ r. ∥ IsLastOfRun r ∥₁); holds = f }

-- one more step
pub Called-more : (old mid new : List Receipt) (step : Step) (note : Note) (F G : List Receipt → Type 0) → Called old mid F → Asks mid new step note
    → ((added : List Receipt) (r : Receipt) → F added → r.step ≡ step → r.note ≡ note → G (added ++ r ∷ [])) → Called old new G
Called-more old mid new step note F G c a more = record {
  added = c.added ++ a.receipt ∷ [];
  is = a.added ∙ (ap (λ (rs : List Receipt). rs ++ a.receipt ∷ []) c.is ∙ append_assoc old c.added (a.receipt ∷ []));
  runs = All-push (λ r. ∥ IsLastOfRun r ∥₁) c.added a.receipt c.runs a.run;
  holds = more c.added a.receipt c.holds a.asked a.noted;
}

-- one after another
pub Called-append : (old mid new : List Receipt) (F G H : List Receipt → Type 0) → Called old mid F → Called mid new G
    → ((one two : List Receipt) → F one → G two → H (one ++ two)) → Called old new H
Called-append old mid new F G H c d both = record {
  added = c.added ++ d.added;
  is = d.is ∙ (ap (λ (rs : List Receipt). rs ++ d.added) c.is ∙ append_assoc old c.added d.added);
  runs = All-append (λ r. ∥ IsLastOfRun r ∥₁) c.added d.added c.runs d.runs;
  holds = both c.added d.added c.holds d.holds;
}

-- a single step
pub Called-one : (old new : List Receipt) (step : Step) (note : Note) (G : List Receipt → Type 0) → Asks old new step note
    → ((r : Receipt) → r.step ≡ step → r.note ≡ note → G (r ∷ [])) → Called old new G
Called-one old new step note G a one =
    record { added = a.receipt ∷ []; is = a.added; runs = All-cons (λ r. ∥ IsLastOfRun r ∥₁) a.receipt [] a.run (All-nil (λ r. ∥ IsLastOfRun r ∥₁)); holds = one a.receipt a.asked a.noted }

pub Called-weaken : (old new : List Receipt) (F G : List Receipt → Type 0) → Called old new F → ((added : List Receipt) → F added → G added) → Called old new G
Called-weaken old new F G c weaken = record { added = c.added; is = c.is; runs = c.runs; holds = weaken c.added c.holds }
