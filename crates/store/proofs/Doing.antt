-- The steps of a transaction of a kept history, one after another. A work is proved by these.
use Rattle.std.proofs.Common.{ℕ, List, [], ◌++◌, refl, sym, ◌∙◌, ap, append_assoc, Some, None}
use Rattle.std.specs.Prelude.{Option}
use Rattle.std.proofs.lemmas.List.{append-nil}
use Rattle.base.specs.declared.step.Step.{Step}
use Rattle.session_laws.proofs.Logs.{own-append}
use Rattle.database.specs.Histories.{Known, Does}

-- a transaction that did nothing
pub does_nothing : (s : ℕ) (known : Option Known) → Does s [] known known
does_nothing s (Some known) = (refl, ([], sym (append-nil known.seen), refl))
does_nothing s None = refl

-- first these steps, and then those
pub does_then : (s : ℕ) (one two : List Step) (old mid new : Option Known) → Does s one old mid → Does s two mid new → Does s (one ++ two) old new
does_then s one two (Some old) (Some mid) (Some new) (begun, (x, first, is)) (later, (y, second, so)) = (
  later ∙ begun,
  (x ++ y, second ∙ (ap (λ (l : List Step). l ++ y) first ∙ append_assoc old.seen x y), own-append s x y ∙ cc (is, so)),
)
does_then s one two (Some old) (Some mid) None first second = absurd second
does_then s one two (Some old) None new first second = absurd first
does_then s one two None (Some mid) new first second = absurd (cc first)
does_then s one two None None new first second = second
