-- What the sessions so far were told.
use Rattle.std.proofs.Common.{◌≡◌, ℕ, ◌+◌, ◌≤◌, ◌<◌, List, subst, take}
use Rattle.std.specs.Prelude.{IfSome, length, slice_index_or}
use Rattle.std.proofs.lemmas.List.{take_all}
use Rattle.std.proofs.lemmas.List.Elements.{All-more, All-nil}
use Rattle.pmem.specs.declared.device.Pmem.{Ghosts}
use Rattle.board.specs.declared.history.Naming.{Ghosts as Names}
use Rattle.base.specs.declared.step.Step.{Step}
use Rattle.base.specs.declared.step.Note.{Note}
use Rattle.engine.specs.declared.origin.Origin.{Ghosts as Origins}
use Rattle.engine.specs.declared.session.Session.{Session}
use Rattle.engine.specs.Agreement.{AreTold, IsTold}

module _ {D J B : Type 0} {G : Ghosts D} {N : Origins J} {M : Names J} where
  pub told-none : (entries : List (Step × Note)) (first : ℕ) (sessions : List (Session D J B G N M)) → AreTold entries first (take 0 sessions)
  told-none entries first sessions = All-nil (λ (s : Session D J B G N M). IfSome s.told (IsTold entries first))

  pub told-more : (entries : List (Step × Note)) (first : ℕ) (sessions : List (Session D J B G N M)) (i : ℕ) (s : Session D J B G N M) → i < length sessions → s ≡ slice_index_or sessions i s
      → AreTold entries first (take i sessions) → IfSome s.told (IsTold entries first) → AreTold entries first (take (i + 1) sessions)
  told-more entries first sessions i s less at all here =
      All-more (λ (x : Session D J B G N M). IfSome x.told (IsTold entries first)) sessions i s less all (subst (λ (x : Session D J B G N M). IfSome x.told (IsTold entries first)) at here)

  pub told-all : (entries : List (Step × Note)) (first : ℕ) (sessions : List (Session D J B G N M)) (i : ℕ) → length sessions ≤ i → AreTold entries first (take i sessions) → AreTold entries first sessions
  told-all entries first sessions i past all = subst (λ (xs : List (Session D J B G N M)). AreTold entries first xs) (take_all i sessions past) all
