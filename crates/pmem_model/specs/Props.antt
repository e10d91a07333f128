-- What a log shows is a fact: it has at most one proof. (A ghost field may cite lemmas of specs/ alone.)
use Rattle.std.specs.Prelude.{ℕ, zero, suc, Bool, List, [], ◌∷◌}
use Rattle.std.proofs.Props.{props}
use Rattle.pmem.specs.Device.{Entry}
use Rattle.pmem_model.specs.declared.stored.Stored.{Stored}
use Rattle.pmem_model.specs.declared.spans.Span.{Span}
use Rattle.pmem_model.specs.Log.{store_at, IsSettled, IsOpen, Shows, IsSound, nobody, also}

settled_prop : (clock value : ℕ) (history : List Entry) → IsProp (IsSettled clock value history)
settled_prop clock value [] = hlevel props
settled_prop clock value (entry ∷ older) = hlevel props

open_prop : (clock value : ℕ) (flushed : ℕ → Bool) (rest : List Entry → Type 0) → ((older : List Entry) → IsProp (rest older)) → (history : List Entry) → IsProp (IsOpen clock value flushed rest history)
open_prop clock value flushed rest rests [] = hlevel props
open_prop clock value flushed rest rests (entry ∷ older) = hlevel (rests, props)

shows_prop : (log : List Stored) (from clock word n value : ℕ) (actors : ℕ → Bool) (history : List Entry) → IsProp (Shows log from clock word n value actors history)
shows_prop log from clock word zero value actors history = settled_prop clock value history
shows_prop log from clock word (suc n) value actors history =
    hlevel (
      settled_prop clock value,
      open_prop clock value (also (store_at log n).flushed actors) (Shows log from clock word n (store_at log n).replaced nobody) (shows_prop log from clock word n (store_at log n).replaced nobody),
      shows_prop log from clock word n,
      props,
    )

-- that a log is sound has at most one proof
pub sound_prop : (history : ℕ → List Entry) (values : List ℕ) (spans : List Span) (log : List Stored) (clock : ℕ) → IsProp (IsSound history values spans log clock)
sound_prop history values spans log clock = hlevel (shows_prop log, props)
