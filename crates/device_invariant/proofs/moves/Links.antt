-- Which version each one names, in the words of a device.
use Rattle.std.proofs.Common.{◌≡◌, ◌⊎◌, inl, inr, ℕ, ◌<◌, true, sym, ◌∙◌, ap, subst, arith}
use Rattle.std.specs.Prelude.{Option, Some, None, unwrap_or}
use Rattle.std.proofs.lemmas.Bool.{cases_eq}
use Rattle.std.proofs.lemmas.Option.{none-some}
use Rattle.base.specs.declared.key.Key.{Key}
use Rattle.base.specs.Layout.{slot_words}
use Rattle.machine.specs.Machine.{State, Version, BySession}
use Rattle.pmem.specs.Device.{Device, stored}
use Rattle.pmem.specs.Words.{value_of}
use Rattle.state_invariant.specs.Kept.{Origin, version_by}
use Rattle.state_invariant.specs.Links.{Links, SameRows}
use Rattle.state_invariant.specs.Shown.{word_of}
use Rattle.state_invariant.proofs.steps.LinksStay.{links-stores}
use Rattle.device_invariant.proofs.moves.Stores.{others-stored, rest-stored}

-- if nothing is stored, each link names what it did before
pub links-shrink : (o : Origin) (q : State) (old new : Device) → ((slot w : ℕ) → slot < q.layout.slots → w < slot_words q.layout.version → value_of new (word_of q.layout slot w) ≡ value_of old (word_of q.layout slot w)) → Links o q (value_of old) → Links o q (value_of new)
links-shrink o q old new same links = links-stores o q (value_of old) (value_of new) (λ slot v lt held. inl record { each = λ w two low. same slot w lt low }) links

-- the word is a begin or an end; or nobody holds the slot, or a session does, and the device failed
abbrev pub IsUnlinked : State → ℕ → ℕ → Type 0
IsUnlinked q slot w = (w < 2) ⊎ ((q.held slot ≡ None) ⊎ ((q.failed ≡ true) × (n : ℕ) × (key : Key) × (q.held slot ≡ Some (version_by key (BySession n)))))

-- so they do after a store in such a word
pub links-but_one : (o : Origin) (q : State) (old new : Device) (slot w value : ℕ) → w < slot_words q.layout.version → new ≡ stored (word_of q.layout slot w) value old → IsUnlinked q slot w → Links o q (value_of old) → Links o q (value_of new)
links-but_one o q old new slot w value low is unlinked links = links-stores o q (value_of old) (value_of new) same links
  where
    of-slot : (v : Version) → q.held slot ≡ Some v → IsUnlinked q slot w → SameRows q.layout (value_of old) (value_of new) slot ⊎ ((q.failed ≡ true) × (n : ℕ) × (v.writer ≡ BySession n))
    of-slot v held (inl mark) = inl record { each = λ x two in_slot. (rest-stored q.layout old new slot w value x (λ e. omega (arith, e, mark, two)) is).value }
    of-slot v held (inr (inl none)) = absurd (none-some v (sym none ∙ held))
    of-slot v held (inr (inr (down, n, key, by_session))) = inr (down, n, ap (λ (x : Option Version). (unwrap_or x (version_by key (BySession n))).writer) (sym held ∙ by_session))

    same : (s : ℕ) (v : Version) → s < q.layout.slots → q.held s ≡ Some v → SameRows q.layout (value_of old) (value_of new) s ⊎ ((q.failed ≡ true) × (n : ℕ) × (v.writer ≡ BySession n))
    same s v lt held = elim (cases_eq s slot) [
      | inl at ↦ subst (λ (k : ℕ). SameRows q.layout (value_of old) (value_of new) k ⊎ ((q.failed ≡ true) × (n : ℕ) × (v.writer ≡ BySession n))) (sym at) (of-slot v (ap q.held (sym at) ∙ held) unlinked)
      | inr apart ↦ inl record { each = λ x two in_slot. (others-stored q.layout old new slot w value low is s lt apart x in_slot).value }
    ]
