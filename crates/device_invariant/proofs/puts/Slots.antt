-- A free slot is cleared, and the words of a version are stored behind a begin that is 0.
use Rattle.std.proofs.Common.{◌≡◌, ◌⊎◌, inl, inr, ℕ, ◌<◌, ◌≤◌, false, sym, ◌∙◌, ap, arith}
use Rattle.std.specs.Prelude.{Option, Some, None}
use Rattle.base.specs.declared.key.Key.{Key}
use Rattle.base.specs.Layout.{slot_words}
use Rattle.base.specs.Records.{is_in}
use Rattle.machine.specs.Machine.{State, Hand, Version, BySession, ByCommit}
use Rattle.pmem.specs.Device.{Device, stored}
use Rattle.pmem.specs.Words.{Survives, OnlyShrinks, IsSettledAt, EachSurvivor}
use Rattle.pmem.proofs.Changes.{stored-survives}
use Rattle.state_invariant.specs.Kept.{Origin, Keeps, version_by}
use Rattle.state_invariant.specs.Shown.{word_of}
use Rattle.state_invariant.proofs.Records.{zero-gaps}
use Rattle.device_invariant.specs.Slots.{NeverCounts, IsDead, SlotHolds}
use Rattle.device_invariant.specs.Upholds.{HoldsState}
use Rattle.pmem.proofs.Changes.{each-shrinks, settled_at-shrinks, each-settled, each-weaken}
use Rattle.device_invariant.proofs.Words.{within-slot}
use Rattle.device_invariant.proofs.moves.Stores.{IsUntouched, rest-stored, holds-stored}

-- ---- what nobody or a session holds

-- nobody holds the slot, or a session does
abbrev pub IsUndrawn : State → ℕ → Type 0
IsUndrawn q slot = (q.held slot ≡ None) ⊎ ((n : ℕ) × (key : Key) × (q.held slot ≡ Some (version_by key (BySession n))))

pub untouched-undrawn : (q : State) (hand : Hand) (slot : ℕ) → IsUndrawn q slot → IsUntouched q hand.commits slot
untouched-undrawn q hand slot a = grind (arith)

not-by_commit : (q : State) (slot t : ℕ) (key : Key) → IsUndrawn q slot → q.held slot ≡ Some (version_by key (ByCommit t)) → ⊥
not-by_commit q slot t key a held = grind (arith)

-- ---- the stores

-- if no drawn or covered commit holds the slot, this is what it has to hold
pub undrawn-holds : (q : State) (new : Device) (slot : ℕ) → IsUndrawn q slot → EachSurvivor new (word_of q.layout slot 0) (λ x. x < q.next) → EachSurvivor new (word_of q.layout slot 1) (λ x. x < q.next)
    → (q.held slot ≡ None → IsDead q new slot) → ((n : ℕ) (key : Key) → q.held slot ≡ Some (version_by key (BySession n)) → IsSettledAt new (word_of q.layout slot 0) 0) → SlotHolds q new slot
undrawn-holds q new slot undrawn begin end free own = grind (arith, not-by_commit)

-- a free slot's begin is made 0
pub holds-cleared : (q : State) (old new : Device) (slot : ℕ) → 0 < q.next → is_in q.ruling.gaps 0 ≡ false → slot < q.layout.slots → q.held slot ≡ None → new ≡ stored (word_of q.layout slot 0) 0 old → HoldsState q old → HoldsState q new
holds-cleared q old new slot some_next out lt free is h =
    holds-stored q old new slot 0 0 (within-slot q.layout.version 0 (omega arith)) is (λ two. out) (λ hand in_hand. untouched-undrawn q hand slot (inl free))
    (undrawn-holds q new slot (inl free)
    (record { each = λ x there. before x (stored-survives old new (word_of q.layout slot 0) 0 is (word_of q.layout slot 0) x there) })
    (each-shrinks end (λ x lt. lt) was.end_before)
    (λ held. dead (was.free held))
    (λ n key held. let none : ◌≡◌ {A = Option Version} None (Some (version_by key (BySession n))) = sym free ∙ held in absurd (cc none)))
    h
  where
    was : SlotHolds q old slot
    was = h.slots.each slot lt

    end : OnlyShrinks old new (word_of q.layout slot 1)
    end = rest-stored q.layout old new slot 0 0 1 (λ e. cc e) is

    before : (x : ℕ) → ((word_of q.layout slot 0 ≡ word_of q.layout slot 0) × (x ≡ 0)) ⊎ Survives old (word_of q.layout slot 0) x → x < q.next
    before x (inl zero) = omega (arith, zero.1, some_next)
    before x (inr there) = was.begin_before.each x there

    never : EachSurvivor old (word_of q.layout slot 0) (NeverCounts q) → (x : ℕ) → ((word_of q.layout slot 0 ≡ word_of q.layout slot 0) × (x ≡ 0)) ⊎ Survives old (word_of q.layout slot 0) x → NeverCounts q x
    never e x (inl zero) = inl zero.1
    never e x (inr there) = e.each x there

    dead : IsDead q old slot → IsDead q new slot
    dead (inl e) = inl record { each = λ x there. never e x (stored-survives old new (word_of q.layout slot 0) 0 is (word_of q.layout slot 0) x there) }
    dead (inr e) = inr (each-shrinks end (λ x counts. counts) e)

-- a further word of a slot that is free or a session's is stored, behind a begin that is 0: as an end only 0
pub holds-filled : (q : State) (old new : Device) (slot w value : ℕ) → 0 < q.next → is_in q.ruling.gaps 0 ≡ false → slot < q.layout.slots → IsUndrawn q slot → 1 ≤ w → w < slot_words q.layout.version → (w ≡ 1 → value ≡ 0)
    → IsSettledAt old (word_of q.layout slot 0) 0 → new ≡ stored (word_of q.layout slot w) value old → HoldsState q old → HoldsState q new × IsSettledAt new (word_of q.layout slot 0) 0
holds-filled q old new slot w value some_next out lt undrawn one low as_end zero is h = (
  holds-stored q old new slot w value low is (λ two. ap (is_in q.ruling.gaps) (as_end (omega (arith, one, two))) ∙ out) (λ hand in_hand. untouched-undrawn q hand slot undrawn)
      (undrawn-holds q new slot undrawn
      (each-weaken (λ x e. omega (arith, e, some_next)) (each-settled begin))
      (record { each = λ x there. before x (stored-survives old new (word_of q.layout slot w) value is (word_of q.layout slot 1) x there) })
      (λ held. inl (each-weaken (λ x e. inl e) (each-settled begin)))
      (λ n key held. begin))
      h,
  begin,
)
  where
    begin : IsSettledAt new (word_of q.layout slot 0) 0
    begin = settled_at-shrinks (rest-stored q.layout old new slot w value 0 (λ e. omega (arith, e, one)) is) zero

    before : (x : ℕ) → ((word_of q.layout slot 1 ≡ word_of q.layout slot w) × (x ≡ value)) ⊎ Survives old (word_of q.layout slot 1) x → x < q.next
    before x (inl this) = let same : w ≡ 1 = omega (arith, this.0) in omega (arith, this.1, as_end same, some_next)
    before x (inr there) = (h.slots.each slot lt).end_before.each x there

-- of what a state keeps
pub zero-facts : (o : Origin) (q : State) → Keeps o q → (0 < q.next) × (is_in q.ruling.gaps 0 ≡ false)
zero-facts o q kept = (omega (arith, kept.numbers.persisted), zero-gaps q.layout.version q.ruling kept.numbers.formed)
