-- What each operation of the writing of a batch's record makes of what a device holds; the last one covers the batch.
use Rattle.std.proofs.Common.{◌≡◌, ◌≢◌, ◌⊎◌, inl, inr, ℕ, ◌+◌, ◌-◌, true, false, cond, List, [], refl, sym, ◌∙◌, ap, subst, arith, true≢false}
use Rattle.std.specs.Prelude.{Some, nat_lt}
use Rattle.std.proofs.lemmas.Bool.{lt-ltb, le-ltb}
use Rattle.base.specs.declared.gap.Gap.{Gap}
use Rattle.base.specs.Records.{is_in}
use Rattle.machine.specs.Machine.{State, Hand, lines_of, state_covered}
use Rattle.pmem.specs.Device.{Device, IsOrderly, fenced}
use Rattle.pmem.specs.Words.{value_of}
use Rattle.pmem.specs.Trace.{applied}
use Rattle.log_area.specs.declared.stage.WritingStage.{WritingStage}
use Rattle.log_area.specs.declared.stage.WritingStage.TheVariants.{StoreBody, FlushBody, FenceBody, StoreGate, FlushGate, FenceGate, Done}
use Rattle.log_area.specs.Stages.{IsStage, next_stage, operations_before}
use Rattle.log_area.specs.Rulings.{HoldsRecord}
use Rattle.base.specs.Actors.{committer, collector}
use Rattle.log_area.specs.Writings.{operation_of, IsReplacing}
use Rattle.log_area.proofs.Replacing.{replacing_next, replacing_done}
use Rattle.log_area.proofs.Rulings.{place_below}
use Rattle.log_area.proofs.Ticks.{outside_kept}
use Rattle.state_invariant.specs.Kept.{Origin, Keeps, KeepsHand}
use Rattle.state_invariant.specs.Shown.{word_of, SlotsShow}
use Rattle.device_invariant.specs.Slots.{SlotsHold}
use Rattle.device_invariant.specs.Sweeps.{IsSweeping, IsOutOfGaps}
use Rattle.device_invariant.specs.Log.{IsBatchSettled, HoldsHand, writing_at}
use Rattle.device_invariant.specs.Upholds.{HoldsState}
use Rattle.pmem.proofs.Changes.{each-weaken}
use Rattle.log_area.proofs.Stages.{operations-next, staged-next}
use Rattle.device_invariant.proofs.moves.Shrinking.{ShrinksSlots, slots-shrink, sweeping-shrink, settled-shrink}
use Rattle.device_invariant.proofs.covers.Slots.{slots-covered}
use Rattle.device_invariant.proofs.collector.Fences.{ShrinksSlotsBehind, behind-outside}
use Rattle.device_invariant.proofs.covers.Ticks.{with_hand}

-- ---- stages by the operations made

abbrev stage_after : ℕ → WritingStage
stage_after n =
    cond (nat_lt n 31) (StoreBody (n + 1)) (cond (nat_lt n 35) (FlushBody (n - 31)) (cond (nat_lt n 36) FenceBody (cond (nat_lt n 37) StoreGate (cond (nat_lt n 38) FlushGate (cond (nat_lt n 39) FenceGate Done)))))

-- the operations made determine the stage
stage-after : (stage : WritingStage) → IsStage stage → stage_after (operations_before stage) ≡ stage
stage-after a is = grind (arith, lt-ltb, le-ltb)

same-stage : (a b : WritingStage) → IsStage a → IsStage b → operations_before a ≡ operations_before b → a ≡ b
same-stage a b of_a of_b same = sym (stage-after a of_a) ∙ ap stage_after same ∙ stage-after b of_b

-- ---- the slots are outside the record's place

module _ (q : State) (hand : Hand) (stage : WritingStage) (old new : Device) (staged : IsStage stage) (is : new ≡ applied (operation_of (writing_at q hand stage)) old) (replaces : IsReplacing q.ruling (writing_at q hand stage) old) where
  pub spared : ShrinksSlots q.layout old new
  spared slot lt w low =
      outside_kept (writing_at q hand stage) staged is (word_of q.layout slot w) (inr (omega (arith, place_below q.layout hand.target replaces.fits.limits)))

  pub spared-behind : ShrinksSlotsBehind q.layout old new
  spared-behind slot w lt low =
      behind-outside (writing_at q hand stage) old new staged is (word_of q.layout slot w) (inr (omega (arith, place_below q.layout hand.target replaces.fits.limits)))

  pub settled-still : IsBatchSettled q hand.commits old → IsBatchSettled q hand.commits new
  settled-still = settled-shrink q hand old new spared

-- ---- one operation more

-- the batch's record is being written, and that is the stage
at-stage : (q : State) (hand : Hand) (stage : WritingStage) (device : Device) → q.hand ≡ Some hand → IsStage stage → hand.ticks ≡ 2 + lines_of q hand.commits + operations_before stage → HoldsState q device
    → IsReplacing q.ruling (writing_at q hand stage) device × IsBatchSettled q hand.commits device
at-stage q hand stage device in_hand staged ticks h = by_hand (subst (HoldsHand q device) in_hand h.log)
  where
    by_hand : HoldsHand q device (Some hand) → IsReplacing q.ruling (writing_at q hand stage) device × IsBatchSettled q hand.commits device
    by_hand (inl f) = absurd (omega (arith, f.within, ticks))
    by_hand (inr r) = grind (arith, same-stage r.stage stage r.staged staged)

-- the slots are spared
pub operation-shrinks : (q : State) (hand : Hand) (stage : WritingStage) (old new : Device) → q.hand ≡ Some hand → IsStage stage → hand.ticks ≡ 2 + lines_of q hand.commits + operations_before stage
    → new ≡ applied (operation_of (writing_at q hand stage)) old → HoldsState q old → ShrinksSlots q.layout old new
operation-shrinks q hand stage old new in_hand staged ticks is h = spared q hand stage old new staged is (at-stage q hand stage old in_hand staged ticks h).0

pub holds-operation : (q : State) (hand : Hand) (stage : WritingStage) (old new : Device) → IsOrderly old → IsOrderly new → q.hand ≡ Some hand → IsStage stage → stage ≢ Done → next_stage stage ≢ Done
    → hand.ticks ≡ 2 + lines_of q hand.commits + operations_before stage → new ≡ applied (operation_of (writing_at q hand stage)) old → HoldsState q old
    → HoldsState (record q { hand = Some (record hand { ticks = hand.ticks + 1 }) }) new
holds-operation q hand stage old new orderly orderly' in_hand staged un more ticks is h =
    let at = at-stage q hand stage old in_hand staged ticks h in
    let shrinks = spared q hand stage old new staged is at.0 in
    let settled = settled-still q hand stage old new staged is at.0 at.1 in
    with_hand q (Some (record hand { ticks = hand.ticks + 1 })) new (slots-shrink q old new shrinks h.slots) (sweeping-shrink q old new shrinks (spared-behind q hand stage old new staged is at.0) h.sweeping)
    (inr record {
      stage = next_stage stage;
      staged = staged-next stage staged;
      under_way = more;
      ticks = omega (arith, ticks, operations-next stage staged un);
      replaces = replacing_next q.ruling (writing_at q hand stage) old new orderly orderly' staged un is at.0;
      settled = record { own = settled.own; ended = settled.ended };
    })

-- ---- the last one

sweeping-covered : (q : State) (hand : Hand) (device : Device) → KeepsHand q hand → IsSweeping q device → IsSweeping (state_covered q hand) device
sweeping-covered q hand device k s = record {
  over = λ swept slot w lt low. by_gaps k.gaps (s.over swept slot w lt low);
  under_way = λ unswept slot lt before w low. stands unswept k.gaps (s.under_way unswept slot lt before w low);
}
  where
    by_gaps : {word : ℕ} → (hand.target.gaps ≡ q.ruling.gaps) ⊎ ((q.swept ≡ true) × (hand.target.gaps ≡ [])) → IsOutOfGaps q device word → IsOutOfGaps (state_covered q hand) device word
    by_gaps (inl same) e = each-weaken (λ x out. ap (λ (gaps : List Gap). is_in gaps x) same ∙ out) e
    by_gaps (inr dropped) e = each-weaken (λ x out. ap (λ (gaps : List Gap). is_in gaps x) dropped.1) e

    stands : {word : ℕ} → q.swept ≡ false → (hand.target.gaps ≡ q.ruling.gaps) ⊎ ((q.swept ≡ true) × (hand.target.gaps ≡ [])) → IsOutOfGaps q (fenced collector device) word → IsOutOfGaps (state_covered q hand) (fenced collector device) word
    stands unswept (inl same) e = each-weaken (λ x out. ap (λ (gaps : List Gap). is_in gaps x) same ∙ out) e
    stands unswept (inr dropped) e = absurd (true≢false (sym dropped.0 ∙ unswept))

-- the device holds the state in which a batch is covered, if its lines persist and its record rules
pub holds-cover : (o : Origin) (q : State) (hand : Hand) (device : Device) → Keeps o q → KeepsHand q hand → SlotsShow o q (value_of device) → SlotsHold q device → IsSweeping q device → IsBatchSettled q hand.commits device → HoldsRecord q.layout hand.target device
    → HoldsState (state_covered q hand) device
holds-cover o q hand device kept k shows slots sweeping settled holds = grind (arith, slots-covered, sweeping-covered)

-- the fence after the gate's flush covers the batch
pub holds-covered : (o : Origin) (q : State) (hand : Hand) (old new : Device) → IsOrderly old → IsOrderly new → q.hand ≡ Some hand → hand.ticks ≡ 2 + lines_of q hand.commits + operations_before FenceGate
    → new ≡ fenced committer old → Keeps o q → SlotsShow o q (value_of new) → HoldsState q old → HoldsState (state_covered q hand) new
holds-covered o q hand old new orderly orderly' in_hand ticks is kept shows h =
    let at = at-stage q hand FenceGate old in_hand tt ticks h in
    let shrinks = spared q hand FenceGate old new tt is at.0 in
    let done = replacing_next q.ruling (writing_at q hand FenceGate) old new orderly orderly' tt (λ e. cc e) is at.0 in
    holds-cover o q hand new kept (kept.numbers.hand hand in_hand) shows (slots-shrink q old new shrinks h.slots) (sweeping-shrink q old new shrinks (spared-behind q hand FenceGate old new tt is at.0) h.sweeping)
    (settled-still q hand FenceGate old new tt is at.0 at.1) (replacing_done q.ruling (writing_at q hand Done) new done refl)
