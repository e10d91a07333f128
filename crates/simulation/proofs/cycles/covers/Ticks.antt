-- Each tick is a step of the plain machine, and each image that it leaves is consistent with that step.
use Rattle.std.proofs.Common.{◌≡◌, ◌≢◌, inl, inr, ℕ, ◌+◌, ◌^◌, ◌<◌, ◌≤◌, true, false, cond, [], ◌∷◌, ◌++◌, length, refl, sym, ◌∙◌, ap, subst, arith, true≢false}
use Rattle.std.specs.Prelude.{Option, Some, None, is_some, slice_get, IsTrue, Contains}
use Rattle.std.proofs.lemmas.Bool.{leb-false}
use Rattle.std.proofs.lemmas.Option.{slice_get_within}
use Rattle.std.proofs.lemmas.List.Elements.{Contains-append_left, Contains-append_right, Contains-append_cases}
use Rattle.base.specs.declared.step.Step.TheVariants.{Commit as CommitTick}
use Rattle.base.specs.declared.step.Stage.{Stage}
use Rattle.base.specs.declared.step.Stage.TheVariants.{LineFlushed, LinesFenced}
use Rattle.base.specs.declared.step.Reply.TheVariants.{Ticked}
use Rattle.base.specs.Images.{Image}
use Rattle.machine.specs.Machine.{State, Hand, refused, memory_refused, device_failed, refusal, is_idle, taken_in_hand, operates, most_operations, next_stage, stages, state_covered, Cover, present, of_hand, covers_at, StandsUnder, StandsAt, StandsWithin}
use Rattle.machine.proofs.Runs.{StandsAt-within}
use Rattle.pmem.specs.Device.{Device, IsOrderly, MayLeave, stored, flushed, fenced}
use Rattle.pmem.specs.Words.{Continues, operations_of}
use Rattle.pmem.specs.Trace.{applied}
use Rattle.pmem.proofs.Images.{leaves_refl, leaves_one, leaves-failed, continues-stored, continues-flushed, continues-fenced}
use Rattle.log_area.specs.declared.stage.WritingStage.{WritingStage}
use Rattle.log_area.specs.declared.stage.WritingStage.TheVariants.{StoreBody, FlushBody, FenceBody, StoreGate, FlushGate, FenceGate, Done}
use Rattle.log_area.specs.Stages.{operations_before}
use Rattle.log_area.specs.Writings.{operation_of}
use Rattle.state_invariant.specs.Kept.{Origin, Keeps}
use Rattle.state_invariant.proofs.covers.Chosen.{keeps-chosen}
use Rattle.device_invariant.specs.Log.{lines_in, writing_at}
use Rattle.device_invariant.specs.Laws.{one_tick_on}
use Rattle.device_invariant.specs.Upholds.{Upholds}
use Rattle.device_invariant.proofs.Upheld.{every-image-stands, stands-in_hand}
use Rattle.device_invariant.proofs.Laws.{failures-keep, choosing-keeps, line-keeps, lines-keep, operation-keeps, covering-keeps}
use Rattle.device_invariant.specs.Leads.{Leads}
use Rattle.simulation.specs.cycles.Leads.{Ticks}
use Rattle.simulation.specs.cycles.Laws.{IdleTicks, ChoosingTicks, RefusedTicks, LineTicks, FenceTicks, OperationTicks, CoveringTicks, FailingTicks}
use Rattle.simulation.proofs.cycles.covers.Stages.{stage-line, stage-fence, stage-reached, not_done, more_left}
use Rattle.simulation.proofs.cycles.covers.LineCounts.{lines-in_hand}

-- ---- what the machine says

pub refusal-in_hand : (q : State) (hand : Hand) → q.failed ≡ false → q.hand ≡ Some hand → refusal q CommitTick ≡ None
refusal-in_hand q hand up in_hand = rw (up, in_hand) refl

operates-in_hand : (q : State) (hand : Hand) → q.hand ≡ Some hand → IsTrue (operates q CommitTick)
operates-in_hand q hand in_hand = ap (λ (h : Option Hand). is_some h) in_hand

one_at_most : (q : State) (hand : Hand) → q.hand ≡ Some hand → most_operations q CommitTick ≡ 1
one_at_most q hand in_hand = ap (λ (h : Option Hand). cond (is_some h) 1 0) in_hand

-- if the tick chooses and isn't refused, a record is left
numbered : (q : State) → refusal q CommitTick ≡ None → q.hand ≡ None → is_idle q ≡ false → q.ruling.gate + 1 < 2 ^ 62
numbered q none rests busy = grind (arith, leb-false, true≢false)

-- ---- ticks without an operation

still : (o : Origin) (q q' : State) (device : Device) → IsOrderly device → Upholds o q device → Upholds o q' device → Leads o q q' device device
still o q q' device orderly before u = record {
  upholds = u;
  images = leaves_refl device (StandsWithin q q') orderly (λ image may. StandsAt-within q q' image (every-image-stands o q device image before may));
}

pub idle-ticks : IdleTicks
idle-ticks o q device orderly none rests idle u = grind (arith, still)

pub choosing-ticks : ChoosingTicks
choosing-ticks o q device orderly none rests busy u = record {
  stepped = grind (arith);
  leads = still o q (record q { hand = Some (taken_in_hand q) }) device orderly u
      (choosing-keeps o q (taken_in_hand q) device rests refl (keeps-chosen o q u.keeps) (numbered q none rests busy) u);
  no_failure = refl;
  operations = omega arith;
}

pub refused-ticks : RefusedTicks
refused-ticks = record {
  refused = λ o q device fault orderly is u. record { stepped = refused fault is refl refl; leads = still o q q device orderly u u; no_failure = refl; operations = omega arith };
  memory = λ o q device orderly none rests busy u. record { stepped = memory_refused none (rw (rests, busy) refl) refl refl; leads = still o q q device orderly u u; no_failure = refl; operations = omega arith };
}

-- ---- one operation

record IsOne (old new : Device) : Type 0 where
  pub continues : Continues old new
  pub clock : new.clock ≤ old.clock + 1
  pub failures : new.failures ≡ old.failures
  pub count : operations_of new ≡ operations_of old + 1

one-stored : (word value : ℕ) (device : Device) → IsOne device (stored word value device)
one-stored word value device = record { continues = continues-stored word value device; clock = omega arith; failures = refl; count = omega arith }

one-flushed : (actor line : ℕ) (device : Device) → IsOne device (flushed actor line device)
one-flushed actor line device = record { continues = continues-flushed actor line device; clock = omega arith; failures = refl; count = omega arith }

one-fenced : (actor : ℕ) (device : Device) → IsOne device (fenced actor device)
one-fenced actor device = record { continues = continues-fenced actor device; clock = omega arith; failures = refl; count = omega arith }

one-written : (q : State) (hand : Hand) (stage : WritingStage) (device : Device) → stage ≢ Done → IsOne device (applied (operation_of (writing_at q hand stage)) device)
one-written q hand (StoreBody word) device un = one-stored _ _ device
one-written q hand (FlushBody line) device un = one-flushed _ _ device
one-written q hand FenceBody device un = one-fenced _ device
one-written q hand StoreGate device un = one-stored _ _ device
one-written q hand FlushGate device un = one-flushed _ _ device
one-written q hand FenceGate device un = one-fenced _ device
one-written q hand Done device un = absurd (un refl)

-- the covering record of the pending batch is within the step, and so is each image after the operation
one-leads : (o : Origin) (q q' : State) (old new : Device) → IsOrderly old → IsOrderly new → IsOne old new → Upholds o q old → Upholds o q' new
    → ((image : Image) → MayLeave new image → StandsWithin q q' image) → Leads o q q' old new
one-leads o q q' old new orderly orderly' one before u after = record {
  upholds = u;
  images = leaves_one old new (StandsWithin q q') one.continues one.clock orderly orderly' (λ image may. StandsAt-within q q' image (every-image-stands o q old image before may)) after;
}

-- ---- ticks of a pending batch

hand-within : (q : State) (hand : Hand) (image : Image) → StandsAt (record q { hand = Some hand }) image → StandsWithin q (record q { hand = Some hand }) image
hand-within q hand image s = (s.0, within, record { stands = s.2.stands; ruled = s.2.ruled; laid_out = s.2.laid_out })
  where
    within : Contains (covers_at q ++ (of_hand q (Some hand) ++ present q ∷ [])) s.0
    within = elim (Contains-append_cases (present q ∷ []) (of_hand q (Some hand)) s.0 s.1) [
      | inl own ↦ Contains-append_left (covers_at q) (of_hand q (Some hand) ++ present q ∷ []) s.0 (Contains-append_left (present q ∷ []) (of_hand q q.hand) s.0 own)
      | inr in_hand ↦ Contains-append_right (covers_at q) (of_hand q (Some hand) ++ present q ∷ []) s.0 (Contains-append_left (of_hand q (Some hand)) (present q ∷ []) s.0 in_hand)
    ]

-- a tick that doesn't cover
on : (o : Origin) (q : State) (hand : Hand) (stage : Stage) (old new : Device) → IsOrderly old → IsOrderly new → IsOne old new → q.failed ≡ false → q.hand ≡ Some hand → next_stage q hand ≡ Some stage
    → Upholds o q old → Upholds o (one_tick_on q hand) new → Ticks o q (one_tick_on q hand) (Ticked stage) old new
on o q hand stage old new orderly orderly' one up in_hand next before u = record {
  stepped = grind (arith);
  leads = one-leads o q (one_tick_on q hand) old new orderly orderly' one before u
      (λ image may. hand-within q (record hand { ticks = hand.ticks + 1 }) image (every-image-stands o (one_tick_on q hand) new image u may));
  no_failure = one.failures;
  operations = omega (arith, one.count, one_at_most q hand in_hand);
}

-- the stage that comes after this many ticks, if the lines are counted
next-at : (o : Origin) (q : State) (hand : Hand) (n : ℕ) (stage : Option Stage) → Keeps o q → q.hand ≡ Some hand → hand.ticks ≡ n → slice_get (stages (length (lines_in q hand.commits))) n ≡ stage → next_stage q hand ≡ stage
next-at o q hand n stage kept in_hand ticks is =
    ap (λ (lines : ℕ). slice_get (stages lines) hand.ticks) (sym (lines-in_hand o q hand kept in_hand)) ∙ ap (slice_get (stages (length (lines_in q hand.commits)))) ticks ∙ is

pub line-ticks : LineTicks
line-ticks o q hand i line old new orderly orderly' h at is =
    let counted = lines-in_hand o q hand h.upholds.keeps h.in_hand in
    let within : i < length (lines_in q hand.commits) = slice_get_within (lines_in q hand.commits) i line at in
    on o q hand (LineFlushed i) old new orderly orderly' (subst (IsOne old) (sym is) (one-flushed _ _ old)) h.works h.in_hand
    (next-at o q hand (1 + i) (Some (LineFlushed i)) h.upholds.keeps h.in_hand h.ticks (stage-line (length (lines_in q hand.commits)) i within)) h.upholds
    (line-keeps o q hand i line old new orderly h.in_hand (omega (arith, h.ticks)) (omega (arith, counted, within)) at is h.upholds)

pub fence-ticks : FenceTicks
fence-ticks o q hand old new orderly orderly' h is =
    let counted = lines-in_hand o q hand h.upholds.keeps h.in_hand in
    on o q hand LinesFenced old new orderly orderly' (subst (IsOne old) (sym is) (one-fenced _ old)) h.works h.in_hand
    (next-at o q hand (1 + length (lines_in q hand.commits)) (Some LinesFenced) h.upholds.keeps h.in_hand h.ticks (stage-fence (length (lines_in q hand.commits)))) h.upholds
    (lines-keep o q hand old new h.in_hand (omega (arith, h.ticks, counted)) counted is h.upholds)

pub operation-ticks : OperationTicks
operation-ticks o q hand stage reached old new orderly orderly' staged reaches h is =
    let counted = lines-in_hand o q hand h.upholds.keeps h.in_hand in
    let un = not_done stage reached reaches in
    on o q hand reached old new orderly orderly' (subst (IsOne old) (sym is) (one-written q hand stage old un)) h.works h.in_hand
    (next-at o q hand (2 + length (lines_in q hand.commits) + operations_before stage) (Some reached) h.upholds.keeps h.in_hand h.ticks (stage-reached (length (lines_in q hand.commits)) stage staged un ∙ reaches)) h.upholds
    (operation-keeps o q hand stage old new orderly orderly' h.in_hand staged un (more_left stage reached reaches) (omega (arith, h.ticks, counted)) is h.upholds)

covered-within : (q : State) (hand : Hand) (image : Image) → StandsAt (state_covered q hand) image → StandsWithin q (state_covered q hand) image
covered-within q hand image s = (
  present (state_covered q hand),
  Contains-append_right (covers_at q) (present (state_covered q hand) ∷ []) (present (state_covered q hand)) (0, omega arith, refl),
  stands-in_hand q hand image (subst (λ (c : Cover). StandsUnder (state_covered q hand) c image) (one-is (present (state_covered q hand)) s.0 s.1) s.2),
)
  where
    one-is : (x y : Cover) → Contains (x ∷ []) y → y ≡ x
    one-is x y c = grind (arith)

pub covering-ticks : CoveringTicks
covering-ticks o q hand old new orderly orderly' h is =
    let counted = lines-in_hand o q hand h.upholds.keeps h.in_hand in
    let one : IsOne old new = subst (IsOne old) (sym is) (one-fenced _ old) in
    let next : next_stage q hand ≡ None =
    next-at o q hand (2 + length (lines_in q hand.commits) + operations_before FenceGate) None h.upholds.keeps h.in_hand h.ticks (stage-reached (length (lines_in q hand.commits)) FenceGate tt (λ e. cc e)) in
    let u = covering-keeps o q hand old new orderly orderly' h.works h.in_hand (omega (arith, h.ticks, counted)) is h.upholds in
    record {
      stepped = grind (arith);
      leads = one-leads o q (state_covered q hand) old new orderly orderly' one h.upholds u (λ image may. covered-within q hand image (every-image-stands o (state_covered q hand) new image u may));
      no_failure = one.failures;
      operations = omega (arith, one.count, one_at_most q hand h.in_hand);
    }

pub failing-ticks : FailingTicks
failing-ticks o q hand old new orderly orderly' h is = record {
  stepped = device_failed (refusal-in_hand q hand h.works h.in_hand) (operates-in_hand q hand h.in_hand) refl refl;
  leads = record {
    upholds = failures-keep o q old new is h.upholds;
    images = leaves-failed (StandsWithin q (record q { failed = true })) orderly orderly' is (λ image may. StandsAt-within q (record q { failed = true }) image (every-image-stands o q old image h.upholds may));
  };
  failure = ap (λ (d : Device). d.failures) is;
  operations = omega (arith, ap operations_of is);
}
