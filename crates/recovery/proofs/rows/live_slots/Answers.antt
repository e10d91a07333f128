use Rattle.std.proofs.Common.{◌≡◌, ◌<◌, ◌+◌, Vec, Global, List, [], ◌∷◌, ◌++◌, sym, ◌∙◌, ap, subst, length, map, take, arith}
use Rattle.recovery.specs.declared.rows.LiveSlot.{LiveSlot}
use Rattle.recovery.specs.Held.{HasEach, held_keys}
use Rattle.recovery.proofs.reads.LiveRows.{live-none, live-live, live-free, good-at}
use Rattle.recovery.proofs.reads.Slots.{found-at, live-here, free-here, live-is}
use Rattle.recovery.proofs.reads.HeldSlots.{each-none, each-more, each-skip, keys-none, keys-live, keys-dead}
use Rattle.recovery.proofs.rows.live_slots.Goals as goal
use Rattle.recovery.proofs.rows.live_slots.Goals.{in-Live+in_ok-push, in_default}

abbrev Live : Type 0
Live = Vec LiveSlot Global

pub loop-slot-init : goal.loop-slot-init
loop-slot-init c = grind (arith, live-none, each-none, keys-none)

pub loop-slot-preserved : goal.loop-slot-preserved
loop-slot-preserved c = record {
  live = λ image are.
      let slot = c.loop-slot.slot in
      let within : slot < length c.args.readings.now = omega (arith, c.loop-slot-test.true) in
      let found = c.content-found.ensures ∙ c.index-readings-slot.is ∙ found-at image (length c.args.readings.now) slot _ c.args.readings.now are.all within in
      elim c.match-found.branch [
        | in-Live+in_ok-push w ↦
            let is = sym w.in-Live.is ∙ found in
            ap (λ (live : Live). live.items) w.live-is ∙ w.in_ok-push.ensures.items
            ∙ (λ i. c.loop-slot.invariant.live image are i ++ (w.of.ensures ∙ live-is image slot _ is) i ∷ [])
            ∙ sym (live-live image slot (live-here image slot _ is))
        | in_default w ↦
            ap (λ (live : Live). live.items) w.live-is ∙ c.loop-slot.invariant.live image are
            ∙ sym (live-free image slot (free-here image slot _ found (good-at image (length c.args.readings.now) slot are.good within) w.in_default.not-Live))
      ];
  each =
      let readings = c.args.readings.now in
      let slot = c.loop-slot.slot in
      elim c.match-found.branch [
        | in-Live+in_ok-push w ↦
            subst (λ (live : List LiveSlot). HasEach readings (slot + 1) live) (sym (ap (λ (live : Live). live.items) w.live-is ∙ w.in_ok-push.ensures.items))
            (each-more readings slot _ _ (c.content-found.ensures ∙ c.index-readings-slot.is) c.loop-slot.live.items c.loop-slot.invariant.each _ _ (ap (λ (s : LiveSlot). s.slot) w.of.ensures) (ap (λ (s : LiveSlot). s.key) w.of.ensures) w.in-Live.is)
        | in_default w ↦
            subst (λ (live : List LiveSlot). HasEach readings (slot + 1) live) (sym (ap (λ (live : Live). live.items) w.live-is))
            (each-skip readings slot _ _ (c.content-found.ensures ∙ c.index-readings-slot.is) c.loop-slot.live.items c.loop-slot.invariant.each w.in_default.not-Live)
      ];
  keys =
      let readings = c.args.readings.now in
      let slot = c.loop-slot.slot in
      let within : slot < length readings = omega (arith, c.loop-slot-test.true) in
      elim c.match-found.branch [
        | in-Live+in_ok-push w ↦
            subst (λ (live : List LiveSlot). map (λ (s : LiveSlot). s.key) live ≡ held_keys (take (slot + 1) readings)) (sym (ap (λ (live : Live). live.items) w.live-is ∙ w.in_ok-push.ensures.items))
            (keys-live readings slot _ within c.loop-slot.live.items c.loop-slot.invariant.keys _ _ (ap (λ (s : LiveSlot). s.key) w.of.ensures) (sym (c.content-found.ensures ∙ c.index-readings-slot.is) ∙ w.in-Live.is))
        | in_default w ↦
            subst (λ (live : List LiveSlot). map (λ (s : LiveSlot). s.key) live ≡ held_keys (take (slot + 1) readings)) (sym (ap (λ (live : Live). live.items) w.live-is))
            (keys-dead readings slot _ within c.loop-slot.live.items c.loop-slot.invariant.keys (λ key is. w.in_default.not-Live key ((c.content-found.ensures ∙ c.index-readings-slot.is) ∙ is)))
      ];
}

pub returns-clause-each : goal.returns-clause-each
returns-clause-each c = λ slot reading key lt. c.loop-slot.invariant.each slot reading key (omega (arith, lt, c.loop-slot-test.false))
