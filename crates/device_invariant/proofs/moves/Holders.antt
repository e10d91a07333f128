-- Slots are released by sessions, taken by them and freed, while the device does nothing.
use Rattle.std.proofs.Common.{◌≡◌, ◌≢◌, inl, inr, ℕ, suc, zero, ◌+◌, ◌<◌, ◌≤◌, Bool, false, cond, List, [], ◌∷◌, ◌++◌, refl, sym, ◌∙◌, ap, arith}
use Rattle.std.specs.Prelude.{Option, Some, None}
use Rattle.std.specs.List.{flat_map, range_with_len}
use Rattle.std.proofs.lemmas.Bool.{ne_eqb, false_from_ne_true}
use Rattle.base.specs.declared.key.Key.{Key}
use Rattle.base.specs.Commits.{Commit, last_writer}
use Rattle.base.specs.Stands.{has_timestamp}
use Rattle.base.specs.Layout.{version_lines}
use Rattle.machine.specs.Machine.{State, Session, Drawn, Hand, Version, BySession, ByCommit, drawn_at}
use Rattle.pmem.specs.Device.{Device}
use Rattle.pmem.specs.Words.{IsSettledAt}
use Rattle.state_invariant.specs.Kept.{Origin, Keeps, version_by}
use Rattle.state_invariant.specs.Shown.{word_of}
use Rattle.state_invariant.proofs.covers.Kept.{batch-drawn}
use Rattle.device_invariant.specs.Slots.{SlotHolds}
use Rattle.device_invariant.specs.Log.{Line, line_at, lines_at, is_own, is_ended, HoldsHand}
use Rattle.device_invariant.specs.Upholds.{HoldsState}
use Rattle.device_invariant.specs.Laws.{ChangesHolder, HoldersKeep}
use Rattle.pmem.proofs.Changes.{each-settled, each-weaken}

module _ (q : State) (sessions : ℕ → Option Session) (held : ℕ → Option Version) (device : Device) where
  abbrev then : State
  then = record q { sessions = sessions; held = held }

  -- ---- a slot

  same-slot : (slot : ℕ) → held slot ≡ q.held slot → SlotHolds q device slot → SlotHolds then device slot
  same-slot slot same h = grind arith

  -- that nobody or a session holds, with a begin that is 0
  undrawn-slot : (slot : ℕ) → ((t : ℕ) (key : Key) → held slot ≡ Some (version_by key (ByCommit t)) → ⊥) → IsSettledAt device (word_of q.layout slot 0) 0 → SlotHolds q device slot → SlotHolds then device slot
  undrawn-slot slot not_commit cleared h = grind (arith, each-weaken, each-settled)

  not-none : (slot t : ℕ) (key : Key) → held slot ≡ None → held slot ≡ Some (version_by key (ByCommit t)) → ⊥
  not-none slot t key a b = let both : ◌≡◌ {A = Option Version} None (Some (version_by key (ByCommit t))) = sym a ∙ b in cc both

  not-session : (slot t n : ℕ) (key other : Key) → held slot ≡ Some (version_by other (BySession n)) → held slot ≡ Some (version_by key (ByCommit t)) → ⊥
  not-session slot t n key other a b = grind arith

  -- whose version was replaced
  freed-slot : (slot t : ℕ) (key : Key) → q.held slot ≡ Some (version_by key (ByCommit t)) → drawn_at q t ≡ None → t ≢ last_writer q.history key → held slot ≡ None → SlotHolds q device slot → SlotHolds then device slot
  freed-slot slot t key at undrawn apart none h = grind (arith, not-none)

  slot-then : (slot : ℕ) → ChangesHolder q held device slot → SlotHolds q device slot → SlotHolds then device slot
  slot-then slot a h = grind (arith, same-slot, undrawn-slot, not-none, not-session, freed-slot)

  -- ---- the lines

  -- the commits are drawn still
  abbrev AreUncovered : List Commit → Type 0
  AreUncovered commits = (t : ℕ) → drawn_at q t ≡ None → has_timestamp commits t ≡ false

  own-same : (commits : List Commit) (slot : ℕ) → AreUncovered commits → ChangesHolder q held device slot → is_own commits (held slot) ≡ is_own commits (q.held slot)
  own-same commits slot uncovered a = grind (arith)

  ended-same : (commits : List Commit) (slot : ℕ) → ChangesHolder q held device slot → is_ended q commits (held slot) ≡ is_ended q commits (q.held slot)
  ended-same commits slot a = grind (arith, ne_eqb)

  module _ (changes : (slot : ℕ) → slot < q.layout.slots → ChangesHolder q held device slot) where
    lines-same : (commits : List Commit) → AreUncovered commits → (from n : ℕ) → from + n ≤ q.layout.slots → flat_map (lines_at then commits) (range_with_len from n) ≡ flat_map (lines_at q commits) (range_with_len from n)
    lines-same commits uncovered from zero le = refl
    lines-same commits uncovered from (suc n) le =
        let c = changes from (omega (arith, le)) in
        ap (λ (b : Bool). cond b (flat_map (λ part. line_at from part ∷ []) (range_with_len 0 (version_lines q.layout))) (cond (is_ended q commits (held from)) (line_at from 0 ∷ []) []) ++ flat_map (lines_at then commits) (range_with_len (from + 1) n)) (own-same commits from uncovered c)
        ∙ ap (λ (b : Bool). cond (is_own commits (q.held from)) (flat_map (λ part. line_at from part ∷ []) (range_with_len 0 (version_lines q.layout))) (cond b (line_at from 0 ∷ []) []) ++ flat_map (lines_at then commits) (range_with_len (from + 1) n)) (ended-same commits from c)
        ∙ ap (λ (ls : List Line). lines_at q commits from ++ ls) (lines-same commits uncovered (from + 1) n (omega (arith, le)))

    hand-then : (hand : Option Hand) → ((h : Hand) → hand ≡ Some h → AreUncovered h.commits) → HoldsHand q device hand → HoldsHand then device hand
    hand-then None uncovered holds = holds
    hand-then (Some hand) uncovered (inl f) = grind (arith, lines-same)
    hand-then (Some hand) uncovered (inr r) = grind (arith, own-same, ended-same)

    pub holds-then : ((h : Hand) → q.hand ≡ Some h → AreUncovered h.commits) → HoldsState q device → HoldsState then device
    holds-then uncovered h = record {
      slots = record { each = λ slot lt. slot-then slot (changes slot lt) (h.slots.each slot lt) };
      log = hand-then q.hand uncovered h.log;
      sweeping = record { over = h.sweeping.over; under_way = h.sweeping.under_way };
    }

-- the commits of a pending batch are still drawn
pub uncovered-hand : (o : Origin) (q : State) → Keeps o q → (hand : Hand) → q.hand ≡ Some hand → (t : ℕ) → drawn_at q t ≡ None → has_timestamp hand.commits t ≡ false
uncovered-hand o q kept hand in_hand t undrawn = false_from_ne_true (has_timestamp hand.commits t) (λ has.
    let drawn = batch-drawn o q hand kept (kept.numbers.hand hand in_hand) t has in
    let both : ◌≡◌ {A = Option Drawn} None (Some drawn.0) = sym undrawn ∙ drawn.1 in
    cc both)

pub holders-keep : HoldersKeep
holders-keep o q sessions held device changes keeps shows links u = record { keeps = keeps; shows = shows; links = links; holds = holds-then q sessions held device changes (uncovered-hand o q u.keeps) u.holds }
