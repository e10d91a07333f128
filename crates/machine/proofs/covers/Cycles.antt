-- How many ticks a cycle takes.
use Rattle.std.proofs.Common.{◌≡◌, ℕ, suc, ◌+◌, Bool, true, false, List, [], ◌∷◌, ◌++◌, length, map, replicate, refl, sym, ◌∙◌, ap, append-nil, append_assoc, arith}
use Rattle.std.specs.Prelude.{Option, Some, None, slice_get, is_none, IsTrue, not}
use Rattle.std.specs.List.{range_with_len}
use Rattle.std.proofs.Math.ListN.{length-append}
use Rattle.std.proofs.Math.Seq.{get_or-append_seam}
use Rattle.std.proofs.lemmas.Bool.{and_parts, not-true}
use Rattle.std.proofs.lemmas.List.FromFn.{length-map-range_with_len}
use Rattle.std.proofs.lemmas.Option.{slice_get-get_or, slice_get_past}
use Rattle.base.specs.declared.step.Step.TheVariants.{Commit as CommitTick}
use Rattle.base.specs.declared.step.Stage.{Stage}
use Rattle.base.specs.declared.step.Stage.TheVariants.{Chosen, LineFlushed, LinesFenced, BodyStored, BodyFlushed, BodyFenced, GateStored, GateFlushed}
use Rattle.base.specs.declared.step.Reply.TheVariants.{Ticked, Covered}
use Rattle.machine.specs.Machine.{State, Hand, refusal, chooses, chosen, is_idle, stages, lines_of, next_stage, batch_of, taken_in_hand, state_covered, ticked_on, state_ticked_on}
use Rattle.machine.specs.Replay.{reply_on, state_on, reply_of, state_of, replies, end}
use Rattle.machine.specs.Laws.{CycleIsWhole}

-- the state with this batch being written, after this many ticks
abbrev at : State → Hand → ℕ → State
at q hand k = record q { hand = Some (record { commits = hand.commits; target = hand.target; ticks = k }) }

not-refused : (q : State) (hand : Hand) (k : ℕ) → q.failed ≡ false → refusal (at q hand k) CommitTick ≡ None
not-refused q hand k works = rw works refl

-- one tick
tick-reply : (q : State) (hand : Hand) (k : ℕ) (o : Option Stage) → q.failed ≡ false → next_stage (at q hand k) (record { commits = hand.commits; target = hand.target; ticks = k }) ≡ o
    → reply_of (at q hand k) CommitTick ≡ ticked_on (at q hand k) (record { commits = hand.commits; target = hand.target; ticks = k }) o
tick-reply q hand k o works e =
    ap (reply_on (at q hand k) CommitTick) (not-refused q hand k works) ∙ ap (ticked_on (at q hand k) (record { commits = hand.commits; target = hand.target; ticks = k })) e

tick-state : (q : State) (hand : Hand) (k : ℕ) (o : Option Stage) → q.failed ≡ false → next_stage (at q hand k) (record { commits = hand.commits; target = hand.target; ticks = k }) ≡ o
    → state_of (at q hand k) CommitTick ≡ state_ticked_on (at q hand k) (record { commits = hand.commits; target = hand.target; ticks = k }) o
tick-state q hand k o works e =
    ap (state_on (at q hand k) CommitTick) (not-refused q hand k works) ∙ ap (state_ticked_on (at q hand k) (record { commits = hand.commits; target = hand.target; ticks = k })) e

seam : (done : List Stage) (stage : Stage) (rest : List Stage) → slice_get (done ++ stage ∷ rest) (length done) ≡ Some stage
seam done stage rest = grind (arith, length-append done (stage ∷ rest), slice_get-get_or, get_or-append_seam done stage rest stage)

-- the ticks of these stages, and the one that covers
abbrev IsRest : State → Hand → ℕ → List Stage → Type 0
IsRest q hand k rest =
    (replies (at q hand k) (replicate (suc (length rest)) CommitTick) ≡ map Ticked rest ++ Covered (batch_of q hand) ∷ [])
    × (end (at q hand k) (replicate (suc (length rest)) CommitTick) ≡ state_covered q hand)

rest-of : (q : State) (hand : Hand) (done rest : List Stage) → q.failed ≡ false → stages (lines_of q hand.commits) ≡ done ++ rest → IsRest q hand (length done) rest
rest-of q hand done [] works e = grind (arith, append-nil, slice_get_past, tick-reply, tick-state)
rest-of q hand done (stage ∷ rest) works e = grind (arith, seam done stage rest, rest-of q hand (done ++ stage ∷ []) rest works (e ∙ sym (append_assoc done (stage ∷ []) rest)), length-append done (stage ∷ []))

-- the stages after the first
abbrev later : ℕ → List Stage
later lines =
    map LineFlushed (range_with_len 0 lines) ++ (LinesFenced ∷ map BodyStored (range_with_len 1 31))
    ++ map BodyFlushed (range_with_len 0 4) ++ (BodyFenced ∷ GateStored ∷ GateFlushed ∷ [])

later-length : (lines : ℕ) → length (later lines) ≡ lines + 39
later-length lines = grind (arith, length-append, length-map-range_with_len)

pub cycle-whole : (q : State) → q.hand ≡ None → IsTrue (chooses q CommitTick) → refusal q CommitTick ≡ None → CycleIsWhole q
cycle-whole q none chooses_now ok =
    let lines : ℕ = lines_of q (chosen q) in
    let busy : is_idle q ≡ false = not-true (is_idle q) (and_parts (is_none q.hand) (not (is_idle q)) chooses_now).1 in
    let works : q.failed ≡ false = by q.failed refl in
    let on = rest-of q (taken_in_hand q) (Chosen ∷ []) (later lines) works refl in
    let count : lines + 41 ≡ suc (suc (length (later lines))) = omega (arith, later-length lines) in
    grind (arith)
  where
    by : (b : Bool) → q.failed ≡ b → b ≡ false
    by false is = refl
    by true is = grind (arith)
