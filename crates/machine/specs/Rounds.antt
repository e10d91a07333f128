-- Visits of the collector with nothing between them.
use Rattle.std.specs.Prelude.{ℕ, zero, suc, ◌+◌, ◌*◌, ◌≡◌, false, List, [], ◌∷◌, replicate}
use Rattle.base.specs.declared.step.Step.TheVariants.{Collect}
use Rattle.base.specs.declared.step.Reply.{Reply}
use Rattle.machine.specs.Machine.{State}
use Rattle.machine.specs.Collecting.{visited, collected}
use Rattle.machine.specs.Replay.{replies as replies_to, end}

-- the state after this many visits
abbrev pub visits : ℕ → State → State
visits zero q = q
visits (suc n) q = visits n (visited q)

-- what they reply
abbrev pub visits_answer : ℕ → State → List Reply
visits_answer zero q = []
visits_answer (suc n) q = collected q ∷ visits_answer n (visited q)

-- the state after a round: each slot and the closing place, wherever it begins
abbrev pub round_of : State → State
round_of q = visits (q.layout.slots + 1) q

-- steps of the collector that follow each other are visits, if the device has not failed
pub record VisitsFollow : Type 0 where
  pub states : (q : State) (n : ℕ) → q.failed ≡ false → end q (replicate n Collect) ≡ visits n q
  pub replies : (q : State) (n : ℕ) → q.failed ≡ false → replies_to q (replicate n Collect) ≡ visits_answer n q

-- A second round changes nothing in the state, and if a round changes nothing, all later ones repeat it: that many rounds and
-- more visits give the same state as those visits alone
pub record RoundsRepeat : Type 0 where
  pub settle : (q : State) → round_of (round_of q) ≡ round_of q
  pub repeat : (q : State) (rounds more : ℕ) → round_of q ≡ q → visits (rounds * (q.layout.slots + 1) + more) q ≡ visits more q
