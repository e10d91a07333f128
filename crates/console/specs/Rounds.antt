-- How many visits of the collector are made instead of many, and the outcome of ticks of the committer after an idle one.
use Rattle.std.specs.Prelude.{◌≡◌, ℕ, ◌+◌, ◌-◌, ◌%◌, nat_le, false, if◌then◌else◌}
use Rattle.base.specs.declared.step.Step.TheVariants.{Commit}
use Rattle.base.specs.declared.step.Reply.{Reply}
use Rattle.base.specs.declared.step.Reply.TheVariants.{Idle}
use Rattle.base.specs.Layout.{Layout}
use Rattle.base.specs.Replies.{is_failure}
use Rattle.machine.specs.Machine.{State, Stepped}
use Rattle.machine.specs.Rounds.{visits}
use Rattle.console.specs.Obeyed.{is_busy}

-- A round visits each slot and the closing place. Once a whole round was made, further whole rounds before the last visit are
-- left out, since they change nothing
abbrev pub visits_needed : Layout → ℕ → ℕ
visits_needed layout all =
    let round = layout.slots + 1 in
    if nat_le all round then all else round + 1 + (all - round - 1) % round

-- the last of the visits that are needed is made from the state from which the last of all would be
abbrev pub NeededAreEnough : Type 0
NeededAreEnough = (q : State) (all : ℕ) → visits (visits_needed q.layout all - 1) q ≡ visits (all - 1) q

-- A tick after which there is nothing to do, on a device that works, changes nothing, so all further ones are made in the same state. If
-- nothing is left to do, the reply to each of them is Idle
pub record QuietTicks : Type 0 where
  pub stay : (q q' : State) (answer : Reply) → Stepped q Commit answer q' → is_busy answer ≡ false → is_failure answer ≡ false → q' ≡ q
  pub idle : (q q' after : State) (answer : Reply) → Stepped q Commit Idle q' → Stepped q' Commit answer after → answer ≡ Idle
