-- The history only grows by commands and lines, and the layout stays.
use Rattle.std.proofs.Common.{◌≡◌, ℕ, suc, zero, List, [], ◌∷◌, Bool, refl, sym, ◌∙◌, subst, arith}
use Rattle.std.specs.Prelude.{Option, Some, None, if◌then◌else◌}
use Rattle.base.specs.declared.step.Step.{Step}
use Rattle.base.specs.declared.step.Step.TheVariants as step
use Rattle.base.specs.declared.step.Reply.{Reply}
use Rattle.base.specs.declared.step.Stage.{Stage}
use Rattle.base.specs.Commits.{Writes}
use Rattle.machine.specs.Collecting.{slot_visited, sweep_ended}
use Rattle.machine.specs.Machine.{State, Hand, Stepped, next_state, state_drawn, state_ticked, state_ticked_on}
use Rattle.base.specs.Steps.{as_step}
use Rattle.machine.proofs.Growth.{extends-stepped}
use Rattle.command_line.specs.Lines.{line_of}
use Rattle.command_line.specs.Numbers.{Text}
use Rattle.command_line.specs.declared.command.Command.{Command}
use Rattle.command_line.specs.declared.command.Command.TheVariants as asks
use Rattle.command_line.specs.declared.command.Survivor.{Survivor}
use Rattle.console.specs.declared.lines.Outcome.{Outcome}
use Rattle.console.specs.declared.lines.Outcome.TheVariants.{Replied, Crashed}
use Rattle.console.specs.Kept.{Extends}
use Rattle.console.specs.LongRows.{command_on}
use Rattle.console.specs.Obeyed.{Ticks, Answers, HasOutcome, ObeysRead, ObeysLine, ObeysLines}
use Rattle.console.proofs.KeptHistory.{extends-none, extends-trans}

-- the history of the second begins with that of the first, and their layout is one
abbrev pub Grows : State → State → Type 0
Grows q q' = Extends q.history q'.history × (q'.layout ≡ q.layout)

pub grows-same : (q q' : State) → q' ≡ q → Grows q q'
grows-same q q' e = subst (λ (p : State). Grows q p) (sym e) (extends-none q.history, refl)

pub grows-trans : (a b c : State) → Grows a b → Grows b c → Grows a c
grows-trans a b c first second = (extends-trans a.history b.history c.history first.0 second.0, second.1 ∙ first.1)

laid-drawn : (q : State) (n : ℕ) (writes : Writes) → (state_drawn q n writes).layout ≡ q.layout
laid-drawn q n [] = refl
laid-drawn q n (write ∷ writes) = refl

laid-idle : (q : State) (hand : Hand) (b : Bool) → (if b then q else record q { hand = Some hand }).layout ≡ q.layout
laid-idle q hand a = grind (arith)

laid-on : (q : State) (hand : Hand) (o : Option Stage) → (state_ticked_on q hand o).layout ≡ q.layout
laid-on q hand a = grind (arith)

laid-ticked : (q : State) (o : Option Hand) → (state_ticked q o).layout ≡ q.layout
laid-ticked q a = grind (arith, laid-idle, laid-on)

laid-visited : (q : State) (b : Bool) → (if b then slot_visited q else sweep_ended q).layout ≡ q.layout
laid-visited q a = grind (arith)

laid-next : (q : State) (one : Step) → (next_state q one).layout ≡ q.layout
laid-next q a = grind (arith, laid-drawn, laid-ticked, laid-visited)

laid-stepped : (q : State) (one : Step) (answer : Reply) (q' : State) → Stepped q one answer q' → q'.layout ≡ q.layout
laid-stepped q one answer q' a = grind (arith, laid-next)

pub grows-stepped : (q : State) (one : Step) (answer : Reply) (q' : State) → Stepped q one answer q' → Grows q q'
grows-stepped q one answer q' made = (extends-stepped q one answer q' made, laid-stepped q one answer q' made)

grows-ticks : (tick : Step) (goes_on : Reply → Bool) (more : ℕ) (q : State) (answer : Reply) (q' : State) → Ticks tick goes_on more q answer q' → Grows q q'
grows-ticks tick goes_on zero q answer q' t = grows-stepped q tick answer q' t
grows-ticks tick goes_on (suc more) q answer q' (before, mid, earlier, goes, last) =
    grows-trans q mid q' (grows-ticks tick goes_on more q before mid earlier) (grows-stepped mid tick answer q' last)

grows-answers : (q : State) (command : Command) (answer : Reply) (q' : State) → Answers q command answer q' → Grows q q'
grows-answers q (asks.Step asked) answer q' s = grows-stepped q (as_step asked) answer q' s
grows-answers q asks.LongRow answer q' s = grows-same q q' s.1
grows-answers q (asks.Commit ticks) answer q' s = grows-ticks step.Commit _ s.0 q answer q' s.1
grows-answers q (asks.Collect visits) answer q' s = grows-ticks step.Collect _ s.0 q answer q' s.1
grows-answers q asks.Cycle answer q' s = grows-ticks step.Commit _ s.0 q answer q' s.1
grows-answers q (asks.Crash keeps) answer q' s = absurd s

grows-comes : (q : State) (command : Command) (outcome : Outcome) (q' : State) → HasOutcome q command outcome q' → Grows q q'
grows-comes q command (Replied answer) q' s = grows-answers q (command_on q.layout.version command) answer q' s
grows-comes q command (Crashed keeps) q' (is, same) = grows-same q q' same

grows-read : (q : State) (read : Option (Option Command)) (said : Text) (keeps : Option Survivor) (q' : State) → ObeysRead q read said keeps q' → Grows q q'
grows-read q None said keeps q' o = absurd o
grows-read q (Some None) said keeps q' (e, none, same) = grows-same q q' same
grows-read q (Some (Some command)) said keeps q' (outcome, comes, says) = grows-comes q command outcome q' comes

grows-line : (q : State) (line said : Text) (keeps : Option Survivor) (q' : State) → ObeysLine q line said keeps q' → Grows q q'
grows-line q line = grows-read q (line_of line)

pub grows-lines : (q : State) (lines : List Text) (said : Text) (keeps : Option Survivor) (q' : State) → ObeysLines q lines said keeps q' → Grows q q'
grows-lines q [] said keeps q' (e, none, same) = grows-same q q' same
grows-lines q (line ∷ before) said keeps q' (earlier, last, mid, first, obeys, is) =
    grows-trans q mid q' (grows-lines q before earlier None mid first) (grows-line mid line last keeps q' obeys)
