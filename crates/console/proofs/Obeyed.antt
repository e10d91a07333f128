-- How ticks, commands and lines add up.
use Rattle.std.proofs.Common.{◌≡◌, ℕ, ◌-◌, ◌≤◌, ◌^◌, suc, List, [], ◌∷◌, ◌++◌, ◌⊎◌, Bool, true, false, refl, sym, ◌∙◌, ap, subst, append_assoc, append-nil, arith}
use Rattle.std.specs.Prelude.{Option, Some, None}
use Rattle.std.specs.Io.KnownBytes.{Appends}
use Rattle.base.specs.declared.step.Step.{Step}
use Rattle.base.specs.declared.step.Step.TheVariants as step
use Rattle.base.specs.declared.step.Reply.{Reply}
use Rattle.base.specs.Layout.{Layout}
use Rattle.base.specs.Replies.{is_failure}
use Rattle.machine.specs.Machine.{State, Stepped}
use Rattle.pmem.specs.Device.{Device}
use Rattle.pmem.specs.declared.device.Pmem.{Ghosts}
use Rattle.room.specs.Room.{Shows}
use Rattle.room.specs.declared.room.Room.{Room}
use Rattle.command_line.specs.Lines.{line_of}
use Rattle.command_line.specs.Numbers.{Text}
use Rattle.command_line.specs.declared.command.Command.{Command}
use Rattle.command_line.specs.declared.command.Command.TheVariants as asks
use Rattle.command_line.specs.declared.command.Survivor.{Survivor}
use Rattle.console.specs.declared.lines.Outcome.{Outcome}
use Rattle.console.specs.declared.lines.Outcome.TheVariants.{Replied, Crashed}
use Rattle.console.specs.Kept.{LeadsBy}
use Rattle.console.specs.LongRows.{command_on}
use Rattle.console.specs.Obeyed.{Ticks, Commits, Cycles, Answers, HasOutcome, Obeys, ObeysLine, ObeysLines, is_busy, is_tick, reply_text}
use Rattle.console.proofs.KeptHistory.{leads-nowhere, leads-by, leads-trans}

-- ---- ticks

pub more-ticks : {D : Type 0} {G : Ghosts D} (state : D → Device) (old mid new : Room D G) (tick : Step) (goes_on : Reply → Bool) (more : ℕ) (before answer : Reply) → goes_on before ≡ true
    → LeadsBy state old mid (λ q m. Ticks tick goes_on more q before m) → LeadsBy state mid new (λ m q'. Stepped m tick answer q')
    → LeadsBy state old new (λ q q'. Ticks tick goes_on (suc more) q answer q')
more-ticks state old mid new tick goes_on more before answer goes earlier last =
    leads-trans state old mid new (λ (q m : State). Ticks tick goes_on more q before m) (λ (m q' : State). Stepped m tick answer q')
    (λ (q q' : State). Ticks tick goes_on (suc more) q answer q') (λ q m q' a b. (before, m, a, goes, b)) earlier last

pub commits-so : {D : Type 0} {G : Ghosts D} (state : D → Device) (old new : Room D G) (ticks more : ℕ) (answer : Reply) → more ≤ ticks - 1 → (more ≡ ticks - 1) ⊎ (is_busy answer ≡ false)
    → LeadsBy state old new (λ q q'. Ticks step.Commit is_busy more q answer q') → LeadsBy state old new (λ q q'. Commits q ticks answer q')
commits-so state old new ticks more answer few all made =
    leads-by state old new (λ (q q' : State). Ticks step.Commit is_busy more q answer q') (λ (q q' : State). Commits q ticks answer q') (λ q q' t. (more, t, few, all)) made

pub cycles-so : {D : Type 0} {G : Ghosts D} (state : D → Device) (old new : Room D G) (more : ℕ) (answer : Reply) → more ≤ 2 ^ 64 - 2 → (more ≡ 2 ^ 64 - 2) ⊎ (is_tick answer ≡ false)
    → LeadsBy state old new (λ q q'. Ticks step.Commit is_tick more q answer q') → LeadsBy state old new (λ q q'. Cycles q answer q')
cycles-so state old new more answer few all made =
    leads-by state old new (λ (q q' : State). Ticks step.Commit is_tick more q answer q') (λ (q q' : State). Cycles q answer q') (λ q q' t. (more, t, few, all)) made

-- ---- commands

-- the room's layout is that of each state that it shows, so on its image the command asks for this one
pub comes-as : {D : Type 0} {G : Ghosts D} (state : D → Device) (old new : Room D G) (layout : Layout) (command actual : Command) (answer : Reply)
    → ((q : State) → Shows state old q → layout ≡ q.layout) → command_on layout.version command ≡ actual
    → LeadsBy state old new (λ q q'. Answers q actual answer q') → LeadsBy state old new (λ q q'. HasOutcome q command (Replied answer) q')
comes-as state old new layout command actual answer laid is made = record {
  each = λ q shows.
      let one = made.each q shows in
      let asked : command_on q.layout.version command ≡ actual = ap (λ (a : Layout). command_on a.version command) (sym (laid q shows)) ∙ is in
      (one.0, subst (λ (c : Command). Answers q c answer one.0) (sym asked) one.1, one.2);
}

-- no command asks for a crash but a crash
pub crash-on : (version : ℕ) (command : Command) (keeps : Survivor) → command_on version command ≡ asks.Crash keeps → command ≡ asks.Crash keeps
crash-on version command keeps is = grind (arith)

pub comes-crash : {D : Type 0} {G : Ghosts D} (state : D → Device) (room : Room D G) (version : ℕ) (command : Command) (keeps : Survivor) → command_on version command ≡ asks.Crash keeps
    → LeadsBy state room room (λ q q'. HasOutcome q command (Crashed keeps) q')
comes-crash state room version command keeps is =
    leads-nowhere state room (λ (q q' : State). HasOutcome q command (Crashed keeps) q') (λ q. (crash-on version command keeps is, refl))

pub obeys-reply : {D : Type 0} {G : Ghosts D} (state : D → Device) (old new : Room D G) (command : Command) (outcome : Outcome) (answer : Reply) → is_failure answer ≡ false → outcome ≡ Replied answer
    → LeadsBy state old new (λ q q'. HasOutcome q command outcome q') → LeadsBy state old new (λ q q'. Obeys q command (reply_text answer ++ 10 ∷ []) None q')
obeys-reply state old new command outcome answer works is made = grind (arith, leads-by)

pub obeys-crash : {D : Type 0} {G : Ghosts D} (state : D → Device) (old new : Room D G) (command : Command) (outcome : Outcome) (keeps : Survivor) → outcome ≡ Crashed keeps
    → LeadsBy state old new (λ q q'. HasOutcome q command outcome q') → LeadsBy state old new (λ q q'. Obeys q command [] (Some keeps) q')
obeys-crash state old new command outcome keeps is made = grind (arith, leads-by)

-- ---- lines

pub line-read : {D : Type 0} {G : Ghosts D} (state : D → Device) (old new : Room D G) (line said : Text) (command : Command) (keeps : Option Survivor) → line_of line ≡ Some (Some command)
    → LeadsBy state old new (λ q q'. Obeys q command said keeps q') → LeadsBy state old new (λ q q'. ObeysLine q line said keeps q')
line-read state old new line said command keeps is made = grind (arith, leads-by)

pub line-skipped : {D : Type 0} {G : Ghosts D} (state : D → Device) (room : Room D G) (line : Text) → line_of line ≡ Some None
    → LeadsBy state room room (λ q q'. ObeysLine q line [] None q')
line-skipped state room line is = grind (arith, leads-nowhere)

pub no-lines : {D : Type 0} {G : Ghosts D} (state : D → Device) (room : Room D G) → LeadsBy state room room (λ q q'. ObeysLines q [] [] None q')
no-lines state room = leads-nowhere state room (λ (q q' : State). ObeysLines q [] [] None q') (λ q. (refl, refl, refl))

pub more-lines : {D : Type 0} {G : Ghosts D} (state : D → Device) (old mid new : Room D G) (lines : List Text) (line earlier last : Text) (keeps : Option Survivor)
    → LeadsBy state old mid (λ q m. ObeysLines q lines earlier None m) → LeadsBy state mid new (λ m q'. ObeysLine m line last keeps q')
    → LeadsBy state old new (λ q q'. ObeysLines q (line ∷ lines) (earlier ++ last) keeps q')
more-lines state old mid new lines line earlier last keeps before after = grind (arith, leads-trans)

-- ---- what is said

pub appends-none : (known : Option (List ℕ)) → Appends known known []
appends-none None = tt
appends-none (Some xs) = sym (append-nil xs)

pub appends-more : (old mid new : Option (List ℕ)) (a b : List ℕ) → Appends old mid a → Appends mid new b → Appends old new (a ++ b)
appends-more None mid new a b first second = tt
appends-more (Some xs) None new a b first second = absurd first
appends-more (Some xs) (Some ys) None a b first second = absurd second
appends-more (Some xs) (Some ys) (Some zs) a b first second = second ∙ (ap (λ (l : List ℕ). l ++ b) first ∙ append_assoc xs a b)
