-- How a line that isn't a command is met, passed on and reported.
use Rattle.std.proofs.Common.{◌≡◌, ℕ, ◌+◌, ◌-◌, ◌^◌, false, List, [], ◌∷◌, ◌++◌, length, sym, ◌∙◌, ap, subst, append-nil, arith}
use Rattle.std.specs.Prelude.{Option, Some, None, is_some, Result, IsErrAnd, IfErr, IfSome, All, min, ⊤}
use Rattle.std.specs.Io.KnownBytes.{Appends}
use Rattle.machine.specs.Machine.{State}
use Rattle.base.proofs.Options.{is_some-none}
use Rattle.pmem.specs.Device.{Device}
use Rattle.pmem.specs.declared.device.Pmem.{Ghosts}
use Rattle.room.specs.Room.{Shows}
use Rattle.room.specs.declared.room.Room.{Room}
use Rattle.command_line.specs.Lines.{line_of}
use Rattle.command_line.specs.Numbers.{Text}
use Rattle.command_line.specs.Scripts.{IsWrongLine}
use Rattle.command_line.specs.Texts.{text_of}
use Rattle.command_line.specs.declared.command.Survivor.{Survivor}
use Rattle.command_line.specs.declared.orders.Order.{Order}
use Rattle.command_line.specs.declared.orders.Order.TheVariants.{Format, Run, Check, Threads, Lives}
use Rattle.command_line.specs.declared.printed.Printed.TheVariants as printed
use Rattle.console.specs.BadLine.{BlamesNoLine, EndsAtBadLine, EndsAtLine, IfBadLine, IsLineOf, IsPassed, MeetsBadLine, PrintsBadLine, ReportsLine, kept_in}
use Rattle.console.specs.Input.{BeginsWith}
use Rattle.console.specs.Kept.{LeadsBy}
use Rattle.console.specs.Lives.{FileOpensTo, opened_text}
use Rattle.console.specs.Obeyed.{ObeysLines}
use Rattle.console.specs.declared.stop.Stop.{Stop}
use Rattle.console.specs.declared.stop.Stop.TheVariants.{Refused, NotACommand, Broken}
use Rattle.console.proofs.Lives.{begun-of}
use Rattle.console.proofs.Obeyed.{appends-more, appends-none}

-- ---- what a line keeps

pub passed-so : (line : Text) (keeps : Option Survivor) → is_some keeps ≡ false → kept_in line ≡ Some keeps → IsPassed line
passed-so line keeps none is = is ∙ ap (λ (k : Option Survivor). Some k) (is_some-none keeps none)

-- ---- who is to blame

pub bad-line-by : (stop : Stop) (P Q : ℕ → Type 0) → ((number : ℕ) → P number → Q number) → IfBadLine P stop → IfBadLine Q stop
bad-line-by a b d says p = grind (arith)

-- what a `?` passes on
pub passed_on : {T : Type 0} (r : Result T Stop) (stop : Stop) (P Q : ℕ → Type 0) → IsErrAnd r (λ y. y ≡ stop) → ((number : ℕ) → P number → Q number)
    → IfBadLine P stop → IfErr r (IfBadLine Q)
passed_on a stop b d is says p = grind (arith, bad-line-by)

pub unblamed : {T : Type 0} (r : Result T Stop) (stop : Stop) (Q : ℕ → Type 0) → IsErrAnd r (λ y. y ≡ stop) → BlamesNoLine stop → IfErr r (IfBadLine Q)
unblamed r stop Q is p = passed_on r stop (λ (number : ℕ). ⊥) Q is (λ number no. absurd no) p

-- ---- the line

pub meets : {D : Type 0} {G : Ghosts D} (state : D → Device) (room room' : Room D G) (input old mid new : Option Text) (before : List Text) (line said : Text) (number at : ℕ)
    → All IsPassed before → BeginsWith input (line ∷ before) → number ≡ min (length before + 1) (2 ^ 64 - 1) → Appends old mid said
    → LeadsBy state room room' (λ q q'. ObeysLines q before said None q') → (at ≡ number) × (line_of line ≡ None) × (new ≡ mid)
    → MeetsBadLine state room input old new at
meets state room room' input old mid new before line said number at passed read counted says leads (is, bad, same) = record {
  is = record { before = before; line = line; passed = passed; bad = bad; counted = is ∙ counted; read = read };
  said = said;
  prints = subst (λ (known : Option Text). Appends old known said) (sym same) says;
  obeys = λ q shows. let went = leads.each q shows in (went.0, went.1);
}

pub ends-at : {D : Type 0} {G : Ghosts D} (state : D → Device) (room : Room D G) (file : List ℕ) (input old mid new : Option Text) (begun : Text) (at : ℕ)
    → FileOpensTo file (Shows state room) → Appends old mid begun → ((q : State) → Shows state room q → begun ≡ opened_text q ++ 10 ∷ []) → MeetsBadLine state room input mid new at
    → EndsAtBadLine file input old new at []
ends-at state room file input old mid new begun at opens says told met = record {
  is = met.is;
  begun = begun;
  said = met.said;
  prints = appends-more old new new (begun ++ met.said) [] (appends-more old mid new begun met.said says met.prints) (appends-none new);
  opens = begun-of state room file met.is.before None begun met.said (λ (q : State). ⊤) opens told (λ q shows. let went = met.obeys q shows in (went.0, went.1, tt));
}

ends-so : (file : List ℕ) (input old mid new : Option Text) (number : ℕ) (ended : Text) → EndsAtBadLine file input old mid number [] → Appends mid new ended
    → EndsAtBadLine file input old new number ended
ends-so file input old mid new number ended met told = record {
  is = met.is;
  begun = met.begun;
  said = met.said;
  prints = subst (λ (l : Text). Appends old new (l ++ ended)) (append-nil (met.begun ++ met.said)) (appends-more old mid new ((met.begun ++ met.said) ++ []) ended met.prints told);
  opens = met.opens;
}

told-by : (order : Order) (stop : Stop) (file : List ℕ) (input old mid new : Option Text) (number : ℕ)
    → IfBadLine (λ line. EndsAtLine order file input old mid line []) stop → IsLineOf stop number → PrintsBadLine mid new number
    → ReportsLine order file input old new number
told-by order (Refused fault) file input old mid new number met is told = absurd is
told-by order (Broken reason) file input old mid new number met is told = absurd is
told-by (Format name width slots places window) (NotACommand line) file input old mid new number met is told = absurd met
told-by (Check name) (NotACommand line) file input old mid new number met is told = absurd met
told-by (Run name) (NotACommand line) file input old mid new number met is told =
    ends-so file input old mid new number (text_of (printed.NotACommand number) ++ 10 ∷ []) (subst (λ (n : ℕ). EndsAtBadLine file input old mid n []) (sym is) met) told
told-by (Threads name sessions commits) (NotACommand line) file input old mid new number met is told = absurd met
told-by (Lives name) (NotACommand line) file input old mid new number met is told =
    (subst (λ (n : ℕ). IsWrongLine file n) (sym is) met.0, appends-more old mid new [] (text_of (printed.NotACommand number) ++ 10 ∷ []) met.1 told)

pub told-so : (order : Order) (stop : Stop) (file : List ℕ) (input old mid new : Option Text) (stopped : Option Stop)
    → IfBadLine (λ line. EndsAtLine order file input old mid line []) stop
    → IfSome stopped (IfBadLine (λ number. IsLineOf stop number × PrintsBadLine mid new number))
    → IfSome stopped (IfBadLine (ReportsLine order file input old new))
told-so order stop file input old mid new a met told = grind (arith, bad-line-by, told-by)
