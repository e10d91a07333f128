-- Which refusal ends a subcommand.
use Rattle.std.proofs.Common.{◌≡◌, ◌⊎◌, ℕ, List, [], ◌∷◌, ◌++◌, length, true, sym, ◌∙◌, subst, inl, inr, append-nil, arith}
use Rattle.std.specs.Prelude.{Option, None, IfSome, IsSome, Result, IsErrAnd, IfErr}
use Rattle.std.proofs.lemmas.Bool.{false≢true}
use Rattle.std.specs.Io.KnownBytes.{Appends}
use Rattle.base.specs.declared.fault.Fault.{Fault}
use Rattle.base.specs.declared.fault.Fault.TheVariants.{Device as DeviceFault, OutOfMemory}
use Rattle.base.specs.Images.{Image, opening_fault}
use Rattle.machine.specs.Machine.{State}
use Rattle.pmem.specs.Device.{Device}
use Rattle.pmem.specs.declared.device.Pmem.{Ghosts}
use Rattle.recovery.specs.Opened.{IsRefusal}
use Rattle.recovery.specs.Read.{IsReadRefusal}
use Rattle.room.specs.Closing.{IsClosingRefusal}
use Rattle.room.specs.Room.{Shows}
use Rattle.room.specs.declared.room.Room.{Room}
use Rattle.command_line.specs.ImageFile.{HoldsWords, is_image_length}
use Rattle.command_line.specs.declared.command.Survivor.{Survivor}
use Rattle.command_line.specs.Numbers.{Text}
use Rattle.command_line.specs.declared.orders.Order.{Order}
use Rattle.command_line.specs.declared.orders.Order.TheVariants.{Format, Run, Check, Threads, Lives}
use Rattle.console.specs.Input.{Reads}
use Rattle.console.specs.Kept.{LeadsBy}
use Rattle.console.specs.Lives.{FileOpensTo, opened_text}
use Rattle.console.specs.Obeyed.{ObeysLines}
use Rattle.console.specs.Refusals.{EndsAtClose, EndsRefused, EndsWith, IfRefused, IsClosingFault, IsDamage, IsFaultOf, IsFileFault, IsOpeningFault, Refuses, refusal_line}
use Rattle.console.specs.declared.stop.Stop.{Stop}
use Rattle.console.specs.declared.stop.Stop.TheVariants.{Refused, NotACommand, Broken}
use Rattle.console.proofs.Lives.{begun-of}
use Rattle.console.proofs.Obeyed.{appends-more, appends-none}

pub fault-by : (stop : Stop) (P Q : Fault → Type 0) → ((fault : Fault) → P fault → Q fault) → IfRefused P stop → IfRefused Q stop
fault-by a b d says p = grind (arith)

-- what a `?` passes on
pub fault-on : {T : Type 0} (r : Result T Stop) (stop : Stop) (P Q : Fault → Type 0) → IsErrAnd r (λ y. y ≡ stop) → ((fault : Fault) → P fault → Q fault)
    → IfRefused P stop → IfErr r (IfRefused Q)
fault-on a stop b d is says p = grind (arith, fault-by)

-- nothing is printed besides
pub unprinted : {A B : Type 0} (printed : Option Text) → A ⊎ B → A ⊎ ((printed ≡ printed) × B)
unprinted printed d = grind (arith)

-- nothing is printed
pub appends-same : (old new : Option Text) → new ≡ old → Appends old new []
appends-same old new same = subst (λ (known : Option Text). Appends old known []) (sym same) (appends-none old)

pub at-close : {D : Type 0} {G : Ghosts D} (state : D → Device) (opened ended_room : Room D G) (file : List ℕ) (input old mid new last : Option Text) (lines : List Text) (begun said : Text) (fault : Fault)
    → FileOpensTo file (Shows state opened) → Appends old mid begun → ((q : State) → Shows state opened q → begun ≡ opened_text q ++ 10 ∷ [])
    → Reads input lines None → Appends mid new said → LeadsBy state opened ended_room (λ q q'. ObeysLines q lines said None q')
    → last ≡ new → ((q : State) → Shows state ended_room q → IsClosingFault q fault)
    → EndsAtClose file input old last fault []
at-close state opened ended_room file input old mid new last lines begun said fault opens says told reads more leads same is = record {
  lines = lines;
  reads = reads;
  begun = begun;
  said = said;
  prints = appends-more old new last (begun ++ said) [] (appends-more old mid new begun said says more) (appends-same new last same);
  opens = begun-of state opened file lines None begun said (λ q. IsClosingFault q fault) opens told (λ q shows. let went = leads.each q shows in (went.0, went.1, is went.0 went.2));
}

-- ---- the line

close-said : (file : List ℕ) (input old mid new : Option Text) (fault : Fault) (ended : Text) → EndsAtClose file input old mid fault [] → Appends mid new ended → EndsAtClose file input old new fault ended
close-said file input old mid new fault ended met line = record {
  lines = met.lines;
  reads = met.reads;
  begun = met.begun;
  said = met.said;
  prints = subst (λ (l : Text). Appends old new (l ++ ended)) (append-nil (met.begun ++ met.said)) (appends-more old mid new ((met.begun ++ met.said) ++ []) ended met.prints line);
  opens = met.opens;
}

ends-said : (order : Order) (file : List ℕ) (input old mid new : Option Text) (fault : Fault) (ended : Text) → EndsRefused order file input old mid fault [] → Appends mid new ended
    → EndsRefused order file input old new fault ended
ends-said (Format name width slots places window) file input old mid new fault ended met line = (met.0, appends-more old mid new [] ended met.1 line)
ends-said (Run name) file input old mid new fault ended (inl met) line = inl (met.0, appends-more old mid new [] ended met.1 line)
ends-said (Run name) file input old mid new fault ended (inr met) line = inr (close-said file input old mid new fault ended met line)
ends-said (Check name) file input old mid new fault ended met line = (met.0, appends-more old mid new [] ended met.1 line)
ends-said (Threads name sessions commits) file input old mid new fault ended met line = (met.0, appends-more old mid new [] ended met.1 line)
ends-said (Lives name) file input old mid new fault ended met line = (met.0, met.1, appends-more old mid new [] ended met.2 line)

refused-by : (order : Order) (stop : Stop) (file : List ℕ) (input old mid new : Option Text) (fault : Fault)
    → IfRefused (λ why. (why ≡ OutOfMemory) ⊎ EndsRefused order file input old mid why []) stop
    → IsFaultOf stop fault → Appends mid new (refusal_line fault) → Refuses order file input old new fault
refused-by order (NotACommand number) file input old mid new fault met is line = absurd is
refused-by order (Broken reason) file input old mid new fault met is line = inl is
refused-by order (Refused why) file input old mid new fault (inl memory) is line = inl (is ∙ memory)
refused-by order (Refused why) file input old mid new fault (inr met) is line =
    inr (ends-said order file input old mid new fault (refusal_line fault) (subst (λ (f : Fault). EndsRefused order file input old mid f []) (sym is) met) line)

pub refused-so : (order : Order) (stop : Stop) (file : List ℕ) (input old mid new : Option Text) (stopped : Option Stop)
    → IfRefused (λ why. (why ≡ OutOfMemory) ⊎ EndsRefused order file input old mid why []) stop
    → IfSome stopped (IfRefused (λ fault. IsFaultOf stop fault × Appends mid new (refusal_line fault)))
    → IfSome stopped (IfRefused (Refuses order file input old new))
refused-so order stop file input old mid new a met told = grind (arith, fault-by, refused-by)

ends-with : (mid new : Option Text) (line : Text) → IsSome mid → Appends mid new line → EndsWith new line
ends-with a new line known says = grind (arith, false≢true)

-- the line of the refusal is the last, if all bytes are known
pub refused-last : (stop : Stop) (mid new : Option Text) (stopped : Option Stop) → IsSome mid
    → IfSome stopped (IfRefused (λ fault. IsFaultOf stop fault × Appends mid new (refusal_line fault)))
    → IfSome stopped (IfRefused (λ fault. EndsWith new (refusal_line fault)))
refused-last stop mid new a known told = grind (arith, fault-by, ends-with)

-- ---- the faults

-- the fault that is reported of a device without a fuse
pub opening-fault : (image : Image) (old new : Device) (fault told : Fault) → (fault ≡ DeviceFault → told ≡ OutOfMemory) → (told ≡ OutOfMemory) ⊎ (told ≡ fault)
    → IsRefusal (opening_fault image) old new fault → (told ≡ OutOfMemory) ⊎ IsOpeningFault image told
opening-fault image old new fault told memory a refusal = grind (arith)

-- what is reported is not that the device failed
pub never-device : (fault told : Fault) → (fault ≡ DeviceFault → told ≡ OutOfMemory) → told ≡ fault → told ≡ DeviceFault → ⊥
never-device fault told memory is device = let clash : OutOfMemory ≡ DeviceFault = sym (memory (sym is ∙ device)) ∙ device in cc clash

pub closing-fault : {D : Type 0} {G : Ghosts D} (state : D → Device) (room : Room D G) (old new : Device) (fault told : Fault) → (fault ≡ DeviceFault → told ≡ OutOfMemory)
    → (told ≡ OutOfMemory) ⊎ (told ≡ fault) → ((q : State) → Shows state room q → IsClosingRefusal q old new fault)
    → (told ≡ OutOfMemory) ⊎ ((q : State) → Shows state room q → IsClosingFault q told)
closing-fault state room old new fault told memory a refusal = grind (arith, never-device)

pub damage-of-file : (file words slice : List ℕ) (old : Option Text) (fault : Fault) → is_image_length (length file) ≡ true → HoldsWords file words → slice ≡ words → IsReadRefusal slice fault
    → (fault ≡ OutOfMemory) ⊎ (IsFileFault file IsDamage fault × Appends old old [])
damage-of-file file words slice old fault size holds same (inl is) =
    inr (inr (record { size = size; image = words; holds = holds; is = subst (λ (i : Image). IsDamage i fault) same is }), appends-none old)
damage-of-file file words slice old fault size holds same (inr h) = inl h.1

pub opening-of-file : (file words slice : List ℕ) (input old : Option Text) (fault : Fault) → is_image_length (length file) ≡ true → HoldsWords file words → slice ≡ words
    → (fault ≡ OutOfMemory) ⊎ IsOpeningFault slice fault
    → (fault ≡ OutOfMemory) ⊎ ((IsFileFault file IsOpeningFault fault × Appends old old []) ⊎ EndsAtClose file input old old fault [])
opening-of-file file words slice input old fault size holds same (inl memory) = inl memory
opening-of-file file words slice input old fault size holds same (inr is) =
    inr (inl (inr (record { size = size; image = words; holds = holds; is = subst (λ (i : Image). IsOpeningFault i fault) same is }), appends-none old))

pub at-end : {D : Type 0} {G : Ghosts D} (state : D → Device) (opened ended_room : Room D G) (file : List ℕ) (input old mid new last : Option Text) (lines : List Text) (keeps : Option Survivor)
    (begun said : Text) (fault : Fault) → FileOpensTo file (Shows state opened) → Appends old mid begun → ((q : State) → Shows state opened q → begun ≡ opened_text q ++ 10 ∷ [])
    → Reads input lines keeps → Appends mid new said → LeadsBy state opened ended_room (λ q q'. ObeysLines q lines said keeps q')
    → (fault ≡ OutOfMemory) ⊎ ((keeps ≡ None) × (last ≡ new) × ((q : State) → Shows state ended_room q → IsClosingFault q fault))
    → (fault ≡ OutOfMemory) ⊎ ((IsFileFault file IsOpeningFault fault × Appends old last []) ⊎ EndsAtClose file input old last fault [])
at-end state opened ended_room file input old mid new last lines keeps begun said fault opens says told reads more leads (inl memory) = inl memory
at-end state opened ended_room file input old mid new last lines keeps begun said fault opens says told reads more leads (inr (none, same, is)) =
    inr (inr (at-close state opened ended_room file input old mid new last lines begun said fault opens says told
    (subst (λ (k : Option Survivor). Reads input lines k) none reads) more
    (subst (λ (k : Option Survivor). LeadsBy state opened ended_room (λ (q q' : State). ObeysLines q lines said k q')) none leads) same is))
