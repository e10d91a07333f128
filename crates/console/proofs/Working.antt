-- What of an image is kept by the steps that threads made on it.
use mathlib.Core.HLevel.{⊥_prop}
use Rattle.std.proofs.Common.{◌≡◌, ◌⊎◌, ℕ, ◌*◌, true, List, [], ◌∷◌, length, inl, inr, sym, ◌∙◌, ap, subst, arith}
use Rattle.std.proofs.Math.Logic.{∥∥₁_elim, ∥∥₁_map}
use Rattle.std.specs.Prelude.{Option, Some}
use Rattle.std.specs.Io.KnownBytes.{Appends}
use Rattle.base.specs.declared.fault.Fault.{Fault}
use Rattle.base.specs.declared.fault.Fault.TheVariants.{OutOfMemory, SlotsOut, TimestampsOut, Device as DeviceFault}
use Rattle.base.specs.declared.step.Note.{Note}
use Rattle.base.specs.declared.step.Step.{Step}
use Rattle.base.specs.Commits.{Commit}
use Rattle.base.specs.Images.{Image, layout_of}
use Rattle.base.specs.Layout.{Layout, opened_layout}
use Rattle.machine.specs.Machine.{State, Noted, StandsClosed}
use Rattle.machine.specs.Openings.{OpensAs}
use Rattle.pmem.specs.Device.{Device}
use Rattle.pmem.specs.declared.device.Pmem.{Ghosts}
use Rattle.audited.proofs.Compose.{opens-weaken}
use Rattle.recovery.specs.Read.{IsReadRefusal}
use Rattle.room.specs.Room.{Shows}
use Rattle.room.specs.Runs.{OpensTo}
use Rattle.room.proofs.Runs.{of-some}
use Rattle.room.specs.declared.room.Room.{Room}
use Rattle.workload.specs.Load.{HasFree, HasNumbers, IsEngineFault, IsLoadFault, MakesTo}
use Rattle.workload.proofs.Made.{engine-not-slots, makes-weaken}
use Rattle.command_line.specs.ImageFile.{HoldsWords, IsFileOf, is_image_length}
use Rattle.command_line.specs.Numbers.{Text}
use Rattle.console.specs.Kept.{Extends, IsFileWith, KeepsHistories}
use Rattle.console.specs.Refusals.{IsClosingFault, IsFileFault}
use Rattle.console.specs.Threads.{IsOther, IsThreadsFault}
use Rattle.console.proofs.Grown.{Grows, grows-same, grows-stepped, grows-trans}
use Rattle.console.proofs.KeptHistory.{keeps-closed, keeps-of}
use Rattle.console.proofs.Lives.{opens-history, opens-layout}
use Rattle.console.proofs.Obeyed.{appends-none}
use Rattle.console.proofs.Refusals.{never-device}

grows-noted : (q : State) (entries : List (Step × Note)) (q' : State) → Noted q entries q' → Grows q q'
grows-noted q [] q' same = grows-same q q' same
grows-noted q (entry ∷ entries) q' (reply, mid, stepped, told, rest) =
    grows-trans q mid q' (grows-stepped q entry.0 reply mid stepped) (grows-noted mid entries q' rest)

-- ---- what is kept

pub keeps-run : (before words image after : List ℕ) (sessions commits : ℕ) → HoldsWords before words → MakesTo words sessions commits (λ q. StandsClosed q image) → IsFileOf image after
    → ∥ KeepsHistories before after ∥₁
keeps-run before words image after sessions commits holds made bytes = ∥∥₁_map made (λ m. keeps-of before words after holds (λ history drawn next stands.
    let s = m.1.each history drawn next [] stands in
    file-of-run history m.0 s.0 s.2.0 s.1 s.2.1 s.2.2))
  where
    file-of-run : (history : List Commit) (entries : List (Step × Note)) (start now : State) → OpensAs words history [] start → Noted start entries now → StandsClosed now image
        → IsFileWith (opened_layout (layout_of words)) history after
    file-of-run history entries start now opens run closed =
        let grown = grows-noted start entries now run in
        subst (λ (a : Layout). IsFileWith a history after) (grown.1 ∙ opens-layout words history [] start opens)
        (record {
          image = image;
          of_image = bytes;
          keeps = keeps-closed history now image (subst (λ (h : List Commit). Extends h now.history) (opens-history words history [] start opens) grown.0) closed;
        })

-- ---- why it is refused

pub load-fault : (file words slice : List ℕ) (sessions commits : ℕ) (old : Option Text) (fault : Fault) → is_image_length (length file) ≡ true → HoldsWords file words → slice ≡ words
    → (fault ≡ OutOfMemory) ⊎ IsThreadsFault sessions commits slice fault
    → (fault ≡ OutOfMemory) ⊎ (IsFileFault file (IsThreadsFault sessions commits) fault × Appends old old [])
load-fault file words slice sessions commits old fault size holds same (inl memory) = inl memory
load-fault file words slice sessions commits old fault size holds same (inr is) =
    inr (inr (record { size = size; image = words; holds = holds; is = subst (λ (i : Image). IsThreadsFault sessions commits i fault) same is }), appends-none old)

told-other : (image : Image) (sessions : ℕ) (fault told : Fault) → (fault ≡ DeviceFault → told ≡ OutOfMemory) → told ≡ fault → OpensTo image (HasFree (2 * sessions)) → (fault ≡ SlotsOut → ⊥)
    → OpensTo image (λ q. HasFree (2 * sessions) q × IsOther told)
told-other image sessions fault told memory is free other =
    opens-weaken image (HasFree (2 * sessions)) (λ q. HasFree (2 * sessions) q × IsOther told)
    (λ q has. (has, record { slots = λ e. other (sym is ∙ e); device = λ e. never-device fault told memory is e })) free

-- what is reported for a load on a device without a fuse
pub load-told : (image : Image) (sessions commits : ℕ) (fault told : Fault) → (fault ≡ DeviceFault → told ≡ OutOfMemory) → (told ≡ OutOfMemory) ⊎ (told ≡ fault)
    → IsLoadFault image sessions commits fault → (told ≡ OutOfMemory) ⊎ IsThreadsFault sessions commits image told
load-told image sessions commits fault told memory (inl is) load = inl is
load-told image sessions commits fault told memory (inr is) (inl why) = inr (inl (why ∙ ap (λ (f : Fault). Some f) (sym is)))
load-told image sessions commits fault told memory (inr is) (inr (inl wants)) = inl (is ∙ wants)
load-told image sessions commits fault told memory (inr is) (inr (inr (inl (none, device)))) = inl (memory device)
load-told image sessions commits fault told memory (inr is) (inr (inr (inr (inl (lacks, slots))))) = inr (inr (inl (lacks, is ∙ slots)))
load-told image sessions commits fault told memory (inr is) (inr (inr (inr (inr (inl (free, lacks, numbers)))))) =
    inr (inr (inr (told-other image sessions fault told memory is free (λ e. apart (sym numbers ∙ e)), inl (lacks, is ∙ numbers))))
  where
    apart : TimestampsOut ≡ SlotsOut → ⊥
    apart h = cc h
load-told image sessions commits fault told memory (inr is) (inr (inr (inr (inr (inr (free, has, engine)))))) =
    inr (inr (inr (told-other image sessions fault told memory is free (engine-not-slots image fault engine), inr (has, inl (subst (IsEngineFault image) (sym is) engine)))))

-- if no state that the room shows allows it, no slots ran out, and no device failed
not-slots : {D : Type 0} {G : Ghosts D} (state : D → Device) (room : Room D G) (words : Image) (sessions commits : ℕ) (fault : Fault) → OpensTo words (HasFree (2 * sessions))
    → MakesTo words sessions commits (Shows state room) → ((q : State) → Shows state room q → IsOther fault) → OpensTo words (λ q. HasFree (2 * sessions) q × IsOther fault)
not-slots state room words sessions commits fault free made other =
    opens-weaken words (HasFree (2 * sessions)) (λ q. HasFree (2 * sessions) q × IsOther fault) (λ q has. (has, record { slots = λ e. never (λ o. o.slots e); device = λ e. never (λ o. o.device e) })) free
  where
    never : (IsOther fault → ⊥) → ⊥
    never clash = ∥∥₁_elim made ⊥_prop (λ m. let s = of-some words m.0 (Shows state room) m.1 in clash (other s.1 s.3))

closing-other : (q : State) (fault : Fault) → IsClosingFault q fault → IsOther fault
closing-other q fault is = grind (arith)

pub late-fault : {D : Type 0} {G : Ghosts D} (state : D → Device) (room : Room D G) (file words slice : List ℕ) (sessions commits : ℕ) (old : Option Text) (fault : Fault)
    → is_image_length (length file) ≡ true → HoldsWords file words → slice ≡ words → OpensTo slice (HasFree (2 * sessions)) → OpensTo slice (HasNumbers (sessions * commits))
    → MakesTo slice sessions commits (Shows state room) → (fault ≡ OutOfMemory) ⊎ ((q : State) → Shows state room q → IsClosingFault q fault)
    → (fault ≡ OutOfMemory) ⊎ (IsFileFault file (IsThreadsFault sessions commits) fault × Appends old old [])
late-fault state room file words slice sessions commits old fault size holds same free numbers made (inl memory) = inl memory
late-fault state room file words slice sessions commits old fault size holds same free numbers made (inr closing) =
    let other = not-slots state room slice sessions commits fault free made (λ q shows. closing-other q fault (closing q shows)) in
    let later = makes-weaken slice sessions commits (Shows state room) (λ q. IsClosingFault q fault) closing made in
    inr (
      inr (record {
        size = size;
        image = words;
        holds = holds;
        is = subst (λ (i : Image). IsThreadsFault sessions commits i fault) same (inr (inr (other, inr (numbers, inr later))));
      }),
      appends-none old,
    )

-- what closing leaves is sound
pub reading-fault-so : {D : Type 0} {G : Ghosts D} (state : D → Device) (room : Room D G) (image slice : Image) (fault : Fault) → slice ≡ image → ((q : State) → Shows state room q → StandsClosed q image)
    → IsReadRefusal slice fault → (fault ≡ OutOfMemory) ⊎ ((q : State) → Shows state room q → IsClosingFault q fault)
reading-fault-so state room image slice fault same closed (inr h) = inl h.1
reading-fault-so state room image slice fault same closed (inl is) = grind (arith)
