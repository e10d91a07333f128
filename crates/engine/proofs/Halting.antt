-- The tick that ended the committer.
use Rattle.std.proofs.Common.{◌≡◌, ◌∙◌, ℕ, zero, suc, List, [], ◌∷◌, ◌++◌, length, refl, sym, ap, subst}
use Rattle.std.proofs.Math.Logic.{∥∥₁_map}
use Rattle.std.specs.Option.{ForSome}
use Rattle.std.specs.Prelude.{Option, Some, None, IfSome, IfNone, slice_get, unwrap_or, ⊤}
use Rattle.base.specs.declared.fault.Fault.{Fault}
use Rattle.base.specs.declared.step.Step.{Step}
use Rattle.base.specs.declared.step.Step.TheVariants.{Commit}
use Rattle.base.specs.declared.step.Note.{Note}
use Rattle.base.specs.declared.step.Note.TheVariants.{Refused}
use Rattle.base.specs.declared.step.Reply.{Reply}
use Rattle.base.specs.Replies.{note_of}
use Rattle.base.specs.Images.{Image}
use Rattle.pmem.specs.Device.{Device}
use Rattle.pmem.specs.declared.device.Pmem.{Ghosts}
use Rattle.room.specs.Room.{Shows}
use Rattle.room.specs.Runs.{RunOf}
use Rattle.room.proofs.Runs.{of-weaken}
use Rattle.audited.specs.Audit.{Keeps}
use Rattle.audited.specs.declared.audited.Audited.{Audited}
use Rattle.audited.specs.declared.receipt.Receipt.{Receipt}
use Rattle.engine.specs.Lending.{first_of}
use Rattle.engine.specs.declared.halt.Halt.{Halt}
use Rattle.engine.specs.Calls.{Learns}
use Rattle.engine.specs.Origins.{IsFrom, HasHalted, Knows, WasHalted}

-- ---- an entry stays where it is

pub slice_get-last : {X : Type 0} (xs : List X) (x : X) → slice_get (xs ++ x ∷ []) (length xs) ≡ Some x
slice_get-last [] x = refl
slice_get-last (y ∷ xs) x = slice_get-last xs x

slice_get-more : {X : Type 0} (xs ys : List X) (k : ℕ) (x : X) → slice_get xs k ≡ Some x → slice_get (xs ++ ys) k ≡ Some x
slice_get-more [] ys k x is = absurd (cc is)
slice_get-more (y ∷ xs) ys zero x is = is
slice_get-more (y ∷ xs) ys (suc k) x is = slice_get-more xs ys k x is

-- ---- a tick that was refused is the last of a room's steps

-- the receipt is that of a tick of the committer, which was refused
abbrev IsRefusedTick : Receipt → Halt → Type 0
IsRefusedTick r halt = (r.step ≡ Commit) × (r.note ≡ Refused halt.fault) × (halt.place ≡ r.place)

kept-as : (old new : List (Step × Note)) (step : Step) (reply : Reply) (r : Receipt) (halt : Halt) → Keeps old new step reply r → IsRefusedTick r halt → new ≡ old ++ (Commit, Refused halt.fault) ∷ []
kept-as old new step reply r halt keeps is =
    keeps.entries
    ∙ (ap (λ (s : Step). old ++ (s, note_of reply) ∷ []) (sym keeps.asked ∙ is.0)
    ∙ ap (λ (n : Note). old ++ (Commit, n) ∷ []) (sym keeps.note ∙ is.1))

halted-now : {D : Type 0} {G : Ghosts D} (state : D → Device) (image : Image) (audited : Audited D G) (old : List (Step × Note)) (step : Step) (reply : Reply) (r : Receipt) (halt : Halt)
    → IsFrom state image audited → Keeps old audited.entries.items step reply r → IsRefusedTick r halt → HasHalted image halt
halted-now state image audited old step reply r halt from keeps refused =
    ∥∥₁_map from (λ is. (
      old,
      sym (refused.2 ∙ keeps.place),
      subst (λ (es : List (Step × Note)). RunOf image es (λ q. ⊤)) (kept-as old audited.entries.items step reply r halt keeps refused)
          (of-weaken image audited.entries.items (Shows state audited.room) (λ q. ⊤) (λ q shows. tt) is.run),
    ))

was-now : (old new : List (Step × Note)) (step : Step) (reply : Reply) (r : Receipt) (halt : Halt) → Keeps old new step reply r → IsRefusedTick r halt → WasHalted new halt
was-now old new step reply r halt keeps refused =
    ap (slice_get new) (refused.2 ∙ keeps.place)
    ∙ (ap (λ (es : List (Step × Note)). slice_get es (length old)) (kept-as old new step reply r halt keeps refused)
    ∙ slice_get-last old (Commit, Refused halt.fault))

was-more : (old new : List (Step × Note)) (step : Step) (reply : Reply) (r : Receipt) (halt : Halt) → Keeps old new step reply r → WasHalted old halt → WasHalted new halt
was-more old new step reply r halt keeps was =
    ap (λ (es : List (Step × Note)). slice_get es halt.place) keeps.entries ∙ slice_get-more old ((step, note_of reply) ∷ []) halt.place (Commit, Refused halt.fault) was

-- ---- what is kept under the lock

-- the tick that ended the committer stays what it was, or is this one
pub halted-after : {D : Type 0} {G : Ghosts D} (state : D → Device) (image : Image) (audited : Audited D G) (old : List (Step × Note)) (step : Step) (reply : Reply) (r : Receipt) (found before after : Option Halt)
    → IsFrom state image audited → Keeps old audited.entries.items step reply r → IfSome found (IsRefusedTick r) → ForSome before (HasHalted image)
    → after ≡ first_of found before → ForSome after (HasHalted image)
halted-after state image audited old step reply r (Some halt) before after from keeps refused has same x is =
    subst (HasHalted image) (ap (λ (o : Option Halt). unwrap_or o halt) (sym same ∙ is)) (halted-now state image audited old step reply r halt from keeps refused)
halted-after state image audited old step reply r None before after from keeps refused has same x is = has x (sym same ∙ is)

-- it is in the room's history
abbrev IsKept : {D : Type 0} → {G : Ghosts D} → Option Halt → Audited D G → Type 0
IsKept halted audited = ForSome halted (WasHalted audited.entries.items)

kept-there : {D : Type 0} {G : Ghosts D} (lent : Option (Audited D G)) (new : Audited D G) (halted : Option Halt) → IsKept halted new → lent ≡ Some new → ForSome lent (IsKept halted)
kept-there {D = D} {G = G} lent new halted is there x same = subst (IsKept halted) (ap (λ (o : Option (Audited D G)). unwrap_or o new) (sym there ∙ same)) is

kept-ticked : (old new : List (Step × Note)) (step : Step) (reply : Reply) (r : Receipt) (found before after : Option Halt) → ForSome before (WasHalted old) → Keeps old new step reply r
    → IfSome found (IsRefusedTick r) → after ≡ first_of found before → ForSome after (WasHalted new)
kept-ticked old new step reply r (Some halt) before after was keeps refused same x is =
    subst (WasHalted new) (ap (λ (o : Option Halt). unwrap_or o halt) (sym same ∙ is)) (was-now old new step reply r halt keeps refused)
kept-ticked old new step reply r None before after was keeps refused same x is = was-more old new step reply r x keeps (was x (sym same ∙ is))

-- after a tick
pub kept-after : {D : Type 0} {G : Ghosts D} (lent : Option (Audited D G)) (old new : Audited D G) (step : Step) (reply : Reply) (r : Receipt) (found before after : Option Halt)
    → ForSome lent (IsKept before) → lent ≡ Some old → Keeps old.entries.items new.entries.items step reply r → IfSome found (IsRefusedTick r) → after ≡ first_of found before
    → ForSome (Some new) (IsKept after)
kept-after lent old new step reply r found before after was is keeps refused same =
    kept-there (Some new) new after (kept-ticked old.entries.items new.entries.items step reply r found before after (was old is) keeps refused same) refl

-- after a step that doesn't touch it
pub kept-stepped : {D : Type 0} {G : Ghosts D} (lent : Option (Audited D G)) (old new : Audited D G) (step : Step) (reply : Reply) (receipt : Option Receipt) (halted : Option Halt) (Why : Type 0)
    → ForSome lent (IsKept halted) → lent ≡ Some old → IfSome receipt (Keeps old.entries.items new.entries.items step reply) → IfNone receipt (Why × (new.entries.items ≡ old.entries.items))
    → ForSome (Some new) (IsKept halted)
kept-stepped lent old new step reply (Some r) halted Why was is keeps same =
    kept-there (Some new) new halted (λ x there. was-more old.entries.items new.entries.items step reply r x keeps (was old is x there)) refl
kept-stepped lent old new step reply None halted Why was is keeps same =
    kept-there (Some new) new halted (λ x there. subst (λ (es : List (Step × Note)). WasHalted es x) (sym same.1) (was old is x there)) refl

-- ---- what a session knows

pub some-halted : (image : Image) (halt : Halt) → HasHalted image halt → ForSome (Some halt) (HasHalted image)
some-halted image halt has x same = subst (HasHalted image) (ap (λ (o : Option Halt). unwrap_or o halt) same) has

pub knows : (image : Image) (told : Option Halt) (halt : Halt) → ForSome told (HasHalted image) → told ≡ Some halt → Knows image told halt.fault
knows image told halt of is = subst (λ (o : Option Halt). Knows image o halt.fault) (sym is) (refl, of halt is)

-- what it learns after it was told nothing
pub learns-after : (old mid new : Option Halt) (fault : Fault) → mid ≡ old → Learns mid new fault → Learns old new fault
learns-after old mid new fault same learns = subst (λ (o : Option Halt). Learns o new fault) same learns
