use Rattle.std.proofs.Common.{◌≡◌, ℕ, List, ◌++◌, subst, rules}
use Rattle.std.specs.Prelude.{Option, Result, ⊤, Ok, Err, OnOk}
use Rattle.std.specs.Io.KnownBytes.{Appends}
use Rattle.std.proofs.KnownBytes.{Appends-trans}
use Rattle.requests.specs.Frames.{frame_bytes}
use Rattle.requests.proofs.sending.send_frame.Goals as goal

-- a head was written, and then what follows it
joined : {E : Type 0} (old mid new : Option (List ℕ)) (head payload frame : List ℕ) (told : Result ⊤ E) → Appends old mid head → OnOk told (Appends mid new payload)
    → head ++ payload ≡ frame → OnOk told (Appends old new frame)
joined old mid new head payload frame (Ok done) first second whole = subst (Appends old new) whole (Appends-trans old mid new head payload first second)
joined old mid new head payload frame (Err error) first second whole = tt

pub returns-clause-frame : goal.returns-clause-frame
returns-clause-frame g c =
    joined _ _ _ c.bytes.result c.args.payload.now (frame_bytes c.args.status c.args.number c.args.payload.now) c.write_all-2.result c.in_ok-write_all.ensures.bytes c.write_all-2.ensures.bytes (search rules)
