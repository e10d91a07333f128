-- What is read after a head makes a frame with it.
use Rattle.std.proofs.Common.{◌≡◌, ℕ, List, ◌++◌, refl, sym, ap, ◌∙◌, subst, inr}
use Rattle.std.specs.Prelude.{Option, Result, Ok, Err, IfOk}
use Rattle.std.specs.Io.KnownBytes.{Consumes}
use Rattle.std.proofs.KnownBytes.{Consumes-trans}
use Rattle.requests.specs.declared.head.Head.{Head}
use Rattle.requests.specs.declared.request.Received.{Received}
use Rattle.requests.specs.declared.request.Received.TheVariants.{Request, Other, End}
use Rattle.requests.specs.Frames.{head_bytes, request_bytes, request_head, IsHead, Receives, ReceivesAfter}

pub receives-frame : (head : Head) (old mid new : Option (List ℕ)) (received : Received) → IsHead head → Consumes old mid (head_bytes head) → ReceivesAfter head mid new received
    → Receives old new received
receives-frame head old mid new (Request request) is first after =
    let frame : head_bytes head ++ after.0 ≡ request_bytes request =
    ap (λ (h : Head). head_bytes h ++ after.0) (sym after.3.0) ∙ ap (λ (l : List ℕ). head_bytes (request_head request) ++ l) (sym after.3.1) in
    subst (Consumes old new) frame (Consumes-trans old mid new (head_bytes head) after.0 first after.1)
receives-frame head old mid new Other is first after =
    (head_bytes head ++ after.0, Consumes-trans old mid new (head_bytes head) after.0 first after.1, (head, after.0, is, refl, after.2, after.3))
receives-frame head old mid new End is first after =
    (head_bytes head ++ after.0, Consumes-trans old mid new (head_bytes head) after.0 first after.1, inr (head, after.0, is, refl, after.2, after.3), after.4)

-- the same of what a function returned
pub receives-frame-ok : {E : Type 0} (head : Head) (old mid new : Option (List ℕ)) (told : Result Received E) → IsHead head → Consumes old mid (head_bytes head)
    → IfOk told (ReceivesAfter head mid new) → IfOk told (Receives old new)
receives-frame-ok head old mid new (Ok received) is first after = receives-frame head old mid new received is first after
receives-frame-ok head old mid new (Err error) is first after = tt
