-- What one exchange comes to.
use Rattle.std.proofs.Common.{◌≡◌, ℕ, List, [], None, Some, refl, subst, inl, inr}
use Rattle.std.specs.Prelude.{Option, Result, Ok, Err, IfOk}
use Rattle.std.specs.Io.KnownBytes.{Appends, Consumes}
use Rattle.std.proofs.KnownBytes.{Appends-nil}
use Rattle.requests.specs.Frames.{request_bytes, answer_bytes, frame_bytes, Receives, Sends}
use Rattle.requests.specs.declared.answer.Answer.{Answer}
use Rattle.requests.specs.declared.answer.Answer.TheVariants as answers
use Rattle.requests.specs.declared.request.Received.{Received}
use Rattle.requests.specs.declared.request.Received.TheVariants as received
use Rattle.requests.specs.declared.request.Request.{Request}
use Rattle.requests.specs.declared.status.Status.TheVariants as status
use Rattle.serving.specs.declared.channel.Progress.{Progress}
use Rattle.serving.specs.declared.channel.Progress.TheVariants as progress
use Rattle.serving.specs.Served.{Serves}
use Rattle.serving.specs.Conversations.{Exchange, IsExchange, IsFrameOf, ServesFrame, Exchanges, Replies}

made : (input left output sent : Option (List ℕ)) (from after : Option ℕ) (frame : List ℕ) (asked : Option Request) (told : Answer) → Consumes input left frame → IsFrameOf frame asked
    → ServesFrame from asked told after → Sends output sent told → Exchanges input left output sent from after progress.Answered
made input left output sent from after frame asked told came is served (inl went) = (
  record { came = frame; request = asked; answer = told; went = answer_bytes told; after = after },
  record { frame = is; served = served; sent = inl (went.0, refl) },
  came,
  went.1,
  refl,
)
made input left output sent from after frame asked told came is served (inr went) = (
  record { came = frame; request = asked; answer = told; went = frame_bytes status.OutOfMemory 0 []; after = after },
  record { frame = is; served = served; sent = inr (went.0, refl) },
  came,
  went.1,
  refl,
)

-- a request had its reply
pub request-answered : (input left output sent : Option (List ℕ)) (from after : Option ℕ) (got : Received) (request : Request) (told : Answer) → got ≡ received.Request request
    → Receives input left got → Serves from request told after → Sends output sent told → Exchanges input left output sent from after progress.Answered
request-answered input left output sent from after got request told is came served went =
    made input left output sent from after (request_bytes request) (Some request) told (subst (λ (r : Received). Receives input left r) is came) refl served went

-- another frame had its reply
pub other-answered : (input left output sent : Option (List ℕ)) (from : Option ℕ) (got : Received) → got ≡ received.Other
    → Receives input left got → Sends output sent answers.Misuse → Exchanges input left output sent from from progress.Answered
other-answered input left output sent from got is came went =
    let frame = subst (λ (r : Received). Receives input left r) is came in
    made input left output sent from from frame.0 None answers.Misuse frame.1 frame.2 (refl, refl) went

-- the same of what a function returned
pub request-replied : {E : Type 0} (input left output sent : Option (List ℕ)) (from after : Option ℕ) (got : Received) (request : Request) (told : Answer) (result : Result Progress E)
    → got ≡ received.Request request → Receives input left got → Serves from request told after → IfOk result (Replies output sent told)
    → IfOk result (Exchanges input left output sent from after)
request-replied input left output sent from after got request told (Ok progress.Answered) is came served went =
    request-answered input left output sent from after got request told is came served went
request-replied input left output sent from after got request told (Ok progress.Ended) is came served went = absurd went
request-replied input left output sent from after got request told (Err error) is came served went = tt

pub other-replied : {E : Type 0} (input left output sent : Option (List ℕ)) (from : Option ℕ) (got : Received) (result : Result Progress E)
    → got ≡ received.Other → Receives input left got → IfOk result (Replies output sent answers.Misuse) → IfOk result (Exchanges input left output sent from from)
other-replied input left output sent from got (Ok progress.Answered) is came went = other-answered input left output sent from got is came went
other-replied input left output sent from got (Ok progress.Ended) is came went = absurd went
other-replied input left output sent from got (Err error) is came went = tt

-- the input has ended
pub input-ended : (input left output : Option (List ℕ)) (from : Option ℕ) (got : Received) → got ≡ received.End → Receives input left got → Exchanges input left output output from from progress.Ended
input-ended input left output from got is came =
    let rest = subst (λ (r : Received). Receives input left r) is came in
    (rest.0, rest.1, rest.2, rest.3, Appends-nil output, refl)
