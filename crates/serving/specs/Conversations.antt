-- What is said over a channel: each request and its reply, one after the other.
use Rattle.std.specs.Prelude.{◌≡◌, ◌⊎◌, ℕ, List, [], ◌∷◌, flat_map, Option, Some, None}
use Rattle.std.specs.Io.KnownBytes.{Appends, Consumes, IsAtEnd}
use Rattle.requests.specs.Frames.{request_bytes, answer_bytes, frame_bytes, HasLength, IsCutOff, IsLong, IsOtherFrame, Sends}
use Rattle.requests.specs.declared.answer.Answer.{Answer}
use Rattle.requests.specs.declared.answer.Answer.TheVariants as answer
use Rattle.requests.specs.declared.request.Request.{Request}
use Rattle.requests.specs.declared.status.Status.TheVariants as status
use Rattle.serving.specs.declared.channel.Progress.{Progress}
use Rattle.serving.specs.declared.channel.Progress.TheVariants as progress
use Rattle.serving.specs.Served.{Serves}

-- a frame that came, the request that it is, the reply, the bytes that went, and the session that is open then
pub record Exchange : Type 0 where
  pub came : List ℕ
  pub request : Option Request
  pub answer : Answer
  pub went : List ℕ
  pub after : Option ℕ

-- the frame is that of the request, or of none
abbrev pub IsFrameOf : List ℕ → Option Request → Type 0
IsFrameOf frame (Some request) = frame ≡ request_bytes request
IsFrameOf frame None = IsOtherFrame frame

-- a frame that isn't a request is misuse, and changes nothing
abbrev pub ServesFrame : Option ℕ → Option Request → Answer → Option ℕ → Type 0
ServesFrame prior (Some request) told after = Serves prior request told after
ServesFrame prior None told after = (told ≡ answer.Misuse) × (after ≡ prior)

-- the bytes are those of the reply; or it takes memory, and they say that there is none
abbrev pub IsFrameSent : Answer → List ℕ → Type 0
IsFrameSent answer frame = (HasLength answer × (frame ≡ answer_bytes answer)) ⊎ (IsLong answer × (frame ≡ frame_bytes status.OutOfMemory 0 []))

-- the frame is that of the request, the reply is what it has to be, and its bytes were sent
pub record IsExchange (prior : Option ℕ) (e : Exchange) : Type 0 where
  pub frame : IsFrameOf e.came e.request
  pub served : ServesFrame prior e.request e.answer e.after
  pub sent : IsFrameSent e.answer e.went

-- each exchange goes on from the session that the one before left open
abbrev pub Follows : Option ℕ → List Exchange → Option ℕ → Type 0
Follows prior [] after = after ≡ prior
Follows prior (e ∷ es) after = IsExchange prior e × Follows e.after es after

-- the bytes that came and those that went, from one session to another
pub record Converses (input left output sent : Option (List ℕ)) (prior after : Option ℕ) : Type 0 where
  pub exchanges : List Exchange
  pub came : Consumes input left (flat_map (λ e. e.came) exchanges)
  pub went : Appends output sent (flat_map (λ e. e.went) exchanges)
  pub follows : Follows prior exchanges after

-- All that came had a reply, except for less than a frame at the end of the input
pub record ServesAll (input left output sent : Option (List ℕ)) : Type 0 where
  pub before : Option (List ℕ)
  pub after : Option ℕ
  pub converses : Converses input before output sent None after
  pub rest : List ℕ
  pub came : Consumes before left rest
  pub short : IsCutOff 480 rest
  pub ended : IsAtEnd left

-- one exchange was made; or the input has ended, in less than a frame, and nothing was sent
abbrev pub Exchanges : Option (List ℕ) → Option (List ℕ) → Option (List ℕ) → Option (List ℕ) → Option ℕ → Option ℕ → Progress → Type 0
Exchanges input left output sent prior after progress.Answered = (e : Exchange) × IsExchange prior e × Consumes input left e.came × Appends output sent e.went × (after ≡ e.after)
Exchanges input left output sent prior after progress.Ended = (rest : List ℕ) × Consumes input left rest × IsCutOff 480 rest × IsAtEnd left × Appends output sent [] × (after ≡ prior)

-- the reply was sent
abbrev pub Replies : Option (List ℕ) → Option (List ℕ) → Answer → Progress → Type 0
Replies output sent told progress.Answered = Sends output sent told
Replies output sent told progress.Ended = ⊥
