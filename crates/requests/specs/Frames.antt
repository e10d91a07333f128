-- The bytes of heads, requests and replies.
use Rattle.std.specs.Prelude.{◌≡◌, ◌≢◌, ◌⊎◌, ◌<◌, ◌≤◌, ◌^◌, ℕ, List, [], ◌++◌, length, flat_map, Bool, true, false, Option, Some, None}
use Rattle.std.specs.Io.KnownBytes.{Appends, Consumes, IsAtEnd}
use Rattle.std.specs.String.{string_bytes}
use Rattle.base.specs.declared.key.Key.{Key}
use Rattle.byteorder.specs.Endian.{little_bytes}
use Rattle.requests.specs.declared.answer.Answer.{Answer}
use Rattle.requests.specs.declared.answer.Answer.TheVariants as answer
use Rattle.requests.specs.declared.head.Head.{Head}
use Rattle.requests.specs.declared.request.Received.{Received}
use Rattle.requests.specs.declared.request.Received.TheVariants as received
use Rattle.requests.specs.declared.request.Request.{Request}
use Rattle.requests.specs.declared.request.Request.TheVariants as request
use Rattle.requests.specs.declared.status.Status.{Status}
use Rattle.requests.specs.declared.status.Status.TheVariants as status
use Rattle.requests.specs.Statuses.{status_code}

-- each number, the lowest byte first
abbrev pub head_bytes : Head → List ℕ
head_bytes head = ((little_bytes 4 head.length ++ little_bytes 2 head.code) ++ little_bytes 2 head.table) ++ little_bytes 8 head.number

-- each number is one of the bytes that it has in a frame
abbrev pub IsHead : Head → Type 0
IsHead head = (head.length < 2 ^ 32) × (head.code < 2 ^ 16) × (head.table < 2 ^ 16) × (head.number < 2 ^ 64)

-- Less than a frame: less than a head, or a head and less than what it announces, which is at most this much.
-- Excluded: a whole frame that is the last one.
abbrev pub IsCutOff : ℕ → List ℕ → Type 0
IsCutOff most rest = (length rest < 16) ⊎ ((head : Head) × (part : List ℕ) × IsHead head × (rest ≡ head_bytes head ++ part) × (length part < head.length) × (head.length ≤ most))

-- the input began with these bytes, and has lost them; or it has ended, with fewer
abbrev pub Fills : Bool → Option (List ℕ) → Option (List ℕ) → List ℕ → Type 0
Fills true old new buffer = Consumes old new buffer
Fills false old new buffer = (rest : List ℕ) × Consumes old new rest × (length rest < length buffer) × IsAtEnd new

-- ---- requests

-- what is in the head
abbrev pub request_head : Request → Head
request_head request.Begin = record { length = 0; code = 1; table = 0; number = 0 }
request_head (request.Get key) = record { length = 0; code = 2; table = key.table; number = key.key }
request_head (request.Put key row) = record { length = length row; code = 3; table = key.table; number = key.key }
request_head (request.Delete key) = record { length = 0; code = 4; table = key.table; number = key.key }
request_head request.Commit = record { length = 0; code = 5; table = 0; number = 0 }
request_head request.Abort = record { length = 0; code = 6; table = 0; number = 0 }
request_head (request.First range limit) = record { length = 16; code = 7; table = range.table; number = range.least }
request_head (request.Last range limit) = record { length = 16; code = 8; table = range.table; number = range.least }
request_head request.Status = record { length = 0; code = 9; table = 0; number = 0 }

-- what follows it
abbrev pub request_payload : Request → List ℕ
request_payload (request.Put key row) = row
request_payload (request.First range limit) = little_bytes 8 range.greatest ++ little_bytes 8 limit
request_payload (request.Last range limit) = little_bytes 8 range.greatest ++ little_bytes 8 limit
request_payload _ = []

-- the frame of a request
abbrev pub request_bytes : Request → List ℕ
request_bytes request = head_bytes (request_head request) ++ request_payload request

-- the frame is that of this request, or of none
abbrev pub IsRequestOf : Head → List ℕ → Option Request → Type 0
IsRequestOf head payload (Some request) = (request_head request ≡ head) × (request_payload request ≡ payload)
IsRequestOf head payload None = (request : Request) → request_head request ≡ head → request_payload request ≢ payload

-- a whole frame that isn't that of a request
-- Excluded: a request's frame, whose head is read as one of greater numbers that have the same bytes.
abbrev pub IsOtherFrame : List ℕ → Type 0
IsOtherFrame frame = (head : Head) × (payload : List ℕ) × IsHead head × (frame ≡ head_bytes head ++ payload) × (length payload ≡ head.length) × IsRequestOf head payload None

-- the codes of requests of a range
abbrev pub IsRangeCode : ℕ → Type 0
IsRangeCode code = (code ≡ 7) ⊎ (code ≡ 8)

-- the codes of requests that neither put a row nor name a range
abbrev pub IsNoLongCode : ℕ → Type 0
IsNoLongCode code = (code ≢ 3) × (code ≢ 7) × (code ≢ 8)

-- the head of a request without a key is this code
abbrev pub IsPlainRequest : ℕ → Option Request → Type 0
IsPlainRequest code (Some request) = (request_head request ≡ record { length = 0; code = code; table = 0; number = 0 }) × (request_payload request ≡ [])
IsPlainRequest code None = (code ≢ 1) × (code ≢ 5) × (code ≢ 6) × (code ≢ 9)

-- A frame was taken off the input, and it is this request; or it isn't a request; or the input has ended, in less than a frame
abbrev pub ReceivesAfter : Head → Option (List ℕ) → Option (List ℕ) → Received → Type 0
ReceivesAfter head old new (received.Request request) = (payload : List ℕ) × Consumes old new payload × (length payload ≡ head.length) × IsRequestOf head payload (Some request)
ReceivesAfter head old new received.Other = (payload : List ℕ) × Consumes old new payload × (length payload ≡ head.length) × IsRequestOf head payload None
ReceivesAfter head old new received.End = (rest : List ℕ) × Consumes old new rest × (length rest < head.length) × (head.length ≤ 480) × IsAtEnd new

-- what was taken off the input: the frame of a request, one that isn't a request's, or less than a frame
abbrev pub Receives : Option (List ℕ) → Option (List ℕ) → Received → Type 0
Receives old new (received.Request request) = Consumes old new (request_bytes request)
Receives old new received.Other = (frame : List ℕ) × Consumes old new frame × IsOtherFrame frame
Receives old new received.End = (rest : List ℕ) × Consumes old new rest × IsCutOff 480 rest × IsAtEnd new

-- ---- replies

-- the frame of a reply: its status, a number, and bytes
abbrev pub frame_bytes : Status → ℕ → List ℕ → List ℕ
frame_bytes status number payload = head_bytes (record { length = length payload; code = status_code status; table = 0; number = number }) ++ payload

-- a row of many: its key, how many bytes it has, and these
abbrev pub row_bytes : Key × List ℕ → List ℕ
row_bytes row = (little_bytes 8 row.0.key ++ little_bytes 4 (length row.1)) ++ row.1

-- the frame of each reply
abbrev pub answer_bytes : Answer → List ℕ
answer_bytes answer.Done = frame_bytes status.Done 0 []
answer_bytes (answer.Committed None) = frame_bytes status.Done 0 []
answer_bytes (answer.Committed (Some timestamp)) = frame_bytes status.Done timestamp []
answer_bytes (answer.Row None) = frame_bytes status.Missing 0 []
answer_bytes (answer.Row (Some row)) = frame_bytes status.Done 0 row
answer_bytes (answer.Rows rows) = frame_bytes status.Done (length rows.items) (flat_map row_bytes rows.items)
answer_bytes (answer.Numbers numbers) = frame_bytes status.Done (length numbers) (flat_map (little_bytes 8) numbers)
answer_bytes answer.Misuse = frame_bytes status.Misuse 0 []
answer_bytes (answer.Refused reason text) = frame_bytes reason 0 (string_bytes text)

-- a reply whose bytes take memory: rows or numbers
abbrev pub IsLong : Answer → Type 0
IsLong (answer.Rows rows) = Unit {0}
IsLong (answer.Numbers numbers) = Unit {0}
IsLong _ = ⊥

-- A head can say how many bytes of the reply follow it: fewer than 4 GiB.
-- Excluded: a head that says less than follows.
abbrev pub HasLength : Answer → Type 0
HasLength (answer.Rows rows) = length (flat_map row_bytes rows.items) < 2 ^ 32
HasLength (answer.Refused reason text) = length (string_bytes text) < 2 ^ 32
HasLength _ = Unit {0}

-- the reply was sent, and nothing else; or it takes memory, and what was sent says that there is none
abbrev pub Sends : Option (List ℕ) → Option (List ℕ) → Answer → Type 0
Sends old new answer = (HasLength answer × Appends old new (answer_bytes answer)) ⊎ (IsLong answer × Appends old new (frame_bytes status.OutOfMemory 0 []))
