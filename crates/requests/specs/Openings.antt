-- The request that opens a store: the first frame of channel 0.
use Rattle.std.specs.Prelude.{◌≡◌, ◌≢◌, ◌⊎◌, ◌+◌, ◌<◌, ◌≤◌, ℕ, List, [], ◌++◌, length, Option, Some, None}
use Rattle.std.specs.Io.KnownBytes.{Consumes, IsAtEnd}
use Rattle.std.specs.String.{string_bytes}
use Rattle.byteorder.specs.Endian.{little_bytes}
use Rattle.requests.specs.declared.head.Head.{Head}
use Rattle.requests.specs.declared.opening.AskedLayout.{AskedLayout}
use Rattle.requests.specs.declared.opening.AskedLayout.TheVariants as layout
use Rattle.requests.specs.declared.opening.Numbers.{Numbers}
use Rattle.requests.specs.declared.opening.Opening.{Opening}
use Rattle.requests.specs.Frames.{head_bytes, IsHead, IsCutOff}

-- what is in the head, for a name of this many bytes
abbrev pub asked_head : AskedLayout → ℕ → ℕ → Head
asked_head layout.Existing size channels = record { length = size; code = 10; table = channels; number = 0 }
asked_head (layout.Narrow numbers) size channels = record { length = 16 + size; code = 11; table = channels; number = numbers.slots }
asked_head (layout.Wide numbers) size channels = record { length = 16 + size; code = 12; table = channels; number = numbers.slots }
asked_head (layout.Large lines numbers) size channels = record { length = 24 + size; code = 13; table = channels; number = numbers.slots }

-- what comes before the name
abbrev pub asked_bytes : AskedLayout → List ℕ
asked_bytes layout.Existing = []
asked_bytes (layout.Narrow numbers) = little_bytes 8 numbers.places ++ little_bytes 8 numbers.window
asked_bytes (layout.Wide numbers) = little_bytes 8 numbers.places ++ little_bytes 8 numbers.window
asked_bytes (layout.Large lines numbers) = little_bytes 8 lines ++ (little_bytes 8 numbers.places ++ little_bytes 8 numbers.window)

-- the head of the request
abbrev pub opening_head : Opening → Head
opening_head opening = asked_head opening.layout (length (string_bytes opening.name)) opening.channels

-- and its payload: the numbers of a layout, if there is one, and the name
abbrev pub opening_payload : Opening → List ℕ
opening_payload opening = asked_bytes opening.layout ++ string_bytes opening.name

-- the frame of the request
abbrev pub opening_bytes : Opening → List ℕ
opening_bytes opening = head_bytes (opening_head opening) ++ opening_payload opening

-- the payload is the number of a slot's lines, and then the rest; or it is shorter than that number
abbrev pub IsLinesOf : List ℕ → Option (ℕ × List ℕ) → Type 0
IsLinesOf payload (Some split) = little_bytes 8 split.0 ++ split.1 ≡ payload
IsLinesOf payload None = length payload < 8

-- the payload is the numbers of a layout, and then a name; or it is shorter than these numbers
abbrev pub IsNumbersOf : Head → List ℕ → Option (Numbers × List ℕ) → Type 0
IsNumbersOf head payload (Some split) = (split.0.slots ≡ head.number) × ((little_bytes 8 split.0.places ++ little_bytes 8 split.0.window) ++ split.1 ≡ payload)
IsNumbersOf head payload None = length payload < 16

-- the payload is the layout's bytes, and then a name; or a frame with this head has no layout before a name
abbrev pub IsSplitOf : Head → List ℕ → Option (AskedLayout × List ℕ) → Type 0
IsSplitOf head payload (Some split) = (asked_head split.0 (length split.1) head.table ≡ head) × (asked_bytes split.0 ++ split.1 ≡ payload)
IsSplitOf head payload None = (layout : AskedLayout) → (name : List ℕ) → asked_head layout (length name) head.table ≡ head → asked_bytes layout ++ name ≢ payload

-- the frame is that of this request, or of none
abbrev pub IsOpeningOf : Head → List ℕ → Option Opening → Type 0
IsOpeningOf head payload (Some opening) = (opening_head opening ≡ head) × (opening_payload opening ≡ payload)
IsOpeningOf head payload None = (opening : Opening) → opening_head opening ≡ head → opening_payload opening ≢ payload

-- What follows a head was taken off the input, and with it makes this request; or makes none; or the input has ended before it does
abbrev pub ReceivesName : Head → Option (List ℕ) → Option (List ℕ) → Option Opening → Type 0
ReceivesName head old new (Some opening) = (payload : List ℕ) × Consumes old new payload × (length payload ≡ head.length) × IsOpeningOf head payload (Some opening)
ReceivesName head old new None =
    ((payload : List ℕ) × Consumes old new payload × (length payload ≡ head.length) × IsOpeningOf head payload None)
    ⊎ ((rest : List ℕ) × Consumes old new rest × (length rest < head.length) × (head.length ≤ 4120) × IsAtEnd new)

-- a whole frame that isn't that of a request to open a store
abbrev pub IsNoOpening : List ℕ → Type 0
IsNoOpening frame = (head : Head) × (payload : List ℕ) × IsHead head × (frame ≡ head_bytes head ++ payload) × (length payload ≡ head.length) × IsOpeningOf head payload None

-- The frame of this request was taken off the input; or that of none; or the input has ended, in less than a frame
abbrev pub ReceivesOpening : Option (List ℕ) → Option (List ℕ) → Option Opening → Type 0
ReceivesOpening old new (Some opening) = Consumes old new (opening_bytes opening)
ReceivesOpening old new None =
    ((frame : List ℕ) × Consumes old new frame × IsNoOpening frame) ⊎ ((rest : List ℕ) × Consumes old new rest × IsCutOff 4120 rest × IsAtEnd new)
