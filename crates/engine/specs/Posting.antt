-- How what is covered is published.
use Rattle.std.specs.Prelude.{◌≡◌, ◌⊎◌, ◌-◌, [], Option, Some, None, Contains, IfSome, MatchOption}
use Rattle.base.specs.Batches.{Batch}
use Rattle.base.specs.Images.{Image}
use Rattle.base.specs.Published.{Published, last_stamp}
use Rattle.base.specs.Replies.{note_of}
use Rattle.base.specs.declared.step.Note.{Note}
use Rattle.base.specs.declared.step.Note.TheVariants.{Covered}
use Rattle.base.specs.declared.step.Reply.{Reply}
use Rattle.base.specs.declared.step.Reply.TheVariants.{Covered as CoveredBy}
use Rattle.audited.specs.declared.receipt.Receipt.{Receipt}
use Rattle.board.specs.declared.change.Change.TheVariants.{Add, Raise}
use Rattle.board.specs.Changes.{changed}
use Rattle.board.specs.Lists.{Fits}
use Rattle.board.specs.Shown.{Shown, whole, shown, waiting}
use Rattle.engine.specs.Origins.{HasCovered}
use Rattle.engine.specs.declared.posting.Posting.{Posting}
use Rattle.engine.specs.declared.posting.Posting.TheVariants.{Done, Again, Unfit}
use Rattle.engine.specs.declared.posting.Left.{Left}
use Rattle.engine.specs.declared.posting.Left.TheVariants.{OfBatch, Announced}
use Rattle.engine.specs.declared.worker.Missed.{Missed}
use Rattle.engine.specs.declared.worker.Missed.TheVariants.{Memory, Over}

-- ---- what a list has then

-- the list has the batch, and ends at its stamp
pub record EndsIn (list : Published) (batch : Batch) : Type 0 where
  pub has : Contains list.batches batch
  pub stamp : last_stamp list ≡ batch.stamp

-- the list with its floor raised, if more than sixteen stamps may be read
abbrev pub pruned : Published → Published
pruned list = changed list (Raise (last_stamp list - 15))

-- the list once what waits is published, and then the batch, if there is one
abbrev pub with_batch : Shown → Option Batch → Published
with_batch board None = whole board
with_batch board (Some batch) = changed (whole board) (Add batch)

-- the board once all is published, and the batch, if there is one, and sixteen stamps stay readable
abbrev pub posted : Shown → Option Batch → Shown
posted old batch = record { list = pruned (with_batch old batch); waits = [] }

-- ---- a try

-- the batch may come next, if there is one
abbrev pub MayCome : Shown → Option Batch → Type 0
MayCome board batch = IfSome batch (Fits (whole board))

-- what a try to publish a batch does, or, without one, a try to publish what waits
abbrev pub Tries : Shown → Shown → Option Batch → Posting → Type 0
Tries old new (Some batch) Done = Fits (whole old) batch × (new ≡ shown (waiting old (Add batch)))
Tries old new (Some batch) (Again (Some left)) = (left ≡ batch) × (new ≡ old)
Tries old new (Some batch) (Again None) = Fits (whole old) batch × (new ≡ waiting old (Add batch))
Tries old new (Some batch) Unfit = (Fits (whole old) batch → ⊥) × (new ≡ old)
Tries old new None Done = new ≡ shown old
Tries old new None (Again None) = new ≡ old
Tries old new None (Again (Some left)) = ⊥
Tries old new None Unfit = ⊥

-- The outcome of a try that prunes afterwards. At Done all is published, and pruned. For lack of memory nothing is lost: the batch comes
-- back and the board is as before, or the batch waits there. A batch that may not come next changes nothing
abbrev pub Posts : Shown → Shown → Option Batch → Posting → Type 0
Posts old new batch Done = MayCome old batch × (new ≡ posted old batch)
Posts old new batch (Again (Some left)) = (batch ≡ Some left) × (new ≡ old)
Posts old new batch (Again None) = MayCome old batch × ((whole new ≡ with_batch old batch) ⊎ (whole new ≡ pruned (with_batch old batch)))
Posts old new batch Unfit = MatchOption batch ⊥ (λ b. Fits (whole old) b → ⊥) × (new ≡ old)

-- ---- try after try

-- it is what is left of the batch to be published: the batch, or a list that waits on the board and ends in it
abbrev pub IsLeftOf : {J : Type 0} → Batch → Left J → Type 0
IsLeftOf batch (OfBatch left) = left ≡ batch
IsLeftOf batch (Announced due) = EndsIn due batch

-- the batch, if it isn't on the board yet
abbrev pub batch_of : {J : Type 0} → Left J → Option Batch
batch_of (OfBatch batch) = Some batch
batch_of (Announced due) = None

-- ---- a worker's turn

-- If the note says that a record covered its batch, a step after a run from the image covered it, and the list ends in it.
-- Excluded: a batch that is published with other commits or rows than the room covered.
abbrev pub IsPosted : Image → Note → Option Published → Type 0
IsPosted image (Covered stamp) (Some list) = (batch : Batch) × (batch.stamp ≡ stamp) × HasCovered image batch × EndsIn list batch
IsPosted image (Covered stamp) None = ⊥
IsPosted image _ list = Unit {0}

-- the outcome of a tick: its receipt has its reply's note, and a batch that it covered is one that a step after a run from the image covers
pub record IsTurn (image : Image) (made : Reply × Option Receipt) : Type 0 where
  pub note : IfSome made.1 (λ receipt. receipt.note ≡ note_of made.0)
  pub covered : (batch : Batch) → made.0 ≡ CoveredBy batch → HasCovered image batch

-- the turn has this note, since its step was kept with it
abbrev pub IsTurnOf : Option (Reply × Option Receipt) → Note → Type 0
IsTurnOf made note = (reply : Reply) × (receipt : Receipt) × (made ≡ Some (reply, Some receipt)) × (receipt.note ≡ note)

-- why a turn has no note: no step was kept, for lack of memory; or none was made, or the batch that it covered isn't published
abbrev pub Misses : Option (Reply × Option Receipt) → Missed → Type 0
Misses made Memory = (reply : Reply) × (made ≡ Some (reply, None))
Misses made Over = (made ≡ None) ⊎ ((batch : Batch) × (receipt : Receipt) × (made ≡ Some (CoveredBy batch, Some receipt)))
