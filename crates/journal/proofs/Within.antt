-- Of a storage of which less may be found no less is known.
use Rattle.std.proofs.Common.{◌≡◌, Result, ℕ, Bool, List, subst, arith}
use Rattle.std.specs.Prelude.{OnOk}
use Rattle.std.proofs.Math.Logic.{∥∥₁_map}
use Rattle.journal.specs.Files.{MayBe}
use Rattle.journal.specs.States.{Rests}

abbrev pub IsWithin : (ℕ → ℕ → Type 0) → (ℕ → ℕ → Type 0) → Type 0
IsWithin old new = (word x : ℕ) → new word x → old word x

rests_one : (old new : ℕ → ℕ → Type 0) (words room : ℕ) (pass : Bool) (position : ℕ) (image : List ℕ) → IsWithin old new → Rests old words room pass position image → Rests new words room pass position image
rests_one old new words room pass position image within r = record {
  known = record {
    file = r.known.file;
    size = r.known.size;
    holds = λ word x lt h. r.known.holds word x lt (within word x h);
    opens = r.known.opens;
    pass_is = r.known.pass_is;
  };
  on = r.on;
  entries = r.entries;
  behind = r.behind;
  written = r.written;
  position_is = r.position_is;
  none = r.none;
  lines = r.lines;
}

pub rests_within : (old new : ℕ → ℕ → Type 0) (words room : ℕ) (pass : Bool) (position : ℕ) (image : List ℕ) → IsWithin old new → ∥ Rests old words room pass position image ∥₁ → ∥ Rests new words room pass position image ∥₁
rests_within old new words room pass position image within some = ∥∥₁_map some (λ r. rests_one old new words room pass position image within r)

pub may_be_within : (old new : ℕ → ℕ → Type 0) (room : ℕ) (written image : List ℕ) → IsWithin old new → MayBe new room written image → MayBe old room written image
may_be_within old new room written image within a = grind (arith)

-- of the same words and the same room
pub may_be_same : (old new : ℕ → ℕ → Type 0) (room room' : ℕ) (written written' image : List ℕ) → IsWithin old new → room' ≡ room → written' ≡ written → MayBe new room' written' image → MayBe old room written image
may_be_same old new room room' written written' image within same_room same_written may =
    may_be_within old new room written image within (subst (λ (r : ℕ). MayBe new r written image) same_room (subst (λ (w : List ℕ). MayBe new room' w image) same_written may))

pub both_ok : {T E P Q R : Type 0} (result : Result T E) → (P → Q → R) → OnOk result P → OnOk result Q → OnOk result R
both_ok a f p q = grind (arith)
