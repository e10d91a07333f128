-- Parts of a Scan, and pages: what is read is a part of what the machine replies with.
use Rattle.std.proofs.Common.{◌≡◌, ◌⊎◌, ℕ, ◌≤◌, Bool, true, false, List, length, take, reverse, refl, sym, ◌∙◌, ap, subst}
use Rattle.std.specs.Prelude.{Some, None, Ok, Err}
use Rattle.base.specs.declared.key.Key.{Key}
use Rattle.base.specs.declared.fault.Fault.{Fault}
use Rattle.base.specs.declared.fault.Fault.TheVariants.{OutOfMemory}
use Rattle.base.specs.declared.step.Step.TheVariants.{Scan}
use Rattle.base.specs.declared.step.Reply.TheVariants.{Rows, Refused}
use Rattle.base.specs.declared.step.SessionStep.TheVariants.{Scan as ScanOf}
use Rattle.base.specs.Commits.{Tables, Lists, overlaid}
use Rattle.machine.specs.Machine.{State, Stepped, refused, answered, memory_refused, refusal, seen_by}
use Rattle.machine.specs.Replay.{scanned}
use Rattle.machine.proofs.reads.Scans.{scan-lists}
use Rattle.pmem.specs.Device.{Device, IsOrderly}
use Rattle.pmem.specs.Words.{image_of}
use Rattle.snapshot.specs.Snapshots.{Seen}
use Rattle.txn.specs.declared.transaction.Transaction.TheVariants.{Active}
use Rattle.txn.specs.declared.write.Write.{Write}
use Rattle.txn.specs.Transactions.{transaction_at}
use Rattle.txn.specs.WriteSets.{plain_writes}
use Rattle.index.specs.declared.ranges.KeyRange.{KeyRange}
use Rattle.index.specs.declared.ranges.KeyRange.TheVariants.{Between}
use Rattle.index.specs.Walking.{AreLinked}
use Rattle.index.specs.Reading.{CountsAs, ShowsTables, ranged, is_between}
use Rattle.session_steps.specs.declared.sessions.Sessions.{Sessions}
use Rattle.session_steps.specs.declared.parts.Page.{Page}
use Rattle.session_steps.specs.Shows.{Hidden, plain_of, Agrees, Shows}
use Rattle.device_invariant.specs.Upholds.{Upholds}
use Rattle.session_steps.specs.Steps.{HoldsOn, IsBarred, is_active}
use Rattle.session_steps.specs.Reads.{WouldReply, ReadsPage, of_rows, first_of, last_of}
use Rattle.session_steps.proofs.Refusals.{passes}
use Rattle.session_steps.proofs.transactions.Steps.{found, inactive-refusal}
use Rattle.session_steps.proofs.reads.Scans.{rows-seen}
use Rattle.session_steps.proofs.reads.Beginnings.{first-taken, last-taken}

-- what is read in the range, whatever tables the image shows
abbrev pub ReadIn : Sessions → Device → KeyRange → Seen → List Write → List (Key × List ℕ) → Type 0
ReadIn s device range snapshot writes rows =
    (counts : ℕ → Bool) (tables : Tables) → CountsAs counts snapshot s.numbers.geometry (image_of device) → AreLinked snapshot (image_of device) s.index → ShowsTables counts s.numbers.geometry (image_of device) tables
    → Lists rows (ranged range (overlaid (plain_writes writes) tables))

-- why a Scan is refused
pub lacks-memory : (s : Sessions) (device : Device) (n table lo hi : ℕ) (snapshot : Seen) (writes : List Write) (h : Hidden) → transaction_at s.transactions n ≡ Some (Active snapshot writes) → HoldsOn s h device
    → Stepped (plain_of s h) (Scan n table lo hi) (Refused OutOfMemory) (plain_of s h)
lacks-memory s device n table lo hi snapshot writes h at holds = memory_refused (passes (plain_of s h) (Scan n table lo hi) n _ holds.works refl (found s h n _ at) refl) refl refl refl

pub barred : (s : Sessions) (device : Device) (n table lo hi : ℕ) (fault : Fault) (h : Hidden) → IsBarred is_active (transaction_at s.transactions n) fault → HoldsOn s h device
    → Stepped (plain_of s h) (Scan n table lo hi) (Refused fault) (plain_of s h)
barred s device n table lo hi fault h bars holds = refused fault (inactive-refusal s (ScanOf n table lo hi) n fault h refl refl bars holds.works) refl refl

pub refused-read : {A : Type 0} (make : List (Key × List ℕ) → A) (q : State) (n table lo hi : ℕ) (fault : Fault) → Stepped q (Scan n table lo hi) (Refused fault) q → WouldReply q (Scan n table lo hi) (of_rows make) (Err fault)
refused-read make q n table lo hi fault stepped = (Refused fault, stepped, refl)

module _ (s : Sessions) (device : Device) (n : ℕ) (snapshot : Seen) (writes : List Write) (h : Hidden) (orderly : IsOrderly device) (at : transaction_at s.transactions n ≡ Some (Active snapshot writes)) (holds : HoldsOn s h device) where
  abbrev q : State
  q = plain_of s h

  lets : (table lo hi : ℕ) → refusal q (Scan n table lo hi) ≡ None
  lets table lo hi = passes q (Scan n table lo hi) n _ holds.works refl (found s h n _ at) refl

  scans : (table lo hi : ℕ) → Stepped q (Scan n table lo hi) (Rows (scanned q n table lo hi)) q
  scans table lo hi = answered (lets table lo hi) (scanned q n table lo hi, refl, scan-lists q n table lo hi) refl

  module _ (table lo hi limit : ℕ) (page : List (Key × List ℕ)) (reached : Key) where
    abbrev first : Key
    first = record { table = table; key = lo }

    abbrev last : Key
    last = record { table = table; key = hi }

    -- the first rows of a Scan
    pub firsts-read : ReadIn s device (Between first reached) snapshot writes page → ((reached ≡ last) ⊎ ((is_between first last reached ≡ true) × (limit ≤ length page)))
        → WouldReply q (Scan n table lo hi) (first_of limit) (Ok (take limit page))
    firsts-read read ends = (
      Rows (scanned q n table lo hi),
      scans table lo hi,
      ap Ok (first-taken table lo hi limit reached (seen_by q n) page (scanned q n table lo hi) (scan-lists q n table lo hi) (rows-seen s device n (Between first reached) page snapshot writes h orderly at read holds) ends),
    )

    -- the last rows
    pub lasts-read : ReadIn s device (Between reached last) snapshot writes page → ((reached ≡ first) ⊎ ((is_between first last reached ≡ true) × (limit ≤ length page)))
        → WouldReply q (Scan n table lo hi) (last_of limit) (Ok (take limit (reverse page)))
    lasts-read read ends = (
      Rows (scanned q n table lo hi),
      scans table lo hi,
      ap Ok (last-taken table lo hi limit reached (seen_by q n) page (scanned q n table lo hi) (scan-lists q n table lo hi) (rows-seen s device n (Between reached last) page snapshot writes h orderly at read holds) ends),
    )

  -- a page
  pub page-read : (first last : Key) (limit : ℕ) (page : Page) → ReadIn s device (Between first page.reached) snapshot writes page.rows → ((page.reached ≡ last) ⊎ ((is_between first last page.reached ≡ true) × (limit ≤ length page.rows)))
      → ReadsPage q n first last limit (Ok page)
  page-read first last limit page read ends = (lets first.table first.key last.key, record { rows = rows-seen s device n (Between first page.reached) page.rows snapshot writes h orderly at read holds; reached = ends })

-- what is so of every hidden part is so of each state that is shown
pub shown-so : (s : Sessions) (device : Device) (q : State) (shown : Shows s device q) → q.failed ≡ false → (Fact : State → Type 0) → ((h : Hidden) → HoldsOn s h device → Fact (plain_of s h)) → Fact q
shown-so s device q shown works Fact each = subst Fact (sym shown.plain) (each shown.hidden (record {
  works = sym (ap (λ (p : State). p.failed) shown.plain) ∙ works;
  upholds = subst (λ (p : State). Upholds shown.hidden.origin p device) shown.plain shown.upholds;
  agrees = subst (λ (p : State). Agrees s shown.hidden.origin shown.hidden.seen p) shown.plain shown.agrees;
}))
