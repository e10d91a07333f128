-- From the parts of a life to the whole.
use Rattle.std.proofs.Common.{◌≡◌, ℕ, ◌-◌, List, [], ◌∷◌, ◌++◌, length, true, refl, ◌∙◌, ap, subst}
use Rattle.std.specs.Prelude.{Option, Some, None, codes}
use Rattle.base.specs.Commits.{Commit}
use Rattle.base.specs.Images.{Image, layout_of}
use Rattle.base.specs.Layout.{Layout, opened_layout}
use Rattle.machine.specs.Machine.{State, closing_gate}
use Rattle.machine.specs.Openings.{OpensAs}
use Rattle.pmem.specs.Device.{Device, MayLeave}
use Rattle.pmem.specs.declared.device.Pmem.{Ghosts}
use Rattle.room.specs.Room.{Shows, device_of}
use Rattle.room.specs.Runs.{OpensTo}
use Rattle.room.specs.declared.room.Room.{Room}
use Rattle.audited.proofs.Compose.{opens-weaken}
use Rattle.command_line.specs.ImageFile.{HoldsWords, IsFileOf, is_image_length}
use Rattle.command_line.specs.Numbers.{Text}
use Rattle.command_line.specs.Texts.{closed_line, survivor_text}
use Rattle.command_line.specs.declared.command.Survivor.{Survivor}
use Rattle.console.specs.Kept.{Extends, HasClosed, IsFileWith, KeepsHistories, LeadsBy}
use Rattle.console.specs.Lives.{Ends, EndsOn, FileOpensTo, IsBegun, Lives, opened_text}
use Rattle.console.specs.Obeyed.{ObeysLines}
use Rattle.console.proofs.Grown.{grows-lines}
use Rattle.console.proofs.KeptHistory.{keeps-at, keeps-closed, keeps-of}

pub ends-stopped : {D : Type 0} {G : Ghosts D} (state : D → Device) (room : Room D G) (device : Device) (image : Image) (file : List ℕ) (keeps : Survivor) (q : State)
    → device ≡ device_of state room → MayLeave device image → IsFileOf image file → Shows state room q
    → Ends q (Some keeps) ((codes "stopped " ++ survivor_text keeps) ++ 10 ∷ []) file
ends-stopped state room device image file keeps q is left bytes shows =
    (image, bytes, shows.stands image (subst (λ (d : Device). MayLeave d image) is left), refl)

pub ends-closed : {D : Type 0} {G : Ghosts D} (state : D → Device) (room : Room D G) (device : Device) (image : Image) (file : List ℕ) (q : State)
    (gate persisted next : ℕ) → gate ≡ closing_gate q → persisted ≡ next - 1 → next ≡ q.next
    → HasClosed state room device → MayLeave device image → IsFileOf image file → Shows state room q
    → Ends q None (closed_line gate persisted next ++ 10 ∷ []) file
ends-closed state room device image file q gate persisted next a b c closes left bytes shows =
    let may = closes.may_close q shows in (
      image,
      bytes,
      closes.each q shows image left,
      may,
      (λ i. closed_line (a i) ((b ∙ ap (λ (n : ℕ). n - 1) c) i) (c i) ++ 10 ∷ []),
    )

pub opens-history : (image : Image) (history : List Commit) (lost : List ℕ) (q : State) → OpensAs image history lost q → q.history ≡ history
opens-history image history lost q (gaps, is, e) = ap (λ (p : State). p.history) e

pub opens-layout : (image : Image) (history : List Commit) (lost : List ℕ) (q : State) → OpensAs image history lost q → q.layout ≡ opened_layout (layout_of image)
opens-layout image history lost q (gaps, is, e) = ap (λ (p : State). p.layout) e

file-of-end : (history : List Commit) (q : State) (keeps : Option Survivor) (said : Text) (file : List ℕ) → Extends history q.history → Ends q keeps said file → IsFileWith q.layout history file
file-of-end history q (Some keeps) said file longer (image, bytes, stands, e) = record { image = image; of_image = bytes; keeps = keeps-at history q image longer stands }
file-of-end history q None said file longer (image, bytes, stands, may, e) = record { image = image; of_image = bytes; keeps = keeps-closed history q image longer stands }

pub lives-keep : (before : List ℕ) (input old new : Option (List ℕ)) (after : List ℕ) → Lives before input old new after → KeepsHistories before after
lives-keep before input old new after lives =
    keeps-of before lives.opens.image after lives.opens.holds (λ history drawn next stands.
    let s = lives.opens.opens.each history drawn next [] stands in
    file-of-life history s.0 s.1 s.2)
  where
    words : Image
    words = lives.opens.image

    file-of-life : (history : List Commit) (q : State) → OpensAs words history [] q → IsBegun lives.lines lives.keeps lives.begun lives.said (EndsOn lives.device lives.keeps lives.ended after) q
        → IsFileWith (opened_layout (layout_of words)) history after
    file-of-life history q opens b =
        let grown = grows-lines q lives.lines lives.said lives.keeps b.last b.runs in
        subst (λ (a : Layout). IsFileWith a history after) (grown.1 ∙ opens-layout words history [] q opens)
        (file-of-end history b.last lives.keeps lives.ended after (subst (λ (h : List Commit). Extends h b.last.history) (opens-history words history [] q opens) grown.0) b.is.ends)

-- the file has the words that were opened
pub file-opened : (file words slice : List ℕ) (Is : State → Type 0) → is_image_length (length file) ≡ true → HoldsWords file words → slice ≡ words → OpensTo slice Is → FileOpensTo file Is
file-opened file words slice Is size holds same opens = record { size = size; image = words; holds = holds; opens = subst (λ (i : Image). OpensTo i Is) same opens }

-- the lines lead from each state that the opened room shows to one of which this holds
pub begun-of : {D : Type 0} {G : Ghosts D} (state : D → Device) (opened : Room D G) (file : List ℕ) (lines : List Text) (keeps : Option Survivor) (begun said : Text) (Is : State → Type 0)
    → FileOpensTo file (Shows state opened) → ((q : State) → Shows state opened q → begun ≡ opened_text q ++ 10 ∷ [])
    → ((q : State) → Shows state opened q → (q' : State) × ObeysLines q lines said keeps q' × Is q') → FileOpensTo file (IsBegun lines keeps begun said Is)
begun-of state opened file lines keeps begun said Is opens told runs = record {
  size = opens.size;
  image = opens.image;
  holds = opens.holds;
  opens = opens-weaken opens.image (Shows state opened) (IsBegun lines keeps begun said Is)
      (λ q shows. let went = runs q shows in record { announced = told q shows; last = went.0; runs = went.1; is = went.2 }) opens.opens;
}

pub life-of : {D : Type 0} {G : Ghosts D} (state : D → Device) (opened ended_room : Room D G) (file : List ℕ) (lines : List Text) (keeps : Option Survivor) (begun said ended : Text) (after : List ℕ)
    → FileOpensTo file (Shows state opened) → ((q : State) → Shows state opened q → begun ≡ opened_text q ++ 10 ∷ []) → LeadsBy state opened ended_room (λ q q'. ObeysLines q lines said keeps q')
    → ((q : State) → Shows state ended_room q → Ends q keeps ended after) → FileOpensTo file (IsBegun lines keeps begun said (EndsOn (device_of state ended_room) keeps ended after))
life-of state opened ended_room file lines keeps begun said ended after opens told leads ends =
    begun-of state opened file lines keeps begun said (EndsOn (device_of state ended_room) keeps ended after) opens told (λ q shows.
    let went = leads.each q shows in
    (went.0, went.1, record { volatile = ended_room.volatile; shows = went.2.agrees.shown; ends = ends went.0 went.2 }))
