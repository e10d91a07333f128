-- How the history is kept from when an image is opened to a stop.
use Rattle.std.proofs.Common.{◌≡◌, ℕ, List, [], ◌++◌, refl, sym, ◌∙◌, ap, subst, append-nil, append_assoc, arith}
use Rattle.std.specs.Prelude.{Option, All}
use Rattle.std.proofs.lemmas.List.Elements.{All-cons, All-contains}
use Rattle.base.specs.declared.step.Step.{Step}
use Rattle.base.specs.declared.step.Reply.{Reply}
use Rattle.base.specs.Commits.{Commit}
use Rattle.base.specs.Images.{Image, layout_of}
use Rattle.base.specs.Layout.{Layout, opened_layout}
use Rattle.base.specs.Stands.{Stands}
use Rattle.machine.specs.Machine.{State, Stepped, Hand, Cover, StandsUnder, StandsAt, StandsClosed, drawn_of, covers_at, of_hand, present, closed, uncovered}
use Rattle.pmem.specs.Device.{Device, restarted}
use Rattle.pmem.specs.Words.{image_of}
use Rattle.pmem.specs.declared.device.Pmem.{Ghosts}
use Rattle.pmem.proofs.Restarted.{image-restarted}
use Rattle.room.specs.Room.{Leads}
use Rattle.room.specs.declared.room.Room.{Room}
use Rattle.command_line.specs.ImageFile.{HoldsWords, IsFileOf}
use Rattle.console.specs.Kept.{Extends, IsFileWith, LeadsBy, KeepsHistory, KeepsHistories}
use Rattle.console.proofs.Files.{one_image}

pub extends-none : (history : List Commit) → Extends history history
extends-none history = ([], sym (append-nil history))

pub extends-trans : (a b c : List Commit) → Extends a b → Extends b c → Extends a c
extends-trans a b c (more, e) (rest, f) = (more ++ rest, f ∙ (ap (λ (l : List Commit). l ++ rest) e ∙ append_assoc a more rest))

-- ---- a room

pub leads-nowhere : {D : Type 0} {G : Ghosts D} (state : D → Device) (room : Room D G) (By : State → State → Type 0) → ((q : State) → By q q) → LeadsBy state room room By
leads-nowhere state room By same = record { each = λ q shows. (q, same q, shows) }

pub leads-by : {D : Type 0} {G : Ghosts D} (state : D → Device) (old new : Room D G) (A B : State → State → Type 0)
    → ((q q' : State) → A q q' → B q q') → LeadsBy state old new A → LeadsBy state old new B
leads-by state old new A B says a = record { each = λ q shows. let made = a.each q shows in (made.0, says q made.0 made.1, made.2) }

pub leads-trans : {D : Type 0} {G : Ghosts D} (state : D → Device) (old mid new : Room D G) (A B C : State → State → Type 0)
    → ((q m q' : State) → A q m → B m q' → C q q') → LeadsBy state old mid A → LeadsBy state mid new B → LeadsBy state old new C
leads-trans state old mid new A B C says a b = record {
  each = λ q shows.
      let first = a.each q shows in
      let second = b.each first.0 first.2 in
      (second.0, says q first.0 second.0 first.1 second.1, second.2);
}

pub leads-step : {D : Type 0} {G : Ghosts D} (state : D → Device) (old new : Room D G) (step : Step) (reply : Reply)
    → Leads state old new step reply → LeadsBy state old new (λ q q'. Stepped q step reply q')
leads-step state old new step reply steps = record {
  each = λ q shows. let made = steps q shows in (made.0, made.1.stepped, made.1.shows);
}

-- ---- an image

-- the cover's commits begin with the state's history
abbrev Adds : State → Cover → Type 0
Adds q cover = Extends q.history cover.commits

adds-hand : (q : State) (hand : Option Hand) → All (Adds q) (of_hand q hand)
adds-hand q a = grind (arith)

adds-at : (q : State) → All (Adds q) (covers_at q)
adds-at q = All-cons (Adds q) (present q) (of_hand q q.hand) (extends-none q.history) (adds-hand q q.hand)

keeps-under : (history : List Commit) (q : State) (cover : Cover) (image : Image) → Extends history q.history → Adds q cover → StandsUnder q cover image → KeepsHistory q.layout history image
keeps-under history q cover image longer adds s =
    record { laid_out = s.laid_out; kept = cover.commits; drawn = drawn_of q; next = q.next; longer = extends-trans history q.history cover.commits longer adds; stands = s.stands }

pub keeps-at : (history : List Commit) (q : State) (image : Image) → Extends history q.history → StandsAt q image → KeepsHistory q.layout history image
keeps-at history q image longer s = keeps-under history q s.0 image longer (All-contains (Adds q) (covers_at q) s.0 (adds-at q) s.1) s.2

pub keeps-closed : (history : List Commit) (q : State) (image : Image) → Extends history q.history → StandsClosed q image → KeepsHistory q.layout history image
keeps-closed history q image longer s = keeps-under history q (closed q) image longer (uncovered q, refl) s

-- ---- a file

pub file-restarted : (device : Device) (image : Image) (file : List ℕ) → device ≡ restarted image → IsFileOf (image_of device) file → IsFileOf image file
file-restarted device image file is of = subst (λ (words : Image). IsFileOf words file) (ap image_of is ∙ image-restarted image) of

-- the image of which the words are kept is the one that the file has
pub keeps-of : (before words after : List ℕ) → HoldsWords before words
    → ((history drawn : List Commit) (next : ℕ) → Stands words history drawn next → IsFileWith (opened_layout (layout_of words)) history after) → KeepsHistories before after
keeps-of before words after holds keeps = record {
  each = λ image held history drawn next stands.
      let same : image ≡ words = one_image before image words held holds in
      subst (λ (i : Image). IsFileWith (opened_layout (layout_of i)) history after) (sym same) (keeps history drawn next (subst (λ (i : Image). Stands i history drawn next) same stands));
}

-- what is open opens as it is
opened-twice : (a : Layout) → opened_layout (opened_layout a) ≡ opened_layout a
opened-twice a = grind (arith)

-- a run after a run
pub keeps-both : (first second third : List ℕ) → KeepsHistories first second → KeepsHistories second third → KeepsHistories first third
keeps-both first second third one two = record {
  each = λ image held history drawn next stands.
      let mid = one.each image held history drawn next stands in
      let end = two.each mid.image mid.of_image.holds mid.keeps.kept mid.keeps.drawn mid.keeps.next mid.keeps.stands in
      record {
        image = end.image;
        of_image = end.of_image;
        keeps = record {
          laid_out = end.keeps.laid_out ∙ ap opened_layout mid.keeps.laid_out ∙ opened-twice (layout_of image);
          kept = end.keeps.kept;
          drawn = end.keeps.drawn;
          next = end.keeps.next;
          longer = extends-trans history mid.keeps.kept end.keeps.kept mid.keeps.longer end.keeps.longer;
          stands = end.keeps.stands;
        };
      };
}
