use Rattle.std.proofs.Common.{◌≡◌, ◌∙◌, ℕ, List, Result, Ok, Err, IfErr, IsErrAnd, sym, ap, subst}
use Rattle.journal.specs.Files.{MayBe, Opens, StandsAs}
use Rattle.journal.specs.Images.{last_image, room_of, storage_of}
use Rattle.journal.proofs.Files.{only-stands}
use Rattle.pmem.specs.Device.{restarted}
use Rattle.pmem.specs.Words.{image_of}
use Rattle.pmem.proofs.Restarted.{image-restarted}
use Rattle.pmem_file.specs.Journaled.{places_named}
use Rattle.pmem_file.specs.Traces.{device_of}
use Rattle.pmem_file.proofs.journaled.JournaledPmem+JournaledImages+S.over.Goals as goal

pub new-requires : goal.new-requires
new-requires g c = record { holds = λ image may. c.in_ok-images.ensures.found image may ∙ sym (c.shrink_to_fit.ensures.items ∙ c.in_ok-images.ensures.image) }

pub returns-in-Ok-clause-stands : goal.returns-in-Ok-clause-stands
returns-in-Ok-clause-stands g c =
    let P : List ℕ → Type 0 = λ l. Opens c.args.words c.args.room c.args.file.items l in
    let is : image_of (device_of c.in-Ok.device.trace) ≡ c.in_ok-images.images.written.value.items =
    ap image_of c.in-Ok.ensures.device ∙ image-restarted c.shrink_to_fit.new.self.items ∙ (c.shrink_to_fit.ensures.items ∙ c.in_ok-images.ensures.image) in
    subst P (sym is) c.in_ok-images.ensures.stands

pub returns-in-Ok-clause-found : goal.returns-in-Ok-clause-found
returns-in-Ok-clause-found g c image may =
    let hold = g.S.Storage.may_hold in
    let is : image_of (device_of c.in-Ok.device.trace) ≡ c.in_ok-images.images.written.value.items =
    ap image_of c.in-Ok.ensures.device ∙ image-restarted c.shrink_to_fit.new.self.items ∙ (c.shrink_to_fit.ensures.items ∙ c.in_ok-images.ensures.image) in
    c.in_ok-images.ensures.found image (subst (λ i. MayBe (hold (storage_of i)) (room_of i) (last_image i) image) c.in-Ok.ensures.keeps may) ∙ sym is

pub returns-in-Ok-clause-device : goal.returns-in-Ok-clause-device
returns-in-Ok-clause-device g c =
    let is : image_of (device_of c.in-Ok.device.trace) ≡ c.shrink_to_fit.new.self.items = ap image_of c.in-Ok.ensures.device ∙ image-restarted c.shrink_to_fit.new.self.items in
    c.in-Ok.ensures.device ∙ sym (ap restarted is)

pub returns-in-Ok-clause-places : goal.returns-in-Ok-clause-places
returns-in-Ok-clause-places g c =
    let is : image_of (device_of c.in-Ok.device.trace) ≡ c.shrink_to_fit.new.self.items = ap image_of c.in-Ok.ensures.device ∙ image-restarted c.shrink_to_fit.new.self.items in
    c.in-Ok.ensures.places ∙ ap (λ (l : List ℕ). places_named l c.args.places) (sym is)

pub returns-in-Ok-clause-works : goal.returns-in-Ok-clause-works
returns-in-Ok-clause-works g c = ap (λ i. i.failure) c.in-Ok.ensures.keeps ∙ c.in_ok-images.ensures.works

-- if the storage is the same
moved : {S : Type 0} (may_hold : S → ℕ → ℕ → Type 0) (old new : S) (words room : ℕ) (file : List ℕ) → new ≡ old → StandsAs (may_hold old) words room file → StandsAs (may_hold new) words room file
moved {S} may_hold old new words room file same = subst (λ (s : S). StandsAs (may_hold s) words room file) (sym same)

-- if no other image may be found, by the room that was asked for
kept : (may_hold : ℕ → ℕ → Type 0) (words room named : ℕ) (file image : List ℕ) → named ≡ room → Opens words room file image
    → ((other : List ℕ) → MayBe may_hold named image other → other ≡ image) → StandsAs may_hold words room file
kept may_hold words room named file image is opens only =
    let F : ℕ → Type 0 = λ r. (other : List ℕ) → MayBe may_hold r image other → other ≡ image in
    only-stands may_hold words room file image opens (subst F is only)

pub returns-in-Err-clause-unopened : goal.returns-in-Err-clause-unopened
returns-in-Err-clause-unopened g c =
    let images = c.in_ok-images.images in
    let hold = g.S.Storage.may_hold in
    moved hold images.storage c.unopened.result.storage c.args.words c.args.room c.args.file.items (c.unopened.ensures ∙ ap (λ i. i.storage) c.in-Err.ensures.images)
    (kept (hold images.storage) c.args.words c.args.room images.room c.args.file.items images.written.value.items c.in_ok-images.ensures.room c.in_ok-images.ensures.stands c.in_ok-images.ensures.found)

-- an error is handed on as it is
passed : {T E : Type 0} (result : Result T E) (error : E) (P : E → Type 0) → IsErrAnd result (λ other. other ≡ error) → P error → IfErr result P
passed (Ok t) error P is p = tt
passed (Err other) error P is p = subst P (sym is) p

pub returns-in_err-images-clause-unopened : goal.returns-in_err-images-clause-unopened
returns-in_err-images-clause-unopened g c =
    let hold = g.S.Storage.may_hold in
    passed c.from_residual.result c.in_err-images.field-0.0 (λ unopened. StandsAs (hold unopened.storage) c.args.words c.args.room c.args.file.items) c.from_residual.ensures.1 c.in_err-images.ensures.unopened
