use Rattle.std.proofs.Common.{◌≡◌, ◌∙◌, ◌≤◌, ℕ, List, Option, IfSome, arith, subst, sym}
use Rattle.std.proofs.lemmas.List.{get_or-drop}
use Rattle.base.specs.Layout.{Layout}
use Rattle.journal.proofs.Files.{opens-one}
use Rattle.pmem_file.specs.Shapes.{IsImageOf, room_needed}
use Rattle.pmem_file.proofs.Shapes.{image-one, journaled}
use Rattle.pmem_file.proofs.shape.journaled_shape.Goals as goal

pub returns-in_err-image-clause-memory : goal.returns-in_err-image-clause-memory
returns-in_err-image-clause-memory c = grind (arith, get_or-drop)

pub returns-clause-some : goal.returns-clause-some
returns-clause-some c =
    let is = subst (λ (found : Option Layout). IfSome found (λ own. IsImageOf c.args.asked.now own c.as_slice.result.now)) c.in-Some.is c.layout_of.ensures.some in
    journaled c.args.asked.now c.in-Some.own c.args.file.now c.in_ok-image.image.items (record { words = c.args.words; room = c.args.room; places = c.places.result }) c.requires.file.fits c.requires.file.size
    c.in_ok-image.ensures.stands (subst (λ (image : List ℕ). IsImageOf c.args.asked.now c.in-Some.own image) c.as_slice.ensures.value is) c.places.ensures.places

pub returns-then-room-room_needed-clause-none : goal.returns-then-room-room_needed-clause-none
returns-then-room-room_needed-clause-none c image own entry opens is =
    let asked = c.args.asked.now in
    let read = c.in_ok-image.image.items in
    let found = subst (λ (found : Option Layout). IfSome found (λ own. IsImageOf asked own c.as_slice.result.now)) c.in-Some.is c.layout_of.ensures.some in
    let same : image ≡ read = opens-one c.args.words c.args.room c.args.file.now image read opens c.in_ok-image.ensures.stands in
    let one : own ≡ c.in-Some.own = image-one asked own c.in-Some.own image is (subst (λ (l : List ℕ). IsImageOf asked c.in-Some.own l) (c.as_slice.ensures.value ∙ sym same) found) in
    let needs : room_needed c.in-Some.own ≤ c.args.room = subst (λ (a : Layout). room_needed a ≤ c.args.room) one entry in
    let enough : c.room_needed.result ≤ c.args.room = subst (λ (n : ℕ). n ≤ c.args.room) (sym c.room_needed.ensures) needs in
    absurd (omega (arith, enough, c.if-room-room_needed.true))
