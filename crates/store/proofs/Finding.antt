-- A device that was found has the places of its layout.
use Rattle.std.proofs.Common.{◌≡◌, ◌∙◌, inl, inr, ℕ, List, ap, sym}
use Rattle.std.specs.Prelude.{None}
use Rattle.base.specs.Layout.{Layout}
use Rattle.log_area.specs.Rulings.{IsLaidOut}
use Rattle.pmem_file.specs.Shapes.{HasItsPlaces}

pub its-places : (image : List ℕ) (places : ℕ) (found : Layout) → HasItsPlaces None image places → IsLaidOut found image → places ≡ found.places
its-places image places found has laid = elim has.image [
  | inl own ↦ has.places_are ∙ ap (λ (l : Layout). l.places) (sym own.laid_out ∙ laid.laid_out)
  | inr one ↦ absurd (cc one.0)
]
