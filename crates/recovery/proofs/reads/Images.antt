-- What a reading of an image shows.
use Rattle.std.proofs.Common.{◌≡◌, inl, inr, ℕ, ◌+◌, Bool, List, refl, sym, ◌∙◌, ap, not, arith}
use Rattle.std.specs.Prelude.{Option, Some, None}
use Rattle.std.specs.Option.{option_or, option_map}
use Rattle.base.specs.declared.key.Key.{Key}
use Rattle.base.specs.declared.fault.Fault.{Fault}
use Rattle.base.specs.declared.fault.Fault.TheVariants.{BadGeometry, NotFormatted, Damaged, Version, OutOfMemory}
use Rattle.base.specs.Search.{first_below, some_if}
use Rattle.base.specs.Layout.{Layout, is_known_version}
use Rattle.base.specs.Records.{Record}
use Rattle.base.specs.Images.{Image, IsSound, layout_of, ruling, is_formatted, has_good_geometry, is_wrong_gate, is_ruled, ruling_place, is_bad_slot, IsRuledBy, log_damage}
use Rattle.recovery.specs.Slots.{IsSlotsFault, bad_below}
use Rattle.recovery.specs.Read.{IsLogRefusal, IsRead, IsReadRefusal, ReportsLogFault, rows_below}
use Rattle.recovery.proofs.openings.Images.{known-good}
use Rattle.recovery.specs.Opened.{Examined}
use Rattle.recovery.specs.declared.rows.LiveSlot.{LiveSlot}
use Rattle.recovery.proofs.openings.Faults.{gates-none, no-damage, log-first}
use Rattle.recovery.proofs.openings.Devices.{is}
use Rattle.base.specs.declared.gap.Gap.{Gap}

pub refusal-log : (image : Image) (fault : Fault) → IsLogRefusal image fault → IsReadRefusal image fault
refusal-log image fault (inl is) = inl (log-first image fault is)
refusal-log image fault (inr memory) = inr memory

module _ (layout : Layout) (r : Record) (image : Image) (rules : IsRuledBy layout r image) where
  -- the same, with what is at the end of the list
  first-is : (rest : Option Fault) → option_or (some_if (not (is_formatted image)) NotFormatted)
      (option_or (some_if (not (is_known_version (layout_of image).version)) (Version (layout_of image).version))
      (option_or (some_if (not (has_good_geometry image)) BadGeometry)
      (option_or (option_map Damaged (first_below (layout_of image).places (is_wrong_gate image)))
      (option_or (some_if (not (is_ruled image)) (Damaged (ruling_place image))) rest)))) ≡ rest
  first-is rest = grind (arith, known-good, gates-none) steps 800000

  pub log-none : log_damage image ≡ None
  log-none = first-is None

  pub tells-later : (fault : Fault) → ReportsLogFault image fault
  tells-later fault = inr log-none

  pub refusal-slots : (fault : Fault) → IsSlotsFault layout image fault → IsReadRefusal image fault
  unfolding IsSlotsFault bad_below
  refusal-slots fault (inl memory) = inr (log-none, memory)
  refusal-slots fault (inr bad) =
      let here : option_map (λ slot. Damaged ((layout_of image).places + slot)) (first_below (layout_of image).slots (is_bad_slot (ruling image) image)) ≡ Some fault =
      ap (λ (l : Layout). option_map (λ slot. Damaged (l.places + slot)) (first_below l.slots (is_bad_slot (ruling image) image))) rules.laid_out ∙ bad in
      inl (first-is (option_or (option_map (λ slot. Damaged ((layout_of image).places + slot)) (first_below (layout_of image).slots (is_bad_slot (ruling image) image))) None) ∙ (λ i. option_or (here i) None))

  pub refusal-memory : IsReadRefusal image OutOfMemory
  refusal-memory = inr (log-none, refl)

  pub is-read : bad_below image layout.slots ≡ None → (rows : List (Key × List ℕ)) → rows ≡ rows_below image layout.slots → IsRead image layout r rows
  unfolding bad_below
  is-read none rows are = grind (arith, no-damage) steps 800000

-- what is reported if an image was examined
pub tells-examined : (image : Image) (layout : Layout) (r : Record) (gaps : Option (List Gap)) (free : List Bool) (live : List LiveSlot) → Examined image layout r gaps free live → (fault : Fault) → ReportsLogFault image fault
tells-examined image layout r gaps free live ex = tells-later layout r image (is image layout r gaps free live ex).rules

-- a sound image is refused only for lack of memory
pub memory-read : (image : Image) → IsSound image → IsReadRefusal image OutOfMemory
memory-read image sound = inr (log-sound (log_damage image) refl, refl)
  where
    log-sound : (o : Option Fault) → log_damage image ≡ o → log_damage image ≡ None
    log-sound None is = is
    log-sound (Some fault) is = absurd (cc (sym sound ∙ log-first image fault is))
