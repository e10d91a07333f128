-- When an image opens.
use Rattle.std.proofs.Common.{◌≡◌, ℕ, ◌+◌, ◌*◌, ◌^◌, true, false, not, ◌||◌, sym, ◌∙◌, ap, subst, nat_le, arith}
use Rattle.std.specs.Prelude.{Option, Some, None}
use Rattle.std.specs.Option.{option_or, option_map}
use Rattle.base.specs.declared.fault.Fault.{Fault}
use Rattle.base.specs.declared.fault.Fault.TheVariants.{BadGeometry, NotFormatted, Damaged, Version, TimestampsOut}
use Rattle.base.specs.Layout.{Layout, is_known_version}
use Rattle.base.specs.Records.{Record}
use Rattle.base.specs.Search.{first_below, some_if}
use Rattle.base.specs.Images.{Image, damage, layout_of, is_formatted, has_good_geometry, is_wrong_gate, is_ruled, ruling_place, ruling, is_bad_slot, is_near_limit, opening_fault, IsRuledBy, log_damage}
use Rattle.recovery.proofs.openings.Images.{sound-faultless, known-good}

-- ---- in which order faults are reported

chain : (a b c d e f : Option Fault) (x : Fault) → option_or a (option_or b (option_or c (option_or d (option_or e None)))) ≡ Some x
    → option_or a (option_or b (option_or c (option_or d (option_or e (option_or f None))))) ≡ Some x
chain a b c d e f x is = grind (arith)

-- a fault of the log is the first that an image has
pub log-first : (image : Image) (fault : Fault) → log_damage image ≡ Some fault → damage image ≡ Some fault
log-first image fault is =
    chain (some_if (not (is_formatted image)) NotFormatted) (some_if (not (is_known_version (layout_of image).version)) (Version (layout_of image).version)) (some_if (not (has_good_geometry image)) BadGeometry)
    (option_map Damaged (first_below (layout_of image).places (is_wrong_gate image))) (some_if (not (is_ruled image)) (Damaged (ruling_place image)))
    (option_map (λ slot. Damaged ((layout_of image).places + slot)) (first_below (layout_of image).slots (is_bad_slot (ruling image) image))) fault is

-- what comes first is the first
first-damage : (o rest : Option Fault) (fault : Fault) → o ≡ Some fault → option_or o rest ≡ Some fault
first-damage a rest fault e = grind (arith)

pub fault-log : (image : Image) (fault : Fault) → log_damage image ≡ Some fault → opening_fault image ≡ Some fault
fault-log image fault is = first-damage (damage image) _ fault (log-first image fault is)

module _ (layout : Layout) (r : Record) (image : Image) (rules : IsRuledBy layout r image) where
  pub gates-none : first_below (layout_of image).places (is_wrong_gate image) ≡ None
  gates-none = subst (λ (n : ℕ). first_below n (is_wrong_gate image) ≡ None) (sym (ap (λ (l : Layout). l.places) rules.laid_out)) rules.gates

  pub fault-slots : (fault : Fault) → option_map (λ slot. Damaged (layout.places + slot)) (first_below layout.slots (is_bad_slot (ruling image) image)) ≡ Some fault → opening_fault image ≡ Some fault
  fault-slots fault is = grind (arith, known-good, gates-none) steps 800000

  pub no-damage : first_below layout.slots (is_bad_slot (ruling image) image) ≡ None → damage image ≡ None
  no-damage none = grind (arith, sound-faultless, known-good, gates-none) steps 800000

  near-is : is_near_limit image ≡ (nat_le (2 ^ 62) (r.dirty + 2 * layout.window) || nat_le (2 ^ 62) (r.gate + 1))
  near-is = λ i. nat_le (2 ^ 62) ((rules.by_record i).dirty + 2 * (rules.laid_out i).window) || nat_le (2 ^ 62) ((rules.by_record i).gate + 1)

  pub fault-limit : damage image ≡ None → (nat_le (2 ^ 62) (r.dirty + 2 * layout.window) || nat_le (2 ^ 62) (r.gate + 1)) ≡ true → opening_fault image ≡ Some TimestampsOut
  fault-limit none near = λ i. option_or (none i) (option_or (some_if ((near-is ∙ near) i) TimestampsOut) None)

  pub no-fault : damage image ≡ None → (nat_le (2 ^ 62) (r.dirty + 2 * layout.window) || nat_le (2 ^ 62) (r.gate + 1)) ≡ false → opening_fault image ≡ None
  no-fault none near = λ i. option_or (none i) (option_or (some_if ((near-is ∙ near) i) TimestampsOut) None)
