-- Damage that is reported when a store is opened.
use Rattle.std.proofs.Common.{◌≡◌, inl, inr, ℕ, Bool, true, false}
use Rattle.std.specs.Prelude.{Some, None}
use Rattle.std.specs.Option.{option_or}
use Rattle.base.specs.declared.fault.Fault.TheVariants.{Damaged, NotFormatted, Version, BadGeometry}
use Rattle.base.specs.Layout.{Layout}
use Rattle.base.specs.Search.{some_if}
use Rattle.store.specs.Files.{IsUnopened}
use Rattle.store.specs.Opening.{IsDamagedAt}

-- no superblock is damaged at a number
not-of-layout : (one two three : Bool) (version number : ℕ)
    → option_or (some_if one NotFormatted) (option_or (some_if two (Version version)) (option_or (some_if three BadGeometry) None)) ≡ Some (Damaged number) → ⊥
not-of-layout true two three version number e = absurd (cc e)
not-of-layout false true three version number e = absurd (cc e)
not-of-layout false false true version number e = absurd (cc e)
not-of-layout false false false version number e = absurd (cc e)

pub damaged-so : (layout : Layout) (number : ℕ) → IsUnopened layout (Damaged number) → IsDamagedAt layout number
damaged-so layout number (inl (device, now, rest, inl (is, words, same))) = absurd (cc is)
damaged-so layout number (inl (device, now, rest, inr (is, words, failed))) = absurd (cc is)
damaged-so layout number (inr (inl (device, rest, is))) = absurd (not-of-layout _ _ _ _ number is)
damaged-so layout number (inr (inr (device, now, found, inl (inl is, same)))) = absurd (cc is)
damaged-so layout number (inr (inr (device, now, found, inl (inr is, same)))) = absurd (cc is)
damaged-so layout number (inr (inr (device, now, found, inr (inl (inl is, same))))) = (device, found, is)
damaged-so layout number (inr (inr (device, now, found, inr (inl (inr is, same))))) = absurd (cc is)
damaged-so layout number (inr (inr (device, now, found, inr (inr (none, is, cut))))) = absurd (cc is)
