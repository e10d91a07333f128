-- What a format does to a device, and what a crash leaves meanwhile.
use Rattle.std.specs.Prelude.{◌≡◌, ◌≢◌, ◌⊎◌, ℕ, ◌+◌, ◌-◌, ◌/◌, ◌<◌, Bool, true, false, List, ◌++◌}
use Rattle.base.specs.declared.fault.Fault.{Fault}
use Rattle.base.specs.declared.fault.Fault.TheVariants.{BadGeometry, Device as DeviceFault}
use Rattle.base.specs.Actors.{committer}
use Rattle.base.specs.Layout.{Layout, total_words}
use Rattle.base.specs.Images.{Image, is_formatted, superblock_word}
use Rattle.base.specs.Fresh.{first_record, fresh_image}
use Rattle.pmem.specs.Device.{Device, MayLeave}
use Rattle.pmem.specs.Persisting.{persist_operations, set_operations}
use Rattle.pmem.specs.Trace.{Operation}
use Rattle.pmem.specs.Words.{image_of, value_of}
use Rattle.log_area.specs.Writings.{geometry_operations, record_operations}

-- in each word after the superblock 0 is stored, and persists
abbrev pub clear_operations : ℕ → List Operation
clear_operations words = persist_operations committer 8 (λ k. 0) (words - 8) 1 (words / 8 - 1)

-- all words but the first become those of a fresh image
abbrev pub fresh_operations : Layout → List Operation
fresh_operations layout = clear_operations (total_words layout) ++ record_operations layout first_record ++ geometry_operations layout

-- word 0 becomes 0 before, and that of an image afterwards
abbrev pub format_operations : Layout → List Operation
format_operations layout = set_operations committer 0 0 ++ fresh_operations layout ++ set_operations committer 0 superblock_word

-- what a crash before might have left, an image that isn't formatted, or the new one
abbrev pub IsFormatting : Device → Layout → Image → Type 0
IsFormatting old layout image = MayLeave old image ⊎ ((is_formatted image ≡ false) ⊎ (image ≡ fresh_image layout))

-- the device has another length, and nothing was done; or an operation failed
abbrev pub IsFormatRefusal : Layout → Device → Device → Fault → Type 0
IsFormatRefusal layout old new fault =
    ((fault ≡ BadGeometry) × (old.words ≢ total_words layout) × (new ≡ old))
    ⊎ ((fault ≡ DeviceFault) × (old.words ≡ total_words layout) × (new.failures ≡ old.failures + 1))

-- whether nothing was kept in the device, which is an image now; otherwise the device is as it was
abbrev pub HasFormattedNew : Layout → Device → Device → Bool → Type 0
HasFormattedNew layout old new true = (0 < old.words) × (value_of old 0 ≡ 0) × (image_of new ≡ fresh_image layout)
HasFormattedNew layout old new false = ((old.words ≡ 0) ⊎ (value_of old 0 ≢ 0)) × (new ≡ old)
