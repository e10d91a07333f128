-- Which drawn commits a batch takes, and the record that covers it.
use Rattle.std.specs.Prelude.{ℕ, ◌+◌, ◌-◌, ◌*◌, max, Bool, ◌&&◌, ◌||◌, not, nat_eq, nat_lt, nat_le, if◌then◌else◌, List, [], length, map, fold, filter, count_by}
use Rattle.base.specs.declared.gap.Gap.{Gap}
use Rattle.base.specs.Batches.{Batch}
use Rattle.base.specs.Commits.{Commit}
use Rattle.base.specs.Layout.{Layout, most_longs}
use Rattle.base.specs.Lists.{is_nil}
use Rattle.base.specs.Records.{Record}

-- a commit that is drawn and not covered, and how many of its keys are stamped
pub record Drawn : Type 0 where
  pub commit : Commit
  pub stamped : ℕ

-- all its keys are stamped
abbrev pub is_stamped : Drawn → Bool
is_stamped d = nat_eq d.stamped (length d.commit.writes)

-- how many drawn commits below a timestamp aren't stamped
abbrev pub unstamped_below : List Drawn → ℕ → ℕ
unstamped_below drawn t = count_by (λ d. nat_lt d.commit.timestamp t && not (is_stamped d)) drawn

-- a commit may be covered when it is stamped, and no more commits below it than a record may name aren't
abbrev pub may_be_covered : ℕ → List Drawn → Drawn → Bool
may_be_covered most drawn d = is_stamped d && nat_le (unstamped_below drawn d.commit.timestamp) most

-- The timestamp up to which stamped commits are covered: the greatest of those that may be, or the one persisted now
abbrev pub reach : ℕ → ℕ → List Drawn → ℕ
reach most persisted drawn = fold max persisted (map (λ d. d.commit.timestamp) (filter (may_be_covered most drawn) drawn))

-- it is stamped, and not above there
abbrev pub is_chosen : ℕ → Drawn → Bool
is_chosen reach d = is_stamped d && nat_le d.commit.timestamp reach

-- the batch that is chosen: the stamped commits up to there
abbrev pub chosen : ℕ → List Drawn → List Commit
chosen reach drawn = map (λ d. d.commit) (filter (is_chosen reach) drawn)

-- it is not stamped, and not above there
abbrev pub is_passed : ℕ → Drawn → Bool
is_passed reach d = not (is_stamped d) && nat_le d.commit.timestamp reach

-- the long commits that its record names: drawn and not stamped, up to there
abbrev pub passed_over : ℕ → List Drawn → List ℕ
passed_over reach drawn = map (λ d. d.commit.timestamp) (filter (is_passed reach) drawn)

-- whether a record is due although there is nothing to cover: fewer timestamps than half a window are reserved, or
-- there are swept gaps, which the next record drops
abbrev pub has_other_reason_to_write : Layout → Record → ℕ → Bool → Bool
has_other_reason_to_write layout ruling next swept =
    nat_lt (2 * (ruling.dirty - next)) layout.window || swept && not (is_nil ruling.gaps)

-- nothing to cover, and no other reason for a record
abbrev pub is_idle : Layout → Record → ℕ → Bool → List Drawn → Bool
is_idle layout ruling next swept drawn =
    is_nil (chosen (reach (most_longs layout.version) ruling.persisted drawn) drawn) && not (has_other_reason_to_write layout ruling next swept)

-- the gaps that the next record names: none once they are swept
abbrev pub standing_gaps : Bool → Record → List Gap
standing_gaps swept ruling = if swept then [] else ruling.gaps

-- the record that covers the batch that is chosen: it reserves a window from the next timestamp on
abbrev pub target_of : Layout → Record → ℕ → Bool → List Drawn → Record
target_of layout ruling next swept drawn = record {
  gate = ruling.gate + 1;
  persisted = reach (most_longs layout.version) ruling.persisted drawn;
  dirty = next + layout.window;
  gaps = standing_gaps swept ruling;
  longs = passed_over (reach (most_longs layout.version) ruling.persisted drawn) drawn;
}

-- the record that closing writes last, under this number: it persists all that is drawn, and reserves nothing
abbrev pub closing_record : ℕ → Record → ℕ → Bool → Record
closing_record gate ruling next swept = record { gate = gate; persisted = next - 1; dirty = next; gaps = standing_gaps swept ruling; longs = [] }

-- what readers learn of a batch: its commits, under the record that covers it
abbrev pub batch_of : Record → Record → List Commit → Batch
batch_of ruling target commits = record { from = ruling.gate; stamp = target.gate; persisted = target.persisted; longs = target.longs; commits = commits }
