-- The images of the first run stand for their histories.
use Rattle.std.proofs.Common.{◌≡◌, ℕ, zero, suc, Bool, true, false, ◌&&◌, List, [], ◌∷◌, refl, ap, subst, arith, cond}
use Rattle.std.specs.Prelude.{Some, None, unwrap_or, ◌||◌, nat_le, nat_lt}
use Rattle.std.proofs.lemmas.Bool.Decides.{nat_tests}
use Rattle.base.specs.declared.key.Key.{Key}
use Rattle.base.specs.Commits.{after}
use Rattle.base.specs.Layout.{is_known_version, most_slots, slot_lines, slot_words, used_words}
use Rattle.base.specs.Images.{TablesOf, ruling}
use Rattle.base.specs.Stands.{Stands}
use Rattle.machine.specs.Openings.{IsOpenedGaps}
use Rattle.base.proofs.Keys.{key_eq-true}
use Rattle.worked.specs.Images.{formatted_image, covered_image, commit_1, FirstRunImages, DamagedImages, ReadImages, LongCommits}

-- one slot of the four shows the row
forth : (key : Key) (row : List ℕ) → TablesOf covered_image key row → after (commit_1 ∷ []) key ≡ Some row
unfolding slot_lines slot_words used_words
forth key row (zero, lt, live, at, is) = subst (λ (x : Key). after (commit_1 ∷ []) x ≡ Some row) at (ap Some is)
forth key row (suc zero, lt, live, at, is) = cc
forth key row (suc (suc zero), lt, live, at, is) = cc
forth key row (suc (suc (suc zero)), lt, live, at, is) = cc
forth key row (suc (suc (suc (suc slot))), lt, live, at, is) = absurd (omega (arith, lt))

back_by : (b : Bool) (row : List ℕ) → unwrap_or (cond b (Some (Some (97 ∷ 98 ∷ []))) None) None ≡ Some row → (b ≡ true) × (97 ∷ 98 ∷ [] ≡ row)
back_by true row e = (refl, cc)
back_by false row e = cc

back : (key : Key) (row : List ℕ) → after (commit_1 ∷ []) key ≡ Some row → TablesOf covered_image key row
unfolding slot_lines slot_words used_words
back key row e = grind (arith, back_by, key_eq-true)

pub covered-stands : Stands covered_image (commit_1 ∷ []) (commit_1 ∷ []) 10
unfolding is_known_version most_slots slot_lines slot_words used_words
covered-stands = record { sound = refl; tables = λ key row. (forth key row, back key row); covered = refl; left_out = refl; reserved = omega arith }

below_one : (t : ℕ) (a b : Bool) → nat_lt 0 t ≡ a → nat_lt t 1 ≡ b → false ≡ a && b
below_one t true true e f = grind (arith, nat_tests)
below_one t true false e f = refl
below_one t false b e f = refl

-- no gap is opened if none is due
pub no_gaps : IsOpenedGaps (ruling formatted_image) []
no_gaps = record { ordered = refl; apart = refl; same = λ t. below_one t (nat_lt 0 t) (nat_lt t 1) refl refl }

two_to_nine : (t : ℕ) (a b c d : Bool) → nat_le 2 t ≡ a → nat_le t 9 ≡ b → nat_lt 1 t ≡ c → nat_lt t 10 ≡ d → ((a && b) || false) ≡ (c && d)
two_to_nine t true true true true p q r s = refl
two_to_nine t true true true false p q r s = grind (arith, nat_tests)
two_to_nine t true true false d p q r s = grind (arith, nat_tests)
two_to_nine t true false true true p q r s = grind (arith, nat_tests)
two_to_nine t true false true false p q r s = refl
two_to_nine t true false false d p q r s = refl
two_to_nine t false b true true p q r s = grind (arith, nat_tests)
two_to_nine t false b true false p q r s = refl
two_to_nine t false b false d p q r s = refl

-- after a stop
pub one_gap : IsOpenedGaps (ruling covered_image) (record { first = 2; last = 9 } ∷ [])
one_gap = record { ordered = refl; apart = refl; same = λ t. two_to_nine t (nat_le 2 t) (nat_le t 9) (nat_lt 1 t) (nat_lt t 10) refl refl refl refl }

pub first_run : FirstRunImages
unfolding is_known_version most_slots slot_lines slot_words used_words
first_run = record {
  sound = refl;
  ruled = refl;
  record_words = refl;
  live = (refl, refl);
  row = (refl, refl);
  stands = covered-stands;
  no_gap_due = no_gaps;
  gap_due = one_gap;
}

pub damaged : DamagedImages
unfolding is_known_version most_slots slot_lines slot_words used_words
damaged = record { format = refl; row = refl; opening = refl; cut_short = refl }

pub read : ReadImages
unfolding is_known_version most_slots slot_lines slot_words used_words
read = record { ended = refl; half_written = (refl, refl, refl); largest = (refl, refl, refl) }

pub long_commits : LongCommits
long_commits = record { words = refl; versions = refl; committed = refl }
