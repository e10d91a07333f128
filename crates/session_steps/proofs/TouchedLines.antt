-- Lines that are touched one after another.
use Rattle.std.proofs.Common.{◌≡◌, ℕ, ◌+◌, ◌<◌, Option, Some, List, [], ◌∷◌, ◌++◌, length, map, take, get_or, refl, sym, ◌∙◌, ap, subst, arith}
use Rattle.std.specs.Prelude.{◌/◌}
use Rattle.std.specs.List.{flat_map, range_with_len}
use Rattle.std.specs.Option.{option_map_or}
use Rattle.std.proofs.lemmas.List.{take_more}
use Rattle.std.proofs.lemmas.List.Folds.{list_any-append}
use Rattle.std.proofs.lemmas.List.FromFn.{map-range_with_len_more}
use Rattle.std.proofs.lemmas.Grind.{flat_map-append}
use Rattle.base.specs.Layout.{Layout, slot_start, version_lines}
use Rattle.dirty_table.specs.declared.sessions.SessionSet.{SessionSet}
use Rattle.dirty_table.specs.Touches.{Touches}
use Rattle.session_steps.specs.Drawing.{own_lines}

pub touches-then : (n : ℕ) (one two : List ℕ) (old mid new : List SessionSet) → Touches n one old mid → Touches n two mid new → Touches n (one ++ two) old new
touches-then n one two old mid new first second = grind (arith, list_any-append) steps 800000

-- the lines of one write more
pub touches-more : {X : Type 0} (lines : X → List ℕ) (n i : ℕ) (writes : List X) (write : X) (own ended : List ℕ) (before old mid new : List SessionSet) → i < length writes → write ≡ get_or writes i write → lines write ≡ own ++ ended
    → Touches n (flat_map lines (take i writes)) before old → Touches n own old mid → Touches n ended mid new → Touches n (flat_map lines (take (i + 1) writes)) before new
touches-more lines n i writes write own ended before old mid new lt is both so-far first second =
    subst (λ (ls : List ℕ). Touches n ls before new) same
    (touches-then n (flat_map lines (take i writes)) (own ++ ended) before old new so-far (touches-then n own ended old mid new first second))
  where
    last : flat_map lines (write ∷ []) ≡ lines write
    last = append-none (lines write)
      where
        append-none : (ls : List ℕ) → ls ++ [] ≡ ls
        append-none [] = refl
        append-none (l ∷ ls) = ap (λ (more : List ℕ). l ∷ more) (append-none ls)

    same : flat_map lines (take i writes) ++ (own ++ ended) ≡ flat_map lines (take (i + 1) writes)
    same = grind (arith, last, flat_map-append lines (take i writes) (write ∷ []), take_more writes i write lt)

-- one line more of a slot
pub touches-next : (n first part : ℕ) (old mid new : List SessionSet) → Touches n (map (λ k. first + k) (range_with_len 0 part)) old mid → Touches n ((first + part) ∷ []) mid new → Touches n (map (λ k. first + k) (range_with_len 0 (part + 1))) old new
touches-next n first part old mid new so-far next =
    subst (λ (ls : List ℕ). Touches n ls old new) (sym (map-range_with_len_more (λ k. first + k) 0 part part (omega arith)))
    (touches-then n (map (λ k. first + k) (range_with_len 0 part)) ((first + part) ∷ []) old mid new so-far next)

-- all lines of a slot
pub touches-own : (n : ℕ) (a : Layout) (which : Option ℕ) (slot first lines : ℕ) (old new : List SessionSet) → which ≡ Some slot → first ≡ slot_start a slot / 8 → lines ≡ version_lines a
    → Touches n (map (λ k. first + k) (range_with_len 0 lines)) old new → Touches n (option_map_or (own_lines a) which []) old new
touches-own n a which slot first lines old new is at all touched =
    subst (λ (ls : List ℕ). Touches n ls old new)
    (ap (λ (m : ℕ). map (λ k. first + k) (range_with_len 0 m)) all ∙ ap (λ (f : ℕ). map (λ k. f + k) (range_with_len 0 (version_lines a))) at ∙ sym (ap (λ (o : Option ℕ). option_map_or (own_lines a) o []) is)) touched
