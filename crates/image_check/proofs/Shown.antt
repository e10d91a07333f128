-- The rows of the live slots of a sound image are those of its tables.
use Rattle.std.proofs.Common.{◌≡◌, ◌⊎◌, inl, inr, ℕ, zero, suc, ◌+◌, ◌<◌, Bool, true, false, cond, not, ◌&&◌, List, map, refl, sym, ◌∙◌, ap, subst, arith, add-one}
use Rattle.std.specs.Prelude.{Option, Some, None, ◌↔◌, is_some}
use Rattle.std.proofs.lemmas.Map.{update_all_push}
use Rattle.std.proofs.lemmas.Bool.{and_from, not-false}
use Rattle.base.specs.declared.key.Key.{Key}
use Rattle.base.specs.Keys.{key_eq, lookup_key, is_rising}
use Rattle.base.specs.Search.{first_below}
use Rattle.base.specs.Layout.{Layout}
use Rattle.base.specs.Records.{Record, is_committed}
use Rattle.base.specs.Images.{Image, IsSound, layout_of, ruling, key_of, row_of, is_live, is_shown}
use Rattle.base.proofs.Histories.{no_second}
use Rattle.base.proofs.Keys.{key_eq-true, key_eq-same}
use Rattle.base.proofs.Search.{cases_below, first_below-none}
use Rattle.recovery.specs.Slots.{is_free}
use Rattle.recovery.specs.Read.{IsRead, rows_below}
use Rattle.recovery.proofs.reads.LiveRows.{rows-none, rows-live, rows-free}
use Rattle.image_check.specs.Checked.{Reports, last_at}

-- a slot below the number has the row at the key
abbrev IsAt : Image → ℕ → Key → List ℕ → Type 0
IsAt image n key row = (slot : ℕ) × (slot < n) × (is_shown (ruling image) image slot ≡ true) × (key_of image slot ≡ key) × (row_of image slot ≡ row)

further : (image : Image) (n : ℕ) (key : Key) (row : List ℕ) → IsAt image n key row → IsAt image (n + 1) key row
further image n key row at = (at.0, omega (arith, at.1), at.2, at.3, at.4)

-- another slot is live with the slot's key
abbrev has_key : Image → ℕ → ℕ → Bool
has_key image slot other = is_live (is_committed (ruling image)) image other && key_eq (key_of image other) (key_of image slot)

module _ (image : Image) (sound : IsSound image) where
  -- two live slots have two keys
  apart : (lower slot : ℕ) → lower < slot → slot < (layout_of image).slots → is_shown (ruling image) image lower ≡ true → is_shown (ruling image) image slot ≡ true → key_of image lower ≡ key_of image slot → false ≡ true
  apart lower slot less within shown-lower shown same =
      by (first_below slot (has_key image slot)) refl (no_second image sound slot within shown)
    where
      by : (o : Option ℕ) → first_below slot (has_key image slot) ≡ o → is_some o ≡ false → false ≡ true
      by (Some other) is none = sym none
      by None is none =
          sym (first_below-none slot (has_key image slot) is lower less)
          ∙ and_from _ _ shown-lower (ap (λ (k : Key). key_eq k (key_of image slot)) same ∙ key_eq-same (key_of image slot))

  -- what the list has at a key
  module _ (slot : ℕ) (within : slot < (layout_of image).slots) (so_far : (key : Key) (row : List ℕ) → (last_at (rows_below image slot) key ≡ Some row) ↔ IsAt image slot key row) where
    free-slot : is_free image slot ≡ true → (key : Key) (row : List ℕ) → (last_at (rows_below image (slot + 1)) key ≡ Some row) ↔ IsAt image (slot + 1) key row
    unfolding is_free
    free-slot free key row = (
      λ e. further image slot key row ((so_far key row).0 (ap (λ (rows : List (Key × List ℕ)). last_at rows key) (sym (rows-free image slot free)) ∙ e)),
      λ at. ap (λ (rows : List (Key × List ℕ)). last_at rows key) (rows-free image slot free) ∙ (so_far key row).1 (earlier at (cases_below at.0 slot (omega (arith, at.1)))),
    )
      where
        earlier : (at : IsAt image (slot + 1) key row) → (at.0 < slot) ⊎ (at.0 ≡ slot) → IsAt image slot key row
        earlier at (inl less) = (at.0, less, at.2, at.3, at.4)
        earlier at (inr same) = absurd (cc (ap not (sym (ap (is_shown (ruling image) image) same) ∙ at.2), free))

    live-slot : is_free image slot ≡ false → (key : Key) (row : List ℕ) → (last_at (rows_below image (slot + 1)) key ≡ Some row) ↔ IsAt image (slot + 1) key row
    unfolding is_free
    live-slot live key row = (
      λ e. forth (key_eq (key_of image slot) key) refl (sym (now key) ∙ e),
      λ at. now key ∙ back at (cases_below at.0 slot (omega (arith, at.1))),
    )
      where
        shown : is_shown (ruling image) image slot ≡ true
        shown = not-false (is_shown (ruling image) image slot) live

        now : (q : Key) → last_at (rows_below image (slot + 1)) q ≡ cond (key_eq (key_of image slot) q) (Some (row_of image slot)) (last_at (rows_below image slot) q)
        now q =
            ap (λ (rows : List (Key × List ℕ)). last_at rows q) (rows-live image slot live)
            ∙ sym (update_all_push key_eq (λ k. None) (last_at (rows_below image slot)) (rows_below image slot) (key_of image slot, row_of image slot) q refl)

        forth : (b : Bool) → key_eq (key_of image slot) key ≡ b → cond b (Some (row_of image slot)) (last_at (rows_below image slot) key) ≡ Some row → IsAt image (slot + 1) key row
        forth true is e = (slot, omega arith, shown, key_eq-true (key_of image slot) key is, cc e)
        forth false is e = further image slot key row ((so_far key row).0 e)

        back : (at : IsAt image (slot + 1) key row) → (at.0 < slot) ⊎ (at.0 ≡ slot) → cond (key_eq (key_of image slot) key) (Some (row_of image slot)) (last_at (rows_below image slot) key) ≡ Some row
        back at (inl less) = by (key_eq (key_of image slot) key) refl
          where
            by : (b : Bool) → key_eq (key_of image slot) key ≡ b → cond b (Some (row_of image slot)) (last_at (rows_below image slot) key) ≡ Some row
            by true is = absurd (cc (apart at.0 slot less within at.2 shown (at.3 ∙ sym (key_eq-true (key_of image slot) key is))))
            by false is = (so_far key row).1 (at.0, less, at.2, at.3, at.4)
        back at (inr same) =
            let here : key_eq (key_of image slot) key ≡ true = ap (λ (n : ℕ). key_eq (key_of image n) key) (sym same) ∙ ap (λ (k : Key). key_eq k key) at.3 ∙ key_eq-same key in
            ap (λ (b : Bool). cond b (Some (row_of image slot)) (last_at (rows_below image slot) key)) here ∙ ap (λ (n : ℕ). Some (row_of image n)) (sym same) ∙ ap Some at.4

  shown-below : (n : ℕ) → n < (layout_of image).slots + 1 → (key : Key) (row : List ℕ) → (last_at (rows_below image n) key ≡ Some row) ↔ IsAt image n key row
  shown-below zero h = λ key row. (
    λ e. absurd (cc (sym (ap (λ (rows : List (Key × List ℕ)). last_at rows key) (rows-none image)) ∙ e)),
    λ at. absurd (omega (arith, at.1)),
  )
  shown-below (suc n) h =
      subst (λ (m : ℕ). (key : Key) (row : List ℕ) → (last_at (rows_below image m) key ≡ Some row) ↔ IsAt image m key row) (add-one n)
      (by (is_free image n) refl (shown-below n (omega (arith, h))))
    where
      by : (b : Bool) → is_free image n ≡ b → ((key : Key) (row : List ℕ) → (last_at (rows_below image n) key ≡ Some row) ↔ IsAt image n key row)
          → (key : Key) (row : List ℕ) → (last_at (rows_below image (n + 1)) key ≡ Some row) ↔ IsAt image (n + 1) key row
      by true is so_far = free-slot n (omega (arith, h)) so_far is
      by false is so_far = live-slot n (omega (arith, h)) so_far is

-- what a report says, from what was read
pub reports : (image : Image) (layout : Layout) (r : Record) (read rows : List (Key × List ℕ)) → IsRead image layout r read
    → is_rising (map (λ row. row.0) rows) ≡ true → ((key : Key) → lookup_key rows key ≡ last_at read key) → Reports image r.gate r.persisted r.dirty r.gaps r.longs rows
reports image layout r read rows is rising same = record {
  sound = is.sound;
  gate_is = ap (λ (x : Record). x.gate) is.rules;
  persisted_is = ap (λ (x : Record). x.persisted) is.rules;
  dirty_is = ap (λ (x : Record). x.dirty) is.rules;
  gaps_are = ap (λ (x : Record). x.gaps) is.rules;
  longs_are = ap (λ (x : Record). x.longs) is.rules;
  lists = record {
    tables = lookup_key rows;
    lists = record { rising = rising; same = λ key. refl };
    of_image = λ key row.
        let below = shown-below image is.sound (layout_of image).slots (omega arith) key row in
        let at = same key ∙ ap (λ (xs : List (Key × List ℕ)). last_at xs key) is.rows_are in
        (λ t. at ∙ below.1 t, λ e. below.0 (sym at ∙ e));
  };
}
