-- The index of the versions that opening found live.
use Rattle.std.proofs.Common.{◌≡◌, ◌⊎◌, inl, inr, ℕ, zero, suc, ◌+◌, ◌<◌, Bool, true, false, cond, List, [], ◌∷◌, map, refl, sym, ◌∙◌, ap, subst, arith, add-one}
use Rattle.std.specs.Prelude.{Option, Some, is_some, slice_get, unwrap_or}
use Rattle.std.specs.List.{Contains}
use Rattle.std.proofs.lemmas.Bool.{true≢false}
use Rattle.std.proofs.lemmas.Option.{slice_get-get_or}
use Rattle.std.proofs.lemmas.List.Elements.{Contains-append_left, Contains-append_right, Contains-append_cases}
use Rattle.base.specs.declared.key.Key.{Key}
use Rattle.base.specs.Keys.{key_eq, lookup_key}
use Rattle.base.specs.Images.{Image, key_of}
use Rattle.base.proofs.Keys.{key_eq-true}
use Rattle.index.specs.declared.entry.Entry.{Entry}
use Rattle.index.specs.Entries.{blank, entry_at, ArePlaced}
use Rattle.recovery.specs.declared.rows.LiveSlot.{LiveSlot}
use Rattle.recovery.specs.Slots.{is_free, free_below}
use Rattle.recovery.specs.Live.{live_at, live_below}
use Rattle.recovery.proofs.reads.LiveRows.{live-none, live-live, live-free, free-is, free-size}
use Rattle.recovery.proofs.openings.Devices.{is}
use Rattle.recovery.specs.Held.{HavePlaces}
use Rattle.session_steps.specs.Opening.{HasFound}
use Rattle.room.specs.Opening.{entry_of}

-- ---- elements

none-in : (s : LiveSlot) → Contains [] s → ⊥
none-in s c = omega (arith, c.1)

one-in : (x s : LiveSlot) → Contains (x ∷ []) s → x ≡ s
one-in x s a = grind (arith, is)

in-one : (x : LiveSlot) → Contains (x ∷ []) x
in-one x = (0, omega arith, refl)

-- one more slot is in the list if it is live
live-step : (image : Image) (n : ℕ) (s : LiveSlot) → (Contains (live_below image n) s → (s.slot < n) × (is_free image s.slot ≡ false) × (key_of image s.slot ≡ s.key)) → Contains (live_below image (n + 1)) s
    → (s.slot < suc n) × (is_free image s.slot ≡ false) × (key_of image s.slot ≡ s.key)
live-step image n s before here = by (is_free image n) refl
  where
    earlier : Contains (live_below image n) s → (s.slot < suc n) × (is_free image s.slot ≡ false) × (key_of image s.slot ≡ s.key)
    earlier c = let was = before c in (omega (arith, was.0), was.1, was.2)

    by : (b : Bool) → is_free image n ≡ b → (s.slot < suc n) × (is_free image s.slot ≡ false) × (key_of image s.slot ≡ s.key)
    by true free = earlier (subst (λ (l : List LiveSlot). Contains l s) (live-free image n free) here)
    by false free = elim (Contains-append_cases (live_below image n) (live_at image n ∷ []) s (subst (λ (l : List LiveSlot). Contains l s) (live-live image n free) here)) [
      | inl old ↦ earlier old
      | inr new ↦ subst (λ (x : LiveSlot). (x.slot < suc n) × (is_free image x.slot ≡ false) × (key_of image x.slot ≡ x.key)) (one-in (live_at image n) s new) (omega arith, free, refl)
    ]

-- what is in the list of the live slots
pub live-in : (image : Image) (n : ℕ) (s : LiveSlot) → Contains (live_below image n) s → (s.slot < n) × (is_free image s.slot ≡ false) × (key_of image s.slot ≡ s.key)
live-in image zero s c = absurd (none-in s (subst (λ (l : List LiveSlot). Contains l s) (live-none image) c))
live-in image (suc n) s c = live-step image n s (live-in image n s) (subst (λ (k : ℕ). Contains (live_below image k) s) (sym (add-one n)) c)

in-step : (image : Image) (n slot : ℕ) → (slot < n → Contains (live_below image n) (live_at image slot)) → slot < suc n → is_free image slot ≡ false → Contains (live_below image (n + 1)) (live_at image slot)
in-step image n slot before lt live = by (is_free image n) refl (last slot n lt)
  where
    last : (slot n : ℕ) → slot < suc n → (slot ≡ n) ⊎ (slot < n)
    last slot n lt = grind arith

    by : (b : Bool) → is_free image n ≡ b → (slot ≡ n) ⊎ (slot < n) → Contains (live_below image (n + 1)) (live_at image slot)
    by true free (inl same) = absurd (true≢false (sym free ∙ sym (ap (is_free image) same) ∙ live))
    by true free (inr less) = subst (λ (l : List LiveSlot). Contains l (live_at image slot)) (sym (live-free image n free)) (before less)
    by false free (inl same) = subst (λ (l : List LiveSlot). Contains l (live_at image slot)) (sym (live-live image n free))
        (Contains-append_right (live_below image n) (live_at image n ∷ []) (live_at image slot) (subst (λ (k : ℕ). Contains (live_at image k ∷ []) (live_at image slot)) same (in-one (live_at image slot))))
    by false free (inr less) = subst (λ (l : List LiveSlot). Contains l (live_at image slot)) (sym (live-live image n free))
        (Contains-append_left (live_below image n) (live_at image n ∷ []) (live_at image slot) (before less))

pub in-live : (image : Image) (n slot : ℕ) → slot < n → is_free image slot ≡ false → Contains (live_below image n) (live_at image slot)
in-live image zero slot lt live = absurd (omega (arith, lt))
in-live image (suc n) slot lt live = subst (λ (k : ℕ). Contains (live_below image k) (live_at image slot)) (add-one n) (in-step image n slot (λ less. in-live image n slot less live) lt live)

-- ---- one after the other

-- nothing but the newest is known
abbrev IsNewestAlone : Entry → Type 0
IsNewestAlone e = e ≡ record blank { newest = e.newest }

-- these are indexed: each key of one has one of them, and nothing else is known about any key
pub record HasListed (live : List LiveSlot) (index : List (Key × Entry)) : Type 0 where
  pub nothing_else : (key : Key) → entry_at index key ≡ record blank { newest = (entry_at index key).newest }
  pub newest : (key : Key) (slot : ℕ) → (entry_at index key).newest ≡ Some slot → (s : LiveSlot) × Contains live s × (s.slot ≡ slot) × (s.key ≡ key)
  pub each : (s : LiveSlot) → Contains live s → is_some (entry_at index s.key).newest ≡ true

one-more : (t : LiveSlot) (live : List LiveSlot) → HasListed live (map entry_of live) → HasListed (t ∷ live) (map entry_of (t ∷ live))
one-more t live rest = record {
  nothing_else = λ key. by key (key_eq t.key key);
  newest = λ key slot at. from key slot (key_eq t.key key) refl at;
  each = λ s c. has s c (key_eq t.key s.key) refl;
}
  where
    by : (key : Key) (b : Bool) → IsNewestAlone (unwrap_or (cond b (Some (entry_of t).1) (lookup_key (map entry_of live) key)) blank)
    by key true = refl
    by key false = rest.nothing_else key

    from : (key : Key) (slot : ℕ) (b : Bool) → key_eq t.key key ≡ b → (unwrap_or (cond b (Some (entry_of t).1) (lookup_key (map entry_of live) key)) blank).newest ≡ Some slot → (s : LiveSlot) × Contains (t ∷ live) s × (s.slot ≡ slot) × (s.key ≡ key)
    from key slot true is at = (t, Contains-append_left (t ∷ []) live t (in-one t), cc at, key_eq-true t.key key is)
    from key slot false is at = let s = rest.newest key slot at in (s.0, Contains-append_right (t ∷ []) live s.0 s.1, s.2, s.3)

    has : (s : LiveSlot) → Contains (t ∷ live) s → (b : Bool) → key_eq t.key s.key ≡ b → is_some (unwrap_or (cond b (Some (entry_of t).1) (lookup_key (map entry_of live) s.key)) blank).newest ≡ true
    has s c true is = refl
    has s c false is = grind (arith)

listed : (live : List LiveSlot) → HasListed live (map entry_of live)
listed [] = grind (arith, none-in) steps 800000
listed (t ∷ live) = grind (arith, one-more, listed live) steps 800000

-- ---- their places

get-entry : (live : List LiveSlot) (k : ℕ) (s : LiveSlot) → slice_get live k ≡ Some s → slice_get (map entry_of live) k ≡ Some (entry_of s)
get-entry [] k s at = absurd (cc at)
get-entry (t ∷ live) zero s at = let same : t ≡ s = cc at in λ i. Some (entry_of (same i))
get-entry (t ∷ live) (suc k) s at = get-entry live k s at

get-slot : (live : List LiveSlot) (k : ℕ) (key : Key) (entry : Entry) → slice_get (map entry_of live) k ≡ Some (key, entry) → (s : LiveSlot) × (slice_get live k ≡ Some s) × (s.key ≡ key)
get-slot [] k key entry at = absurd (cc at)
get-slot (t ∷ live) zero key entry at = (t, refl, ap (λ (o : Option (Key × Entry)). (unwrap_or o (entry_of t)).0) at)
get-slot (t ∷ live) (suc k) key entry at = get-slot live k key entry at

pub are-placed : (live : List LiveSlot) (places : List (Key × ℕ)) → HavePlaces live places → ArePlaced places (map entry_of live)
are-placed live places has = grind (arith, get-entry, get-slot) steps 800000

-- ---- all of them

has-found : (image : Image) (n : ℕ) (live : List LiveSlot) (index : List (Key × Entry)) → live ≡ live_below image n → HasListed live index → HasFound image (free_below image n) n index
has-found image n live index are listed = record {
  nothing_else = listed.nothing_else;
  newest = λ key slot at.
      let x = listed.newest key slot at in
      let known = live-in image n x.0 (subst (λ (l : List LiveSlot). Contains l x.0) are x.1) in
      (subst (λ (k : ℕ). k < n) x.2 known.0, told slot (subst (λ (k : ℕ). k < n) x.2 known.0) ∙ ap (λ (b : Bool). Some b) (sym (ap (is_free image) x.2) ∙ known.1), sym (ap (key_of image) x.2) ∙ known.2 ∙ x.3);
  each = λ slot lt taken fits.
      let both : Some (is_free image slot) ≡ Some false = sym (told slot lt) ∙ taken in
      listed.each (live_at image slot) (subst (λ (l : List LiveSlot). Contains l (live_at image slot)) (sym are) (in-live image n slot lt (cc both)));
}
  where
    told : (slot : ℕ) → slot < n → slice_get (free_below image n) slot ≡ Some (is_free image slot)
    told slot lt = slice_get-get_or (free_below image n) slot false (omega (arith, lt, free-size image n)) ∙ ap (λ (b : Bool). Some b) (free-is image n slot false (free_below image n) refl lt)

pub listed-found : (image : Image) (n : ℕ) (live : List LiveSlot) (index : List (Key × Entry)) → live ≡ live_below image n → index ≡ map entry_of live → HasFound image (free_below image n) n index
listed-found image n live index are is = has-found image n live index are (subst (HasListed live) (sym is) (listed live))
