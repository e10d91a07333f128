-- What a slot says of the way of a walk.
use Rattle.std.proofs.Common.{◌≡◌, ℕ, ◌+◌, ◌<◌, Bool, true, false, cond, not, ◌&&◌, List, refl, sym, ◌∙◌, ap, subst, arith, Option, Some, None}
use Rattle.std.specs.Prelude.{nat_lt}
use Rattle.std.proofs.lemmas.Bool.{lt-ltb, not-true, and_parts, true≢false}
use Rattle.std.proofs.lemmas.Option.{same_Some}
use Rattle.base.specs.declared.key.Key.{Key}
use Rattle.base.specs.Keys.{key_eq}
use Rattle.base.specs.Layout.{Layout}
use Rattle.base.specs.Images.{Image, layout_of, begin_of, end_of, key_of, row_of, link_of, is_live, is_misfit}
use Rattle.base.proofs.Keys.{key_eq-true, key_eq-same}
use Rattle.snapshot.specs.Snapshots.{Seen, covers}
use Rattle.version_slot.specs.declared.words.Slot.{Slot}
use Rattle.version_slot.specs.Words.{link_number}
use Rattle.index.specs.Reading.{CountsAs, HasSeen}
use Rattle.index.specs.declared.walking.Next.{Next}
use Rattle.index.specs.declared.walking.Next.TheVariants.{Earlier, Over}
use Rattle.snapshot.specs.Walks.{IsOfKey, IsSeenAt, is_counted, Leads, arrives, passes}
use Rattle.index.specs.Walking.{next_at, Looks}

previous-is : (o : Option ℕ) (n : ℕ) → link_number o ≡ n + 1 → o ≡ Some n
previous-is a n e = grind (arith)

-- what the image has in the slot
pub record HoldsAs (image : Image) (slot : ℕ) (held : Slot) : Type 0 where
  pub within : slot < (layout_of image).slots
  pub fits : is_misfit image slot ≡ false
  pub begin : begin_of image slot ≡ held.begin
  pub end : end_of image slot ≡ held.end
  pub key : key_of image slot ≡ held.version.key
  pub row : row_of image slot ≡ held.version.row
  pub link : link_of image slot ≡ link_number held.version.previous

module _ (s : Seen) (image : Image) (key : Key) where
  -- the slot that a way begins at
  pub starts : (target bound slot : ℕ) → IsSeenAt s image key target → Leads s image key target bound slot → IsOfKey image slot key × (begin_of image slot < bound)
  starts target bound slot seen (arrives b z is below) = (subst (λ (n : ℕ). IsOfKey image n key) (sym is) seen.version, below)
  starts target bound slot seen (passes b z next version below unseen counted link rest) = (version, below)

  -- one that the snapshot sees is the end of the way
  pub ends : (target bound slot : ℕ) → IsSeenAt s image key target → Leads s image key target bound slot → covers s (begin_of image slot) ≡ true → covers s (end_of image slot) ≡ false
  ends target bound slot seen (arrives b z is below) begun = not-true _ (and_parts _ _ (ap (is_live (covers s) image) is ∙ seen.live)).1
  ends target bound slot seen (passes b z next version below unseen counted link rest) begun = absurd (true≢false (sym begun ∙ unseen))

  -- and any other leads on
  pub goes : (target bound slot : ℕ) → IsSeenAt s image key target → Leads s image key target bound slot → covers s (begin_of image slot) ≡ false
      → (is_counted s (begin_of image slot) ≡ true) × ((next : ℕ) × (link_of image slot ≡ next + 1) × Leads s image key target (begin_of image slot) next)
  goes target bound slot seen (arrives b z is below) unbegun = absurd (true≢false (sym (and_parts _ _ (ap (is_live (covers s) image) is ∙ seen.live)).0 ∙ unbegun))
  goes target bound slot seen (passes b z next version below unseen counted link rest) unbegun = (counted, (next, link, rest))

  module _ (bound slot : ℕ) (held : Slot) (h : HoldsAs image slot held) where
    passes-test : (target : ℕ) → IsSeenAt s image key target → Leads s image key target bound slot → (key_eq held.version.key key && nat_lt held.begin bound) ≡ true
    passes-test target seen leads =
        let first = starts target bound slot seen leads in
        let same : held.version.key ≡ key = sym h.key ∙ first.0.at in
        let below : nat_lt held.begin bound ≡ true = lt-ltb held.begin bound (omega (arith, first.1, h.begin)) in
        λ i. (ap (λ (k : Key). key_eq held.version.key k) (sym same) ∙ key_eq-same held.version.key) i && below i

    covers-begin : covers s (begin_of image slot) ≡ covers s held.begin
    covers-begin = ap (covers s) h.begin

    covers-end : covers s (end_of image slot) ≡ covers s held.end
    covers-end = ap (covers s) h.end

    on-key : (b : Bool) → (key_eq held.version.key key && nat_lt held.begin bound) ≡ b
        → Looks s image key bound slot held.version.row (cond b (cond (covers s held.begin) (cond (covers s held.end) Over Next.Seen) (cond (is_counted s held.begin) (Earlier held.begin held.version.previous) Over)) Over)
    on-key false fails = λ target seen leads. true≢false (sym (passes-test target seen leads) ∙ fails)
    on-key true passed = on-begin (covers s held.begin) refl
      where
        on-end : covers s held.begin ≡ true → (b : Bool) → covers s held.end ≡ b → Looks s image key bound slot held.version.row (cond b Over Next.Seen)
        on-end begun true over = λ target seen leads. true≢false (sym over ∙ (sym covers-end ∙ ends target bound slot seen leads (covers-begin ∙ begun)))
        on-end begun false lasts = record {
          within = h.within;
          live = λ i. (covers-begin ∙ begun) i && not ((covers-end ∙ lasts) i);
          fits = h.fits;
          at = h.key ∙ key_eq-true held.version.key key (and_parts _ _ passed).0;
          is = h.row;
        }

        on-counted : covers s held.begin ≡ false → (b : Bool) → is_counted s held.begin ≡ b → Looks s image key bound slot held.version.row (cond b (Earlier held.begin held.version.previous) Over)
        on-counted unbegun true counted = λ target seen leads.
            let rest = (goes target bound slot seen leads (covers-begin ∙ unbegun)).1 in
            (rest.0, previous-is held.version.previous rest.0 (sym h.link ∙ rest.1), subst (λ (n : ℕ). Leads s image key target n rest.0) h.begin rest.2)
        on-counted unbegun false uncounted = λ target seen leads.
            true≢false (sym (goes target bound slot seen leads (covers-begin ∙ unbegun)).0 ∙ (ap (is_counted s) h.begin ∙ uncounted))

        on-begin : (b : Bool) → covers s held.begin ≡ b
            → Looks s image key bound slot held.version.row (cond b (cond (covers s held.end) Over Next.Seen) (cond (is_counted s held.begin) (Earlier held.begin held.version.previous) Over))
        on-begin true begun = on-end begun (covers s held.end) refl
        on-begin false unbegun = on-counted unbegun (is_counted s held.begin) refl

    pub looks-next : Looks s image key bound slot held.version.row (next_at s key bound held)
    looks-next = on-key (key_eq held.version.key key && nat_lt held.begin bound) refl

-- ---- walks

-- the walk is at a slot from which links lead to the target
abbrev pub Comes : Seen → Image → Key → ℕ → ℕ → Option ℕ → Type 0
Comes s image key target bound at = (slot : ℕ) × (at ≡ Some slot) × Leads s image key target bound slot

module _ (s : Seen) (image : Image) (key : Key) where
  pub over : (bound slot : ℕ) (at : Option ℕ) (row : List ℕ) → at ≡ Some slot → Looks s image key bound slot row Over → (target : ℕ) → IsSeenAt s image key target → Comes s image key target bound at → ⊥
  over bound slot at row is looks target seen comes = looks target seen (subst (λ (n : ℕ). Leads s image key target bound n) (same_Some comes.0 slot (sym comes.1 ∙ is)) comes.2)

  pub nowhere : (bound : ℕ) (at : Option ℕ) → at ≡ None → (target : ℕ) → Comes s image key target bound at → ⊥
  nowhere bound at is target comes = absurd (cc (sym comes.1 ∙ is))

  module _ (counts : ℕ → Bool) (a : Layout) (agree : CountsAs counts s a image) where
    -- what counts by the snapshot counts
    pub counted : (slot : ℕ) (row : List ℕ) → slot < a.slots → HasSeen (covers s) image slot key row → HasSeen counts image slot key row
    counted slot row lt seen = record { within = seen.within; live = agree.live slot lt ∙ seen.live; fits = seen.fits; at = seen.at; is = seen.is }

    pub seen-at : (slot : ℕ) (row : List ℕ) → HasSeen counts image slot key row → IsSeenAt s image key slot
    seen-at slot row seen = record {
      version = record { within = seen.within; fits = seen.fits; at = seen.at };
      live = sym (agree.live slot (omega (arith, seen.within, ap (λ (l : Layout). l.slots) agree.laid_out))) ∙ seen.live;
    }
