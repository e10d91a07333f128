-- The versions that batches leave: what is found of them, and what changes as a batch comes or goes.
use Rattle.std.proofs.Common.{◌≡◌, ℕ, ◌+◌, ◌<◌, ◌≤◌, ◌&&◌, Bool, true, false, nat_eq, nat_le, List, [], ◌∷◌, ◌++◌, Option, Some, None, unwrap_or, slice_get, get_or, drop, All, IfSome, if◌then◌else◌, refl, sym, ap, ◌∙◌, subst, arith}
use Rattle.std.proofs.lemmas.Bool.Decides.{nat_tests}
use Rattle.std.specs.Option.{option_or}
use Rattle.std.proofs.lemmas.List.Elements.{All-nil, All-cons}
use Rattle.base.specs.declared.key.Key.{Key}
use Rattle.base.specs.Keys.{lookup_key}
use Rattle.base.specs.Commits.{Commit}
use Rattle.base.specs.Batches.{Batch}
use Rattle.base.specs.Published.{Follow, last_from}
use Rattle.board.specs.declared.versions.Place.{Place}
use Rattle.board.specs.Cells.{after_commits, after_batch, after_batches, is_written}
use Rattle.board.specs.Versions.{lookup_version, version_after, version_at, IsLatest, Indexed}
use Rattle.board.proofs.Staying.{last_rises}
use Rattle.board.proofs.Places.{version_unwritten}

-- the row after commits is that of the version which they leave
after_version : (key : Key) (v : Option (Option (List ℕ))) (row : Option (List ℕ)) (commits : List Commit) → after_commits key (unwrap_or v row) commits ≡ unwrap_or (version_after key v commits) row
after_version key v row [] = refl
after_version key v row (c ∷ cs) = grind (arith, after_version key (option_or (lookup_key c.writes key) v) row cs)

-- batches that follow a stamp leave nothing up to it, and nothing above their last
pub none_under : (stamp : ℕ) (batches : List Batch) (key : Key) (at : ℕ) → Follow stamp batches → at ≤ stamp → version_at batches key at ≡ None
none_under stamp [] key at h le = refl
none_under stamp (b ∷ batches) key at h le = grind (arith, none_under b.stamp batches key at h.2)

pub none_over : (stamp : ℕ) (batches : List Batch) (key : Key) (at : ℕ) → Follow stamp batches → last_from stamp batches < at → version_at batches key at ≡ None
none_over stamp [] key at h lt = refl
none_over stamp (b ∷ batches) key at h lt = grind (arith, last_rises, none_over b.stamp batches key at h.2 lt)

-- if the batches leave nothing up to the stamp, the row stays
row_stays : (stamp : ℕ) (batches : List Batch) (key : Key) (at : ℕ) (row : Option (List ℕ)) → Follow stamp batches → ((s : ℕ) → s ≤ at → version_at batches key s ≡ None) → after_batches key at row batches ≡ row
row_stays stamp [] key at row h none = refl
row_stays stamp (b ∷ batches) key at row h none = ap (λ (r : Option (List ℕ)). after_batches key at r batches) (here (nat_le b.stamp at) refl) ∙ row_stays b.stamp batches key at row h.2 rest
  where
    own : nat_eq b.stamp b.stamp ≡ true
    own = grind (arith, nat_tests)

    here : (t : Bool) → nat_le b.stamp at ≡ t → after_batch key at row b ≡ row
    here true e =
        let le : b.stamp ≤ at = grind (arith, nat_tests) in
        let v : version_after key None b.commits ≡ None = subst (λ (t : Bool). (if t then version_after key None b.commits else version_at batches key b.stamp) ≡ None) own (none b.stamp le) in
        rw e (after_version key None row b.commits ∙ ap (λ (v : Option (Option (List ℕ))). unwrap_or v row) v)
    here false e = rw e refl

    pick : (s : ℕ) (t : Bool) → nat_eq b.stamp s ≡ t → (if t then version_after key None b.commits else version_at batches key s) ≡ None → version_at batches key s ≡ None
    pick s true e n = none_under b.stamp batches key s h.2 (grind (arith, nat_tests, e))
    pick s false e n = n

    rest : (s : ℕ) → s ≤ at → version_at batches key s ≡ None
    rest s le = pick s (nat_eq b.stamp s) refl (none s le)

-- the latest version up to the stamp is the row there
row_is : (stamp : ℕ) (batches : List Batch) (key : Key) (at : ℕ) (row w : Option (List ℕ)) (s : ℕ) → Follow stamp batches → s ≤ at → version_at batches key s ≡ Some w
    → ((later : ℕ) → s < later → later ≤ at → version_at batches key later ≡ None) → after_batches key at row batches ≡ w
row_is stamp [] key at row w s h le is none = absurd (cc is)
row_is stamp (b ∷ batches) key at row w s h le is none = pick (λ r v. row_is b.stamp batches key at r w s h.2 le v later) (nat_eq b.stamp s) refl is
  where
    away : (q : ℕ) (t : Bool) → nat_eq b.stamp q ≡ t → (if t then version_after key None b.commits else version_at batches key q) ≡ None → version_at batches key q ≡ None
    away q true e n = none_under b.stamp batches key q h.2 (grind (arith, nat_tests, e))
    away q false e n = n

    later : (q : ℕ) → s < q → q ≤ at → version_at batches key q ≡ None
    later q lt under = away q (nat_eq b.stamp q) refl (none q lt under)

    up_to_it : b.stamp ≡ s → (q : ℕ) (t : Bool) → nat_le q b.stamp ≡ t → q ≤ at → version_at batches key q ≡ None
    up_to_it e q true f under = none_under b.stamp batches key q h.2 (grind (arith, nat_tests, f))
    up_to_it e q false f under = later q (grind (arith, nat_tests, e, f)) under

    pick : ((r : Option (List ℕ)) → version_at batches key s ≡ Some w → after_batches key at r batches ≡ w)
        → (t : Bool) → nat_eq b.stamp s ≡ t → (if t then version_after key None b.commits else version_at batches key s) ≡ Some w → after_batches key at row (b ∷ batches) ≡ w
    pick more true e v =
        let here : b.stamp ≡ s = grind (arith, nat_tests, e) in
        let low : nat_le b.stamp at ≡ true = grind (arith, nat_tests, here, le) in
        let first : after_batch key at row b ≡ w = rw low (after_version key None row b.commits ∙ ap (λ (v : Option (Option (List ℕ))). unwrap_or v row) v) in
        ap (λ (r : Option (List ℕ)). after_batches key at r batches) first ∙ row_stays b.stamp batches key at w h.2 (λ q under. up_to_it here q (nat_le q b.stamp) refl under)
    pick more false e v = more (after_batch key at row b) v

-- what a map finds is the row after the batches
pub found_row : (stamp : ℕ) (versions : List (Place × Option (List ℕ))) (batches : List Batch) (key : Key) (at : ℕ) (row : Option (List ℕ)) (found : Option (Option (List ℕ)))
    → Indexed stamp versions batches → IsLatest versions key at found → after_batches key at row batches ≡ unwrap_or found row
found_row stamp versions batches key at row None h latest = row_stays stamp batches key at row h.follow (λ s le. sym (h.same key s) ∙ latest s le)
found_row stamp versions batches key at row (Some w) h latest =
    row_is stamp batches key at row w latest.0 h.follow latest.1 (sym (h.same key latest.0) ∙ latest.2) (λ later lt le. sym (h.same key later) ∙ latest.3 later lt le)

follow_push : (stamp : ℕ) (batches : List Batch) (batch : Batch) → Follow stamp batches → batch.from ≡ last_from stamp batches → batch.stamp ≡ last_from stamp batches + 1 → Follow stamp (batches ++ batch ∷ [])
follow_push stamp [] batch h from own = (from, own, tt)
follow_push stamp (b ∷ batches) batch h from own = (h.0, h.1, follow_push b.stamp batches batch h.2 from own)

version_push : (stamp : ℕ) (batches : List Batch) (batch : Batch) (key : Key) (at : ℕ) → Follow stamp batches → last_from stamp batches < batch.stamp
    → version_at (batches ++ batch ∷ []) key at ≡ (if nat_eq batch.stamp at then version_after key None batch.commits else version_at batches key at)
version_push stamp [] batch key at h lt = refl
version_push stamp (b ∷ batches) batch key at h lt = grind (arith, version_push b.stamp batches batch key at h.2 lt, last_rises)

-- with the versions of one more batch
pub indexed_push : (stamp : ℕ) (es fs : List (Place × Option (List ℕ))) (batches : List Batch) (batch : Batch) → Indexed stamp es batches → batch.from ≡ last_from stamp batches → batch.stamp ≡ last_from stamp batches + 1
    → ((k : Key) (s : ℕ) → lookup_version fs k s ≡ (if nat_eq batch.stamp s then version_after k None batch.commits else lookup_version es k s)) → Indexed stamp fs (batches ++ batch ∷ [])
indexed_push stamp es fs batches batch h from own entered = grind (arith, follow_push, version_push)

-- and without those of the first one
pub indexed_rest : (stamp : ℕ) (es fs : List (Place × Option (List ℕ))) (batch : Batch) (batches : List Batch) → Indexed stamp es (batch ∷ batches)
    → ((k : Key) (s : ℕ) → lookup_version fs k s ≡ (if is_written k batch.commits && nat_eq batch.stamp s then None else lookup_version es k s)) → Indexed batch.stamp fs batches
indexed_rest stamp es fs batch batches h gone = grind (arith, none_under, version_unwritten)

pub indexed_removed : (stamp : ℕ) (es fs : List (Place × Option (List ℕ))) (batch : Batch) (batches : List Batch) (first : Batch) → slice_get batches 0 ≡ Some first → batch ≡ get_or batches 0 batch → Indexed stamp es batches
    → ((k : Key) (s : ℕ) → lookup_version fs k s ≡ (if is_written k batch.commits && nat_eq batch.stamp s then None else lookup_version es k s)) → Indexed batch.stamp fs (drop 1 batches)
indexed_removed stamp es fs batch [] first at is h gone = absurd (cc at)
indexed_removed stamp es fs batch (b ∷ batches) first at is h gone = indexed_rest stamp es fs batch batches (subst (λ (x : Batch). Indexed stamp es (x ∷ batches)) (sym is) h) gone

-- if the first of the batches is above the floor, all are
all_above : (stamp floor : ℕ) (batches : List Batch) → Follow stamp batches → floor ≤ stamp → All (λ batch. floor < batch.stamp) batches
all_above stamp floor [] h le = All-nil (λ batch. floor < batch.stamp)
all_above stamp floor (b ∷ batches) h le = All-cons (λ batch. floor < batch.stamp) b batches (omega (arith, h.1, le)) (all_above b.stamp floor batches h.2 (omega (arith, h.1, le)))

pub none_to_settle : (stamp floor : ℕ) (batches : List Batch) → Follow stamp batches → IfSome (slice_get batches 0) (λ batch. floor < batch.stamp) → All (λ batch. floor < batch.stamp) batches
none_to_settle stamp floor [] h first = All-nil (λ batch. floor < batch.stamp)
none_to_settle stamp floor (b ∷ batches) h first = All-cons (λ batch. floor < batch.stamp) b batches first (all_above b.stamp floor batches h.2 (omega (arith, first)))
