use Rattle.std.proofs.Common.{◌≡◌, ◌∷◌, inr, ℕ, ◌≤◌, true, List, [], ◌∷◌, ◌++◌, append_assoc, append-nil, Some, None, cond, sym, ◌∙◌, ap, subst}
use Rattle.std.specs.BTreeMap.{get, is_at}
use Rattle.std.specs.Map.{lookup}
use Rattle.std.specs.BTreeMap.Range.{entries_between}
use Rattle.std.specs.declared.ops.Bound.TheVariants.{Included}
use Rattle.std.specs.Iterator.Adapters.{rev_source}
use Rattle.std.specs.Map.Iter.{deref_pair}
use Rattle.base.specs.declared.key.Key.{Key}
use Rattle.base.specs.Keys.{is_rising, lookup_key}
use Rattle.base.proofs.KeyOrder.{is_at-key}
use Rattle.pmem.specs.Words.{image_of}
use Rattle.snapshot.specs.Walks.{IsLinked}
use Rattle.index.specs.declared.entry.Entry.{Entry}
use Rattle.index.specs.declared.ranges.KeyRange.TheVariants.{Between}
use Rattle.index.specs.Entries.{key_cmp}
use Rattle.index.proofs.Bounds.{all-there, absent-none}
use Rattle.index.proofs.Changes.{none-at}
use Rattle.index.proofs.Reaching.{HasDownTo, none-down, passed-down, put-down, rows-from, all-down, last_more, last_all, keys, entry-within, stops-down, part-rises}
use Rattle.index.proofs.map.Index.last_part.Goals as goal

pub loop-key-init : goal.loop-key-init
loop-key-init g c = record {
  split = ([], sym (append-nil (rev_source c.into_iter-key-iterator.result)));
  rows = λ counts tables agree linked shows. none-down tables (rev_source c.into_iter-key-iterator.result) (get key_cmp c.new-rows.result) (λ key. ap (λ (es : List (Key × List ℕ)). lookup (is_at (key_cmp key)) es) c.new-rows.ensures.empty);
}

pub loop-key-preserved-else-limit-len : goal.loop-key-preserved-else-limit-len
loop-key-preserved-else-limit-len g c =
    let more = last_more deref_pair (rev_source c.loop-key.key-iterator) (rev_source c.next.new.self) c.next.result _ c.in-Some.is c.next.ensures.steps ∙ (λ i. rev_source c.next.new.self ++ (sym c.key-key.ensures i, c.in-Some.place.now) ∷ []) in
    let so_far = c.loop-key.invariant.split in
    let e : Key × ℕ = (c.key-key.result, c.in-Some.place.now) in
    record {
      split = (e ∷ so_far.0, so_far.1 ∙ (ap (λ (rest : List (Key × ℕ)). rest ++ so_far.0) more ∙ append_assoc (rev_source c.next.new.self) (e ∷ []) so_far.0));
      rows = λ counts tables agree linked shows.
          let image = image_of (g.D.Pmem.state c.args.device.now) in
          let key = c.key-key.result in
          let e : Key × ℕ = (key, c.in-Some.place.now) in
          let more = last_more deref_pair (rev_source c.loop-key.key-iterator) (rev_source c.next.new.self) c.next.result _ c.in-Some.is c.next.ensures.steps ∙ (λ i. rev_source c.next.new.self ++ (sym c.key-key.ensures i, c.in-Some.place.now) ∷ []) in
          let so_far = subst (λ (rest : List (Key × ℕ)). HasDownTo tables (rev_source c.into_iter-key-iterator.result) rest (get key_cmp c.loop-key.rows)) more (c.loop-key.invariant.rows counts tables agree linked shows) in
          let told = c.in-Some-follow.ensures.tables counts tables agree (subst (λ (x : Entry). IsLinked c.args.snapshot.now image key x.newest) (sym c.entry-newest.ensures) (linked key)) shows in
          put-down tables (rev_source c.into_iter-key-iterator.result) (rev_source c.next.new.self) e (get key_cmp c.loop-key.rows) so_far (get key_cmp c.insert.new.self) c.in-Some-follow.found.row (sym told)
          (λ k. c.in-Ok.ensures.updates.0 k ∙ ap (λ b. cond b (Some c.in-Some-follow.found.row) (get key_cmp c.loop-key.rows k)) (is_at-key key k));
    }

pub loop-key-preserved : goal.loop-key-preserved
loop-key-preserved g c =
    let more = last_more deref_pair (rev_source c.loop-key.key-iterator) (rev_source c.next.new.self) c.next.result _ c.in-Some.is c.next.ensures.steps ∙ (λ i. rev_source c.next.new.self ++ (sym c.key-key.ensures i, c.in-Some.place.now) ∷ []) in
    let so_far = c.loop-key.invariant.split in
    let e : Key × ℕ = (c.key-key.result, c.in-Some.place.now) in
    record {
      split = (e ∷ so_far.0, so_far.1 ∙ (ap (λ (rest : List (Key × ℕ)). rest ++ so_far.0) more ∙ append_assoc (rev_source c.next.new.self) (e ∷ []) so_far.0));
      rows = λ counts tables agree linked shows.
          let image = image_of (g.D.Pmem.state c.args.device.now) in
          let key = c.key-key.result in
          let e : Key × ℕ = (key, c.in-Some.place.now) in
          let more = last_more deref_pair (rev_source c.loop-key.key-iterator) (rev_source c.next.new.self) c.next.result _ c.in-Some.is c.next.ensures.steps ∙ (λ i. rev_source c.next.new.self ++ (sym c.key-key.ensures i, c.in-Some.place.now) ∷ []) in
          let so_far = subst (λ (rest : List (Key × ℕ)). HasDownTo tables (rev_source c.into_iter-key-iterator.result) rest (get key_cmp c.loop-key.rows)) more (c.loop-key.invariant.rows counts tables agree linked shows) in
          let told = c.in_default.ensures.tables counts tables agree (subst (λ (x : Entry). IsLinked c.args.snapshot.now image key x.newest) (sym c.entry-newest.ensures) (linked key)) shows in
          passed-down tables (rev_source c.into_iter-key-iterator.result) (rev_source c.next.new.self) e (get key_cmp c.loop-key.rows) so_far (sym told);
    }

pub returns-then-limit-len-clause-rows : goal.returns-then-limit-len-clause-rows
returns-then-limit-len-clause-rows g c = λ counts tables agree linked shows.
    let image = image_of (g.D.Pmem.state c.args.device.now) in
    let key = c.key-key.result in
    let e : Key × ℕ = (key, c.in-Some.place.now) in
    let more = last_more deref_pair (rev_source c.loop-key.key-iterator) (rev_source c.next.new.self) c.next.result _ c.in-Some.is c.next.ensures.steps ∙ (λ i. rev_source c.next.new.self ++ (sym c.key-key.ensures i, c.in-Some.place.now) ∷ []) in
    let so_far = subst (λ (rest : List (Key × ℕ)). HasDownTo tables (rev_source c.into_iter-key-iterator.result) rest (get key_cmp c.loop-key.rows)) more (c.loop-key.invariant.rows counts tables agree linked shows) in
    let told = c.in-Some-follow.ensures.tables counts tables agree (subst (λ (x : Entry). IsLinked c.args.snapshot.now image key x.newest) (sym c.entry-newest.ensures) (linked key)) shows in
    let rows = rows-from tables (rev_source c.into_iter-key-iterator.result) (rev_source c.next.new.self) e (get key_cmp c.loop-key.rows) so_far (get key_cmp c.insert.new.self) c.in-Some-follow.found.row (sym told)
    (λ k. c.in-Ok.ensures.updates.0 k ∙ ap (λ b. cond b (Some c.in-Some-follow.found.row) (get key_cmp c.loop-key.rows k)) (is_at-key key k)) in
    let places = c.self.inside.places.entries in
    let between : rev_source c.into_iter-key-iterator.result ≡ entries_between key_cmp (Included c.args.first) (Included c.args.last) places =
    ap rev_source c.into_iter-key-iterator.ensures.into_iter_gives ∙ (c.rev-key-items.ensures.source ∙ rw c.bounds.ensures at (c.range.ensures.between tt)) in
    let none : (key : Key) → lookup_key places key ≡ None → lookup_key c.args.self.now key ≡ None = λ key absent.
    ap (λ (es : List (Key × Entry)). lookup_key es key) (sym c.self.view_is) ∙ none-at places c.self.inside.entries.items c.self.invariant.0 key absent in
    let rising : is_rising (keys (rev_source c.into_iter-key-iterator.result)) ≡ true = subst (λ (es : List (Key × ℕ)). is_rising (keys es) ≡ true) (sym between) (part-rises c.args.first c.args.last places c.range.ensures.ordered) in
    stops-down c.args.first c.args.last places tables (λ key absent. absent-none counts c.args.snapshot.now c.args.geometry image tables c.args.self.now agree shows linked key (none key absent))
    (rev_source c.into_iter-key-iterator.result) between rising (rev_source c.next.new.self) e so_far.done (get key_cmp c.insert.new.self) (so_far.split ∙ append_assoc (rev_source c.next.new.self) (e ∷ []) so_far.done) rows

pub returns-then-limit-len-clause-reached : goal.returns-then-limit-len-clause-reached
returns-then-limit-len-clause-reached g c =
    let more = last_more deref_pair (rev_source c.loop-key.key-iterator) (rev_source c.next.new.self) c.next.result _ c.in-Some.is c.next.ensures.steps ∙ (λ i. rev_source c.next.new.self ++ (sym c.key-key.ensures i, c.in-Some.place.now) ∷ []) in
    let so_far = c.loop-key.invariant.split in
    let e : Key × ℕ = (c.key-key.result, c.in-Some.place.now) in
    let places = c.self.inside.places.entries in
    let between : rev_source c.into_iter-key-iterator.result ≡ entries_between key_cmp (Included c.args.first) (Included c.args.last) places =
    ap rev_source c.into_iter-key-iterator.ensures.into_iter_gives ∙ (c.rev-key-items.ensures.source ∙ rw c.bounds.ensures at (c.range.ensures.between tt)) in
    inr (
      entry-within c.args.first c.args.last places (rev_source c.into_iter-key-iterator.result) between (rev_source c.next.new.self) e so_far.0
          (so_far.1 ∙ (ap (λ (rest : List (Key × ℕ)). rest ++ so_far.0) more ∙ append_assoc (rev_source c.next.new.self) (e ∷ []) so_far.0)),
      subst (λ (n : ℕ). c.args.limit ≤ n) c.len.ensures.len c.if-limit-len.true,
    )

pub returns-clause-rows : goal.returns-clause-rows
returns-clause-rows g c = λ counts tables agree linked shows.
    let image = image_of (g.D.Pmem.state c.args.device.now) in
    let over = last_all deref_pair (rev_source c.loop-key.key-iterator) (rev_source c.next.new.self) c.next.result c.in-None.is c.next.ensures.steps in
    let so_far = subst (λ (rest : List (Key × ℕ)). HasDownTo tables (rev_source c.into_iter-key-iterator.result) rest (get key_cmp c.loop-key.rows)) over (c.loop-key.invariant.rows counts tables agree linked shows) in
    let places = c.self.inside.places.entries in
    let between : rev_source c.into_iter-key-iterator.result ≡ entries_between key_cmp (Included c.args.first) (Included c.args.last) places =
    ap rev_source c.into_iter-key-iterator.ensures.into_iter_gives ∙ (c.rev-key-items.ensures.source ∙ rw c.bounds.ensures at (c.range.ensures.between tt)) in
    let none : (key : Key) → lookup_key places key ≡ None → lookup_key c.args.self.now key ≡ None = λ key absent.
    ap (λ (es : List (Key × Entry)). lookup_key es key) (sym c.self.view_is) ∙ none-at places c.self.inside.entries.items c.self.invariant.0 key absent in
    all-there tables (Between c.args.first c.args.last) places (rev_source c.into_iter-key-iterator.result) (get key_cmp c.loop-key.rows) (all-down tables (rev_source c.into_iter-key-iterator.result) (get key_cmp c.loop-key.rows) so_far) between
    (λ key absent. absent-none counts c.args.snapshot.now c.args.geometry image tables c.args.self.now agree shows linked key (none key absent))
