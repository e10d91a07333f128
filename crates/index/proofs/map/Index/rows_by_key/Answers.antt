use Rattle.std.proofs.Common.{◌≡◌, ◌∷◌, ℕ, List, Some, None, cond, sym, ◌∙◌, ap, subst}
use Rattle.std.specs.BTreeMap.{get}
use Rattle.std.specs.BTreeMap.Range.{entries_between}
use Rattle.std.specs.Map.Iter.{deref_pair}
use Rattle.std.proofs.lemmas.Map.Iter.{rest_more, rest_all}
use Rattle.base.specs.declared.key.Key.{Key}
use Rattle.base.specs.Keys.{lookup_key}
use Rattle.base.proofs.KeyOrder.{is_at-key}
use Rattle.pmem.specs.Words.{image_of}
use Rattle.snapshot.specs.Walks.{IsLinked}
use Rattle.index.specs.declared.entry.Entry.{Entry}
use Rattle.index.specs.Entries.{key_cmp}
use Rattle.index.specs.Reading.{bounds_of}
use Rattle.index.proofs.Bounds.{HasUpTo, passed-over, put-in, all-there, absent-none}
use Rattle.index.proofs.Changes.{none-at}
use Rattle.index.proofs.map.Index.rows_by_key.Goals as goal

pub loop-key-preserved-in-Ok-1 : goal.loop-key-preserved-in-Ok-1
loop-key-preserved-in-Ok-1 g c = λ counts tables agree linked shows.
    let image = image_of (g.D.Pmem.state c.args.device.now) in
    let key = c.key-key.result in
    let e : Key × ℕ = (key, c.in-Some.place.now) in
    let more = rest_more deref_pair c.loop-key.key-iterator c.next.new.self c.next.result _ c.in-Some.is c.next.ensures.steps ∙ (λ i. (sym c.key-key.ensures i, c.in-Some.place.now) ∷ c.next.new.self) in
    let so_far = subst (λ (rest : List (Key × ℕ)). HasUpTo tables c.into_iter-key-iterator.result rest (get key_cmp c.loop-key.seen)) more (c.loop-key.invariant counts tables agree linked shows) in
    let told = c.in-Some-follow.ensures.tables counts tables agree (subst (λ (x : Entry). IsLinked c.args.snapshot.now image key x.newest) (sym c.entry-newest.ensures) (linked key)) shows in
    put-in tables c.into_iter-key-iterator.result e c.next.new.self (get key_cmp c.loop-key.seen) so_far (get key_cmp c.insert.new.self) c.in-Some-follow.found.row (sym told)
    (λ k. c.in-Ok.ensures.updates.0 k ∙ ap (λ b. cond b (Some c.in-Some-follow.found.row) (get key_cmp c.loop-key.seen k)) (is_at-key key k))

pub loop-key-preserved : goal.loop-key-preserved
loop-key-preserved g c = λ counts tables agree linked shows.
    let image = image_of (g.D.Pmem.state c.args.device.now) in
    let key = c.key-key.result in
    let e : Key × ℕ = (key, c.in-Some.place.now) in
    let more = rest_more deref_pair c.loop-key.key-iterator c.next.new.self c.next.result _ c.in-Some.is c.next.ensures.steps ∙ (λ i. (sym c.key-key.ensures i, c.in-Some.place.now) ∷ c.next.new.self) in
    let so_far = subst (λ (rest : List (Key × ℕ)). HasUpTo tables c.into_iter-key-iterator.result rest (get key_cmp c.loop-key.seen)) more (c.loop-key.invariant counts tables agree linked shows) in
    let told = c.in_default.ensures.tables counts tables agree (subst (λ (x : Entry). IsLinked c.args.snapshot.now image key x.newest) (sym c.entry-newest.ensures) (linked key)) shows in
    passed-over tables c.into_iter-key-iterator.result e c.next.new.self (get key_cmp c.loop-key.seen) so_far (sym told)

pub returns : goal.returns
returns g c = λ counts tables agree linked shows.
    let image = image_of (g.D.Pmem.state c.args.device.now) in
    let over = rest_all deref_pair c.loop-key.key-iterator c.next.new.self c.next.result c.in-None.is c.next.ensures.steps in
    let so_far = subst (λ (rest : List (Key × ℕ)). HasUpTo tables c.into_iter-key-iterator.result rest (get key_cmp c.loop-key.seen)) over (c.loop-key.invariant counts tables agree linked shows) in
    let places = c.self.inside.places.entries in
    let between : c.into_iter-key-iterator.result ≡ entries_between key_cmp (bounds_of c.args.range).0 (bounds_of c.args.range).1 places =
    c.into_iter-key-iterator.ensures.into_iter_gives ∙ rw c.bounds.ensures at (c.range-key-items.ensures.between tt) in
    let none : (key : Key) → lookup_key places key ≡ None → lookup_key c.args.self.now key ≡ None = λ key absent.
    ap (λ (es : List (Key × Entry)). lookup_key es key) (sym c.self.view_is) ∙ none-at places c.self.inside.entries.items c.self.invariant.0 key absent in
    all-there tables c.args.range places c.into_iter-key-iterator.result (get key_cmp c.loop-key.seen) so_far between
    (λ key absent. absent-none counts c.args.snapshot.now c.args.geometry image tables c.args.self.now agree shows linked key (none key absent))
