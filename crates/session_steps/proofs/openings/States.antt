-- The sessions of an opened device show the state in which the life begins.
use Rattle.std.proofs.Common.{◌≡◌, ◌≢◌, inl, ℕ, ◌*◌, ◌<◌, ◌≤◌, Bool, true, false, List, [], ◌++◌, map, length, refl, sym, ◌∙◌, ap, subst, arith}
use Rattle.std.specs.Prelude.{Option, Some, None, is_none, is_some, slice_get, replicate, All}
use Rattle.std.specs.Option.{option_map}
use Rattle.std.proofs.lemmas.Bool.{ne_eqb, true≢false}
use Rattle.std.proofs.lemmas.List.{take_all, drop_all, length-replicate}
use Rattle.std.proofs.lemmas.List.Elements.{All-nil}
use Rattle.std.proofs.lemmas.Option.{none-some, slice_get_within}
use Rattle.base.specs.declared.key.Key.{Key}
use Rattle.base.specs.Commits.{Commit, last_writer}
use Rattle.base.specs.Layout.{Layout, total_words}
use Rattle.base.specs.Records.{Record}
use Rattle.base.specs.Images.{IsRuledBy, layout_of, key_of}
use Rattle.machine.specs.Machine.{State, Session, Drawn as PlainDrawn, Version, Writer, BySession, ByCommit, drawn_of, writes_of}
use Rattle.pmem.specs.Device.{Device, IsOrderly}
use Rattle.pmem.specs.Words.{value_of, image_of}
use Rattle.log_area.proofs.Heads.{image_size, image_word, laid_size}
use Rattle.log_area.proofs.AtRest.{laid}
use Rattle.txn.specs.declared.drawn.DrawnCommit.{DrawnCommit}
use Rattle.txn.specs.declared.transaction.Transaction.{Transaction}
use Rattle.txn.specs.Transactions.{transaction_at}
use Rattle.dirty_table.specs.Touches.{is_touched}
use Rattle.index.specs.declared.entry.Entry.{Entry}
use Rattle.index.specs.Entries.{entry_at, live_of}
use Rattle.state_invariant.specs.Kept.{origin_of, version_by, row_in, commits_of_life}
use Rattle.state_invariant.specs.Shown.{word_of, HasVersion}
use Rattle.device_invariant.specs.Slots.{newest_of}
use Rattle.device_invariant.specs.Upholds.{Upholds}
use Rattle.device_invariant.proofs.Words.{word-within}
use Rattle.device_invariant.proofs.PresentValues.{says-newest}
use Rattle.device_invariant.proofs.reads.Images.{ruled-image}
use Rattle.simulation.specs.steps.Moves.{IsSlotOf}
use Rattle.collector.specs.declared.rounds.Collector.{Collector}
use Rattle.session_steps.specs.declared.sessions.Sessions.{Sessions}
use Rattle.simulation.specs.sessions.Sees.{last_on}
use Rattle.session_steps.specs.Shows.{Hidden, plain_of, plain_session, plain_drawn, HoldsSession, HoldsEntry, HoldsDrawn, HoldsLines, IsUnreplaced, Shows}
use Rattle.session_steps.specs.Opening.{Begins, HasFound}
use Rattle.session_steps.proofs.collector.Replaced.{newest-unreplaced}

module _ (a : Layout) (ruling : Record) (next : ℕ) (free : List Bool) (q : State) (device : Device) (begins : Begins a ruling next free q) (u : Upholds (origin_of q) q device) (orderly : IsOrderly device) where
  -- ---- the image

  ruled : (r : Record) × IsRuledBy q.layout r (image_of device)
  ruled = ruled-image q device q.hand orderly u.holds.log

  pub laid-out : layout_of (image_of device) ≡ a
  laid-out = ruled.1.laid_out ∙ begins.layout_is

  size : length (image_of device) ≡ total_words q.layout
  size = laid_size q.layout (image_of device) (laid q.layout ruled.0 (image_of device) ruled.1)

  -- ---- what holds the slots

  life : commits_of_life (origin_of q) q ≡ []
  life = ap (λ (cs : List Commit). cs ++ drawn_of q) (drop_all (length q.history) q.history (omega arith)) ∙ ap (λ (ds : List PlainDrawn). map (λ (d : PlainDrawn). d.commit) ds) begins.none_drawn

  no-session : (slot n : ℕ) (key : Key) → slot < q.layout.slots → q.held slot ≡ Some (version_by key (BySession n)) → ⊥
  no-session slot n key lt held =
      let has = u.keeps.owns.has slot (version_by key (BySession n)) lt held in
      none-some has.0 (sym (ap (λ (s : Option Session). row_in (writes_of s) key) (begins.none_open n)) ∙ has.1)

  only-last : (slot t : ℕ) (key : Key) → slot < q.layout.slots → q.held slot ≡ Some (version_by key (ByCommit t)) → t ≢ last_writer q.history key → ⊥
  only-last slot t key lt held other =
      let has = u.keeps.owns.has slot (version_by key (ByCommit t)) lt held in
      grind (arith, take_all, ne_eqb, life)

  -- each version that holds a slot is the newest of its key
  held-newest : (slot : ℕ) (v : Version) → slot < q.layout.slots → q.held slot ≡ Some v → v ≡ newest_of q v.key
  held-newest slot v lt held = by v.writer held
    where
      by : (w : Writer) → q.held slot ≡ Some (version_by v.key w) → version_by v.key w ≡ newest_of q v.key
      by (BySession n) held = absurd (no-session slot n v.key lt held)
      by (ByCommit t) held = grind (arith, only-last slot t)

  -- its words have its key
  spelt : (slot : ℕ) (key : Key) → slot < q.layout.slots → q.held slot ≡ Some (newest_of q key) → (row : List ℕ) × HasVersion (image_of device) slot key row
  spelt slot key lt held =
      let says = says-newest (origin_of q) q u.keeps (value_of device) u.shows slot key lt held in (
        says.0,
        says.2.spells.read (image_of device) ruled.1.laid_out size
            (λ w two low. image_word device (word_of q.layout slot w) (omega (arith, word-within q.layout slot w lt low, size, image_size device))),
      )

  in-layout : (slot : ℕ) → slot < a.slots → slot < q.layout.slots
  in-layout slot lt = subst (λ (l : Layout). slot < l.slots) (sym begins.layout_is) lt

  of-layout : (slot : ℕ) → slot < q.layout.slots → slot < a.slots
  of-layout slot lt = subst (λ (l : Layout). slot < l.slots) begins.layout_is lt

  -- a slot that isn't free is held
  taken-held : (slot : ℕ) → slot < a.slots → slice_get free slot ≡ Some false → (v : Version) × (q.held slot ≡ Some v)
  taken-held slot lt taken = by (q.held slot) refl
    where
      none-free : is_none (q.held slot) ≡ false
      none-free = let both : Some (is_none (q.held slot)) ≡ Some false = sym (begins.free_are slot lt) ∙ taken in cc both

      by : (o : Option Version) → q.held slot ≡ o → (v : Version) × (q.held slot ≡ Some v)
      by None is = absurd (true≢false (sym (ap (λ (o : Option Version). is_none o) is) ∙ none-free))
      by (Some v) is = (v, is)

  held-taken : (slot : ℕ) (v : Version) → slot < a.slots → q.held slot ≡ Some v → slice_get free slot ≡ Some false
  held-taken slot v lt held = begins.free_are slot lt ∙ ap (λ (o : Option Version). Some (is_none o)) held

  -- ---- the index

  module _ (index : List (Key × Entry)) (found : HasFound (image_of device) free a.slots index) (key : Key) where
    newest-slot : (o : Option ℕ) → (entry_at index key).newest ≡ o → IsSlotOf q (newest_of q key) o
    newest-slot (Some slot) is =
        let at = found.newest key slot is in
        let held = taken-held slot at.0 at.1 in
        grind (arith, held-newest slot held.0, spelt slot held.0.key)
    newest-slot None is = λ slot lt held.
        let has = spelt slot key lt held in
        let some : is_some (entry_at index (key_of (image_of device) slot)).newest ≡ true = found.each slot (of-layout slot lt) (held-taken slot (newest_of q key) (of-layout slot lt) held) has.1.fits in
        let none : is_some (entry_at index (key_of (image_of device) slot)).newest ≡ false = ap (λ (k : Key). is_some (entry_at index k).newest) has.1.at ∙ ap (λ (o : Option ℕ). is_some o) is in
        true≢false (sym some ∙ none)

    -- a version that holds a slot of the key is found there
    newest-found : (slot t : ℕ) → slot < q.layout.slots → q.held slot ≡ Some (version_by key (ByCommit t)) → (o : Option ℕ) → (entry_at index key).newest ≡ o → (entry_at index key).newest ≡ Some slot
    newest-found slot t lt held o is = by o is (newest-slot o is)
      where
        newest : q.held slot ≡ Some (newest_of q key)
        newest = held ∙ ap (λ (v : Version). Some v) (held-newest slot (version_by key (ByCommit t)) lt held)

        by : (o : Option ℕ) → (entry_at index key).newest ≡ o → IsSlotOf q (newest_of q key) o → (entry_at index key).newest ≡ Some slot
        by None is none = absurd (none slot lt newest)
        by (Some other) is at = is ∙ ap (λ (k : ℕ). Some k) (u.keeps.owns.once other slot (newest_of q key) at.0 lt at.1 newest)

    pub holds-found : HoldsEntry (origin_of q) q key (entry_at index key)
    holds-found = record {
      live = subst (IsSlotOf q (newest_of q key)) (sym (ap (λ (e : Entry). live_of e) (found.nothing_else key))) (newest-slot (entry_at index key).newest refl);
      last = inl (ap (λ (e : Entry). e.last) (found.nothing_else key) ∙ ap (last_on key) (sym life));
      newest = λ t slot last lt held. newest-found slot t lt held (entry_at index key).newest refl;
      only = λ slot at. let is = newest-slot (Some slot) at in record { within = is.0; timestamp = last_writer q.history key; held = is.1 };
      drawn = λ slot at. absurd (none-some slot (sym (ap (λ (e : Entry). e.drawn) (found.nothing_else key)) ∙ at));
    }

-- ---- all

module _ (s : Sessions) (device : Device) (free : List Bool) (q : State) (same : s.slots ≡ free) (unmarked : s.replaced ≡ replicate s.numbers.geometry.slots false) (begun : s.collector ≡ record { place = 0; swept = false }) (begins : Begins s.numbers.geometry s.numbers.record s.numbers.next free q) (u : Upholds (origin_of q) q device) (orderly : IsOrderly device)
    (none_open : (n : ℕ) → transaction_at s.transactions n ≡ None) (none_drawn : s.drawn.commits ≡ []) (none_touched : (n line : ℕ) → is_touched s.dirty n line ≡ false) (sized : total_words s.numbers.geometry ≤ 8 * length s.dirty) (counted : length free ≡ s.numbers.geometry.slots)
    (found : layout_of (image_of device) ≡ s.numbers.geometry → HasFound (image_of device) free s.numbers.geometry.slots s.index) where
  abbrev hidden : Hidden
  hidden = record { origin = origin_of q; history = q.history; lost = q.lost; seen = λ n. 0; failed = q.failed; hand = q.hand; held = q.held }

  no-drawn : q.drawn ≡ map plain_drawn s.drawn.commits
  no-drawn = begins.none_drawn ∙ sym (ap (map plain_drawn) none_drawn)

  no-session-open : (n : ℕ) → q.sessions n ≡ option_map (plain_session 0) (transaction_at s.transactions n)
  no-session-open n = begins.none_open n ∙ sym (ap (λ (t : Option Transaction). option_map (plain_session 0) t) (none_open n))

  is-unswept : q.swept ≡ s.collector.swept
  is-unswept = begins.unswept ∙ sym (ap (λ (c : Collector). c.swept) begun)

  is-first : q.place ≡ s.collector.place
  is-first = begins.first ∙ sym (ap (λ (c : Collector). c.place) begun)

  plain : q ≡ plain_of s hidden
  plain = λ i. record q { layout = begins.layout_is i; ruling = begins.ruling_is i; drawn = no-drawn i; sessions = λ n. no-session-open n i; next = begins.next_is i; swept = is-unswept i; place = is-first i }

  no-lines : HoldsLines q s.drawn.commits s.dirty
  no-lines = grind (arith)

  -- each version that holds a slot is the newest of its key
  unreplaced : (slot : ℕ) → slice_get s.replaced slot ≡ Some false → IsUnreplaced q slot
  unreplaced slot out = (
    lt,
    newest-unreplaced q.history (q.held slot) (λ v held. held-newest s.numbers.geometry s.numbers.record s.numbers.next free q device begins u orderly slot v lt held),
  )
    where
      lt : slot < q.layout.slots
      lt = let within = slice_get_within s.replaced slot false out in let size = ap (λ (xs : List Bool). length xs) unmarked ∙ length-replicate s.numbers.geometry.slots false ∙ ap (λ (l : Layout). l.slots) (sym begins.layout_is) in omega (arith, within, size)

  pub shows-opened : Shows s device q
  shows-opened = record {
    hidden = hidden;
    plain = plain;
    upholds = u;
    agrees = record {
      sessions = λ n. subst (HoldsSession (origin_of q) q n 0) (sym (none_open n)) tt;
      drawn = subst (λ (ds : List DrawnCommit). All (HoldsDrawn s q) ds) (sym none_drawn) (All-nil (HoldsDrawn s q));
      free = λ slot lt. ap (λ (f : List Bool). slice_get f slot) same ∙ begins.free_are slot (subst (λ (l : Layout). slot < l.slots) begins.layout_is lt);
      counted = ap (λ (f : List Bool). length f) same ∙ counted ∙ ap (λ (l : Layout). l.slots) (sym begins.layout_is);
      unreplaced = unreplaced;
      index = λ key. holds-found s.numbers.geometry s.numbers.record s.numbers.next free q device begins u orderly s.index (found (laid-out s.numbers.geometry s.numbers.record s.numbers.next free q device begins u orderly)) key;
      lines = no-lines;
      sized = subst (λ (l : Layout). total_words l ≤ 8 * length s.dirty) (sym begins.layout_is) sized;
    };
  }
