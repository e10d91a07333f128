-- A settled entry is taken out, and the sessions agree with each state that they agreed with.
use Rattle.std.proofs.Common.{◌≡◌, inl, inr, ℕ, ◌<◌, ◌≤◌, Bool, true, false, ◌&&◌, ◌||◌, cond, not, List, [], ◌∷◌, ◌++◌, length, map, drop, refl, sym, ◌∙◌, ap, subst, arith, get_or}
use Rattle.std.specs.Prelude.{Option, Some, None, is_none, unwrap_or, slice_get, All, Result}
use Rattle.std.specs.List.{list_any}
use Rattle.std.specs.Option.{option_map, option_map_or}
use Rattle.std.proofs.lemmas.Bool.{and_parts, true≢false}
use Rattle.std.proofs.lemmas.List.Folds.{list_any_at}
use Rattle.base.specs.declared.key.Key.{Key}
use Rattle.base.specs.Keys.{key_eq}
use Rattle.base.specs.Commits.{Writes, writes_key}
use Rattle.base.specs.Steps.{as_step, as_reply}
use Rattle.base.specs.declared.fault.Fault.{Fault}
use Rattle.base.specs.declared.step.SessionStep.{SessionStep}
use Rattle.base.specs.declared.step.SessionReply.{SessionReply}
use Rattle.base.proofs.Keys.{key_eq-true}
use Rattle.machine.specs.Machine.{State, Active as Reads, Drawn as PlainDrawn, drawn_of}
use Rattle.machine.specs.SessionSteps.{SessionStepped}
use Rattle.pmem.specs.Device.{Device}
use Rattle.snapshot.specs.Snapshots.{Seen, covers, seen_by}
use Rattle.txn.specs.declared.drawn.DrawnCommit.{DrawnCommit}
use Rattle.txn.specs.declared.write.Write.{Write}
use Rattle.txn.specs.declared.transaction.Transaction.{Transaction}
use Rattle.txn.specs.declared.transaction.Transaction.TheVariants.{Active, Drawn, ReadOnly}
use Rattle.txn.specs.Transactions.{transaction_at}
use Rattle.collector.specs.declared.visit.Visit.{Visit}
use Rattle.index.specs.declared.entry.Entry.{Entry}
use Rattle.index.specs.Entries.{blank, entry_at, has_room, IsAt, Sets, LosesRoom}
use Rattle.state_invariant.specs.Kept.{Origin, Keeps, commits_of_life}
use Rattle.state_invariant.proofs.steps.Kept.{keeps-step}
use Rattle.device_invariant.specs.Slots.{newest_of}
use Rattle.simulation.specs.sessions.Sees.{Sees, last_on, is_unseen}
use Rattle.simulation.specs.steps.Moves.{IsSlotOf}
use Rattle.simulation.proofs.sessions.Conflicts.{conflicts}
use Rattle.simulation.proofs.sessions.Present.{present-sees}
use Rattle.session_steps.specs.declared.sessions.Sessions.{Sessions}
use Rattle.session_steps.specs.Shows.{Hidden, plain_of, plain_session, plain_drawn, HoldsSession, IsSeenByAll, HoldsLast, HoldsEntry, Agrees, Shows}
use Rattle.session_steps.specs.Steps.{Takes, Drawers}
use Rattle.session_steps.specs.Collecting.{is_covered_in, each_covers, all_cover, Collects}
use Rattle.session_steps.specs.Settling.{is_settled, Settles, taken_out, stays, Tidies}
use Rattle.session_steps.proofs.covers.Batch.{any-second}
use Rattle.session_steps.proofs.covers.Index.{has_key, written-plain}
use Rattle.session_steps.proofs.collector.Readers.{one-uncovers, sixty-two}

settled-parts : (a b c : Bool) → (a && b && c) ≡ true → (a ≡ true) × (b ≡ true) × (c ≡ true)
settled-parts true true c is = (refl, refl, is)
settled-parts true false c is = absurd (cc is)
settled-parts false b c is = absurd (cc is)

nothing : {X : Type 0} (x : Option X) → is_none x ≡ true → x ≡ None
nothing None is = refl
nothing (Some x) is = absurd (cc is)

-- a commit that is found among the drawn ones writes a key that none of them writes
none-writes : (key : Key) (ds : List DrawnCommit) (k : ℕ) (d : DrawnCommit) → k < length ds → list_any (writes_key key) (map (λ (e : PlainDrawn). e.commit) (map plain_drawn ds)) ≡ false → writes_key key (plain_drawn (get_or ds k d)).commit ≡ false
none-writes key ds k d lt none = by (writes_key key (plain_drawn (get_or ds k d)).commit) refl
  where
    as-any : (ds : List DrawnCommit) → list_any (writes_key key) (map (λ (e : PlainDrawn). e.commit) (map plain_drawn ds)) ≡ list_any (λ (e : DrawnCommit). writes_key key (plain_drawn e).commit) ds
    as-any [] = refl
    as-any (e ∷ ds) = ap (λ (b : Bool). writes_key key (plain_drawn e).commit || b) (as-any ds)

    by : (b : Bool) → writes_key key (plain_drawn (get_or ds k d)).commit ≡ b → b ≡ false
    by false is = refl
    by true is = absurd (true≢false (sym (list_any_at (λ (e : DrawnCommit). writes_key key (plain_drawn e).commit) ds k d lt is) ∙ sym (as-any ds) ∙ none))

module _ (s : Sessions) (o : Origin) (h : Hidden) (keeps : Keeps o (plain_of s h)) (agrees : Agrees s o h.seen (plain_of s h)) where
  abbrev q : State
  q = plain_of s h

  abbrev covered : ℕ → Bool
  covered = all_cover (seen_by s.numbers.record) s.transactions

  -- a snapshot that covers what all cover has seen the last timestamp of a settled entry
  seen-by : (snapshot : Seen) → ((t : ℕ) → covered t ≡ true → covers snapshot t ≡ true) → (last : Option ℕ) → option_map_or covered last true ≡ true → is_unseen snapshot last ≡ false
  seen-by snapshot each None is = refl
  seen-by snapshot each (Some t) is = ap not (each t is)

  unseen-by : (key : Key) (entry : Entry) (snapshot : Seen) (n : ℕ) → entry.last ≡ last_on key (commits_of_life o q) → o.opened ≤ n → n ≤ length h.history → Sees o q snapshot n → is_unseen snapshot entry.last ≡ false → list_any (writes_key key) (drop n h.history ++ drawn_of q) ≡ false
  unseen-by key entry snapshot n last since within sees none =
      sym (conflicts o q snapshot n key keeps since within sees) ∙ ap (is_unseen snapshot) (sym last) ∙ none

  by-ruling : (t : ℕ) → covered t ≡ true → covers (seen_by s.numbers.record) t ≡ true
  by-ruling t is = (and_parts (covers (seen_by s.numbers.record) t) (each_covers s.transactions t) is).0

  by-session : (k : ℕ) (snapshot : Seen) (writes : List Write) → 2 ≤ k → k < 64 → transaction_at s.transactions k ≡ Some (Active snapshot writes) → (t : ℕ) → covered t ≡ true → covers snapshot t ≡ true
  by-session k snapshot writes low high at t is = by (covers snapshot t) refl
    where
      by : (b : Bool) → covers snapshot t ≡ b → b ≡ true
      by true c = refl
      by false c =
          absurd (true≢false (sym (and_parts (covers (seen_by s.numbers.record) t) (each_covers s.transactions t) is).1 ∙ one-uncovers s.transactions t k low high (ap (is_covered_in t) at ∙ c)))

  -- so all see what writes its key
  settled-seen : (key : Key) → is_settled covered (entry_at s.index key) ≡ true → IsSeenByAll q key
  settled-seen key settled = by (agrees.index key).last
    where
      last-covered : option_map_or covered (entry_at s.index key).last true ≡ true
      last-covered = (settled-parts (is_none (entry_at s.index key).newest) (is_none (entry_at s.index key).drawn) (option_map_or covered (entry_at s.index key).last true) settled).2

      of-session : (entry_at s.index key).last ≡ last_on key (commits_of_life o q) → (n k : ℕ) (ws : Writes) → q.sessions k ≡ Some (Reads n ws) → (x : Option Transaction) → transaction_at s.transactions k ≡ x
          → list_any (writes_key key) (drop n h.history ++ drawn_of q) ≡ false
      of-session last n k ws at None is = absurd (cc (sym (ap (λ (x : Option Transaction). option_map (plain_session (h.seen k)) x) is) ∙ at))
      of-session last n k ws at (Some (Drawn t)) is = absurd (cc (sym (ap (λ (x : Option Transaction). option_map (plain_session (h.seen k)) x) is) ∙ at))
      of-session last n k ws at (Some ReadOnly) is = absurd (cc (sym (ap (λ (x : Option Transaction). option_map (plain_session (h.seen k)) x) is) ∙ at))
      of-session last n k ws at (Some (Active snapshot writes)) is =
          let begun : h.seen k ≡ n = cc (sym (ap (λ (x : Option Transaction). option_map (plain_session (h.seen k)) x) is) ∙ at) in
          let sees = (subst (HoldsSession o q k (h.seen k)) is (agrees.sessions k)).0 in
          let within = keeps.numbers.snapshots k n ws at in
          let numbered = keeps.numbers.numbered k (Reads n ws) at in
          unseen-by key (entry_at s.index key) snapshot n last within.0 within.1 (subst (Sees o q snapshot) begun sees)
          (seen-by snapshot (by-session k snapshot writes numbered.0 (omega (arith, numbered.1, sixty-two)) is) (entry_at s.index key).last last-covered)

      by : HoldsLast o q key (entry_at s.index key).last → IsSeenByAll q key
      by (inr forgotten) n used = forgotten.1 n used
      by (inl last) n (inl all) =
          subst (λ (m : ℕ). list_any (writes_key key) (drop m h.history ++ drawn_of q) ≡ false) (sym all)
          (unseen-by key (entry_at s.index key) (seen_by s.numbers.record) (length h.history) last keeps.numbers.origin.opened (omega arith) (present-sees o q keeps)
          (seen-by (seen_by s.numbers.record) by-ruling (entry_at s.index key).last last-covered))
      by (inl last) n (inr one) = of-session last n one.0 one.1 one.2 (transaction_at s.transactions one.0) refl

  -- a blank entry says as much
  settled-blank : (key : Key) → is_settled covered (entry_at s.index key) ≡ true → HoldsEntry o q key blank
  settled-blank key settled = record {
    live = live (entry_at s.index key).ended refl;
    last = inr (refl, settled-seen key settled);
    newest = λ t slot last lt held. sym none ∙ (agrees.index key).newest t slot last lt held;
    only = λ slot at. absurd (cc at);
    drawn = λ slot at. absurd (cc at);
  }
    where
      none : (entry_at s.index key).newest ≡ None
      none = nothing (entry_at s.index key).newest (settled-parts (is_none (entry_at s.index key).newest) (is_none (entry_at s.index key).drawn) (option_map_or covered (entry_at s.index key).last true) settled).0

      live : (b : Bool) → (entry_at s.index key).ended ≡ b → IsSlotOf q (newest_of q key) None
      live true is = subst (IsSlotOf q (newest_of q key)) (ap (λ (b : Bool). cond b None (entry_at s.index key).newest) is) (agrees.index key).live
      live false is = subst (IsSlotOf q (newest_of q key)) (ap (λ (b : Bool). cond b None (entry_at s.index key).newest) is ∙ none) (agrees.index key).live

  module _ (key : Key) (settled : is_settled covered (entry_at s.index key) ≡ true) (index : List (Key × Entry)) (place : ℕ) (sets : Sets s.index index key blank) (loses : LosesRoom s.index index key) where
    abbrev tidied : Sessions
    tidied = record s { index = index; next_entry = place }

    entry-tidied : (k : Key) → HoldsEntry o q k (entry_at index k)
    entry-tidied k = subst (HoldsEntry o q k) (sym (sets k)) (by (key_eq key k) refl)
      where
        by : (b : Bool) → key_eq key k ≡ b → HoldsEntry o q k (cond b blank (entry_at s.index k))
        by true is = subst (λ (j : Key). HoldsEntry o q j blank) (key_eq-true key k is) (settled-blank key settled)
        by false is = agrees.index k

    none-drawn : list_any (writes_key key) (drawn_of q) ≡ false
    none-drawn = any-second (writes_key key) (drop (length h.history) h.history) (drawn_of q) (settled-seen key settled (length h.history) (inl refl))

    -- a key that a drawn commit writes keeps its room
    room-left : (writes : List Write) → has_key key writes ≡ false → All (λ (w : Write). has_room s.index w.key ≡ true) writes → All (λ (w : Write). has_room index w.key ≡ true) writes
    room-left writes none rooms k w lt = loses (get_or writes k w).key ∙ by (key_eq key (get_or writes k w).key) refl
      where
        same : key_eq key (get_or writes k w).key ≡ true → key_eq (get_or writes k w).key key ≡ true
        same is = ap (λ (j : Key). key_eq j key) (sym (key_eq-true key (get_or writes k w).key is)) ∙ ap (λ (j : Key). key_eq key j) (key_eq-true key (get_or writes k w).key is) ∙ is

        by : (b : Bool) → key_eq key (get_or writes k w).key ≡ b → (not b && has_room s.index (get_or writes k w).key) ≡ true
        by true is = absurd (true≢false (sym (list_any_at (λ (w : Write). key_eq w.key key) writes k w lt (same is)) ∙ none))
        by false is = rooms k w lt

    agrees-tidied : Agrees tidied o h.seen q
    agrees-tidied = record {
      sessions = agrees.sessions;
      drawn = λ k d lt. record {
        session = (agrees.drawn k d lt).session;
        writes = (agrees.drawn k d lt).writes;
        room = room-left (get_or s.drawn.commits k d).writes (sym (written-plain key (get_or s.drawn.commits k d).writes) ∙ none-writes key s.drawn.commits k d lt none-drawn) (agrees.drawn k d lt).room;
      };
      free = agrees.free;
      counted = agrees.counted;
      unreplaced = agrees.unreplaced;
      index = entry-tidied;
      lines = agrees.lines;
      sized = agrees.sized;
    }

-- ---- one place

same-entry : (old : List (Key × Entry)) (place : ℕ) (key other : Key) → IsAt old place key → IsAt old place other → entry_at old key ≡ entry_at old other
same-entry old place key other at there = ap (λ (o : Option (Key × Entry)). (unwrap_or o (key, blank)).1) (sym at ∙ there)

module _ (covered : ℕ → Bool) (place : ℕ) (old new : List (Key × Entry)) (is_out : Bool) where
  pub stays-past : slice_get old place ≡ None → is_out ≡ false → new ≡ old → Settles covered place old new is_out
  stays-past none is same = stays (λ key at. absurd (cc (sym none ∙ at))) is same

  module _ (key : Key) (entry : Entry) (at : IsAt old place key) (read : entry ≡ entry_at old key) where
    pub stays-unsettled : is_settled covered entry ≡ false → is_out ≡ false → new ≡ old → Settles covered place old new is_out
    stays-unsettled not_settled is same = stays (λ other there. ap (is_settled covered) (sym (read ∙ same-entry old place key other at there)) ∙ not_settled) is same

    pub out-settled : is_settled covered entry ≡ true → is_out ≡ true → Sets old new key blank → LosesRoom old new key → Settles covered place old new is_out
    out-settled settled is sets loses = taken_out key at (ap (is_settled covered) (sym read) ∙ settled) is sets loses

-- ---- tidying

tidies-not : (s : Sessions) (place : ℕ) → Tidies s (record s { next_entry = place })
tidies-not s place = record {
  same = refl;
  agrees = λ o h keeps agrees. record { sessions = agrees.sessions; drawn = λ k d lt. record { session = (agrees.drawn k d lt).session; writes = (agrees.drawn k d lt).writes; room = (agrees.drawn k d lt).room }; free = agrees.free; counted = agrees.counted; unreplaced = agrees.unreplaced; index = agrees.index; lines = agrees.lines; sized = agrees.sized };
}

-- what is done at a place, if another one is looked at next
pub settles-tidies : (s : Sessions) (place next : ℕ) (index : List (Key × Entry)) (is_out : Bool) → Settles (all_cover (seen_by s.numbers.record) s.transactions) place s.index index is_out → Tidies s (record s { index = index; next_entry = next })
settles-tidies s place next index is_out (taken_out key at settled is sets loses) = record { same = refl; agrees = λ o h keeps agrees. agrees-tidied s o h keeps agrees key settled index next sets loses }
settles-tidies s place next index is_out (stays not_settled is same) = subst (λ (es : List (Key × Entry)). Tidies s (record s { index = es; next_entry = next })) (sym same) (tidies-not s next)

pub tidies-still : (s : Sessions) → Tidies s s
tidies-still s = tidies-not s s.next_entry

plain-tidied : (old new : Sessions) → Tidies old new → (h : Hidden) → plain_of new h ≡ plain_of old h
plain-tidied old new tidies h = ap (λ (s : Sessions). plain_of s h) tidies.same

pub tidies-both : (old mid new : Sessions) → Tidies old mid → Tidies mid new → Tidies old new
tidies-both old mid new first second = record {
  same = second.same ∙ (λ i. record (first.same i) { index = new.index; next_entry = new.next_entry });
  agrees = λ o h keeps agrees.
      subst (λ (q : State). Agrees new o h.seen q) (plain-tidied old mid first h)
      (second.agrees o h (subst (Keeps o) (sym (plain-tidied old mid first h)) keeps) (subst (λ (q : State). Agrees mid o h.seen q) (sym (plain-tidied old mid first h)) (first.agrees o h keeps agrees)));
}

drawers-tidied : (old mid new : Sessions) → Tidies mid new → Drawers old mid → Drawers old new
drawers-tidied old mid new tidies drawers = subst (λ (s : Sessions). Drawers old s) (sym tidies.same) drawers

shows-tidied : (mid new : Sessions) (device : Device) (q : State) → Tidies mid new → Shows mid device q → Shows new device q
shows-tidied mid new device q tidies shown = record {
  hidden = shown.hidden;
  plain = shown.plain ∙ sym (plain-tidied mid new tidies shown.hidden);
  upholds = shown.upholds;
  agrees =
      subst (λ (p : State). Agrees new shown.hidden.origin shown.hidden.seen p) (sym shown.plain)
      (tidies.agrees shown.hidden.origin shown.hidden (subst (Keeps shown.hidden.origin) shown.plain shown.upholds.keeps) (subst (λ (p : State). Agrees mid shown.hidden.origin shown.hidden.seen p) shown.plain shown.agrees));
}

-- after a visit
pub collects-tidied : (old mid new : Sessions) (before now : Device) (r : Result Visit Fault) → Tidies mid new → Collects old mid before now r → Collects old new before now r
collects-tidied old mid new before now r tidies collects = λ q shown works.
    let to = collects q shown works in (
      to.0,
      record { stepped = to.1.stepped; shows = shows-tidied mid new now to.0 tidies to.1.shows; effect = to.1.effect; drawers = drawers-tidied old mid new tidies to.1.drawers },
    )

-- after a step that makes no operation
pub takes-tidied : (old mid new : Sessions) (step : SessionStep) (r : SessionReply) → Tidies mid new → Takes old mid step r → Takes old new step r
takes-tidied old mid new step r tidies takes = λ h holds.
    let goes = takes h holds in
    let same = plain-tidied mid new tidies goes.next in
    record {
      next = goes.next;
      origin = goes.origin;
      stepped = subst (λ (p : State). SessionStepped (plain_of old h) step r p) (sym same) goes.stepped;
      agrees =
          subst (λ (p : State). Agrees new h.origin goes.next.seen p) (sym same)
          (tidies.agrees h.origin goes.next (keeps-step h.origin (plain_of old h) (as_step step) (as_reply r) (plain_of mid goes.next) holds.keeps goes.stepped) goes.agrees);
      drawers = drawers-tidied old mid new tidies goes.drawers;
    }
