-- What agrees when slots of versions that nobody reads are freed, the collector moves on, and a sweep ends.
use Rattle.std.proofs.Common.{◌≡◌, ℕ, ◌<◌, Bool, true, false, ◌&&◌, ◌||◌, cond, List, [], ◌∷◌, length, refl, sym, ◌∙◌, ap, subst, nat_eq, get_or, Option, Some, None, arith}
use Rattle.std.specs.Prelude.{is_none, slice_get}
use Rattle.std.specs.List.{list_any}
use Rattle.std.proofs.lemmas.Bool.{ne_eqb, true≢false}
use Rattle.base.specs.declared.key.Key.{Key}
use Rattle.base.specs.Commits.{Commit, last_writer, writes_key}
use Rattle.machine.specs.Machine.{State, Drawn as PlainDrawn, Version, Writer, BySession, ByCommit, drawn_at}
use Rattle.collector.specs.declared.rounds.Collector.{Collector}
use Rattle.txn.specs.declared.drawn.DrawnCommit.{DrawnCommit}
use Rattle.txn.specs.declared.transaction.Transaction.{Transaction}
use Rattle.txn.specs.declared.transaction.Transaction.TheVariants.{Active, Drawn, ReadOnly}
use Rattle.index.specs.declared.entry.Entry.{Entry}
use Rattle.index.specs.Entries.{entry_at, KeepsRoom, live_of}
use Rattle.state_invariant.specs.Kept.{Keeps, version_by}
use Rattle.state_invariant.specs.Links.{last_row}
use Rattle.state_invariant.proofs.collector.Garbage.{IsGarbage, garbage-undrawn, garbage-replaced}
use Rattle.state_invariant.proofs.collector.Kept.{OnlyFrees, stays, frees}
use Rattle.device_invariant.specs.Slots.{newest_of}
use Rattle.device_invariant.specs.Log.{is_own, is_ended}
use Rattle.simulation.specs.steps.Moves.{IsSlotOf}
use Rattle.session_steps.specs.declared.sessions.Sessions.{Sessions}
use Rattle.simulation.specs.cycles.Batches.{line_numbers}
use Rattle.session_steps.specs.Shows.{Hidden, plain_of, plain_drawn, HoldsSession, HoldsEntry, HoldsDrawn, IsUnreplaced, Agrees}
use Rattle.session_steps.proofs.covers.Batch.{found}
use Rattle.session_steps.proofs.slots.Held.{numbers-by-tests}

module _ (s : Sessions) (h : Hidden) (keeps : Keeps h.origin (plain_of s h)) (agrees : Agrees s h.origin h.seen (plain_of s h)) (collector : Collector) (slots : List Bool) (index : List (Key × Entry)) (replaced : List Bool) (held : ℕ → Option Version)
    (still : s.collector.swept ≡ true → collector.swept ≡ true) (only : (slot : ℕ) → OnlyFrees (plain_of s h) held slot) where
  abbrev q : State
  q = plain_of s h

  abbrev pub now : Sessions
  now = record s { collector = collector; slots = slots; index = index; replaced = replaced }

  abbrev pub next : Hidden
  next = record h { held = held }

  abbrev then : State
  then = plain_of now next

  -- ---- versions that stay

  -- no slot that is freed has the version
  abbrev IsRead : Version → Type 0
  IsRead v = (slot : ℕ) → IsGarbage q slot → h.held slot ≡ Some v → ⊥

  slot-left : (v : Version) (o : Option ℕ) → IsRead v → IsSlotOf q v o → IsSlotOf then v o
  slot-left v a read is = grind (arith)

  -- a slot that is held then was held by the same version
  was : (slot : ℕ) (v : Version) → held slot ≡ Some v → h.held slot ≡ Some v
  was slot v at = grind (arith) steps 800000

  same-writer : (v w : Version) → Some v ≡ Some w → v.writer ≡ w.writer
  same-writer v w e = cc e

  abbrev is_session : Writer → Bool
  is_session (BySession n) = true
  is_session (ByCommit t) = false

  session-read : (n : ℕ) (key : Key) → IsRead (version_by key (BySession n))
  session-read n key slot g at = true≢false (sym (ap is_session (same-writer (version_by g.key (ByCommit g.timestamp)) (version_by key (BySession n)) (sym g.held ∙ at))))

  same-timestamp : (t u : ℕ) → ByCommit t ≡ ByCommit u → t ≡ u
  same-timestamp t u e = cc e

  timestamp-of : (slot : ℕ) (g : IsGarbage q slot) (key : Key) (t : ℕ) → h.held slot ≡ Some (version_by key (ByCommit t)) → g.timestamp ≡ t
  timestamp-of slot g key t at = same-timestamp g.timestamp t (same-writer (version_by g.key (ByCommit g.timestamp)) (version_by key (ByCommit t)) (sym g.held ∙ at))

  -- a drawn commit isn't garbage's
  drawn-apart : (slot : ℕ) (g : IsGarbage q slot) (t : ℕ) (d : PlainDrawn) → drawn_at q t ≡ Some d → g.timestamp ≡ t → ⊥
  drawn-apart slot g t d there same = absurd (cc (sym there ∙ sym (ap (drawn_at q) same) ∙ garbage-undrawn h.origin q keeps slot g))

  drawn-read : (t : ℕ) (d : PlainDrawn) (key : Key) → drawn_at q t ≡ Some d → IsRead (version_by key (ByCommit t))
  drawn-read t d key there slot g at = drawn-apart slot g t d there (timestamp-of slot g key t at)

  same-key : (v w : Version) → Some v ≡ Some w → v.key ≡ w.key
  same-key v w e = cc e

  newest-read : (key : Key) → IsRead (newest_of q key)
  newest-read key slot g at =
      let k : g.key ≡ key = same-key (version_by g.key (ByCommit g.timestamp)) (newest_of q key) (sym g.held ∙ at) in
      garbage-replaced h.origin q keeps slot g (timestamp-of slot g key (last_writer h.history key) at ∙ ap (last_writer h.history) (sym k))

  -- ---- sessions and drawn commits

  session-left : (n : ℕ) (seen : ℕ) (t : Option Transaction) → HoldsSession h.origin q n seen t → HoldsSession h.origin then n seen t
  session-left n seen None has = tt
  session-left n seen (Some (Active snapshot writes)) has = (
    record { covered = λ t before out. has.0.covered t before (λ is. out (still is)); early = has.0.early; gaps = has.0.gaps },
    λ k d lt. let write = has.1 k d lt in record { slot = slot-left _ _ (session-read n _) write.slot; row = write.row },
  )
  session-left n seen (Some (Drawn t)) has = tt
  session-left n seen (Some ReadOnly) has = tt

  drawn-there : (k : ℕ) (d : DrawnCommit) → k < length s.drawn.commits → drawn_at q (get_or s.drawn.commits k d).timestamp ≡ Some (plain_drawn (get_or s.drawn.commits k d))
  drawn-there k d lt = found s.drawn.commits k d keeps.draws.rising lt

  drawn-left : KeepsRoom s.index index → (d : DrawnCommit) → drawn_at q d.timestamp ≡ Some (plain_drawn d) → HoldsDrawn s q d → HoldsDrawn now then d
  drawn-left room d there has = record {
    session = has.session;
    writes = λ k w lt. let write = has.writes k w lt in record { slot = slot-left _ _ (drawn-read d.timestamp (plain_drawn d) _ there) write.slot; row = write.row };
    room = λ k w lt. room _ ∙ has.room k w lt;
  }

  -- ---- lines

  lines-left : (d : DrawnCommit) → drawn_at q d.timestamp ≡ Some (plain_drawn d) → line_numbers then ((plain_drawn d).commit ∷ []) ≡ line_numbers q ((plain_drawn d).commit ∷ [])
  lines-left d there = numbers-by-tests q then commits refl (λ slot. own slot (only slot)) (λ slot. ended slot (only slot))
    where
      commits : List Commit
      commits = (plain_drawn d).commit ∷ []

      apart : (slot : ℕ) (g : IsGarbage q slot) → nat_eq d.timestamp g.timestamp ≡ false
      apart slot g = ne_eqb d.timestamp g.timestamp (λ same. drawn-apart slot g d.timestamp (plain_drawn d) there (sym same))

      own : (slot : ℕ) → OnlyFrees q held slot → is_own commits (held slot) ≡ is_own commits (h.held slot)
      own slot (stays same) = ap (is_own commits) same
      own slot (frees g none) = ap (is_own commits) none ∙ sym (ap (is_own commits) g.held ∙ ap (λ (b : Bool). b || false) (apart slot g))

      ended : (slot : ℕ) → OnlyFrees q held slot → is_ended then commits (held slot) ≡ is_ended q commits (h.held slot)
      ended slot (stays same) = ap (is_ended q commits) same
      ended slot (frees g none) =
          ap (is_ended then commits) none
          ∙ sym (ap (is_ended q commits) g.held ∙ ap (λ (b : Bool). b && list_any (writes_key g.key) commits) (ne_eqb (last_writer h.history g.key) g.timestamp (λ same. garbage-replaced h.origin q keeps slot g (sym same))))

  -- ---- the index

  -- an entry whose newest slot isn't freed
  pub entry-left : (key : Key) (e : Entry) → ((slot : ℕ) → e.newest ≡ Some slot → held slot ≡ h.held slot) → HoldsEntry h.origin q key e → HoldsEntry h.origin then key e
  entry-left key e same has = record {
    live = slot-left (newest_of q key) (live_of e) (newest-read key) has.live;
    last = has.last;
    newest = λ t slot last lt at. has.newest t slot last lt (was slot (version_by key (ByCommit t)) at);
    only = λ slot at. let version = has.only slot at in record { within = version.within; timestamp = version.timestamp; held = same slot at ∙ version.held };
    drawn = has.drawn;
  }

  -- one that is forgotten, since its slot is freed
  pub entry-forgotten : (key : Key) (e : Entry) (slot : ℕ) → e.newest ≡ Some slot → IsGarbage q slot → held slot ≡ None → HoldsEntry h.origin q key e → HoldsEntry h.origin then key (record e { newest = None; ended = false })
  entry-forgotten key e slot at g gone has = record {
    live = slot-left (newest_of q key) None (newest-read key) (none e.ended refl);
    last = has.last;
    newest = λ t other last lt there. absurd (unheld t other last lt there);
    only = λ other none. absurd (cc none);
    drawn = has.drawn;
  }
    where
      -- the newest row version is the one that is freed
      unheld : (t other : ℕ) → last_row h.history key ≡ Some t → other < s.numbers.geometry.slots → held other ≡ Some (version_by key (ByCommit t)) → ⊥
      unheld t other last lt there =
          let both : Some slot ≡ Some other = sym at ∙ has.newest t other last lt (was other (version_by key (ByCommit t)) there) in
          let same : slot ≡ other = cc both in
          cc (sym gone ∙ ap held same ∙ there)

      none : (b : Bool) → e.ended ≡ b → IsSlotOf q (newest_of q key) None
      none true is = subst (IsSlotOf q (newest_of q key)) (ap (λ (b : Bool). cond b None e.newest) is) has.live
      none false is = grind (arith, newest-read)

  -- ---- all

  pub agrees-freed : ((slot : ℕ) → slot < s.numbers.geometry.slots → slice_get slots slot ≡ Some (is_none (held slot))) → length slots ≡ s.numbers.geometry.slots → KeepsRoom s.index index
      → ((key : Key) → HoldsEntry h.origin then key (entry_at index key)) → ((slot : ℕ) → slice_get replaced slot ≡ Some false → IsUnreplaced then slot) → Agrees now h.origin h.seen then
  agrees-freed free counted room entries unreplaced = grind (arith, session-left, drawn-left, drawn-there, lines-left) steps 800000
