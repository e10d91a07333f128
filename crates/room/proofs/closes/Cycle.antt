-- The cycle of closing: the lines of all that is drawn are flushed, the committer fences, and the last record is written.
use Rattle.std.proofs.Common.{◌≡◌, ◌≢◌, ℕ, ◌+◌, ◌*◌, ◌/◌, ◌^◌, ◌<◌, Bool, true, false, ◌&&◌, List, length, refl, sym, ◌∙◌, ap, subst, arith}
use Rattle.std.proofs.Math.Bridge.{le_prop}
use Rattle.std.proofs.Math.Logic.{∥∥₁_elim}
use Rattle.std.proofs.Math.Nat.{ℕ_set}
use Rattle.std.proofs.lemmas.Bool.{ltb-true}
use Rattle.std.proofs.lemmas.List.{length-map}
use Rattle.std.proofs.lemmas.Option.{slice_get-map, slice_get_within}
use Rattle.std.specs.Prelude.{Option, Some, None, nat_eq, nat_le, nat_lt, find, slice_get, map, is_some, if◌then◌else◌}
use Rattle.std.specs.List.{list_all, list_any}
use Rattle.std.specs.Option.{option_map}
use Rattle.base.specs.declared.fault.Fault.{Fault}
use Rattle.base.specs.declared.fault.Fault.TheVariants.{Device as DeviceFault}
use Rattle.base.specs.Actors.{committer}
use Rattle.base.specs.Choosing.{closing_record as record_of_close}
use Rattle.base.specs.Images.{Image}
use Rattle.base.specs.Layout.{total_words}
use Rattle.machine.specs.Machine.{State, Hand, is_stamped, drawn_of, closing_gate, StandsClosing, StandsClosed}
use Rattle.base.specs.Records.{Record, are_rising}
use Rattle.pmem.specs.Device.{Device, IsOrderly, MayLeave, flushed, fenced, failed}
use Rattle.pmem.specs.Trace.{applied}
use Rattle.pmem.specs.Words.{LeavesOnly, HasNoFailure, Spares}
use Rattle.pmem.proofs.Images.{leaves_refl, leaves_trans}
use Rattle.log_area.specs.declared.stage.WritingStage.TheVariants.{StoreBody, Done}
use Rattle.log_area.specs.Stages.{IsStage}
use Rattle.log_area.specs.Rulings.{HoldsRecord}
use Rattle.log_area.specs.Writings.{Progress, begun, advanced, operation_of, IsOutside, IsNextRecord, IsRuledByEither}
use Rattle.log_area.proofs.Ticks.{none_failed, same_words}
use Rattle.log_area.proofs.Whole.{IsWritten, written-none, written-more, written-stops, written-whole, record-spares, record-spares_stopped, record-images as images_of_record, record-images_stopped, record-holds, fewer_left}
use Rattle.log_area.proofs.Stages.{staged-next}
use Rattle.dirty_table.specs.declared.sessions.SessionSet.{SessionSet}
use Rattle.dirty_table.specs.Touches.{has, lines_touched}
use Rattle.txn.specs.declared.drawn.DrawnCommit.{DrawnCommit}
use Rattle.device_invariant.specs.Log.{Line, lines_in, line_number}
use Rattle.device_invariant.specs.Upholds.{Upholds}
use Rattle.group_commit.specs.declared.stage.CycleStage.{CycleStage}
use Rattle.group_commit.specs.declared.stage.CycleStage.TheVariants.{FlushLines, WriteRecord}
use Rattle.group_commit.specs.Cycles.{Cycling, line_from, flush_or_fence, operation_in, next_at, ticked_in}
use Rattle.group_commit.specs.Laws.{IsCut}
use Rattle.group_commit.proofs.Counting.{find-cut, cut-next, cut-whole}
use Rattle.simulation.specs.cycles.Batches.{line_numbers}
use Rattle.simulation.specs.cycles.Closing.{closing_record, IsClosing, AreFlushed, HasPersisted}
use Rattle.simulation.proofs.cycles.closes.LastPart.{closing-flushes, closing-writes}
use Rattle.simulation.proofs.cycles.covers.LineOrder.{lines-within}
use Rattle.session_steps.specs.Shows.{plain_drawn}
use Rattle.session_steps.proofs.covers.Lines.{member, table-lines}
use Rattle.session_steps.proofs.Filters.{any-filter, filter-whole}
use Rattle.session_steps.proofs.reads.Rows.{words-are}
use Rattle.room.specs.declared.volatile.VolatileState.{VolatileState}
use Rattle.room.specs.Committing.{HoldsCycle, Shows}
use Rattle.room.specs.Steps.{ShowsSome}
use Rattle.room.specs.Closing.{ClosePhaseFailed, CloseCovered, ticks_left}
use Rattle.room.proofs.covers.Ticks.{found-any, any-has}
use Rattle.room.proofs.closes.Whole.{gate-is}
use Rattle.room.proofs.closes.Parts.{stands-closing}

-- ---- what closing goes on from

-- the state is shown on another device that upholds it
moved : (c : VolatileState) (old new : Device) (q : State) (shown : Shows c old q) → Upholds shown.shown.hidden.origin q new → Shows c new q
moved c old new q shown upholds = grind (arith)

no-hand : (q : State) (drawn : List DrawnCommit) (h : Option Hand) → HoldsCycle q drawn h None → h ≡ None
no-hand q drawn a holds = grind (arith)

is-closing : (c : VolatileState) (device : Device) (q : State) (shown : Shows c device q) → q.failed ≡ false → c.cycle ≡ None → list_all is_stamped (map plain_drawn c.sessions.drawn.commits) ≡ true → IsClosing shown.shown.hidden.origin q device
is-closing c device q shown works rests stamped = grind (arith, no-hand) steps 800000

-- the size of the device
words-of : (c : VolatileState) (device : Device) → ∥ ShowsSome c device ∥₁ → IsOrderly device → device.words ≡ total_words c.sessions.numbers.geometry
words-of c device some orderly = ∥∥₁_elim some (ℕ_set _ _) (λ shown.
    words-are shown.1.shown.hidden.origin shown.0 device orderly shown.1.shown.upholds ∙ ap (λ (p : State). total_words p.layout) shown.1.shown.plain)

-- ---- the lines

-- the sessions are all that drew
abbrev pub HaveDrawn : VolatileState → SessionSet → Type 0
HaveDrawn c sessions = (n : ℕ) → has sessions n ≡ list_any (λ d. nat_eq d.session n) c.sessions.drawn.commits

any-whole : (p : DrawnCommit → Bool) (ds : List DrawnCommit) → list_any p ds ≡ list_any (λ d. p d && true) ds
any-whole p ds = sym (any-filter p (λ d. true) ds ∙ ap (list_any p) (filter-whole ds))

module _ (c : VolatileState) (device : Device) (q : State) (sessions : SessionSet) (shown : Shows c device q) (drew : HaveDrawn c sessions) where
  drawn-by : (n : ℕ) → has sessions n ≡ list_any (λ d. nat_eq d.session n && true) c.sessions.drawn.commits
  drawn-by n = drew n ∙ any-whole (λ d. nat_eq d.session n) c.sessions.drawn.commits

  drawn-is : q.drawn ≡ map plain_drawn c.sessions.drawn.commits
  drawn-is = ap (λ (p : State). p.drawn) shown.shown.plain

  -- the table's lines of these sessions are those that all drawn commits touch
  lines-are : are_rising (lines_touched sessions c.sessions.dirty) ≡ true → lines_touched sessions c.sessions.dirty ≡ line_numbers q (drawn_of q)
  lines-are rising =
      table-lines q c.sessions.drawn.commits c.sessions.dirty sessions (λ t. true) drawn-is shown.shown.agrees.lines drawn-by rising
      ∙ ap (line_numbers q) (filter-whole (drawn_of q))

  -- and lines of the device
  line-below : (from line : ℕ) → find (nat_le from) (lines_touched sessions c.sessions.dirty) ≡ Some line → line < total_words q.layout / 8
  line-below from line found =
      let any = sym (member q c.sessions.drawn.commits c.sessions.dirty sessions (λ t. true) drawn-is shown.shown.agrees.lines drawn-by line) ∙ found-any (nat_le from) line (lines_touched sessions c.sessions.dirty) found in
      ltb-true line (total_words q.layout / 8) (any-has (λ x. nat_lt x (total_words q.layout / 8)) line _ any (lines-within q _))

-- ---- the record

-- the record that the cycle writes
abbrev pub last_record : VolatileState → Record
last_record c = record_of_close (c.sessions.numbers.record.gate + 1) c.sessions.numbers.record c.sessions.numbers.next c.sessions.collector.swept

module _ (c : VolatileState) (before now : Device) (rests : c.cycle ≡ None) (stamped : list_all is_stamped (map plain_drawn c.sessions.drawn.commits) ≡ true) (numbered : c.sessions.numbers.record.gate + 1 < 2 ^ 62)
    (q : State) (shown : Shows c before q) (works : q.failed ≡ false) (persisted : HasPersisted q before) (spares : Spares (IsOutside (begun c.sessions.numbers.geometry (last_record c))) before now) where
  closing : IsClosing shown.shown.hidden.origin q before
  closing = is-closing c before q shown works rests stamped

  in_range : closing_gate q < 2 ^ 62
  in_range = omega (arith, gate-is c before q shown ∙ ap (λ (o : Option Cycling). c.sessions.numbers.record.gate + (if is_some o then 2 else 1)) rests, numbered)

  -- it is the one of the plain machine
  follows : IsNextRecord c.sessions.numbers.geometry q.ruling (last_record c) before
  follows = subst (λ (p : State). IsNextRecord p.layout q.ruling (closing_record p) before) shown.shown.plain (closing-writes.follows shown.shown.hidden.origin q before closing in_range)

  outside : Spares (IsOutside (begun q.layout (closing_record q))) before now
  outside = subst (λ (p : State). Spares (IsOutside (begun p.layout (closing_record p))) before now) (sym shown.shown.plain) spares

  record-images : ((old : Record) → IsNextRecord c.sessions.numbers.geometry old (last_record c) before → LeavesOnly before now (IsRuledByEither c.sessions.numbers.geometry old (last_record c))) → LeavesOnly before now (StandsClosing q)
  record-images images =
      closing-writes.images shown.shown.hidden.origin q before now closing persisted in_range outside
      (subst (λ (p : State). LeavesOnly before now (IsRuledByEither p.layout q.ruling (closing_record p))) (sym shown.shown.plain) (images q.ruling follows))

  record-closed : ((old : Record) → IsNextRecord c.sessions.numbers.geometry old (last_record c) before → HoldsRecord c.sessions.numbers.geometry (last_record c) now) → (image : Image) → MayLeave now image → StandsClosed q image
  record-closed holds =
      closing-writes.closed shown.shown.hidden.origin q before now closing persisted in_range outside
      (subst (λ (p : State). HoldsRecord p.layout (closing_record p) now) (sym shown.shown.plain) (holds q.ruling follows))

-- ---- how far the cycle has come

-- this many lines are flushed, as far as this state goes
pub record IsFlushedTo (c : VolatileState) (before now : Device) (q : State) (count : ℕ) : Type 0 where
  pub shown : Shows c now q
  pub flushed : AreFlushed q now count
  pub images : LeavesOnly before now (StandsClosing q)

-- what is drawn persists
pub record IsPersisted (c : VolatileState) (before now : Device) (q : State) : Type 0 where
  pub shown : Shows c now q
  pub persisted : HasPersisted q now
  pub images : LeavesOnly before now (StandsClosing q)

-- what is drawn persists since some device, and this much of the record has been written since
pub record IsRecording (c : VolatileState) (before now : Device) (writing : Progress) : Type 0 where
  pub between : Device
  pub persists : (q : State) → Shows c before q → q.failed ≡ false → IsPersisted c before between q
  pub run : IsWritten c.sessions.numbers.geometry (last_record c) writing between now
  pub staged : IsStage writing.stage

abbrev pub HasCome : VolatileState → List ℕ → Device → Device → Progress → CycleStage → Type 0
HasCome c lines before now writing (FlushLines count from) = IsCut lines count from × (writing ≡ begun c.sessions.numbers.geometry (last_record c)) × ((q : State) → Shows c before q → q.failed ≡ false → IsFlushedTo c before now q count)
HasCome c lines before now writing WriteRecord = IsRecording c before now writing

-- the cycle of closing, under way
pub record IsCovering (c : VolatileState) (before now : Device) (cycle : Cycling) : Type 0 where
  pub drew : HaveDrawn c cycle.sessions
  pub layout : cycle.writing.layout ≡ c.sessions.numbers.geometry
  pub no_failure : HasNoFailure before now
  pub words : now.words ≡ before.words
  pub come : HasCome c (lines_touched cycle.sessions c.sessions.dirty) before now cycle.writing cycle.stage

pub begins : (c : VolatileState) (device : Device) (cycle : Cycling) → IsOrderly device → HaveDrawn c cycle.sessions → cycle.writing ≡ begun c.sessions.numbers.geometry (last_record c) → cycle.stage ≡ FlushLines 0 0 → IsCovering c device device cycle
begins c device cycle orderly drew writing stage = record {
  drew = drew;
  layout = ap (λ (p : Progress). p.layout) writing;
  no_failure = refl;
  words = refl;
  come = subst (HasCome c (lines_touched cycle.sessions c.sessions.dirty) device device cycle.writing) (sym stage) (
    record { within = omega arith; below = λ i line less at. absurd (omega (arith, less)); others = λ i line le at. omega arith },
    writing,
    λ q shown works. record { shown = shown; flushed = closing-flushes.begins q device; images = leaves_refl device (StandsClosing q) orderly (stands-closing c device q shown) },
  );
}

module _ (c : VolatileState) (before now : Device) (cycle : Cycling) (so_far : IsCovering c before now cycle) (rests : c.cycle ≡ None) (stamped : list_all is_stamped (map plain_drawn c.sessions.drawn.commits) ≡ true) (numbered : c.sessions.numbers.record.gate + 1 < 2 ^ 62) where
  abbrev lines : List ℕ
  lines = lines_touched cycle.sessions c.sessions.dirty

  -- ---- what a tick asks

  pub sized : ∥ ShowsSome c before ∥₁ → IsOrderly before → now.words ≡ total_words cycle.writing.layout
  sized some orderly = so_far.words ∙ words-of c before some orderly ∙ ap total_words (sym so_far.layout)

  pub line-fits : ∥ ShowsSome c before ∥₁ → IsOrderly before → (line : ℕ) → line_from lines cycle.stage ≡ Some line → 8 * line < now.words
  line-fits some orderly line is = by cycle.stage is
    where
      by : (stage : CycleStage) → line_from lines stage ≡ Some line → 8 * line < now.words
      by WriteRecord is = absurd (cc is)
      by (FlushLines count from) is = ∥∥₁_elim some le_prop (λ shown.
          let low = line-below c before shown.0 cycle.sessions shown.1 so_far.drew from line is in
          omega (arith, low, so_far.words, words-are shown.1.shown.hidden.origin shown.0 before orderly shown.1.shown.upholds))

  module _ (new : Device) (orderly : IsOrderly now) (orderly' : IsOrderly new) where
    -- ---- a tick

    module _ (unfinished : cycle.writing.stage ≢ Done) (rising : (count from : ℕ) → cycle.stage ≡ FlushLines count from → are_rising lines ≡ true) (made : new ≡ applied (operation_in lines cycle) now) where
      module _ (count from : ℕ) (rises : are_rising lines ≡ true) (come : HasCome c lines before now cycle.writing (FlushLines count from)) where
        -- the next line
        module _ (line : ℕ) (found : find (nat_le from) lines ≡ Some line) (flushes : new ≡ flushed committer line now) where
          next-is : slice_get lines count ≡ Some line
          next-is = sym (find-cut lines count from come.0) ∙ found

          line-of : (q : State) → Shows c now q → (l : Line) × (slice_get (lines_in q (drawn_of q)) count ≡ Some l) × (line_number q.layout l ≡ line)
          line-of q shown = by (slice_get (lines_in q (drawn_of q)) count) refl (sym (slice_get-map (line_number q.layout) (lines_in q (drawn_of q)) count) ∙ ap (λ (ls : List ℕ). slice_get ls count) (sym (lines-are c now q cycle.sessions shown so_far.drew rises)) ∙ next-is)
            where
              by : (o : Option Line) → slice_get (lines_in q (drawn_of q)) count ≡ o → option_map (line_number q.layout) o ≡ Some line → (l : Line) × (slice_get (lines_in q (drawn_of q)) count ≡ Some l) × (line_number q.layout l ≡ line)
              by None at is = absurd (cc is)
              by (Some l) at is = (l, at, cc is)

          one-flushed : IsCovering c before new (record cycle { stage = FlushLines (count + 1) (line + 1) })
          one-flushed = record {
            drew = so_far.drew;
            layout = so_far.layout;
            no_failure = ap (λ (d : Device). d.failures) flushes ∙ so_far.no_failure;
            words = ap (λ (d : Device). d.words) flushes ∙ so_far.words;
            come = (
              cut-next lines count from line rises come.0 next-is,
              come.1,
              λ q shown works.
                  let at = come.2 q shown works in
                  let l = line-of q at.shown in
                  let same : new ≡ flushed committer (line_number q.layout l.0) now = flushes ∙ ap (λ (n : ℕ). flushed committer n now) (sym l.2) in
                  let went = closing-flushes.line at.shown.shown.hidden.origin q count l.0 now new orderly orderly' (is-closing c now q at.shown works rests stamped) l.1 same at.flushed in
                  let next : 1 + count ≡ count + 1 = omega arith in
                  record { shown = moved c now new q at.shown went.0.closing.upholds; flushed = subst (AreFlushed q new) next went.1; images = leaves_trans at.images went.0.images },
            );
          }

        -- the fence after the last
        module _ (none : find (nat_le from) lines ≡ None) (fences : new ≡ fenced committer now) where
          all-fenced : IsCovering c before new (record cycle { stage = WriteRecord })
          all-fenced = record {
            drew = so_far.drew;
            layout = so_far.layout;
            no_failure = ap (λ (d : Device). d.failures) fences ∙ so_far.no_failure;
            words = ap (λ (d : Device). d.words) fences ∙ so_far.words;
            come = record {
              between = new;
              persists = λ q shown works.
                  let at = come.2 q shown works in
                  let counted : count ≡ length lines = cut-whole lines count from come.0 (sym (find-cut lines count from come.0) ∙ none) in
                  let whole : count ≡ length (lines_in q (drawn_of q)) = counted ∙ ap length (lines-are c now q cycle.sessions at.shown so_far.drew rises) ∙ length-map (lines_in q (drawn_of q)) (line_number q.layout) in
                  let went = closing-flushes.fence at.shown.shown.hidden.origin q now new orderly orderly' (is-closing c now q at.shown works rests stamped) fences (subst (AreFlushed q now) whole at.flushed) in
                  record { shown = moved c now new q at.shown went.0.closing.upholds; persisted = went.1; images = leaves_trans at.images went.0.images };
              run = written-none c.sessions.numbers.geometry (last_record c) cycle.writing orderly' come.1;
              staged = subst IsStage (sym (ap (λ (p : Progress). p.stage) come.1)) (omega arith, omega arith);
            };
          }

        flushes-on : (o : Option ℕ) → find (nat_le from) lines ≡ o → new ≡ applied (flush_or_fence o) now → IsCovering c before new (record cycle { stage = next_at count o })
        flushes-on (Some line) found flushes = one-flushed line found flushes
        flushes-on None none fences = all-fenced none fences

      writes-on : IsRecording c before now cycle.writing → new ≡ applied (operation_of cycle.writing) now → IsCovering c before new (record cycle { writing = advanced cycle.writing; stage = WriteRecord })
      writes-on at operates =
          record {
            drew = so_far.drew;
            layout = so_far.layout;
            no_failure = none_failed cycle.writing now new unfinished operates ∙ so_far.no_failure;
            words = same_words cycle.writing now new operates ∙ so_far.words;
            come = record {
              between = at.between;
              persists = at.persists;
              run = written-more c.sessions.numbers.geometry (last_record c) cycle.writing (advanced cycle.writing) at.run at.staged unfinished orderly' operates refl;
              staged = staged-next cycle.writing.stage at.staged;
            };
          }

      pub ticks : (after : Cycling) → after ≡ ticked_in lines cycle → IsCovering c before new after
      ticks after is = grind (arith, flushes-on, writes-on) steps 800000

      -- fewer are left
      pub comes-closer : (after : Cycling) → after ≡ ticked_in lines cycle → ticks_left c.sessions.dirty (Some after) < ticks_left c.sessions.dirty (Some cycle)
      comes-closer after is = grind (arith, slice_get_within, find-cut, fewer_left) steps 800000

    -- ---- a tick that fails

    module _ (unfinished : cycle.writing.stage ≢ Done) (fails : new ≡ failed now) where
      images-at : (stage : CycleStage) → HasCome c lines before now cycle.writing stage → (q : State) → Shows c before q → q.failed ≡ false → LeavesOnly before new (StandsClosing q)
      images-at (FlushLines count from) come q shown works =
          let at = come.2 q shown works in
          leaves_trans at.images (closing-flushes.failing at.shown.shown.hidden.origin q now new orderly orderly' (is-closing c now q at.shown works rests stamped) fails)
      images-at WriteRecord come q shown works =
          let at = come.persists q shown works in
          let stop = written-stops c.sessions.numbers.geometry (last_record c) cycle.writing come.run come.staged unfinished orderly' fails in
          leaves_trans at.images (record-images c come.between new rests stamped numbered q at.shown works at.persisted (record-spares_stopped c.sessions.numbers.geometry (last_record c) stop) (λ old next. record-images_stopped c.sessions.numbers.geometry (last_record c) old next stop))

      pub fails-then : (fault : Fault) → fault ≡ DeviceFault → ClosePhaseFailed c before new fault
      fails-then fault is = record { fault_is = is; failure = omega (arith, so_far.no_failure, ap (λ (d : Device). d.failures) fails); images = images-at cycle.stage so_far.come }

  -- ---- the end

  pub ends : cycle.writing.stage ≡ Done → CloseCovered c before now
  ends done = by cycle.stage so_far.come
    where
      by : (stage : CycleStage) → HasCome c lines before now cycle.writing stage → CloseCovered c before now
      by (FlushLines count from) come = let clash : StoreBody 1 ≡ Done = sym (ap (λ (p : Progress). p.stage) come.1) ∙ done in absurd (cc clash)
      by WriteRecord come =
          let layout = c.sessions.numbers.geometry in
          let run = written-whole layout (last_record c) cycle.writing come.run done in
          record {
            no_failure = so_far.no_failure;
            images = λ q shown works.
                let at = come.persists q shown works in
                leaves_trans at.images (record-images c come.between now rests stamped numbered q at.shown works at.persisted (record-spares layout (last_record c) run) (λ old next. images_of_record layout (last_record c) old next run));
            closed = λ q shown works.
                let at = come.persists q shown works in
                record-closed c come.between now rests stamped numbered q at.shown works at.persisted (record-spares layout (last_record c) run) (λ old next. record-holds layout (last_record c) old next run);
          }
