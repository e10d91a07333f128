-- A tick of the pending batch, by the stage that its cycle is in.
use Rattle.std.proofs.Common.{◌≡◌, ◌≢◌, inl, inr, ℕ, ◌+◌, ◌*◌, ◌/◌, ◌<◌, Bool, true, false, ◌&&◌, List, [], ◌∷◌, length, map, filter, get_or, refl, sym, ◌∙◌, ap, subst, arith, nat_eq, nat_lt, nat_le}
use Rattle.std.specs.Prelude.{Option, Some, None, slice_get, find}
use Rattle.std.specs.List.{list_any, list_all}
use Rattle.std.specs.Option.{option_map}
use Rattle.std.proofs.lemmas.Bool.{and_parts, cases_lt, eqb-true, eq-eqb, or_left, or_right, ltb-true}
use Rattle.std.proofs.lemmas.List.{length-map}
use Rattle.std.proofs.lemmas.Option.{slice_get-map, slice_get-get_or}
use Rattle.base.specs.declared.fault.Fault.{Fault}
use Rattle.base.specs.declared.fault.Fault.TheVariants.{Device as DeviceFault}
use Rattle.base.specs.declared.step.Step.TheVariants.{Commit as CommitTick}
use Rattle.base.specs.declared.step.Stage.{Stage}
use Rattle.base.specs.declared.step.Stage.TheVariants.{LineFlushed, LinesFenced}
use Rattle.base.specs.declared.step.Reply.{Reply}
use Rattle.base.specs.declared.step.Reply.TheVariants.{Ticked, Covered, Refused}
use Rattle.base.specs.Actors.{committer}
use Rattle.base.specs.Batches.{Batch}
use Rattle.base.specs.Commits.{Commit}
use Rattle.base.specs.Layout.{total_words}
use Rattle.base.specs.Records.{Record, is_committed, are_rising}
use Rattle.machine.specs.Machine.{State, Hand, Drawn, Stepped, drawn_of, batch_of, state_covered}
use Rattle.pmem.specs.Device.{Device, IsOrderly, failed}
use Rattle.pmem.specs.Trace.{Operation, flush_op, fence_op, failure, applied}
use Rattle.log_area.specs.declared.stage.WritingStage.{WritingStage}
use Rattle.log_area.specs.declared.stage.WritingStage.TheVariants.{FenceGate, Done}
use Rattle.log_area.specs.Stages.{reached_by, operations_before}
use Rattle.log_area.specs.Writings.{operation_of}
use Rattle.txn.specs.declared.drawn.DrawnCommit.{DrawnCommit}
use Rattle.txn.proofs.Passed.{filter-map}
use Rattle.dirty_table.specs.declared.sessions.SessionSet.{SessionSet}
use Rattle.dirty_table.specs.Touches.{has, lines_touched}
use Rattle.group_commit.specs.declared.stage.CycleStage.{CycleStage}
use Rattle.group_commit.specs.declared.stage.CycleStage.TheVariants.{FlushLines, WriteRecord}
use Rattle.group_commit.specs.Cycles.{Cycling, line_from, operation_at, operation_in, reached_at, reached_in, flushed_or_fenced, ticked_at, ticked_in}
use Rattle.group_commit.specs.Laws.{IsAt, IsAfter}
use Rattle.group_commit.proofs.Counting.{ticks-are_counted}
use Rattle.state_invariant.specs.Kept.{Origin}
use Rattle.device_invariant.specs.Log.{Line, lines_in, line_number, writing_at}
use Rattle.device_invariant.specs.Laws.{one_tick_on}
use Rattle.device_invariant.specs.Upholds.{Upholds}
use Rattle.simulation.specs.cycles.Leads.{Ticks, FailsTick}
use Rattle.simulation.specs.cycles.Laws.{HasInHand}
use Rattle.simulation.proofs.cycles.covers.LineOrder.{lines-are_in_order, lines-within}
use Rattle.simulation.proofs.cycles.covers.Stages.{more_left}
use Rattle.simulation.proofs.cycles.covers.Ticks.{line-ticks, fence-ticks, operation-ticks, covering-ticks, failing-ticks}
use Rattle.simulation.proofs.sessions.Batches.{covers-batch}
use Rattle.session_steps.specs.declared.sessions.Sessions.{Sessions}
use Rattle.simulation.specs.cycles.Batches.{line_numbers}
use Rattle.session_steps.specs.Shows.{plain_drawn}
use Rattle.session_steps.specs.Steps.{is_by_actor, RunsBy}
use Rattle.session_steps.specs.Covering.{IsOf, MayCoverSome, ShowsCovered}
use Rattle.session_steps.proofs.covers.Lines.{member, table-lines}
use Rattle.session_steps.proofs.AnyHand.{shows-hand, shows-failed}
use Rattle.session_steps.proofs.Effects.{all-made, last-failed}
use Rattle.session_steps.proofs.reads.Rows.{words-are}
use Rattle.room.specs.Committing.{HoldsHand, HoldsCycle, ShowsIn}
use Rattle.room.specs.Steps.{StepsToIn}
use Rattle.room.specs.Closing.{left_at}

-- ---- the pending batch

-- with a cycle there is a pending batch
pub record Held (q : State) (drawn : List DrawnCommit) (cycle : Cycling) : Type 0 where
  pub hand : Hand
  pub in_hand : q.hand ≡ Some hand
  pub holds : HoldsHand q drawn hand cycle

pub held : (q : State) (drawn : List DrawnCommit) (cycle : Cycling) → HoldsCycle q drawn q.hand (Some cycle) → Held q drawn cycle
held q drawn cycle holds = grind (arith) steps 800000

-- ---- lists

pub found-any : (p : ℕ → Bool) (x : ℕ) (xs : List ℕ) → find p xs ≡ Some x → list_any (λ y. nat_eq y x) xs ≡ true
found-any p x [] found = absurd (cc found)
found-any p x (y ∷ ys) found = grind (arith, found-any p x ys, or_left, eq-eqb, or_right)

pub any-has : (p : ℕ → Bool) (x : ℕ) (xs : List ℕ) → list_any (λ y. nat_eq y x) xs ≡ true → list_all p xs ≡ true → p x ≡ true
any-has p x [] any all = grind (arith) steps 800000
any-has p x (y ∷ ys) any all = grind (arith, and_parts, eqb-true, any-has p x ys) steps 800000

-- ---- how many ticks are left

-- with those that were made they are as many as the whole cycle has, and one more
left-is : (lines : List ℕ) (ticks : ℕ) (cycle : Cycling) → IsAfter lines ticks cycle → ticks < length lines + 41 → left_at (length lines) cycle.writing.stage cycle.stage + ticks ≡ length lines + 42
left-is lines ticks cycle at low = grind (arith) steps 800000

-- ---- the last stage

gate-of : (stage : WritingStage) → None ≡ reached_by stage → stage ≢ Done → stage ≡ FenceGate
gate-of a is un = grind (arith)

writes-last : (done : ℕ) (o : Option ℕ) → None ≡ flushed_or_fenced done o → ⊥
writes-last done a is = grind (arith)

-- ---- what a tick leaves of a cycle

record LeavesCycle (cycle new : Cycling) : Type 0 where
  pub batch : new.batch ≡ cycle.batch
  pub sessions : new.sessions ≡ cycle.sessions
  pub layout : new.writing.layout ≡ cycle.writing.layout
  pub target : new.writing.target ≡ cycle.writing.target

ticked-leaves : (lines : List ℕ) (cycle : Cycling) → LeavesCycle cycle (ticked_in lines cycle)
ticked-leaves lines cycle = grind (arith) steps 800000

-- ---- whose operation it is

pub by-committer : (lines : List ℕ) (cycle : Cycling) → is_by_actor (Some committer) (operation_in lines cycle) ≡ true
by-committer lines cycle = grind (arith) steps 800000

module _ (s : Sessions) (cycle : Cycling) (before : Device) (orderly : IsOrderly before) (q : State) (shows : ShowsIn s (Some cycle) before q) where
  abbrev ds : List DrawnCommit
  ds = s.drawn.commits

  abbrev table : List ℕ
  table = lines_touched cycle.sessions s.dirty

  abbrev o : Origin
  o = shows.shown.hidden.origin

  in-hand : Held q ds cycle
  in-hand = held q ds cycle shows.cycle_is

  abbrev hand : Hand
  hand = in-hand.hand

  h : HoldsHand q ds in-hand.hand cycle
  h = in-hand.holds

  upholds : Upholds o q before
  upholds = shows.shown.upholds

  drawn : q.drawn ≡ map plain_drawn ds
  drawn = ap (λ (p : State). p.drawn) shows.shown.plain

  -- the lines of the batch, and their numbers
  abbrev lines : List Line
  lines = lines_in q in-hand.hand.commits

  abbrev numbers : List ℕ
  numbers = line_numbers q in-hand.hand.commits

  -- the batch has those of the drawn commits that its record commits
  commits-are : in-hand.hand.commits ≡ filter (λ (c : Commit). is_committed in-hand.hand.target c.timestamp) (drawn_of q)
  commits-are =
      (covers-batch o q in-hand.hand upholds.keeps (upholds.keeps.numbers.hand in-hand.hand in-hand.in_hand)).batch
      ∙ sym (filter-map (λ (d : Drawn). d.commit) (λ (c : Commit). is_committed in-hand.hand.target c.timestamp) q.drawn)

  counted : length numbers ≡ length lines
  counted = length-map lines (line_number q.layout)

  -- ---- what the tick asks

  pub unfinished : cycle.writing.stage ≢ Done
  unfinished = h.unfinished

  pub sized : before.words ≡ total_words cycle.writing.layout
  sized = words-are o q before orderly upholds ∙ ap total_words (sym h.layout)

  pub line-fits : (line : ℕ) → line_from table cycle.stage ≡ Some line → 8 * line < before.words
  line-fits line is = by cycle.stage is
    where
      by : (stage : CycleStage) → line_from table stage ≡ Some line → 8 * line < before.words
      by WriteRecord is = absurd (cc is)
      by (FlushLines done from) is =
          let any = sym (member q ds s.dirty cycle.sessions (is_committed in-hand.hand.target) drawn shows.shown.agrees.lines h.sessions line) ∙ found-any (nat_le from) line table is in
          let low : line < total_words q.layout / 8 = ltb-true line (total_words q.layout / 8) (any-has (λ x. nat_lt x (total_words q.layout / 8)) line _ any (lines-within q _)) in
          let size = words-are o q before orderly upholds in
          omega (arith, low, size)

  -- ---- the lines of the table

  table-is : are_rising table ≡ true → table ≡ numbers
  table-is rising = table-lines q ds s.dirty cycle.sessions (is_committed in-hand.hand.target) drawn shows.shown.agrees.lines h.sessions rising ∙ ap (line_numbers q) (sym commits-are)

  -- the tick is the same on the numbers of the batch's lines
  record IsSame : Type 0 where
    pub operation : operation_in table cycle ≡ operation_in numbers cycle
    pub reached : reached_in table cycle ≡ reached_in numbers cycle
    pub ticked : ticked_in table cycle ≡ ticked_in numbers cycle
    pub left : left_at (length table) cycle.writing.stage cycle.stage ≡ left_at (length numbers) cycle.writing.stage cycle.stage

  module _ (rising : (done from : ℕ) → cycle.stage ≡ FlushLines done from → are_rising table ≡ true) where
    same : IsSame
    same = grind (arith, table-is) steps 800000

    module _ (now : Device) (orderly' : IsOrderly now) (works : q.failed ≡ false) (made : now ≡ applied (operation_in table cycle) before) where
      made-on : (op : Operation) → operation_in numbers cycle ≡ op → now ≡ applied op before
      made-on op is = made ∙ ap (λ (p : Operation). applied p before) (same.operation ∙ is)

      has-hand : (n : ℕ) → hand.ticks ≡ n → HasInHand o q hand n before
      has-hand n is = record { works = works; in_hand = in-hand.in_hand; ticks = is; upholds = upholds }

      writing-is : cycle.writing ≡ writing_at q hand cycle.writing.stage
      writing-is = λ i. record { layout = h.layout i; target = h.target i; stage = cycle.writing.stage }

      runs : RunsBy (Some committer) before now
      runs = record { operations = operation_in table cycle ∷ []; made = made; by_actor = ap (λ (b : Bool). b && true) (by-committer table cycle) }

      -- ---- a tick that doesn't cover

      module _ (stage : Stage) (reached : Some stage ≡ reached_in table cycle) where
        ticks-as : (other : Stage) → reached_in numbers cycle ≡ Some other → Ticks o q (one_tick_on q hand) (Ticked other) before now → Ticks o q (one_tick_on q hand) (Ticked stage) before now
        ticks-as other is ticks =
            let both : Some stage ≡ Some other = reached ∙ same.reached ∙ is in
            let e : stage ≡ other = cc both in
            subst (λ (x : Stage). Ticks o q (one_tick_on q hand) (Ticked x) before now) (sym e) ticks

        ticks : Ticks o q (one_tick_on q hand) (Ticked stage) before now
        ticks = by cycle.stage refl (subst (IsAt numbers hand.ticks cycle.writing) refl h.ticks)
          where
            by : (at : CycleStage) → cycle.stage ≡ at → IsAt numbers hand.ticks cycle.writing at → Ticks o q (one_tick_on q hand) (Ticked stage) before now
            by WriteRecord is so =
                let reaches : reached_by cycle.writing.stage ≡ Some stage = sym (ap (reached_at numbers cycle.writing) is) ∙ sym (reached ∙ same.reached) in
                operation-ticks o q hand cycle.writing.stage stage before now orderly orderly' so.1 reaches
                (has-hand _ (so.0 ∙ ap (λ (n : ℕ). 2 + n + operations_before cycle.writing.stage) counted))
                (made-on (operation_of (writing_at q hand cycle.writing.stage)) (ap (operation_at numbers cycle.writing) is ∙ ap operation_of writing-is))
            by (FlushLines done from) is so = elim (cases_lt done (length numbers)) [ inl more ↦ line more | inr least ↦ fence (omega (arith, so.1.within, least)) ]
              where
                line : done < length numbers → Ticks o q (one_tick_on q hand) (Ticked stage) before now
                line more =
                    let x : Line = get_or lines done (record { slot = 0; part = 0 }) in
                    let at : slice_get lines done ≡ Some x = slice_get-get_or lines done _ (omega (arith, more, counted)) in
                    let told = ticks-are_counted.line numbers cycle done (line_number q.layout x) (subst (λ (n : ℕ). IsAfter numbers n cycle) so.0 h.ticks) (slice_get-map (line_number q.layout) lines done ∙ ap (option_map (line_number q.layout)) at) in
                    ticks-as (LineFlushed done) told.1 (line-ticks o q hand done x before now orderly orderly' (has-hand _ so.0) at (made-on (flush_op committer (line_number q.layout x)) told.0))

                fence : done ≡ length numbers → Ticks o q (one_tick_on q hand) (Ticked stage) before now
                fence all =
                    let n : hand.ticks ≡ 1 + length numbers = so.0 ∙ ap (λ (n : ℕ). 1 + n) all in
                    let told = ticks-are_counted.fence numbers cycle (subst (λ (n : ℕ). IsAfter numbers n cycle) n h.ticks) in
                    ticks-as LinesFenced told.1 (fence-ticks o q hand before now orderly orderly' (has-hand _ (n ∙ ap (λ (n : ℕ). 1 + n) counted)) (made-on (fence_op committer) told.0))

        module _ (new : Cycling) (next : new ≡ ticked_in table cycle) where
          kept : LeavesCycle cycle new
          kept = subst (LeavesCycle cycle) (sym next) (ticked-leaves table cycle)

          more : IsAfter numbers (hand.ticks + 1) new
          more = subst (IsAfter numbers (hand.ticks + 1)) (sym (next ∙ same.ticked)) (ticks-are_counted.goes_on numbers hand.ticks cycle (lines-are_in_order.rising q hand.commits) h.unfinished h.ticks)

          open-still : new.writing.stage ≢ Done
          open-still = subst (λ (c : Cycling). c.writing.stage ≢ Done) (sym (next ∙ same.ticked)) (by cycle.stage refl (subst (IsAt numbers hand.ticks cycle.writing) refl h.ticks))
            where
              by : (at : CycleStage) → cycle.stage ≡ at → IsAt numbers hand.ticks cycle.writing at → (ticked_at numbers cycle at).writing.stage ≢ Done
              by (FlushLines done from) is so = h.unfinished
              by WriteRecord is so = more_left cycle.writing.stage stage (sym (ap (reached_at numbers cycle.writing) is) ∙ sym (reached ∙ same.reached))

          holds-on : HoldsHand (one_tick_on q hand) ds (record hand { ticks = hand.ticks + 1 }) new
          holds-on = record {
            sessions = λ n. ap (λ (xs : SessionSet). has xs n) kept.sessions ∙ h.sessions n;
            batch = kept.batch ∙ h.batch;
            layout = kept.layout ∙ h.layout;
            target = kept.target ∙ h.target;
            unfinished = open-still;
            ticks = more;
          }

          pub goes-on : (q' : State) × StepsToIn s (Some new) before now CommitTick (Ticked stage) q q'
          goes-on = (
            one_tick_on q hand,
            record {
              stepped = ticks.stepped;
              shows = record { shown = shows-hand s before now q (Some (record hand { ticks = hand.ticks + 1 })) shows.shown ticks.leads.upholds; cycle_is = holds-on };
              effect = all-made ticks.leads.images ticks.no_failure ticks.operations runs (λ fault told. absurd (cc told));
            },
          )

          new-left : left_at (length (lines_touched new.sessions s.dirty)) new.writing.stage new.stage ≡ left_at (length numbers) new.writing.stage new.stage
          new-left = grind (arith, kept, table-is) steps 800000

          -- fewer ticks are left
          pub comes-closer : left_at (length (lines_touched new.sessions s.dirty)) new.writing.stage new.stage < left_at (length table) cycle.writing.stage cycle.stage
          comes-closer =
              let low : hand.ticks + 1 < length numbers + 41 = ticks-are_counted.before numbers (hand.ticks + 1) new more open-still in
              grind (arith, more, h, same)

      -- ---- the tick that covers

      module _ (last : None ≡ reached_in table cycle) (new : Cycling) (next : new ≡ ticked_in table cycle) (batch : Batch) (ruling : Record) (batch-is : batch ≡ new.batch) (ruling-is : ruling ≡ new.writing.target) where
        left-cycle : LeavesCycle cycle new
        left-cycle = subst (LeavesCycle cycle) (sym next) (ticked-leaves table cycle)

        whole : batch ≡ batch_of q hand
        whole = batch-is ∙ left-cycle.batch ∙ h.batch

        of-batch : IsOf q hand ruling
        of-batch = record { in_hand = in-hand.in_hand; target = sym (ruling-is ∙ left-cycle.target ∙ h.target) }

        pub may-cover : MayCoverSome s ruling
        may-cover = grind (arith, upholds, of-batch) steps 800000

        ends : (cycle.stage ≡ WriteRecord) × (cycle.writing.stage ≡ FenceGate)
        ends = by cycle.stage refl (last ∙ same.reached)
          where
            by : (at : CycleStage) → cycle.stage ≡ at → None ≡ reached_at numbers cycle.writing cycle.stage → (cycle.stage ≡ WriteRecord) × (cycle.writing.stage ≡ FenceGate)
            by (FlushLines done from) is none = absurd (writes-last done (find (nat_le from) numbers) (none ∙ ap (reached_at numbers cycle.writing) is))
            by WriteRecord is none = (is, gate-of cycle.writing.stage (none ∙ ap (reached_at numbers cycle.writing) is) h.unfinished)

        covering : Ticks o q (state_covered q hand) (Covered (batch_of q hand)) before now
        covering =
            let at : IsAt numbers hand.ticks cycle.writing WriteRecord = subst (IsAt numbers hand.ticks cycle.writing) ends.0 h.ticks in
            covering-ticks o q hand before now orderly orderly'
            (has-hand _ (at.0 ∙ λ i. 2 + counted i + operations_before (ends.1 i)))
            (made-on (fence_op committer) (ap (operation_at numbers cycle.writing) ends.0 ∙ λ i. operation_of (record { layout = cycle.writing.layout; target = cycle.writing.target; stage = ends.1 i })))

        pub covers : (after : Sessions) (left : Option Cycling) (reply : Reply) → ShowsCovered s after ruling → left ≡ None → reply ≡ Covered batch → (q' : State) × StepsToIn after left before now CommitTick reply q q'
        covers after left reply shown none is = (
          state_covered q hand,
          record {
            stepped = subst (λ (r : Reply). Stepped q CommitTick r (state_covered q hand)) (sym (is ∙ ap (λ (b : Batch). Covered b) whole)) covering.stepped;
            shows = record { shown = shown before now q hand shows.shown of-batch covering.leads.upholds; cycle_is = subst (λ (o : Option Cycling). HoldsCycle (state_covered q hand) after.drawn.commits None o) (sym none) tt };
            effect = all-made covering.leads.images covering.no_failure covering.operations runs (λ fault told. absurd (cc (is, told)));
          },
        )

  -- ---- the tick whose operation fails

  module _ (now : Device) (orderly' : IsOrderly now) (works : q.failed ≡ false) (fails : now ≡ failed before) (new : Cycling) (stays : new ≡ cycle) (fault : Fault) (is : fault ≡ DeviceFault) where
    failing : FailsTick o q before now
    failing = failing-ticks o q hand before now orderly orderly' record { works = works; in_hand = in-hand.in_hand; ticks = refl; upholds = upholds } fails

    holds-failed : HoldsHand (record q { failed = true }) ds hand cycle
    holds-failed = record { sessions = h.sessions; batch = h.batch; layout = h.layout; target = h.target; unfinished = h.unfinished; ticks = h.ticks }

    pub fails-on : (q' : State) × StepsToIn s (Some new) before now CommitTick (Refused fault) q q'
    fails-on = (
      record q { failed = true },
      record {
        stepped = subst (λ (f : Fault). Stepped q CommitTick (Refused f) (record q { failed = true })) (sym is) failing.stepped;
        shows = record {
          shown = shows-failed s before now q true shows.shown failing.leads.upholds;
          cycle_is = subst (λ (c : Cycling). HoldsCycle (record q { failed = true }) ds q.hand (Some c)) (sym stays) (subst (λ (o : Option Hand). HoldsCycle (record q { failed = true }) ds o (Some cycle)) (sym in-hand.in_hand) holds-failed);
        };
        effect = last-failed fault is refl (λ told same. cc same) failing.leads.images failing.failure failing.operations record { operations = failure ∷ []; made = fails; by_actor = refl };
      },
    )
