-- What is found over any number of lives is what lives of the machine leave.
use Rattle.std.proofs.Common.{◌≡◌, ◌⊎◌, inl, inr, ℕ, zero, suc, Bool, true, false, cond, List, [], ◌∷◌, ◌++◌, refl, sym, ◌∙◌, ap, subst, arith, append_assoc, append-nil, nat_le, ◌^◌, true≢false}
use Rattle.std.specs.Prelude.{Contains, Option, Some, None, Err, take}
use Rattle.std.proofs.Math.Logic.{∥∥₁_map, ∥∥₁_map₂}
use Rattle.std.proofs.lemmas.List.Elements.{Contains-append_cases, Contains-append_left, Contains-append_right}
use Rattle.base.specs.declared.fault.Fault.TheVariants.{Device as DeviceFault, Failed, TimestampsOut}
use Rattle.base.specs.declared.step.Step.{Step}
use Rattle.base.specs.declared.step.Step.TheVariants.{Begin, Get, Scan, Put, Delete, Draw, Stamp, Poll, Abort, End, Commit as CommitTick, Collect}
use Rattle.base.specs.declared.step.Reply.{Reply}
use Rattle.base.specs.declared.step.Stage.{Stage}
use Rattle.base.specs.Commits.{Commit, Writes, after}
use Rattle.base.specs.Images.{Image, opening_fault}
use Rattle.base.specs.Replies.{is_failure}
use Rattle.base.specs.Search.{some_if}
use Rattle.base.proofs.Options.{all_none, some_if-none}
use Rattle.base.specs.Stands.{Stands}
use Rattle.journal.specs.declared.images.Images.{Ghosts}
use Rattle.machine.specs.Lives.{World, IsWorld, Asked, Report, Opening, Opens, Fails, Life, Lives, RunsUp, StopsAt, EndsAs, left_out, numbers_of}
use Rattle.machine.specs.Machine.{State, Answers, Hand, Cover, answered, StandsAt, StandsWithin, StandsClosing, StandsUnder, closed, closing_fault, closing_gate, covers_at, covers_closing, of_hand, present, drawn_of, final, is_idle, next_state, next_stage, state_drawn, state_ticked, state_ticked_on, taken_in_hand, uncovered, writes_of}
use Rattle.machine.specs.Openings.{OpensAs, StandsOpening}
use Rattle.machine.specs.Replay.{answer, rows_among, scanned, written}
use Rattle.machine.proofs.collector.Visits.{visit-changes}
use Rattle.machine.proofs.reads.Scans.{scan-lists, tables-listed}
use Rattle.machine.proofs.Runs.{Answers-answer}
use Rattle.machine.proofs.lives.Laws.{lives-stand}
use Rattle.machine.proofs.lives.Lost.{lives-lived}
use Rattle.pmem.specs.Device.{Device, MightHaveLeft}
use Rattle.pmem.specs.Words.{image_of}
use Rattle.pmem.specs.declared.device.Pmem as pmem
use Rattle.pmem_file.specs.Devices.{MayFind, kept_at, state_of}
use Rattle.pmem_file.specs.Traces.{device_of as traced}
use Rattle.pmem_file.specs.declared.journaled.JournaledPmem.{JournaledPmem}
use Rattle.pmem_file.proofs.Since.{gate-survives}
use Rattle.room.specs.declared.room.Room.{Room}
use Rattle.room.specs.Room.{Shows}
use Rattle.room.specs.Runs.{InEach}
use Rattle.room.proofs.Runs.{leads-one}
use Rattle.room_logs.specs.Logs.{HasLog, Tells, ShowsOrFailed}
use Rattle.room_logs.proofs.Logs.{log-steps, log-tells, each-both}
use Rattle.session_laws.specs.Images.{StandsInLog}
use Rattle.session_laws.specs.Logs.{state_after, AreMade, changes, is_refusal}
use Rattle.session_laws.proofs.Logs.{after-append, answer-counts, made-join, made-parts}
use Rattle.session_laws.proofs.Sessions.{grows}
use Rattle.file_laws.specs.Found.{OpensFirst, covers_within}
use Rattle.file_laws.specs.Lives.{Stops, between, within, closing, IsLeft, IsLeftNext, opening, living, first, further, LeadsTo, StaysFound}
use Rattle.file_laws.proofs.Finding.{Found, orderly, first-opened, left-since, logged-now, logged-within, logged-closing}

-- ---- what may rule within a step may rule before it, or after it with the same commits

-- nothing new may rule
rules-alike : (q q' : State) (cover : Cover) → q'.ruling ≡ q.ruling → q'.history ≡ q.history → of_hand q q'.hand ≡ of_hand q q.hand → Contains (covers_within q q') cover → Contains (covers_at q) cover
rules-alike q q' cover ruling history hand has = by (Contains-append_cases (covers_at q) (of_hand q q'.hand ++ present q' ∷ []) cover has)
  where
    last : Contains (of_hand q q.hand) cover ⊎ Contains (present q ∷ []) cover → Contains (covers_at q) cover
    last (inl here) = Contains-append_right (present q ∷ []) (of_hand q q.hand) cover here
    last (inr here) = Contains-append_left (present q ∷ []) (of_hand q q.hand) cover here

    same : of_hand q q'.hand ++ present q' ∷ [] ≡ of_hand q q.hand ++ present q ∷ []
    same = ap (λ (l : List Cover). l ++ present q' ∷ []) hand ∙ ap (λ (c : Cover). of_hand q q.hand ++ c ∷ []) (λ i. record { ruled_by = ruling i; commits = history i })

    by : Contains (covers_at q) cover ⊎ Contains (of_hand q q'.hand ++ present q' ∷ []) cover → Contains (covers_at q) cover
    by (inl here) = here
    by (inr here) = last (Contains-append_cases (of_hand q q.hand) (present q ∷ []) cover (subst (λ (l : List Cover). Contains l cover) same here))

-- the two states have the same layout and next timestamp, and the same is drawn
record Alike (q q' : State) : Type 0 where
  layout : q'.layout ≡ q.layout
  drawn : drawn_of q' ≡ drawn_of q
  next : q'.next ≡ q.next

-- what may rule within a step may rule before it; or after it, if it began a batch
abbrev Shifts : State → State → Cover → Type 0
Shifts q q' cover = Contains (covers_at q) cover ⊎ (Alike q q' × Contains (covers_at q') cover)

shift-drawn : (q : State) (n : ℕ) (writes : Writes) (cover : Cover) → Contains (covers_within q (state_drawn q n writes)) cover → Shifts q (state_drawn q n writes) cover
shift-drawn q n [] cover has = inl (rules-alike q (state_drawn q n []) cover refl refl refl has)
shift-drawn q n (write ∷ writes) cover has = inl (rules-alike q (state_drawn q n (write ∷ writes)) cover refl refl refl has)

-- a batch is begun
shift-taken : (q : State) (hand : Hand) (cover : Cover) → Contains (covers_within q (record q { hand = Some hand })) cover → Shifts q (record q { hand = Some hand }) cover
shift-taken q hand cover has = by (Contains-append_cases (covers_at q) (of_hand q (Some hand) ++ present q ∷ []) cover has)
  where
    q' : State
    q' = record q { hand = Some hand }

    last : Contains (of_hand q (Some hand)) cover ⊎ Contains (present q ∷ []) cover → Shifts q q' cover
    last (inl here) = inr (record { layout = refl; drawn = refl; next = refl }, Contains-append_right (present q ∷ []) (of_hand q (Some hand)) cover here)
    last (inr here) = inl (Contains-append_left (present q ∷ []) (of_hand q q.hand) cover here)

    by : Contains (covers_at q) cover ⊎ Contains (of_hand q (Some hand) ++ present q ∷ []) cover → Shifts q q' cover
    by (inl here) = inl here
    by (inr here) = last (Contains-append_cases (of_hand q (Some hand)) (present q ∷ []) cover here)

shift-first : (q : State) (b : Bool) (cover : Cover) → Contains (covers_within q (cond b q (record q { hand = Some (taken_in_hand q) }))) cover → Shifts q (cond b q (record q { hand = Some (taken_in_hand q) })) cover
shift-first q true cover has = inl (rules-alike q q cover refl refl refl has)
shift-first q false cover has = shift-taken q (taken_in_hand q) cover has

shift-on : (q : State) (hand : Hand) (stage : Option Stage) (cover : Cover) → q.hand ≡ Some hand → Contains (covers_within q (state_ticked_on q hand stage)) cover → Shifts q (state_ticked_on q hand stage) cover
shift-on q hand (Some stage) cover is has = inl (rules-alike q (state_ticked_on q hand (Some stage)) cover refl refl (ap (of_hand q) (sym is)) has)
shift-on q hand None cover is has = inl (by (Contains-append_cases (covers_at q) (over ∷ []) cover has))
  where
    over : Cover
    over = record { ruled_by = hand.target; commits = q.history ++ hand.commits }

    by : Contains (covers_at q) cover ⊎ Contains (over ∷ []) cover → Contains (covers_at q) cover
    by (inl here) = here
    by (inr here) = Contains-append_right (present q ∷ []) (of_hand q q.hand) cover (subst (λ (h : Option Hand). Contains (of_hand q h) cover) (sym is) here)

shift-ticked : (q : State) (hand : Option Hand) (cover : Cover) → q.hand ≡ hand → Contains (covers_within q (state_ticked q hand)) cover → Shifts q (state_ticked q hand) cover
shift-ticked q None cover is has = shift-first q (is_idle q) cover has
shift-ticked q (Some hand) cover is has = shift-on q hand (next_stage q hand) cover is has

shift : (q : State) (step : Step) (cover : Cover) → Contains (covers_within q (next_state q step)) cover → Shifts q (next_state q step) cover
shift q Begin cover has = inl (rules-alike q (next_state q Begin) cover refl refl refl has)
shift q (Get n key) cover has = inl (rules-alike q q cover refl refl refl has)
shift q (Scan n table lo hi) cover has = inl (rules-alike q q cover refl refl refl has)
shift q (Put n key row) cover has = inl (rules-alike q (next_state q (Put n key row)) cover refl refl refl has)
shift q (Delete n key) cover has = inl (rules-alike q (next_state q (Delete n key)) cover refl refl refl has)
shift q (Draw n) cover has = shift-drawn q n (writes_of (q.sessions n)) cover has
shift q (Stamp n) cover has = inl (rules-alike q (next_state q (Stamp n)) cover refl refl refl has)
shift q (Poll n) cover has = inl (rules-alike q (next_state q (Poll n)) cover refl refl refl has)
shift q (Abort n) cover has = inl (rules-alike q (next_state q (Abort n)) cover refl refl refl has)
shift q (End n) cover has = inl (rules-alike q (next_state q (End n)) cover refl refl refl has)
shift q CommitTick cover has = shift-ticked q q.hand cover refl has
shift q Collect cover has = let same = visit-changes q in inl (rules-alike q (next_state q Collect) cover same.ruling same.history (ap (of_hand q) same.hand) has)

-- ---- a stop within a log is a stop at the end of a log

under-alike : (q q' : State) (cover : Cover) (image : Image) → Alike q q' → StandsUnder q cover image → StandsUnder q' cover image
under-alike q q' cover image alike under = record {
  stands = subst (λ (l : List Commit). Stands image cover.commits l q'.next) (sym alike.drawn) (subst (λ (n : ℕ). Stands image cover.commits (drawn_of q) n) (sym alike.next) under.stands);
  ruled = under.ruled;
  laid_out = under.laid_out ∙ sym alike.layout;
}

-- the steps up to the stop, and what they lead to
record StopsAfter (q : State) (image : Image) : Type 0 where
  part : List Step
  made : AreMade q part
  stands : StandsAt (state_after q part) image

stops-after : (q : State) (log : List Step) (image : Image) → AreMade q log → StandsInLog q log image → StopsAfter q image
stops-after q log image m s =
    let parts = made-parts q s.seen s.more (subst (AreMade q) s.log_is m) in
    by s.more parts.0 parts.1 s.stands
  where
    a : State
    a = state_after q s.seen

    by : (more : List Step) → AreMade q s.seen → AreMade a more → StandsWithin a (state_after q (s.seen ++ take 1 more)) image → StopsAfter q image
    by [] before none (cover, has, under) =
        let same : state_after q (s.seen ++ []) ≡ a = ap (state_after q) (append-nil s.seen) in
        record { part = s.seen; made = before; stands = (cover, rules-alike a a cover refl refl refl (subst (λ (p : State). Contains (covers_within a p) cover) same has), under) }
    by (step ∷ more) before after (cover, has, under) =
        let same : state_after q (s.seen ++ step ∷ []) ≡ next_state a step = after-append q s.seen (step ∷ []) in
        either cover under (shift a step cover (subst (λ (p : State). Contains (covers_within a p) cover) same has))
      where
        either : (cover : Cover) → StandsUnder a cover image → Shifts a (next_state a step) cover → StopsAfter q image
        either cover under (inl here) = record { part = s.seen; made = before; stands = (cover, here, under) }
        either cover under (inr (alike, here)) = record {
          part = s.seen ++ step ∷ [];
          made = made-join q s.seen (step ∷ []) (before, (after.0, tt));
          stands = subst (λ (p : State). StandsAt p image) (sym (after-append q s.seen (step ∷ []))) (cover, here, under-alike a (next_state a step) cover image alike under);
        }

-- ---- the machine replies to the steps of a log

answer-is : (q : State) (step : Step) → Answers q step (answer q step)
answer-is q Begin = refl
answer-is q (Get n key) = refl
answer-is q (Scan n table lo hi) = (scanned q n table lo hi, refl, scan-lists q n table lo hi)
answer-is q (Put n key row) = refl
answer-is q (Delete n key) = refl
answer-is q (Draw n) = refl
answer-is q (Stamp n) = refl
answer-is q (Poll n) = refl
answer-is q (Abort n) = refl
answer-is q (End n) = refl
answer-is q CommitTick = refl
answer-is q Collect = refl

no-failure : (reply : Reply) → is_refusal reply ≡ false → is_failure reply ≡ false
no-failure reply none = grind (arith)

record Runs (q : State) (log : List Step) : Type 0 where
  replies : List Reply
  states : List State
  runs : RunsUp q log replies states
  ends : final q states ≡ state_after q log

runs-up : (q : State) (log : List Step) → AreMade q log → Runs q log
runs-up q [] m = record { replies = []; states = []; runs = tt; ends = refl }
runs-up q (step ∷ log) m =
    let rest = runs-up (next_state q step) log m.1 in
    let told = answer-is q step in
    record {
      replies = answer q step ∷ rest.replies;
      states = next_state q step ∷ rest.states;
      runs = (answered m.0 told refl, inr (no-failure (answer q step) (answer-counts (answer q step) (Answers-answer q step (answer q step) told)), rest.runs));
      ends = rest.ends;
    }

-- ---- a history that goes on

abbrev Continued : List Commit → List Commit → Type 0
Continued history commits = (more : List Commit) × (commits ≡ history ++ more)

continued-more : (history commits more : List Commit) → Continued history commits → Continued history (commits ++ more)
continued-more history commits more (rest, is) = (rest ++ more, ap (λ (l : List Commit). l ++ more) is ∙ append_assoc history rest more)

continued-all : (history mid commits : List Commit) → Continued history mid → Continued mid commits → Continued history commits
continued-all history mid commits continued (more, is) = subst (Continued history) (sym is) (continued-more history mid more continued)

only-one : (x cover : Cover) (history : List Commit) → Contains (x ∷ []) cover → Continued history x.commits → Continued history cover.commits
only-one x cover history (zero, lt, e) continued = subst (λ (c : Cover). Continued history c.commits) e continued
only-one x cover history (suc k, lt, e) continued = absurd (omega (arith, lt))

of-hand : (q : State) (hand : Option Hand) (cover : Cover) → Contains (of_hand q hand) cover → Continued q.history cover.commits
of-hand q None cover (k, lt, e) = absurd (omega (arith, lt))
of-hand q (Some hand) cover here = only-one (record { ruled_by = hand.target; commits = q.history ++ hand.commits }) cover q.history here (hand.commits, refl)

of-state : (q : State) (cover : Cover) → Contains (covers_at q) cover → Continued q.history cover.commits
of-state q cover has = elim (Contains-append_cases (present q ∷ []) (of_hand q q.hand) cover has) [
  | inl own ↦ only-one (present q) cover q.history own ([], sym (append-nil q.history))
  | inr batch ↦ of-hand q q.hand cover batch
]

of-close : (q : State) (cover : Cover) → Contains (covers_closing q) cover → Continued q.history cover.commits
of-close q cover has = elim (Contains-append_cases (covers_at q) (closed q ∷ []) cover has) [
  | inl before ↦ of-state q cover before
  | inr last ↦ only-one (closed q) cover q.history last (uncovered q, refl)
]

-- ---- one life of the machine

-- A life of the machine leads from the world to this image. It made the steps of the log, and what it leaves has all that the log has covered
record LivesOn (w : World) (log : List Step) (image : Image) : Type 0 where
  asked : Asked
  report : Report
  after : World
  life : Life w asked report after
  image_is : after.image ≡ image
  more : List Step
  made : asked.steps ≡ log ++ more
  start : State
  opens : OpensAs w.image w.history w.lost start
  keeps : Continued (state_after start log).history after.history

-- what is left when all stops under this cover
abbrev left-under : State → Cover → List ℕ → Image → World
left-under q cover lost image = record { image = image; history = cover.commits; drawn = drawn_of q; next = q.next; lost = lost ++ left_out cover.commits (drawn_of q) }

stops-at : (q : State) (covers : List Cover) (lost : List ℕ) (cover : Cover) (image : Image) → Contains covers cover → StandsUnder q cover image → StopsAt q covers lost (left-under q cover lost image)
stops-at q covers lost cover image has under = record { cover = cover; one = has; stands = under; history = refl; drawn = refl; next = refl; loses = refl }

-- ---- any number of lives of the machine

-- a life of the machine leads from the world to this image
record LivesNext (w : World) (image : Image) : Type 0 where
  asked : Asked
  report : Report
  after : World
  life : Life w asked report after
  image_is : after.image ≡ image

lives-more : (w : World) (asked : List Asked) (reports : List Report) (mid : World) → Lives w asked reports mid → (last : Asked) (report : Report) (end : World) → Life mid last report end
    → Lives w (asked ++ last ∷ []) (reports ++ report ∷ []) end
lives-more w [] [] mid e last report end life = (end, subst (λ (x : World). Life x last report end) e life, refl)
lives-more w (a ∷ asked) (r ∷ reports) mid (m, one, rest) last report end life = (m, one, lives-more m asked reports mid rest last report end life)
lives-more w [] (r ∷ reports) mid none last report end life = absurd none
lives-more w (a ∷ asked) [] mid none last report end life = absurd none

leads-first : (w : World) (log : List Step) (image : Image) → LivesOn w log image → LeadsTo w log image
leads-first w log image one = record {
  asked = one.asked;
  more = one.more;
  made = one.made;
  further = [];
  reports = one.report ∷ [];
  after = one.after;
  lives = (one.after, one.life, refl);
  image_is = one.image_is;
  start = one.start;
  opens = one.opens;
  rest = one.keeps.0;
  keeps = one.keeps.1;
}

leads-further : (w : World) (log : List Step) (before image : Image) → IsWorld w → LeadsTo w log before → ((mid : World) → IsWorld mid → mid.image ≡ before → LivesNext mid image) → LeadsTo w log image
leads-further w log before image stands so_far on =
    let mid = so_far.after in
    let world = lives-stand w (so_far.asked ∷ so_far.further) so_far.reports mid stands so_far.lives in
    let next = on mid world so_far.image_is in
    let grown = (lives-lived mid (next.asked ∷ []) (next.report ∷ []) next.after world (next.after, next.life, refl)).0 in
    let kept = continued-all (state_after so_far.start log).history mid.history next.after.history (so_far.rest, so_far.keeps) grown in
    record {
      asked = so_far.asked;
      more = so_far.more;
      made = so_far.made;
      further = so_far.further ++ next.asked ∷ [];
      reports = so_far.reports ++ next.report ∷ [];
      after = next.after;
      lives = lives-more w (so_far.asked ∷ so_far.further) so_far.reports mid so_far.lives next.asked next.report next.after next.life;
      image_is = next.image_is;
      start = so_far.start;
      opens = so_far.opens;
      rest = kept.0;
      keeps = kept.1;
    }

-- ---- one life of the machine, over what it opens

module _ (w : World) (may_open : opening_fault w.image ≡ None) (start : State) (opens : OpensAs w.image w.history w.lost start) (image : Image) where
  abbrev opening-of : Opening
  opening-of = Opens (numbers_of start) start.next start.ruling.gaps (rows_among (written [] start.history))

  -- it stops after some steps
  life-stopped : (log : List Step) → AreMade start log → StandsAt (state_after start log) image → (more part : List Step) → log ≡ part ++ more → LivesOn w part image
  life-stopped log made (cover, has, under) more part is =
      let run = runs-up start log made in
      let q = state_after start log in
      let m = made-parts start part more (subst (AreMade start) is made) in
      record {
        asked = record { steps = log; closes = false };
        report = record { opening = opening-of; replies = run.replies; closed = None };
        after = left-under q cover w.lost image;
        life = (
          may_open,
          start,
          run.states,
          opens,
          refl,
          refl,
          refl,
          tables-listed start.history,
          run.runs,
          subst (λ (p : State). EndsAs p false None w.lost (left-under q cover w.lost image)) (sym run.ends) (refl, stops-at q (covers_at q) w.lost cover image has under),
        );
        image_is = refl;
        more = more;
        made = is;
        start = start;
        opens = opens;
        keeps = continued-all (state_after start part).history q.history cover.commits
            (subst (λ (p : State). Continued (state_after start part).history p.history) (sym (ap (state_after start) is ∙ after-append start part more)) (grows (state_after start part) more m.1))
            (of-state q cover has);
      }

  -- it stops while it is closed
  life-closing : (log : List Step) → AreMade start log → (state_after start log).failed ≡ false → closing_fault (state_after start log) ≡ None → StandsClosing (state_after start log) image
      → (more part : List Step) → log ≡ part ++ more → LivesOn w part image
  life-closing log made works may_close (cover, has, under) more part is =
      let run = runs-up start log made in
      let q = state_after start log in
      let m = made-parts start part more (subst (AreMade start) is made) in
      record {
        asked = record { steps = log; closes = true };
        report = record { opening = opening-of; replies = run.replies; closed = Some (Err DeviceFault) };
        after = left-under q cover w.lost image;
        life = (
          may_open,
          start,
          run.states,
          opens,
          refl,
          refl,
          refl,
          tables-listed start.history,
          run.runs,
          subst (λ (p : State). EndsAs p true (Some (Err DeviceFault)) w.lost (left-under q cover w.lost image)) (sym run.ends)
              (refl, works, inr (may_close, refl, stops-at q (covers_closing q) w.lost cover image has under)),
        );
        image_is = refl;
        more = more;
        made = is;
        start = start;
        opens = opens;
        keeps = continued-all (state_after start part).history q.history cover.commits
            (subst (λ (p : State). Continued (state_after start part).history p.history) (sym (ap (state_after start) is ∙ after-append start part more)) (grows (state_after start part) more m.1))
            (of-close q cover has);
      }

  -- it stops within a log
  life-in-log : (log more extra : List Step) → AreMade start ((log ++ more) ++ extra) → StandsInLog (state_after start (log ++ more)) extra image → LivesOn w log image
  life-in-log log more extra made s =
      let whole = log ++ more in
      let parts = made-parts start whole extra made in
      let stop = stops-after (state_after start whole) extra image parts.1 s in
      life-stopped (whole ++ stop.part) (made-join start whole stop.part (parts.0, stop.made)) (subst (λ (p : State). StandsAt p image) (sym (after-append start whole stop.part)) stop.stands)
      (more ++ stop.part) log (append_assoc log more stop.part)

-- ---- one life of a file

module _ {I P : Type 0} {H : Ghosts I P} where
  found-in : (device : JournaledPmem I P H) (image : Image) → MayFind H.may_hold device image → Found device (kept_at device) image
  found-in device image may = record {
    left = device.since.images image may;
    gates = gate-survives device.places (traced device.trace) device.words.items device.flushed.items (H.may_hold device.images) device.shown device.mirrored image may;
  }

  module _ {G : pmem.Ghosts (JournaledPmem I P H)} where
    -- of each world that the image of the opened device belonged to
    of-world : (opened : Device) (room : Room (JournaledPmem I P H) G) (whole : List Step) (log : List Step) (image : Image) (Fact : State → Type 0) → HasLog state_of opened room whole
        → ((w : World) (start : State) → opening_fault w.image ≡ None → OpensAs w.image w.history w.lost start → AreMade start whole → ShowsOrFailed state_of room (state_after start whole) → Fact start → LivesOn w log image)
        → InEach (image_of opened) (λ history next start. Fact start) → (w : World) → IsWorld w → w.image ≡ image_of opened → LivesOn w log image
    of-world opened room whole log image Fact has so each w stands same =
        let (start, opens, both) = each-both (image_of opened) (Tells state_of opened room whole) (λ history next start. Fact start) (log-tells state_of room opened whole has) each w.history w.drawn w.next w.lost
        (subst (λ (i : Image). Stands i w.history w.drawn w.next) same stands) in
        so w start (ap opening_fault same ∙ has.run.may_open) (subst (λ (i : Image). OpensAs i w.history w.lost start) (sym same) opens) both.0.made both.0.shows both.1

    left-once : (opened : Device) (log : List Step) (image : Image) → OpensFirst opened → IsLeft H G opened log image → ∥ ((w : World) → IsWorld w → w.image ≡ image_of opened → LivesOn w log image) ∥₁
    left-once opened log image only left = by left.stops
      where
        whole : List Step
        whole = log ++ left.more

        is : Found left.found (kept_at left.found) image
        is = found-in left.found image left.may

        still : (start : State) → AreMade start whole → AreMade start (whole ++ [])
        still start made = subst (AreMade start) (sym (append-nil whole)) made

        works : (q : State) → closing_fault q ≡ None → q.failed ≡ false
        works q none = some_if-none q.failed Failed (all_none (some_if q.failed Failed ∷ some_if (nat_le (2 ^ 62) (closing_gate q)) TimestampsOut ∷ []) none).0

        shown : (room : Room (JournaledPmem I P H) G) (q : State) → ((q : State) → Shows state_of room q → closing_fault q ≡ None) → ShowsOrFailed state_of room q → closing_fault q ≡ None
        shown room q may_close (inl shows) = may_close q shows
        shown room q may_close (inr shows) = absurd (true≢false (works (record q { failed = true }) (may_close (record q { failed = true }) shows)))

        by : Stops left.room left.found → ∥ ((w : World) → IsWorld w → w.image ≡ image_of opened → LivesOn w log image) ∥₁
        by (between same) =
            ∥∥₁_map (logged-now left.room left.found opened whole (kept_at left.found) image only left.has same is)
            (of-world opened left.room whole log image (λ start. StandsInLog (state_after start whole) [] image) left.has
            (λ w start may_open opens made shows s. life-in-log w may_open start opens image log left.more [] (still start made) s))
        by (within next step reply leads from until) =
            let more = changes ((step, reply) ∷ []) in
            let has = log-steps state_of left.room next opened whole ((step, reply) ∷ []) left.has (leads-one state_of left.room next step reply leads) in
            ∥∥₁_map (logged-within left.room left.found opened whole (kept_at left.found) image only left.has next step reply leads from until is)
            (of-world opened next (whole ++ more) log image (λ start. StandsInLog (state_after start whole) more image) has
            (λ w start may_open opens made shows s. life-in-log w may_open start opens image log left.more more made s))
        by (closing device may_close closes from until) =
            ∥∥₁_map (logged-closing left.room left.found opened whole (kept_at left.found) image only left.has (state_of device) closes from until is)
            (of-world opened left.room whole log image (λ start. StandsClosing (state_after start whole) image) left.has
            (λ w start may_open opens made shows s.
            let fault = shown left.room (state_after start whole) may_close shows in
            life-closing w may_open start opens image whole made (works (state_after start whole) fault) fault s left.more log refl))

    -- ---- the next life

    left-next : (before image : Image) → IsLeftNext H G before image → ∥ ((w : World) → IsWorld w → w.image ≡ before → LivesNext w image) ∥₁
    left-next before image (opening device found later begins may_open leaves until may) =
        ∥∥₁_map (found-in found image may).left (λ (might : MightHaveLeft (state_of found) (kept_at found) image) w stands same.
        let left = leaves w.history w.drawn w.next (subst (λ (i : Image). Stands i w.history w.drawn w.next) same stands) in
        let stood = left.each image (left-since (state_of found) later (kept_at found) (state_of device).clock image begins.zero_is until might) in
        record {
          asked = record { steps = []; closes = false };
          report = record { opening = Fails DeviceFault; replies = []; closed = None };
          after = record { image = image; history = w.history; drawn = []; next = w.next; lost = w.lost };
          life = (
            inr (inr (
              refl,
              record {
                opens = ap opening_fault same ∙ may_open;
                stands = subst (λ (i : Image). StandsOpening i w.history w.next image) (sym same) stood;
                history = refl;
                drawn = refl;
                next = refl;
                lost = refl;
              },
            )),
            refl,
            refl,
          );
          image_is = refl;
        })
    left-next before image (living device begins left) =
        ∥∥₁_map (left-once (state_of device) [] image (first-opened (state_of device) (orderly device) begins.zero_is begins.at_rest) left) (λ each w stands same.
        let one = each w stands (same ∙ sym begins.image_is) in
        record { asked = one.asked; report = one.report; after = one.after; life = one.life; image_is = one.image_is })

    pub stays-found : (opened : Device) (log : List Step) → StaysFound H G opened log
    stays-found opened log only image (first _ left) = ∥∥₁_map (left-once opened log image only left) (λ each w stands same. leads-first w log image (each w stands same))
    stays-found opened log only image (further before _ since next) =
        ∥∥₁_map₂ (stays-found opened log only before since) (left-next before image next) (λ each on w stands same. leads-further w log before image stands (each w stands same) on)
