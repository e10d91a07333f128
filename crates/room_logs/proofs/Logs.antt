-- Logs of rooms.
use Rattle.std.proofs.Common.{◌≡◌, ◌⊎◌, inl, inr, ℕ, true, not, List, [], ◌++◌, map, refl, sym, ◌∙◌, ap, subst}
use Rattle.std.specs.Prelude.{filter}
use Rattle.std.proofs.lemmas.List.{map-append}
use Rattle.std.proofs.lemmas.List.Elements.{filter-append}
use Rattle.base.specs.declared.gap.Gap.{Gap}
use Rattle.base.specs.declared.step.Step.{Step}
use Rattle.base.specs.declared.step.Reply.{Reply}
use Rattle.base.specs.Commits.{Commit}
use Rattle.base.specs.Images.{Image, ruling}
use Rattle.machine.specs.Machine.{State, Run, final, StandsAlong}
use Rattle.machine.specs.Openings.{OpensAs, StandsOpening, opened}
use Rattle.machine.proofs.openings.GapLists.{one_gap_list}
use Rattle.pmem.specs.Device.{Device}
use Rattle.pmem.specs.Words.{LeavesOnly, image_of}
use Rattle.pmem.specs.declared.device.Pmem.{Ghosts}
use Rattle.pmem.proofs.Images.{leaves_weaken}
use Rattle.room.specs.declared.room.Room.{Room}
use Rattle.room.specs.Room.{Shows, device_of}
use Rattle.room.specs.Runs.{InEach, RunOver, LeadsAlong}
use Rattle.room.proofs.Runs.{over-led}
use Rattle.session_laws.specs.Logs.{state_after, AreMade, is_refusal, made, may_change, changes}
use Rattle.session_laws.specs.Images.{StandsInLog}
use Rattle.session_laws.proofs.Logs.{run-log, silent-go}
use Rattle.session_laws.proofs.Images.{along-log, failed-run}
use Rattle.session_laws.proofs.Commits.{lives-begin}
use Rattle.room_logs.specs.Logs.{HasLog, ShowsOrFailed, Tells}

-- ---- a log grows

made-append : (taken more : List (Step × Reply)) → made (taken ++ more) ≡ made taken ++ made more
made-append taken more =
    ap (map (λ (one : Step × Reply). one.0)) (filter-append (λ (one : Step × Reply). not (is_refusal one.1)) taken more)
    ∙ map-append (λ (one : Step × Reply). one.0) (filter (λ one. not (is_refusal one.1)) taken) (filter (λ one. not (is_refusal one.1)) more)

changes-append : (taken more : List (Step × Reply)) → changes (taken ++ more) ≡ changes taken ++ changes more
changes-append taken more = ap (filter may_change) (made-append taken more) ∙ filter-append may_change (made taken) (made more)

pub log-opened : {D : Type 0} {G : Ghosts D} (state : D → Device) (room : Room D G) (opened : Device) → RunOver opened (device_of state room) [] (Shows state room) → HasLog state opened room []
log-opened state room opened run = record { taken = []; run = run; log_is = refl }

pub log-steps : {D : Type 0} {G : Ghosts D} (state : D → Device) (old new : Room D G) (opened : Device) (log : List Step) (taken : List (Step × Reply)) → HasLog state opened old log → LeadsAlong state old new taken
    → HasLog state opened new (log ++ changes taken)
log-steps state old new opened log taken has leads = record {
  taken = has.taken ++ taken;
  run = over-led state old new opened has.taken taken has.run leads;
  log_is = ap (λ (l : List Step). l ++ changes taken) has.log_is ∙ sym (changes-append has.taken taken);
}

-- ---- what a log tells

pub log-tells : {D : Type 0} {G : Ghosts D} (state : D → Device) (room : Room D G) (opened : Device) (log : List Step) → HasLog state opened room log → InEach (image_of opened) (Tells state opened room log)
log-tells state room opened log has history drawn next lost stands =
    let (start, opens, on) = has.run.each history drawn next lost stands in
    let leads = run-log start has.taken on.states on.run in
    let silent = silent-go start (made has.taken) leads.0 in
    let same : state_after start log ≡ state_after start (made has.taken) = ap (state_after start) has.log_is ∙ silent.1 in (
      start,
      opens,
      record {
        first = lives-begin (image_of opened) history start (record { may_open = has.run.may_open; drawn = drawn; next = next; lost = lost; stands = stands; opens = opens });
        made = subst (AreMade start) (sym has.log_is) silent.0;
        shows = subst (ShowsOrFailed state room) (sym same) (shown (final start on.states) (state_after start (made has.taken)) leads.1 on.is);
        leaves = leaves_weaken (λ image s. left start on.states on.run image s) on.images;
      },
    )
  where
    shown : (last q : State) → (last ≡ q) ⊎ (last ≡ record q { failed = true }) → Shows state room last → ShowsOrFailed state room q
    shown last q (inl is) shows = inl (subst (Shows state room) is shows)
    shown last q (inr is) shows = inr (subst (Shows state room) is shows)

    left : (start : State) (states : List State) → Run start (map (λ one. one.0) has.taken) (map (λ one. one.1) has.taken) states → (image : Image) → StandsOpening (image_of opened) history next image ⊎ StandsAlong start states image
        → StandsOpening (image_of opened) history next image ⊎ StandsInLog start log image
    left start states run image (inl opening) = inl opening
    left start states run image (inr along) = inr (subst (λ (l : List Step). StandsInLog start l image) (sym has.log_is) (along-log start has.taken states image run along))

-- ---- what a crash leaves later

pub crash-later : {D : Type 0} {G : Ghosts D} (state : D → Device) (old new : Room D G) (opened : Device) (log : List Step) (taken : List (Step × Reply)) → HasLog state opened old log → LeadsAlong state old new taken
    → InEach (image_of opened) (λ history next start. LeavesOnly (device_of state old) (device_of state new) (StandsInLog (state_after start log) (changes taken)))
crash-later state old new opened log taken has leads history drawn next lost stands =
    let (start, opens, tells) = log-tells state old opened log has history drawn next lost stands in
    (start, opens, by (state_after start log) tells.shows)
  where
    by : (q : State) → ShowsOrFailed state old q → LeavesOnly (device_of state old) (device_of state new) (StandsInLog q (changes taken))
    by q (inl shows) = let a = leads q shows in leaves_weaken (λ image along. along-log q taken a.0 image a.1.run along) a.1.images
    by q (inr shows) = let a = leads (record q { failed = true }) shows in leaves_weaken (λ image along. failed-run q taken a.0 image a.1.run along) a.1.images

-- ---- of each state that an image opens as

one-opening : (image : Image) (history : List Commit) (lost : List ℕ) (q q' : State) → OpensAs image history lost q → OpensAs image history lost q' → q ≡ q'
one-opening image history lost q q' a b = a.2 ∙ (ap (λ (gaps : List Gap). opened image history lost gaps) (one_gap_list (ruling image) a.0 b.0 a.1 b.1) ∙ sym b.2)

-- two facts of each state that an image opens as are facts of one state
pub each-both : (image : Image) (One Other : List Commit → ℕ → State → Type 0) → InEach image One → InEach image Other → InEach image (λ history next start. One history next start × Other history next start)
each-both image One Other one other history drawn next lost stands =
    let a = one history drawn next lost stands in
    let b = other history drawn next lost stands in
    (a.0, a.1, (a.2, subst (Other history next) (sym (one-opening image history lost a.0 b.0 a.1 b.1)) b.2))

-- what follows from a fact of each such state holds of each
pub each-follows : (image : Image) (One Other : List Commit → ℕ → State → Type 0) → ((history : List Commit) (next : ℕ) (start : State) → One history next start → Other history next start) → InEach image One → InEach image Other
each-follows image One Other so one history drawn next lost stands =
    let a = one history drawn next lost stands in
    (a.0, a.1, so history next a.0 a.2)
