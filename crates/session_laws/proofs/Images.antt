-- Images along a log.
use Rattle.std.proofs.Common.{◌≡◌, ◌⊎◌, inl, inr, zero, suc, Bool, true, false, cond, List, [], ◌∷◌, ◌++◌, map, take, refl, sym, ◌∙◌, ap, subst, arith, append_assoc, Option, Some, None}
use Rattle.std.specs.Prelude.{filter, Contains}
use Rattle.std.proofs.lemmas.List.Elements.{Contains-append_cases, Contains-append_left, Contains-append_right}
use Rattle.base.specs.declared.step.Step.{Step}
use Rattle.base.specs.declared.step.Reply.{Reply}
use Rattle.base.specs.Commits.{Commit}
use Rattle.base.specs.Images.{Image}
use Rattle.machine.specs.Machine.{State, Hand, Cover, Stepped, refused, answered, memory_refused, device_failed, Run, next_state, StandsAt, StandsWithin, StandsAlong, covers_at, of_hand, present, drawn_of}
use Rattle.machine.proofs.Runs.{Answers-answer, StandsAt-within}
use Rattle.session_laws.specs.Logs.{state_after, AreMade, is_refusal, made, may_change, changes}
use Rattle.session_laws.specs.Images.{StandsInLog, HasIn}
use Rattle.session_laws.proofs.Logs.{silent-step, made-refusal, made-answer, answer-counts, all_refused, made-parts}
use Rattle.session_laws.proofs.Sessions.{grows}

-- ---- what a crash leaves

-- between two steps, at the beginning of any log
in-log-at : (q : State) (log : List Step) (image : Image) → StandsAt q image → StandsInLog q log image
in-log-at q log image s = record { seen = []; more = log; log_is = refl; stands = StandsAt-within q (state_after q (take 1 log)) image s }

-- within a step that changes nothing but the mark of a failed device
within-same : (q q' : State) (image : Image) → of_hand q q'.hand ≡ of_hand q q.hand → present q' ≡ present q → StandsWithin q q' image → StandsAt q image
within-same q q' image hand same (cover, is, stands) = (cover, by (Contains-append_cases (covers_at q) (of_hand q q'.hand ++ present q' ∷ []) cover is), stands)
  where
    again : of_hand q q'.hand ++ present q' ∷ [] ≡ of_hand q q.hand ++ present q ∷ []
    again = ap (λ (l : List Cover). l ++ present q' ∷ []) hand ∙ ap (λ (c : Cover). of_hand q q.hand ++ c ∷ []) same

    last : Contains (of_hand q q.hand) cover ⊎ Contains (present q ∷ []) cover → Contains (covers_at q) cover
    last (inl here) = Contains-append_right (present q ∷ []) (of_hand q q.hand) cover here
    last (inr here) = Contains-append_left (present q ∷ []) (of_hand q q.hand) cover here

    by : Contains (covers_at q) cover ⊎ Contains (of_hand q q'.hand ++ present q' ∷ []) cover → Contains (covers_at q) cover
    by (inl here) = here
    by (inr here) = last (Contains-append_cases (of_hand q q.hand) (present q ∷ []) cover (subst (λ (l : List Cover). Contains l cover) again here))

-- a failed state stands for the same
failed-at : (q : State) (image : Image) → StandsAt (record q { failed = true }) image → StandsAt q image
failed-at q image (cover, is, under) = (cover, is, record { stands = under.stands; ruled = under.ruled; laid_out = under.laid_out })

-- of a step that changes nothing
silent-changes : (one : Step × Reply) (taken : List (Step × Reply)) → is_refusal one.1 ≡ true → changes (one ∷ taken) ≡ changes taken
silent-changes one taken told = ap (filter may_change) (made-refusal one taken told)

made-changes : (one : Step × Reply) (taken : List (Step × Reply)) (b : Bool) → is_refusal one.1 ≡ false → may_change one.0 ≡ b → changes (one ∷ taken) ≡ cond b (one.0 ∷ changes taken) (changes taken)
made-changes one taken b counts may = ap (filter may_change) (made-answer one taken counts) ∙ ap (λ (b : Bool). cond b (one.0 ∷ changes taken) (changes taken)) may

-- a step before the others
in-log-more : (q : State) (step : Step) (log : List Step) (image : Image) → StandsInLog (next_state q step) log image → StandsInLog q (step ∷ log) image
in-log-more q step log image s = record { seen = step ∷ s.seen; more = s.more; log_is = ap (λ (l : List Step). step ∷ l) s.log_is; stands = s.stands }

abbrev step_in : Step × Reply → Step
step_in one = one.0

abbrev reply_in : Step × Reply → Reply
reply_in one = one.1

-- of a failed state the log is empty
failed-log : (q : State) (log : List Step) (image : Image) → log ≡ [] → StandsInLog (record q { failed = true }) log image → StandsAt (record q { failed = true }) image
failed-log q log image none s =
    by s.seen s.more (sym s.log_is ∙ none) s.stands
  where
    by : (seen more : List Step) → seen ++ more ≡ [] → StandsWithin (state_after (record q { failed = true }) seen) (state_after (record q { failed = true }) (seen ++ take 1 more)) image → StandsAt (record q { failed = true }) image
    by [] [] e stands = within-same (record q { failed = true }) (record q { failed = true }) image refl refl stands
    by [] (x ∷ more) e stands = absurd (cc e)
    by (x ∷ seen) more e stands = absurd (cc e)

pub along-log : (q : State) (taken : List (Step × Reply)) (states : List State) (image : Image) → Run q (map step_in taken) (map reply_in taken) states → StandsAlong q states image → StandsInLog q (changes taken) image
along-log q [] [] image run s = in-log-at q [] image s
along-log q [] (q1 ∷ states) image run s = absurd run
along-log q (one ∷ taken) [] image run s = absurd run
along-log q (one ∷ taken) (q1 ∷ states) image run s = by (along-log q1 taken states image run.1) run.0 s
  where
    -- the step changed nothing
    same : changes (one ∷ taken) ≡ changes taken → q1 ≡ q → (StandsAlong q1 states image → StandsInLog q1 (changes taken) image) → StandsWithin q q1 image ⊎ StandsAlong q1 states image → StandsInLog q (changes (one ∷ taken)) image
    same log is more (inl within) =
        in-log-at q (changes (one ∷ taken)) image (within-same q q image refl refl (subst (λ (p : State). StandsWithin q p image) is within))
    same log is more (inr along) =
        subst (λ (l : List Step). StandsInLog q l image) (sym log) (subst (λ (p : State). StandsInLog p (changes taken) image) is (more along))

    -- it is in the log
    changed : changes (one ∷ taken) ≡ one.0 ∷ changes taken → q1 ≡ next_state q one.0 → (StandsAlong q1 states image → StandsInLog q1 (changes taken) image) → StandsWithin q q1 image ⊎ StandsAlong q1 states image → StandsInLog q (changes (one ∷ taken)) image
    changed log is more (inl within) = subst (λ (l : List Step). StandsInLog q l image) (sym log) (record {
      seen = [];
      more = one.0 ∷ changes taken;
      log_is = refl;
      stands = subst (λ (p : State). StandsWithin q p image) is within;
    })
    changed log is more (inr along) =
        subst (λ (l : List Step). StandsInLog q l image) (sym log) (in-log-more q one.0 (changes taken) image (subst (λ (p : State). StandsInLog p (changes taken) image) is (more along)))

    answer : (b : Bool) → may_change one.0 ≡ b → is_refusal one.1 ≡ false → q1 ≡ next_state q one.0 → (StandsAlong q1 states image → StandsInLog q1 (changes taken) image) → StandsWithin q q1 image ⊎ StandsAlong q1 states image
        → StandsInLog q (changes (one ∷ taken)) image
    answer true may counts is more s = changed (made-changes one taken true counts may) is more s
    answer false may counts is more s = same (made-changes one taken false counts may) (is ∙ silent-step q one.0 may) more s

    -- the device failed, and nothing was made after that
    failing : changes (one ∷ taken) ≡ changes taken → made taken ≡ [] → q1 ≡ record q { failed = true } → (StandsAlong q1 states image → StandsInLog q1 (changes taken) image) → StandsWithin q q1 image ⊎ StandsAlong q1 states image
        → StandsInLog q (changes (one ∷ taken)) image
    failing log none is more (inl within) =
        in-log-at q (changes (one ∷ taken)) image (within-same q (record q { failed = true }) image refl refl (subst (λ (p : State). StandsWithin q p image) is within))
    failing log none is more (inr along) =
        in-log-at q (changes (one ∷ taken)) image (failed-at q image (failed-log q (changes taken) image (ap (filter may_change) none) (subst (λ (p : State). StandsInLog p (changes taken) image) is (more along))))

    by : (StandsAlong q1 states image → StandsInLog q1 (changes taken) image) → Stepped q one.0 one.1 q1 → StandsWithin q q1 image ⊎ StandsAlong q1 states image → StandsInLog q (changes (one ∷ taken)) image
    by more (refused fault e r is) s = same (silent-changes one taken (ap is_refusal r)) is more s
    by more (memory_refused e m r is) s = same (silent-changes one taken (ap is_refusal r)) is more s
    by more (answered e a is) s = answer (may_change one.0) refl (answer-counts one.1 (Answers-answer q one.0 one.1 a)) is more s
    by more (device_failed e m r is) s = failing (silent-changes one taken (ap is_refusal r)) (all_refused q1 taken states (ap (λ (p : State). p.failed) is) run.1).0 is more s

-- from a failed state on nothing is made
pub failed-run : (q : State) (taken : List (Step × Reply)) (states : List State) (image : Image) → Run (record q { failed = true }) (map step_in taken) (map reply_in taken) states
    → StandsAlong (record q { failed = true }) states image → StandsInLog q (changes taken) image
failed-run q taken states image run along =
    let none = all_refused (record q { failed = true }) taken states refl run in
    in-log-at q (changes taken) image (failed-at q image (failed-log q (changes taken) image (ap (filter may_change) none.0) (along-log (record q { failed = true }) taken states image run along)))

-- ---- what is covered stays in what a crash leaves

-- each cover within a step has what both states have covered
covers-have : (a b : State) (commit : Commit) (cover : Cover) → Contains a.history commit → Contains b.history commit → Contains (covers_at a ++ (of_hand a b.hand ++ present b ∷ [])) cover → Contains cover.commits commit
covers-have a b commit cover in_a in_b is = by (Contains-append_cases (covers_at a) (of_hand a b.hand ++ present b ∷ []) cover is)
  where
    only : (x : Cover) → Contains (x ∷ []) cover → Contains x.commits commit → Contains cover.commits commit
    only x (zero, lt, e) here = subst (λ (c : Cover). Contains c.commits commit) e here
    only x (suc k, lt, e) here = absurd (omega (arith, lt))

    hand-has : (o : Option Hand) → Contains (of_hand a o) cover → Contains cover.commits commit
    hand-has None (k, lt, e) = absurd (omega (arith, lt))
    hand-has (Some hand) here = only (record { ruled_by = hand.target; commits = a.history ++ hand.commits }) here (Contains-append_left a.history hand.commits commit in_a)

    first : Contains (present a ∷ []) cover ⊎ Contains (of_hand a a.hand) cover → Contains cover.commits commit
    first (inl here) = only (present a) here in_a
    first (inr here) = hand-has a.hand here

    second : Contains (of_hand a b.hand) cover ⊎ Contains (present b ∷ []) cover → Contains cover.commits commit
    second (inl here) = hand-has b.hand here
    second (inr here) = only (present b) here in_b

    by : Contains (covers_at a) cover ⊎ Contains (of_hand a b.hand ++ present b ∷ []) cover → Contains cover.commits commit
    by (inl here) = first (Contains-append_cases (present a ∷ []) (of_hand a a.hand) cover here)
    by (inr here) = second (Contains-append_cases (of_hand a b.hand) (present b ∷ []) cover here)

-- a log keeps what is covered
keeps-covered : (q : State) (log : List Step) (commit : Commit) → AreMade q log → Contains q.history commit → Contains (state_after q log).history commit
keeps-covered q log commit m here = let more = grows q log m in subst (λ (l : List Commit). Contains l commit) (sym more.1) (Contains-append_left q.history more.0 commit here)

-- the beginning of a log up to one step more
made-one : (q : State) (seen more : List Step) → AreMade q (seen ++ more) → AreMade q (seen ++ take 1 more)
made-one q seen [] m = m
made-one q seen (step ∷ more) m = (made-parts q (seen ++ step ∷ []) more (subst (AreMade q) (sym (append_assoc seen (step ∷ []) more)) m)).0

pub commits-survive : (q : State) (log : List Step) (commit : Commit) (image : Image) → AreMade q log → Contains q.history commit → StandsInLog q log image → HasIn image commit
commits-survive q log commit image m here s =
    let whole : AreMade q (s.seen ++ s.more) = subst (AreMade q) s.log_is m in
    let (cover, is, under) = s.stands in (
      cover.commits,
      drawn_of (state_after q s.seen),
      (state_after q s.seen).next,
      under.stands,
      covers-have (state_after q s.seen) (state_after q (s.seen ++ take 1 s.more)) commit cover
          (keeps-covered q s.seen commit (made-parts q s.seen s.more whole).0 here) (keeps-covered q (s.seen ++ take 1 s.more) commit (made-one q s.seen s.more whole) here) is,
    )
