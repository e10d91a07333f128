-- Lives one after another.
use Rattle.std.proofs.Common.{◌≡◌, inl, inr, ℕ, Bool, false, not, ◌&&◌, List, [], ◌∷◌, ◌++◌, map, refl, sym, ◌∙◌, ap, subst, arith}
use Rattle.std.specs.Prelude.{Option, Some, None}
use Rattle.std.proofs.lemmas.List.Elements.{All-nil}
use Rattle.base.specs.declared.fault.Fault.{Fault}
use Rattle.base.specs.declared.fault.Fault.TheVariants.{OutOfMemory}
use Rattle.base.specs.declared.key.Key.{Key}
use Rattle.base.specs.declared.step.Reply.{Reply}
use Rattle.base.specs.declared.gap.Gap.{Gap}
use Rattle.base.specs.Commits.{Commit, Lists, after}
use Rattle.base.specs.Images.{Image, opening_fault, log_damage}
use Rattle.base.specs.Layout.{Layout}
use Rattle.machine.specs.Machine.{State}
use Rattle.machine.specs.Openings.{OpensAs, StandsOpening}
use Rattle.base.specs.Stands.{Stands}
use Rattle.machine.specs.Laws.{StayOut}
use Rattle.machine.specs.Lives.{World, IsWorld, Report, Opening, Opens, Fails, Life as PlainLife, LifeAs, Lives, numbers_of as state_numbers, FailsAs}
use Rattle.machine.proofs.lives.Laws.{lives-stand}
use Rattle.machine.proofs.lives.Lost.{lives-lived}
use Rattle.machine.proofs.lives.Replies.{lives-add, lives-acknowledge}
use Rattle.pmem.specs.Device.{Device, MayLeave, IsOrderly}
use Rattle.pmem.specs.Words.{LeavesOnly, IsAtRest, image_of}
use Rattle.pmem.proofs.AtRest.{left_at_rest}
use Rattle.recovery.specs.Opened.{IsRefusal}
use Rattle.recovery.specs.Read.{ReportsLogFault}
use Rattle.recovery.proofs.openings.Faults.{fault-log}
use Rattle.image_check.specs.Checked.{ListsTables}
use Rattle.lives.specs.declared.life.Life.{Life}
use Rattle.lives.specs.declared.life.LifeReport.{LifeReport}
use Rattle.lives.specs.Plain.{IsReport, ReportsLife, asked_of, closed_of, opening_of, report_of}
use Rattle.lives.specs.Chains.{fresh_world, AreLives}
use Rattle.lives.specs.Stops.{AreStopped, IsStopped, WhereItStands}
use Rattle.lives.specs.ReportedReplies.{steps_of}
use Rattle.lives.specs.Parts.{HasLived, HasObeyed, HasEnded, MayAsk, HasPlayed}
use Rattle.lives.proofs.Taken.{runs-up}
use Rattle.lives.proofs.Ends.{leaves-now, may-ask, ends-as_asked}

-- ---- opening was refused

pub lived-refused : (old new : Device) (image image' : Image) (life : Life) (report : LifeReport) (fault : Fault)
    → IsAtRest old → IsOrderly new → image ≡ image_of old → MayLeave new image'
    → opening_of report.opening ≡ Fails fault → ReportsLife life report [] → closed_of report.closed ≡ None
    → IsRefusal (opening_fault image) old new fault → ReportsLogFault image fault
    → ((history drawn : List Commit) (next : ℕ) → Stands image history drawn next → LeavesOnly old new (StandsOpening image history next))
    → (P : World → List Reply → Type 0) → ((before : World) → IsWorld before → before.image ≡ image → P before [])
    → WhereItStands image (λ before. HasLived before life report image' (P before))
lived-refused old new image image' life report fault rest tidy is may opening tells closed refusal log images P so before w same =
    let lived = by refusal in
    record { replies = []; reported = tells; after = lived.0; leaves = lived.1; lives = lived.2; so = so before w same }
  where
    told : (after : World) → FailsAs fault before after → PlainLife before (asked_of life) (report_of report []) after
    told after fails = subst (λ (o : Opening). LifeAs before (asked_of life) o [] (closed_of report.closed) after) (sym opening) (fails, refl, closed)

    kept : new ≡ old → before.image ≡ image'
    kept e = same ∙ is ∙ sym (left_at_rest old rest image' (subst (λ (d : Device). MayLeave d image') e may))

    by_log : (fault ≡ OutOfMemory) → ReportsLogFault image fault → FailsAs fault before before
    by_log memory (inl found) = inl (ap opening_fault same ∙ fault-log image fault found, refl)
    by_log memory (inr none) = inr (inl (memory, ap log_damage same ∙ none, refl))

    by : IsRefusal (opening_fault image) old new fault → (after : World) × (after.image ≡ image') × PlainLife before (asked_of life) (report_of report []) after
    by (inl (inl reason, e)) = (before, kept e, told before (inl (ap opening_fault same ∙ reason, refl)))
    by (inl (inr memory, e)) = (before, kept e, told before (by_log memory log))
    by (inr (none, device, failed)) =
        let stands : Stands image before.history before.drawn before.next = subst (λ (i : Image). Stands i before.history before.drawn before.next) same w in
        let within : StandsOpening image before.history before.next image' = leaves-now old new (StandsOpening image before.history before.next) tidy (images before.history before.drawn before.next stands) image' may in (
          record { image = image'; history = before.history; drawn = []; next = before.next; lost = before.lost },
          refl,
          told _ (inr (inr (
            device,
            record {
              opens = ap opening_fault same ∙ none;
              stands = subst (λ (i : Image). StandsOpening i before.history before.next image') (sym same) within;
              history = refl;
              drawn = refl;
              next = refl;
              lost = refl;
            },
          ))),
        )

-- ---- opening succeeded

same-option : {X : Type 0} (a b : Option X) → ((x : X) → a ≡ Some x → b ≡ Some x) → ((x : X) → b ≡ Some x → a ≡ Some x) → a ≡ b
same-option a b to from = grind (arith)

-- rows that list the tables of an image list those after the history that it stands for
lists-after : (image : Image) (rows : List (Key × List ℕ)) (history drawn : List Commit) (next : ℕ) → ListsTables image rows → Stands image history drawn next → Lists rows (after history)
lists-after image rows history drawn next listed stands = record {
  rising = listed.lists.rising;
  same = λ key. listed.lists.same key ∙ same-option (listed.tables key) (after history key)
      (λ row is. (stands.tables key row).0 ((listed.of_image key row).1 is))
      (λ row is. (listed.of_image key row).0 ((stands.tables key row).1 is));
}

pub lived-played : (image image' : Image) (rows : List (Key × List ℕ)) (life : Life) (report : LifeReport) (replies : List Reply) (before : World) (q : State) (P : List Reply → Type 0)
    → opening_fault image ≡ None → ListsTables image rows → IsWorld before → before.image ≡ image → OpensAs image before.history before.lost q
    → HasPlayed q rows life report replies image' → ReportsLife life report replies → P replies
    → HasLived before life report image' P
lived-played image image' rows life report replies before q P may listed w same opened played tells so =
    let stands : Stands image before.history before.drawn before.next = subst (λ (i : Image). Stands i before.history before.drawn before.next) same w in
    let opens : OpensAs before.image before.history before.lost q = subst (λ (i : Image). OpensAs i before.history before.lost q) (sym same) opened in
    let ended = played.ends before.lost in
    let lists : Lists rows (after q.history) = subst (λ (h : List Commit). Lists rows (after h)) (sym (ap (λ (x : State). x.history) opens.2)) (lists-after image rows before.history before.drawn before.next listed stands) in
    grind (arith)

-- what the opened state's numbers say
pub opens-so : (q : State) (gate persisted dirty next : ℕ) (gaps : List Gap) (rows : List (Key × List ℕ))
    → gate ≡ q.ruling.gate → persisted ≡ q.ruling.persisted → dirty ≡ q.ruling.dirty → next ≡ q.next → gaps ≡ q.ruling.gaps
    → Opens (record { gate = gate; persisted = persisted; dirty = dirty }) next gaps rows ≡ Opens (state_numbers q) q.next q.ruling.gaps rows
opens-so q gate persisted dirty next gaps rows g p d n l = λ i. Opens (record { gate = g i; persisted = p i; dirty = d i }) (n i) (l i) rows

-- steps and an end make a life
pub played-so : (q : State) (device left : Device) (rows : List (Key × List ℕ)) (life : Life) (report : LifeReport) (image : Image) (failed : Bool) (P : State → Type 0)
    → q.failed ≡ false → opening_of report.opening ≡ Opens (state_numbers q) q.next q.ruling.gaps rows
    → (obeyed : HasObeyed q device life.steps.items report.replies.items failed left P)
    → ((q' : State) → P q' → MayAsk (life.close && not failed) q' → HasEnded q' (life.close && not failed) (closed_of report.closed) image)
    → HasPlayed q rows life report obeyed.replies image
played-so q device left rows life report image failed P works opening obeyed ends =
    let last = obeyed.last in
    let is : last.failed ≡ failed = obeyed.failure works in
    let run = runs-up q device (steps_of life.steps.items) obeyed.replies last left obeyed.runs in
    record {
      opening = opening;
      states = run.0;
      runs = run.1;
      ends = subst (λ (s : State). HasEnded s life.close (closed_of report.closed) image) (sym run.2) (ends-as_asked last life.close failed (closed_of report.closed) image is (ends last obeyed.after_it (may-ask last life.close failed is)));
    }

-- ---- one life after another

stopped-more : (before : World) (lives : List Life) (reports : List LifeReport) (plains : List Report) (mid : World) (a : Life) (r : LifeReport) (p : Report) (last : World)
    → AreStopped before lives reports plains mid → IsReport a r p → PlainLife mid (asked_of a) p last → IsStopped a r p.replies mid last.image
    → AreStopped before (lives ++ a ∷ []) (reports ++ r ∷ []) (plains ++ p ∷ []) last
stopped-more before [] [] [] mid a r p last e is life stop = grind (arith)
stopped-more before (b ∷ lives) (s ∷ reports) (t ∷ plains) mid a r p last (next, told, first, stop, rest) is life stop' =
    (next, told, first, stop, stopped-more next lives reports plains mid a r p last rest is life stop')
stopped-more before [] [] (t ∷ plains) mid a r p last none is life stop = absurd none
stopped-more before [] (s ∷ reports) plains mid a r p last none is life stop = absurd none
stopped-more before (b ∷ lives) [] plains mid a r p last none is life stop = absurd none
stopped-more before (b ∷ lives) (s ∷ reports) [] mid a r p last none is life stop = absurd none

-- such lives are a chain of lives
plain-lives : (before : World) (lives : List Life) (reports : List LifeReport) (plains : List Report) (last : World) → AreStopped before lives reports plains last → Lives before (map asked_of lives) plains last
plain-lives before [] [] [] last same = same
plain-lives before (b ∷ lives) (s ∷ reports) (t ∷ plains) last (next, told, first, stop, rest) = (next, first, plain-lives next lives reports plains last rest)
plain-lives before [] [] (t ∷ plains) last none = absurd none
plain-lives before [] (s ∷ reports) plains last none = absurd none
plain-lives before (b ∷ lives) [] plains last none = absurd none
plain-lives before (b ∷ lives) (s ∷ reports) [] last none = absurd none

-- the reports are those of a chain of lives, each stopped as it was asked to be, and the image is what the last one left
pub record Chain (layout : Layout) (lives : List Life) (reports : List LifeReport) (image : Image) : Type 0 where
  pub last : World
  pub plain : List Report
  pub stopped : AreStopped (fresh_world layout) lives reports plain last
  pub left : last.image ≡ image

pub chain-none : (layout : Layout) (image : Image) → image ≡ (fresh_world layout).image → Chain layout [] [] image
chain-none layout image is = record { last = fresh_world layout; plain = []; stopped = refl; left = sym is }

pub chain-more : (layout : Layout) (lives : List Life) (reports : List LifeReport) (image image' : Image) (life : Life) (report : LifeReport)
    → IsWorld (fresh_world layout) → Chain layout lives reports image → WhereItStands image (λ before. HasLived before life report image' (λ replies. IsStopped life report replies before image'))
    → Chain layout (lives ++ life ∷ []) (reports ++ report ∷ []) image'
chain-more layout lives reports image image' life report w chain lived =
    let stands = lives-stand (fresh_world layout) (map asked_of lives) chain.plain chain.last w (plain-lives (fresh_world layout) lives reports chain.plain chain.last chain.stopped) in
    let one = lived chain.last stands chain.left in
    let stop : IsStopped life report one.replies chain.last one.after.image = subst (λ (i : Image). IsStopped life report one.replies chain.last i) (sym one.leaves) one.so in
    record {
      last = one.after;
      plain = chain.plain ++ report_of report one.replies ∷ [];
      stopped = stopped-more (fresh_world layout) lives reports chain.plain chain.last life report (report_of report one.replies) one.after chain.stopped (record { is = refl; reported = one.reported }) one.lives stop;
      left = one.leaves;
    }

nothing-out : (layout : Layout) → StayOut (fresh_world layout)
nothing-out layout = record { below = All-nil _; out = All-nil _ }

pub are-lives : (layout : Layout) (lives : List Life) (reports : List LifeReport) (image : Image) → IsWorld (fresh_world layout) → Chain layout lives reports image → AreLives layout lives reports
are-lives layout lives reports image w chain =
    let first = fresh_world layout in
    let asked = map asked_of lives in
    let told = chain.plain in
    let lives_are = plain-lives first lives reports chain.plain chain.last chain.stopped in
    let grown = lives-lived first asked told chain.last w lives_are in
    record {
      last = chain.last;
      plain = chain.plain;
      chain = lives_are;
      stopped = chain.stopped;
      keeps = record {
        stands = lives-stand first asked told chain.last w lives_are;
        adds = lives-add first asked told chain.last w lives_are;
        acknowledged = lives-acknowledge first asked told chain.last w lives_are;
        left_out = grown.2 (nothing-out layout);
        once = grown.1;
      };
    }
