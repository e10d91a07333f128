-- What is found after any steps, within one, and when it is closed.
use Rattle.std.proofs.Common.{◌≡◌, ◌⊎◌, inl, inr, ℕ, ◌+◌, ◌<◌, ◌≤◌, false, List, [], ◌∷◌, ◌++◌, sym, ◌∙◌, ap, subst, arith}
use Rattle.std.specs.Prelude.{Contains, None, Some}
use Rattle.std.proofs.lemmas.Bool.{cases_lt}
use Rattle.std.proofs.lemmas.List.Elements.{Contains-append_cases, Contains-push}
use Rattle.base.specs.declared.gap.Gap.{Gap}
use Rattle.base.specs.declared.step.Step.{Step}
use Rattle.base.specs.declared.step.Reply.{Reply}
use Rattle.base.specs.Commits.{Commit}
use Rattle.base.specs.Layout.{Layout}
use Rattle.base.specs.Records.{Record}
use Rattle.base.specs.Images.{Image, is_formatted, ruling}
use Rattle.base.specs.Stands.{Stands}
use Rattle.base.specs.Fresh.{fresh_image}
use Rattle.machine.specs.Machine.{State, Hand, Run, Stepped, final, Cover, present, covers_at, covers_closing, closed, drawn_of, StandsAsOne, StandsUnder, StandsAt, StandsWithin, StandsAlong, StandsClosing, StandsClosed}
use Rattle.machine.specs.Openings.{OpensAs, StandsOpening, opened}
use Rattle.machine.proofs.openings.GapLists.{one_gap_list}
use Rattle.pmem.specs.Device.{Device, LeftAt, MayLeave, IsOrderly}
use Rattle.pmem.specs.Words.{Continues, LeavesOnly, image_of}
use Rattle.pmem.specs.declared.device.Pmem.{Ghosts}
use Rattle.pmem.proofs.Images.{left_before, leaves_trans, leaves_weaken, may_leave_now}
use Rattle.recovery.specs.Fresh.{IsFormatting}
use Rattle.room.specs.declared.room.Room.{Room}
use Rattle.room.specs.Room.{Shows, StepsTo, RunsTo}
use Rattle.room.specs.Runs.{StandsSince}
use Rattle.file_laws.specs.Found.{IsNumbered, covers_within, MayRule, IsFound, StandsFor, IsBefore, ComesFrom, OpensFirst}
use Rattle.file_laws.proofs.Covers.{has-own, one-of, rules-first, rules-final, rules-last, least-gate, one-cover, closes-above}
use Rattle.file_laws.proofs.Found.{stands-as}
use Rattle.room.proofs.Runs.{run-then, along-at}

-- ---- what an image means

for-under : (q : State) (cover : Cover) (image : Image) → StandsUnder q cover image → StandsFor cover image
for-under q cover image under = record { drawn = drawn_of q; next = q.next; stands = under.stands; ruled = under.ruled }

-- for a run, and the closing that ends it
data Means (q : State) (states : List State) (image : Image) : Type 0 where
  raw : is_formatted image ≡ false → Means q states image
  older : (ruling image).gate < q.ruling.gate → Means q states image
  along : (cover : Cover) → MayRule q states cover → StandsFor cover image → Means q states image
  closing : StandsFor (closed (final q states)) image → Means q states image

means-before : (q : State) (states : List State) (image : Image) → IsBefore q image → Means q states image
means-before q states image (inl e) = raw e
means-before q states image (inr (inl less)) = older less
means-before q states image (inr (inr (cover, has, for))) = along cover (rules-first q states cover has) for

rules-along : (q : State) (states : List State) (image : Image) → StandsAlong q states image → (cover : Cover) × MayRule q states cover × StandsFor cover image
rules-along q [] image s = (s.0, s.1, for-under q s.0 image s.2)
rules-along q (q' ∷ states) image (inl s) = (s.0, inl s.1, for-under q s.0 image s.2)
rules-along q (q' ∷ states) image (inr s) = let rest = rules-along q' states image s in (rest.0, inr rest.1, rest.2)

means-along : (q : State) (states : List State) (image : Image) → StandsAlong q states image → Means q states image
means-along q states image s = let one = rules-along q states image s in along one.0 one.1 one.2

means-closing : (q : State) (states : List State) (image : Image) → StandsClosing (final q states) image → Means q states image
means-closing q states image (cover, has, under) = elim (Contains-append_cases (covers_at (final q states)) (closed (final q states) ∷ []) cover has) [
  | inl at ↦ along cover (rules-final q states cover at) (for-under (final q states) cover image under)
  | inr last ↦ closing (subst (λ (c : Cover). StandsFor c image) (one-of (closed (final q states)) cover last) (for-under (final q states) cover image under))
]

module _ (q : State) (steps : List Step) (replies : List Reply) (states : List State) (numbered : IsNumbered q) (run : Run q steps replies states) (image : Image) where
  -- it stands for what may rule along the run, or for what its close writes, if it has that gate
  for-rule : Means q states image → is_formatted image ≡ false ⊎ ((cover : Cover) → MayRule q states cover → (ruling image).gate ≡ cover.ruled_by.gate → StandsFor cover image)
  for-rule a = grind (arith, least-gate, one-cover, closes-above)

  for-close : Means q states image → is_formatted image ≡ false ⊎ ((ruling image).gate ≡ (closed (final q states)).ruled_by.gate → StandsFor (closed (final q states)) image)
  for-close (raw e) = inl e
  for-close (older less) =
      let last : Cover = present (final q states) in
      let rules : MayRule q states last = rules-final q states last (has-own (final q states)) in
      inr (λ gate. absurd (omega (arith, less, gate, least-gate q steps replies states last numbered run rules, closes-above q steps replies states numbered run last rules)))
  for-close (along other there for) = inr (λ gate. absurd (omega (arith, gate, ap (λ (r : Record). r.gate) for.ruled, closes-above q steps replies states numbered run other there)))
  for-close (closing for) = inr (λ gate. for)

  -- of covers each of which may rule along the run
  means-rules : (covers : List Cover) → ((cover : Cover) → Contains covers cover → MayRule q states cover) → Means q states image
      → is_formatted image ≡ false ⊎ ((cover : Cover) → Contains covers cover → (ruling image).gate ≡ cover.ruled_by.gate → StandsFor cover image)
  means-rules covers rules means = elim (for-rule means) [ inl e ↦ inl e | inr for ↦ inr (λ cover has. for cover (rules cover has)) ]

  -- and of those of closing
  means-last : Means q states image → is_formatted image ≡ false ⊎ ((cover : Cover) → Contains (closed (final q states) ∷ []) cover → (ruling image).gate ≡ cover.ruled_by.gate → StandsFor cover image)
  means-last means = elim (for-close means) [
    | inl e ↦ inl e
    | inr for ↦ inr (λ cover has gate.
        let is : cover ≡ closed (final q states) = one-of (closed (final q states)) cover has in
        subst (λ (c : Cover). StandsFor c image) (sym is) (for (gate ∙ ap (λ (c : Cover). c.ruled_by.gate) is)))
  ]

  means-closings : Means q states image → is_formatted image ≡ false ⊎ ((cover : Cover) → Contains (covers_closing (final q states)) cover → (ruling image).gate ≡ cover.ruled_by.gate → StandsFor cover image)
  means-closings means = elim (for-rule means) [
    | inl e ↦ inl e
    | inr for ↦ elim (means-last means) [
      | inl e ↦ inl e
      | inr last ↦ inr (λ cover has gate. elim (Contains-append_cases (covers_at (final q states)) (closed (final q states) ∷ []) cover has) [
        | inl at ↦ for cover (rules-final q states cover at) gate
        | inr only ↦ last cover only gate
      ])
    ]
  ]

-- ---- when it was left

-- before the room that the run began with, or since
means-found : (first last : Device) (layout : Layout) (since moment : ℕ) (q : State) (states : List State) (image : Image) → ComesFrom first since q → LeavesOnly first last (StandsAlong q states) → moment ≤ last.clock
    → IsFound layout last since moment image → Means q states image
means-found first last layout since moment q states image comes leaves le found = elim (cases_lt found.before first.clock) [
  | inl early ↦ means-before q states image (comes image (record { moment = found.before; from = found.from; to = omega (arith, early); left = left_before found.before leaves.continues (omega (arith, early)) found.left }))
  | inr late ↦ means-along q states image (leaves.each image (record { moment = found.before; from = late; to = omega (arith, found.to, le); left = found.left }))
]

pub shows-numbered : {D : Type 0} {G : Ghosts D} (state : D → Device) (room : Room D G) (q : State) → Shows state room q → IsNumbered q
shows-numbered state room q shows hand is = (shows.agrees.shown.shown.upholds.keeps.numbers.hand hand is).extends.gate

module _ {D : Type 0} {G : Ghosts D} (state : D → Device) where
  -- between two steps
  pub found-now : (first last : Room D G) (since : ℕ) (steps : List Step) (replies : List Reply) (q : State) (states : List State) (image : Image) → IsOrderly (state last.device)
      → Shows state first q → ComesFrom (state first.device) since q → RunsTo state first last steps replies q states
      → IsFound (final q states).layout (state last.device) since (state last.device).clock image → StandsAt (final q states) image
  found-now first last since steps replies q states image orderly shows comes runs found =
      stands-as (final q states) (covers_at (final q states)) (state last.device) since (state last.device).clock image found
      (λ other left. runs.shows.stands other (may_leave_now orderly left))
      (means-rules q steps replies states (shows-numbered state first q shows) runs.run image (covers_at (final q states)) (rules-final q states)
      (means-found (state first.device) (state last.device) (final q states).layout since (state last.device).clock q states image comes runs.images (omega arith) found))

  -- within a step
  pub found-within : (first next last : Room D G) (since moment : ℕ) (steps : List Step) (replies : List Reply) (step : Step) (reply : Reply) (q : State) (states : List State) (q' : State) (image : Image)
      → Shows state first q → ComesFrom (state first.device) since q → RunsTo state first next steps replies q states → StepsTo state next last step reply (final q states) q'
      → (state next.device).clock ≤ moment → moment ≤ (state last.device).clock
      → IsFound (final q states).layout (state last.device) since moment image → StandsWithin (final q states) q' image
  found-within first next last since moment steps replies step reply q states q' image shows comes runs one from to found =
      let whole : RunsTo state first last (steps ++ step ∷ []) (replies ++ reply ∷ []) q (states ++ q' ∷ []) = run-then state first next last steps replies step reply q states q' runs one in
      stands-as (final q states) (covers_within (final q states) q') (state last.device) since moment image found
      (λ other left. one.effect.images.each other (record { moment = moment; from = from; to = to; left = left }))
      (means-rules q (steps ++ step ∷ []) (replies ++ reply ∷ []) (states ++ q' ∷ []) (shows-numbered state first q shows) whole.run image (covers_within (final q states) q') (rules-last q states q')
      (means-found (state first.device) (state last.device) (final q states).layout since moment q (states ++ q' ∷ []) image comes whole.images to found))

  -- ---- closing

  -- before it, or within
  means-closed : (first last : Room D G) (device : Device) (since moment : ℕ) (steps : List Step) (replies : List Reply) (q : State) (states : List State) (image : Image)
      → ComesFrom (state first.device) since q → RunsTo state first last steps replies q states → LeavesOnly (state last.device) device (StandsClosing (final q states)) → moment ≤ device.clock
      → IsFound (final q states).layout device since moment image → Means q states image
  means-closed first last device since moment steps replies q states image comes runs leaves to found = elim (cases_lt found.before (state last.device).clock) [
    | inl early ↦
        let left : LeftAt (state last.device) found.before image = left_before found.before leaves.continues (omega (arith, early)) found.left in
        elim (cases_lt found.before (state first.device).clock) [
          | inl past ↦ means-before q states image (comes image (record { moment = found.before; from = found.from; to = omega (arith, past); left = left_before found.before runs.images.continues (omega (arith, past)) left }))
          | inr late ↦ means-along q states image (runs.images.each image (record { moment = found.before; from = late; to = omega (arith, early); left = left }))
        ]
    | inr late ↦ means-closing q states image (leaves.each image (record { moment = found.before; from = late; to = omega (arith, found.to, to); left = found.left }))
  ]

  pub found-closing : (first last : Room D G) (device : Device) (since moment : ℕ) (steps : List Step) (replies : List Reply) (q : State) (states : List State) (image : Image)
      → Shows state first q → ComesFrom (state first.device) since q → RunsTo state first last steps replies q states → LeavesOnly (state last.device) device (StandsClosing (final q states))
      → (state last.device).clock ≤ moment → moment ≤ device.clock → IsFound (final q states).layout device since moment image → StandsClosing (final q states) image
  found-closing first last device since moment steps replies q states image shows comes runs leaves from to found =
      stands-as (final q states) (covers_closing (final q states)) device since moment image found
      (λ other left. leaves.each other (record { moment = moment; from = from; to = to; left = left }))
      (means-closings q steps replies states (shows-numbered state first q shows) runs.run image (means-closed first last device since moment steps replies q states image comes runs leaves to found))

  pub found-closed : (first last : Room D G) (device : Device) (since : ℕ) (steps : List Step) (replies : List Reply) (q : State) (states : List State) (image : Image) → IsOrderly device
      → Shows state first q → ComesFrom (state first.device) since q → RunsTo state first last steps replies q states → LeavesOnly (state last.device) device (StandsClosing (final q states))
      → ((other : Image) → MayLeave device other → StandsClosed (final q states) other) → IsFound (final q states).layout device since device.clock image → StandsClosed (final q states) image
  found-closed first last device since steps replies q states image orderly shows comes runs leaves stands found =
      let last_cover : Cover = closed (final q states) in
      let one : StandsAsOne (final q states) (last_cover ∷ []) image =
      stands-as (final q states) (last_cover ∷ []) device since device.clock image found
      (λ other left. (last_cover, Contains-push [] last_cover, stands other (may_leave_now orderly left)))
      (means-last q steps replies states (shows-numbered state first q shows) runs.run image (means-closed first last device since device.clock steps replies q states image comes runs leaves (omega arith) found)) in
      subst (λ (c : Cover). StandsUnder (final q states) c image) (one-of last_cover one.0 one.1) one.2

  -- ---- what a room comes from

  -- from itself
  pub comes-shown : (room : Room D G) (q : State) → IsOrderly (state room.device) → Shows state room q → ComesFrom (state room.device) (state room.device).clock q
  comes-shown room q orderly shows image might =
      let now : might.moment ≡ (state room.device).clock = omega (arith, might.from, might.to) in
      let s : StandsAt q image = shows.stands image (may_leave_now orderly (subst (λ (m : ℕ). LeftAt (state room.device) m image) now might.left)) in
      inr (inr (s.0, s.1, for-under q s.0 image s.2))

-- the record that is written when it is opened has the number after that of the image
opened-gate : (image : Image) (history : List Commit) (lost : List ℕ) (q : State) → OpensAs image history lost q → q.ruling.gate ≡ (ruling image).gate + 1
opened-gate image history lost q (gaps, is, e) = ap (λ (p : State). p.ruling.gate) e

opened-ruling : (image : Image) (history : List Commit) (lost : List ℕ) (q q' : State) → OpensAs image history lost q → OpensAs image history [] q' → q'.ruling ≡ q.ruling
opened-ruling image history lost q q' (gaps, is, e) (gaps', is', e') =
    ap (λ (p : State). p.ruling) e' ∙ ap (λ (g : List Gap). (opened image history lost g).ruling) (one_gap_list (ruling image) gaps' gaps is' is) ∙ sym (ap (λ (p : State). p.ruling) e)

-- what opening leaves is from before the state that the image opens as, or stands for it
opening-before : (before image : Image) (history : List Commit) (next : ℕ) (lost : List ℕ) (q : State) → OpensAs before history lost q → StandsOpening before history next image → IsBefore q image
opening-before before image history next lost q opens s = elim s.ruled [
  | inl before_it ↦ inr (inl (omega (arith, ap (λ (r : Record). r.gate) before_it, opened-gate before history lost q opens)))
  | inr (q', opens', ruled) ↦ inr (inr (
    present q,
    has-own q,
    record {
      drawn = [];
      next = next;
      stands = subst (λ (h : List Commit). Stands image h [] next) (sym (ap (λ (p : State). p.history) opens.2)) s.stands;
      ruled = ruled ∙ opened-ruling before history lost q q' opens opens';
    },
  ))
]

-- from its opening
pub comes-opened : (before now : Device) (history : List Commit) (next : ℕ) (lost : List ℕ) (q : State) → OpensAs (image_of before) history lost q
    → LeavesOnly before now (StandsOpening (image_of before) history next) → ComesFrom now before.clock q
comes-opened before now history next lost q opens leaves image might = opening-before (image_of before) image history next lost q opens (leaves.each image might)

-- from a format of a device that held nothing, before that opening
pub comes-formatted : (raw_device before now : Device) (layout : Layout) (history : List Commit) (lost : List ℕ) (q : State) → ((image : Image) → MayLeave raw_device image → is_formatted image ≡ false)
    → LeavesOnly raw_device before (IsFormatting raw_device layout) → image_of before ≡ fresh_image layout → OpensAs (image_of before) history lost q → Continues before now
    → ComesFrom now before.clock q → ComesFrom now raw_device.clock q
comes-formatted raw_device before now layout history lost q nothing leaves fresh opens continues comes image might = elim (cases_lt might.moment before.clock) [
  | inl early ↦ by (leaves.each image (record { moment = might.moment; from = might.from; to = omega (arith, early); left = left_before might.moment continues (omega (arith, early)) might.left }))
  | inr late ↦ comes image (record { moment = might.moment; from = late; to = might.to; left = might.left })
]
  where
    by : IsFormatting raw_device layout image → IsBefore q image
    by (inl was) = inl (nothing image was)
    by (inr (inl raw_image)) = inl raw_image
    by (inr (inr is)) = inr (inl (omega (arith, ap (λ (i : Image). (ruling i).gate) (is ∙ sym fresh), opened-gate (image_of before) history lost q opens)))

-- ---- from the opening of a device

-- the image opens with nothing in hand
opened-numbered : (image : Image) (history : List Commit) (lost : List ℕ) (q : State) → OpensAs image history lost q → IsNumbered q
opened-numbered image history lost q (gaps, is, e) hand held = absurd (no_hand hand (sym (ap (λ (p : State). p.hand) e) ∙ held))
  where
    no_hand : (hand : Hand) → None ≡ Some hand → ⊥
    no_hand hand none = cc

run-last : (q : State) (steps : List Step) (replies : List Reply) (states : List State) (step : Step) (reply : Reply) (q' : State) → Run q steps replies states → Stepped (final q states) step reply q'
    → Run q (steps ++ step ∷ []) (replies ++ reply ∷ []) (states ++ q' ∷ [])
run-last q [] [] [] step reply q' run one = (one, tt)
run-last q (s1 ∷ steps) (r1 ∷ replies) (q1 ∷ states) step reply q' run one = (run.0, run-last q1 steps replies states step reply q' run.1 one)
run-last q [] [] (q1 ∷ states) step reply q' run one = absurd run
run-last q [] (r1 ∷ replies) states step reply q' run one = absurd run
run-last q (s1 ∷ steps) [] states step reply q' run one = absurd run
run-last q (s1 ∷ steps) (r1 ∷ replies) [] step reply q' run one = absurd run

along-before : (q : State) (states later : List State) (image : Image) → StandsAlong q states image → StandsAlong q (states ++ later) image
along-before q [] later image s = along-at q later image s
along-before q (q1 ∷ states) later image (inl s) = inl s
along-before q (q1 ∷ states) later image (inr s) = inr (along-before q1 states later image s)

along-after : (q : State) (states later : List State) (image : Image) → StandsAlong (final q states) later image → StandsAlong q (states ++ later) image
along-after q [] later image s = s
along-after q (q1 ∷ states) later image s = inr (along-after q1 states later image s)

module _ (before : Device) (history : List Commit) (next : ℕ) (lost : List ℕ) (start : State) (opens : OpensAs (image_of before) history lost start) (only : OpensFirst before) where
  -- what was left at that moment
  means-left : (now : Device) (states : List State) (moment : ℕ) (image : Image) → LeavesOnly before now (StandsSince (image_of before) history next start states) → moment ≤ now.clock
      → LeftAt now moment image → Means start states image
  means-left now states moment image leaves to left = elim (cases_lt moment before.clock) [
    | inl early ↦ first (only image (record { moment = moment; from = omega arith; to = omega (arith, early); left = left_before moment leaves.continues (omega (arith, early)) left }))
    | inr late ↦ since (leaves.each image (record { moment = moment; from = late; to = to; left = left }))
  ]
    where
      first : (is_formatted image ≡ false) ⊎ (image ≡ image_of before) → Means start states image
      first (inl e) = raw e
      first (inr same) = older (omega (arith, ap (λ (i : Image). (ruling i).gate) same, opened-gate (image_of before) history lost start opens))

      since : StandsSince (image_of before) history next start states image → Means start states image
      since (inl opening) = means-before start states image (opening-before (image_of before) image history next lost start opens opening)
      since (inr run) = means-along start states image run

  module _ (now : Device) (steps : List Step) (replies : List Reply) (states : List State) (run : Run start steps replies states) (leaves : LeavesOnly before now (StandsSince (image_of before) history next start states)) where
    -- between two steps
    pub since-now : (image : Image) → IsOrderly now → ((other : Image) → MayLeave now other → StandsAt (final start states) other) → IsFound (final start states).layout now 0 now.clock image → StandsAt (final start states) image
    since-now image orderly stands found =
        stands-as (final start states) (covers_at (final start states)) now 0 now.clock image found
        (λ other left. stands other (may_leave_now orderly left))
        (means-rules start steps replies states (opened-numbered (image_of before) history lost start opens) run image (covers_at (final start states)) (rules-final start states)
        (means-left now states found.before image leaves found.to found.left))

    -- within a step
    pub since-within : (later : Device) (step : Step) (reply : Reply) (q' : State) (moment : ℕ) (image : Image) → Stepped (final start states) step reply q' → LeavesOnly now later (StandsWithin (final start states) q')
        → now.clock ≤ moment → moment ≤ later.clock → IsFound (final start states).layout later 0 moment image → StandsWithin (final start states) q' image
    since-within later step reply q' moment image one within from to found =
        let whole : LeavesOnly before later (StandsSince (image_of before) history next start (states ++ q' ∷ [])) = leaves_trans (leaves_weaken more leaves) (leaves_weaken (λ other s. inr (along-after start states (q' ∷ []) other (inl s))) within) in
        stands-as (final start states) (covers_within (final start states) q') later 0 moment image found
        (λ other left. within.each other (record { moment = moment; from = from; to = to; left = left }))
        (means-rules start (steps ++ step ∷ []) (replies ++ reply ∷ []) (states ++ q' ∷ []) (opened-numbered (image_of before) history lost start opens) (run-last start steps replies states step reply q' run one)
        image (covers_within (final start states) q') (rules-last start states q')
        (means-left later (states ++ q' ∷ []) found.before image whole (omega (arith, found.to, to)) found.left))
      where
        more : (other : Image) → StandsSince (image_of before) history next start states other → StandsSince (image_of before) history next start (states ++ q' ∷ []) other
        more other (inl opening) = inl opening
        more other (inr run) = inr (along-before start states (q' ∷ []) other run)

    -- while it is closed
    pub since-closing : (later : Device) (moment : ℕ) (image : Image) → LeavesOnly now later (StandsClosing (final start states))
        → now.clock ≤ moment → moment ≤ later.clock → IsFound (final start states).layout later 0 moment image → StandsClosing (final start states) image
    since-closing later moment image closes from to found =
        stands-as (final start states) (covers_closing (final start states)) later 0 moment image found
        (λ other left. closes.each other (record { moment = moment; from = from; to = to; left = left }))
        (means-closings start steps replies states (opened-numbered (image_of before) history lost start opens) run image
        (elim (cases_lt found.before now.clock) [
          | inl early ↦ means-left now states found.before image leaves (omega (arith, early)) (left_before found.before closes.continues (omega (arith, early)) found.left)
          | inr late ↦ means-closing start states image (closes.each image (record { moment = found.before; from = late; to = omega (arith, found.to, to); left = found.left }))
        ]))
