-- What was left out by a stop never returns, and no timestamp is drawn twice across lives.
use Rattle.std.proofs.Common.{◌≡◌, ℕ, ◌+◌, ◌<◌, ◌≤◌, Bool, true, false, cond, not, ◌||◌, nat_eq, List, [], ◌∷◌, ◌++◌, refl, sym, ◌∙◌, ap, subst, append-nil, append_assoc, arith, inl, inr, get_or}
use Rattle.std.specs.Prelude.{Option, Some, None, All, Result, Ok, Err, filter}
use Rattle.std.specs.Option.{option_map_or}
use Rattle.std.proofs.lemmas.Bool.{ne_eqb, not-true}
use Rattle.std.proofs.lemmas.List.Elements.{All-nil, All-cons, All-append, All-map, All-filter, All-weaker, All-contains, All-same, All-head, All-tail, filter_passes}
use Rattle.base.specs.declared.fault.Fault.{Fault}
use Rattle.base.specs.declared.step.Step.{Step}
use Rattle.base.specs.declared.step.Step.TheVariants.{Begin, Get, Scan, Put, Delete, Draw, Stamp, Poll, Abort, End, Commit as CommitTick, Collect}
use Rattle.base.specs.declared.step.Stage.{Stage}
use Rattle.base.specs.declared.step.Reply.{Reply}
use Rattle.base.specs.Commits.{Commit, Writes}
use Rattle.base.specs.Stands.{has_timestamp}
use Rattle.machine.specs.Machine.{State, Drawn, Hand, Stepped, refused, answered, memory_refused, device_failed, Run, final, next_state, state_ticked, state_ticked_on, state_drawn, next_stage, is_idle, writes_of, counted, drawn_of, in_hand, uncovered, is_chosen, timestamp_of, chosen, taken_in_hand, Cover, covers_at, of_hand, present, covers_closing, closed}
use Rattle.machine.specs.Lives.{World, IsWorld, Opening, Opens, Fails, Numbers, Asked, Report, StopsAt, EndsAs, LifeAs, Lives, RunsUp, left_out}
use Rattle.machine.specs.Laws.{RiseBetween, drawn_in, drawn_over, StayOut}
use Rattle.machine.proofs.Growth.{rise-append, run-rise}
use Rattle.machine.proofs.lives.Laws.{life-stands}

-- The commits of a life

-- the commit's timestamp was drawn between these
record Within (from to : ℕ) (commit : Commit) : Type 0 where
  low : from ≤ commit.timestamp
  high : commit.timestamp < to

-- what is drawn or being written was drawn in this life
record Fresh (from : ℕ) (q : State) : Type 0 where
  le : from ≤ q.next
  drawn : All (λ d. Within from q.next d.commit) q.drawn
  hand : All (Within from q.next) (in_hand q)

widen : (from to more : ℕ) (commit : Commit) → to ≤ more → Within from to commit → Within from more commit
widen from to more commit le w = record { low = w.low; high = omega (arith, w.high, le) }

widen-all : (from to more : ℕ) (commits : List Commit) → to ≤ more → All (Within from to) commits → All (Within from more) commits
widen-all from to more commits le all = All-weaker (Within from to) (Within from more) (λ c w. widen from to more c le w) commits all

widen-drawn : (from to more : ℕ) (ds : List Drawn) → to ≤ more → All (λ d. Within from to d.commit) ds → All (λ d. Within from more d.commit) ds
widen-drawn from to more ds le all = All-weaker (λ d. Within from to d.commit) (λ d. Within from more d.commit) (λ d w. widen from to more d.commit le w) ds all

within-counted : (from to t : ℕ) (d : Drawn) → Within from to d.commit → Within from to (counted t d).commit
within-counted from to t d w = grind arith

fresh-drawn : (from : ℕ) (q : State) (n : ℕ) (writes : Writes) → Fresh from q → Fresh from (state_drawn q n writes)
fresh-drawn from q n [] f = record { le = f.le; drawn = f.drawn; hand = f.hand }
fresh-drawn from q n (write ∷ writes) f =
    let made : Drawn = record { commit = record { timestamp = q.next; writes = write ∷ writes }; stamped = 0 } in
    let P : Drawn → Type 0 = λ d. Within from (q.next + 1) d.commit in
    let this : P made = record { low = f.le; high = omega arith } in
    record {
      le = omega (arith, f.le);
      drawn = All-append P q.drawn (made ∷ []) (widen-drawn from q.next (q.next + 1) q.drawn (omega arith) f.drawn) (All-cons P made [] this (All-nil P));
      hand = widen-all from q.next (q.next + 1) (in_hand q) (omega arith) f.hand;
    }

chosen-within : (from : ℕ) (q : State) → Fresh from q → All (Within from q.next) (chosen q)
chosen-within from q f =
    let test : Drawn → Bool = is_chosen q in
    All-map (Within from q.next) (λ d. d.commit) (filter test q.drawn) (All-filter test (λ d. Within from q.next d.commit) q.drawn f.drawn)

fresh-idle : (from : ℕ) (q : State) (b : Bool) → Fresh from q → Fresh from (cond b q (record q { hand = Some (taken_in_hand q) }))
fresh-idle from q a f = grind (arith, chosen-within from q f)

-- a step adds to the history what was drawn in this life
abbrev Grows : ℕ → State → State → Type 0
Grows from q q' = (more : List Commit) × (q'.history ≡ q.history ++ more) × All (Within from q'.next) more

none_more : (from : ℕ) (q : State) → Grows from q q
none_more from q = ([], sym (append-nil q.history), All-nil (Within from q.next))

Kept : ℕ → State → State → Type 0
Kept from q q' = Fresh from q' × Grows from q q'

kept-on : (from : ℕ) (q : State) (hand : Hand) (o : Option Stage) → Fresh from q → All (Within from q.next) hand.commits → Kept from q (state_ticked_on q hand o)
unfolding Kept
kept-on from q hand (Some stage) f all = (record { le = f.le; drawn = f.drawn; hand = all }, ([], sym (append-nil q.history), All-nil (Within from q.next)))
kept-on from q hand None f all = (
  record { le = f.le; drawn = All-filter (λ d. not (has_timestamp hand.commits d.commit.timestamp)) (λ d. Within from q.next d.commit) q.drawn f.drawn; hand = All-nil (Within from q.next) },
  (hand.commits, refl, all),
)

kept-idle : (from : ℕ) (q : State) (b : Bool) → Fresh from q → Kept from q (cond b q (record q { hand = Some (taken_in_hand q) }))
unfolding Kept
kept-idle from q true f = (f, none_more from q)
kept-idle from q false f = (fresh-idle from q false f, ([], sym (append-nil q.history), All-nil (Within from q.next)))

kept-ticked : (from : ℕ) (q : State) (o : Option Hand) → Fresh from q → All (Within from q.next) (option_map_or (λ hand. hand.commits) o []) → Kept from q (state_ticked q o)
kept-ticked from q None f all = kept-idle from q (is_idle q) f
kept-ticked from q (Some hand) f all = kept-on from q hand (next_stage q hand) f all

kept-next : (from : ℕ) (q : State) (step : Step) → Fresh from q → Kept from q (next_state q step)
unfolding Kept
kept-next from q Begin f = (record { le = f.le; drawn = f.drawn; hand = f.hand }, ([], sym (append-nil q.history), All-nil (Within from q.next)))
kept-next from q (Get n key) f = (f, none_more from q)
kept-next from q (Scan n table lo hi) f = (f, none_more from q)
kept-next from q (Put n key row) f = (record { le = f.le; drawn = f.drawn; hand = f.hand }, ([], sym (append-nil q.history), All-nil (Within from q.next)))
kept-next from q (Delete n key) f = (record { le = f.le; drawn = f.drawn; hand = f.hand }, ([], sym (append-nil q.history), All-nil (Within from q.next)))
kept-next from q (Draw n) f = by (writes_of (q.sessions n))
  where
    by : (writes : Writes) → Fresh from (state_drawn q n writes) × Grows from q (state_drawn q n writes)
    by [] = (fresh-drawn from q n [] f, ([], sym (append-nil q.history), All-nil (Within from q.next)))
    by (write ∷ writes) = (fresh-drawn from q n (write ∷ writes) f, ([], sym (append-nil q.history), All-nil (Within from (q.next + 1))))
kept-next from q (Stamp n) f =
    let t : ℕ = timestamp_of (q.sessions n) in (
      record {
        le = f.le;
        drawn = All-map (λ d. Within from q.next d.commit) (counted t) q.drawn (All-weaker (λ d. Within from q.next d.commit) (λ d. Within from q.next (counted t d).commit) (λ d w. within-counted from q.next t d w) q.drawn f.drawn);
        hand = f.hand;
      },
      ([], sym (append-nil q.history), All-nil (Within from q.next)),
    )
kept-next from q (Poll n) f = (f, none_more from q)
kept-next from q (Abort n) f = (record { le = f.le; drawn = f.drawn; hand = f.hand }, ([], sym (append-nil q.history), All-nil (Within from q.next)))
kept-next from q (End n) f = (record { le = f.le; drawn = f.drawn; hand = f.hand }, ([], sym (append-nil q.history), All-nil (Within from q.next)))
kept-next from q CommitTick f = kept-ticked from q q.hand f f.hand
kept-next from q Collect f = grind (arith, append-nil)

kept-stepped : (from : ℕ) (q : State) (step : Step) (reply : Reply) (q' : State) → Fresh from q → Stepped q step reply q' → Kept from q q'
unfolding Kept
kept-stepped from q step reply q' f (refused fault e r s) = subst (Kept from q) (sym s) (f, none_more from q)
kept-stepped from q step reply q' f (answered e a s) = subst (Kept from q) (sym s) (kept-next from q step f)
kept-stepped from q step reply q' f (memory_refused e m r s) = subst (Kept from q) (sym s) (f, none_more from q)
kept-stepped from q step reply q' f (device_failed e m r s) =
    subst (Kept from q) (sym s) (record { le = f.le; drawn = f.drawn; hand = f.hand }, ([], sym (append-nil q.history), All-nil (Within from q.next)))

rise-le : (from to : ℕ) (ts : List ℕ) → RiseBetween from ts to → from ≤ to
rise-le from to [] r = r
rise-le from to (t ∷ ts) r = omega (arith, r.0, rise-le (t + 1) to ts r.1)

kept-trans : (from : ℕ) (q mid q' : State) → mid.next ≤ q'.next → Kept from q mid → Kept from mid q' → Kept from q q'
unfolding Kept
kept-trans from q mid q' le (f, (a, e, within_a)) (g, (b, e', within_b)) =
    (g, (a ++ b, e' ∙ (ap (λ (l : List Commit). l ++ b) e ∙ append_assoc q.history a b), All-append (Within from q'.next) a b (widen-all from mid.next q'.next a le within_a) within_b))

fresh-kept : (from : ℕ) (q q' : State) → Kept from q q' → Fresh from q'
unfolding Kept
fresh-kept from q q' kept = kept.0

kept-none : (from : ℕ) (q : State) → Fresh from q → Kept from q q
unfolding Kept
kept-none from q f = (f, none_more from q)

run-kept : (from : ℕ) (q : State) (steps : List Step) (replies : List Reply) (states : List State) → Fresh from q → Run q steps replies states → Kept from q (final q states)
run-kept from q [] [] [] f run = kept-none from q f
run-kept from q (step ∷ steps) (reply ∷ replies) (q1 ∷ states) f run =
    let first = kept-stepped from q step reply q1 f run.0 in
    kept-trans from q q1 (final q1 states) (rise-le q1.next (final q1 states).next (drawn_in replies) (run-rise q1 steps replies states run.1))
    first (run-kept from q1 steps replies states (fresh-kept from q q1 first) run.1)
run-kept from q [] [] (q1 ∷ states) f run = absurd run
run-kept from q [] (r1 ∷ replies) states f run = absurd run
run-kept from q (s1 ∷ steps) [] states f run = absurd run
run-kept from q (s1 ∷ steps) (r1 ∷ replies) [] f run = absurd run

-- the steps up to a failure are a run
pub runs-up : (q : State) (steps : List Step) (replies : List Reply) (states : List State) → RunsUp q steps replies states → (done : List Step) × Run q done replies states
runs-up q [] [] [] r = ([], tt)
runs-up q (s1 ∷ steps) (r1 ∷ replies) (q1 ∷ states) (s, inl (f, no_replies, no_states)) =
    (s1 ∷ [], (s, subst (λ (l : List Reply). Run q1 [] l states) (sym no_replies) (subst (λ (l : List State). Run q1 [] [] l) (sym no_states) tt)))
runs-up q (s1 ∷ steps) (r1 ∷ replies) (q1 ∷ states) (s, inr (f, more)) = let rest = runs-up q1 steps replies states more in (s1 ∷ rest.0, (s, rest.1))
runs-up q [] [] (q1 ∷ states) r = absurd r
runs-up q [] (r1 ∷ replies) states r = absurd r
runs-up q (s1 ∷ steps) [] states r = absurd r
runs-up q (s1 ∷ steps) (r1 ∷ replies) [] r = absurd r

-- A stop

-- a record that may rule covers the history and commits of this life
abbrev Adds : ℕ → State → Cover → Type 0
Adds from q cover = (more : List Commit) × (cover.commits ≡ q.history ++ more) × All (Within from q.next) more

adds-hand : (from : ℕ) (q : State) (o : Option Hand) → All (Within from q.next) (option_map_or (λ hand. hand.commits) o []) → All (Adds from q) (of_hand q o)
adds-hand from q a all = grind (arith)

adds-at : (from : ℕ) (q : State) → Fresh from q → All (Adds from q) (covers_at q)
adds-at from q f = All-cons (Adds from q) (present q) (of_hand q q.hand) ([], sym (append-nil q.history), All-nil (Within from q.next)) (adds-hand from q q.hand f.hand)

within-uncovered : (from : ℕ) (q : State) → Fresh from q → All (Within from q.next) (uncovered q)
within-uncovered from q f =
    let test : Commit → Bool = λ commit. not (has_timestamp (in_hand q) commit.timestamp) in
    All-append (Within from q.next) (in_hand q) (filter test (drawn_of q)) f.hand
    (All-filter test (Within from q.next) (drawn_of q) (All-map (Within from q.next) (λ d. d.commit) q.drawn f.drawn))

adds-closed : (from : ℕ) (q : State) → Fresh from q → All (Adds from q) (closed q ∷ [])
adds-closed from q f = All-cons (Adds from q) (closed q) [] (uncovered q, refl, within-uncovered from q f) (All-nil (Adds from q))

adds-closing : (from : ℕ) (q : State) → Fresh from q → All (Adds from q) (covers_closing q)
adds-closing from q f = All-append (Adds from q) (covers_at q) (closed q ∷ []) (adds-at from q f) (adds-closed from q f)

-- what a stop in the state leaves
record Stopped (from : ℕ) (q : State) (lost : List ℕ) (after : World) : Type 0 where
  history : (more : List Commit) × (after.history ≡ q.history ++ more) × All (Within from q.next) more
  drawn : after.drawn ≡ drawn_of q
  next : after.next ≡ q.next
  loses : after.lost ≡ lost ++ left_out after.history after.drawn

stopped : (from : ℕ) (q : State) (covers : List Cover) (lost : List ℕ) (after : World) → All (Adds from q) covers → StopsAt q covers lost after → Stopped from q lost after
stopped from q covers lost after adds s =
    let a = All-contains (Adds from q) covers s.cover adds s.one in
    record { history = (a.0, s.history ∙ a.1, a.2); drawn = s.drawn; next = s.next; loses = s.loses }

end-stopped : (from : ℕ) (q : State) (closes : Bool) (c : Option (Result Numbers Fault)) (lost : List ℕ) (after : World) → Fresh from q → EndsAs q closes c lost after → Stopped from q lost after
end-stopped from q closes None lost after f (c, s) = stopped from q (covers_at q) lost after (adds-at from q f) s
end-stopped from q closes (Some (Err fault)) lost after f (c, works, inl (g, s)) = stopped from q (covers_at q) lost after (adds-at from q f) s
end-stopped from q closes (Some (Err fault)) lost after f (c, works, inr (g, d, s)) = stopped from q (covers_closing q) lost after (adds-closing from q f) s
end-stopped from q closes (Some (Ok numbers)) lost after f (c, works, g, n, s) = stopped from q (closed q ∷ []) lost after (adds-closed from q f) s

-- Lost timestamps

none-append : (xs ys : List Commit) (t : ℕ) → has_timestamp xs t ≡ false → has_timestamp ys t ≡ false → has_timestamp (xs ++ ys) t ≡ false
none-append [] ys t a b = b
none-append (x ∷ xs) ys t a b = grind (arith, none-append xs ys t)

-- what was drawn from a timestamp on isn't below it
none-within : (from to t : ℕ) (commits : List Commit) → t < from → All (Within from to) commits → has_timestamp commits t ≡ false
none-within from to t [] less all = refl
none-within from to t (c ∷ commits) less all =
    let here : Within from to c = All-head (Within from to) c commits all in
    or_none (nat_eq c.timestamp t) (has_timestamp commits t) (ne_eqb c.timestamp t (λ e. omega (arith, e, less, here.low))) (none-within from to t commits less (All-tail (Within from to) c commits all))
  where
    or_none : (a b : Bool) → a ≡ false → b ≡ false → a || b ≡ false
    or_none true b e f = cc
    or_none false b e f = f

-- a stop leaves out only what stays out
out-stopped : (from : ℕ) (before : World) (q : State) (more : List Commit) (after : World) → before.next ≤ from → from ≤ q.next → q.history ≡ before.history ++ more → All (Within from q.next) more
    → Fresh from q → StayOut before → Stopped from q before.lost after → StayOut after
out-stopped from before q more after le le' e within f o s =
    let last = s.history in
    let Below : ℕ → Type 0 = λ t. t < after.next in
    let Out : ℕ → Type 0 = λ t. has_timestamp after.history t ≡ false in
    let out_test : Commit → Bool = λ c. not (has_timestamp after.history c.timestamp) in
    let new : List ℕ = left_out after.history after.drawn in
    let old_out : All Out before.lost = λ k d h.
    subst (λ (l : List Commit). has_timestamp l (get_or before.lost k d) ≡ false) (sym (last.1 ∙ ap (λ (l : List Commit). l ++ last.0) e))
    (none-append (before.history ++ more) last.0 (get_or before.lost k d)
    (none-append before.history more (get_or before.lost k d) (o.out k d h) (none-within from q.next (get_or before.lost k d) more (omega (arith, o.below k d h, le)) within))
    (none-within from q.next (get_or before.lost k d) last.0 (omega (arith, o.below k d h, le)) last.2)) in
    let all_drawn : All (Within from q.next) after.drawn =
    All-same (Within from q.next) after.drawn (drawn_of q) s.drawn (All-map (Within from q.next) (λ d. d.commit) q.drawn f.drawn) in
    let new_below : All Below new =
    All-map Below (λ c. c.timestamp) (filter out_test after.drawn)
    (All-filter out_test (λ c. c.timestamp < after.next) after.drawn (All-weaker (Within from q.next) (λ c. c.timestamp < after.next) (λ c w. omega (arith, w.high, s.next)) after.drawn all_drawn)) in
    let new_out : All Out new =
    All-map Out (λ c. c.timestamp) (filter out_test after.drawn)
    (All-weaker (λ c. out_test c ≡ true) (λ c. has_timestamp after.history c.timestamp ≡ false) (λ c e. not-true (has_timestamp after.history c.timestamp) e) (filter out_test after.drawn) (filter_passes out_test after.drawn)) in
    record {
      below = All-same Below after.lost (before.lost ++ new) s.loses (All-append Below before.lost new (All-weaker (λ t. t < before.next) Below (λ t l. omega (arith, l, le, le', s.next)) before.lost o.below) new_below);
      out = All-same Out after.lost (before.lost ++ new) s.loses (All-append Out before.lost new old_out new_out);
    }

-- Lives

-- what a life that opens does
record Lived (before : World) (replies : List Reply) (after : World) : Type 0 where
  history : (more : List Commit) × (after.history ≡ before.history ++ more)
  drawn : RiseBetween before.next (drawn_in replies) after.next
  out : StayOut before → StayOut after

rise-lower : (low from to : ℕ) (ts : List ℕ) → low ≤ from → RiseBetween from ts to → RiseBetween low ts to
rise-lower low from to [] le r = omega (arith, le, r)
rise-lower low from to (t ∷ ts) le r = (omega (arith, le, r.0), r.1)

fresh-opened : (start : State) (from : ℕ) → start.next ≡ from → start.drawn ≡ [] → start.hand ≡ None → Fresh from start
fresh-opened start from next drawn hand = grind arith

lived : (before : World) (start : State) (done : List Step) (replies : List Reply) (states : List State) (closes : Bool) (c : Option (Result Numbers Fault)) (after : World)
    → before.next ≤ start.next → start.history ≡ before.history → start.drawn ≡ [] → start.hand ≡ None
    → Run start done replies states → EndsAs (final start states) closes c before.lost after → Lived before replies after
unfolding Kept
lived before start done replies states closes c after le same drawn hand run ends =
    let from : ℕ = start.next in
    let kept = run-kept from start done replies states (fresh-opened start from refl drawn hand) run in
    let rise = run-rise start done replies states run in
    let more = kept.1 in
    let stop = end-stopped from (final start states) closes c before.lost after kept.0 ends in
    let e : (final start states).history ≡ before.history ++ more.0 = more.1 ∙ ap (λ (l : List Commit). l ++ more.0) same in
    let last = stop.history in
    record {
      history = (more.0 ++ last.0, last.1 ∙ (ap (λ (l : List Commit). l ++ last.0) e ∙ append_assoc before.history more.0 last.0));
      drawn = subst (λ (n : ℕ). RiseBetween before.next (drawn_in replies) n) (sym stop.next) (rise-lower before.next from (final start states).next (drawn_in replies) le rise);
      out = λ o. out-stopped from before (final start states) more.0 after le kept.0.le e more.2 kept.0 o stop;
    }

-- a life that doesn't open
still : (before after : World) (replies : List Reply) → after.history ≡ before.history → after.next ≡ before.next → after.lost ≡ before.lost → replies ≡ [] → Lived before replies after
still before after replies history next lost none = grind (arith, append-nil)

life-lived : (before : World) (asked : Asked) (opening : Opening) (replies : List Reply) (c : Option (Result Numbers Fault)) (after : World)
    → IsWorld before → LifeAs before asked opening replies c after → Lived before replies after
life-lived before asked (Fails fault) replies c after w (inl f, r, n) = still before after replies (ap (λ (x : World). x.history) f.1) (ap (λ (x : World). x.next) f.1) (ap (λ (x : World). x.lost) f.1) r
life-lived before asked (Fails fault) replies c after w (inr (inl f), r, n) = still before after replies (ap (λ (x : World). x.history) f.2) (ap (λ (x : World). x.next) f.2) (ap (λ (x : World). x.lost) f.2) r
life-lived before asked (Fails fault) replies c after w (inr (inr f), r, n) = still before after replies f.1.history f.1.next f.1.lost r
life-lived before asked (Opens numbers next gaps rows) replies c after w (may, start, states, opens, told, at, gaps_told, rows_told, runs, ends) = grind (arith, runs-up, lived)

pub lives-lived : (before : World) (asked : List Asked) (reports : List Report) (after : World) → IsWorld before → Lives before asked reports after
    → ((more : List Commit) × (after.history ≡ before.history ++ more)) × RiseBetween before.next (drawn_over reports) after.next × (StayOut before → StayOut after)
lives-lived before [] [] after w e =
    let s = still before after [] (ap (λ (x : World). x.history) e) (ap (λ (x : World). x.next) e) (ap (λ (x : World). x.lost) e) refl in
    (s.history, s.drawn, s.out)
lives-lived before (a ∷ asked) (r ∷ reports) after w (mid, life, lives) =
    let first = life-lived before a r.opening r.replies r.closed mid w life in
    let rest = lives-lived mid asked reports after (life-stands before a r.opening r.replies r.closed mid w life) lives in
    let more = first.history in (
      (more.0 ++ rest.0.0, rest.0.1 ∙ (ap (λ (l : List Commit). l ++ rest.0.0) more.1 ∙ append_assoc before.history more.0 rest.0.0)),
      rise-append before.next mid.next after.next (drawn_in r.replies) (drawn_over reports) first.drawn rest.1,
      λ o. rest.2 (first.out o),
    )
lives-lived before [] (r ∷ reports) after w none = absurd none
lives-lived before (a ∷ asked) [] after w none = absurd none
