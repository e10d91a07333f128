-- Which version each one names, over each step.
use Rattle.std.proofs.Common.{◌≡◌, ◌⊎◌, inl, ℕ, ◌+◌, ◌<◌, Bool, true, false, cond, List, [], ◌∷◌, length, map, refl, sym, ◌∙◌, ap, subst, Option, Some, None, true≢false, arith}
use Rattle.std.specs.Prelude.{find, is_some, nat_eq, unwrap_or}
use Rattle.std.specs.Option.{option_map}
use Rattle.std.proofs.lemmas.Bool.{cases_eq}
use Rattle.base.specs.declared.key.Key.{Key}
use Rattle.base.specs.declared.step.Step.{Step}
use Rattle.base.specs.declared.step.Step.TheVariants.{Begin, Get, Scan, Put, Delete, Draw, Stamp, Poll, Abort, End, Commit as CommitTick, Collect}
use Rattle.base.specs.Keys.{lookup_key}
use Rattle.base.specs.Commits.{Writes}
use Rattle.base.specs.Lists.{replaced}
use Rattle.machine.specs.Machine.{State, Session, Active, WroteNothing, Drawn, Hand, Version, BySession, drawn_at, begun_of, writes_of, is_held_by, free_session, state_drawn, counted, timestamp_of, held_after_abort, state_ticked, next_state, refusal}
use Rattle.machine.specs.Collecting.{is_at_slot, held_after_visit, slot_visited, sweep_ended}
use Rattle.machine.proofs.stamps.Drawn.{counted-commit}
use Rattle.state_invariant.specs.Kept.{Origin, Keeps, version_by}
use Rattle.state_invariant.specs.Links.{Links}
use Rattle.state_invariant.specs.Laws.{fills, StepsLink, CoveringLinks}
use Rattle.state_invariant.proofs.Lists.{find-map}
use Rattle.state_invariant.proofs.Lookups.{replaced-same, replaced-other}
use Rattle.state_invariant.proofs.steps.Refusals.{allowed}
use Rattle.state_invariant.proofs.draws.Kept.{draw-facts}
use Rattle.state_invariant.proofs.collector.Kept.{OnlyFrees, stays, frees, visit-frees}
use Rattle.state_invariant.proofs.steps.Kept.{keeps-next}
use Rattle.state_invariant.proofs.steps.LinksStay.{FillsNone, links-carried, session-writes}
use Rattle.state_invariant.proofs.draws.Links.{free-to-draw, links-drawn}
use Rattle.state_invariant.proofs.covers.Links.{links-covered}

-- ---- steps that fill no slot

fills-none : (q : State) (sessions : ℕ → Option Session) (held : ℕ → Option Version) (failed : Bool) (hand : Option Hand) → (failed ≡ false → q.failed ≡ false) → ((slot : ℕ) (v : Version) → held slot ≡ Some v → q.held slot ≡ Some v)
    → ((slot n : ℕ) (key : Key) → slot < q.layout.slots → held slot ≡ Some (version_by key (BySession n)) → begun_of (sessions n) ≡ begun_of (q.sessions n))
    → FillsNone q (record q { sessions = sessions; held = held; failed = failed; hand = hand })
fills-none q sessions held failed hand works was begun = grind arith

-- one session changes, which keeps its snapshot or writes nothing then
module _ (o : Origin) (q : State) (n : ℕ) (s : Option Session) (held : ℕ → Option Version) (kept : Keeps o (record q { sessions = replaced n s q.sessions; held = held }))
    (was : (slot : ℕ) (v : Version) → held slot ≡ Some v → q.held slot ≡ Some v) (its : (writes_of s ≡ []) ⊎ (begun_of s ≡ begun_of (q.sessions n))) where
  abbrev then : State
  then = record q { sessions = replaced n s q.sessions; held = held }

  begun-then : (slot m : ℕ) (key : Key) → slot < q.layout.slots → held slot ≡ Some (version_by key (BySession m)) → begun_of (replaced n s q.sessions m) ≡ begun_of (q.sessions m)
  begun-then slot m key lt at = grind (arith, cases_eq, replaced-other, replaced-same, session-writes)

  links-session : (value : ℕ → ℕ) → Links o q value → Links o then value
  links-session value links = links-carried o q then (fills-none q (replaced n s q.sessions) held q.failed q.hand (λ up. up) was begun-then) value links

freed-was : (b : Bool) (x : Option Version) (v : Version) → cond b None x ≡ Some v → x ≡ Some v
freed-was a x v e = grind (arith)

links-with_hand : (o : Origin) (q : State) (failed : Bool) (hand : Option Hand) (value : ℕ → ℕ) → (failed ≡ false → q.failed ≡ false) → Links o q value → Links o (record q { failed = failed; hand = hand }) value
links-with_hand o q failed hand value works links = links-carried o q (record q { failed = failed; hand = hand }) (fills-none q q.sessions q.held failed hand works (λ slot v at. at) (λ slot n key lt at. refl)) value links

pub links-failed : (o : Origin) (q : State) (value : ℕ → ℕ) → Links o q value → Links o (record q { failed = true }) value
links-failed o q value links = links-with_hand o q true q.hand value (λ e. absurd (true≢false e)) links

pub links-hand : (o : Origin) (q : State) (hand : Option Hand) (value : ℕ → ℕ) → Links o q value → Links o (record q { hand = hand }) value
links-hand o q hand value links = links-with_hand o q q.failed hand value (λ up. up) links

-- a visit of the collector
pub links-moved : (o : Origin) (q : State) (held : ℕ → Option Version) (swept : Bool) (place : ℕ) (value : ℕ → ℕ) → ((slot : ℕ) → OnlyFrees q held slot) → Links o q value → Links o (record q { held = held; swept = swept; place = place }) value
links-moved o q held swept place value only links = grind (arith, links-carried, stays, frees)

stamped-found : (t u : ℕ) (ds : List Drawn) → find (λ (d : Drawn). nat_eq d.commit.timestamp u) (map (counted t) ds) ≡ option_map (counted t) (find (λ (d : Drawn). nat_eq d.commit.timestamp u) ds)
stamped-found t u ds = grind (arith, find-map, counted-commit)

stamp-carries : (q : State) (t : ℕ) → FillsNone q (record q { drawn = map (counted t) q.drawn })
stamp-carries q t = record {
  layout = refl;
  history = refl;
  drawn = λ u d found. back u d (drawn_at q u) refl found;
  still = λ u d found. (counted t d, stamped-found t u q.drawn ∙ ap (λ (x : Option Drawn). option_map (counted t) x) found, counted-commit t d);
  works = λ up. up;
  held = λ slot v at. at;
  begun = λ slot n key lt at. refl;
}
  where
    back : (u : ℕ) (d : Drawn) (x : Option Drawn) → drawn_at q u ≡ x → drawn_at (record q { drawn = map (counted t) q.drawn }) u ≡ Some d → (e : Drawn) × (drawn_at q u ≡ Some e) × (e.commit ≡ d.commit)
    back u d None was found = let clash : ◌≡◌ {A = Option Drawn} None (Some d) = sym (stamped-found t u q.drawn ∙ ap (λ (x : Option Drawn). option_map (counted t) x) was) ∙ found in absurd (cc clash)
    back u d (Some e) was found = grind (arith, stamped-found, counted-commit)

-- ---- each step that fills no slot

links-ticked : (o : Origin) (q : State) (value : ℕ → ℕ) (hand : Option Hand) → Keeps o q → q.hand ≡ hand → Links o q value → Links o (state_ticked q hand) value
links-ticked o q value None kept is links = grind (arith, links-hand)
links-ticked o q value (Some hand) kept is links = grind (arith, links-hand, links-covered o q hand kept (kept.numbers.hand hand is) value links)

links-draw : (o : Origin) (q : State) (n : ℕ) (value : ℕ → ℕ) → Keeps o q → refusal q (Draw n) ≡ None → Links o q value → Links o (next_state q (Draw n)) value
links-draw o q n value kept none links = by (writes_of (q.sessions n)) refl
  where
    by : (ws : Writes) → writes_of (q.sessions n) ≡ ws → Links o (next_state q (Draw n)) value
    by [] is = grind (arith, keeps-next o q (Draw n) kept none, links-session o q n (Some WroteNothing))
    by (write ∷ rest) is =
        let f = draw-facts o q n write rest kept none is in
        subst (λ (ws : Writes). Links o (state_drawn q n ws) value) (sym is)
        (links-drawn o q n write rest kept (allowed q (Draw n) none).up (λ key writes. free-to-draw q n key f.2 (ap (λ (ws : Writes). is_some (lookup_key ws key)) is ∙ writes)) value links)

pub links-next : (o : Origin) (q : State) (step : Step) (value : ℕ → ℕ) → Keeps o q → refusal q step ≡ None → fills step ≡ false → Links o q value → Links o (next_state q step) value
links-next o q Begin value kept none quiet links = links-session o q (unwrap_or (free_session q) 0) (Some (Active (length q.history) [])) q.held (keeps-next o q Begin kept none) (λ slot v at. at) (inl refl) value links
links-next o q (Get n key) value kept none quiet links = links
links-next o q (Scan n table lo hi) value kept none quiet links = links
links-next o q (Put n key row) value kept none quiet links = absurd (true≢false quiet)
links-next o q (Delete n key) value kept none quiet links = grind (arith, links-session, keeps-next o q (Delete n key) kept none)
links-next o q (Draw n) value kept none quiet links = links-draw o q n value kept none links
links-next o q (Stamp n) value kept none quiet links = links-carried o q (next_state q (Stamp n)) (stamp-carries q (timestamp_of (q.sessions n))) value links
links-next o q (Poll n) value kept none quiet links = links
links-next o q (Abort n) value kept none quiet links =
    links-session o q n None (held_after_abort q n) (keeps-next o q (Abort n) kept none) (λ slot v at. freed-was (is_held_by n (q.held slot)) (q.held slot) v at) (inl refl) value links
links-next o q (End n) value kept none quiet links = links-session o q n None q.held (keeps-next o q (End n) kept none) (λ slot v at. at) (inl refl) value links
links-next o q CommitTick value kept none quiet links = links-ticked o q value q.hand kept refl links
links-next o q Collect value kept none quiet links = by (is_at_slot q)
  where
    by : (b : Bool) → Links o (cond b (slot_visited q) (sweep_ended q)) value
    by true = links-moved o q (held_after_visit q q.place) q.swept (q.place + 1) value (λ slot. visit-frees o q q.place slot kept) links
    by false = links-moved o q q.held true 0 value (λ slot. stays refl) links

pub links-step : StepsLink
links-step o q step reply q' value kept a quiet links = grind (arith, links-next, links-failed)

pub links-hand_covered : CoveringLinks
links-hand_covered o q hand value kept is links = links-covered o q hand kept (kept.numbers.hand hand is) value links
