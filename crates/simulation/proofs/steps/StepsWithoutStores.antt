-- The steps of sessions that store nothing.
use Rattle.std.proofs.Common.{◌≡◌, ℕ, Bool, true, false, cond, [], ◌∷◌, refl, ap, arith}
use Rattle.std.specs.Prelude.{Option, Some, None, unwrap_or, length}
use Rattle.base.specs.declared.key.Key.{Key}
use Rattle.base.specs.declared.step.Step.{Step}
use Rattle.base.specs.declared.step.Step.TheVariants.{Begin, Get, Scan, Put, Delete, Draw, Stamp, Poll, Abort, End, Commit as CommitTick, Collect}
use Rattle.base.specs.declared.step.Reply.{Reply}
use Rattle.base.specs.Commits.{Writes, with_write}
use Rattle.base.specs.Lists.{replaced}
use Rattle.machine.specs.Machine.{State, Session, Active, WroteNothing, Stepped, free_session, writes_of, begun_of, is_own_at, is_held_by, held_after_delete, held_after_abort, state_drawn, next_state}
use Rattle.pmem.specs.Device.{Device}
use Rattle.pmem.specs.Words.{value_of}
use Rattle.pmem.proofs.Images.{leaves_refl}
use Rattle.state_invariant.specs.Kept.{Origin, Keeps}
use Rattle.state_invariant.specs.Links.{Links}
use Rattle.state_invariant.specs.Shown.{SlotsShow}
use Rattle.state_invariant.specs.Laws.{stores, fills}
use Rattle.state_invariant.proofs.sessions.Steps.{own-at}
use Rattle.state_invariant.proofs.steps.Kept.{keeps-step}
use Rattle.state_invariant.proofs.steps.Shown.{shows-step}
use Rattle.state_invariant.proofs.steps.Links.{links-step}
use Rattle.state_invariant.proofs.Lookups.{held-by}
use Rattle.device_invariant.specs.Upholds.{Upholds}
use Rattle.device_invariant.specs.Laws.{ChangesHolder, stays, released}
use Rattle.device_invariant.proofs.moves.Holders.{holders-keep}
use Rattle.simulation.specs.steps.Moves.{is_quiet}
use Rattle.simulation.specs.steps.Laws.{RefusalsLead, QuietStepsLead}
use Rattle.simulation.proofs.steps.Standing.{upheld-within}
use Rattle.simulation.proofs.steps.draws.Leads.{holds-drawn}

pub refusals-lead : RefusalsLead
refusals-lead o q device orderly u = record { upholds = u; images = leaves_refl device _ orderly (upheld-within o q q device u) }

-- ---- slots that a session releases

deletes : (q : State) (n : ℕ) (key : Key) (device : Device) (slot : ℕ) → ChangesHolder q (held_after_delete q n key) device slot
deletes q n key device slot = by (is_own_at n key (q.held slot)) refl
  where
    by : (b : Bool) → is_own_at n key (q.held slot) ≡ b → ChangesHolder q (held_after_delete q n key) device slot
    by true is = released n key (own-at n key (q.held slot) is) (ap (λ (b : Bool). cond b None (q.held slot)) is)
    by false is = stays (ap (λ (b : Bool). cond b None (q.held slot)) is)

aborts : (q : State) (n : ℕ) (device : Device) (slot : ℕ) → ChangesHolder q (held_after_abort q n) device slot
aborts q n device slot = by (is_held_by n (q.held slot)) refl
  where
    by : (b : Bool) → is_held_by n (q.held slot) ≡ b → ChangesHolder q (held_after_abort q n) device slot
    by true is = let at = held-by n (q.held slot) is in released n at.0 at.1 (ap (λ (b : Bool). cond b None (q.held slot)) is)
    by false is = stays (ap (λ (b : Bool). cond b None (q.held slot)) is)

-- ---- each step

module _ (o : Origin) (q : State) (device : Device) (u : Upholds o q device) where
  sessions-lead : (sessions : ℕ → Option Session) → Keeps o (record q { sessions = sessions }) → SlotsShow o (record q { sessions = sessions }) (value_of device) → Links o (record q { sessions = sessions }) (value_of device) → Upholds o (record q { sessions = sessions }) device
  sessions-lead sessions keeps shows links = holders-keep o q sessions q.held device (λ slot lt. stays refl) keeps shows links u

  draws-lead : (n : ℕ) (writes : Writes) → writes_of (q.sessions n) ≡ writes → Keeps o (state_drawn q n writes) → SlotsShow o (state_drawn q n writes) (value_of device) → Links o (state_drawn q n writes) (value_of device) → Upholds o (state_drawn q n writes) device
  draws-lead n [] is keeps shows links = sessions-lead (replaced n (Some WroteNothing) q.sessions) keeps shows links
  draws-lead n (write ∷ rest) is keeps shows links = record { keeps = keeps; shows = shows; links = links; holds = holds-drawn o q n write rest u.keeps device u.holds }

  next-leads : (step : Step) → is_quiet step ≡ true → Keeps o (next_state q step) → SlotsShow o (next_state q step) (value_of device) → Links o (next_state q step) (value_of device) → Upholds o (next_state q step) device
  next-leads Begin quiet keeps shows links = sessions-lead (replaced (unwrap_or (free_session q) 0) (Some (Active (length q.history) [])) q.sessions) keeps shows links
  next-leads (Get n key) quiet keeps shows links = u
  next-leads (Scan n table lo hi) quiet keeps shows links = u
  next-leads (Put n key row) quiet keeps shows links = absurd (cc quiet)
  next-leads (Delete n key) quiet keeps shows links =
      holders-keep o q (replaced n (Some (Active (begun_of (q.sessions n)) (with_write key None (writes_of (q.sessions n))))) q.sessions) (held_after_delete q n key) device (λ slot lt. deletes q n key device slot) keeps shows links u
  next-leads (Draw n) quiet keeps shows links = draws-lead n (writes_of (q.sessions n)) refl keeps shows links
  next-leads (Stamp n) quiet keeps shows links = absurd (cc quiet)
  next-leads (Poll n) quiet keeps shows links = u
  next-leads (Abort n) quiet keeps shows links = holders-keep o q (replaced n None q.sessions) (held_after_abort q n) device (λ slot lt. aborts q n device slot) keeps shows links u
  next-leads (End n) quiet keeps shows links = sessions-lead (replaced n None q.sessions) keeps shows links
  next-leads CommitTick quiet keeps shows links = absurd (cc quiet)
  next-leads Collect quiet keeps shows links = absurd (cc quiet)

stores-none : (step : Step) → is_quiet step ≡ true → stores step ≡ false
stores-none a quiet = grind (arith)

fills-none : (step : Step) → is_quiet step ≡ true → fills step ≡ false
fills-none a quiet = grind (arith)

quiet-upholds : (o : Origin) (q : State) (step : Step) (reply : Reply) (q' : State) (device : Device) → is_quiet step ≡ true → Stepped q step reply q' → Upholds o q device → Keeps o q' → SlotsShow o q' (value_of device) → Links o q' (value_of device) → Upholds o q' device
quiet-upholds o q step reply q' device quiet a u keeps shows links = grind (arith, next-leads)

pub quiet-steps-lead : QuietStepsLead
quiet-steps-lead o q step reply q' device orderly quiet stepped u = record {
  upholds = quiet-upholds o q step reply q' device quiet stepped u (keeps-step o q step reply q' u.keeps stepped) (shows-step o q step reply q' (value_of device) u.keeps stepped (stores-none step quiet) u.shows)
      (links-step o q step reply q' (value_of device) u.keeps stepped (fills-none step quiet) u.links);
  images = leaves_refl device _ orderly (upheld-within o q q' device u);
}
