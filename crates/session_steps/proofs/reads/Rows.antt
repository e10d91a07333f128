-- Get: the row of the session's snapshot on the device.
use Rattle.std.proofs.Common.{◌≡◌, inr, ℕ, Bool, List, take, refl, sym, ◌∙◌, ap, subst, arith}
use Rattle.std.specs.Prelude.{Option, Some, None, unwrap_or}
use Rattle.std.specs.Option.{option_map}
use Rattle.base.specs.declared.key.Key.{Key}
use Rattle.base.specs.declared.step.Reply.TheVariants as reply
use Rattle.base.specs.declared.step.Step.TheVariants as step
use Rattle.base.specs.declared.step.SessionStep.TheVariants.{Get}
use Rattle.base.specs.declared.step.SessionReply.TheVariants.{Row}
use Rattle.base.specs.Commits.{after, Tables}
use Rattle.base.specs.Keys.{lookup_key}
use Rattle.base.specs.Layout.{total_words}
use Rattle.base.specs.Images.{layout_of}
use Rattle.machine.specs.Machine.{State, answered, begun_of, writes_of}
use Rattle.pmem.specs.Device.{Device, IsOrderly}
use Rattle.pmem.specs.Words.{image_of}
use Rattle.log_area.proofs.Heads.{image_size, laid_size}
use Rattle.log_area.proofs.AtRest.{laid}
use Rattle.snapshot.specs.Snapshots.{Seen, covers}
use Rattle.txn.specs.declared.transaction.Transaction.{Transaction}
use Rattle.txn.specs.declared.transaction.Transaction.TheVariants.{Active}
use Rattle.txn.specs.declared.write.Write.{Write}
use Rattle.txn.specs.Transactions.{transaction_at}
use Rattle.txn.specs.WriteSets.{write_of, plain_writes}
use Rattle.txn.proofs.Plain.{lookup_key-plain_writes}
use Rattle.snapshot.specs.Walks.{IsLinked}
use Rattle.index.specs.Entries.{entry_at}
use Rattle.index.specs.Reading.{CountsAs, ShowsTables}
use Rattle.state_invariant.specs.Kept.{Origin}
use Rattle.device_invariant.specs.Upholds.{Upholds}
use Rattle.device_invariant.proofs.reads.Images.{ruled-image}
use Rattle.simulation.specs.sessions.Sees.{ReadsBy}
use Rattle.simulation.proofs.sessions.Reading.{reads}
use Rattle.simulation.proofs.sessions.Chains.{links-lead}
use Rattle.session_steps.specs.declared.sessions.Sessions.{Sessions}
use Rattle.session_steps.specs.Shows.{Hidden, plain_of, plain_session, HoldsSession}
use Rattle.session_steps.specs.Steps.{Holds, HoldsOn, Goes}
use Rattle.session_steps.proofs.transactions.Steps.{found}
use Rattle.session_steps.proofs.Refusals.{passes}
use Rattle.session_steps.proofs.CodeTests.{same-drawers}

-- ---- the words of a device that upholds a state

pub laid-out : (o : Origin) (q : State) (device : Device) → IsOrderly device → Upholds o q device → layout_of (image_of device) ≡ q.layout
laid-out o q device orderly upholds = (ruled-image q device q.hand orderly upholds.holds.log).1.laid_out

-- it has as many words as the layout says
pub words-are : (o : Origin) (q : State) (device : Device) → IsOrderly device → Upholds o q device → device.words ≡ total_words q.layout
words-are o q device orderly upholds =
    let ruled = ruled-image q device q.hand orderly upholds.holds.log in
    sym (image_size device) ∙ laid_size q.layout (image_of device) (laid q.layout ruled.0 (image_of device) ruled.1)

-- ---- the step

-- the session's own write
pub gets-own : (s : Sessions) (n : ℕ) (key : Key) (row : Option (List ℕ)) (snapshot : Seen) (writes : List Write) (write : Write) (h : Hidden) → transaction_at s.transactions n ≡ Some (Active snapshot writes)
    → write_of key writes ≡ Some write → row ≡ write.row → Holds s h → Goes s s (Get n key) (Row row) h
gets-own s n key row snapshot writes write h at wrote is holds = grind (arith, same-drawers, passes, found, lookup_key-plain_writes) steps 800000

-- the row of its snapshot
pub gets-seen : (s : Sessions) (device : Device) (n : ℕ) (key : Key) (row : Option (List ℕ)) (snapshot : Seen) (writes : List Write) (h : Hidden) → IsOrderly device → transaction_at s.transactions n ≡ Some (Active snapshot writes)
    → write_of key writes ≡ None
    → ((counts : ℕ → Bool) (tables : Tables) → CountsAs counts snapshot s.numbers.geometry (image_of device) → IsLinked snapshot (image_of device) key (entry_at s.index key).newest → ShowsTables counts s.numbers.geometry (image_of device) tables → row ≡ tables key)
    → HoldsOn s h device → Goes s s (Get n key) (Row row) h
gets-seen s device n key row snapshot writes h orderly at unwritten told holds = record {
  next = h;
  origin = refl;
  drawers = same-drawers s.drawn.commits;
  agrees = holds.agrees;
  stepped = answered (passes (plain_of s h) (step.Get n key) n _ holds.works refl (found s h n _ at) refl)
      (ap (λ (r : Option (List ℕ)). reply.Row r) (seen ∙ sym (ap (λ (o : Option (Option (List ℕ))). unwrap_or o (after (take (h.seen n) h.history) key)) (lookup_key-plain_writes writes key ∙ ap (option_map (λ (w : Write). w.row)) unwritten)))
      ∙ sym (ap (λ (t : Option Transaction). reply.Row (unwrap_or (lookup_key (writes_of (option_map (plain_session (h.seen n)) t)) key) (after (take (begun_of (option_map (plain_session (h.seen n)) t)) h.history) key))) at)) refl;
}
  where
    session : HoldsSession h.origin (plain_of s h) n (h.seen n) (Some (Active snapshot writes))
    session = subst (HoldsSession h.origin (plain_of s h) n (h.seen n)) at (holds.agrees.sessions n)

    reading : ReadsBy (covers snapshot) s.numbers.geometry (after (take (h.seen n) h.history)) (image_of device)
    reading = reads h.origin (plain_of s h) device snapshot (h.seen n) orderly holds.upholds (inr (n, plain_writes writes, found s h n _ at)) session.0

    linked : IsLinked snapshot (image_of device) key (entry_at s.index key).newest
    linked = links-lead h.origin (plain_of s h) device snapshot (h.seen n) key (entry_at s.index key).newest orderly holds.upholds (inr (n, plain_writes writes, found s h n _ at)) session.0 (holds.agrees.index key).newest

    seen : row ≡ after (take (h.seen n) h.history) key
    seen = told (covers snapshot) (after (take (h.seen n) h.history)) (record { laid_out = laid-out h.origin (plain_of s h) device orderly holds.upholds; live = λ slot lt. refl }) linked (record { rows = reading.rows; fits = reading.fits })
