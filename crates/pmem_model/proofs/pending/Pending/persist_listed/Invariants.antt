use Rattle.std.proofs.Common.{◌≡◌, ◌/◌, ℕ, cond}
use Rattle.pmem.specs.Device.{persisted}
use Rattle.pmem_model.specs.Listing.{is_listed}
use Rattle.pmem_model.specs.Log.{room_in}
use Rattle.pmem_model.specs.Past.{history_of}
use Rattle.pmem_model.proofs.pending.Pending.persist_listed.Given as goal

abbrev pub invariant-loop-place : goal.invariant-loop-place
invariant-loop-place l = record {
  visited : (word : ℕ) → history_of l.histories.past word ≡ cond (is_listed l.self.listed.items l.actor.number (word / 8) l.place) (persisted l.actor.number l.initial.histories.clock (history_of l.initial.histories.past word)) (history_of l.initial.histories.past word);
  values : l.histories.values.items ≡ l.initial.histories.values.items;
  clock : l.histories.clock ≡ l.initial.histories.clock;
  room : room_in l.histories.log ≡ room_in l.initial.histories.log;
}
