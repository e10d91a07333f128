-- The covered rows on a device.
use Rattle.std.proofs.Common.{◌≡◌, inl, ℕ, Bool, true, List, take, length, refl, sym, subst, arith}
use Rattle.std.proofs.lemmas.List.{take_all}
use Rattle.base.specs.declared.key.Key.{Key}
use Rattle.base.specs.Commits.{Commit, Tables, after, Lists}
use Rattle.machine.specs.Machine.{State}
use Rattle.pmem.specs.Device.{Device, IsOrderly}
use Rattle.device_invariant.specs.Upholds.{Upholds}
use Rattle.base.specs.Layout.{total_words}
use Rattle.pmem.specs.Words.{image_of}
use Rattle.snapshot.specs.Snapshots.{Seen, covers, seen_by}
use Rattle.gap_list.specs.GapLists.{is_gap_list}
use Rattle.index.specs.declared.ranges.KeyRange.TheVariants.{All}
use Rattle.index.specs.Entries.{entry_at}
use Rattle.index.specs.Walking.{AreLinked}
use Rattle.index.specs.Reading.{CountsAs, ShowsTables, ranged}
use Rattle.simulation.specs.sessions.Sees.{Sees, ReadsBy}
use Rattle.simulation.proofs.sessions.Present.{present-sees}
use Rattle.simulation.proofs.sessions.Reading.{reads}
use Rattle.simulation.proofs.sessions.Chains.{links-lead}
use Rattle.session_steps.specs.declared.sessions.Sessions.{Sessions}
use Rattle.session_steps.specs.Shows.{Hidden, plain_of, Agrees, Shows, ShowsAny}
use Rattle.gap_list.proofs.Tidy.{well_formed-tidy}
use Rattle.session_steps.proofs.reads.Rows.{laid-out, words-are}

upheld : (s : Sessions) (device : Device) (q : State) (shown : Shows s device q) → Upholds shown.hidden.origin (plain_of s shown.hidden) device
upheld s device q shown = subst (λ (p : State). Upholds shown.hidden.origin p device) shown.plain shown.upholds

pub gaps-shown : (s : Sessions) (device : Device) → ShowsAny s device → is_gap_list s.numbers.record.gaps ≡ true
gaps-shown s device (q, shown) = well_formed-tidy s.numbers.geometry.version s.numbers.record (upheld s device q shown).keeps.numbers.formed

pub words-shown : (s : Sessions) (device : Device) → IsOrderly device → ShowsAny s device → device.words ≡ total_words s.numbers.geometry
words-shown s device orderly (q, shown) = words-are shown.hidden.origin (plain_of s shown.hidden) device orderly (upheld s device q shown)

-- what the present snapshot sees are the rows of the tables
pub tables-read : (s : Sessions) (device : Device) (snapshot : Seen) (rows : List (Key × List ℕ)) → IsOrderly device
    → snapshot ≡ seen_by s.numbers.record
    → ((counts : ℕ → Bool) (tables : Tables) → CountsAs counts snapshot s.numbers.geometry (image_of device) → AreLinked snapshot (image_of device) s.index → ShowsTables counts s.numbers.geometry (image_of device) tables → Lists rows (ranged All tables))
    → (q : State) → Shows s device q → Lists rows (after q.history)
tables-read s device snapshot rows orderly is read q shown = subst (λ (p : State). Lists rows (after p.history)) (sym shown.plain) listed
  where
    h : Hidden
    h = shown.hidden

    upholds : Upholds h.origin (plain_of s h) device
    upholds = upheld s device q shown

    agrees : Agrees s h.origin h.seen (plain_of s h)
    agrees = subst (λ (p : State). Agrees s h.origin h.seen p) shown.plain shown.agrees

    sees : Sees h.origin (plain_of s h) snapshot (length h.history)
    sees = subst (λ (x : Seen). Sees h.origin (plain_of s h) x (length h.history)) (sym is) (present-sees h.origin (plain_of s h) upholds.keeps)

    reading : ReadsBy (covers snapshot) s.numbers.geometry (after (take (length h.history) h.history)) (image_of device)
    reading = reads h.origin (plain_of s h) device snapshot (length h.history) orderly upholds (inl refl) sees

    linked : AreLinked snapshot (image_of device) s.index
    linked key = links-lead h.origin (plain_of s h) device snapshot (length h.history) key (entry_at s.index key).newest orderly upholds (inl refl) sees (agrees.index key).newest

    listed : Lists rows (after h.history)
    listed =
        subst (λ (cs : List Commit). Lists rows (after cs)) (take_all (length h.history) h.history (omega arith))
        (read (covers snapshot) (after (take (length h.history) h.history)) (record { laid_out = laid-out h.origin (plain_of s h) device orderly upholds; live = λ slot lt. refl }) linked (record { rows = reading.rows; fits = reading.fits }))
