use Rattle.std.proofs.Common.{◌≡◌, true, ◌∙◌, ◌++◌, [], sym, ap, subst, take, ℕ, List, rules}
use Rattle.std.specs.Prelude.{Option, Some}
use Rattle.std.proofs.lemmas.Option.{slice_get-get_or}
use Rattle.std.specs.Option.{option_map_or}
use Rattle.index.specs.declared.entry.Entry.{Entry}
use Rattle.index.specs.Entries.{entry_at, live_of}
use Rattle.txn.specs.declared.write.Write.{Write}
use Rattle.txn.specs.WriteSets.{IsRising, write_of}
use Rattle.session_steps.specs.Drawing.{own_lines, ended_lines, touched_lines, fits_touched}
use Rattle.session_steps.proofs.draws.Notes.{note-next, live-drawn, kept-at}
use Rattle.session_steps.proofs.TouchedLines.{touches-more}
use Rattle.session_steps.proofs.touching.draw_writes.Goals as goal

pub draw-ended-requires-clause-slot : goal.draw-ended-requires-clause-slot
draw-ended-requires-clause-slot c =
    let writes = c.as_slice-write-items.result.now in
    kept-at c.args.geometry c.args.index.now writes c.loop-write.write-index c.write-item.result (search rules)
    (subst (λ (ws : List Write). fits_touched c.args.geometry c.args.index.now ws ≡ true) (sym c.as_slice-write-items.ensures.slice) c.requires.fits)
    (slice_get-get_or writes c.loop-write.write-index c.write-item.result c.loop-write-test.true ∙ ap (λ (w : Write). Some w) (sym c.write-item.is))

pub loop-write-preserved : goal.loop-write-preserved
loop-write-preserved c =
    let key = c.write-item.result.key in
    let live = c.draw-ended.ensures.live ∙ ap (λ (e : Entry). live_of e) (c.loop-write.invariant.entries key)
    ∙ live-drawn (write_of key (take c.loop-write.write-index c.as_slice-write-items.result.now)) c.args.timestamp (entry_at c.args.index.now key) in
    record {
      lines =
          touches-more (touched_lines c.args.geometry c.args.index.now) c.args.session c.loop-write.write-index c.as_slice-write-items.result.now c.write-item.result (option_map_or (own_lines c.args.geometry) c.write-item.result.slot [])
          (option_map_or (ended_lines c.args.geometry) c.draw-ended.result []) c.args.dirty.now c.loop-write.dirty c.touch_own.new.dirty c.touch_ended.new.dirty c.loop-write-test.true c.write-item.is
          (ap (λ (o : Option ℕ). option_map_or (own_lines c.args.geometry) c.write-item.result.slot [] ++ option_map_or (ended_lines c.args.geometry) o []) (sym live)) c.loop-write.invariant.lines c.touch_own.ensures c.touch_ended.ensures;
      entries =
          note-next c.as_slice-write-items.result.now c.loop-write.write-index c.args.timestamp c.write-item.result c.args.index.now c.loop-write.index c.draw-ended.new.self c.loop-write-test.true c.write-item.is
          (subst (λ (ws : List Write). IsRising ws) (sym c.as_slice-write-items.ensures.slice) c.as_slice-write-items.ensures.rising) c.loop-write.invariant.entries c.draw-ended.ensures.entries;
      rooms = λ k. c.draw-ended.ensures.room k ∙ c.loop-write.invariant.rooms k;
    }
