use Rattle.std.proofs.Common.{[], ◌∷◌, ◌++◌, ◌∙◌, sym, subst, None, arith, rules}
use Rattle.std.specs.Prelude.{Option}
use Rattle.std.specs.Io.Buffered.{reader_remaining}
use Rattle.std.specs.Io.Iter.{split_byte, split_known_bytes}
use Rattle.std.proofs.lemmas.List.Elements.{All-nil, All-cons}
use Rattle.machine.specs.Machine.{State}
use Rattle.base.proofs.Options.{is_some-none}
use Rattle.command_line.specs.declared.command.Survivor.{Survivor}
use Rattle.console.specs.BadLine.{IsPassed}
use Rattle.console.specs.Kept.{LeadsBy}
use Rattle.console.specs.Obeyed.{ObeysLine}
use Rattle.console.proofs.BadLine.{meets, passed-so, passed_on}
use Rattle.console.proofs.Input.{reading-begins, reading-goes-on, read-so-far, read-to-crash}
use Rattle.console.proofs.Obeyed.{no-lines, more-lines, appends-none, appends-more}
use Rattle.console.proofs.lines.obey_lines.Goals as goal

pub loop-line-init : goal.loop-line-init
loop-line-init g c = (
  search rules,
  [],
  reading-begins (g.R.Read.remaining c.args.input.now) (split_known_bytes (reader_remaining (λ r. g.R.Read.remaining r.now)) c.into_iter-line-iterator.result) (search rules),
  [],
  appends-none (g.W.Write.contents c.args.output.now),
  no-lines g.D.Pmem.state c.args.room.now,
  All-nil IsPassed,
  omega arith,
)

pub loop-line-preserved : goal.loop-line-preserved
loop-line-preserved g c =
    let before = c.loop-line.invariant in
    let made = c.in_ok-kept.ensures.obeys in
    let gives = rw c.in_ok-line.was at c.in-Some.ensures.steps in (
      gives.1 ∙ before.0,
      c.as_slice.result.now ∷ before.1,
      reading-goes-on (g.R.Read.remaining c.args.input.now) (split_known_bytes (reader_remaining (λ r. g.R.Read.remaining r.now)) c.loop-line.line-iterator)
          (split_known_bytes (reader_remaining (λ r. g.R.Read.remaining r.now)) c.next.new.self) before.1 c.as_slice.result.now c.in_ok-line.line.items (split_byte c.loop-line.line-iterator)
          before.0 c.as_slice.ensures.value before.2 gives.2.0 gives.2.1,
      before.3 ++ made.0,
      appends-more (g.W.Write.contents c.args.output.now) (g.W.Write.contents c.loop-line.output) (g.W.Write.contents c.obey_line.new.output) before.3 made.0 before.4 made.1,
      more-lines g.D.Pmem.state c.args.room.now c.loop-line.room c.obey_line.new.room before.1 c.as_slice.result.now before.3 made.0 None before.5
          (subst (λ (keeps : Option Survivor). LeadsBy g.D.Pmem.state c.loop-line.room c.obey_line.new.room (λ (q q' : State). ObeysLine q c.as_slice.result.now made.0 keeps q'))
          (is_some-none c.in_ok-kept.kept (sym c.is_some.ensures ∙ c.if-is_some.false)) made.2),
      All-cons IsPassed c.as_slice.result.now before.1 (passed-so c.as_slice.result.now c.in_ok-kept.kept (sym c.is_some.ensures ∙ c.if-is_some.false) c.in_ok-kept.ensures.kept) before.6,
      omega (arith, before.7, c.saturating_add-number.ensures),
    )

pub returns-then-is_some-clause-obeys : goal.returns-then-is_some-clause-obeys
returns-then-is_some-clause-obeys g c =
    let before = c.loop-line.invariant in
    let made = c.in_ok-kept.ensures.obeys in
    let gives = rw c.in_ok-line.was at c.in-Some.ensures.steps in (
      c.as_slice.result.now ∷ before.1,
      read-to-crash (g.R.Read.remaining c.args.input.now) (split_known_bytes (reader_remaining (λ r. g.R.Read.remaining r.now)) c.next.new.self) (c.as_slice.result.now ∷ before.1) c.in_ok-kept.kept
          (sym c.is_some.ensures ∙ c.if-is_some.true)
          (reading-goes-on (g.R.Read.remaining c.args.input.now) (split_known_bytes (reader_remaining (λ r. g.R.Read.remaining r.now)) c.loop-line.line-iterator)
          (split_known_bytes (reader_remaining (λ r. g.R.Read.remaining r.now)) c.next.new.self) before.1 c.as_slice.result.now c.in_ok-line.line.items (split_byte c.loop-line.line-iterator)
          before.0 c.as_slice.ensures.value before.2 gives.2.0 gives.2.1),
      before.3 ++ made.0,
      appends-more (g.W.Write.contents c.args.output.now) (g.W.Write.contents c.loop-line.output) (g.W.Write.contents c.obey_line.new.output) before.3 made.0 before.4 made.1,
      more-lines g.D.Pmem.state c.args.room.now c.loop-line.room c.obey_line.new.room before.1 c.as_slice.result.now before.3 made.0 c.in_ok-kept.kept before.5 made.2,
    )

pub returns-in_err-kept-clause-bad_line : goal.returns-in_err-kept-clause-bad_line
returns-in_err-kept-clause-bad_line g c =
    let before = c.loop-line.invariant in
    let gives = rw c.in_ok-line.was at c.in-Some.ensures.steps in
    passed_on c.from_residual-in_err-kept.result _ _ _ c.from_residual-in_err-kept.ensures.1
    (λ at told. meets g.D.Pmem.state c.args.room.now c.loop-line.room (g.R.Read.remaining c.args.input.now) (g.W.Write.contents c.args.output.now) (g.W.Write.contents c.loop-line.output) (g.W.Write.contents c.obey_line.new.output)
    before.1 c.as_slice.result.now before.3 c.saturating_add-number.result at before.6
    (read-so-far (g.R.Read.remaining c.args.input.now) (split_known_bytes (reader_remaining (λ r. g.R.Read.remaining r.now)) c.next.new.self) (c.as_slice.result.now ∷ before.1)
    (reading-goes-on (g.R.Read.remaining c.args.input.now) (split_known_bytes (reader_remaining (λ r. g.R.Read.remaining r.now)) c.loop-line.line-iterator)
    (split_known_bytes (reader_remaining (λ r. g.R.Read.remaining r.now)) c.next.new.self) before.1 c.as_slice.result.now c.in_ok-line.line.items (split_byte c.loop-line.line-iterator)
    before.0 c.as_slice.ensures.value before.2 gives.2.0 gives.2.1))
    (omega (arith, before.7, c.saturating_add-number.ensures)) before.4 before.5 told)
    c.in_err-kept.ensures.bad_line
