use Rattle.std.proofs.Common.{◌==◌, List, [], ◌∷◌, sym, subst, inl, rules, tests, arith}
use Rattle.std.proofs.lemmas.List.{length_push, map-append}
use Rattle.std.proofs.lemmas.Iterator.Consumers.{YieldsList-at, YieldsList-end, YieldsList-so_far, YieldsList-turn}
use Rattle.std.proofs.lemmas.Iterator.Splits.{YieldsList-from_slice_split}
use Rattle.command_line.specs.Lines.{texts}
use Rattle.command_line.specs.Numbers.{Text}
use Rattle.command_line.specs.Scripts.{AreReadAs, lines_so_far}
use Rattle.command_line.proofs.Scripts.{all-read, geometry-by, line-at, no-line, no-wrong-line, outside-in, read-more, read-none, spelled-in, wrong-by}
use Rattle.command_line.proofs.script.read_script.Goals as goal

pub loop-line-init : goal.loop-line-init
loop-line-init c = (read-none, omega arith)

pub loop-line-preserved : goal.loop-line-preserved
loop-line-preserved c =
    let before = c.loop-line.invariant in
    let taken = c.in-Ok.ensures.ok in
    let size = length_push c.loop-line.yielded c.in-Some.line in (
      subst (λ (written : List Text). AreReadAs written (lines_so_far c.in-Ok.now)) (sym (map-append (λ s. s.now) c.loop-line.yielded (c.in-Some.line ∷ [])))
          (read-more (texts c.loop-line.yielded) (lines_so_far c.loop-line.draft) (lines_so_far c.in-Ok.now) c.in-Some.line.now taken.0 before.0 taken.1 taken.2),
      omega (arith, before.1, size, c.saturating_add-number.ensures),
    )

pub returns-in-Err-clause-wrong_line : goal.returns-in-Err-clause-wrong_line
returns-in-Err-clause-wrong_line c =
    let before = c.loop-line.invariant in
    let so_far = YieldsList-so_far
    (YieldsList-at c.into_iter-line-iterator.ensures.into_iter_gives
    (YieldsList-from_slice_split _ (λ byte. byte == 10) c.args.text.now c.split-line-items.ensures.rest c.split-line-items.ensures.done c.split-line-items.ensures.closure (λ x r q k. search (rules, tests))))
    c.loop-line.yielded _ c.loop-line.yielded_by in
    let here = YieldsList-turn
    (YieldsList-at c.into_iter-line-iterator.ensures.into_iter_gives
    (YieldsList-from_slice_split _ (λ byte. byte == 10) c.args.text.now c.split-line-items.ensures.rest c.split-line-items.ensures.done c.split-line-items.ensures.closure (λ x r q k. search (rules, tests))))
    c.loop-line.yielded _ c.loop-line.yielded_by _ _ c.in-Some.line c.in-Some.is c.next.ensures.steps in
    wrong-by c.in-Err.fault _ _
    (λ at is. inl (line-at c.args.text.now c.loop-line.yielded c.in-Some.line c.loop-line.draft at so_far here.0 here.1 before.0
    (omega (arith, is.0, before.1, c.saturating_add-number.ensures)) is.1))
    c.in-Err.ensures.wrong_line

pub returns-in-Err-clause-geometry : goal.returns-in-Err-clause-geometry
returns-in-Err-clause-geometry c = geometry-by c.in-Err.fault _ _ (λ never. absurd never) c.in-Err.ensures.geometry

pub returns-in-Some-draft-clause-spelled : goal.returns-in-Some-draft-clause-spelled
returns-in-Some-draft-clause-spelled c =
    let seen = YieldsList-end
    (YieldsList-at c.into_iter-line-iterator.ensures.into_iter_gives
    (YieldsList-from_slice_split _ (λ byte. byte == 10) c.args.text.now c.split-line-items.ensures.rest c.split-line-items.ensures.done c.split-line-items.ensures.closure (λ x r q k. search (rules, tests))))
    c.loop-line.yielded _ c.loop-line.yielded_by _ _ c.in-None.is c.next.ensures.steps in
    let reads = all-read c.args.text.now c.loop-line.yielded c.loop-line.draft c.in-Some-draft.draft c.in-Some-draft.is seen.0 c.loop-line.invariant.0 in
    spelled-in c.args.text.now c.in-Some-draft.draft c.finish.result reads c.finish.ensures.ok c.finish.ensures.newest

pub returns-in-Some-draft-clause-wrong_line : goal.returns-in-Some-draft-clause-wrong_line
returns-in-Some-draft-clause-wrong_line c = no-wrong-line c.in-Some-draft.draft _ c.finish.result c.finish.ensures.fault

pub returns-in-Some-draft-clause-geometry : goal.returns-in-Some-draft-clause-geometry
returns-in-Some-draft-clause-geometry c =
    let seen = YieldsList-end
    (YieldsList-at c.into_iter-line-iterator.ensures.into_iter_gives
    (YieldsList-from_slice_split _ (λ byte. byte == 10) c.args.text.now c.split-line-items.ensures.rest c.split-line-items.ensures.done c.split-line-items.ensures.closure (λ x r q k. search (rules, tests))))
    c.loop-line.yielded _ c.loop-line.yielded_by _ _ c.in-None.is c.next.ensures.steps in
    let reads = all-read c.args.text.now c.loop-line.yielded c.loop-line.draft c.in-Some-draft.draft c.in-Some-draft.is seen.0 c.loop-line.invariant.0 in
    outside-in c.args.text.now c.in-Some-draft.draft c.finish.result reads c.finish.ensures.fault

pub returns-in-None-draft-clause-wrong_line : goal.returns-in-None-draft-clause-wrong_line
returns-in-None-draft-clause-wrong_line c =
    let before = c.loop-line.invariant in
    let seen = YieldsList-end
    (YieldsList-at c.into_iter-line-iterator.ensures.into_iter_gives
    (YieldsList-from_slice_split _ (λ byte. byte == 10) c.args.text.now c.split-line-items.ensures.rest c.split-line-items.ensures.done c.split-line-items.ensures.closure (λ x r q k. search (rules, tests))))
    c.loop-line.yielded _ c.loop-line.yielded_by _ _ c.in-None.is c.next.ensures.steps in
    no-line c.args.text.now c.loop-line.yielded c.loop-line.draft c.in-None-draft.is seen.0 before.0
