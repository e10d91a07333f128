use Rattle.std.proofs.Common.{◌≡◌, ◌∙◌, ◌+◌, Bool, true, false, List, [], ◌∷◌, ◌++◌, take, drop, suc, sym, ap, subst, add-one}
use Rattle.std.specs.Prelude.{Option}
use Rattle.std.proofs.Math.Seq.{take-suc, split_at}
use Rattle.std.proofs.lemmas.List.{take_all}
use Rattle.base.specs.declared.step.Reply.{Reply}
use Rattle.pmem_model.specs.Sim.{device_of}
use Rattle.room.specs.Room.{Shows, device_of as device_in}
use Rattle.lives.specs.Parts.{HasObeyed}
use Rattle.lives.specs.declared.life.Repeated.{Repeated}
use Rattle.lives.proofs.Taken.{ReportedSoFar, told-none, told-more, obeyed-all, obeyed-failed}
use Rattle.lives.proofs.obeying.obey.Goals as goal

pub loop-asked-init : goal.loop-asked-init
loop-asked-init c = λ q shows.
    let device = device_in device_of c.args.room.now in
    subst (λ (r : List (Option Reply)). ReportedSoFar q device [] r device (Shows device_of c.args.room.now)) (sym c.in_ok-replies.ensures.items)
    (told-none q device (Shows device_of c.args.room.now) shows)

pub loop-asked-preserved : goal.loop-asked-preserved
loop-asked-preserved c = λ q shows.
    let steps = c.args.steps.now in
    let i = c.loop-asked.asked-index in
    let asked = c.asked-item.result in
    let answer = c.repeat-answer.result in
    let device = device_in device_of c.args.room.now in
    let now = device_in device_of c.loop-asked.room in
    let next = device_in device_of c.repeat-answer.new.room in
    let before = c.loop-asked.invariant q shows in
    let done : take (i + 1) steps ≡ take i steps ++ asked ∷ [] =
    ap (λ n. take n steps) (add-one i) ∙ take-suc steps i asked c.loop-asked-test.true ∙ ap (λ (s : Repeated). take i steps ++ s ∷ []) (sym c.asked-item.is) in
    subst (λ (s : List Repeated). ReportedSoFar q device s c.push.new.self.items next (Shows device_of c.repeat-answer.new.room)) (sym done)
    (subst (λ (r : List (Option Reply)). ReportedSoFar q device (take i steps ++ asked ∷ []) r next (Shows device_of c.repeat-answer.new.room)) (sym c.in_ok-push.ensures.items)
    (told-more q device now next (take i steps) c.loop-asked.replies.items (Shows device_of c.loop-asked.room) (Shows device_of c.repeat-answer.new.room) asked answer
    (sym c.if-failed.ensures) before (c.repeat-answer.ensures before.so_far.at before.so_far.after_it)))

pub returns-then-failed : goal.returns-then-failed
returns-then-failed c = λ q shows.
    let steps = c.args.steps.now in
    let i = c.loop-asked.asked-index in
    let asked = c.asked-item.result in
    let answer = c.repeat-answer.result in
    let device = device_in device_of c.args.room.now in
    let now = device_in device_of c.loop-asked.room in
    let next = device_in device_of c.repeat-answer.new.room in
    let before = c.loop-asked.invariant q shows in
    let whole : steps ≡ take i steps ++ asked ∷ drop (suc i) steps =
    split_at steps i asked c.loop-asked-test.true ∙ ap (λ (s : Repeated). take i steps ++ s ∷ drop (suc i) steps) (sym c.asked-item.is) in
    subst (λ (b : Bool). HasObeyed q device steps c.push.new.self.items b next (Shows device_of c.repeat-answer.new.room)) (sym c.if-failed.true)
    (subst (λ (s : List Repeated). HasObeyed q device s c.push.new.self.items true next (Shows device_of c.repeat-answer.new.room)) (sym whole)
    (subst (λ (r : List (Option Reply)). HasObeyed q device (take i steps ++ asked ∷ drop (suc i) steps) r true next (Shows device_of c.repeat-answer.new.room)) (sym c.in_ok-push.ensures.items)
    (obeyed-failed q device now next (take i steps) c.loop-asked.replies.items (Shows device_of c.loop-asked.room) (Shows device_of c.repeat-answer.new.room) asked answer (drop (suc i) steps)
    (sym c.if-failed.ensures) before (c.repeat-answer.ensures before.so_far.at before.so_far.after_it))))

pub returns : goal.returns
returns c = λ q shows.
    let device = device_in device_of c.args.room.now in
    let now = device_in device_of c.loop-asked.room in
    subst (λ (s : List Repeated). HasObeyed q device s c.loop-asked.replies.items false now (Shows device_of c.loop-asked.room)) (take_all c.loop-asked.asked-index c.args.steps.now c.loop-asked-test.false)
    (obeyed-all q device now (take c.loop-asked.asked-index c.args.steps.now) c.loop-asked.replies.items (Shows device_of c.loop-asked.room) (c.loop-asked.invariant q shows))
