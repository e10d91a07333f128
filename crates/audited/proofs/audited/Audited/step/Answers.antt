use Rattle.std.proofs.Common.{rules, ◌++◌, ◌∷◌, [], ap, ◌∙◌, sym, refl}
use Rattle.std.proofs.Math.Logic.{∥∥₁_map}
use Rattle.std.proofs.lemmas.Bool.{true≢false}
use Rattle.audited.proofs.Compose.{IsAudited-step, IsAudited-stays, Stays-step, Stays-same, last-of-run, memory_changes_nothing}
use Rattle.audited.proofs.audited.Audited.step.Goals as goal

-- there is no room for an entry

pub invariant_of-self : goal.invariant_of-self
invariant_of-self g c =
    let stays = Stays-same _ _ c.args.step (g.met.D.Pmem.orderly _) in
    record { audited = ∥∥₁_map c.args.self.now.audited (λ a. (a.0, IsAudited-stays _ _ _ _ _ _ _ c.args.step a.1 stays c.reserve.ensures.items)) }

pub returns-then-is_err-clause-stays : goal.returns-then-is_err-clause-stays
returns-then-is_err-clause-stays g c = Stays-same _ _ c.args.step (g.met.D.Pmem.orderly _)

pub returns-then-is_err-clause-audited : goal.returns-then-is_err-clause-audited
returns-then-is_err-clause-audited g c = λ image a.
    IsAudited-stays _ _ _ _ _ _ _ c.args.step a (Stays-same _ _ c.args.step (g.met.D.Pmem.orderly _)) c.reserve.ensures.items

-- the step was refused for lack of memory

pub invariant_of-self-then-wants_memory : goal.invariant_of-self-then-wants_memory
invariant_of-self-then-wants_memory g c =
    let stays = Stays-step _ _ _ c.args.step c.step-reply.result c.step-reply.ensures.step (memory_changes_nothing _ (c.wants_memory.ensures.0 c.if-wants_memory.true)) in
    record { audited = ∥∥₁_map c.args.self.now.audited (λ a. (a.0, IsAudited-stays _ _ _ _ _ _ _ c.args.step a.1 stays c.reserve.ensures.items)) }

pub returns-then-wants_memory-clause-stays : goal.returns-then-wants_memory-clause-stays
returns-then-wants_memory-clause-stays g c =
    Stays-step _ _ _ c.args.step c.step-reply.result c.step-reply.ensures.step (memory_changes_nothing _ (c.wants_memory.ensures.0 c.if-wants_memory.true))

pub returns-then-wants_memory-clause-audited : goal.returns-then-wants_memory-clause-audited
returns-then-wants_memory-clause-audited g c = λ image a.
    IsAudited-stays _ _ _ _ _ _ _ c.args.step a
    (Stays-step _ _ _ c.args.step c.step-reply.result c.step-reply.ensures.step (memory_changes_nothing _ (c.wants_memory.ensures.0 c.if-wants_memory.true)))
    c.reserve.ensures.items

-- there is no room for the notes

pub invariant_of-self-in_default : goal.invariant_of-self-in_default
invariant_of-self-in_default g c =
    let stays = Stays-step _ _ _ c.args.step c.step-reply.result c.step-reply.ensures.step c.in_default.ensures.err in
    record { audited = ∥∥₁_map c.args.self.now.audited (λ a. (a.0, IsAudited-stays _ _ _ _ _ _ _ c.args.step a.1 stays c.reserve.ensures.items)) }

pub returns-in_default-clause-stays : goal.returns-in_default-clause-stays
returns-in_default-clause-stays g c = Stays-step _ _ _ c.args.step c.step-reply.result c.step-reply.ensures.step c.in_default.ensures.err

pub returns-in_default-clause-audited : goal.returns-in_default-clause-audited
returns-in_default-clause-audited g c = λ image a.
    IsAudited-stays _ _ _ _ _ _ _ c.args.step a (Stays-step _ _ _ c.args.step c.step-reply.result c.step-reply.ensures.step c.in_default.ensures.err) c.reserve.ensures.items

-- a step that is kept

pub invariant_of-self-2 : goal.invariant_of-self-2
invariant_of-self-2 g c =
    let added = c.push_reserved.ensures.items ∙ ap (λ es. es ++ (c.args.step, c.in-Ok.kept) ∷ []) c.reserve.ensures.items in
    record {
      audited = ∥∥₁_map c.args.self.now.audited (λ a.
          (a.0, IsAudited-step _ _ _ _ _ _ _ c.args.step c.step-reply.result c.in-Ok.kept a.1 c.step-reply.ensures.step c.in-Ok.ensures.ok.0 added));
    }

pub returns-clause-audited : goal.returns-clause-audited
returns-clause-audited g c = λ image a.
    IsAudited-step _ _ _ _ _ _ _ c.args.step c.step-reply.result c.in-Ok.kept a c.step-reply.ensures.step c.in-Ok.ensures.ok.0
    (c.push_reserved.ensures.items ∙ ap (λ es. es ++ (c.args.step, c.in-Ok.kept) ∷ []) c.reserve.ensures.items)

pub returns-clause-run : goal.returns-clause-run
returns-clause-run g c =
    let added = c.push_reserved.ensures.items ∙ ap (λ es. es ++ (c.args.step, c.in-Ok.kept) ∷ []) c.reserve.ensures.items in
    last-of-run _ _ _ c.args.self.now.entries.items _ c.args.step c.step-reply.result _
    (∥∥₁_map c.args.self.now.audited (λ a. (a.0, IsAudited-step _ _ _ _ _ _ _ c.args.step c.step-reply.result c.in-Ok.kept a.1 c.step-reply.ensures.step c.in-Ok.ensures.ok.0 added)))
    (record {
      kept = λ is. true≢false (sym (c.wants_memory.ensures.1 is) ∙ c.if-wants_memory.false);
      entries = added ∙ ap (λ n. c.args.self.now.entries.items ++ (c.args.step, n) ∷ []) c.in-Ok.ensures.ok.0;
      place = search rules;
      asked = refl;
      note = c.in-Ok.ensures.ok.1;
    })
