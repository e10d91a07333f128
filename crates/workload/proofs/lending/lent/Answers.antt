use Rattle.std.proofs.Common.{◌*◌, inl, inr, refl}
use Rattle.base.proofs.Results.{reported}
use Rattle.pmem.specs.Words.{image_of}
use Rattle.room.specs.Runs.{OpensTo}
use Rattle.workload.specs.Load.{HasFree, HasNumbers, IsLoadFault, LacksFree, LacksNumbers}
use Rattle.workload.proofs.Opens.{engine-refused, made-from, of-false, of-true, opens-to}
use Rattle.workload.proofs.lending.lent.Goals as goal

pub returns-then-not-branch-clause-fault : goal.returns-then-not-branch-clause-fault
returns-then-not-branch-clause-fault g c =
    inr (inr (inr (inl (
      opens-to g.D.Pmem.state (image_of (g.D.Pmem.state c.args.device)) c.in-Ok.audited.room c.in-Ok.audited.opening (LacksFree (2 * c.args.load.sessions)) c.in-Ok.ensures.ok
          (λ q shows told. of-false _ _ _ (c.in_ok-has_slots.ensures.ok q shows) c.if-not-branch.true),
      refl,
    ))))

pub returns-then-not-has_numbers-clause-fault : goal.returns-then-not-has_numbers-clause-fault
returns-then-not-has_numbers-clause-fault g c =
    inr (inr (inr (inr (inl (
      opens-to g.D.Pmem.state (image_of (g.D.Pmem.state c.args.device)) c.in-Ok.audited.room c.in-Ok.audited.opening (HasFree (2 * c.args.load.sessions)) c.in-Ok.ensures.ok
          (λ q shows told. of-true _ _ _ (c.in_ok-has_slots.ensures.ok q shows) c.if-not-branch.false),
      opens-to g.D.Pmem.state (image_of (g.D.Pmem.state c.args.device)) c.in-Ok.audited.room c.in-Ok.audited.opening (LacksNumbers (c.args.load.sessions * c.args.load.commits)) c.in-Ok.ensures.ok
          (λ q shows told. of-false _ _ _ (c.has_numbers.ensures q shows told) c.if-not-has_numbers.true),
      refl,
    )))))

pub returns-in_err-audited-clause-fault : goal.returns-in_err-audited-clause-fault
returns-in_err-audited-clause-fault g c =
    let free : OpensTo (image_of (g.D.Pmem.state c.args.device)) (HasFree (2 * c.args.load.sessions)) =
    opens-to g.D.Pmem.state (image_of (g.D.Pmem.state c.args.device)) c.in-Ok.audited.room c.in-Ok.audited.opening (HasFree (2 * c.args.load.sessions)) c.in-Ok.ensures.ok
    (λ q shows told. of-true _ _ _ (c.in_ok-has_slots.ensures.ok q shows) c.if-not-branch.false) in
    let has : OpensTo (image_of (g.D.Pmem.state c.args.device)) (HasNumbers (c.args.load.sessions * c.args.load.commits)) =
    opens-to g.D.Pmem.state (image_of (g.D.Pmem.state c.args.device)) c.in-Ok.audited.room c.in-Ok.audited.opening (HasNumbers (c.args.load.sessions * c.args.load.commits)) c.in-Ok.ensures.ok
    (λ q shows told. of-true _ _ _ (c.has_numbers.ensures q shows told) c.if-not-has_numbers.false) in
    reported c.from_residual-in_err-audited.result _ (IsLoadFault (image_of (g.D.Pmem.state c.args.device)) c.args.load.sessions c.args.load.commits) c.from_residual-in_err-audited.ensures.1
    (engine-refused (image_of (g.D.Pmem.state c.args.device)) g.J.Origin.image c.args.load.sessions c.args.load.commits _ c.requires.image free has c.in_err-audited.ensures.fault)

pub returns-clause-has_slots : goal.returns-clause-has_slots
returns-clause-has_slots g c =
    opens-to g.D.Pmem.state (image_of (g.D.Pmem.state c.args.device)) c.in-Ok.audited.room c.in-Ok.audited.opening (HasFree (2 * c.args.load.sessions)) c.in-Ok.ensures.ok
    (λ q shows told. of-true _ _ _ (c.in_ok-has_slots.ensures.ok q shows) c.if-not-branch.false)

pub returns-clause-has_numbers : goal.returns-clause-has_numbers
returns-clause-has_numbers g c =
    opens-to g.D.Pmem.state (image_of (g.D.Pmem.state c.args.device)) c.in-Ok.audited.room c.in-Ok.audited.opening (HasNumbers (c.args.load.sessions * c.args.load.commits)) c.in-Ok.ensures.ok
    (λ q shows told. of-true _ _ _ (c.has_numbers.ensures q shows told) c.if-not-has_numbers.false)

pub returns-clause-made : goal.returns-clause-made
returns-clause-made g c =
    made-from g.D.Pmem.state (image_of (g.D.Pmem.state c.args.device)) g.J.Origin.image c.args.load.sessions c.args.load.commits c.in_ok-audited.audited c.into_room.result c.requires.image
    c.into_room.ensures.room c.in_ok-audited.ensures.from c.in_ok-audited.ensures.made
