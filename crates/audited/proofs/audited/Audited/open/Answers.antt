use Rattle.pmem.specs.Words.{image_of}
use Rattle.room.specs.Room.{Shows, ShowsStatus}
use Rattle.audited.proofs.Compose.{IsAudited-opened, opens-weaken}
use Rattle.audited.proofs.audited.Audited.open.Goals as goal

pub returns-clause-audited : goal.returns-clause-audited
returns-clause-audited g c =
    IsAudited-opened _ _ _ _ (record { may_open = c.in-Ok.ensures.may_open; each = c.in-Ok.ensures.ok }) c.status-opening.ensures c.new.ensures.items

pub invariant_of-result : goal.invariant_of-result
invariant_of-result g c =
    record {
      audited = ∣ (
        image_of (g.D.Pmem.state c.args.device),
        IsAudited-opened _ _ _ _ (record { may_open = c.in-Ok.ensures.may_open; each = c.in-Ok.ensures.ok }) c.status-opening.ensures c.new.ensures.items,
      ) ∣₁;
    }

pub returns-clause-ok : goal.returns-clause-ok
returns-clause-ok g c =
    opens-weaken _ (Shows g.D.Pmem.state c.in-Ok.room) _ (λ q shows. (shows, c.status-opening.ensures q shows)) (record { may_open = c.in-Ok.ensures.may_open; each = c.in-Ok.ensures.ok })
