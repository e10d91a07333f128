use Rattle.state_invariant.proofs.steps.LinksStay.{links-opened, links-stores}
use Rattle.state_invariant.proofs.steps.Links.{links-step, links-hand_covered}
use Rattle.state_invariant.proofs.puts.Links.{put-links}
use Rattle.state_invariant.proofs.law.versions_stay_linked.Goals as goal

pub returns : goal.returns
returns c = record { opened = links-opened; stores = links-stores; steps = links-step; covering = links-hand_covered; puts = put-links }
