use Rattle.simulation.proofs.sessions.Chains.{chains-lead, links-lead}
use Rattle.simulation.proofs.session_law.links_lead_to_what_is_seen.Goals as goal

pub returns : goal.returns
returns c = record { chains = chains-lead; device = links-lead }
