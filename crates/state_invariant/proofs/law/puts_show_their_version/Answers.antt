use Rattle.state_invariant.proofs.puts.Shown.{put-shows, put-stopped}
use Rattle.state_invariant.proofs.law.puts_show_their_version.Goals as goal

pub returns : goal.returns
returns c = record { stored = put-shows; stopped = put-stopped }
