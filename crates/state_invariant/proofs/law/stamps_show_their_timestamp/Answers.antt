use Rattle.state_invariant.proofs.stamps.Shown.{stamp-shows}
use Rattle.state_invariant.proofs.law.stamps_show_their_timestamp.Goals as goal

pub returns : goal.returns
returns c = stamp-shows
