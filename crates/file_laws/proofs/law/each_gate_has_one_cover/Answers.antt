use Rattle.file_laws.proofs.Covers.{one-cover, closes-above}
use Rattle.file_laws.proofs.law.each_gate_has_one_cover.Goals as goal

pub returns : goal.returns
returns c = record { one = one-cover; close = closes-above }
