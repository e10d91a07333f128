use Rattle.std.proofs.Common.{◌≡◌, take}
use Rattle.std.specs.List.{flat_map}
use Rattle.requests.specs.Frames.{row_bytes}
use Rattle.requests.proofs.sending.bytes_of_rows.Given as goal

abbrev pub invariant-loop-key : goal.invariant-loop-key
invariant-loop-key l = l.bytes.items ≡ flat_map row_bytes (take l.key-index l.rows)
