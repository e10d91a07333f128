-- What the numbers of the sessions keep to.
use Rattle.std.proofs.Common.{◌≡◌, ◌^◌, ◌≤◌, true, arith}
use Rattle.gap_list.specs.GapLists.{is_gap_list}
use Rattle.gap_list.proofs.Tidy.{well_formed-tidy}
use Rattle.session_steps.specs.declared.sessions.Sessions.{Sessions}
use Rattle.session_steps.specs.Shows.{Hidden}
use Rattle.session_steps.specs.Steps.{Holds}

-- the gaps of its record are a list of gaps
pub gaps-listed : (s : Sessions) (h : Hidden) → Holds s h → is_gap_list s.numbers.record.gaps ≡ true
gaps-listed s h holds = well_formed-tidy s.numbers.geometry.version s.numbers.record holds.keeps.numbers.formed

pub next-below : (s : Sessions) (h : Hidden) → Holds s h → s.numbers.next ≤ 2 ^ 62
next-below s h holds = omega (arith, holds.keeps.numbers.room)
