-- The worked log, by computing it.
use Rattle.std.proofs.Common.{◌≡◌, false, [], ◌∷◌, refl}
use Rattle.std.specs.Prelude.{None, Some}
use Rattle.std.specs.List.{list_any}
use Rattle.base.specs.declared.step.Step.TheVariants.{Begin, Get, Put, Draw, Stamp, Poll, End}
use Rattle.base.specs.Layout.{slot_lines, slot_words, used_words}
use Rattle.machine.specs.Machine.{most_sessions, seen_by, free_session}
use Rattle.machine.specs.Replay.{replies}
use Rattle.worked.specs.Images.{key_7, ab}
use Rattle.worked.specs.Runs.{start, key_8}
use Rattle.session_laws.specs.Logs.{state_after, is_refusal, own}
use Rattle.session_laws.specs.Sessions.{transacted}
use Rattle.session_laws.specs.Example.{side_by_side, commit_8, SideBySide}

makes_all : list_any is_refusal (replies start side_by_side) ≡ false
unfolding most_sessions slot_lines slot_words used_words
makes_all = refl

of_2 : own 2 side_by_side ≡ Put 2 key_7 ab ∷ Get 2 key_8 ∷ []
unfolding most_sessions slot_lines slot_words used_words
of_2 = refl

of_3 : own 3 side_by_side ≡ Put 3 key_8 ab ∷ Draw 3 ∷ Stamp 3 ∷ Poll 3 ∷ End 3 ∷ []
unfolding most_sessions slot_lines slot_words used_words
of_3 = refl

transacts : transacted (state_after start (Begin ∷ [])) 3 (Put 2 key_7 ab ∷ Put 3 key_8 ab ∷ []) ≡ commit_8
unfolding most_sessions slot_lines slot_words used_words
transacts = refl

covered : (state_after start side_by_side).history ≡ commit_8 ∷ []
unfolding most_sessions slot_lines slot_words used_words
covered = refl

own_write : seen_by (state_after start side_by_side) 2 key_7 ≡ Some ab
unfolding most_sessions slot_lines slot_words used_words
own_write = refl

not_theirs : seen_by (state_after start side_by_side) 2 key_8 ≡ None
unfolding most_sessions slot_lines slot_words used_words
not_theirs = refl

free_again : free_session (state_after start side_by_side) ≡ Some 3
unfolding most_sessions slot_lines slot_words used_words
free_again = refl

pub worked-out : SideBySide
worked-out = record { makes_all = makes_all; of_2 = of_2; of_3 = of_3; transacts = transacts; covered = covered; own_write = own_write; not_theirs = not_theirs; free_again = free_again }
