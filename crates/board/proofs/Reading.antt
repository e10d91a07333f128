-- What the answers of one reader have to do with one another.
use Rattle.std.proofs.Common.{◌≡◌, ◌⊎◌, inl, inr, ℕ, ◌≤◌, ◌<◌, Bool, true, false, nat_lt, if◌then◌else◌, List, Option, Ok, Err, refl, sym, ap, ◌∙◌, ⊎_elim, arith}
use Rattle.std.proofs.lemmas.Bool.Decides.{nat_tests}
use Rattle.base.specs.declared.fault.Fault.TheVariants.{Shut, TooOld, NotYet}
use Rattle.base.specs.declared.key.Key.{Key}
use Rattle.base.specs.Published.{Published, last_stamp, row_at}
use Rattle.board.specs.Views.{Saw, answer}
use Rattle.board.specs.Laws.{AnswersAgree, TimeRises, LearntIsRead}
use Rattle.board.proofs.Rules.{begins_on}
use Rattle.board.proofs.Staying.{rows_stay, stamps_stay}

-- an answer with a row is the list's, at a stamp that the list has
answered : (list : Published) (stamp : ℕ) (key : Key) (row : Option (List ℕ)) → Ok row ≡ answer list stamp key → (stamp ≤ last_stamp list) × (row ≡ row_at list stamp key)
answered list stamp key row h = grind (arith)

pub answers_agree : AnswersAgree
answers_agree before seen later last stamp key row other first on second =
    let a = answered seen stamp key row first.replied in
    let b = answered last stamp key other second.replied in
    b.1 ∙ (rows_stay seen last second.published (begins_on seen later last on second.begins) stamp key a.0 ∙ sym a.1)

pub time_rises : TimeRises
time_rises before seen later last low high floor top first on second = grind (arith, stamps_stay seen last second.published (begins_on seen later last on second.begins))

pub learnt_is_read : LearntIsRead
learnt_is_read told before after key reply learnt answered_so = ⊎_elim saw (λ none. inr (inr none.replied)) answered_so
  where
    is : (s : Saw before after reply (λ list. answer list (last_stamp told) key)) → row_at after (last_stamp told) key ≡ row_at told (last_stamp told) key
    is s = rows_stay told after s.published (begins_on told before after learnt s.begins) (last_stamp told) key (omega arith)

    pick : (low high : Bool) → nat_lt (last_stamp after) (last_stamp told) ≡ high → last_stamp told ≤ last_stamp after
        → row_at after (last_stamp told) key ≡ row_at told (last_stamp told) key
        → reply ≡ (if low then Err TooOld else (if high then Err NotYet else Ok (row_at after (last_stamp told) key)))
        → (reply ≡ Ok (row_at told (last_stamp told) key)) ⊎ ((reply ≡ Err TooOld) ⊎ (reply ≡ Err Shut))
    pick true high e le row h = inr (inl h)
    pick false true e le row h = let above : last_stamp after < last_stamp told = grind (arith, nat_tests, e) in absurd (omega (arith, above, le))
    pick false false e le row h = inl (h ∙ ap (λ (r : Option (List ℕ)). Ok r) row)

    saw : Saw before after reply (λ list. answer list (last_stamp told) key) → (reply ≡ Ok (row_at told (last_stamp told) key)) ⊎ ((reply ≡ Err TooOld) ⊎ (reply ≡ Err Shut))
    saw s =
        let up = stamps_stay told after s.published (begins_on told before after learnt s.begins) in
        pick (nat_lt (last_stamp told) after.floor) (nat_lt (last_stamp after) (last_stamp told)) refl up (is s) s.replied
