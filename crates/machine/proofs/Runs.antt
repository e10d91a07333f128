-- Laws of steps and runs.
use Rattle.std.proofs.Common.{◌≡◌, List, [], ◌∷◌, ◌++◌, refl, sym, subst, inl, inr, arith}
use Rattle.std.proofs.lemmas.List.Elements.{Contains-append_left}
use Rattle.base.specs.declared.fault.Fault.TheVariants.{OutOfMemory}
use Rattle.base.specs.declared.step.Step.{Step}
use Rattle.base.specs.declared.step.Note.{Note}
use Rattle.base.specs.declared.step.Reply.{Reply}
use Rattle.base.specs.declared.step.Reply.TheVariants.{Refused}
use Rattle.base.specs.Replies.{note_of}
use Rattle.machine.specs.Machine.{State, Stepped, Answers, Noted, Run, final, StandsAt, StandsWithin, StandsAlong, StandsClosing, covers_at, of_hand, present, closed}
use Rattle.base.specs.Images.{Image}

-- a reply that isn't a refusal
abbrev pub IsAnswer : Reply → Type 0
IsAnswer (Refused fault) = ⊥
IsAnswer _ = Unit {0}

along : (reply other : Reply) → reply ≡ other → IsAnswer other → IsAnswer reply
along reply other e p = subst (λ r. IsAnswer r) (sym e) p

-- an answer isn't a refusal
pub Answers-answer : (q : State) (step : Step) (reply : Reply) → Answers q step reply → IsAnswer reply
Answers-answer q b reply a = grind (arith)

-- a lack of memory changes nothing
pub memory_unchanged : (q : State) (step : Step) (q' : State) → Stepped q step (Refused OutOfMemory) q' → q' ≡ q
memory_unchanged q step q' b = grind (arith, Answers-answer)

-- a run goes on by a step
pub Noted-append : (q : State) (entries : List (Step × Note)) (mid : State) (step : Step) (reply : Reply) (q' : State)
    → Noted q entries mid → Stepped mid step reply q' → Noted q (entries ++ (step, note_of reply) ∷ []) q'
Noted-append q [] mid step reply q' e s = (reply, q', subst (λ (m : State). Stepped m step reply q') e s, refl, refl)
Noted-append q (entry ∷ entries) mid step reply q' (r, m, s1, n, rest) s = (r, m, s1, n, Noted-append m entries mid step reply q' rest s)

pub Run-append : (q : State) (steps : List Step) (replies : List Reply) (states : List State) (step : Step) (reply : Reply) (q' : State)
    → Run q steps replies states → Stepped (final q states) step reply q' → Run q (steps ++ step ∷ []) (replies ++ reply ∷ []) (states ++ q' ∷ [])
Run-append q [] [] [] step reply q' run s = (s, tt)
Run-append q (s1 ∷ steps) (r1 ∷ replies) (q1 ∷ states) step reply q' run s = (run.0, Run-append q1 steps replies states step reply q' run.1 s)
Run-append q [] [] (q1 ∷ states) step reply q' run s = absurd run
Run-append q [] (r1 ∷ replies) states step reply q' run s = absurd run
Run-append q (s1 ∷ steps) [] states step reply q' run s = absurd run
Run-append q (s1 ∷ steps) (r1 ∷ replies) [] step reply q' run s = absurd run

pub final-append : (q : State) (states : List State) (q' : State) → final q (states ++ q' ∷ []) ≡ q'
final-append q [] q' = refl
final-append q (q1 ∷ states) q' = final-append q1 states q'

-- between two steps, and so within the next
pub StandsAt-within : (q q' : State) (image : Image) → StandsAt q image → StandsWithin q q' image
StandsAt-within q q' image s = (s.0, Contains-append_left (covers_at q) (of_hand q q'.hand ++ present q' ∷ []) s.0 s.1, s.2)

pub StandsAt-closing : (q : State) (image : Image) → StandsAt q image → StandsClosing q image
StandsAt-closing q image s = (s.0, Contains-append_left (covers_at q) (closed q ∷ []) s.0 s.1, s.2)

pub StandsAlong-before : (q : State) (states : List State) (q' : State) (image : Image) → StandsAlong q states image → StandsAlong q (states ++ q' ∷ []) image
StandsAlong-before q [] q' image s = inl (StandsAt-within q q' image s)
StandsAlong-before q (q1 ∷ states) q' image (inl s) = inl s
StandsAlong-before q (q1 ∷ states) q' image (inr s) = inr (StandsAlong-before q1 states q' image s)

pub StandsAlong-last : (q : State) (states : List State) (q' : State) (image : Image) → StandsWithin (final q states) q' image → StandsAlong q (states ++ q' ∷ []) image
StandsAlong-last q [] q' image s = inl s
StandsAlong-last q (q1 ∷ states) q' image s = inr (StandsAlong-last q1 states q' image s)
