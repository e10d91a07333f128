-- Which refusal a call of several steps reports.
use Rattle.std.proofs.Common.{◌≡◌, ℕ, List, [], ◌∷◌, ◌++◌, length, drop, refl, sym, ap, ◌∙◌, subst, inl, inr, arith}
use Rattle.std.specs.Prelude.{Option, None}
use Rattle.std.specs.Option.{option_or}
use Rattle.std.proofs.Math.Seq.{drop-append_seam}
use Rattle.base.specs.declared.fault.Fault.{Fault}
use Rattle.base.specs.declared.step.Step.{Step}
use Rattle.base.specs.declared.step.Note.{Note}
use Rattle.base.specs.declared.step.Note.TheVariants.{Refused}
use Rattle.audited.specs.declared.receipt.Receipt.{Receipt}
use Rattle.engine.specs.Phases.{added_since}
use Rattle.engine.specs.Receipts.{Asks, Refuses}
use Rattle.engine.specs.Calls.{Called, HasNoOther, first_refusal, note_of_draw, refused_with}
use Rattle.engine.proofs.Calls.{Called-append, Called-more, Called-none}

-- ---- lists

none-first : (o p : Option Fault) → option_or o p ≡ None → o ≡ None
none-first a p h = grind (arith)

none-rest : (o p : Option Fault) → option_or o p ≡ None → p ≡ None
none-rest a p h = grind (arith)

-- after steps none of which was refused, the first refusal is that of the others
unrefused-append : (one two : List Receipt) → first_refusal one ≡ None → first_refusal (one ++ two) ≡ first_refusal two
unrefused-append [] two none = refl
unrefused-append (r ∷ one) two none = grind (arith, none-first, unrefused-append one two (none-rest (refused_with r.note) (first_refusal one) none), none-rest)

-- one step
pub of-one : (r : Receipt) (note : Note) → r.note ≡ note → first_refusal (r ∷ []) ≡ refused_with note
of-one r note is = grind (arith)

-- the note of a draw that was made doesn't refuse
pub draw-still : (answer : Option ℕ) → refused_with (note_of_draw answer) ≡ None
draw-still a = grind (arith)

-- ---- calls

since-append : (old added new : List Receipt) → new ≡ old ++ added → added_since old new ≡ added
since-append old added new is = ap (drop (length old)) is ∙ drop-append_seam old added

-- none of its steps was refused
abbrev pub IsClean : List Receipt → List Receipt → Type 0
IsClean old new = Called old new (λ added. first_refusal added ≡ None)

-- none was, or with this fault
abbrev Fails : List Receipt → List Receipt → Fault → Type 0
Fails old new fault = Called old new (λ added. HasNoOther added fault)

pub clean-reported : (old new : List Receipt) → IsClean old new → first_refusal (added_since old new) ≡ None
clean-reported old new c = ap first_refusal (since-append old c.added new c.is) ∙ c.holds

reported : (old new : List Receipt) (fault : Fault) → Fails old new fault → HasNoOther (added_since old new) fault
reported old new fault c = subst (λ (rs : List Receipt). HasNoOther rs fault) (sym (since-append old c.added new c.is)) c.holds

pub called-clean : (old new : List Receipt) (F : List Receipt → Type 0) → Called old new F → first_refusal (added_since old new) ≡ None → IsClean old new
called-clean old new F c clean = record { added = c.added; is = c.is; runs = c.runs; holds = ap first_refusal (sym (since-append old c.added new c.is)) ∙ clean }

-- no step was made
pub none-clean : (old : List Receipt) → IsClean old old
none-clean old = Called-none old (λ added. first_refusal added ≡ None) refl

-- no more was made
pub same-clean : (old mid new : List Receipt) → IsClean old mid → new ≡ mid → IsClean old new
same-clean old mid new c same = subst (λ (rs : List Receipt). IsClean old rs) (sym same) c

-- a step more
pub more-clean : (old mid new : List Receipt) (step : Step) (note : Note) → IsClean old mid → Asks mid new step note → refused_with note ≡ None → IsClean old new
more-clean old mid new step note c a still =
    Called-more _ _ _ _ _ _ _ c a (λ added r clean asked noted. unrefused-append added (r ∷ []) clean ∙ (of-one r note noted ∙ still))

pub one-clean : (old new : List Receipt) (step : Step) (note : Note) → Asks old new step note → refused_with note ≡ None → IsClean old new
one-clean old new step note a still = more-clean old old new step note (none-clean old) a still

pub then-clean : (old mid new : List Receipt) → IsClean old mid → IsClean mid new → IsClean old new
then-clean old mid new c d = Called-append _ _ _ _ _ _ c d (λ one two clean told. unrefused-append one two clean ∙ told)

-- ---- a call fails

-- for no refusal
pub clean-failed : (old new : List Receipt) (fault : Fault) → IsClean old new → HasNoOther (added_since old new) fault
clean-failed old new fault c = inl (clean-reported old new c)

-- a step more was refused
pub more-refused : (old mid new : List Receipt) (step : Step) (note : Note) (fault : Fault) → IsClean old mid → Asks mid new step note → note ≡ Refused fault → HasNoOther (added_since old new) fault
more-refused old mid new step note fault c a is =
    reported old new fault (Called-more _ _ _ _ _ _ _ c a (λ added r clean asked noted. inr (unrefused-append added (r ∷ []) clean ∙ of-one r (Refused fault) (noted ∙ is))))

-- or there was no memory for it
pub then-refused : (old mid new : List Receipt) (step : Step) (fault : Fault) → IsClean old mid → Refuses mid new step fault → HasNoOther (added_since old new) fault
then-refused old mid new step fault c (inl (same, none)) = clean-failed old new fault (subst (λ (rs : List Receipt). IsClean old rs) (sym same) c)
then-refused old mid new step fault c (inr a) = more-refused old mid new step (Refused fault) fault c a refl

-- after another call
pub then-failed : (old mid new : List Receipt) (fault : Fault) (F : List Receipt → Type 0) → IsClean old mid → Called mid new F → HasNoOther (added_since mid new) fault → HasNoOther (added_since old new) fault
then-failed old mid new fault F c d told =
    reported old new fault
    (Called-append _ _ _ _ (λ added. HasNoOther added fault) _ c
    (record { added = d.added; is = d.is; runs = d.runs; holds = subst (λ (rs : List Receipt). HasNoOther rs fault) (since-append mid d.added new d.is) told }) both)
  where
    both : (one two : List Receipt) → first_refusal one ≡ None → HasNoOther two fault → HasNoOther (one ++ two) fault
    both one two clean (inl none) = inl (unrefused-append one two clean ∙ none)
    both one two clean (inr some) = inr (unrefused-append one two clean ∙ some)
