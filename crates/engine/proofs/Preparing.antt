-- A draw and its stamps.
use Rattle.std.proofs.Common.{◌≡◌, ◌⊎◌, ℕ, List, [], ◌∷◌, ◌++◌, refl, sym, ◌∙◌, ap, subst, inl, inr, arith}
use Rattle.std.specs.Prelude.{All, Option, Some, None}
use Rattle.base.specs.declared.fault.Fault.{Fault}
use Rattle.base.specs.declared.fault.Fault.TheVariants.{OutOfMemory}
use Rattle.base.specs.declared.step.Step.TheVariants.{Draw, Stamp}
use Rattle.base.specs.declared.step.Note.{Note}
use Rattle.base.specs.declared.step.Note.TheVariants.{Stamped as AllStamped, Refused}
use Rattle.audited.specs.declared.receipt.Receipt.{Receipt}
use Rattle.engine.specs.declared.phase.Phase.{Phase}
use Rattle.engine.specs.declared.phase.Phase.TheVariants.{Active}
use Rattle.engine.specs.Receipts.{Asks, Refuses}
use Rattle.engine.specs.Calls.{Called, AskPrepare, ReportsPrepare, ReportsLast, ReportsFault, DeclinesPrepare, note_of_draw}
use Rattle.std.proofs.lemmas.List.Elements.{All-nil}
use Rattle.engine.proofs.Calls.{Called-none, Called-one, Called-append}

-- why nothing will be covered is why nothing is drawn
not_drawn : (E : Fault → Type 0) (n : ℕ) (fault : Fault) → (fault ≡ OutOfMemory) ⊎ E fault → DeclinesPrepare E (Active n) [] fault
not_drawn a n fault b = grind (arith)

drawn_first : (old mid new : List Receipt) (n : ℕ) (note : Note) (F G : List Receipt → Type 0)
    → Asks old mid (Draw n) note → Called mid new F
    → ((r : Receipt) (rest : List Receipt) → r.step ≡ Draw n → r.note ≡ note → F rest → G (r ∷ rest)) → Called old new G
drawn_first old mid new n note F G a c both =
    Called-append old mid new (λ one. (r : Receipt) × (one ≡ r ∷ []) × (r.step ≡ Draw n) × (r.note ≡ note)) F G
    (Called-one old mid (Draw n) note _ a (λ r step told. (r, refl, step, told))) c (λ one two first rest. join one two first rest)
  where
    join : (one two : List Receipt) → (r : Receipt) × (one ≡ r ∷ []) × (r.step ≡ Draw n) × (r.note ≡ note) → F two → G (one ++ two)
    join one two (r, same, step, told) rest = subst (λ (rs : List Receipt). G (rs ++ two)) (sym same) (both r two step told rest)

-- nothing is drawn, since nothing will be covered
pub not_asked : (E : Fault → Type 0) (old new : List Receipt) (phase : Phase) (n : ℕ) (fault : Fault) → phase ≡ Active n → new ≡ old → (fault ≡ OutOfMemory) ⊎ E fault
    → Called old new (λ added. AskPrepare phase added × DeclinesPrepare E phase added fault)
not_asked E old new phase n fault is same why =
    subst (λ (rs : List Receipt). Called old rs (λ added. AskPrepare phase added × DeclinesPrepare E phase added fault)) (sym same)
    (Called-none old _ (subst (λ (p : Phase). AskPrepare p [] × DeclinesPrepare E p [] fault) (sym is) (inl refl, not_drawn E n fault why)))

-- the draw is refused, or there is no memory for it
pub draw_refused : (E : Fault → Type 0) (old new : List Receipt) (phase : Phase) (n : ℕ) (fault : Fault) → phase ≡ Active n → Refuses old new (Draw n) fault
    → Called old new (λ added. AskPrepare phase added × DeclinesPrepare E phase added fault)
draw_refused E old new phase n fault is (inl (same, none)) =
    not_asked E old new phase n fault is same (inl none)
draw_refused E old new phase n fault is (inr a) =
    Called-one old new (Draw n) (Refused fault) _ a (λ r step told.
    subst (λ (p : Phase). AskPrepare p (r ∷ []) × DeclinesPrepare E p (r ∷ []) fault) (sym is)
    (inr (r, [], refl, step, All-nil (λ (s : Receipt). s.step ≡ Stamp n)), inl (inr ([], r, refl, told))))

one_before : (note : Note) (r : Receipt) (rest : List Receipt) → ReportsLast rest note → ReportsLast (r ∷ rest) note
one_before note r rest (before, last, same, told) = (r ∷ before, last, ap (λ (rs : List Receipt). r ∷ rs) same, told)

pub broken_off : (E : Fault → Type 0) (old mid new : List Receipt) (phase : Phase) (n : ℕ) (note : Note) (fault : Fault) → phase ≡ Active n
    → Asks old mid (Draw n) note → Called mid new (λ added. All (λ r. r.step ≡ Stamp n) added × ReportsFault added fault)
    → Called old new (λ added. AskPrepare phase added × DeclinesPrepare E phase added fault)
broken_off E old mid new phase n note fault is a c =
    drawn_first old mid new n note _ _ a c (λ r rest step told stamps. (
      subst (λ (p : Phase). AskPrepare p (r ∷ rest)) (sym is) (inr (r, rest, refl, step, stamps.0)),
      subst (λ (p : Phase). DeclinesPrepare E p (r ∷ rest) fault) (sym is) (inl (longer r rest stamps.1)),
    ))
  where
    longer : (r : Receipt) (rest : List Receipt) → ReportsFault rest fault → ReportsFault (r ∷ rest) fault
    longer r rest (inl none) = inl none
    longer r rest (inr last) = inr (one_before (Refused fault) r rest last)

pub drawn_told : (old mid new : List Receipt) (phase : Phase) (n t : ℕ) (answer : Option ℕ) → phase ≡ Active n → answer ≡ Some t
    → Asks old mid (Draw n) (note_of_draw answer) → Called mid new (λ added. All (λ r. r.step ≡ Stamp n) added × ReportsLast added AllStamped)
    → Called old new (λ added. AskPrepare phase added × ReportsPrepare phase added (Some t))
drawn_told old mid new phase n t answer is at a c =
    drawn_first old mid new n (note_of_draw answer) _ _ a c (λ r rest step told stamps. (
      subst (λ (p : Phase). AskPrepare p (r ∷ rest)) (sym is) (inr (r, rest, refl, step, stamps.0)),
      subst (λ (p : Phase). ReportsPrepare p (r ∷ rest) (Some t)) (sym is) ((r, rest, refl, told ∙ ap note_of_draw at), one_before AllStamped r rest stamps.1),
    ))

-- nothing was written, so nothing is stamped
pub nothing_told : (old new : List Receipt) (phase : Phase) (n : ℕ) (answer : Option ℕ) → phase ≡ Active n → answer ≡ None → Asks old new (Draw n) (note_of_draw answer)
    → Called old new (λ added. AskPrepare phase added × ReportsPrepare phase added None)
nothing_told old new phase n answer is at a =
    Called-one old new (Draw n) (note_of_draw answer) _ a (λ r step told.
    subst (λ (p : Phase). AskPrepare p (r ∷ []) × ReportsPrepare p (r ∷ []) None) (sym is)
    (inr (r, [], refl, step, All-nil (λ (s : Receipt). s.step ≡ Stamp n)), ((r, [], refl, told ∙ ap note_of_draw at), (r, refl))))
