-- What is known of the threads' tasks.
use Rattle.std.proofs.Common.{◌≡◌, ◌⊎◌, ℕ, ◌+◌, ◌<◌, List, [], ◌∷◌, ◌++◌, length, get_or, take, Option, Some, None, false, sym, ap, ◌∙◌, subst}
use Rattle.std.proofs.lemmas.List.Elements.{All-more, All-nil, All-push}
use Rattle.std.proofs.lemmas.List.Folds.{flat_map-map}
use Rattle.std.specs.Prelude.{All, IfSome}
use Rattle.std.specs.List.{Any}
use Rattle.base.specs.declared.fault.Fault.{Fault}
use Rattle.base.specs.declared.fault.Fault.TheVariants.{WrongState}
use Rattle.base.specs.declared.step.Step.{Step}
use Rattle.base.specs.declared.step.Note.{Note}
use Rattle.base.specs.Images.{Image}
use Rattle.pmem.specs.Device.{Device}
use Rattle.pmem.specs.declared.device.Pmem.{Ghosts}
use Rattle.board.specs.declared.history.Naming.{Ghosts as Names}
use Rattle.audited.specs.declared.audited.Audited.{Audited}
use Rattle.engine.specs.declared.origin.Origin.{Ghosts as Origins}
use Rattle.engine.specs.declared.session.Session.{Session}
use Rattle.engine.specs.Agreement.{Agrees, receipts_in}
use Rattle.engine.specs.Origins.{IsFrom, Knows}
use Rattle.workload.specs.declared.task.Task.{Task}
use Rattle.workload.specs.Load.{AreMade, HasRefusal, may_pass}
use Rattle.workload.specs.Tasks.{AllWork, AreFresh, sessions_in}
use Rattle.workload.proofs.Agreed.{are-made, some-refusal}

module _ {D J B : Type 0} {G : Ghosts D} {N : Origins J} {M : Names J} where
  pub fresh-none : (tasks : List (Task D J B G N M)) → tasks ≡ [] → AreFresh tasks
  fresh-none tasks none = subst AreFresh (sym none) (All-nil (λ (t : Task D J B G N M). t.session.receipts.items ≡ []))

  pub fresh-push : (tasks : List (Task D J B G N M)) (task : Task D J B G N M) (session : Session D J B G N M) (more : List (Task D J B G N M)) → more ≡ tasks ++ task ∷ [] → AreFresh tasks → task.session ≡ session
      → session.receipts.items ≡ [] → AreFresh more
  fresh-push tasks task session more is fresh of empty =
      subst AreFresh (sym is)
      (All-push (λ (t : Task D J B G N M). t.session.receipts.items ≡ []) tasks task fresh (ap (λ (s : Session D J B G N M). s.receipts.items) of ∙ empty))

  pub none-more : (tasks : List (Task D J B G N M)) (i : ℕ) (task : Task D J B G N M) → i < length tasks → task ≡ get_or tasks i task → task.fault ≡ None
      → All (λ t. t.fault ≡ None) (take i tasks) → All (λ t. t.fault ≡ None) (take (i + 1) tasks)
  none-more tasks i task less is none all =
      All-more (λ (t : Task D J B G N M). t.fault ≡ None) tasks i task less all (sym (ap (λ (t : Task D J B G N M). t.fault) is) ∙ none)

  pub none-all : (tasks some : List (Task D J B G N M)) → some ≡ tasks → All (λ t. t.fault ≡ None) some → All (λ t. t.fault ≡ None) tasks
  none-all tasks some is all = subst (λ (ts : List (Task D J B G N M)). All (λ t. t.fault ≡ None) ts) is all

  pub some-of : (result : Option Fault) (one other : List (Task D J B G N M)) → one ≡ other → IfSome result (λ f. Any (λ t. t.fault ≡ Some f) one) → IfSome result (λ f. Any (λ t. t.fault ≡ Some f) other)
  some-of result one other is met = subst (λ (ts : List (Task D J B G N M)). IfSome result (λ f. Any (λ t. t.fault ≡ Some f) ts)) is met

  receipts-of : (tasks : List (Task D J B G N M)) (closed : List (Session D J B G N M)) → closed ≡ sessions_in tasks → receipts_in closed ≡ receipts_in (sessions_in tasks)
  receipts-of tasks closed is = ap (λ (ss : List (Session D J B G N M)). receipts_in ss) is

  pub tasks-made : (image : Image) (sessions commits first : ℕ) (tasks : List (Task D J B G N M)) (closed : List (Session D J B G N M)) (entries : List (Step × Note))
      → length tasks ≡ sessions → first ≡ 0 → AllWork image commits tasks → All (λ t. t.fault ≡ None) tasks → closed ≡ sessions_in tasks → Agrees entries first (receipts_in closed) → AreMade sessions commits entries
  tasks-made image sessions commits first tasks closed entries count begins works none is agrees =
      are-made {T = Task D J B G N M} (λ t. t.session.receipts.items) (λ t. t.fault) (λ t. Knows image t.session.told) sessions commits tasks entries first (receipts_in closed) count begins works none
      (receipts-of tasks closed is ∙ flat_map-map (λ (s : Session D J B G N M). s.receipts.items) (λ (t : Task D J B G N M). t.session) tasks) agrees

  pub tasks-refused : (state : D → Device) (image : Image) (commits first : ℕ) (tasks : List (Task D J B G N M)) (closed : List (Session D J B G N M)) (audited : Audited D G) (fault : Fault)
      → AllWork image commits tasks → Any (λ t. t.fault ≡ Some fault) tasks → closed ≡ sessions_in tasks → Agrees audited.entries.items first (receipts_in closed) → IsFrom state image audited
      → (fault ≡ WrongState) ⊎ ((may_pass fault ≡ false) × HasRefusal image fault)
  tasks-refused state image commits first tasks closed audited fault works met is agrees from =
      some-refusal {T = Task D J B G N M} state image audited first commits (receipts_in closed) (λ t. t.session.receipts.items) (λ t. t.fault) (λ t. t.session.told) tasks fault works met
      (receipts-of tasks closed is ∙ flat_map-map (λ (s : Session D J B G N M). s.receipts.items) (λ (t : Task D J B G N M). t.session) tasks) agrees from
