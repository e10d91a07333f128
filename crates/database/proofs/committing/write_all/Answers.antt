use Rattle.std.proofs.Common.{◌≡◌, ◌∙◌, ◌+◌, List, ℕ, [], ◌∷◌, ◌++◌, take, drop, suc, sym, ap, subst, refl, add-one}
use Rattle.std.specs.Prelude.{Option, Result, Ok, Err, ⊤, is_ok}
use Rattle.std.proofs.Math.Seq.{take-suc, split_at}
use Rattle.std.proofs.lemmas.List.{take_all}
use Rattle.base.specs.declared.fault.Fault.{Fault}
use Rattle.base.specs.declared.key.Key.{Key}
use Rattle.database.specs.Obeys.{MakesWrite}
use Rattle.database.specs.Committing.{LeadsByWrites}
use Rattle.room.proofs.Runs.{leads-none}
use Rattle.session_laws.specs.Logs.{own}
use Rattle.database.specs.Histories.{LogsOwn, write_steps}
use Rattle.database.proofs.Histories.{goes-none, written-then, written-refused}
use Rattle.database.proofs.Reporting.{writes-more, writes-refused}
use Rattle.database.proofs.committing.write_all.Goals as goal

pub loop-one-init : goal.loop-one-init
loop-one-init g c = record { made = ([], leads-none g.D.Pmem.state c.args.room.now.room (g.met.D.Pmem.orderly c.args.room.now.room.device), (refl, refl)); ended = refl; log = goes-none (λ x. own c.args.session x ≡ []) c.args.room.now.log refl }

pub loop-one-preserved : goal.loop-one-preserved
loop-one-preserved g c =
    let writes = c.args.writes.now in
    let i = c.loop-one.one-index in
    let one = c.one-item.result in
    let done : take (i + 1) writes ≡ take i writes ++ one ∷ [] =
    ap (λ n. take n writes) (add-one i) ∙ take-suc writes i one c.loop-one-test.true ∙ ap (λ (w : Key × Option (List ℕ)). take i writes ++ w ∷ []) (sym c.one-item.is) in
    record {
      made =
          subst (λ (l : List (Key × Option (List ℕ))). LeadsByWrites g.D.Pmem.state c.args.room.now.room c.write.new.room.room c.args.session l (Ok tt)) (sym done)
          (writes-more g.D.Pmem.state c.args.room.now.room c.loop-one.room.room c.write.new.room.room c.args.session (take i writes) one c.loop-one.invariant.made
          (subst (λ (r : Result ⊤ Fault). MakesWrite g.D.Pmem.state c.loop-one.room.room c.write.new.room.room c.args.session one.0 one.1 r) c.in-Ok.is c.write.ensures.steps));
      ended = c.write.ensures.ended ∙ c.loop-one.invariant.ended;
      log =
          subst (λ (l : List (Key × Option (List ℕ))). LogsOwn c.args.session (write_steps c.args.session l) c.args.room.now.log c.write.new.room.log) (sym done)
          (written-then c.args.session (take i writes) one (is_ok c.write.result) c.args.room.now.log c.loop-one.room.log c.write.new.room.log c.loop-one.invariant.log c.write.ensures.log (ap is_ok c.in-Ok.is));
    }

pub returns-in-Err : goal.returns-in-Err
returns-in-Err g c =
    let writes = c.args.writes.now in
    let i = c.loop-one.one-index in
    let one = c.one-item.result in
    let whole : writes ≡ take i writes ++ one ∷ drop (suc i) writes =
    split_at writes i one c.loop-one-test.true ∙ ap (λ (w : Key × Option (List ℕ)). take i writes ++ w ∷ drop (suc i) writes) (sym c.one-item.is) in
    record {
      steps =
          subst (λ (l : List (Key × Option (List ℕ))). LeadsByWrites g.D.Pmem.state c.args.room.now.room c.write.new.room.room c.args.session l (Err c.in-Err.fault)) (sym whole)
          (writes-refused g.D.Pmem.state c.args.room.now.room c.loop-one.room.room c.write.new.room.room c.args.session (take i writes) (drop (suc i) writes) one c.in-Err.fault c.loop-one.invariant.made
          (subst (λ (r : Result ⊤ Fault). MakesWrite g.D.Pmem.state c.loop-one.room.room c.write.new.room.room c.args.session one.0 one.1 r) c.in-Err.is c.write.ensures.steps));
      ended = c.write.ensures.ended ∙ c.loop-one.invariant.ended;
      log = (
        take i writes,
        one ∷ drop (suc i) writes,
        whole,
        written-refused c.args.session (take i writes) one (is_ok c.write.result) c.args.room.now.log c.loop-one.room.log c.write.new.room.log c.loop-one.invariant.log c.write.ensures.log (ap is_ok c.in-Err.is),
      );
    }

pub returns : goal.returns
returns g c = record {
  steps =
      subst (λ (l : List (Key × Option (List ℕ))). LeadsByWrites g.D.Pmem.state c.args.room.now.room c.loop-one.room.room c.args.session l (Ok tt))
      (take_all c.loop-one.one-index c.args.writes.now c.loop-one-test.false) c.loop-one.invariant.made;
  ended = c.loop-one.invariant.ended;
  log = subst (λ (l : List (Key × Option (List ℕ))). LogsOwn c.args.session (write_steps c.args.session l) c.args.room.now.log c.loop-one.room.log) (take_all c.loop-one.one-index c.args.writes.now c.loop-one-test.false) c.loop-one.invariant.log;
}
