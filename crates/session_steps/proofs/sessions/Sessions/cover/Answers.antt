use Rattle.std.proofs.Common.{◌≡◌, ℕ, true, List, subst, sym, rules, get_or}
use Rattle.std.specs.Prelude.{All, Option}
use Rattle.std.proofs.Math.Bool.{Bool-set}
use Rattle.std.proofs.Math.Logic.{∥∥₁_elim}
use Rattle.base.specs.Records.{Record, is_well_formed}
use Rattle.machine.specs.Machine.{State}
use Rattle.dirty_table.specs.Touches.{has}
use Rattle.txn.specs.declared.drawn.DrawnCommit.{DrawnCommit}
use Rattle.session_steps.specs.Shows.{has_drawn_by, plain_of, HoldsDrawn}
use Rattle.txn.specs.declared.transaction.Transaction.{Transaction}
use Rattle.session_steps.specs.Covering.{CoversCommits, HasCovered, committed_by, left_by}
use Rattle.gap_list.proofs.Tidy.{well_formed-tidy}
use Rattle.session_steps.proofs.draws.Notes.{kept-all}
use Rattle.session_steps.proofs.covers.Batch.{has-covered, shows-covered}
use Rattle.session_steps.proofs.sessions.Sessions.cover.Goals as goal

pub cover_commits-sessions-requires-clause-room : goal.cover_commits-sessions-requires-clause-room
cover_commits-sessions-requires-clause-room c = λ k d lt k' d' lt'.
    ∥∥₁_elim c.requires (Bool-set _ _) (λ some.
    (subst (λ (ds : List DrawnCommit). All (HoldsDrawn c.args.self.now (plain_of c.args.self.now some.0)) ds) (sym c.as_slice-commits.ensures.commits) some.2.agrees.drawn k d lt).room k' d' lt')

pub cover_commits-sessions-requires-clause-kept : goal.cover_commits-sessions-requires-clause-kept
cover_commits-sessions-requires-clause-kept c = λ k d lt k' d' lt'.
    let commit = get_or c.as_slice-commits.result.now k d in
    ∥∥₁_elim c.requires (Bool-set _ _) (λ some.
    kept-all (plain_of c.args.self.now some.0) commit.timestamp commit.writes some.2.keeps.numbers.layout
    (subst (λ (ds : List DrawnCommit). All (HoldsDrawn c.args.self.now (plain_of c.args.self.now some.0)) ds) (sym c.as_slice-commits.ensures.commits) some.2.agrees.drawn k d lt).writes k' d' lt')

pub snapshot-requires : goal.snapshot-requires
snapshot-requires c = ∥∥₁_elim c.requires (Bool-set _ _) (λ some.
    let q : State = plain_of c.args.self.now some.0 in
    well_formed-tidy q.layout.version c.args.ruling.now (subst (λ (r : Record). is_well_formed q.layout.version r ≡ true) some.2.batch.target (some.2.keeps.numbers.hand some.1 some.2.batch.in_hand).formed))

pub returns-clause-covers : goal.returns-clause-covers
returns-clause-covers c = λ h hand may.
    subst (λ (ts : List (Option Transaction)). HasCovered c.args.self.now (record c.args.self.now { numbers = record { geometry = c.args.self.now.numbers.geometry; «record» = c.args.ruling.now; next = c.args.self.now.numbers.next }; index = c.cover_commits-sessions.new.index; dirty = c.forget.new.self; drawn = c.cover.new.self; transactions = ts; replaced = c.cover_commits-sessions.new.replaced }) h hand) (sym c.cover.ensures.transactions)
    (has-covered c.args.self.now c.args.ruling.now h hand may c.cover_commits-sessions.new.index c.forget.new.self c.cover_commits-sessions.result c.cover.new.self c.cover_commits-sessions.new.replaced
    (subst (λ (ds : List DrawnCommit). CoversCommits (committed_by c.args.ruling.now ds) c.args.self.now.index c.cover_commits-sessions.new.index) c.as_slice-commits.ensures.commits c.cover_commits-sessions.ensures.index) c.cover_commits-sessions.ensures.marks c.forget.ensures
    (subst (λ (ds : List DrawnCommit). (n : ℕ) → has c.cover_commits-sessions.result n ≡ has_drawn_by (committed_by c.args.ruling.now ds) n) c.as_slice-commits.ensures.commits c.cover_commits-sessions.ensures.sessions) left)
  where
    left : c.cover.new.self.commits ≡ left_by c.args.ruling.now c.args.self.now.drawn.commits
    left = search rules

pub returns-clause-shows : goal.returns-clause-shows
returns-clause-shows c = shows-covered c.args.self.now _ c.args.ruling.now (returns-clause-covers c)
