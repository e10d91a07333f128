use Rattle.std.proofs.Common.{◌≡◌, ◌∙◌, ap, subst, sym, refl, ℕ, true, List, [], ◌∷◌, ◌++◌}
use Rattle.std.proofs.Math.Bool.{Bool-set}
use Rattle.std.proofs.Math.Bridge.{le_prop}
use Rattle.std.proofs.Math.Logic.{∥∥₁_elim}
use Rattle.txn.specs.DrawnCommits.{are_below}
use Rattle.txn.specs.declared.drawn.DrawnCommit.{DrawnCommit}
use Rattle.txn.specs.declared.write.Write.{Write}
use Rattle.base.specs.declared.fault.Fault.TheVariants.{OutOfMemory}
use Rattle.session_steps.proofs.draws.Steps.{all-early, draws, draws-not}
use Rattle.session_steps.proofs.draws.Notes.{fits-lines}
use Rattle.session_steps.proofs.CodeTests.{one-active}
use Rattle.session_steps.proofs.sessions.Sessions.draw_next.Goals as goal

pub draw_writes-requires-clause-fits : goal.draw_writes-requires-clause-fits
draw_writes-requires-clause-fits c = ∥∥₁_elim c.requires.shown (Bool-set _ _) (λ shown. fits-lines c.args.self.now shown.0 c.args.session _ _ c.reserve_keys.new.index shown.1 c.in-Ok.ensures.ok c.reserve_keys.ensures.entries)

pub draw_writes-requires-clause-sized : goal.draw_writes-requires-clause-sized
draw_writes-requires-clause-sized c = ∥∥₁_elim c.requires.shown le_prop (λ shown. shown.1.agrees.sized)

pub push-requires-clause-last : goal.push-requires-clause-last
push-requires-clause-last c =
    ∥∥₁_elim c.requires.shown (Bool-set _ _)
    (λ shown. subst (λ (n : ℕ). are_below n c.reserve.new.self.commits ≡ true) (sym c.draw-timestamp.ensures.timestamp)
    (subst (λ (ds : List DrawnCommit). are_below c.args.self.now.numbers.next ds ≡ true) (sym c.reserve.ensures.commits)
    (all-early c.args.self.now.numbers.record c.args.self.now.numbers.next c.args.self.now.drawn.commits shown.1.keeps.numbers.drawn)))

pub returns-in-Err-reserve_keys : goal.returns-in-Err-reserve_keys
returns-in-Err-reserve_keys c =
    let active = c.requires.active _ _ c.in-Ok.ensures.ok in
    record {
      step = λ h holds.
          draws-not c.args.self.now h c.args.session _ _ c.args.self.now.drawn c.reserve_keys.new.index OutOfMemory holds c.in-Ok.ensures.ok active.0 active.1 c.requires.window c.requires.early refl c.reserve_keys.ensures.entries
          c.reserve_keys.ensures.kept refl;
    }

pub returns-in-Err-reserve : goal.returns-in-Err-reserve
returns-in-Err-reserve c =
    let active = c.requires.active _ _ c.in-Ok.ensures.ok in
    record {
      step = λ h holds.
          draws-not c.args.self.now h c.args.session _ _ c.reserve.new.self c.reserve_keys.new.index OutOfMemory holds c.in-Ok.ensures.ok active.0 active.1 c.requires.window c.requires.early c.reserve.ensures.commits
          c.reserve_keys.ensures.entries c.reserve_keys.ensures.kept refl;
    }

pub returns : goal.returns
returns c =
    let active = c.requires.active _ _ c.in-Ok.ensures.ok in
    let moved = one-active _ _ _ _ _ c.draw-writes.ensures.writes.1 c.in-Ok.ensures.ok in
    record {
      step = λ h holds.
          draws c.args.self.now h c.args.session c.draw-timestamp.result c.in-Ok.active.snapshot.now c.in-Ok.active.writes.now c.draw-timestamp.new.self c.draw-writes.new.self c.push.new.self c.reserve_keys.new.index c.draw_writes.new.index c.draw_writes.new.dirty
          holds c.in-Ok.ensures.ok active.0 active.1 c.requires.window c.requires.early c.draw-timestamp.ensures.timestamp c.draw-timestamp.ensures.numbers c.draw-writes.ensures.drawn
          (c.push.ensures ∙ ap (λ (ds : List DrawnCommit). ds ++ record { session = c.args.session; timestamp = c.draw-timestamp.result; writes = c.draw-writes.result; stamped = 0 } ∷ []) c.reserve.ensures.commits
          ∙ ap (λ (ws : List Write). c.args.self.now.drawn.commits ++ record { session = c.args.session; timestamp = c.draw-timestamp.result; writes = ws; stamped = 0 } ∷ []) moved.1)
          c.reserve_keys.ensures.entries c.reserve_keys.ensures.kept c.in-Ok-reserve_keys.ensures.room c.draw_writes.ensures.entries c.draw_writes.ensures.rooms c.draw_writes.ensures.lines;
    }
