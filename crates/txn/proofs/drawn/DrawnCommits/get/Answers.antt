use Rattle.std.proofs.Common.{◌≡◌, ◌∙◌, ◌<◌, ℕ, List, Option, Some, get_or, length, sym, ap, subst, arith}
use Rattle.std.specs.Prelude.{slice_get}
use Rattle.std.proofs.lemmas.Option.{slice_get-get_or, slice_get_within}
use Rattle.txn.specs.declared.drawn.DrawnCommit.{DrawnCommit}
use Rattle.txn.specs.InFlight.{InFlight}
use Rattle.txn.specs.DrawnCommits.{drawn_at, place_of}
use Rattle.txn.proofs.InOrder.{apart-there, found-at, not-found}
use Rattle.txn.proofs.drawn.DrawnCommits.get.Goals as goal

-- what is at the place
there : (t at : ℕ) (ds : List DrawnCommit) (d : DrawnCommit) → at ≡ place_of t ds → at < length ds → d ≡ get_or ds at d → slice_get ds (place_of t ds) ≡ Some d
there t at ds d is within lies = subst (λ (n : ℕ). slice_get ds n ≡ Some d) is (slice_get-get_or ds at d within ∙ ap (λ (x : DrawnCommit). Some x) (sym lies))

-- what is known about the commits that are there
told : (t : ℕ) (ds now : List DrawnCommit) (o : Option DrawnCommit) → ds ≡ now → drawn_at t ds ≡ o → o ≡ drawn_at t now
told t ds now o same is = sym is ∙ ap (drawn_at t) same

pub returns-then-commit-timestamp : goal.returns-then-commit-timestamp
returns-then-commit-timestamp c =
    let ds = c.as_slice-commits.result.now in
    let one = c.in-Some.commit.now in
    told c.args.timestamp ds c.args.self.now.commits (Some one) (c.as_slice-commits.ensures.value ∙ ap (λ (v : InFlight). v.commits) c.self.view_is)
    (found-at c.args.timestamp ds one (there c.args.timestamp c.place.result ds one c.place.ensures c.in-Some.ensures.lookup.3.0 c.in-Some.ensures.lookup.1) c.if-commit-timestamp.true)

pub returns-else-commit-timestamp : goal.returns-else-commit-timestamp
returns-else-commit-timestamp c = grind (arith, told, not-found, apart-there, there)

pub returns-in-None : goal.returns-in-None
returns-in-None c = grind (arith, told, not-found, slice_get_within)
