use Rattle.std.proofs.Common.{◌≡◌, ◌≢◌, ℕ, Bool, cond, not, List, [], nat_eq, sym, ◌∙◌, ap, subst, arith}
use Rattle.std.proofs.lemmas.Bool.{eq-eqb, ne_eqb}
use Rattle.base.specs.Actors.{committer}
use Rattle.base.specs.Images.{layout_of}
use Rattle.base.specs.Layout.{Layout, opened_layout, opened_version}
use Rattle.pmem.specs.Persisting.{set_operations}
use Rattle.pmem.specs.Trace.{Operation, Runs}
use Rattle.pmem.specs.Words.{image_of}
use Rattle.pmem.proofs.Traces.{runs_none}
use Rattle.recovery.proofs.openings.Updates.{opened-size}
use Rattle.recovery.proofs.updating.update.Goals as goal

-- what is done if the image has this layout
abbrev update_by : Layout → Bool → List Operation
update_by found b = cond b (set_operations committer 1 (opened_version found.version)) []

abbrev updates_from : Layout → Bool
updates_from found = not (nat_eq found.version (opened_version found.version))

module _ (found layout today : Layout) (x y : ℕ) (laid_out : found ≡ layout) (is : today ≡ opened_layout layout) (x-is : x ≡ today.version) (y-is : y ≡ layout.version) where
  today-version : today.version ≡ opened_version found.version
  today-version = ap (λ (l : Layout). l.version) (is ∙ ap opened_layout (sym laid_out))

  -- nothing is done if the image has that version
  none-done : x ≡ y → update_by found (updates_from found) ≡ []
  none-done same = grind (arith, today-version, eq-eqb)

  -- else its word is set
  set-done : x ≢ y → update_by found (updates_from found) ≡ set_operations committer 1 today.version
  set-done differ = grind (arith, today-version, ne_eqb)

pub returns-then-version-clause-run : goal.returns-then-version-clause-run
returns-then-version-clause-run g c =
    let old = g.D.Pmem.state c.args.device.now in
    subst (λ (ops : List Operation). Runs ops old old)
    (sym (none-done (layout_of (image_of old)) c.args.geometry c.opened-today.result c.version.result c.version-2.result c.requires.laid_out c.opened-today.ensures c.version.ensures.value c.version-2.ensures.value c.if-version.true))
    (runs_none old (g.met.D.Pmem.orderly c.args.device.now))

pub update_version-requires : goal.update_version-requires
update_version-requires g c = opened-size (g.D.Pmem.state c.args.device.now) c.requires.opens

pub returns-in-Err-clause-stopped : goal.returns-in-Err-clause-stopped
returns-in-Err-clause-stopped g c = grind (arith, set-done)
