use Rattle.std.proofs.Common.{◌≡◌, ◌∙◌, ◌+◌, List, [], ◌∷◌, ◌++◌, take, sym, ap, subst, add-one}
use Rattle.std.proofs.Math.Seq.{take-suc}
use Rattle.std.proofs.lemmas.List.{take_all}
use Rattle.base.specs.Images.{Image}
use Rattle.base.specs.Stands.{Stands}
use Rattle.pmem.specs.Words.{image_of}
use Rattle.pmem_model.specs.Sim.{device_of}
use Rattle.lives.specs.declared.life.Life.{Life}
use Rattle.lives.specs.declared.life.LifeReport.{LifeReport}
use Rattle.lives.specs.Chains.{AreLives}
use Rattle.lives.proofs.Chains.{Chain, chain-none, chain-more, are-lives}
use Rattle.lives.proofs.running.run_lives.Goals as goal

pub loop-life-init : goal.loop-life-init
loop-life-init g c = (
  subst (λ (r : List LifeReport). Chain c.args.geometry [] r (image_of (device_of c.in_ok-device.device))) (sym c.new-reports.ensures.items)
      (chain-none c.args.geometry (image_of (device_of c.in_ok-device.device)) c.in_ok-device.ensures.image),
  c.in_ok-device.ensures.rests,
  subst (λ (i : Image). Stands i [] [] 1) c.in_ok-device.ensures.image c.in_ok-device.ensures.empty,
)

pub loop-life-preserved : goal.loop-life-preserved
loop-life-preserved g c =
    let lives = c.args.lives.now in
    let i = c.loop-life.life-index in
    let life = c.life-item.result in
    let image = image_of (device_of c.in_ok-report.left) in
    let before = c.loop-life.invariant in
    let lived : take (i + 1) lives ≡ take i lives ++ life ∷ [] =
    ap (λ n. take n lives) (add-one i) ∙ take-suc lives i life c.loop-life-test.true ∙ ap (λ (l : Life). take i lives ++ l ∷ []) (sym c.life-item.is) in (
      subst (λ (l : List Life). Chain c.args.geometry l c.push.new.self.items image) (sym lived)
          (subst (λ (r : List LifeReport). Chain c.args.geometry (take i lives ++ life ∷ []) r image) (sym c.in-Ok.ensures.items)
          (chain-more c.args.geometry (take i lives) c.loop-life.reports.items (image_of (device_of c.loop-life.device)) image life c.in_ok-report.report before.2 before.0 c.in_ok-report.ensures.ok)),
      c.in_ok-report.ensures.rests,
      before.2,
    )

pub returns-clause-ok : goal.returns-clause-ok
returns-clause-ok g c =
    subst (λ (l : List Life). AreLives c.args.geometry l c.loop-life.reports.items) (take_all c.loop-life.life-index c.args.lives.now c.loop-life-test.false)
    (are-lives c.args.geometry (take c.loop-life.life-index c.args.lives.now) c.loop-life.reports.items (image_of (device_of c.loop-life.device)) c.loop-life.invariant.2 c.loop-life.invariant.0)
