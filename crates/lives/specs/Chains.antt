-- What the reports of lives say.
use Rattle.std.specs.Prelude.{List, [], map, flat_map, IsTrue, All}
use Rattle.base.specs.Fresh.{fresh_image}
use Rattle.base.specs.Layout.{Layout}
use Rattle.base.specs.Stands.{has_timestamp}
use Rattle.machine.specs.Lives.{World, IsWorld, Asked, Report, Lives}
use Rattle.machine.specs.Laws.{LivesAdd, RiseBetween, StayOut, acknowledged_in, drawn_over}
use Rattle.lives.specs.declared.life.Life.{Life}
use Rattle.lives.specs.declared.life.LifeReport.{LifeReport}
use Rattle.lives.specs.Plain.{asked_of}
use Rattle.lives.specs.Stops.{AreStopped}

-- a fresh image, before anything was drawn
abbrev pub fresh_world : Layout → World
fresh_world layout = record { image = fresh_image layout; history = []; drawn = []; next = 1; lost = [] }

-- What holds of such lives from a fresh image on, wherever each was stopped. The image that the last one left stands for a
-- history, to which each life added a beginning of what it drew, in log order and as it was written. It has every commit that
-- was acknowledged, none that a stop has left out, and no timestamp was drawn twice
pub record Keeps (layout : Layout) (asked : List Asked) (reports : List Report) (last : World) : Type 0 where
  pub stands : IsWorld last
  pub adds : LivesAdd (fresh_world layout) asked reports last
  pub acknowledged : All (λ t. IsTrue (has_timestamp last.history t)) (flat_map acknowledged_in reports)
  pub left_out : StayOut last
  pub once : RiseBetween 1 (drawn_over reports) last.next

-- The reports are those of a chain of lives, asked as these, from a fresh image of the layout on; each was stopped within its fuse, and
-- left what its choice names.
-- Excluded: a life that opens the image before the last one; replies after a failing device; closing that was asked for and isn't reported.
pub record AreLives (layout : Layout) (lives : List Life) (reports : List LifeReport) : Type 0 where
  pub last : World
  pub plain : List Report  -- the same reports, with each reply
  pub chain : Lives (fresh_world layout) (map asked_of lives) plain last
  pub stopped : AreStopped (fresh_world layout) lives reports plain last
  pub keeps : Keeps layout (map asked_of lives) plain last
