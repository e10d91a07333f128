use Rattle.std.proofs.Common.{◌∙◌, ap, List, ℕ}
use Rattle.base.specs.declared.key.Key.{Key}
use Rattle.base.specs.Keys.{lookup_key}
use Rattle.base.proofs.KeyOrder.{looked-up, sorted-rising}
use Rattle.image_check.proofs.sorting.by_rising_key.Goals as goal

pub returns-clause-rising : goal.returns-clause-rising
returns-clause-rising c = sorted-rising c.in_ok-sorted.sorted.items (rw c.in_ok-sorted.ensures.same c.in_ok-sorted.ensures.ordered)

pub returns-clause-same : goal.returns-clause-same
returns-clause-same c = λ key. ap (λ (rows : List (Key × List ℕ)). lookup_key rows key) c.in_ok-sorted.ensures.same ∙ looked-up c.in_ok-tables.tables.entries key ∙ c.in_ok-tables.ensures key
