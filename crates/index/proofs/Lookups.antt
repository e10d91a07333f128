-- What is found of a key.
use Rattle.std.proofs.Common.{◌≡◌, ℕ, Bool, List, ap, arith}
use Rattle.std.specs.Prelude.{Some, None}
use Rattle.base.specs.declared.key.Key.{Key}
use Rattle.base.specs.Commits.{Tables}
use Rattle.base.specs.Layout.{Layout}
use Rattle.base.specs.Images.{Image}
use Rattle.snapshot.specs.Snapshots.{Seen}
use Rattle.index.specs.Reading.{CountsAs, HasSeen, ShowsTables}

module _ (counts : ℕ → Bool) (snapshot : Seen) (a : Layout) (image : Image) (tables : Tables) (agree : CountsAs counts snapshot a image) (shows : ShowsTables counts a image tables) where
  -- a seen row is the tables'
  pub seen-row : (slot : ℕ) (key : Key) (row : List ℕ) → HasSeen counts image slot key row → tables key ≡ Some row
  seen-row slot key row seen = (shows.rows key row).0 (slot, seen.within, seen.live, seen.at, seen.is)

  -- and each of the tables' rows is seen
  pub row-seen : (key : Key) (row : List ℕ) → tables key ≡ Some row → (slot : ℕ) × HasSeen counts image slot key row
  row-seen key row is =
      let shown = (shows.rows key row).1 is in
      (shown.0, record { within = shown.1; live = shown.2; fits = shows.fits shown.0 (omega (arith, shown.1, ap (λ (l : Layout). l.slots) agree.laid_out)) shown.2; at = shown.3; is = shown.4 })

  pub none-seen : (key : Key) → ((slot : ℕ) (row : List ℕ) → HasSeen counts image slot key row → ⊥) → tables key ≡ None
  none-seen key none = grind (arith, row-seen) steps 800000
