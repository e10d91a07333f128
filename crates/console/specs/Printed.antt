-- What a subcommand that ends well prints.
use Rattle.std.specs.Prelude.{ℕ, List, [], ◌∷◌, ◌++◌, codes, decimal, Option}
use Rattle.std.specs.Io.KnownBytes.{Appends}
use Rattle.base.specs.Layout.{total_words}
use Rattle.command_line.specs.Words.{asked_layout}
use Rattle.command_line.specs.declared.orders.Order.{Order}
use Rattle.command_line.specs.declared.orders.Order.TheVariants.{Format, Run, Check, Threads, Lives as LivesOf}
use Rattle.console.specs.Lives.{Lives}
use Rattle.console.specs.Threads.{PrintsThreads}

-- What a subcommand that ends well prints.
-- Excluded: lines that another subcommand than `run` swallows.
abbrev pub Prints : Order → List ℕ → Option (List ℕ) → Option (List ℕ) → Option (List ℕ) → List ℕ → Type 0
Prints (Format name width slots places window) before input old new after =
    Appends old new ((codes "formatted " ++ (decimal (total_words (asked_layout width slots places window)) ++ codes " words")) ++ 10 ∷ [])
Prints (Run name) before input old new after = Lives before input old new after
Prints (Check name) before input old new after = ⊥
Prints (Threads name sessions commits) before input old new after = PrintsThreads sessions commits before old new after
Prints (LivesOf name) before input old new after = ⊥
