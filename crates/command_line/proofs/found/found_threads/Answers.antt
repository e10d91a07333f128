use Rattle.std.proofs.Common.{refl, rules, arith, sym, ◌∙◌}
use Rattle.command_line.proofs.found.found_threads.Goals as goal

pub returns-clause-gives : goal.returns-clause-gives
returns-clause-gives c = (
  refl,
  record {
    file_named = search rules;
    sessions_given = sym c.found_number.ensures ∙ (search rules);
    commits_given = sym c.found_number-2.ensures ∙ (search rules);
    sessions_limits = (omega arith, omega arith);
    commits_limits = (omega arith, omega arith);
  },
)
