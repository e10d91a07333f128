use Rattle.std.proofs.Common.{refl, rules, sym, ◌∙◌}
use Rattle.command_line.proofs.Matches.{in-limits}
use Rattle.command_line.proofs.found.found_format.Goals as goal

pub returns-clause-gives : goal.returns-clause-gives
returns-clause-gives c = (
  refl,
  record {
    file_named = search rules;
    width_asked = search rules;
    slots_given = sym c.found_number.ensures ∙ (search rules);
    places_given = sym c.found_number-2.ensures ∙ (search rules);
    window_given = sym c.found_number-3.ensures ∙ (search rules);
    limits = in-limits c.asked_geometry.result _ c.asked_geometry.ensures.limits (sym c.is_err.ensures.value ∙ c.if-is_err.false);
  },
)
