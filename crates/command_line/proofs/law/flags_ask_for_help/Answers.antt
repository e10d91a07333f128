use Rattle.std.proofs.Common.{◌≡◌, [], ◌∷◌, codes, subst, refl, inl, inr}
use Rattle.clap.proofs.OnLiterals.{clap_on_literals}
use Rattle.clap.specs.Words.{IsAmong, Kinds, fault_of}
use Rattle.clap.specs.declared.error.kind.ErrorKind.TheVariants as kind
use Rattle.clap.specs.declared.error.kind.ErrorKind.TheVariants.{DisplayHelp}
use Rattle.command_line.specs.Help.{GetsHelp, wbl}
use Rattle.command_line.proofs.law.flags_ask_for_help.Goals as goal

is-short : GetsHelp (codes "-h" ∷ [])
unfolding clap_on_literals
is-short = refl

is-long : GetsHelp (codes "--help" ∷ [])
unfolding clap_on_literals
is-long = refl

is-below : GetsHelp (codes "format" ∷ codes "--help" ∷ [])
unfolding clap_on_literals
is-below = refl

is-bare : fault_of wbl [] ≡ kind.MissingSubcommand ∷ []
unfolding clap_on_literals
is-bare = refl

is-stray : fault_of wbl (codes "frob" ∷ []) ≡ kind.UnknownArgument ∷ kind.InvalidSubcommand ∷ []
unfolding clap_on_literals
is-stray = refl

not-bare : IsAmong DisplayHelp (kind.MissingSubcommand ∷ []) → ⊥
not-bare (inl e) = cc e
not-bare (inr none) = none

not-stray : IsAmong DisplayHelp (kind.UnknownArgument ∷ kind.InvalidSubcommand ∷ []) → ⊥
not-stray (inl e) = cc e
not-stray (inr (inl e)) = cc e
not-stray (inr (inr none)) = none

pub returns : goal.returns
returns c = record {
  short = is-short;
  long = is-long;
  of_a_subcommand = is-below;
  no_words = λ may. not-bare (subst (λ (kinds : Kinds). IsAmong DisplayHelp kinds) is-bare may);
  no_subcommand = λ may. not-stray (subst (λ (kinds : Kinds). IsAmong DisplayHelp kinds) is-stray may);
}
