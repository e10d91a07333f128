use Rattle.std.proofs.Common.{◌≡◌, ◌∙◌, Option, [], ◌∷◌, true, false, Some, ℕ, ap, arith, codes, refl, sym, subst, List, Bor}
use Rattle.std.specs.Prelude.{unwrap_or}
use Rattle.base.specs.Layout.{is_in_limits, is_known_version, most_slots}
use Rattle.clap.proofs.OnLiterals.{clap_on_literals}
use Rattle.clap.specs.Words.{Kinds, fault_of}
use Rattle.clap.specs.declared.error.kind.ErrorKind.TheVariants as kind
use Rattle.command_line.specs.Help.{wbl}
use Rattle.command_line.specs.Numbers.{Text}
use Rattle.command_line.specs.Words.{Gives, GivesNothing, asked_layout, is_file_name}
use Rattle.command_line.specs.declared.orders.Order.TheVariants.{Format, Run, Check, Lives, Threads}
use Rattle.command_line.specs.declared.orders.Width.{Width}
use Rattle.command_line.specs.declared.orders.Width.TheVariants.{Plain, Wide, Lines}
use Rattle.command_line.proofs.law.words_give_orders.Goals as goal

-- words that clap refuses give no order
refused : (words : List Text) (is : Kinds) → fault_of wbl words ≡ is → (is ≡ [] → ⊥) → GivesNothing words
refused words is same some order gives = some (subst (λ (kinds : Kinds). kinds ≡ []) same gives.0)

plain : (a : Bor Text) → codes "a" ≡ a.now → is_file_name a.now ≡ true
plain a is = sym (ap is_file_name is)

is-run : (a : Bor Text) → codes "a" ≡ a.now → Gives (codes "run" ∷ codes "a" ∷ []) (Run a)
unfolding clap_on_literals
is-run a is = (refl, (refl, (ap Some is, plain a is)))

is-default : (a : Bor Text) → codes "a" ≡ a.now → Gives (codes "format" ∷ codes "a" ∷ []) (Format a Plain 1024 4 64)
unfolding clap_on_literals is_known_version most_slots
is-default a is = (
  refl,
  (
    refl,
    record {
      file_named = (ap Some is, plain a is);
      width_asked = (refl, refl);
      slots_given = refl;
      places_given = refl;
      window_given = refl;
      limits = refl;
    },
  ),
)

is-options : (a : Bor Text) → codes "a" ≡ a.now
    → Gives (codes "format" ∷ codes "--slots" ∷ codes "8" ∷ codes "a" ∷ codes "--places=2" ∷ codes "--wide" ∷ []) (Format a Wide 8 2 64)
unfolding clap_on_literals is_known_version most_slots
is-options a is = (
  refl,
  (
    refl,
    record {
      file_named = (ap Some is, plain a is);
      width_asked = (refl, refl);
      slots_given = refl;
      places_given = refl;
      window_given = refl;
      limits = refl;
    },
  ),
)

is-large : (a : Bor Text) → codes "a" ≡ a.now
    → Gives (codes "format" ∷ codes "a" ∷ codes "--lines" ∷ codes "2" ∷ codes "--slots=65537" ∷ []) (Format a (Lines 2) 65537 4 64)
unfolding clap_on_literals is_known_version most_slots
is-large a is = (
  refl,
  (
    refl,
    record {
      file_named = (ap Some is, plain a is);
      width_asked = (refl, refl);
      slots_given = refl;
      places_given = refl;
      window_given = refl;
      limits = refl;
    },
  ),
)

is-threads : (a : Bor Text) → codes "a" ≡ a.now → Gives (codes "threads" ∷ codes "a" ∷ codes "--commits" ∷ codes "3" ∷ []) (Threads a 4 3)
unfolding clap_on_literals
is-threads a is = (
  refl,
  (
    refl,
    record {
      file_named = (ap Some is, plain a is);
      sessions_given = refl;
      commits_given = refl;
      sessions_limits = (omega arith, omega arith);
      commits_limits = (omega arith, omega arith);
    },
  ),
)

bare-fault : fault_of wbl (codes "run" ∷ []) ≡ kind.MissingRequiredArgument ∷ []
unfolding clap_on_literals
bare-fault = refl

second-fault : fault_of wbl (codes "run" ∷ codes "a" ∷ codes "b" ∷ []) ≡ kind.UnknownArgument ∷ []
unfolding clap_on_literals
second-fault = refl

twice-fault : fault_of wbl (codes "format" ∷ codes "a" ∷ codes "--slots" ∷ codes "8" ∷ codes "--slots" ∷ codes "9" ∷ []) ≡ kind.ArgumentConflict ∷ []
unfolding clap_on_literals
twice-fault = refl

other-fault : fault_of wbl (codes "threads" ∷ codes "a" ∷ codes "--slots" ∷ codes "8" ∷ []) ≡ kind.UnknownArgument ∷ []
unfolding clap_on_literals
other-fault = refl

number-fault : fault_of wbl (codes "format" ∷ codes "a" ∷ codes "--slots" ∷ codes "8x" ∷ []) ≡ kind.ValueValidation ∷ []
unfolding clap_on_literals
number-fault = refl

limits-fault : fault_of wbl (codes "format" ∷ codes "a" ∷ codes "--slots" ∷ codes "0" ∷ []) ≡ kind.ValueValidation ∷ []
unfolding clap_on_literals
limits-fault = refl

plus-sign : GivesNothing (codes "format" ∷ codes "a" ∷ codes "--slots" ∷ codes "+8" ∷ [])
unfolding clap_on_literals
plus-sign (Format name width slots places window) (none, (is, finds)) = cc finds.slots_given
plus-sign (Run name) (none, (is, finds)) = cc is
plus-sign (Check name) (none, (is, finds)) = cc is
plus-sign (Lives name) (none, (is, finds)) = cc is
plus-sign (Threads name sessions commits) (none, (is, finds)) = cc is

wide-and-lines : GivesNothing (codes "format" ∷ codes "a" ∷ codes "--wide" ∷ codes "--lines" ∷ codes "2" ∷ [])
unfolding clap_on_literals
wide-and-lines (Format name Plain slots places window) (none, (is, finds)) = cc finds.width_asked.0
wide-and-lines (Format name Wide slots places window) (none, (is, finds)) = cc finds.width_asked.1
wide-and-lines (Format name (Lines lines) slots places window) (none, (is, finds)) = cc finds.width_asked.0
wide-and-lines (Run name) (none, (is, finds)) = cc is
wide-and-lines (Check name) (none, (is, finds)) = cc is
wide-and-lines (Lives name) (none, (is, finds)) = cc is
wide-and-lines (Threads name sessions commits) (none, (is, finds)) = cc is

wide-and-large : GivesNothing (codes "format" ∷ codes "a" ∷ codes "--wide" ∷ codes "--slots" ∷ codes "65537" ∷ [])
unfolding clap_on_literals is_known_version most_slots
wide-and-large (Format name Plain slots places window) (none, (is, finds)) = cc finds.width_asked.0
wide-and-large (Format name Wide slots places window) (none, (is, finds)) = beyond slots (cc finds.slots_given) finds.limits
  where
    beyond : (slots : ℕ) → slots ≡ 65537 → is_in_limits (asked_layout Wide slots places window) ≡ true → ⊥
    beyond slots many limits = cc (ap (λ (n : ℕ). is_in_limits (asked_layout Wide n places window)) (sym many) ∙ limits)
wide-and-large (Format name (Lines lines) slots places window) (none, (is, finds)) = cc finds.width_asked.0
wide-and-large (Run name) (none, (is, finds)) = cc is
wide-and-large (Check name) (none, (is, finds)) = cc is
wide-and-large (Lives name) (none, (is, finds)) = cc is
wide-and-large (Threads name sessions commits) (none, (is, finds)) = cc is

minus : GivesNothing (codes "run" ∷ codes "-" ∷ [])
unfolding clap_on_literals
minus (Run name) (none, (is, finds)) = named (sym (ap (λ (o : Option Text). unwrap_or o name.now) finds.0)) finds.1
  where
    named : name.now ≡ codes "-" → is_file_name name.now ≡ true → ⊥
    named same plain = cc (sym (ap is_file_name same) ∙ plain)
minus (Format name width slots places window) (none, (is, finds)) = cc is
minus (Check name) (none, (is, finds)) = cc is
minus (Lives name) (none, (is, finds)) = cc is
minus (Threads name sessions commits) (none, (is, finds)) = cc is

pub returns : goal.returns
returns c = record {
  run = λ a is. is-run a (sym is);
  defaults = λ a is. is-default a (sym is);
  options = λ a is. is-options a (sym is);
  large = λ a is. is-large a (sym is);
  threads = λ a is. is-threads a (sym is);
  no_file = refused _ _ bare-fault (λ e. cc e);
  second_file = refused _ _ second-fault (λ e. cc e);
  second_value = refused _ _ twice-fault (λ e. cc e);
  other_option = refused _ _ other-fault (λ e. cc e);
  no_number = refused _ _ number-fault (λ e. cc e);
  out_of_limits = refused _ _ limits-fault (λ e. cc e);
  wide_and_lines = wide-and-lines;
  wide_and_large = wide-and-large;
  plus_sign = plus-sign;
  minus = minus;
}
