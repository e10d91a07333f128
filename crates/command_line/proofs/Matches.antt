-- What is read of clap's matches is what they give, and if nothing is read, they give nothing.
use Rattle.std.proofs.Common.{◌≡◌, ◌≢◌, Bool, true, false, List, Option, Some, None, Result, Ok, Err, refl, ap, subst, ◌∙◌, codes, option_map, arith, Bor}
use Rattle.std.specs.Prelude.{IfNone, IfSome, IsOk, IsTrue, is_err, ◌↔◌, unwrap_or, if◌then◌else◌}
use Rattle.std.specs.Str.Parse.{ParsesBool}
use Rattle.base.specs.Layout.{Layout}
use Rattle.clap.proofs.WalkLemmas.{first_value-rows, one_text-rows}
use Rattle.clap.specs.Words.{ReadsOne, Row, first_of, first_value, one_text, rows_of}
use Rattle.clap.specs.declared.parser.matches.Found.{Found}
use Rattle.command_line.specs.Numbers.{Text}
use Rattle.command_line.specs.Words.{HasFlag, HasWidth}
use Rattle.command_line.specs.declared.orders.Width.{Width}
use Rattle.command_line.specs.declared.orders.Width.TheVariants.{Plain, Wide, Lines}

-- ---- an option without a value

module _ {E : Type 0} (gives : Text → Result Bool E → Type 0) (parses : (text : Text) (r : Result Bool E) → gives text r → ParsesBool text r) where
  flag-read : (o : Option Text) (got : Option Bool) → (o ≡ None → got ≡ None) → ((text : Text) → o ≡ Some text → ReadsOne gives text got)
      → IfSome got (λ given. o ≡ Some (if given then codes "true" else codes "false"))
  flag-read o None none value = tt
  flag-read None (Some given) none value = cc (none refl)
  flag-read (Some text) (Some true) none value = ap Some (parses text (Ok true) (value text refl))
  flag-read (Some text) (Some false) none value = ap Some (parses text (Ok false) (value text refl))

  no-flag-read : (o : Option Text) (got : Option Bool) → (o ≡ None → got ≡ None) → ((text : Text) → o ≡ Some text → ReadsOne gives text got)
      → IfNone got ((given : Bool) → o ≡ Some (if given then codes "true" else codes "false") → ⊥)
  no-flag-read o (Some given) none value = tt
  no-flag-read None None none value = λ given is. cc is
  no-flag-read (Some text) None none value = refuted (parses text (Err (value text refl).0) (value text refl).1)
    where
      refuted : (text ≢ codes "true") × (text ≢ codes "false") → (given : Bool) → Some text ≡ Some (if given then codes "true" else codes "false") → ⊥
      refuted not true is = not.0 (ap (λ (o : Option Text). unwrap_or o text) is)
      refuted not false is = not.1 (ap (λ (o : Option Text). unwrap_or o text) is)

  module _ (f : Found) (id : Text) (got : Option Bool) (none : one_text f id ≡ None → got ≡ None)
      (value : (text : Text) → one_text f id ≡ Some text → ReadsOne gives text got) where
    pub flag-found : IfSome got (HasFlag (rows_of f) id)
    flag-found = subst (λ (o : Option Text). IfSome got (λ given. o ≡ Some (if given then codes "true" else codes "false"))) (one_text-rows f id)
        (flag-read (one_text f id) got none value)

    pub no-flag-found : IfNone got ((given : Bool) → HasFlag (rows_of f) id given → ⊥)
    no-flag-found =
        subst (λ (o : Option Text). IfNone got ((given : Bool) → o ≡ Some (if given then codes "true" else codes "false") → ⊥)) (one_text-rows f id)
        (no-flag-read (one_text f id) got none value)

-- if it isn't known whether wide slots are asked for, no width is
pub no_width : (found : List Row) → ((given : Bool) → HasFlag found (codes "wide") given → ⊥) → (width : Width) → HasWidth found width → ⊥
no_width found none Plain has = none false has.0
no_width found none Wide has = none true has.0
no_width found none (Lines lines) has = none false has.0

-- ---- a text

-- the text that is read, in clap's rows
pub text-found : (f : Found) (id : Text) (got : Option (Bor Text)) → option_map (λ s. s.now) got ≡ first_value f id → option_map (λ s. s.now) got ≡ first_of id (rows_of f)
text-found f id got is = is ∙ first_value-rows f id

-- ---- the limits of a layout

-- a layout that isn't refused is in its limits
pub in-limits : {E : Type 0} (made : Result Layout E) (limits : Bool) → IsOk made ↔ IsTrue limits → is_err made ≡ false → limits ≡ true
in-limits made limits same ok = grind (arith)
