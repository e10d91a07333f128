-- What a check prints.
use Rattle.std.proofs.Common.{◌≡◌, ℕ, List, [], ◌∷◌, ◌++◌, length, true, ◌∙◌, subst}
use Rattle.std.specs.Prelude.{Option}
use Rattle.std.specs.Io.KnownBytes.{Appends}
use Rattle.base.specs.declared.gap.Gap.{Gap}
use Rattle.base.specs.declared.key.Key.{Key}
use Rattle.base.specs.Images.{Image, ruling}
use Rattle.image_check.specs.Checked.{Reports}
use Rattle.command_line.specs.ImageFile.{HoldsWords, is_image_length}
use Rattle.command_line.specs.Numbers.{Text}
use Rattle.command_line.specs.Texts.{sound_line, entries_text, end_line}
use Rattle.console.specs.Checked.{PrintsChecked, checked_text}
use Rattle.console.proofs.Obeyed.{appends-more}

module _ (file words : List ℕ) (old first second new : Option Text) (gate persisted dirty : ℕ) (gaps shown : List Gap) (longs told : List ℕ) (rows listed : List (Key × List ℕ)) (count : ℕ) where
  of-words : Reports words gate persisted dirty gaps longs rows → is_image_length (length file) ≡ true → HoldsWords file words → shown ≡ gaps → told ≡ longs → listed ≡ rows → count ≡ length rows
      → Appends old first (sound_line gate persisted dirty shown told ++ 10 ∷ []) → Appends first second (entries_text listed) → Appends second new (end_line count ++ 10 ∷ [])
      → PrintsChecked file old new
  of-words reports size holds same-gaps same-longs same-rows counted sound entries end = record {
    size = size;
    image = words;
    holds = holds;
    sound = reports.sound;
    rows = rows;
    lists = reports.lists;
    prints = subst (Appends old new) text
        (appends-more old second new ((sound_line gate persisted dirty shown told ++ 10 ∷ []) ++ entries_text listed) (end_line count ++ 10 ∷ [])
        (appends-more old first second (sound_line gate persisted dirty shown told ++ 10 ∷ []) (entries_text listed) sound entries) end);
  }
    where
      text : ((sound_line gate persisted dirty shown told ++ 10 ∷ []) ++ entries_text listed) ++ (end_line count ++ 10 ∷ []) ≡ checked_text (ruling words) rows
      text = λ i.
          ((sound_line (reports.gate_is i) (reports.persisted_is i) (reports.dirty_is i) ((same-gaps ∙ reports.gaps_are) i) ((same-longs ∙ reports.longs_are) i) ++ 10 ∷ []) ++ entries_text (same-rows i))
          ++ (end_line (counted i) ++ 10 ∷ [])

  pub prints-so : (slice : Image) → slice ≡ words → Reports slice gate persisted dirty gaps longs rows → is_image_length (length file) ≡ true → HoldsWords file words → shown ≡ gaps → told ≡ longs → listed ≡ rows → count ≡ length rows
      → Appends old first (sound_line gate persisted dirty shown told ++ 10 ∷ []) → Appends first second (entries_text listed) → Appends second new (end_line count ++ 10 ∷ [])
      → PrintsChecked file old new
  prints-so slice same reports = of-words (subst (λ (i : Image). Reports i gate persisted dirty gaps longs rows) same reports)
