use Rattle.std.proofs.Common.{◌≡◌, ◌+◌, ◌-◌, ◌*◌, ◌<◌, ◌∙◌, ℕ, List, get_or, take, sym, length, refl, slice_index, arith}
use Rattle.base.specs.Layout.{used_words}
use Rattle.std.proofs.lemmas.List.{get_or-drop, get_or-take, length-drop, length-take-le, take-take}
use Rattle.base.proofs.Layouts.{few-words, row-fills, used-hold}
use Rattle.version_slot.specs.Words.{length_in, slot_byte, IsWellFormed}
use Rattle.version_slot.proofs.Decoding.{bytes_small, holds}
use Rattle.version_slot.proofs.words.Slot.take.Goals as goal

pub slice_bounds-assign-end : goal.slice_bounds-assign-end
slice_bounds-assign-end c =
    let n : ℕ = length_in (slice_index c.args.words.now) in
    sym (length-take-le n c.args.bytes.now (omega (arith, c.requires.many, used-hold c.args.geometry.version n c.requires.well.row)))

pub assign-requires : goal.assign-requires
assign-requires c =
    let n : ℕ = length_in (slice_index c.args.words.now) in
    let size = length-take-le n c.args.bytes.now (omega (arith, c.requires.many, used-hold c.args.geometry.version n c.requires.well.row)) in
    omega (arith, size, c.requires.well.row, row-fills c.args.geometry.version, few-words c.args.geometry.version)

pub returns : goal.returns
returns c =
    let layout = c.args.geometry in
    let words = slice_index c.args.words.now in
    let well : IsWellFormed layout words = c.requires.well in
    let n : ℕ = length_in words in
    let bytes : List ℕ = c.args.bytes.now in
    let many : ℕ = 8 * (used_words layout.version n - 4) in
    let used : List ℕ = take many bytes in
    let size : length used ≡ many = length-take-le many bytes c.requires.many in
    let read : (i : ℕ) → i < many → get_or used i 0 ≡ slot_byte words i = λ i lt. get_or-take many bytes i 0 lt ∙ c.requires.bytes i lt in
    let front : take n bytes ≡ take n used = sym (take-take n many bytes (used-hold layout.version n well.row)) in
    record {
      begin = refl;
      end = refl;
      version = holds layout words used n size read _ (λ w. omega (arith, c.type_inv.words w)) (bytes_small words used many size read) refl well.row
          (λ i lt.
          let within : n + i < many = omega (arith, lt, size, length-drop {A = ℕ} n used) in
          get_or-drop n used i 0 ∙ read (n + i) within ∙ well.padding (n + i) (omega arith) within)
          refl refl (c.assign.ensures ∙ front) c.previous_of-self.ensures well.link;
    }
