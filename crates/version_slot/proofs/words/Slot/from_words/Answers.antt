use Rattle.std.proofs.Common.{◌≡◌, ◌+◌, ◌-◌, ◌*◌, ◌<◌, ◌≤◌, ◌∙◌, ℕ, List, get_or, take, Result, IfOk, sym, length, refl, subst, slice_index, arith}
use Rattle.base.specs.declared.fault.Fault.{Fault}
use Rattle.base.specs.Layout.{used_words}
use Rattle.std.proofs.lemmas.List.{get_or-drop, length-drop, take-take}
use Rattle.base.proofs.Layouts.{few-words, used-hold}
use Rattle.version_slot.specs.Words.{length_in, slot_byte, IsWellFormed}
use Rattle.version_slot.proofs.Decoding.{used_size, used_read, bytes_small, holds}
use Rattle.version_slot.proofs.Forming.{forms}
use Rattle.version_slot.proofs.words.Slot.from_words.Goals as goal

pub returns-then-not-is_well_formed-clause-none : goal.returns-then-not-is_well_formed-clause-none
returns-then-not-is_well_formed-clause-none c = λ slot is.
    let well = c.is_well_formed.ensures.1 (forms c.args.geometry (slice_index c.args.words.now) slot.version is.version) in
    let ill = c.if-not-is_well_formed.true in
    cc

pub returns-clause-some : goal.returns-clause-some
returns-clause-some c =
    let layout = c.args.geometry in
    let words = slice_index c.args.words.now in
    let well : IsWellFormed layout words = c.is_well_formed.ensures.0 (cc) in
    let n : ℕ = length_in words in
    let bytes : List ℕ = c.row_bytes-bytes.result in
    let many : ℕ = 8 * (used_words layout.version n - 4) in
    let used : List ℕ = take many bytes in
    let few : used_words layout.version n ≤ 64 = omega (arith, c.used_words-count.ensures.value, c.used_words-count.ensures.few) in
    let size : length used ≡ many = used_size (used_words layout.version n) few bytes c.row_bytes-bytes.ensures.size in
    let all : (i : ℕ) → i < many → get_or bytes i 0 ≡ slot_byte words i = λ i lt. c.row_bytes-bytes.ensures.bytes i (omega (arith, lt, c.used_words-count.ensures.value)) in
    let read : (i : ℕ) → i < many → get_or used i 0 ≡ slot_byte words i = used_read (used_words layout.version n) few bytes c.row_bytes-bytes.ensures.size words all in
    let front : take n bytes ≡ take n used = sym (take-take n many bytes (used-hold layout.version n well.row)) in
    let row = subst (λ (r : Result (List ℕ) Fault). IfOk r (λ row. row ≡ take n bytes)) c.unwrap.ensures c.new.ensures.ok ∙ front in
    record {
      begin = refl;
      end = refl;
      version = holds layout words used n size read _ (λ w. c.fits-words w) (bytes_small words used many size read) refl well.row
          (λ i lt.
          let within : n + i < many = omega (arith, lt, size, length-drop {A = ℕ} n used) in
          get_or-drop n used i 0 ∙ read (n + i) within ∙ well.padding (n + i) (omega arith) within)
          refl refl row c.previous_of.ensures well.link;
    }

pub is_well_formed-requires : goal.is_well_formed-requires
is_well_formed-requires c = omega (arith, few-words c.args.geometry.version, c.told-words)
