use Rattle.std.proofs.Common.{◌≡◌, ◌⊎◌, ◌∙◌, inl, inr, ℕ, List, length, refl, ap, subst, arith}
use Rattle.journal.specs.Files.{FoundEither, IsStoodFor}
use Rattle.journal.proofs.Within.{may_be_same}
use Rattle.journal.proofs.journaled.JournaledImagesImages.begin.Goals as goal

pub begin_words-requires-clause-differs : goal.begin_words-requires-clause-differs
begin_words-requires-clause-differs g c = grind (arith)

pub returns-in_err-complete-clause-whole : goal.returns-in_err-complete-clause-whole
returns-in_err-complete-clause-whole g c image may =
    let old = c.args.self.now in
    let new = c.complete.new.self in
    inl (may_be_same (g.S.Storage.may_hold old.storage) (g.S.Storage.may_hold new.storage) old.room new.room old.written.value.items new.written.value.items image c.complete.ensures.found c.complete.ensures.room c.complete.ensures.written may)

pub returns-in_err-complete-clause-still : goal.returns-in_err-complete-clause-still
returns-in_err-complete-clause-still g c refuses image =
    let old = c.args.self.now in
    let new = c.complete.new.self in (
      λ may. may_be_same (g.S.Storage.may_hold old.storage) (g.S.Storage.may_hold new.storage) old.room new.room old.written.value.items new.written.value.items image c.complete.ensures.found c.complete.ensures.room c.complete.ensures.written may,
      λ shown. shown ∙ c.complete.ensures.written,
    )

pub invariant_of-self-in-Err-clause-whole : goal.invariant_of-self-in-Err-clause-whole
invariant_of-self-in-Err-clause-whole g c = c.complete.new.self.whole

-- the image that was written last, or one that is found
either : (may_hold : ℕ → ℕ → Type 0) (room : ℕ) (durable words image : List ℕ) → length words ≡ length durable → FoundEither may_hold (length durable) room durable words → IsStoodFor may_hold (length words) room image → (image ≡ durable) ⊎ (image ≡ words)
either may_hold room durable words image same finds stood =
    let stood' : IsStoodFor may_hold (length durable) room image = subst (λ (n : ℕ). IsStoodFor may_hold n room image) same stood in
    finds stood'.file image stood'.found stood'.opens

pub returns-in-Ok-clause-whole : goal.returns-in-Ok-clause-whole
returns-in-Ok-clause-whole g c image may =
    let is : c.of.result.value.items ≡ c.args.words.now.items = ap (λ v. v.items) c.of.ensures in
    let durable = c.complete.new.self.written.value.items in
    let size = (c.requires.differs c.args.self.now.written.value.items refl).size in
    let same_size : length c.args.words.now.items ≡ length durable = omega (arith, size, ap (λ (l : List ℕ). length l) c.complete.ensures.written) in
    elim may [
      | inl same ↦ inr (same ∙ is)
      | inr stood ↦ elim (either (g.S.Storage.may_hold c.begin_words.new.storage) c.complete.new.self.room durable c.args.words.now.items image same_size (rw c.as_slice.ensures.value at c.begin_words.ensures.either) (rw is at stood)) [
        | inl old ↦ inl (inl (old ∙ c.complete.ensures.written))
        | inr new ↦ inr new
      ]
    ]

pub returns-in-Err-clause-whole : goal.returns-in-Err-clause-whole
returns-in-Err-clause-whole g c image may = elim may [
  | inl same ↦ inl (inl (same ∙ c.complete.ensures.written))
  | inr stood ↦ elim ((rw c.as_slice.ensures.value at c.begin_words.ensures.either) stood.file image stood.found stood.opens) [
    | inl old ↦ inl (inl (old ∙ c.complete.ensures.written))
    | inr new ↦ inr new
  ]
]
