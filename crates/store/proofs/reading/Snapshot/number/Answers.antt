use Rattle.std.proofs.Common.{◌≡◌, ℕ, List, Some, None, Ok, inl, refl, subst, rules}
use Rattle.std.specs.Prelude.{Option, Result}
use Rattle.base.specs.declared.key.Key.{Key}
use Rattle.base.specs.declared.step.Step.TheVariants.{Get}
use Rattle.database.specs.Replies.{row_of}
use Rattle.database.specs.Obeys.{AnswersStep}
use Rattle.store.specs.declared.error.StoreError.{StoreError}
use Rattle.store.specs.Answers.{Answers}
use Rattle.store.proofs.reading.Snapshot.number.Goals as goal

-- what was read
read-so : (session : ℕ) (key : Key) (result : Result (Option (List ℕ)) StoreError) (told : Option (List ℕ)) → result ≡ Ok told
    → Answers (Get session key) row_of result → AnswersStep (Get session key) row_of (Ok told)
read-so session key result told is answers = subst (λ (r : Result (Option (List ℕ)) StoreError). Answers (Get session key) row_of r) is answers

pub returns-in-Some : goal.returns-in-Some
returns-in-Some g c = (
  c.in-Ok-Some.row,
  read-so c.args.self.now.reads.session c.args.key c.get.result (Some c.in-Ok-Some.row) (search rules) c.get.ensures.answers,
  search rules,
  search rules,
)

pub returns-in-None : goal.returns-in-None
returns-in-None g c = inl (
  c.in-Ok-Some.row,
  read-so c.args.self.now.reads.session c.args.key c.get.result (Some c.in-Ok-Some.row) (search rules) c.get.ensures.answers,
  search rules,
  refl,
)

pub returns-in-Ok-None : goal.returns-in-Ok-None
returns-in-Ok-None g c = read-so c.args.self.now.reads.session c.args.key c.get.result None (search rules) c.get.ensures.answers
