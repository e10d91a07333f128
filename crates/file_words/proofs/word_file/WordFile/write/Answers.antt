use Rattle.std.proofs.Common.{◌≡◌, ℕ, ◌≤◌, ◌+◌, inl, inr, length, subst, arith, rules}
use Rattle.file_words.specs.Calls.{IsApart}
use Rattle.file_words.proofs.Writes.{apart-part, part-found, part-same, part-size, writing-more}
use Rattle.file_words.proofs.word_file.WordFile.write.Goals as goal

pub loop-at-init : goal.loop-at-init
loop-at-init c =
    let until : c.in-Some.end ≡ c.args.start + length c.args.words.now = search rules in (
      record {
        within = omega arith;
        found = λ word x h. inl (c.make_way.ensures.found word x h);
        others = λ word x h. inl (c.make_way.ensures.others word x h);
        written = λ word x le lt h. absurd (omega (arith, le, lt));
      },
      subst (λ (n : ℕ). IsApart c.args.start n c.make_way.new.self.unwritten c.make_way.new.self.end) until c.in_ok-make_way.ensures.apart,
    )

pub write_part-requires : goal.write_part-requires
write_part-requires c =
    let behind : c.loop-at.at ≤ c.min-end.result = search rules in
    let within : c.min-end.result ≤ length c.args.words.now = search rules in
    record {
      apart = apart-part c.args.start (c.args.start + length c.args.words.now) c.loop-at.self.unwritten c.loop-at.self.end _ _ c.loop-at.invariant.1 (omega arith)
          (omega (arith, within, part-size c.loop-at.at c.min-end.result c.args.words.now behind within));
    }

pub returns-in_err-write_part-clause-found : goal.returns-in_err-write_part-clause-found
returns-in_err-write_part-clause-found c =
    let behind : c.loop-at.at ≤ c.min-end.result = search rules in
    let within : c.min-end.result ≤ length c.args.words.now = search rules in
    part-found _ _ _ c.args.start c.loop-at.at c.min-end.result c.args.words.now behind within c.loop-at.invariant.0.found c.write_part.ensures.found

pub returns-in_err-write_part-clause-others : goal.returns-in_err-write_part-clause-others
returns-in_err-write_part-clause-others c =
    let behind : c.loop-at.at ≤ c.min-end.result = search rules in
    let within : c.min-end.result ≤ length c.args.words.now = search rules in
    part-found _ _ _ c.args.start c.loop-at.at c.min-end.result c.args.words.now behind within c.loop-at.invariant.0.others c.write_part.ensures.others

pub loop-at-preserved : goal.loop-at-preserved
loop-at-preserved c =
    let behind : c.loop-at.at ≤ c.min-end.result = search rules in
    let within : c.min-end.result ≤ length c.args.words.now = search rules in (
      writing-more _ _ _ _ _ _ c.args.start c.loop-at.at c.min-end.result c.args.words.now _ c.loop-at.invariant.0 (part-size c.loop-at.at c.min-end.result c.args.words.now behind within) within
          (part-same c.loop-at.at c.min-end.result c.args.words.now behind within) c.write_part.ensures.found c.write_part.ensures.others c.in_ok-write_part.ensures.written,
      still c.args.start (c.args.start + length c.args.words.now) c.in_ok-write_part.ensures.unwritten c.in_ok-write_part.ensures.end c.loop-at.invariant.1,
    )
  where
    still : (start stop : ℕ) {from from' to to' : ℕ} → from' ≡ from → to' ≡ to → IsApart start stop from to → IsApart start stop from' to'
    still start stop same same' (inl below) = inl (omega (arith, below, same))
    still start stop same same' (inr above) = inr (omega (arith, above, same'))
