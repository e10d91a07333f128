use Rattle.std.proofs.Common.{◌≡◌, ◌∙◌, ap, subst, true}
use Rattle.std.proofs.lemmas.Bool.{both_ways, iff_false}
use Rattle.base.specs.Records.{Record, is_well_formed, record_word}
use Rattle.log_area.proofs.Codec.{too-many, unique}
use Rattle.log_area.proofs.record.Record.from_words.Goals as goal
use Rattle.log_area.proofs.record.Record.from_words.Goals.{else-is_well_formed-via-then-is_well_formed+else-fills, else-is_well_formed-via-else-is_well_formed}

pub returns-in_err-record-clause-refused : goal.returns-in_err-record-clause-refused
returns-in_err-record-clause-refused c = rw c.from_residual.ensures (λ r is. too-many c.args.version c.args.words.now r is (c.in_err-record.ensures.refused is.size))

pub returns-else-is_well_formed-clause-refused : goal.returns-else-is_well_formed-clause-refused
returns-else-is_well_formed-clause-refused c r is =
    let same = unique c.args.version c.args.words.now r is c.in_ok-record.record c.in_ok-record.ensures.read in
    elim c.else-is_well_formed.branch [
      | else-is_well_formed-via-then-is_well_formed+else-fills w ↦ iff_false w.fills.ensures w.if-fills.false (λ k lt. is.each k lt ∙ ap (λ (x : Record). record_word x k) same)
      | else-is_well_formed-via-else-is_well_formed w ↦
          both_ways c.is_well_formed.result w.if-is_well_formed.false (c.is_well_formed.ensures ∙ subst (λ (x : Record). is_well_formed c.args.version x ≡ true) same is.well_formed)
    ]
