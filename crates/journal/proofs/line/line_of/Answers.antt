use Rattle.std.proofs.Common.{refl, ◌∙◌}
use Rattle.std.proofs.lemmas.List.{length-set}
use Rattle.journal.proofs.LinePayloads.{joined-more, number-more}
use Rattle.journal.proofs.line.line_of.Goals as goal

pub loop-place-preserved : goal.loop-place-preserved
loop-place-preserved c =
    let v = c.loop-place.invariant in
    record {
      size = length-set c.loop-place.words c.loop-place.place _ ∙ v.size;
      words = joined-more c.args.payloads.now c.loop-place.words _ c.loop-place.place c.loop-place.rest _ c.loop-place-test.true c.requires v.size refl v.words;
      number = number-more c.args.payloads.now c.loop-place.place c.loop-place.rest _ c.loop-place-test.true c.requires v.number;
    }
