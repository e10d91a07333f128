use Rattle.base.proofs.Spelling.{one_record, one_spelling, is_record-is, record_in-is, is_record-holds}
use Rattle.base.proofs.law.records_have_one_spelling.Goals as goal

pub returns : goal.returns
returns c = record {
  one_record = one_record;
  one_spelling = one_spelling;
  found = record { found = λ version words r is. (is_record-is version words r is, record_in-is version words r is); holds = is_record-holds };
}
