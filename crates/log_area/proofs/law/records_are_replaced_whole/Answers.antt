use Rattle.log_area.proofs.Whole.{record-holds, record-images, record-images_stopped}
use Rattle.log_area.proofs.law.records_are_replaced_whole.Goals as goal

pub returns : goal.returns
returns c layout old new before after next = ((λ run. (record-images layout new old next run, record-holds layout new old next run)), λ stop. record-images_stopped layout new old next stop)
