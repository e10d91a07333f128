use Rattle.std.proofs.Common.{◌≡◌, ◌∙◌, ap, sym}
use Rattle.base.specs.Layout.{Layout, row_limit}
use Rattle.room.proofs.Runs.{comes-weaken}
use Rattle.store.specs.Answers.{write_error}
use Rattle.store.proofs.store.Store.write.Goals as goal

pub returns-in-Err-Refused-clause-err : goal.returns-in-Err-Refused-clause-err
returns-in-Err-Refused-clause-err g c = record {
  limit = c.row_limit.result;
  limited =
      comes-weaken (λ q. c.args.self.now.layout ≡ q.layout) (λ q. c.row_limit.result ≡ row_limit q.layout.version)
      (λ q e. c.row_limit.ensures.value ∙ ap (λ (l : Layout). row_limit l.version) e) c.args.self.now.laid_out;
  refused = c.in-Err-Refused.field-0;
  becomes = c.put_error.ensures ∙ ap (write_error c.row_limit.result) (sym c.in-Err-Refused.field-0-is);
  reported = c.in-Err-Refused.ensures.err;
}

pub returns-in-Err-Open-clause-err : goal.returns-in-Err-Open-clause-err
returns-in-Err-Open-clause-err g c = record {
  limit = row_limit c.args.self.now.layout.version;
  limited =
      comes-weaken (λ q. c.args.self.now.layout ≡ q.layout) (λ q. row_limit c.args.self.now.layout.version ≡ row_limit q.layout.version)
      (λ q e. ap (λ (l : Layout). row_limit l.version) e) c.args.self.now.laid_out;
  refused = c.in-Err-Open.field-0;
  becomes = ap (write_error (row_limit c.args.self.now.layout.version)) (sym c.in-Err-Open.field-0-is);
  reported = c.in-Err-Open.ensures.err;
}
