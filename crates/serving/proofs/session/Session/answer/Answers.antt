use Rattle.std.proofs.Common.{refl}
use Rattle.requests.specs.declared.request.Request.TheVariants as request
use Rattle.serving.proofs.Opened.{serves-so}
use Rattle.serving.proofs.session.Session.answer.Goals as goal

pub returns-in-Begin : goal.returns-in-Begin
returns-in-Begin g c = serves-so _ _ c.args.request.now request.Begin _ c.in-Begin.is c.begin.ensures

pub returns-in-Get : goal.returns-in-Get
returns-in-Get g c = serves-so _ _ c.args.request.now (request.Get c.in-Get.key) _ c.in-Get.is (c.get.ensures, refl)

pub returns-in-Put : goal.returns-in-Put
returns-in-Put g c = serves-so _ _ c.args.request.now (request.Put c.in-Put.key c.in-Put.row) _ c.in-Put.is (c.put.ensures.made, rw c.put.ensures.same refl)

pub returns-in-Delete : goal.returns-in-Delete
returns-in-Delete g c = serves-so _ _ c.args.request.now (request.Delete c.in-Delete.key) _ c.in-Delete.is (c.delete.ensures.made, rw c.delete.ensures.same refl)

pub returns-in-Commit : goal.returns-in-Commit
returns-in-Commit g c = serves-so _ _ c.args.request.now request.Commit _ c.in-Commit.is (c.commit.ensures.made, c.commit.ensures.ended)

pub returns-in-Abort : goal.returns-in-Abort
returns-in-Abort g c = serves-so _ _ c.args.request.now request.Abort _ c.in-Abort.is (c.abort.ensures.made, c.abort.ensures.ended)

pub returns-in-First : goal.returns-in-First
returns-in-First g c = serves-so _ _ c.args.request.now (request.First c.in-First.range c.in-First.limit) _ c.in-First.is (c.first.ensures, refl)

pub returns-in-Last : goal.returns-in-Last
returns-in-Last g c = serves-so _ _ c.args.request.now (request.Last c.in-Last.range c.in-Last.limit) _ c.in-Last.is (c.last.ensures, refl)

pub returns-in-Status : goal.returns-in-Status
returns-in-Status g c = serves-so _ _ c.args.request.now request.Status _ c.in-Status.is (c.status.ensures, refl)
