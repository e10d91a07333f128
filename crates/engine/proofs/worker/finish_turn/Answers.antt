use Rattle.std.proofs.Common.{◌≡◌, refl}
use Rattle.std.specs.Prelude.{Some}
use Rattle.engine.proofs.Covering.{turn-posted, turn-unposted}
use Rattle.engine.proofs.worker.finish_turn.Goals as goal

pub returns-in-Some-post-clause-posted : goal.returns-in-Some-post-clause-posted
returns-in-Some-post-clause-posted g c =
    let made : c.args.made ≡ Some (c.in-Some.reply, c.in-Some.receipt) = c.in-Some.is in
    turn-posted g.J.Origin.image c.args.made c.in-Some.reply c.in-Some.receipt c.in-Some-receipt.receipt c.in-Covered.batch c.in-Some-post.published c.requires made c.in-Some-receipt.is c.in-Covered.is c.in-Some-post.ensures.0

pub returns : goal.returns
returns g c =
    let made : c.args.made ≡ Some (c.in-Some.reply, c.in-Some.receipt) = c.in-Some.is in
    let kept : c.args.made ≡ Some (c.in-Some.reply, Some c.in-Some-receipt.receipt) = cc (made, c.in-Some-receipt.is) in
    record {
      posted = turn-unposted g.J.Origin.image c.args.made c.in-Some.reply c.in-Some.receipt c.in-Some-receipt.receipt c.requires made c.in-Some-receipt.is c.in_default-reply.not-Covered;
      why = (c.in-Some.reply, c.in-Some-receipt.receipt, kept, refl);
    }
