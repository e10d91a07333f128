use Rattle.serving.proofs.Exchanges.{request-replied, other-replied, input-ended}
use Rattle.serving.proofs.channel.exchange.Goals as goal

pub returns-in-Request : goal.returns-in-Request
returns-in-Request g c = request-replied _ _ _ _ _ _ c.in_ok-received.received c.in-Request.request c.answer-answer.result c.reply.result c.in-Request.is c.in_ok-received.ensures c.answer-answer.ensures c.reply.ensures

pub returns-in-Other : goal.returns-in-Other
returns-in-Other g c = other-replied _ _ _ _ _ c.in_ok-received.received c.reply-in-Other.result c.in-Other.is c.in_ok-received.ensures c.reply-in-Other.ensures

pub returns-in-End : goal.returns-in-End
returns-in-End g c = input-ended _ _ _ _ c.in_ok-received.received c.in-End.is c.in_ok-received.ensures
