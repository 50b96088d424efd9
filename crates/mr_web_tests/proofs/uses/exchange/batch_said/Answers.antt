use Rattle.std.proofs.Common.{sym, subst}
use Rattle.mr_model.specs.Tables.{Tables, Stands}
use Rattle.mr_service.specs.Asked.{reply_of}
use Rattle.mr_web_tests.proofs.Giving.{text_for, if_ok}
use Rattle.mr_web_tests.proofs.uses.exchange.batch_said.Goals as goal

pub returns-clause-text : goal.returns-clause-text
returns-clause-text c = λ a b h sound is.
    let takes = c.in_ok-reply.ensures.done a h in
    if_ok c.reply_text.result
    (λ v written. text_for c.position_law.ensures.asked a b c.args.max_lines c.args.position.items v.items (reply_of c.in_ok-reply.reply) sound is takes.replied c.in_ok-reply.ensures.value written)
    c.reply_text.ensures.text

pub returns-clause-same : goal.returns-clause-same
returns-clause-same c = λ a h. (c.in_ok-reply.ensures.done a h).stands

pub returns-in_err-reply-clause-same : goal.returns-in_err-reply-clause-same
returns-in_err-reply-clause-same c = λ a h. subst (λ (t : Tables). Stands t a) (sym c.in_err-reply.ensures.refused) h
