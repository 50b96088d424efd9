use Rattle.std.proofs.Common.{◌≡◌, ap, sym, subst}
use Rattle.std.specs.Prelude.{IfOk}
use Rattle.mr_model.specs.Texts.{Text}
use Rattle.mr_model.specs.Replies.{reply_text}
use Rattle.mr_model.specs.Tables.{Tables, Stands}
use Rattle.mr_web_tests.proofs.uses.exchange.position_said.Goals as goal

pub returns-clause-text : goal.returns-clause-text
returns-clause-text c = λ a h.
    let takes = c.in_ok-reply.ensures.done a h in
    subst (λ (x : Text). IfOk c.reply_text.result (λ v. v.items ≡ x)) (ap reply_text takes.replied) c.reply_text.ensures.text

pub returns-clause-same : goal.returns-clause-same
returns-clause-same c = λ a h. (c.in_ok-reply.ensures.done a h).stands

pub returns-in_err-reply-clause-same : goal.returns-in_err-reply-clause-same
returns-in_err-reply-clause-same c = λ a h. subst (λ (t : Tables). Stands t a) (sym c.in_err-reply.ensures.refused) h
