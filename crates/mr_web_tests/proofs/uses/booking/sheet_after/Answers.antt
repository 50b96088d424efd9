use Rattle.std.proofs.Common.{◌≡◌, ap, subst, ◌∙◌}
use Rattle.std.specs.Prelude.{IfOk}
use Rattle.mr_model.specs.Texts.{Text}
use Rattle.mr_model.specs.Replies.{reply_text}
use Rattle.mr_model.specs.Step.{step}
use Rattle.mr_model.specs.View.{AskSheet, answer, view_of}
use Rattle.mr_service.specs.Asked.{command_seen, reply_of}
use Rattle.mr_web_tests.proofs.uses.booking.sheet_after.Goals as goal

pub returns : goal.returns
returns c = λ a h.
    let after = (step a (command_seen c.args.command.now)).replica in
    let first = c.in_ok-ask.ensures.done a h in
    let second = c.in_ok-reply.ensures.done after first.stands in
    let same : reply_of c.in_ok-reply.reply ≡ answer c.args.room.now (view_of after c.args.room.now) (AskSheet c.args.day.now) =
    second.replied ∙ ap (λ q. (step after q).reply) c.in_ok-question.ensures in
    subst (λ (x : Text). IfOk c.reply_text.result (λ v. v.items ≡ x)) (ap reply_text same) c.reply_text.ensures.text
