use Rattle.std.proofs.Common.{sym, ap, subst, ◌∙◌}
use Rattle.std.specs.String.{string_bytes}
use Rattle.mr_model.specs.View.{AskSheet, AskCalendar, AskOutcome, AskErrors}
use Rattle.mr_model.specs.Step.{Command, AddRoom, Cancel, BatchFor, Ask}
use Rattle.mr_service.specs.Asked.{local_of, part_seen, reply_in}
use Rattle.mr_service.specs.Served.{IsServed}
use Rattle.mr_service.proofs.services.ask_local.Goals as goal

pub returns-in-AddRoom-clause-served : goal.returns-in-AddRoom-clause-served
returns-in-AddRoom-clause-served g c =
    subst (λ (l : Command). IsServed g.K.Keeper c.args.keeper.now c.add_room.new.keeper l (reply_in c.add_room.result))
    (ap AddRoom c.as_str.ensures.value ∙ ap local_of (sym c.in-AddRoom.is)) c.add_room.ensures.served

pub returns-in-Submit-clause-served : goal.returns-in-Submit-clause-served
returns-in-Submit-clause-served g c =
    subst (λ (l : Command). IsServed g.K.Keeper c.args.keeper.now c.submit.new.keeper l (reply_in c.submit.result)) (ap local_of (sym c.in-Submit.is)) c.submit.ensures.served

pub returns-in-Cancel-clause-served : goal.returns-in-Cancel-clause-served
returns-in-Cancel-clause-served g c =
    subst (λ (l : Command). IsServed g.K.Keeper c.args.keeper.now c.cancel.new.keeper l (reply_in c.cancel.result))
    (ap (λ room. Cancel room c.as_str-in-Cancel-2.result.now) c.as_str-in-Cancel.ensures.value
    ∙ ap (λ id. Cancel (string_bytes c.in-Cancel.room) id) c.as_str-in-Cancel-2.ensures.value ∙ ap local_of (sym c.in-Cancel.is)) c.cancel.ensures.served

pub returns-in-Commit-clause-served : goal.returns-in-Commit-clause-served
returns-in-Commit-clause-served g c =
    subst (λ (l : Command). IsServed g.K.Keeper c.args.keeper.now c.commit.new.keeper l (reply_in c.commit.result)) (ap local_of (sym c.in-Commit.is)) c.commit.ensures.served

pub returns-in-Truncate-clause-served : goal.returns-in-Truncate-clause-served
returns-in-Truncate-clause-served g c =
    subst (λ (l : Command). IsServed g.K.Keeper c.args.keeper.now c.truncate.new.keeper l (reply_in c.truncate.result)) (ap local_of (sym c.in-Truncate.is)) c.truncate.ensures.served

pub returns-in-Position-clause-served : goal.returns-in-Position-clause-served
returns-in-Position-clause-served g c =
    subst (λ (l : Command). IsServed g.K.Keeper c.args.keeper.now c.position.new.keeper l (reply_in c.position.result)) (ap local_of (sym c.in-Position.is)) c.position.ensures.served

pub returns-in-BatchFor-clause-served : goal.returns-in-BatchFor-clause-served
returns-in-BatchFor-clause-served g c =
    subst (λ (l : Command). IsServed g.K.Keeper c.args.keeper.now c.batch_for.new.keeper l (reply_in c.batch_for.result))
    (ap (λ p. BatchFor p c.in-BatchFor.max_lines) c.as_slice.ensures.value ∙ ap local_of (sym c.in-BatchFor.is)) c.batch_for.ensures.served

pub returns-in-Calendar-clause-served : goal.returns-in-Calendar-clause-served
returns-in-Calendar-clause-served g c =
    subst (λ (l : Command). IsServed g.K.Keeper c.args.keeper.now c.calendar.new.keeper l (reply_in c.calendar.result))
    (ap (λ room. Ask room (AskCalendar (part_seen c.in-Calendar.part))) c.as_str-in-Calendar.ensures.value ∙ ap local_of (sym c.in-Calendar.is)) c.calendar.ensures.served

pub returns-in-Sheet-clause-served : goal.returns-in-Sheet-clause-served
returns-in-Sheet-clause-served g c =
    subst (λ (l : Command). IsServed g.K.Keeper c.args.keeper.now c.sheet.new.keeper l (reply_in c.sheet.result))
    (ap (λ room. Ask room (AskSheet c.as_str-in-Sheet-2.result.now)) c.as_str-in-Sheet.ensures.value
    ∙ ap (λ day. Ask (string_bytes c.in-Sheet.room) (AskSheet day)) c.as_str-in-Sheet-2.ensures.value ∙ ap local_of (sym c.in-Sheet.is)) c.sheet.ensures.served

pub returns-in-Outcome-clause-served : goal.returns-in-Outcome-clause-served
returns-in-Outcome-clause-served g c =
    subst (λ (l : Command). IsServed g.K.Keeper c.args.keeper.now c.outcome.new.keeper l (reply_in c.outcome.result))
    (ap (λ room. Ask room (AskOutcome c.as_str-in-Outcome-2.result.now)) c.as_str-in-Outcome.ensures.value
    ∙ ap (λ id. Ask (string_bytes c.in-Outcome.room) (AskOutcome id)) c.as_str-in-Outcome-2.ensures.value ∙ ap local_of (sym c.in-Outcome.is)) c.outcome.ensures.served

pub returns-in-Errors-clause-served : goal.returns-in-Errors-clause-served
returns-in-Errors-clause-served g c =
    subst (λ (l : Command). IsServed g.K.Keeper c.args.keeper.now c.errors.new.keeper l (reply_in c.errors.result))
    (ap (λ room. Ask room AskErrors) c.as_str-in-Errors.ensures.value ∙ ap local_of (sym c.in-Errors.is)) c.errors.ensures.served
