use Rattle.std.proofs.Common.{map}
use Rattle.std.proofs.lemmas.Result.{IfOk-weaker}
use Rattle.mr_model.specs.Serving.{Serves}
use Rattle.mr_service.specs.Asked.{command_seen, reply_of}
use Rattle.mr_service.specs.Asking.{TellsFailure}
use Rattle.mr_service.specs.Headline.{KeepsHeadline}
use Rattle.mr_service.proofs.HeadlineLaws.{headline_kept}
use Rattle.mr_service.proofs.RunsGrow as runs
use Rattle.mr_service.proofs.runs.run_over_lists.Goals as goal

pub returns-clause-never : goal.returns-clause-never
returns-clause-never c = λ a h.
    runs.none_told (λ replies. TellsFailure (map reply_of replies.items)) c.args.service.now.failures c.run.new.service.failures c.run.result
    (c.run.ensures.sure tt tt tt a h) c.run.ensures.counts

pub returns-clause-headline : goal.returns-clause-headline
returns-clause-headline c = λ a h.
    IfOk-weaker c.run.result
    (λ replies. Serves c.args.service.now.tables (map command_seen c.args.commands.now) (map reply_of replies.items) c.run.new.service.tables)
    (λ replies. KeepsHeadline a (map command_seen c.args.commands.now) (map reply_of replies.items) c.run.new.service.tables)
    (λ replies serves. headline_kept c.args.service.now.tables c.run.new.service.tables (map command_seen c.args.commands.now) (map reply_of replies.items) a h serves)
    (c.run.ensures.serves tt tt)
