use Rattle.std.proofs.Common.{◌∙◌, ap, sym}
use Rattle.std.specs.String.{string_bytes}
use Rattle.mr_words.specs.CommandTable.{Exchange}
use Rattle.mr_words.specs.InvocationRead.{asked_of}
use Rattle.mr.proofs.EndLaws.{task_ends, exchange_ends}
use Rattle.mr.proofs.commands.perform.Goals as goal

pub returns-in-Ask : goal.returns-in-Ask
returns-in-Ask g c =
    task_ends _ _ _ (asked_of c.args.asked) c.in-Ask.database c.in-Ask.task _ _ _ (ap asked_of c.in-Ask.is) c.on_database.ensures

pub returns-in-Exchange : goal.returns-in-Exchange
returns-in-Exchange g c =
    let database = string_bytes c.in-Exchange.database in
    let url = ap (Exchange database) (sym c.as_str-in-Exchange-2.ensures.value) in
    exchange_ends _ _ _ (asked_of c.args.asked) database c.as_str-in-Exchange-2.result.now _ _ _ (ap asked_of c.in-Exchange.is ∙ url)
    c.exchange.ensures.asked c.exchange.ensures.bad
