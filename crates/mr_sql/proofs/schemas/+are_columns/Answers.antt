use Rattle.std.proofs.Common.{rules, Some, None}
use Rattle.std.proofs.lemmas.List.{nil_from_length}
use Rattle.mr_sql.proofs.ColumnLemmas.{columns_once, columns_some}
use Rattle.mr_sql.proofs.schemas.+are_columns.Goals as goal

pub returns-in_default-clause-other : goal.returns-in_default-clause-other
returns-in_default-clause-other t c = λ _. columns_some c.args.texts.now c.args.names.now c.args.columns.now c.in_default.ensures.cases

pub returns-then-is_column-clause-same : goal.returns-then-is_column-clause-same
returns-then-is_column-clause-same t c =
    search (rules, columns_once c.args.texts.now c.args.names.now (Some (c.in-Some-split_once.name, c.in-Some-split_once.names)) c.in-Some-split_once.ensures.cases)

pub returns-then-is_column-clause-other : goal.returns-then-is_column-clause-other
returns-then-is_column-clause-other t c =
    search (rules, columns_once c.args.texts.now c.args.names.now (Some (c.in-Some-split_once.name, c.in-Some-split_once.names)) c.in-Some-split_once.ensures.cases)

pub returns-else-is_column-clause-other : goal.returns-else-is_column-clause-other
returns-else-is_column-clause-other t c =
    search (rules, columns_once c.args.texts.now c.args.names.now (Some (c.in-Some-split_once.name, c.in-Some-split_once.names)) c.in-Some-split_once.ensures.cases)

pub returns-then-is_column-2-clause-same : goal.returns-then-is_column-2-clause-same
returns-then-is_column-2-clause-same t c = search (rules, columns_once c.args.texts.now c.args.names.now None c.in-None.ensures.cases, nil_from_length c.in-Some.rest.now)

pub returns-then-is_column-2-clause-other : goal.returns-then-is_column-2-clause-other
returns-then-is_column-2-clause-other t c = search (rules, columns_once c.args.texts.now c.args.names.now None c.in-None.ensures.cases)

pub returns-else-is_column-2-clause-other : goal.returns-else-is_column-2-clause-other
returns-else-is_column-2-clause-other t c = search (rules, columns_once c.args.texts.now c.args.names.now None c.in-None.ensures.cases)
