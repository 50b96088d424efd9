use Rattle.std.proofs.Common.{◌+◌, ap, sym, ◌∙◌, rules}
use Rattle.std.proofs.lemmas.Bool.{and_from}
use Rattle.mr_rows.specs.Shown.{columns_from}
use Rattle.mr_rows.proofs.ColumnLemmas.{take_columns, drop_columns, fails_first, fails_second}
use Rattle.mr_rows.proofs.columns.Tuple2Cells.read.Goals as goal

pub returns-in_err-first-clause-refused : goal.returns-in_err-first-clause-refused
returns-in_err-first-clause-refused g c =
    let a = g.A.Cells.columns in
    let b = g.B.Cells.columns in
    rw (take_columns c.args.at a.width b.width c.args.row.now, drop_columns c.args.at a.width b.width c.args.row.now)
    (let never = fails_first (b.are (columns_from (c.args.at + a.width) b.width c.args.row.now)) in search rules)

pub returns-in_err-second-clause-refused : goal.returns-in_err-second-clause-refused
returns-in_err-second-clause-refused g c =
    let a = g.A.Cells.columns in
    let b = g.B.Cells.columns in
    let read = rw (c.width.ensures) at c.in_err-second.ensures.refused in
    rw (take_columns c.args.at a.width b.width c.args.row.now, drop_columns c.args.at a.width b.width c.args.row.now)
    (let never = fails_second (a.are (columns_from c.args.at a.width c.args.row.now)) in search rules)

pub returns-clause-value : goal.returns-clause-value
returns-clause-value g c =
    let a = g.A.Cells.columns in
    let b = g.B.Cells.columns in
    rw (take_columns c.args.at a.width b.width c.args.row.now, drop_columns c.args.at a.width b.width c.args.row.now)
    (let first = c.in_ok-first.ensures.value in
    let second = c.in_ok-second.ensures.value ∙ ap (λ k. b.value_in (columns_from (c.args.at + k) b.width c.args.row.now)) c.width.ensures in
    λ i. (first i, second i))

pub returns-clause-told : goal.returns-clause-told
returns-clause-told g c =
    let a = g.A.Cells.columns in
    let b = g.B.Cells.columns in
    rw (take_columns c.args.at a.width b.width c.args.row.now, drop_columns c.args.at a.width b.width c.args.row.now)
    (and_from _ _ c.in_ok-first.ensures.told (ap (λ k. b.are (columns_from (c.args.at + k) b.width c.args.row.now)) (sym c.width.ensures) ∙ c.in_ok-second.ensures.told))
