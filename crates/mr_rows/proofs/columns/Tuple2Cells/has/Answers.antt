use Rattle.std.proofs.Common.{◌&&◌, ◌+◌, ap, sym, ◌∙◌}
use Rattle.mr_rows.specs.Shown.{columns_from}
use Rattle.mr_rows.proofs.ColumnLemmas.{take_columns, drop_columns}
use Rattle.mr_rows.proofs.columns.Tuple2Cells.has.Goals as goal

pub returns-then-has : goal.returns-then-has
returns-then-has g c =
    let a = g.A.Cells.columns in
    let b = g.B.Cells.columns in
    let has = sym c.if-has.true ∙ c.has.ensures in
    rw (take_columns c.args.at a.width b.width c.args.row.now, drop_columns c.args.at a.width b.width c.args.row.now)
    (c.has-then-has.ensures ∙ ap (λ k. b.are (columns_from (c.args.at + k) b.width c.args.row.now)) c.width.ensures
    ∙ ap (λ p. p && b.are (columns_from (c.args.at + a.width) b.width c.args.row.now)) has)

pub returns-else-has : goal.returns-else-has
returns-else-has g c =
    let a = g.A.Cells.columns in
    let b = g.B.Cells.columns in
    let has = sym c.if-has.false ∙ c.has.ensures in
    rw (take_columns c.args.at a.width b.width c.args.row.now, drop_columns c.args.at a.width b.width c.args.row.now)
    (c.if-has.false ∙ ap (λ p. p && b.are (columns_from (c.args.at + a.width) b.width c.args.row.now)) has)
