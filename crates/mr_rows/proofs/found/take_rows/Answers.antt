use Rattle.std.proofs.Common.{[], length, Ok, ◌∙◌, refl, rules}
use Rattle.sqlite.specs.Given.{row_if}
use Rattle.sqlite.specs.Held.{state}
use Rattle.mr_rows.specs.Kept.{AreTaken, AreTested}
use Rattle.mr_rows.specs.Shown.{IsShownAs, IsStoredAs, IsShownSo}
use Rattle.mr_rows.proofs.QueryLemmas.{looks_so}
use Rattle.mr_rows.proofs.StreamedRows.{taken_more, begun, refused, advanced, none_left, one_done}
use Rattle.mr_rows.proofs.CauseLemmas.{not_asked, not_advanced, given_is, shows_all, shows_only}
use Rattle.mr_rows.proofs.RowOrder.{shown_is}
use Rattle.mr_rows.proofs.RowsReadBack.{shown_as}
use Rattle.mr_rows.proofs.found.take_rows.Goals as goal

pub returns-in_err-rows-clause-looks : goal.returns-in_err-rows-clause-looks
returns-in_err-rows-clause-looks g c under asks =
    let read = refused g.S.Store c.args.sql.now [] asks.plain c.args.conn.now c.query.follows.lender-at-none c.query.result
    (rw c.in_err-rows.was tt) (rw c.conn.view_is at c.query.follows.holds-at-none) in
    (read.0, read.1, λ clean here. (search rules, search rules))

pub rows-init : goal.rows-init
rows-init g c =
    let made = c.in_ok-rows.ensures in (
      refl,
      made.mode c.conn.invariant,
      λ under plain. begun g.S.Store c.args.sql.now [] plain (AreTaken g.R.StoredRow.form c.args.keep c.new-out.result.items) c.args.conn.now c.in_ok-rows.rows.conn.now
          (rw c.conn.view_is at made.begun) (rw c.conn.view_is at made.survives) (tt, λ kept. search rules),
    )

pub returns-in_err-advance-clause-looks : goal.returns-in_err-advance-clause-looks
returns-in_err-advance-clause-looks g c under asks =
    let moved = c.advance.ensures in
    let new = c.advance.new.self in
    let Q = AreTaken g.R.StoredRow.form c.args.keep c.rows.out.items in
    let first = state g.S.Store c.args.conn.now in
    let row = row_if new.has_row new.conn.now in
    let read = advanced g.S.Store c.args.sql.now [] asks.plain Q first c.rows.rows.conn.now new.conn.now c.advance.result row
    (c.rows.invariant.2 under asks.plain) moved.ok moved.same moved.kept moved.survives in
    let survives = read.0 in
    let left = read.1 in
    (search rules, search rules, λ clean here. (search rules, search rules))

pub returns-in_err-take_row-in-Some-clause-looks : goal.returns-in_err-take_row-in-Some-clause-looks
returns-in_err-take_row-in-Some-clause-looks g c under asks =
    let moved = c.advance.ensures in
    let new = c.advance.new.self in
    let Q = AreTaken g.R.StoredRow.form c.args.keep c.rows.out.items in
    let first = state g.S.Store c.args.conn.now in
    let row = row_if new.has_row new.conn.now in
    let read = advanced g.S.Store c.args.sql.now [] asks.plain Q first c.rows.rows.conn.now new.conn.now c.advance.result row
    (c.rows.invariant.2 under asks.plain) moved.ok moved.same moved.kept moved.survives in
    let survives = read.0 in
    let left = read.1 in
    (search rules, search rules, λ clean here. (search rules, search rules))

pub returns-in-None-clause-looks : goal.returns-in-None-clause-looks
returns-in-None-clause-looks g c under asks =
    let moved = c.in_ok-advance.ensures in
    let new = c.advance.new.self in
    let Q = AreTaken g.R.StoredRow.form c.args.keep c.rows.out.items in
    let first = state g.S.Store c.args.conn.now in
    let row = row_if new.has_row new.conn.now in
    let read = advanced g.S.Store c.args.sql.now [] asks.plain Q first c.rows.rows.conn.now new.conn.now
    (Ok (tt {0})) row (c.rows.invariant.2 under asks.plain) moved.ok moved.same moved.kept moved.survives in
    let f = g.R.StoredRow.form in
    let all = looks_so {X = Unit {0}} first (state g.S.Store new.conn.now) (Ok (tt {0}))
    (λ _. IsShownSo Q c.args.sql.now [] first (state g.S.Store new.conn.now)) (λ _. AreTested f c.args.keep first.now.trees c.rows.out.items)
    (λ here x told. (told.0, shows_all f.table.tree (length f.table.columns) c.args.sql.now asks first (state g.S.Store new.conn.now) told.0 here.schema told.1, told.2))
    (none_left g.S.Store c.args.sql.now [] asks.plain Q first new.conn.now row c.in-None.ensures read) in
    let survives = all.0 in
    let left = all.1 in
    let told = all.2 in
    (search rules, search rules, search rules)

pub rows-preserved : goal.rows-preserved
rows-preserved g c =
    let moved = c.in_ok-advance.ensures in
    let new = c.advance.new.self in
    let Q = AreTaken g.R.StoredRow.form c.args.keep c.rows.out.items in
    let first = state g.S.Store c.args.conn.now in
    let row = row_if new.has_row new.conn.now in
    let Next = AreTaken g.R.StoredRow.form c.args.keep c.take_row.new.out.items in (
      moved.same_reference ∙ c.rows.invariant.0,
      moved.mode c.rows.invariant.1,
      λ under plain.
          one_done g.S.Store c.args.sql.now [] plain Q Next first new.conn.now row c.in-Some.row.now c.in-Some.ensures
          (λ rows far. taken_more g.R.StoredRow.form c.args.keep c.rows.out.items c.take_row.new.out.items rows
          c.in-Some.row.now c.in_ok-take_row-in-Some.ensures.shown c.in_ok-take_row-in-Some.ensures.kept far)
          (advanced g.S.Store c.args.sql.now [] plain Q first c.rows.rows.conn.now new.conn.now (Ok (tt {0})) row (c.rows.invariant.2 under plain) moved.ok moved.same moved.kept moved.survives),
    )

pub returns-in_err-rows-clause-cause : goal.returns-in_err-rows-clause-cause
returns-in_err-rows-clause-cause g c under asks = λ clean here stored.
    let told = not_asked g.S.Store c.args.sql.now [] asks.plain asks.sure c.args.conn.now c.query.follows.lender-at-none c.query.result
    (rw c.conn.view_is at c.query.follows.holds-at-none) clean here tt in
    search rules

pub returns-in_err-advance-clause-cause : goal.returns-in_err-advance-clause-cause
returns-in_err-advance-clause-cause g c under asks = λ clean here stored.
    let moved = c.advance.ensures in
    let new = c.advance.new.self in
    let told = not_advanced g.S.Store c.args.sql.now [] asks.plain asks.sure (AreTaken g.R.StoredRow.form c.args.keep c.rows.out.items)
    (state g.S.Store c.args.conn.now) c.rows.rows.conn.now new.conn.now c.advance.result (c.rows.invariant.2 under asks.plain) moved.err moved.survives in
    let here_told = told (search rules) here tt in
    search rules

pub returns-in_err-take_row-in-Some-clause-cause : goal.returns-in_err-take_row-in-Some-clause-cause
returns-in_err-take_row-in-Some-clause-cause g c under asks = λ clean here stored.
    let moved = c.in_ok-advance.ensures in
    let new = c.advance.new.self in
    let Q = AreTaken g.R.StoredRow.form c.args.keep c.rows.out.items in
    let first = state g.S.Store c.args.conn.now in
    let row = row_if new.has_row new.conn.now in
    let read = advanced g.S.Store c.args.sql.now [] asks.plain Q first c.rows.rows.conn.now new.conn.now
    (Ok (tt {0})) row (c.rows.invariant.2 under asks.plain) moved.ok moved.same moved.kept moved.survives in
    let f = g.R.StoredRow.form in
    let shows = shows_only f.table.tree (length f.table.columns) c.args.sql.now (IsShownAs f) (IsStoredAs f) first asks
    (shown_is f (shown_as f g.R.Parts.Cells.columns g.R.StoredRow.of g.met.R.StoredRow.made)) here.schema stored in
    let is = given_is g.S.Store c.args.sql.now [] asks.plain asks.sure (IsShownAs f) Q first new.conn.now row c.in-Some.row.now c.in-Some.ensures shows read (search rules) here in
    let refused = c.in_err-take_row-in-Some.ensures.refused in
    search rules

-- (out of memory)
pub returns-clause-cause : goal.returns-clause-cause
returns-clause-cause g c under asks = λ clean here stored other. absurd (other refl)
