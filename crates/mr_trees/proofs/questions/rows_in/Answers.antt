use Rattle.std.proofs.Common.{ap, sym, ◌∙◌}
use Rattle.std.specs.Prelude.{bytes_eq}
use Rattle.std.proofs.lemmas.Result.{IfOk-weaker}
use Rattle.sqlite_value.specs.Order.{Row, column, bytes}
use Rattle.mr_trees.proofs.TableLemmas.{rows_picked}
use Rattle.mr_trees.proofs.questions.rows_in.Goals as goal

pub returns-clause-ok : goal.returns-clause-ok
returns-clause-ok g c =
    let room = c.args.room.now in
    let at = c.room_column.result in
    let same = λ (r : Row). ap (λ t. bytes_eq t room) (g.met.R.RoomRow.roomed r ∙ ap (λ n. bytes (column r n)) (sym c.room_column.ensures)) in
    let all = (g.S.Store.view c.args.store.now).trees g.R.StoredRow.form.table.tree in
    IfOk-weaker c.scan.result _ _
    (λ rows told clean. told clean
    ∙ sym (rows_picked g.R.StoredRow.form.row_in (λ r. bytes_eq (bytes (column r at)) room) (λ row. bytes_eq (g.R.AskedRow.room_of row) room) same all)) c.scan.ensures.ok
