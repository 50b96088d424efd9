use Rattle.std.proofs.Common.{sym}
use Rattle.mr_audit.proofs.SortedIds.{keyed}
use Rattle.mr_audit.proofs.id_rows.has.Goals as goal

pub returns-in-Some : goal.returns-in-Some
returns-in-Some g c =
    let h = c.in-Some.ensures in
    sym (keyed g.R.IdRow.id c.args.id c.in-Some.field-0.now c.args.rows.now h.0 h.1)

pub returns-in-None : goal.returns-in-None
returns-in-None g c = sym c.in-None.ensures
