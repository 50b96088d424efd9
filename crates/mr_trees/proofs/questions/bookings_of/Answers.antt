use Rattle.mr_trees.proofs.TableLemmas.{calendar_is}
use Rattle.mr_trees.proofs.questions.bookings_of.Goals as goal

pub returns-in-Ok-clause-ok : goal.returns-in-Ok-clause-ok
returns-in-Ok-clause-ok g c clean =
    calendar_is c.args.room.now c.args.day (g.S.Store.view c.args.store.now).trees c.in_ok-rows.rows.items c.in-Ok.rows.items (c.in_ok-rows.ensures.ok clean)
    c.in-Ok.ensures.same c.in-Ok.ensures.sorted
