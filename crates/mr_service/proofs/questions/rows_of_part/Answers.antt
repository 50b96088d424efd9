use Rattle.std.proofs.Common.{sym, subst}
use Rattle.std.specs.Prelude.{IfOk}
use Rattle.mr_service.specs.Asked.{part_seen}
use Rattle.mr_service.specs.Questions.{ShowsCalendar}
use Rattle.mr_service.proofs.questions.rows_of_part.Goals as goal

pub returns-in-Full-clause-shows : goal.returns-in-Full-clause-shows
returns-in-Full-clause-shows g c = λ u o.
    subst (λ p. IfOk c.rows_of_all.result (λ rows. ShowsCalendar (part_seen p) c.args.room.now (g.K.Keeper.tables c.args.keeper.now) rows.items)) (sym c.in-Full.is) (c.rows_of_all.ensures.shows u o)

pub returns-in-Committed-clause-shows : goal.returns-in-Committed-clause-shows
returns-in-Committed-clause-shows g c = λ u o.
    subst (λ p. IfOk c.rows_of_committed.result (λ rows. ShowsCalendar (part_seen p) c.args.room.now (g.K.Keeper.tables c.args.keeper.now) rows.items))
    (sym c.in-Committed.is) (c.rows_of_committed.ensures.shows u o)
