use Rattle.std.proofs.Common.{sym, subst, Ok}
use Rattle.mr_tables.specs.Cells.{place_row_of}
use Rattle.mr_service.specs.Questions.{TellsOutcomeOf}
use Rattle.mr_service.proofs.KeeperReads.{read_none}
use Rattle.mr_service.proofs.RoomSteps as steps
use Rattle.mr_service.proofs.questions.outcome_at.Goals as goal

pub returns-in-Booked : goal.returns-in-Booked
returns-in-Booked g c =
    record {
      read = λ sure. read_none g.K.Keeper c.args.keeper.now _ sure;
      tells = λ u o. subst (λ p. TellsOutcomeOf c.args.room.now (g.K.Keeper.tables c.args.keeper.now) (place_row_of p) (Ok c.booked.result))
          (sym c.in-Booked.is) (steps.booked_tells (g.K.Keeper.tables c.args.keeper.now) c.args.room.now c.in-Booked.row c.booked.result c.booked.ensures);
    }

pub returns-in-Logged : goal.returns-in-Logged
returns-in-Logged g c =
    record {
      read = λ sure. read_none g.K.Keeper c.args.keeper.now _ sure;
      tells = λ u o. subst (λ p. TellsOutcomeOf c.args.room.now (g.K.Keeper.tables c.args.keeper.now) (place_row_of p) (Ok c.logged.result))
          (sym c.in-Logged.is) (steps.logged_tells (g.K.Keeper.tables c.args.keeper.now) c.args.room.now c.in-Logged.row c.logged.result c.logged.ensures);
    }

pub returns-in-Cancel : goal.returns-in-Cancel
returns-in-Cancel g c =
    record {
      read = λ sure. read_none g.K.Keeper c.args.keeper.now _ sure;
      tells = λ u o. subst (λ p. TellsOutcomeOf c.args.room.now (g.K.Keeper.tables c.args.keeper.now) (place_row_of p) (Ok c.cancel.result))
          (sym c.in-Cancel.is) (steps.cancel_tells (g.K.Keeper.tables c.args.keeper.now) c.args.room.now c.in-Cancel.row c.cancel.result c.cancel.ensures);
    }

pub returns-in-Cancelled : goal.returns-in-Cancelled
returns-in-Cancelled g c =
    record {
      read = λ sure. c.outcome_of_cancelled.ensures.read;
      tells = λ u o. subst (λ p. TellsOutcomeOf c.args.room.now (g.K.Keeper.tables c.args.keeper.now) (place_row_of p) c.outcome_of_cancelled.result)
          (sym c.in-Cancelled.is) (c.outcome_of_cancelled.ensures.tells u o);
    }
