use Rattle.std.proofs.Common.{ap, sym, ◌∙◌}
use Rattle.mr_model.specs.Replay.{is_free}
use Rattle.mr_replay.specs.Rows.{bookings_of}
use Rattle.mr_replay.proofs.Checking.{free-true, free_from}
use Rattle.mr_replay.proofs.Hiding.{shown-empty}
use Rattle.mr_replay.proofs.board.Board.check.Goals as goal

pub returns-clause-test : goal.returns-clause-test
returns-clause-test c =
    c.check_but.ensures ∙ ap (λ b. is_free (bookings_of c.args.room.now b) c.args.length c.args.slot) (shown-empty c.new.result c.args.self.now c.new.ensures.empty)

pub returns-clause-meaning : goal.returns-clause-meaning
returns-clause-meaning c =
    let is = returns-clause-test c in
    (λ h. free-true c.args.room.now c.args.slot c.args.length c.args.self.now (sym is ∙ h), λ h. is ∙ free_from c.args.room.now c.args.slot c.args.length c.args.self.now h)
