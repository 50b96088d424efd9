use Rattle.std.proofs.Common.{◌≡◌, Ok, ◌∙◌, ◌++◌, ap, sym, subst}
use Rattle.mr_base.specs.Answers.{OrOutOfMemory}
use Rattle.mr_replay.specs.Rows.{Rows, row_at, executed_all, undone_all}
use Rattle.mr_replay.specs.Holds.{HoldsEach, if_of, with_list}
use Rattle.mr_replay.proofs.Holding.{HoldsEach-replayed, others-replayed}
use Rattle.mr_replay.proofs.board.Board.replay_room.Goals as goal

-- the copy is the board
copied : (x y : Rows) → OrOutOfMemory {T = Rows} (Ok x) (Ok y) → x ≡ y
copied x y h = cc

pub returns-clause-holds : goal.returns-clause-holds
returns-clause-holds c =
    let same = copied _ _ c.in_ok-board.ensures in
    let done = c.in_ok-rows.ensures.board ∙ ap (λ b. executed_all b c.args.again.now) (c.undo_all.ensures ∙ ap (λ b. undone_all b c.args.undone.now) same) in
    λ lists front tail can.
    subst (λ (b : Rows). HoldsEach (with_list c.args.room.now (front ++ c.args.again.now) lists) b) (sym done)
    (HoldsEach-replayed lists c.args.room.now front tail c.args.self.now c.args.undone.now c.args.again.now can)

pub returns-clause-others : goal.returns-clause-others
returns-clause-others c =
    let same = copied _ _ c.in_ok-board.ensures in
    let done = c.in_ok-rows.ensures.board ∙ ap (λ b. executed_all b c.args.again.now) (c.undo_all.ensures ∙ ap (λ b. undone_all b c.args.undone.now) same) in
    λ lists front tail can other apart id.
    ap (λ (b : Rows). if_of other (row_at b id)) done
    ∙ others-replayed lists c.args.room.now front tail c.args.self.now c.args.undone.now c.args.again.now can other apart id
