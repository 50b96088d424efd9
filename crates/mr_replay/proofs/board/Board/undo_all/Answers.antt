use Rattle.std.proofs.Common.{◌≡◌, ◌+◌, ◌-◌, take, ap, ◌∙◌, arith}
use Rattle.mr_replay.specs.Rows.{undone, undone_all}
use Rattle.mr_replay.proofs.Redoing.{undo_more}
use Rattle.mr_replay.proofs.board.Board.undo_all.Goals as goal

pub loop-left-preserved : goal.loop-left-preserved
loop-left-preserved c =
    let rows = c.args.rows.now in
    let left = c.loop-left.left in
    let same : left - 1 + 1 ≡ left = omega arith in
    let last = c.index-rows-left.result in (
      omega arith,
      ap (λ b. undone_all b (take (left - 1) rows)) c.undo.ensures.board
          ∙ ap (λ u. undone_all (undone c.loop-left.self u) (take (left - 1) rows)) c.index-rows-left.is
          ∙ undo_more c.loop-left.self rows (left - 1) last (omega arith)
          ∙ ap (λ n. undone_all c.loop-left.self (take n rows)) same ∙ c.loop-left.invariant.1,
    )
