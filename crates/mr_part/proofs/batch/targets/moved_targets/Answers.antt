use Rattle.std.proofs.Common.{◌<◌, ◌≤◌, ◌∙◌, length, map, ap, arith}
use Rattle.std.proofs.lemmas.List.{length-map}
use Rattle.mr_tables.specs.Cells.{place_row_of}
use Rattle.mr_part.specs.Targets.{taken_by}
use Rattle.mr_part.proofs.TargetRows.{has_at, targets_more, targets_all}
use Rattle.mr_part.proofs.batch.targets.moved_targets.Goals as goal

pub loop-k-preserved : goal.loop-k-preserved
loop-k-preserved c = λ old ends was.
    let ws = c.args.writes.now in
    let k = c.loop-k.k in
    let w = c.index-writes-k.result in
    let low : k < length ws = omega (arith, c.loop-k-test.true, c.min-count.ensures) in
    targets_more c.args.summary.now.tallies old c.args.board.now ws c.args.was.now k w c.index-was-k.result
    (map place_row_of c.loop-k.rows.items) (map place_row_of c.push_if_moved.new.rows.items) low c.index-writes-k.is c.index-was-k.is was
    (c.loop-k.invariant old ends was) (c.in_ok-push_if_moved.ensures.rows (ends w (has_at ws k w low c.index-writes-k.is)))

pub returns-clause-rows : goal.returns-clause-rows
returns-clause-rows c = λ old ends was.
    let ws = c.args.writes.now in
    let size = ap length was ∙ length-map ws (taken_by old) in
    let all : length ws ≤ c.loop-k.k = omega (arith, c.loop-k-test.false, c.min-count.ensures, size) in
    targets_all c.args.summary.now.tallies old c.args.board.now ws c.loop-k.k (map place_row_of c.loop-k.rows.items) all (c.loop-k.invariant old ends was)
