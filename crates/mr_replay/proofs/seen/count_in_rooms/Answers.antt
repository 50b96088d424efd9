use Rattle.std.proofs.Common.{rules, ◌≡◌, ◌∙◌, ap, length, List, map}
use Rattle.std.proofs.lemmas.Map.Iter.{iter_end}
use Rattle.std.specs.List.{filter}
use Rattle.std.specs.Map.{values_of}
use Rattle.mr_replay.specs.declared.rows.Row.{Row}
use Rattle.mr_replay.specs.Seen.{is_in_rooms}
use Rattle.mr_replay.proofs.SeenRows.{count-values}
use Rattle.mr_replay.proofs.seen.count_in_rooms.Goals as goal

pub returns : goal.returns
returns c =
    let all : map (λ row. row.now) c.loop-row.yielded ≡ values_of c.board.inside.rows.entries = search (rules, iter_end) in
    c.loop-row.invariant.counted ∙ ap (λ (rows : List Row). length (filter (is_in_rooms c.args.rooms.now) rows)) (all ∙ ap values_of c.board.view_is) ∙ count-values c.args.rooms.now c.args.board.now
