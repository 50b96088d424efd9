use Rattle.std.proofs.Common.{◌≡◌, ◌∙◌, Some, None, cond, ap, sym}
use Rattle.std.specs.Option.{option_copied}
use Rattle.mr_replay.specs.Rows.{row_at}
use Rattle.mr_replay.proofs.SeenRows.{if_seen, row_at-seen}
use Rattle.mr_replay.proofs.seen.row_in_rooms.Goals as goal

pub returns-then-is_in_rooms : goal.returns-then-is_in_rooms
returns-then-is_in_rooms c =
    let rooms = c.args.rooms.now in
    let b = c.args.board.now in
    let row = c.in-Some.row.now in
    let there : row_at b c.args.id ≡ Some row = sym c.row.ensures ∙ ap option_copied c.in-Some.is in
    let seen = sym c.is_in_rooms.ensures ∙ c.if-is_in_rooms.true in
    sym (row_at-seen rooms b c.args.id c.is_in_order.ensures ∙ ap (if_seen rooms) there ∙ ap (λ t. cond t (Some row) None) seen)

pub returns-else-is_in_rooms : goal.returns-else-is_in_rooms
returns-else-is_in_rooms c =
    let rooms = c.args.rooms.now in
    let b = c.args.board.now in
    let row = c.in-Some.row.now in
    let there : row_at b c.args.id ≡ Some row = sym c.row.ensures ∙ ap option_copied c.in-Some.is in
    let unseen = sym c.is_in_rooms.ensures ∙ c.if-is_in_rooms.false in
    sym (row_at-seen rooms b c.args.id c.is_in_order.ensures ∙ ap (if_seen rooms) there ∙ ap (λ t. cond t (Some row) None) unseen)

pub returns-in-None : goal.returns-in-None
returns-in-None c =
    let rooms = c.args.rooms.now in
    let b = c.args.board.now in
    let none : row_at b c.args.id ≡ None = sym c.row.ensures ∙ ap option_copied c.in-None.is in
    sym (row_at-seen rooms b c.args.id c.is_in_order.ensures ∙ ap (if_seen rooms) none)
