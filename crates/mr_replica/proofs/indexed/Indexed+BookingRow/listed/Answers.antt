use Rattle.std.proofs.Common.{◌≡◌, sym, subst, rules}
use Rattle.std.proofs.lemmas.Fn.{filter_same}
use Rattle.std.specs.List.{filter}
use Rattle.mr_replica.specs.Calendar.{is_asked, AreListed}
use Rattle.mr_replica.specs.RowKeys.{booking_key, row_end_key, AreBetween}
use Rattle.mr_replica.proofs.Listed.{ends_rise, listed}
use Rattle.mr_replica.proofs.indexed.Indexed+BookingRow.listed.Goals as goal

pub between-requires : goal.between-requires
between-requires c = ends_rise c.args.room.now c.args.day.now c.end_key-first.result c.end_key-last.result c.end_key-first.ensures c.end_key-last.ensures

pub returns : goal.returns
returns c =
    let room = c.args.room.now in
    let day = c.args.day.now in
    let all = c.args.self.now.rows in
    let rows = c.in_ok-rows.rows.items in
    let kept : c.retain.new.self.items ≡ filter (is_asked room day) rows = filter_same _ (is_asked room day) _ (λ x b f k. search rules) _ _ c.retain.ensures.filtered in
    subst (AreListed room day all) (sym kept)
    (listed room day all rows c.between.ensures.order
    (subst (λ k. AreBetween booking_key (row_end_key 0 room day) k all rows) c.end_key-last.ensures
    (subst (λ k. AreBetween booking_key k c.end_key-last.result all rows) c.end_key-first.ensures c.in_ok-rows.ensures.found)))
