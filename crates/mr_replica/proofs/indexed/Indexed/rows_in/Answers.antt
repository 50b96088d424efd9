use Rattle.std.proofs.Common.{◌≡◌, sym, ap, subst, refl, ◌∙◌, None, rules}
use Rattle.std.proofs.lemmas.Fn.{filter_same}
use Rattle.std.specs.List.{filter}
use Rattle.std.specs.List.Sorted.{IsPermutation}
use Rattle.std.specs.Str.{bytes_eq}
use Rattle.mr_replica.specs.RowKeys.{row_end_key, is_between, numbered, AreBetween}
use Rattle.mr_replica.proofs.Listed.{ends_rise, inside}
use Rattle.mr_replica.proofs.ByKeys.{picked}
use Rattle.mr_replica.proofs.indexed.Indexed.rows_in.Goals as goal

pub between-requires : goal.between-requires
between-requires g c = ends_rise c.args.room.now None c.end_key-first.result c.end_key-last.result c.end_key-first.ensures c.end_key-last.ensures

pub returns : goal.returns
returns g c =
    let id = g.R.IdRow.id in
    let key = g.R.KeyedRow.second_key in
    let room = c.args.room.now in
    let all = c.args.self.now.rows in
    let rows = c.in_ok-rows.rows.items in
    let first = row_end_key 0 room None in
    let last = row_end_key 2 room None in
    let kept : c.retain.new.self.items ≡ filter (λ r. bytes_eq (g.R.IdRow.room r) room) rows =
    filter_same _ (λ r. bytes_eq (g.R.IdRow.room r) room) _ (λ x b f k. search rules) _ _ c.retain.ensures.filtered in
    let found : AreBetween key first last all rows = subst (λ k. AreBetween key first k all rows) c.end_key-last.ensures
    (subst (λ k. AreBetween key k c.end_key-last.result all rows) c.end_key-first.ensures c.in_ok-rows.ensures.found) in
    subst (IsPermutation (filter (λ r. bytes_eq (g.R.IdRow.room r) room) all)) (sym kept)
    (picked id key g.met.R.KeyedRow.has_id first last all rows (λ r. bytes_eq (g.R.IdRow.room r) room) c.between.ensures.order found
    (λ r same. ap (is_between first last) (c.requires r) ∙ inside room None (g.R.IdRow.room r) (numbered 0) 0 (id r) same refl))
