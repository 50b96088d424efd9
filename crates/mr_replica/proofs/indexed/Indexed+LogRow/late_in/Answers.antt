use Rattle.std.proofs.Common.{◌≡◌, ◌||◌, ◌++◌, sym, ap, subst, ◌∙◌, false, rules}
use Rattle.std.proofs.lemmas.Bool.{true≢false}
use Rattle.std.proofs.lemmas.Fn.{filter_same}
use Rattle.std.specs.List.{filter, list_any}
use Rattle.std.specs.Ordering.{is_gt}
use Rattle.std.specs.Str.{bytes_eq}
use Rattle.mr_replay.specs.Seen.{has_room}
use Rattle.mr_part.specs.declared.tail.Tail.TheVariants.{Nothing}
use Rattle.mr_replica.specs.Needed.{is_late_in}
use Rattle.mr_replica.specs.RowKeys.{row_key_cmp, log_key, tail_end, AreBetween, AreThose}
use Rattle.mr_replica.proofs.LateRows.{late_first, late_in_room, late_last, late_next}
use Rattle.mr_replica.proofs.LogEnds.{tail_forward}
use Rattle.mr_replica.proofs.NamedRows.{those_both, those_same}
use Rattle.mr_replica.proofs.indexed.Indexed+LogRow.late_in.Goals as goal

pub loop-room-init : goal.loop-room-init
loop-room-init c = (
  λ r. false,
  subst (AreThose (λ r. false) c.args.self.now.rows) (sym c.new-rows.ensures.items) (λ r h. absurd h, λ r h e. absurd (true≢false (sym e))),
  λ r. ap (λ names. is_late_in (λ name. list_any (bytes_eq name) names) c.args.tail.now r) c.into_iter-room-iterator.ensures.into_iter_gives.0
      ∙ late_first c.args.tail.now c.args.rooms.now r,
)

pub between-requires : goal.between-requires
between-requires c =
    (λ t. is_gt (row_key_cmp (c.tail_end-first.ensures t) (c.tail_end-last.ensures t)))
    ∙ tail_forward c.in-Some.room.now c.args.tail.now

pub loop-room-preserved : goal.loop-room-preserved
loop-room-preserved c =
    let tail = c.args.tail.now in
    let all = c.args.self.now.rows in
    let room = c.in-Some.room.now in
    let rest = c.next.new.self in
    let rows = c.loop-room.rows.items in
    let found = c.in_ok-found.found.items in
    let between : AreBetween log_key (tail_end room tail) (tail_end room Nothing) all found =
    subst (λ k. AreBetween log_key (tail_end room tail) k all found) c.tail_end-last.ensures
    (subst (λ k. AreBetween log_key k c.tail_end-last.result all found) c.tail_end-first.ensures c.in_ok-found.ensures.found) in
    let kept : c.retain.new.self.items ≡ filter (λ r. bytes_eq r.room room) found = filter_same _ (λ r. bytes_eq r.room room) _ (λ x b f k. search rules) _ _ c.retain.ensures.filtered in
    let (q, those, tells) = c.loop-room.invariant in (
      λ r. q r || is_late_in (λ name. bytes_eq name room) tail r,
      subst (AreThose (λ r. q r || is_late_in (λ name. bytes_eq name room) tail r) all) (sym (c.in_ok-append.ensures.items ∙ ap (λ ys. rows ++ ys) kept))
          (those_both q (is_late_in (λ name. bytes_eq name room) tail) all rows (filter (λ r. bytes_eq r.room room) found) those (late_in_room room tail all found between)),
      λ r. late_next tail room rest (q r) r ∙ ap (λ names. q r || is_late_in (λ name. list_any (bytes_eq name) names) tail r) (sym c.in-Some.ensures.steps) ∙ tells r,
    )

pub returns-clause-those : goal.returns-clause-those
returns-clause-those c =
    let tail = c.args.tail.now in
    let (q, those, tells) = c.loop-room.invariant in
    those_same q (is_late_in (has_room c.args.rooms.now) tail) c.args.self.now.rows c.loop-room.rows.items
    (λ r. sym (late_last tail (q r) r) ∙ ap (λ names. q r || is_late_in (λ name. list_any (bytes_eq name) names) tail r) (sym c.in-None.ensures.steps.0) ∙ tells r)
    those
