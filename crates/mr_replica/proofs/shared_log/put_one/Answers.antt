use Rattle.std.proofs.Common.{◌≡◌, ◌∙◌, ◌++◌, ◌∷◌, true, take, drop, sym, subst, rules}
use Rattle.mr_model.proofs.Members.{sorted_right, take_drop}
use Rattle.mr_model.specs.Dropped.{Has}
use Rattle.mr_model.specs.Queries.{log_id}
use Rattle.mr_tables.specs.Change.{id_before, put}
use Rattle.mr_replica.specs.SharedLog.{AreKeptInRunOrder, IsSharedLog}
use Rattle.mr_replica.proofs.SharedLogs.{one_new, sorted_left, told_id}
use Rattle.mr_replica.proofs.shared_log.put_one.Goals as goal

pub returns-then-is_first : goal.returns-then-is_first
returns-then-is_first c = λ log told order is t new.
    let rows = c.args.rows.now.items in
    let (x, rest, there, same) = c.is_first.ensures c.if-is_first.true in
    let back : c.split_at.result.1.now ≡ drop c.partition_point-at.result rows = search rules in
    c.put_in_place.ensures log told x rest order is t (sym back ∙ there) (same ∙ c.id.ensures ∙ told_id told c.args.row t)

pub returns : goal.returns
returns c = λ log told order is t new.
    let rows = c.args.rows.now.items in
    let at = c.partition_point-at.result in
    let row = c.args.row in
    let shared : IsSharedLog log (take at rows ++ drop at rows) = subst (IsSharedLog log) (sym (take_drop at rows)) is in
    let before : c.split_at.result.0.now ≡ take at rows = search rules in
    let behind : c.split_at.result.1.now ≡ drop at rows = search rules in
    let front = c.is_behind.ensures (subst AreKeptInRunOrder (sym before) (sorted_left _ (take at rows) (drop at rows) shared.order)) (search rules) in
    let back = c.is_in_front.ensures (subst AreKeptInRunOrder (sym behind) (sorted_right _ (take at rows) (drop at rows) shared.order)) (search rules) in
    let is_new : c.args.is_new ≡ true = search rules in
    subst (IsSharedLog (put id_before log_id told log)) (sym c.in_ok-insert.ensures.items)
    (one_new log told (take at rows) (drop at rows) row order shared t (new is_new)
    (λ y h. front y (subst (Has y) (sym before) h))
    (λ y h. back y (subst (Has y) (sym behind) h)))
