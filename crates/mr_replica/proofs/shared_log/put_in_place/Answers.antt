use Rattle.std.proofs.Common.{◌≡◌, ◌∙◌, ◌+◌, ◌++◌, ◌∷◌, List, take, drop, slice_set, sym, ap, subst, rules}
use Rattle.mr_model.proofs.Members.{take_drop, Sorted, sorted_right}
use Rattle.mr_model.specs.Queries.{log_id}
use Rattle.mr_tables.specs.Change.{id_before, put}
use Rattle.mr_part.specs.declared.kept_rows.KeptRow.{KeptRow}
use Rattle.mr_replica.specs.SharedLog.{AreKeptInRunOrder, IsSharedLog}
use Rattle.mr_replica.proofs.SharedLogs.{next_drop, one_again, set_at, sorted_left}
use Rattle.mr_replica.proofs.shared_log.put_in_place.Goals as goal

pub returns : goal.returns
returns c = λ log told old rest order is t there same.
    let rows = c.args.rows.now.items in
    let at = c.args.at in
    let row = c.args.row in
    let whole : take at rows ++ old ∷ rest ≡ rows = ap (λ zs. take at rows ++ zs) (sym there) ∙ take_drop at rows in
    let shared : IsSharedLog log (take at rows ++ old ∷ rest) = subst (IsSharedLog log) (sym whole) is in
    let next : drop (at + 1) rows ≡ rest = next_drop rows at old rest there in
    let before : c.split_at.result.0.now ≡ take at rows = search rules in
    let behind : c.split_at-2.result.1.now ≡ rest = search (rules, next) in
    let front_order : AreKeptInRunOrder (take at rows) = sorted_left _ (take at rows) (old ∷ rest) shared.order in
    let back_order : AreKeptInRunOrder rest = (sorted_right _ (take at rows) (old ∷ rest) shared.order).1 in
    let front = c.is_behind.ensures (subst AreKeptInRunOrder (sym before) front_order) (search rules) in
    let back = c.is_in_front.ensures (subst AreKeptInRunOrder (sym behind) back_order) (search rules) in
    subst (IsSharedLog (put id_before log_id told log)) (sym (set_at rows at old row rest there))
    (one_again log told (take at rows) rest old row order shared t same
    (λ y h. front y (subst (λ zs. Rattle.mr_model.specs.Dropped.Has y zs) (sym before) h))
    (λ y h. back y (subst (λ zs. Rattle.mr_model.specs.Dropped.Has y zs) (sym behind) h)))
