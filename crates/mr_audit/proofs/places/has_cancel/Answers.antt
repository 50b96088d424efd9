use Rattle.std.proofs.Common.{◌≡◌, sym, ap, ◌∙◌, subst, false, map, List}
use Rattle.mr_model.specs.Dropped.{Has}
use Rattle.mr_model.specs.Replica.{is_among}
use Rattle.mr_model.specs.Tables.{Tables, CancelRow}
use Rattle.mr_model.specs.Queries.{cancel_id, log_id}
use Rattle.mr_agree.specs.Agreeing.{same_cancel, cancelling_row}
use Rattle.mr_audit.proofs.OneRow.{one_passes, none_passes, id_first}
use Rattle.mr_audit.proofs.places.has_cancel.Goals as goal

pub returns-in-Some : goal.returns-in-Some
returns-in-Some c =
    let t = c.args.tables.now in
    let row = cancelling_row c.args.row.now c.args.target c.args.done in
    let rows = c.deref.ensures.value ∙ ap (λ (u : Tables). u.cancels) c.tables.view_is in
    let found = c.in-Some.cancel.now in
    let h = c.in-Some.ensures in
    c.is_same_cancel.ensures
    ∙ sym (one_passes cancel_id (log_id c.args.row.now) (same_cancel row) (λ r e. id_first (cancel_id row) (cancel_id r) _ _ _ _ _ e) t.cancels found c.requires.cancels
    (subst (λ (rs : List CancelRow). Has found rs) rows h.0) (h.1 ∙ c.id.ensures))

pub returns-in-None : goal.returns-in-None
returns-in-None c =
    let t = c.args.tables.now in
    let row = cancelling_row c.args.row.now c.args.target c.args.done in
    let rows = c.deref.ensures.value ∙ ap (λ (u : Tables). u.cancels) c.tables.view_is in
    let none : is_among (log_id c.args.row.now) (map cancel_id t.cancels) ≡ false = (λ i. is_among (sym c.id.ensures i) (map cancel_id (sym rows i))) ∙ c.in-None.ensures in
    sym (none_passes cancel_id (log_id c.args.row.now) (same_cancel row) (λ r e. id_first (cancel_id row) (cancel_id r) _ _ _ _ _ e) t.cancels none)
