use Rattle.std.proofs.Common.{◌≡◌, sym, ap, ◌∙◌, subst, false, map, List}
use Rattle.mr_model.specs.Dropped.{Has}
use Rattle.mr_model.specs.Replica.{is_among}
use Rattle.mr_model.specs.Tables.{Tables, CancelRow, CancelledRow}
use Rattle.mr_model.specs.Queries.{cancel_id}
use Rattle.mr_agree.specs.Agreeing.{is_taken_by}
use Rattle.mr_audit.proofs.OneRow.{one_passes, none_passes, canceller_of}
use Rattle.mr_audit.proofs.cancels.is_taken_back.Goals as goal

pub returns-in-Some : goal.returns-in-Some
returns-in-Some c =
    let t = c.args.tables.now in
    let id = c.args.row.now.by in
    let rows = c.deref.ensures.value ∙ ap (λ (u : Tables). u.cancels) c.tables.view_is in
    let found = c.in-Some.cancel.now in
    let h = c.in-Some.ensures in
    c.is_taken_by.ensures
    ∙ sym (one_passes cancel_id id (λ x. is_taken_by x c.args.row.now) (λ x e. canceller_of x c.args.row.now e) t.cancels found c.requires.cancels
    (subst (λ (rs : List CancelRow). Has found rs) rows h.0) (h.1 ∙ (ap (λ (r : CancelledRow). r.by) c.row.view_is)))

pub returns-in-None : goal.returns-in-None
returns-in-None c =
    let t = c.args.tables.now in
    let id = c.args.row.now.by in
    let rows = c.deref.ensures.value ∙ ap (λ (u : Tables). u.cancels) c.tables.view_is in
    let asked = (ap (λ (r : CancelledRow). r.by) c.row.view_is) in
    let none : is_among id (map cancel_id t.cancels) ≡ false = (λ i. is_among (sym asked i) (map cancel_id (sym rows i))) ∙ c.in-None.ensures in
    sym (none_passes cancel_id id (λ x. is_taken_by x c.args.row.now) (λ x e. canceller_of x c.args.row.now e) t.cancels none)
