use Rattle.std.proofs.Common.{◌≡◌, sym, ap, ◌∙◌, subst, false, map, List}
use Rattle.mr_model.specs.Dropped.{Has}
use Rattle.mr_model.specs.Replica.{is_among}
use Rattle.mr_model.specs.Tables.{Tables, CancelRow, CancelledRow}
use Rattle.mr_model.specs.Queries.{cancelled_id}
use Rattle.mr_agree.specs.Agreeing.{is_taken_by}
use Rattle.mr_audit.proofs.OneRow.{one_passes, none_passes, target_of}
use Rattle.mr_audit.proofs.cancels.is_done.Goals as goal

pub returns-in-Some : goal.returns-in-Some
returns-in-Some c =
    let t = c.args.tables.now in
    let id = c.args.cancel.now.target in
    let rows = c.deref.ensures.value ∙ ap (λ (u : Tables). u.cancelled) c.tables.view_is in
    let found = c.in-Some.row.now in
    let h = c.in-Some.ensures in
    c.is_taken_by.ensures
    ∙ sym (one_passes cancelled_id id (is_taken_by c.args.cancel.now) (λ x e. target_of c.args.cancel.now x e) t.cancelled found c.requires.cancelled
    (subst (λ (rs : List CancelledRow). Has found rs) rows h.0) (h.1 ∙ (ap (λ (r : CancelRow). r.target) c.cancel.view_is)))

pub returns-in-None : goal.returns-in-None
returns-in-None c =
    let t = c.args.tables.now in
    let id = c.args.cancel.now.target in
    let rows = c.deref.ensures.value ∙ ap (λ (u : Tables). u.cancelled) c.tables.view_is in
    let asked = (ap (λ (r : CancelRow). r.target) c.cancel.view_is) in
    let none : is_among id (map cancelled_id t.cancelled) ≡ false = (λ i. is_among (sym asked i) (map cancelled_id (sym rows i))) ∙ c.in-None.ensures in
    sym (none_passes cancelled_id id (is_taken_by c.args.cancel.now) (λ x e. target_of c.args.cancel.now x e) t.cancelled none)
