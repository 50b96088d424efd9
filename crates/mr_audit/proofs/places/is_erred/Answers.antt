use Rattle.std.proofs.Common.{◌≡◌, sym, ap, ◌∙◌, subst, false, map, List}
use Rattle.mr_model.specs.Dropped.{Has}
use Rattle.mr_model.specs.Replica.{is_among}
use Rattle.mr_model.specs.Slots.{slot_in}
use Rattle.mr_model.specs.Tables.{Tables, ErrorRow}
use Rattle.mr_model.specs.Queries.{error_id, log_id}
use Rattle.mr_agree.specs.Agreeing.{same_error, logged_row}
use Rattle.mr_audit.proofs.OneRow.{one_passes, none_passes, id_first_of_seven}
use Rattle.mr_audit.proofs.places.is_erred.Goals as goal

pub returns-in-Some : goal.returns-in-Some
returns-in-Some c =
    let t = c.args.tables.now in
    let row = logged_row c.args.row.now c.args.cells.now (slot_in c.args.day.now c.args.time.now) in
    let rows = c.deref.ensures.value ∙ ap (λ (u : Tables). u.errorlog) c.tables.view_is in
    let found = c.in-Some.error.now in
    let h = c.in-Some.ensures in
    c.is_same_error.ensures
    ∙ sym (one_passes error_id (log_id c.args.row.now) (same_error row) (λ r e. id_first_of_seven (error_id row) (error_id r) _ _ _ _ _ _ e) t.errorlog found c.requires.errorlog
    (subst (λ (rs : List ErrorRow). Has found rs) rows h.0) (h.1 ∙ c.id.ensures))

pub returns-in-None : goal.returns-in-None
returns-in-None c =
    let t = c.args.tables.now in
    let row = logged_row c.args.row.now c.args.cells.now (slot_in c.args.day.now c.args.time.now) in
    let rows = c.deref.ensures.value ∙ ap (λ (u : Tables). u.errorlog) c.tables.view_is in
    let none : is_among (log_id c.args.row.now) (map error_id t.errorlog) ≡ false = (λ i. is_among (sym c.id.ensures i) (map error_id (sym rows i))) ∙ c.in-None.ensures in
    sym (none_passes error_id (log_id c.args.row.now) (same_error row) (λ r e. id_first_of_seven (error_id row) (error_id r) _ _ _ _ _ _ e) t.errorlog none)
