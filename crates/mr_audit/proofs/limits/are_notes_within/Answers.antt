use Rattle.std.proofs.Common.{◌&&◌, ◌++◌, List, map, sym, ap, ◌∙◌}
use Rattle.std.proofs.lemmas.List.Folds.{list_all-map}
use Rattle.std.specs.List.{list_all}
use Rattle.mr_model.specs.Writes.{is_id, is_time}
use Rattle.mr_model.specs.Tables.{Tables, LogRow, ErrorRow, CancelRow}
use Rattle.mr_agree.specs.Agreeing.{Note, log_note, error_note, cancel_note}
use Rattle.mr_audit.proofs.Mapped.{all_mapped}
use Rattle.mr_audit.proofs.limits.are_notes_within.Goals as goal

pub returns : goal.returns
returns c =
    let t = c.args.tables.now in
    let logs = c.are_logs_within-logs.ensures
    ∙ ap (λ (rows : List LogRow). list_all (λ row. is_id (log_note row).id && is_time (log_note row).time) rows) (c.deref.ensures.value ∙ ap (λ (x : Tables). x.log) c.tables.view_is) in
    let errors = c.are_errors_within-errors.ensures ∙ ap (λ (rows : List ErrorRow). list_all (λ row. is_id (error_note row).id && is_time (error_note row).time) rows)
    (c.deref-2.ensures.value ∙ ap (λ (x : Tables). x.errorlog) c.tables.view_is) in
    let cancels = c.are_cancels_within-cancels.ensures ∙ ap (λ (rows : List CancelRow). list_all (λ row. is_id (cancel_note row).id && is_time (cancel_note row).time) rows)
    (c.deref-3.ensures.value ∙ ap (λ (x : Tables). x.cancels) c.tables.view_is) in
    (λ i. logs i && (errors i && cancels i))
    ∙ sym (all_mapped (λ (a : Note). is_id a.id && is_time a.time) log_note t.log (map error_note t.errorlog ++ map cancel_note t.cancels)
    ∙ ap (λ b. list_all (λ row. is_id (log_note row).id && is_time (log_note row).time) t.log && b)
    (all_mapped (λ (a : Note). is_id a.id && is_time a.time) error_note t.errorlog (map cancel_note t.cancels)
    ∙ ap (λ b. list_all (λ row. is_id (error_note row).id && is_time (error_note row).time) t.errorlog && b) (list_all-map (λ (a : Note). is_id a.id && is_time a.time) cancel_note t.cancels)))
