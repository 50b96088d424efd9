use Rattle.std.proofs.Common.{Bool, ◌&&◌, ◌++◌, List, map, sym, ap, subst, ◌∙◌}
use Rattle.std.proofs.lemmas.List.Folds.{list_all-map}
use Rattle.std.specs.Prelude.{bytes_eq}
use Rattle.std.specs.List.{list_all, list_any}
use Rattle.mr_model.specs.Texts.{Text}
use Rattle.mr_model.specs.Replica.{text_before}
use Rattle.mr_tables.specs.Rise.{Rise}
use Rattle.mr_model.specs.Tables.{Tables, BookingRow, ErrorRow, CancelledRow, CancelRow, LogRow}
use Rattle.mr_audit.proofs.Mapped.{all_mapped}
use Rattle.mr_audit.proofs.rooms.do_rooms_agree.Goals as goal

pub returns : goal.returns
returns c =
    let t = c.args.tables.now in
    let known : Text → Bool = λ room. list_any (bytes_eq room) t.room in
    let logs = map (λ (row : LogRow). row.room) t.log in
    let cancels = map (λ (row : CancelRow). row.room) t.cancels ++ logs in
    let cancelled = map (λ (row : CancelledRow). row.room) t.cancelled ++ cancels in
    let errors = map (λ (row : ErrorRow). row.room) t.errorlog ++ cancelled in
    c.are_rooms_known.ensures (λ yes. subst (λ (names : List Text). Rise text_before (λ (name : Text). name) names)
    (c.deref.ensures.value ∙ ap (λ (x : Tables). x.room) c.tables.view_is) (c.are_rooms_rising-is_sorted.ensures.0 yes))
    ∙ sym (all_mapped known (λ (row : BookingRow). row.room) t.booking errors
    ∙ ap (λ b. list_all (λ row. known row.room) t.booking && b) (all_mapped known (λ (row : ErrorRow). row.room) t.errorlog cancelled
    ∙ ap (λ b. list_all (λ row. known row.room) t.errorlog && b) (all_mapped known (λ (row : CancelledRow). row.room) t.cancelled cancels
    ∙ ap (λ b. list_all (λ row. known row.room) t.cancelled && b) (all_mapped known (λ (row : CancelRow). row.room) t.cancels logs
    ∙ ap (λ b. list_all (λ row. known row.room) t.cancels && b) (list_all-map known (λ (row : LogRow). row.room) t.log)))))
