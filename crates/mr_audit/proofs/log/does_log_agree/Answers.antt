use Rattle.std.proofs.Common.{◌∙◌, ◌&&◌, ◌||◌, not, sym, ap, List, map}
use Rattle.std.specs.List.{list_all}
use Rattle.mr_model.specs.Texts.{within}
use Rattle.mr_model.specs.Tables.{Tables, LogRow, ErrorRow, CancelRow}
use Rattle.mr_model.specs.Queries.{log_id, error_id, cancel_id}
use Rattle.mr_agree.specs.Agreeing.{same_mark, is_last, next_id, is_in_log}
use Rattle.mr_audit.specs.SideBySide.{is_placed}
use Rattle.mr_audit.proofs.IdsApart.{rising_distinct, placed_among}
use Rattle.mr_audit.proofs.log.does_log_agree.Goals as goal

pub returns : goal.returns
returns c =
    let t = c.args.tables.now in
    let view = c.tables.view_is in
    let distinct = rising_distinct log_id t.log c.requires.log in
    let placed = c.are_placed-placed.ensures ∙ ap (λ (rows : List LogRow). list_all (λ id. is_placed id t) (map log_id rows)) (c.deref.ensures.value ∙ ap (λ (u : Tables). u.log) view) in
    let next = c.have_next-next.ensures
    ∙ ap (λ (rows : List LogRow). list_all (λ id. is_last t id || is_in_log t (next_id id)) (map log_id rows)) (c.deref-2.ensures.value ∙ ap (λ (u : Tables). u.log) view) in
    let errors = c.are_kept_or_dropped-errors.ensures ∙ ap (λ (rows : List ErrorRow). list_all (λ row. same_mark (is_in_log t (error_id row)) (not (within 1 t.meta.dropped row.seq))) rows)
    (c.deref-3.ensures.value ∙ ap (λ (u : Tables). u.errorlog) view) in
    let cancels = c.are_kept_or_dropped-cancels.ensures ∙ ap (λ (rows : List CancelRow). list_all (λ row. same_mark (is_in_log t (cancel_id row)) (not (within 1 t.meta.dropped row.seq))) rows)
    (c.deref-4.ensures.value ∙ ap (λ (u : Tables). u.cancels) view) in
    let undropped = c.are_undropped-undropped.ensures
    ∙ ap (λ (rows : List LogRow). list_all (λ row. not (within 1 t.meta.dropped row.seq)) rows) (c.deref-5.ensures.value ∙ ap (λ (u : Tables). u.log) view) in
    let among = placed ∙ (λ i. list_all (λ id. placed_among t id i) (map log_id t.log)) in
    λ i. ((((((sym distinct i) && among i) && c.are_all_committed_or_kept-kept.ensures i) && next i) && errors i) && cancels i) && undropped i
