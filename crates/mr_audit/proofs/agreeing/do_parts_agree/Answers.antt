use Rattle.std.proofs.Common.{◌&&◌}
use Rattle.mr_audit.proofs.agreeing.do_parts_agree.Goals as goal

pub returns : goal.returns
returns c =
    let marks = c.do_marks_agree-marks.ensures c.summary_of-summary.ensures in
    λ i. c.does_meta_agree-meta.ensures i && c.do_counts_agree-counts.ensures i && c.do_ids_agree-ids.ensures i && marks i
    && c.do_rooms_agree-rooms.ensures i && c.does_log_agree-log.ensures i && c.is_log_whole-whole.ensures i && c.do_last_times_agree-times.ensures i
    && c.are_all_in_turn-turns.ensures i && c.do_places_agree-places.ensures i && c.do_cancels_agree-cancels.ensures i && c.do_spans_agree-spans.ensures i
    && c.do_limits_agree-limits.ensures i
