-- The parts of the definition that are tested without memory.
use Rattle.std.specs.Prelude.{Bool, ◌&&◌}
use Rattle.std.specs.List.{list_all}
use Rattle.mr_model.specs.Tables.{Tables}
use Rattle.mr_agree.specs.Agreeing.{does_meta_agree, do_counts_agree, do_ids_agree, do_marks_agree, do_rooms_agree, does_log_agree}
use Rattle.mr_agree.specs.Agreeing.{is_log_whole, notes, does_time_agree, do_places_agree, do_cancels_agree, do_spans_agree, do_limits_agree}
use Rattle.mr_audit.specs.Turns.{are_all_in_turn}

-- all but that bookings don't overlap and that no commit number is that of two writes
abbrev pub do_parts_agree : Tables → Bool
do_parts_agree t =
    does_meta_agree t && do_counts_agree t && do_ids_agree t && do_marks_agree t && do_rooms_agree t && does_log_agree t && is_log_whole t
    && list_all (does_time_agree t) (notes t) && are_all_in_turn t && do_places_agree t && do_cancels_agree t && do_spans_agree t
    && do_limits_agree t
