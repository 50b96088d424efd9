-- The rows of `meta` and `vector`, which each question tests beside those that it asks for.
use Rattle.std.specs.Prelude.{Bool, ◌&&◌}
use Rattle.mr_model.specs.Tables.{Tables}
use Rattle.mr_agree.specs.Agreeing.{does_meta_agree, do_counts_agree}

-- they agree with each other
abbrev pub do_numbers_agree : Tables → Bool
do_numbers_agree t = does_meta_agree t && do_counts_agree t
