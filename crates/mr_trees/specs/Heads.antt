-- The rows that say how many writes and commits a replica has.
use Rattle.std.specs.Prelude.{Bool, ◌&&◌, [], map}
use Rattle.sqlite_trees.specs.Tree.{Trees}
use Rattle.mr_model.specs.Tables.{Tables}
use Rattle.mr_agree.specs.Agreeing.{does_meta_agree, do_counts_agree}
use Rattle.mr_rows.specs.RowCells.{meta_in, vector_row_from}
use Rattle.mr_rows.specs.Database.{first_meta}

-- those of `meta` and `vector`, in the order of the trees, and no others
abbrev pub heads_in : Trees → Tables
heads_in trees = record {
  meta = first_meta (map meta_in (trees 0));
  room = [];
  vector = map vector_row_from (trees 4);
  log = [];
  booking = [];
  errorlog = [];
  cancelled = [];
  cancels = [];
}

abbrev pub do_heads_agree : Trees → Bool
do_heads_agree trees = does_meta_agree (heads_in trees) && do_counts_agree (heads_in trees)
