-- The tables that trees hold, as a scan shows them.
use Rattle.std.specs.Prelude.{◌≡◌, Bool, if◌then◌else◌, List, [], ◌∷◌}
use Rattle.sqlite_value.specs.Order.{Row}
use Rattle.sqlite_trees.specs.Tree.{Trees}
use Rattle.mr_model.specs.Tables.{Tables}
use Rattle.mr_rows.specs.Form.{Form, meta_form, room_form, vector_form, log_form, booking_form, error_form, cancelled_form, cancel_form}
use Rattle.mr_rows.specs.Database.{AreHeld, first_meta, tables_in}

-- a row in its place, before those that have its key
abbrev pub insert_row : {R K : Type 0} → (K → K → Bool) → (R → K) → R → List R → List R
insert_row before key x [] = x ∷ []
insert_row before key x (y ∷ ys) = if before (key y) (key x) then y ∷ insert_row before key x ys else x ∷ y ∷ ys

-- the plain rows in the order of their keys; of rows with one key each is there
abbrev pub sorted_rows : {R K : Type 0} → Form R K → List Row → List R
sorted_rows f [] = []
sorted_rows f (r ∷ rs) = insert_row f.before f.key (f.row_in r) (sorted_rows f rs)

unfoldable pub tables_shown : Trees → Tables
tables_shown trees = record {
  meta = first_meta (sorted_rows meta_form (trees 0));
  room = sorted_rows room_form (trees 2);
  vector = sorted_rows vector_form (trees 4);
  log = sorted_rows log_form (trees 14);
  booking = sorted_rows booking_form (trees 10);
  errorlog = sorted_rows error_form (trees 12);
  cancelled = sorted_rows cancelled_form (trees 16);
  cancels = sorted_rows cancel_form (trees 18);
}

-- they are the tables that a keeper has of the same trees
abbrev pub HeldTablesAreShown : Type 0
HeldTablesAreShown = (trees : Trees) → AreHeld trees → tables_shown trees ≡ tables_in trees
