-- What an open finds of two files is known as well as what a second open would find: its rows are in order.
use Rattle.std.proofs.Common.{◌≡◌, inl, inr, None, sym, subst}
use Rattle.std.proofs.Math.Logic.{∥∥₁_elim}
use Rattle.sqlite_trees.specs.View.{IsOrdered}
use Rattle.sqlite_trees.specs.Props.{IsOrdered-prop}
use Rattle.sqlite_trees.specs.Objects.{catalog_tree, IsListed}
use Rattle.sqlite_store.specs.Listing.{file_trees, all_shapes, all_reals}
use Rattle.sqlite_store.specs.Listed.{catalog_rows, is_listed}
use Rattle.sqlite_store.proofs.ListingLemmas.{all_ordered}
use Rattle.sqlite_pool.specs.File.{in_use, version_in}
use Rattle.sqlite_rules.specs.Lists.{Has}
use Rattle.sqlite_rules.proofs.ListLemmas.{has_filtered}
use Rattle.sqlite_catalog.specs.Listing.{IsSound, IsTableRow}
use Rattle.sqlite.specs.Effect.{Database}
use Rattle.sqlite.specs.State.{State, Opens, IsLive}
use Rattle.sqlite.specs.Recovery.{Image}
use Rattle.sqlite.specs.Files.{AreFoundIn}
use Rattle.mr_rows.specs.Shelf.{HasShelves}
use Rattle.mr_sql.specs.Found.{IsTaken}
use Rattle.mr_sql.proofs.TakenLemmas.{zip_row, has_shelves}

-- The pages of a file have their trees in order; files with nothing in them have no table.
found_shelves : (image : Image) (db : Database) → AreFoundIn image db.trees → IsSound db.schema db.trees → HasShelves db
found_shelves image db (inl h) sound =
    let size = h.0 in
    let pages = h.1 in
    let wanted = h.2 in
    let trees = file_trees size wanted pages in
    let ordered : IsOrdered (all_shapes wanted) trees = ∥∥₁_elim h.4 (IsOrdered-prop (all_shapes wanted) trees) (λ ours. all_ordered ours.file.db (version_in pages)) in
    let listed : IsListed (trees catalog_tree) (all_shapes wanted) (all_reals wanted) =
    subst (λ rows. IsListed rows (all_shapes wanted) (all_reals wanted)) (sym (catalog_rows size wanted (in_use size pages))) (is_listed wanted) in
    has_shelves (all_shapes wanted) (all_reals wanted) trees db ordered listed h.5 sound
found_shelves image db (inr h) sound = λ table here.
    let found = zip_row IsTableRow _ _ table sound.lists.listed.tables here in
    let among = (has_filtered _ (db.trees catalog_tree) found.0 found.1).0 in
    absurd (subst (λ rows. Has rows found.0) h.1.1 among)

pub taken_found : (image : Image) (s : State) → Opens s → IsLive s → AreFoundIn image s.committed.trees → s.step_limit ≡ None → IsTaken s
taken_found image s opens live found unlimited =
    let sound = (live opens.is_open).0 in
    record {
      is_open = opens.is_open;
      settled = opens.clean;
      sound = sound;
      shelves = found_shelves image s.now (subst (λ (db : Database). AreFoundIn image db.trees) (sym opens.clean) found) sound;
      unlimited = unlimited;
    }
