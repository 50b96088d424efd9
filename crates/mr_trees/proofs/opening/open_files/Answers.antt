use Rattle.std.proofs.Common.{◌≡◌, ℕ, List, Bool, true, false, if◌then◌else◌, refl, sym, ap, subst, ◌∙◌}
use Rattle.sqlite_disk.specs.declared.Disk.{Ghosts}
use Rattle.sqlite_wal.specs.Recovery.{Image}
use Rattle.sqlite_wal.specs.Files.{seen_image}
use Rattle.sqlite_pool.specs.Stored.{Recovers}
use Rattle.sqlite_trees.specs.Tree.{no_trees}
use Rattle.sqlite_trees.specs.View.{doubt}
use Rattle.sqlite_store.specs.Catalog.{Describes}
use Rattle.sqlite_store.specs.FileStore.{state, view, schema_of, IsReady}
use Rattle.sqlite_store.specs.Unopened.{files_of, state_of}
use Rattle.sqlite_store.specs.Listing.{file_trees}
use Rattle.sqlite_store.specs.Saved.{kept_schema}
use Rattle.sqlite_store.specs.declared.catalog.Wanted.{Wanted}
use Rattle.sqlite_store.specs.declared.store.FileStore.{FileStore}
use Rattle.mr_trees.proofs.opening.open_files.Goals as goal

clean_is : (b : Bool) → doubt b ≡ 0 → b ≡ true
unfolding doubt
clean_is true h = refl
clean_is false h = absurd (cc h)

module _ {D : Type 0} {g : Ghosts D} where
  read_from : (it : FileStore D g) → IsReady it → (state it).is_clean ≡ true → (view it).trees ≡ file_trees (state it).page_size (schema_of it) (state it).committed
  read_from it ready clean =
      ready.clean ∙ ap (λ b. if b then file_trees (state it).page_size (kept_schema it.saved (schema_of it)) (state it).committed else no_trees) clean
      ∙ ap (λ s. file_trees (state it).page_size (kept_schema s (schema_of it)) (state it).committed) ready.unaltered

pub returns-clause-found : goal.returns-clause-found
returns-clause-found g c clean =
    let it = c.in_ok-store.store in
    let fresh = c.in-Ok-new.fresh in
    let up = clean_is (state it).is_clean clean in
    let size = c.in-Ok-new.ensures.size ∙ c.in-Ok.ensures.size ∙ c.in_ok-size.ensures.value in
    let pair = c.in-Ok-new.ensures.files ∙ c.in-Ok.ensures.files in
    let image : seen_image g.D.Disk (files_of fresh).0 (files_of fresh).1 ≡ seen_image g.D.Disk c.args.files.log c.args.files.db = ap (λ f. seen_image g.D.Disk f.0 f.1) pair in
    let wide = c.in_ok-store.ensures.size up ∙ size in (
      c.args.schema.now,
      (
        (state it).committed,
        schema_of it,
        subst (λ (w : List Wanted). Describes w c.args.schema.now) (sym c.in_ok-store.ensures.schema) c.in-Ok-new.ensures.schema,
        subst (λ (n : ℕ). Recovers n (seen_image g.D.Disk c.args.files.log c.args.files.db) (state it).committed) size
            (subst (λ (i : Image). Recovers (state_of fresh).page_size i (state it).committed) image (c.in_ok-store.ensures.found up)),
        read_from it c.in_ok-store.ensures.ready up ∙ ap (λ n. file_trees n (schema_of it) (state it).committed) wide,
      ),
    )
