-- What is known of a database that was taken over: the rowids of its tables are integers and rise, and its rows, once read, are a keeper's.
use Rattle.std.proofs.Common.{◌≡◌, ◌≢◌, ◌⊎◌, inl, inr, ℕ, pos, ◌+◌, List, [], ◌∷◌, true, refl, length, sym, ap, subst, ◌∙◌, arith}
use Rattle.std.specs.List.{AllZip}
use Rattle.std.specs.Ordering.{is_eq}
use Rattle.std.proofs.lemmas.Cmp.{tied_itself}
use Rattle.sqlite_value.specs.declared.value.Value.TheVariants.{Int}
use Rattle.sqlite_value.specs.Order.{column, value_cmp}
use Rattle.sqlite_value.proofs.OrderLemmas.{value_cmp_total}
use Rattle.sqlite_trees.specs.declared.store.Shape.{Shape}
use Rattle.sqlite_trees.specs.declared.store.Shape.TheVariants as shape
use Rattle.sqlite_trees.specs.Tree.{Trees, has_rowid}
use Rattle.sqlite_trees.specs.View.{IsShaped, IsOrdered}
use Rattle.sqlite_trees.specs.Objects.{catalog_tree, number_in, row_for, shape_code, IsListed}
use Rattle.sqlite_schema.specs.declared.schema.Table.{Table}
use Rattle.sqlite_schema.specs.declared.schema.Schema.{Schema}
use Rattle.sqlite_rules.specs.Lists.{Has}
use Rattle.sqlite_rules.proofs.ListLemmas.{has_filtered}
use Rattle.sqlite_rules.proofs.PlaceLemmas.{row_at_is}
use Rattle.sqlite_catalog.specs.Listing.{IsSound, IsTableRow}
use Rattle.sqlite_catalog.proofs.ReadLemmas.{lists_once}
use Rattle.sqlite.specs.Effect.{Database}
use Rattle.sqlite.specs.State.{State}
use Rattle.mr_model.specs.Tables.{MetaRow}
use Rattle.mr_base.specs.declared.refusals.Refusal.{Refusal}
use Rattle.mr_base.specs.declared.refusals.Refusal.TheVariants as refusal
use Rattle.mr_rows.specs.Schema.{no_schema, first_schema, our_schema}
use Rattle.mr_rows.specs.Database.{IsOurs, IsKept, tables_in}
use Rattle.mr_rows.specs.Shelf.{HasShelves, IsShelf}
use Rattle.mr_rows.specs.Shown.{AreOurRows}
use Rattle.mr_rows.proofs.FoundLemmas.{all_held}
use Rattle.mr_first.specs.FirstDatabase.{first_in}
use Rattle.mr_sql.specs.declared.adopt.Whose.{Whose}
use Rattle.mr_sql.specs.declared.adopt.Whose.TheVariants as whose
use Rattle.mr_sql.specs.Found.{LeavesTables, IsTaken, IsResumed, Names, StaysAs}
use Rattle.mr_sql.specs.Refused.{AreSomebodys, HasNoMeta, IsNobodys}
use Rattle.mr_sql.specs.Opening.{AreStrangeTo, AreTakenAs, MayFailFor, Suits}

pub zip_row : {A B : Type 0} (R : A → B → Type 0) (xs : List A) (ys : List B) (y : B) → AllZip R xs ys → Has ys y → (x : A) × Has xs x × R x y
zip_row R [] [] y all h = absurd h
zip_row R [] (z ∷ ys) y all h = absurd all
zip_row R (x ∷ xs) [] y all h = absurd all
zip_row R (x ∷ xs) (z ∷ ys) y all (inl is) = (x, inl refl, subst (R x) (sym is) all.0)
zip_row R (x ∷ xs) (z ∷ ys) y all (inr h) = let it = zip_row R xs ys y all.1 h in (it.0, inr it.1, it.2)

is_table : (s : Shape) → shape_code s ≡ 1 → s ≡ shape.Table
is_table shape.Absent h = absurd (omega arith)
is_table shape.Table h = refl
is_table (shape.Index o) h = absurd (omega arith)
is_table shape.Pageless h = absurd (omega arith)
is_table shape.FrozenTable h = absurd (omega arith)
is_table (shape.FrozenIndex o) h = absurd (omega arith)

pub rises : (shapes : ℕ → Shape) (reals : ℕ → ℕ) (trees : Trees) (schema : Schema) (table : Table)
    → IsOrdered shapes trees → IsListed (trees catalog_tree) shapes reals → IsSound schema trees → Has schema.tables table
    → IsShelf (trees table.tree)
rises shapes reals trees schema table ordered listed sound here =
    let objects = trees catalog_tree in
    let found = zip_row IsTableRow _ _ table sound.lists.listed.tables here in
    let row = found.0 in
    let among = (has_filtered _ objects row found.1).0 in
    let it = found.2.described in
    let tree = table.tree in
    let up = (subst (λ s. IsShaped s objects) listed.itself.0 (ordered catalog_tree)).0 in
    let keyed : has_rowid (pos (tree + 1)) row ≡ true = subst (λ k. is_eq (value_cmp k (Int (pos (tree + 1)))) ≡ true) (sym it.id) (ap is_eq (tied_itself value_cmp_total (Int (pos (tree + 1))))) in
    let same : row_for objects tree ≡ row = row_at_is objects (pos (tree + 1)) row up among keyed in
    let low = it.low in
    let code : shape_code (shapes tree) ≡ 1 = listed.shapes tree (λ e. absurd (omega arith)) (λ e. absurd (omega arith)) ∙ ap (λ r. number_in (column r 5)) same ∙ it.shape_is in
    let shaped = subst (λ s. IsShaped s (trees tree)) (is_table _ code) (ordered tree) in
    record { rise = shaped.0; keyed = shaped.1 }

pub has_shelves : (shapes : ℕ → Shape) (reals : ℕ → ℕ) (trees : Trees) (db : Database) → IsOrdered shapes trees
    → IsListed (trees catalog_tree) shapes reals → db.trees ≡ trees → IsSound db.schema db.trees → HasShelves db
has_shelves shapes reals trees db ordered listed same sound table here =
    subst (λ (all : Trees). IsShelf (all table.tree)) (sym same) (rises shapes reals trees db.schema table ordered listed (subst (IsSound db.schema) same sound) here)

-- ---- from a database that was taken over to a keeper's

-- want of memory and a failure of the store are no other refusal
pub not_strange : {e : Refusal} → (e ≡ refusal.OutOfMemory) ⊎ (e ≡ refusal.Store) → e ≡ refusal.NotAReplica → ⊥
not_strange (inl memory) is = let both = sym memory ∙ is in absurd (cc)
not_strange (inr store) is = let both = sym store ∙ is in absurd (cc)

pub settles : (old new : State) → IsTaken old → old.now.schema ≡ our_schema → (new.now ≡ old.now) × (new.committed ≡ old.committed) → AreOurRows old.now.trees → IsKept new
settles old new taken ours same rows =
    let held = all_held old.now ours taken.sound taken.shelves rows in
    let kept : IsOurs old.now = record { schema = ours; held = held } in
    record { ours = subst IsOurs (sym same.0) kept; settled = same.0 ∙ taken.settled ∙ sym same.1 }

-- what was taken over and stayed has its rows
pub stays : (old new : State) → IsTaken old → (new.now ≡ old.now) × (new.committed ≡ old.committed) → StaysAs old.now.trees new
stays old new taken same = (ap (λ (db : Database). db.trees) same.0, same.0 ∙ taken.settled ∙ sym same.1)

-- what a crash may leave of a keeper's database is its tables alone
pub alone : (s : State) → IsKept s → ((db : Trees) → s.may_leave db → db ≡ s.committed.trees) → LeavesTables s
alone s kept law t left = left.2 ∙ ap tables_in (law left.0 left.1 ∙ ap (λ (db : Database). db.trees) (sym kept.settled))

-- ---- which schema trees list

-- trees that were taken over are sound under the schema of the database, and under no other
pub sound_as : (s : State) (schema : Schema) → IsTaken s → s.now.schema ≡ schema → IsSound schema s.now.trees
sound_as s schema taken is = subst (λ x. IsSound x s.now.trees) is taken.sound

pub of_schema : (s : State) (schema : Schema) → IsTaken s → IsSound schema s.now.trees → s.now.schema ≡ schema
of_schema s schema taken sound = lists_once (s.now.trees catalog_tree) s.now.schema schema taken.sound.lists sound.lists

-- trees list no schema with another number of tables
not_other : (s : State) (schema other : Schema) → IsTaken s → s.now.schema ≡ schema → length schema.tables ≢ length other.tables → IsSound other s.now.trees → ⊥
not_other s schema other taken is apart sound = apart (ap (λ (x : Schema). length x.tables) (sym is ∙ of_schema s other taken sound))

-- ---- whose they are

-- our tables are those of others where `meta` has no row of theirs, or it isn't of those who are wanted
pub strange_ours : (w : Whose) (s : State) → IsTaken s → s.now.schema ≡ our_schema → HasNoMeta 2 s.now.trees ⊎ (Suits w (tables_in s.now.trees).meta → ⊥) → AreStrangeTo w s.now.trees
strange_ours (whose.Of server primary) s taken ours is =
    (not_other s our_schema no_schema taken ours (λ same. omega (arith, same)), (λ _. is), (λ first. absurd (not_other s our_schema first_schema taken ours (λ same. omega (arith, same)) first)))
strange_ours whose.Anyones s taken ours (inl none) = ((λ _. none), (λ first. absurd (not_other s our_schema first_schema taken ours (λ same. omega (arith, same)) first)))
strange_ours whose.Anyones s taken ours (inr other) = absurd (other tt)

-- and so are those of the first schema
pub strange_first : (w : Whose) (s : State) → IsTaken s → s.now.schema ≡ first_schema → HasNoMeta 1 s.now.trees ⊎ (Suits w (first_in s.now.trees).meta → ⊥) → AreStrangeTo w s.now.trees
strange_first (whose.Of server primary) s taken first is =
    (not_other s first_schema no_schema taken first (λ same. omega (arith, same)), (λ ours. absurd (not_other s first_schema our_schema taken first (λ same. omega (arith, same)) ours)), (λ _. is))
strange_first whose.Anyones s taken first (inl none) = ((λ ours. absurd (not_other s first_schema our_schema taken first (λ same. omega (arith, same)) ours)), (λ _. none))
strange_first whose.Anyones s taken first (inr other) = absurd (other tt)

-- tables of neither schema are those of others, where there are some
pub strange_others : (w : Whose) (s : State) → IsTaken s → (s.now.schema ≡ no_schema → ⊥) → (s.now.schema ≡ our_schema → ⊥) → (s.now.schema ≡ first_schema → ⊥) → AreStrangeTo w s.now.trees
strange_others (whose.Of server primary) s taken none ours first =
    ((λ sound. none (of_schema s no_schema taken sound)), (λ sound. absurd (ours (of_schema s our_schema taken sound))), (λ sound. absurd (first (of_schema s first_schema taken sound))))
strange_others whose.Anyones s taken none ours first = ((λ sound. absurd (ours (of_schema s our_schema taken sound))), (λ sound. absurd (first (of_schema s first_schema taken sound))))

-- no tables are no replica's
pub strange_none : (s : State) → IsTaken s → s.now.schema ≡ no_schema → IsNobodys s.now.trees
strange_none s taken none = (
  (λ ours. absurd (not_other s no_schema our_schema taken none (λ same. omega (arith, same)) ours)),
  (λ first. absurd (not_other s no_schema first_schema taken none (λ same. omega (arith, same)) first)),
)

pub somebodys : (w : Whose) (trees : Trees) → AreSomebodys trees → MayFailFor w trees
somebodys (whose.Of server primary) trees are = inr are
somebodys whose.Anyones trees are = are

-- tables of those who are wanted are taken
pub taken_as : (w : Whose) (before after : Trees) (m : MetaRow) → IsResumed before after → (tables_in after).meta ≡ m → Suits w m → AreTakenAs w before after
taken_as (whose.Of server primary) before after m resumed is suits = inr (resumed, subst (Names server primary) (sym is) suits)
taken_as whose.Anyones before after m resumed is suits = resumed
