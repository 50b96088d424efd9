-- Reads of a database of the first schema, and what they find.
use Rattle.std.proofs.Common.{◌≡◌, ◌≢◌, inr, Ok, Err, Result, Some, IfOk, IfErr, refl, sym, subst, ◌∙◌}
use Rattle.sqlite_trees.specs.Tree.{Trees}
use Rattle.sqlite.specs.declared.error.Error.{Error}
use Rattle.sqlite.specs.declared.error.Error.TheVariants.{SqliteFailure}
use Rattle.sqlite.specs.declared.error.ErrorCode.TheVariants as code
use Rattle.sqlite.specs.State.{State}
use Rattle.sqlite.proofs.StateLemmas.{survives_weaker}
use Rattle.mr_model.specs.Tables.{MetaRow}
use Rattle.mr_model.specs.First.{FirstTables}
use Rattle.mr_rows.specs.Schema.{first_schema, IsOfTwo}
use Rattle.mr_rows.specs.Form.{room_form, vector_form, booking_form, error_form}
use Rattle.mr_rows.specs.Database.{IsHeld, first_meta, in_order, tables_in}
use Rattle.mr_rows.specs.Shown.{AreStoredAs, IsMeta}
use Rattle.mr_rows.specs.Kept.{AreRowsOf}
use Rattle.mr_rows.specs.Reads.{IsPlacedIn}
use Rattle.mr_rows.proofs.FoundLemmas.{meta_is_found}
use Rattle.mr_rows.proofs.QueryLemmas.{told_where, made_where}
use Rattle.mr_first.specs.Forms.{first_meta_form, write_form, undo_form}
use Rattle.mr_first.specs.FirstShown.{AreFirstRows}
use Rattle.mr_first.specs.FirstDatabase.{IsFirst, AreHeldFirst, IsKeptFirst, ReadsFirst, LooksFirst, first_in}

-- ---- looks and reads

pub still_kept : (a b : State) → IsKeptFirst a → (b.now ≡ a.now) × (b.committed ≡ a.committed) → IsKeptFirst b
still_kept a b kept same = record { ours = subst IsFirst (sym same.0) kept.ours; settled = same.0 ∙ kept.settled ∙ sym same.1 }

pub kept_placed : (s : State) → IsKeptFirst s → IsPlacedIn first_schema s
kept_placed s kept = record { schema = kept.ours.schema; settled = kept.settled }

-- what is told of any rows is told of those of a database that keeps its rules
pub reads_of_looks : {X : Type 0} (old new : State) (r : Result X Error) (P : X → Type 0) → LooksFirst old new r P → ReadsFirst old new r P
reads_of_looks old new r P h = (
  survives_weaker old new _ _ (λ _ db none kept. none (kept_placed old kept)) h.0,
  λ clean now. let told = h.1 clean now in (told.0, λ kept. told.1 (kept_placed old kept)),
  λ clean kept. h.2 clean (kept_placed old kept),
)

pub reads_so : {X : Type 0} (old new : State) (r : Result X Error) (P Q : X → Type 0) → (IsKeptFirst old → (x : X) → P x → Q x) → ReadsFirst old new r P → ReadsFirst old new r Q
reads_so = told_where IsKeptFirst

pub reads_made : {X Y : Type 0} (old new : State) (x : X) (P : X → Type 0) (r : Result Y Error) (Q : Y → Type 0)
    → (IsKeptFirst old → P x → IfOk r Q) → ReadsFirst old new (Ok x) P → ReadsFirst old new r Q
reads_made = made_where IsKeptFirst

-- ---- what was found of first tables

-- the first schema has them all
pub stand_in_first : (IsOfTwo first_schema × IsOfTwo first_schema) × (((first_schema ≡ first_schema) × (first_schema ≡ first_schema)) × (IsOfTwo first_schema × IsOfTwo first_schema))
stand_in_first = ((inr refl, inr refl), ((refl, refl), (inr refl, inr refl)))

-- what the tables beside `meta` have
abbrev pub Stored : Trees → Type 0
Stored t =
    (AreStoredAs room_form t × AreStoredAs vector_form t)
    × ((AreStoredAs write_form t × AreStoredAs undo_form t) × (AreStoredAs booking_form t × AreStoredAs error_form t))

pub all_first : (t : Trees) → Stored t → AreStoredAs first_meta_form t → AreFirstRows t
all_first t p meta = record { meta = meta; room = p.0.0; vector = p.0.1; write_log = p.1.0.0; undo = p.1.0.1; booking = p.1.1.0; errorlog = p.1.1.1 }

pub beside_meta : (t : Trees) → AreFirstRows t → Stored t
beside_meta t rows = ((rows.room, rows.vector), ((rows.write_log, rows.undo), (rows.booking, rows.errorlog)))

-- these are their rows
abbrev pub AreAll : Trees → FirstTables → Type 0
AreAll t x =
    (AreRowsOf room_form t x.room × AreRowsOf vector_form t x.vector)
    × ((AreRowsOf write_form t x.write_log × AreRowsOf undo_form t x.undo) × (AreRowsOf booking_form t x.booking × AreRowsOf error_form t x.errorlog))

pub whole_first : (trees : Trees) (t : FirstTables) → AreHeldFirst trees → AreAll trees t
    → (IsHeld first_meta_form (trees 0) → t.meta ≡ first_meta (in_order first_meta_form (trees 0))) → t ≡ first_in trees
unfolding first_in
whole_first trees t held all meta =
    λ i. record {
      meta = meta held.meta i;
      room = all.0.0 held.room i;
      vector = all.0.1 held.vector i;
      write_log = all.1.0.0 held.write_log i;
      undo = all.1.0.1 held.undo i;
      booking = all.1.1.0 held.booking i;
      errorlog = all.1.1.1 held.errorlog i;
    }

-- Of `meta` the plain row is that of the second schema.
same_meta : (trees : Trees) → (tables_in trees).meta ≡ (first_in trees).meta
unfolding tables_in first_in
same_meta trees = refl

-- the row of `meta` that was found is the first tables' own
pub first_meta_found : (trees : Trees) (m : MetaRow) → IsMeta trees (Some m) → (first_in trees).meta ≡ m
first_meta_found trees m is = sym (same_meta trees) ∙ meta_is_found trees m is

-- what is refused only where this isn't so, which would follow from that
pub err_so : {X P Q : Type 0} (r : Result X Error) → (Q → P) → IfErr r (λ e. e ≢ SqliteFailure code.OutOfMemory → P → ⊥) → IfErr r (λ e. e ≢ SqliteFailure code.OutOfMemory → Q → ⊥)
err_so (Ok x) way refused = tt
err_so (Err e) way refused = λ other q. refused other (way q)

pub never_so : {X : Type 0} (P : Type 0) (r : Result X Error) → IfErr r (λ e. e ≢ SqliteFailure code.OutOfMemory → P → ⊥) → P → IfErr r (λ e. e ≢ SqliteFailure code.OutOfMemory → ⊥)
never_so P (Ok x) refused so = tt
never_so P (Err e) refused so = λ other. refused other so
