-- Rows that were found in the first tables of a sound database, and read, are held.
use Rattle.std.proofs.Common.{◌≡◌, inl, inr, refl, sym, ap, subst}
use Rattle.std.proofs.lemmas.Bool.{and_from}
use Rattle.sqlite_value.specs.Order.{column}
use Rattle.sqlite_value.specs.Keys.{first_key}
use Rattle.sqlite_schema.specs.declared.schema.Table.{Table}
use Rattle.sqlite_rules.specs.Lists.{Has}
use Rattle.sqlite_catalog.specs.Listing.{IsSound}
use Rattle.sqlite.specs.Effect.{Database, IsDatabase}
use Rattle.mr_rows.specs.Schema.{first_schema}
use Rattle.mr_rows.specs.Shelf.{HasShelves}
use Rattle.mr_rows.specs.Form.{room_form, vector_form, booking_form, error_form}
use Rattle.mr_rows.proofs.FoundLemmas.{Ruled, held, equal_numbers, equal_texts, ruled_by_ids}
use Rattle.mr_first.specs.Forms.{first_meta_form, write_form, undo_form}
use Rattle.mr_first.specs.FirstDatabase.{IsFirst}
use Rattle.mr_first.specs.FirstShown.{AreFirstRows}

-- ---- what is computed of each table

meta_ruled : Ruled first_schema first_meta_form
unfolding first_key
meta_ruled = record {
  listed = inl refl;
  keyless = refl;
  required = refl;
  index = _;
  indexed = inl refl;
  guarding = refl;
  agrees = λ r s a b same. and_from _ _ (equal_numbers (column r 1) (column s 1) 1 1 (ap (λ x. column x 1) a) (ap (λ x. column x 1) b) refl) refl;
}

room_ruled : Ruled first_schema room_form
unfolding first_key
room_ruled = record {
  listed = inr (inl refl);
  keyless = refl;
  required = refl;
  index = _;
  indexed = inr (inl refl);
  guarding = refl;
  agrees = λ r s a b same. and_from _ _ (equal_texts (column r 1) (column s 1) _ _ (ap (λ x. column x 1) a) (ap (λ x. column x 1) b) same) refl;
}

vector_ruled : Ruled first_schema vector_form
unfolding first_key
vector_ruled = record {
  listed = inr (inr (inl refl));
  keyless = refl;
  required = refl;
  index = _;
  indexed = inr (inr (inl refl));
  guarding = refl;
  agrees = λ r s a b same. and_from _ _ (equal_numbers (column r 1) (column s 1) _ _ (ap (λ x. column x 1) a) (ap (λ x. column x 1) b) same) refl;
}

write_ruled : Ruled first_schema write_form
unfolding first_key
write_ruled = ruled_by_ids write_form _ 1 2 (inr (inr (inr (inl refl)))) (inr (inr (inr (inl refl)))) refl refl refl (λ r s. refl) (λ x v. refl) (λ x v. refl)

undo_ruled : Ruled first_schema undo_form
unfolding first_key
undo_ruled = ruled_by_ids undo_form _ 1 2 (inr (inr (inr (inr (inl refl))))) (inr (inr (inr (inr (inl refl))))) refl refl refl (λ r s. refl) (λ x v. refl) (λ x v. refl)

booking_ruled : Ruled first_schema booking_form
unfolding first_key
booking_ruled = ruled_by_ids booking_form _ 5 6 (inr (inr (inr (inr (inr (inl refl)))))) (inr (inr (inr (inr (inr (inl refl)))))) refl refl refl (λ r s. refl) (λ x v. refl) (λ x v. refl)

error_ruled : Ruled first_schema error_form
unfolding first_key
error_ruled = ruled_by_ids error_form _ 5 6 (inr (inr (inr (inr (inr (inr (inl refl))))))) (inr (inr (inr (inr (inr (inr (inl refl))))))) refl refl refl (λ r s. refl) (λ x v. refl) (λ x v. refl)

-- ---- all of them

pub first_held : (db : Database) → db.schema ≡ first_schema → IsDatabase db → HasShelves db → AreFirstRows db.trees → IsFirst db
first_held db first sound shelves rows =
    let whole = subst (λ schema. IsSound schema db.trees) first sound in
    let shelf = λ (table : Table) (here : Has first_schema.tables table). shelves table (subst (λ schema. Has schema.tables table) (sym first) here) in
    record {
      schema = first;
      held = record {
        meta = held first_meta_form meta_ruled db.trees whole (shelf _ meta_ruled.listed) rows.meta;
        room = held room_form room_ruled db.trees whole (shelf _ room_ruled.listed) rows.room;
        vector = held vector_form vector_ruled db.trees whole (shelf _ vector_ruled.listed) rows.vector;
        write_log = held write_form write_ruled db.trees whole (shelf _ write_ruled.listed) rows.write_log;
        undo = held undo_form undo_ruled db.trees whole (shelf _ undo_ruled.listed) rows.undo;
        booking = held booking_form booking_ruled db.trees whole (shelf _ booking_ruled.listed) rows.booking;
        errorlog = held error_form error_ruled db.trees whole (shelf _ error_ruled.listed) rows.errorlog;
      };
    }
