-- First tables put into a database that has no row are then those of the database.
use Rattle.std.proofs.Common.{◌≡◌, subst, suc, ◌+◌, ◌<◌, nat_lt, true, Bool, List, [], ◌∷◌, length, get_or, arith}
use Rattle.std.specs.List.{AllByRecursion}
use Rattle.sqlite_schema.specs.declared.schema.Table.{Table}
use Rattle.sqlite.specs.Effect.{Database}
use Rattle.mr_model.specs.Texts.{Text}
use Rattle.mr_model.specs.Replica.{text_before}
use Rattle.mr_model.specs.Tables.{VectorRow}
use Rattle.mr_model.specs.Queries.{booking_id, error_id}
use Rattle.mr_model.specs.First.{FirstTables}
use Rattle.mr_tables.specs.Change.{put_all, id_before}
use Rattle.mr_tables.specs.Rise.{Rise}
use Rattle.mr_tables.specs.TableOrders.{IsOrder, InOrder, id_order, number_order, name_order}
use Rattle.mr_rows.specs.Schema.{first_schema}
use Rattle.mr_rows.specs.Form.{room_form, vector_form, booking_form, error_form}
use Rattle.mr_rows.specs.Database.{first_meta, in_order}
use Rattle.mr_first.specs.Forms.{write_id, undo_id, first_meta_form, write_form, undo_form}
use Rattle.mr_first.specs.FirstDatabase.{IsFirst, first_in}
use Rattle.mr_first.specs.FirstParts.{tables_put, no_first_tables, AreFirstKeysRising}
use Rattle.mr_first.proofs.MakeLemmas.{held_none}
use Rattle.mr_first.proofs.PairLemmas.{put_into_empty}

-- rows of which each key is before the next are in the order of their keys
module _ {R K : Type 0} (before : K → K → Bool) (key : R → K) (o : IsOrder K before) where
  -- without the first they are too
  later : (x : R) (xs : List R) → Rise before key (x ∷ xs) → Rise before key xs
  later x xs rise k d low =
      let next : suc k + 1 ≡ suc (k + 1) = omega arith in
      subst (λ n. before (key (get_or xs k d)) (key (get_or (x ∷ xs) n d)) ≡ true) next (rise (suc k) d (let m : suc k + 1 < suc (length xs) = omega (arith, low) in m))

  -- the first is before all others
  before_all : (x : R) (xs : List R) → Rise before key (x ∷ xs) → AllByRecursion (λ y. before (key x) (key y) ≡ true) xs
  before_all x [] rise = tt
  before_all x (y ∷ ys) rise = (rise 0 x (omega arith), further (before_all y ys (later x (y ∷ ys) rise)))
    where
      further : AllByRecursion (λ z. before (key y) (key z) ≡ true) ys → AllByRecursion (λ z. before (key x) (key z) ≡ true) ys
      further h = go ys h
        where
          go : (zs : List R) → AllByRecursion (λ z. before (key y) (key z) ≡ true) zs → AllByRecursion (λ z. before (key x) (key z) ≡ true) zs
          go [] h = tt
          go (z ∷ zs) h = (o.transitive (key x) (key y) (key z) (rise 0 x (omega arith)) h.0, go zs h.1)

  in_order_of : (xs : List R) → Rise before key xs → InOrder before key xs
  in_order_of [] rise = tt
  in_order_of (x ∷ xs) rise = (before_all x xs rise, in_order_of xs (later x xs rise))

  whole : (rows : List R) → Rise before key rows → put_all before key rows [] ≡ rows
  whole rows rise = put_into_empty before key o rows (in_order_of rows rise)

pub put_into_none : (t : FirstTables) → AreFirstKeysRising t → tables_put t no_first_tables ≡ t
put_into_none t rise =
    let room = whole text_before (λ (name : Text). name) name_order t.room rise.room in
    let vector = whole nat_lt (λ (row : VectorRow). row.server) number_order t.vector rise.vector in
    let writes = whole id_before write_id id_order t.write_log rise.write_log in
    let undo = whole id_before undo_id id_order t.undo rise.undo in
    let booking = whole id_before booking_id id_order t.booking rise.booking in
    let errorlog = whole id_before error_id id_order t.errorlog rise.errorlog in
    λ i. record { meta = t.meta; room = room i; vector = vector i; write_log = writes i; undo = undo i; booking = booking i; errorlog = errorlog i }

pub blank_first : (db : Database) → db.schema ≡ first_schema → AllByRecursion (λ (t : Table). db.trees t.tree ≡ []) first_schema.tables → IsFirst db × (first_in db.trees ≡ no_first_tables)
unfolding first_in
blank_first db schema rows =
    let meta = rows.0 in
    let room = rows.1.0 in
    let vector = rows.1.1.0 in
    let writes = rows.1.1.1.0 in
    let undo = rows.1.1.1.1.0 in
    let booking = rows.1.1.1.1.1.0 in
    let error = rows.1.1.1.1.1.1.0 in (
      record {
        schema = schema;
        held = record {
          meta = held_none first_meta_form meta;
          room = held_none room_form room;
          vector = held_none vector_form vector;
          write_log = held_none write_form writes;
          undo = held_none undo_form undo;
          booking = held_none booking_form booking;
          errorlog = held_none error_form error;
        };
      },
      λ i. record {
        meta = first_meta (in_order first_meta_form (meta i));
        room = in_order room_form (room i);
        vector = in_order vector_form (vector i);
        write_log = in_order write_form (writes i);
        undo = in_order undo_form (undo i);
        booking = in_order booking_form (booking i);
        errorlog = in_order error_form (error i);
      },
    )
