-- From the rows of the error log and of cancels, and the row of one write, to what the view of a replica tells of a room.
use Rattle.std.proofs.Common.{◌≡◌, refl, sym, ap, ◌∙◌, subst, ℕ, ◌<◌, Bool, true, false, not, cond, ◌&&◌, eqb, List, [], ◌∷◌}
use Rattle.std.proofs.Common.{map, ◌⊎◌, inl, inr, Some, None, Option, arith, lt-ltb, eq-eqb, ne_eqb, is_lt, nat_cmp}
use Rattle.std.proofs.lemmas.Bool.{true≢false, and_parts, and_from, false_from_ne_true}
use Rattle.std.specs.List.{filter, filter_map, find}
use Rattle.std.specs.List.Sorted.{IsPermutation, IsSortedByKey}
use Rattle.std.specs.declared.cmp.Ordering.TheVariants.{Less, Equal, Greater}
use Rattle.std.specs.Str.{bytes_eq}
use Rattle.mr_model.specs.Texts.{Text}
use Rattle.mr_model.specs.Writes.{Id, same_id}
use Rattle.mr_model.specs.Refusals.{NoSuchRequest}
use Rattle.mr_model.specs.Replica.{Replica, IsReplica}
use Rattle.mr_model.specs.Replies.{OutcomeIs, Refused}
use Rattle.mr_model.specs.View.{view_of, whole_list, logging_of, told_of, outcome_reply}
use Rattle.mr_model.specs.Tables.{BookingRow, ErrorRow, CancelledRow, CancelRow, PlaceRow, tables_of}
use Rattle.mr_model.specs.Tables as rows
use Rattle.mr_model.specs.Dropped.{Has}
use Rattle.mr_model.specs.Queries.{LogLine, OfLogged, OfVoid, line_seq, line_time, line_server, line_logging, LineBefore, both, one, none, AreInLogOrder}
use Rattle.mr_model.specs.Queries.{IsLineOf, booking_id, error_id, cancelled_id, cancel_id, cancelled_outcome, IsCancelOf, IsRowIn, row_id, row_room}
use Rattle.mr_model.proofs.Members.{has_filter, filter_has, has_map, map_has, has_left, has_right, has_split, find_has, has_all, all_has, Sorted, sorted_filter, same_id-true, same_id_from}
use Rattle.mr_model.proofs.Runs.{sorted_append}
use Rattle.mr_model.proofs.RowsTell.{cancelled_tell, none_in_room}
use Rattle.mr_model.proofs.ErrorsTell.{lines_sorted, room_lines, is_of_line, errors_told, sorted_map}
use Rattle.mr_model.proofs.KeyOrder.{tables_in_order}
use Rattle.mr_tables.specs.declared.place_rows.PlaceRow as code
use Rattle.mr_tables.specs.declared.place_rows.PlaceRow.TheVariants as place
use Rattle.mr_tables.specs.Cells.{place_row_of}
use Rattle.mr_store.specs.Picked.{picked_errors, picked_cancels, IsPlaceOf}
use Rattle.mr_service.specs.Asked.{log_line_seen}
use Rattle.mr_service.specs.declared.replies.LogLine as replies
use Rattle.mr_service.specs.Questions.{lines_of, log_line_key, line_key, log_key_cmp, row_of_cancel}
use Rattle.mr_service.proofs.OneRow.{one_place}
use Rattle.mr_service.proofs.RowOrder.{either_before, permuted_has, has_permuted, table_apart, permuted_apart, in_strict_order}
use Rattle.mr_replay.proofs.Lists.{one_name, same_name}

-- ---- the order of the error log

-- how numbers compare
number_less : (a b : ℕ) → a < b → nat_cmp a b ≡ Less
number_less a b l = ap (λ c. cond c Less (cond (eqb a b) Equal Greater)) (lt-ltb a b l)

number_same : (a b : ℕ) → a ≡ b → nat_cmp a b ≡ Equal
number_same a b e = grind (arith, e)

-- each before the next, so before all that follow
line_transitive : (a b c : LogLine) → LineBefore a b → LineBefore b c → LineBefore a c
line_transitive a b c (both p q) (both u v) = both p (omega (arith, q, v))
line_transitive a b c (both p q) (one u v) = one p v
line_transitive a b c (both p q) (none u v w) = absurd (omega (arith, q, u))
line_transitive a b c (one p q) (both u v) = absurd (omega (arith, q, u))
line_transitive a b c (one p q) (one u v) = absurd (omega (arith, q, u))
line_transitive a b c (one p q) (none u v w) = one p v
line_transitive a b c (none p q l) (both u v) = absurd (omega (arith, q, u))
line_transitive a b c (none p q l) (one u v) = absurd (omega (arith, q, u))
line_transitive a b c (none p q l) (none u v m) = none p v (go l m)
  where
    go : (line_time a < line_time b) ⊎ ((line_time a ≡ line_time b) × (line_server a < line_server b)) → (line_time b < line_time c)
        ⊎ ((line_time b ≡ line_time c) × (line_server b < line_server c)) → (line_time a < line_time c) ⊎ ((line_time a ≡ line_time c) × (line_server a < line_server c))
    go (inl x) (inl y) = inl (omega (arith, x, y))
    go (inl x) (inr y) = inl (let e = y.0 in omega (arith, x, e))
    go (inr x) (inl y) = inl (let e = x.0 in omega (arith, y, e))
    go (inr x) (inr y) = inr (x.0 ∙ y.0, omega (arith, x.1, y.1))

-- the keys come in the order of the log
key_tested : (a b : LogLine) → LineBefore a b → is_lt (log_key_cmp (log_line_key a) (log_line_key b)) ≡ true
key_tested a b (both p q) =
    rw (ne_eqb (line_seq a) 0 (λ z. omega (arith, p, z)), ne_eqb (line_seq b) 0 (λ z. omega (arith, p, q, z)), number_less (line_seq a) (line_seq b) q) refl
key_tested a b (one p q) = rw (ne_eqb (line_seq a) 0 (λ z. omega (arith, p, z)), eq-eqb (line_seq b) 0 q) refl
key_tested a b (none p q (inl l)) =
    rw (eq-eqb (line_seq a) 0 p, eq-eqb (line_seq b) 0 q, number_same (line_seq a) (line_seq b) (p ∙ sym q), number_less (line_time a) (line_time b) l) refl
key_tested a b (none p q (inr l)) =
    rw (
      eq-eqb (line_seq a) 0 p,
      eq-eqb (line_seq b) 0 q,
      number_same (line_seq a) (line_seq b) (p ∙ sym q),
      number_same (line_time a) (line_time b) l.0,
      number_less (line_server a) (line_server b) l.1,
    ) refl

-- one order in the words of the law
log_order : (ls : List LogLine) → Sorted LineBefore ls → AreInLogOrder ls
log_order [] s = tt
log_order (x ∷ xs) s = (s.0, log_order xs s.1)

lines_mapped : (ls : List replies.LogLine) → Sorted (λ x y. LineBefore (log_line_seen x) (log_line_seen y)) ls → Sorted LineBefore (map log_line_seen ls)
lines_mapped [] s = tt
lines_mapped (x ∷ xs) s = (
  has_all (LineBefore (log_line_seen x)) (map log_line_seen xs) (λ l a. let (y, b, e) = map_has log_line_seen l xs a in
      subst (LineBefore (log_line_seen x)) (sym e) (all_has (λ z. LineBefore (log_line_seen x) (log_line_seen z)) y xs s.0 b)),
  lines_mapped xs s.1,
)

-- ---- its lines

abbrev line_id : LogLine → Id
line_id (OfLogged row) = error_id row
line_id (OfVoid row) = cancel_id row

-- what a keeper gives of a room: its error rows and its cancels
pub record AreLogged (r : Replica) (room : Text) (requests : List ErrorRow) (cancels : List CancelRow) : Type 0 where
  pub requests_are : IsPermutation (picked_errors room (tables_of r)) requests
  pub cancels_are : IsPermutation (picked_cancels room (tables_of r)) cancels

module _ (r : Replica) (room : Text) (requests : List ErrorRow) (cancels : List CancelRow) (h : IsReplica r) (are : AreLogged r room requests cancels) where
  of_request : (row : ErrorRow) → Has row requests → Has row (tables_of r).errorlog × (row.room ≡ room)
  of_request row a =
      let f = filter_has (λ (x : ErrorRow). bytes_eq x.room room) row (tables_of r).errorlog (has_permuted row (picked_errors room (tables_of r)) requests are.requests_are a) in
      (f.0, one_name row.room room f.1)

  of_cancel : (row : CancelRow) → Has row cancels → Has row (tables_of r).cancels × (row.room ≡ room)
  of_cancel row a =
      let f = filter_has (λ (x : CancelRow). bytes_eq x.room room) row (tables_of r).cancels (has_permuted row (picked_cancels room (tables_of r)) cancels are.cancels_are a) in
      (f.0, one_name row.room room f.1)

  line_is : (l : LogLine) → Has l (lines_of requests cancels) → IsLineOf r room l
  line_is l a = go (has_split l (map (λ row. OfLogged row) requests) _ a)
    where
      go : Has l (map (λ row. OfLogged row) requests) ⊎ Has l (map (λ row. OfVoid row) (filter (λ (row : CancelRow). not row.done) cancels)) → IsLineOf r room l
      go (inl b) = let (row, c, s) = map_has (λ row. OfLogged row) l requests b in subst (IsLineOf r room) (sym s) (of_request row c)
      go (inr b) =
          let (row, c, s) = map_has (λ row. OfVoid row) l (filter (λ (row : CancelRow). not row.done) cancels) b in
          let f = filter_has (λ (x : CancelRow). not x.done) row cancels c in
          let p = of_cancel row f.0 in
          subst (IsLineOf r room) (sym s) (p.0, p.1, f.1)

  is_line : (l : LogLine) → IsLineOf r room l → Has l (lines_of requests cancels)
  is_line (OfLogged row) p =
      has_left (OfLogged row) (map (λ x. OfLogged x) requests) _
      (has_map (λ x. OfLogged x) row requests (permuted_has row (picked_errors room (tables_of r)) requests are.requests_are
      (has_filter (λ (x : ErrorRow). bytes_eq x.room room) row (tables_of r).errorlog (same_name row.room room p.1) p.0)))
  is_line (OfVoid row) p =
      has_right (OfVoid row) (map (λ x. OfLogged x) requests) _
      (has_map (λ x. OfVoid x) row (filter (λ (x : CancelRow). not x.done) cancels)
      (has_filter (λ (x : CancelRow). not x.done) row cancels p.2
      (permuted_has row (picked_cancels room (tables_of r)) cancels are.cancels_are
      (has_filter (λ (x : CancelRow). bytes_eq x.room room) row (tables_of r).cancels (same_name row.room room p.1) p.0))))

  -- they are of different ids
  lines_apart : Sorted (λ x y. same_id (line_id x) (line_id y) ≡ false) (lines_of requests cancels)
  lines_apart =
      sorted_append (λ x y. same_id (line_id x) (line_id y) ≡ false) (map (λ row. OfLogged row) requests) (map (λ row. OfVoid row) (filter (λ (row : CancelRow). not row.done) cancels))
      (made_apart error_id (λ row. OfLogged row) requests (λ x. refl)
      (permuted_apart error_id (picked_errors room (tables_of r)) requests are.requests_are (table_apart error_id (λ x. bytes_eq x.room room) (tables_of r).errorlog (tables_in_order r h).errorlog)))
      (made_apart cancel_id (λ row. OfVoid row) (filter (λ (row : CancelRow). not row.done) cancels) (λ x. refl)
      (sorted_filter (λ x y. same_id (cancel_id x) (cancel_id y) ≡ false) (λ (row : CancelRow). not row.done) cancels
      (permuted_apart cancel_id (picked_cancels room (tables_of r)) cancels are.cancels_are (table_apart cancel_id (λ x. bytes_eq x.room room) (tables_of r).cancels (tables_in_order r h).cancels))))
      across
    where
      made_apart : {R : Type 0} (key : R → Id) (make : R → LogLine) (xs : List R) → ((x : R) → line_id (make x) ≡ key x)
          → Sorted (λ x y. same_id (key x) (key y) ≡ false) xs → Sorted (λ x y. same_id (line_id x) (line_id y) ≡ false) (map make xs)
      made_apart key make [] e s = tt
      made_apart key make (x ∷ xs) e s = (
        has_all (λ l. same_id (line_id (make x)) (line_id l) ≡ false) (map make xs)
            (λ l a. let (y, b, f) = map_has make l xs a in (λ i. same_id (e x i) ((ap line_id f ∙ e y) i)) ∙ all_has (λ z. same_id (key x) (key z) ≡ false) y xs s.0 b),
        made_apart key make xs e s.1,
      )

      across : (x y : LogLine) → Has x (map (λ row. OfLogged row) requests)
          → Has y (map (λ row. OfVoid row) (filter (λ (row : CancelRow). not row.done) cancels)) → same_id (line_id x) (line_id y) ≡ false
      across x y a b =
          false_from_ne_true (same_id (line_id x) (line_id y))
          (λ e.
          let (row, c, s) = map_has (λ row. OfLogged row) x requests a in
          let (gone, d, t) = map_has (λ row. OfVoid row) y (filter (λ (row : CancelRow). not row.done) cancels) b in
          let bad : rows.Erred row ≡ rows.Cancel gone =
          one_place r (rows.Erred row) (rows.Cancel gone) h (of_request row c).0 (of_cancel gone (filter_has (λ (x : CancelRow). not x.done) gone cancels d).0).0
          (sym (ap line_id s) ∙ same_id-true (line_id x) (line_id y) e ∙ ap line_id t)
          in
          cc bad)

  log_all : (lines : List replies.LogLine) → IsPermutation (lines_of requests cancels) (map log_line_seen lines)
      → IsSortedByKey line_key log_key_cmp lines → filter_map logging_of (whole_list (view_of r room)) ≡ map line_logging (map log_line_seen lines)
  log_all lines moved up =
      errors_told r room (map log_line_seen lines) h
      (log_order (map log_line_seen lines)
      (lines_mapped lines
      (in_strict_order (λ x. line_id (log_line_seen x)) (λ x y. LineBefore (log_line_seen x) (log_line_seen y)) (λ a b. is_lt (log_key_cmp (line_key a) (line_key b)))
      (λ x y z p q. line_transitive (log_line_seen x) (log_line_seen y) (log_line_seen z) p q) (λ x y p. key_tested (log_line_seen x) (log_line_seen y) p)
      lines (sorted_map (λ x y. same_id (line_id x) (line_id y) ≡ false) log_line_seen lines (permuted_apart line_id (lines_of requests cancels) (map log_line_seen lines) moved lines_apart)) up
      (λ x y a b apart.
      either_before LineBefore (log_line_seen x) (log_line_seen y) (room_lines r room) (lines_sorted r room h)
      (is_of_line r room (log_line_seen x) h (is_given (log_line_seen x) (has_map log_line_seen x lines a)))
      (is_of_line r room (log_line_seen y) h (is_given (log_line_seen y) (has_map log_line_seen y lines b)))
      (λ e. true≢false (sym (same_id_from (line_id (log_line_seen x)) (line_id (log_line_seen y)) (ap line_id e)) ∙ apart))))))
      (λ l. (is_given l, λ p. permuted_has l (lines_of requests cancels) (map log_line_seen lines) moved (is_line l p)))
    where
      is_given : (l : LogLine) → Has l (map log_line_seen lines) → IsLineOf r room l
      is_given l a = line_is l (has_permuted l (lines_of requests cancels) (map log_line_seen lines) moved a)

-- the error log of a room is its error rows and void cancels, sorted by these keys
pub log_rows : (r : Replica) (room : Text) (requests : List ErrorRow) (cancels : List CancelRow) (lines : List replies.LogLine) → IsReplica r → AreLogged r room requests cancels
    → IsPermutation (lines_of requests cancels) (map log_line_seen lines) → IsSortedByKey line_key log_key_cmp lines
    → filter_map logging_of (whole_list (view_of r room)) ≡ map line_logging (map log_line_seen lines)
log_rows r room requests cancels lines h are moved up = log_all r room requests cancels h are lines moved up

-- ---- the row of a write

-- where a search finds nothing, no element passes
none_found : {A : Type 0} (p : A → Bool) (x : A) (xs : List A) → find p xs ≡ None → Has x xs → p x ≡ true → ⊥
none_found p x [] e h t = h
none_found {A = A} p x (y ∷ ys) e h t = go (p y) refl e h (none_found p x ys)
  where
    go : (b : Bool) → p y ≡ b → cond b (Some y) (find p ys) ≡ None → Has x (y ∷ ys) → (find p ys ≡ None → Has x ys → p x ≡ true → ⊥) → ⊥
    go true s f g ih = let never : Some y ≡ None = f in cc
    go false s f (inl same) ih = true≢false (sym t ∙ ap p same ∙ s)
    go false s f (inr g) ih = ih f g t

-- what is found is a row of the write with this id, of the room
pub record IsRowOf (r : Replica) (room : Text) (id : Id) (p : PlaceRow) : Type 0 where
  pub there : IsRowIn (tables_of r) p
  pub in_room : row_room p ≡ room
  pub of_id : row_id p ≡ id

found_row : {R : Type 0} (r : Replica) (room : Text) (id : Id) (key : R → Id) (own : R → Text) (make : R → PlaceRow) (table : List R) (row : R)
    → ((x : R) → Has x table → IsRowIn (tables_of r) (make x)) → ((x : R) → row_room (make x) ≡ own x) → ((x : R) → row_id (make x) ≡ key x)
    → find (λ x. same_id (key x) id && bytes_eq (own x) room) table ≡ Some row → IsRowOf r room id (make row)
found_row r room id key own make table row in_table its_room its_id is =
    let f = find_has (λ x. same_id (key x) id && bytes_eq (own x) room) row table is in
    let p = and_parts (same_id (key row) id) (bytes_eq (own row) room) f.1 in
    record { there = in_table row f.0; in_room = its_room row ∙ one_name (own row) room p.1; of_id = its_id row ∙ same_id-true (key row) id p.0 }

pub place_found : (r : Replica) (room : Text) (id : Id) (found : code.PlaceRow) → IsPlaceOf room id (tables_of r) (Some found) → IsRowOf r room id (place_row_of found)
place_found r room id (place.Booked row) is = found_row r room id booking_id (λ x. x.room) rows.Booked (tables_of r).booking row (λ x a. a) (λ x. refl) (λ x. refl) is
place_found r room id (place.Logged row) is = found_row r room id error_id (λ x. x.room) rows.Erred (tables_of r).errorlog row (λ x a. a) (λ x. refl) (λ x. refl) is.1
place_found r room id (place.Cancelled row) is = found_row r room id cancelled_id (λ x. x.room) rows.Cancelled (tables_of r).cancelled row (λ x a. a) (λ x. refl) (λ x. refl) is.2
place_found r room id (place.Cancel row) is = found_row r room id cancel_id (λ x. x.room) rows.Cancel (tables_of r).cancels row (λ x a. a) (λ x. refl) (λ x. refl) is.3

-- where no row has the id, there is no such request
pub no_place_told : (r : Replica) (room : Text) (id : Id) → IsReplica r → IsPlaceOf room id (tables_of r) None → outcome_reply (told_of id (whole_list (view_of r room))) ≡ Refused NoSuchRequest
no_place_told r room id h is =
    none_in_room r room id h
    (λ row a own e. none_found (λ (x : BookingRow). same_id (booking_id x) id && bytes_eq x.room room) row (tables_of r).booking is.0 a
    (and_from (same_id (booking_id row) id) (bytes_eq row.room room) (same_id_from (booking_id row) id e) (same_name row.room room own)))
    (λ row a own e. none_found (λ (x : ErrorRow). same_id (error_id x) id && bytes_eq x.room room) row (tables_of r).errorlog is.1 a
    (and_from (same_id (error_id row) id) (bytes_eq row.room room) (same_id_from (error_id row) id e) (same_name row.room room own)))
    (λ row a own e. none_found (λ (x : CancelledRow). same_id (cancelled_id x) id && bytes_eq x.room room) row (tables_of r).cancelled is.2 a
    (and_from (same_id (cancelled_id row) id) (bytes_eq row.room room) (same_id_from (cancelled_id row) id e) (same_name row.room room own)))
    (λ row a own e. none_found (λ (x : CancelRow). same_id (cancel_id x) id && bytes_eq x.room room) row (tables_of r).cancels is.3 a
    (and_from (same_id (cancel_id row) id) (bytes_eq row.room room) (same_id_from (cancel_id row) id e) (same_name row.room room own)))

-- a booking that was taken back has the row of its cancel, which a keeper finds in the room
pub cancel_found : (r : Replica) (room : Text) (row : CancelledRow) (found : Option code.PlaceRow) → IsReplica r
    → Has row (tables_of r).cancelled → row.room ≡ room → IsPlaceOf room row.by (tables_of r) found
    → (c : CancelRow) × (row_of_cancel found ≡ Some c) × (outcome_reply (told_of (cancelled_id row) (whole_list (view_of r room))) ≡ OutcomeIs (cancelled_outcome row c))
cancel_found r room row found h a own is = go found is
  where
    told : ((c : CancelRow) × IsCancelOf (tables_of r) row c)
        × ((c : CancelRow) → Has c (tables_of r).cancels → cancel_id c ≡ row.by → outcome_reply (told_of (cancelled_id row) (whole_list (view_of r room))) ≡ OutcomeIs (cancelled_outcome row c))
    told = cancelled_tell r room row h a own

    cancel : CancelRow
    cancel = told.0.0

    -- the row that is found is the cancel's
    same : (p : PlaceRow) → IsRowOf r room row.by p → p ≡ rows.Cancel cancel
    same p of = one_place r p (rows.Cancel cancel) h of.there told.0.1.is_there (of.of_id ∙ sym told.0.1.is_by)

    none_is : IsPlaceOf room row.by (tables_of r) None → ⊥
    none_is at =
        none_found (λ (x : CancelRow). same_id (cancel_id x) row.by && bytes_eq x.room room) cancel (tables_of r).cancels at.3 told.0.1.is_there
        (and_from (same_id (cancel_id cancel) row.by) (bytes_eq cancel.room room) (same_id_from (cancel_id cancel) row.by told.0.1.is_by) (same_name cancel.room room (told.0.1.same_room ∙ own)))

    go : (o : Option code.PlaceRow) → IsPlaceOf room row.by (tables_of r) o
        → (c : CancelRow) × (row_of_cancel o ≡ Some c) × (outcome_reply (told_of (cancelled_id row) (whole_list (view_of r room))) ≡ OutcomeIs (cancelled_outcome row c))
    go None at = absurd (none_is at)
    go (Some (place.Booked x)) at = absurd (let bad : rows.Booked x ≡ rows.Cancel cancel = same (rows.Booked x) (place_found r room row.by (place.Booked x) at) in cc bad)
    go (Some (place.Logged x)) at = absurd (let bad : rows.Erred x ≡ rows.Cancel cancel = same (rows.Erred x) (place_found r room row.by (place.Logged x) at) in cc bad)
    go (Some (place.Cancelled x)) at = absurd (let bad : rows.Cancelled x ≡ rows.Cancel cancel = same (rows.Cancelled x) (place_found r room row.by (place.Cancelled x) at) in cc bad)
    go (Some (place.Cancel x)) at = let of = place_found r room row.by (place.Cancel x) at in (x, refl, told.1 x of.there of.of_id)
