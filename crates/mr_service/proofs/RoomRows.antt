-- From the rows that a keeper picks of the tables of a replica to the calendars of a room.
use Rattle.std.proofs.Common.{◌≡◌, refl, sym, ap, ◌∙◌, subst, true, false, ◌||◌, ◌&&◌, eqb, ltb, List, [], ◌∷◌, map, ◌⊎◌, inl, inr, Option, Some, None, lt-ltb, eqb-true, eq-eqb}
use Rattle.std.proofs.lemmas.Bool.{true≢false, and_parts, and_from, or_left, or_right, false_from_ne_true}
use Rattle.std.specs.List.{filter}
use Rattle.std.specs.List.Sorted.{IsPermutation, IsSortedBy}
use Rattle.std.specs.Str.{bytes_eq}
use Rattle.mr_replay.proofs.Lists.{one_name, same_name}
use Rattle.mr_model.specs.Texts.{Text}
use Rattle.mr_model.specs.Calendar.{Date, same_date, date_before}
use Rattle.mr_model.specs.Writes.{same_id}
use Rattle.mr_model.specs.Replica.{Replica, IsReplica}
use Rattle.mr_model.specs.Replies.{Entry}
use Rattle.mr_model.specs.View.{view_of, whole_list, committed_list, entries}
use Rattle.mr_model.specs.Tables.{BookingRow, CancelledRow, CancelRow, as_booked, tables_of}
use Rattle.mr_model.specs.Tables as rows
use Rattle.mr_model.specs.Dropped.{Has}
use Rattle.mr_model.specs.Queries.{row_entry, booking_id, cancelled_id, cancel_id, BookingBefore, AreInStartOrder, IsCommittedBooking, stands, back}
use Rattle.mr_model.proofs.Members.{has_filter, filter_has, has_map, map_has, has_left, has_right, has_split, has_any, any_has}
use Rattle.mr_model.proofs.Members.{has_all, all_has, Sorted, sorted_same, sorted_filter, same_id-true, same_id_from}
use Rattle.mr_model.proofs.SlotTests.{same_date_from}
use Rattle.mr_model.proofs.Runs.{sorted_append}
use Rattle.mr_model.proofs.RowsTell.{cancelled_tell, one_cancel}
use Rattle.mr_model.proofs.CalendarsTell.{entry_has_row, row_has_entry, entries_sorted, start_sorted, calendar_told}
use Rattle.mr_model.proofs.CommittedTell.{row_has_committed, committed_sorted, committed_told}
use Rattle.mr_model.proofs.EntryOrder.{EntryBefore, entry_cases, entry_from, entry_irreflexive, entry_trans}
use Rattle.mr_model.proofs.KeyOrder.{tables_in_order}
use Rattle.mr_store.specs.Picked.{is_day_asked, picked_bookings, picked_cancelled, picked_cancels, booking_before, AreBookings}
use Rattle.mr_service.specs.Questions.{has_tentative, committed_rows}
use Rattle.mr_service.proofs.OneRow.{one_place}
use Rattle.mr_service.proofs.RowOrder.{either_before, permuted_has, has_permuted, table_apart, permuted_apart, in_strict_order, sorted_rows}

-- ---- picked rows

-- what is picked are the rows of the room, and of the day where one is asked for
picked_has : (r : Replica) (room : Text) (day : Option Date) (row : BookingRow) → Has row (picked_bookings room day (tables_of r))
    → Has row (tables_of r).booking × (row.room ≡ room) × (is_day_asked day row.day ≡ true)
picked_has r room day row a =
    let f = filter_has (λ (x : BookingRow). bytes_eq x.room room && is_day_asked day x.day) row (tables_of r).booking a in
    let p = and_parts (bytes_eq row.room room) (is_day_asked day row.day) f.1 in
    (f.0, one_name row.room room p.0, p.1)

has_picked : (r : Replica) (room : Text) (day : Option Date) (row : BookingRow) → Has row (tables_of r).booking
    → row.room ≡ room → is_day_asked day row.day ≡ true → Has row (picked_bookings room day (tables_of r))
has_picked r room day row a own asked =
    has_filter (λ (x : BookingRow). bytes_eq x.room room && is_day_asked day x.day) row (tables_of r).booking
    (and_from (bytes_eq row.room room) (is_day_asked day row.day) (same_name row.room room own) asked) a

-- ---- the order of a calendar

-- the order of rows is that of their entries
booking_trans : (a b c : BookingRow) → BookingBefore a b → BookingBefore b c → BookingBefore a c
booking_trans a b c f g =
    entry_cases (row_entry a) (row_entry c) (entry_trans (row_entry a) (row_entry b) (row_entry c) (entry_from (row_entry a) (row_entry b) f) (entry_from (row_entry b) (row_entry c) g))

-- rows in the strict order pass the keeper's test
booking_tested : (a b : BookingRow) → BookingBefore a b → booking_before a b ≡ true
booking_tested a b (inl e) = or_left (date_before a.day b.day) _ e
booking_tested a b (inr e) =
    or_right (date_before a.day b.day) _
    (and_from (same_date a.day b.day) _ (same_date_from a.day b.day e.0)
    (or_left (ltb a.start b.start) (eqb a.start b.start && (ltb a.server b.server || (eqb a.server b.server && ltb a.n b.n))) (lt-ltb a.start b.start e.1)))

-- of two rows that a list shows in the order of entries, and that are of different ids, one is before the other
either_shown : (x y : BookingRow) (es : List Entry) → Sorted EntryBefore es → Has (row_entry x) es
    → Has (row_entry y) es → same_id (booking_id x) (booking_id y) ≡ false → BookingBefore x y ⊎ BookingBefore y x
either_shown x y es sorted a b apart =
    go (either_before EntryBefore (row_entry x) (row_entry y) es sorted a b
    (λ e. true≢false (sym (same_id_from (booking_id x) (booking_id y) (ap (λ (f : Entry). f.id) e)) ∙ apart)))
  where
    go : EntryBefore (row_entry x) (row_entry y) ⊎ EntryBefore (row_entry y) (row_entry x) → BookingBefore x y ⊎ BookingBefore y x
    go (inl e) = inl (entry_cases (row_entry x) (row_entry y) e)
    go (inr e) = inr (entry_cases (row_entry y) (row_entry x) e)

-- no two bookings of a room begin together, so that the rows are in the strict order
bookings_sorted : (r : Replica) (room : Text) (day : Option Date) (rows : List BookingRow) → IsReplica r → AreBookings room day (tables_of r) rows → Sorted BookingBefore rows
bookings_sorted r room day rows h are =
    sorted_rows booking_id BookingBefore booking_before booking_trans booking_tested
    (λ x. bytes_eq x.room room && is_day_asked day x.day) (tables_of r).booking rows (tables_in_order r h).booking are.0 are.1
    (λ x y a b apart.
    let p = picked_has r room day x a in
    let q = picked_has r room day y b in
    either_shown x y (entries (whole_list (view_of r room))) (entries_sorted r room h) (row_has_entry r room x h p.0 p.1) (row_has_entry r room y h q.0 q.1) apart)

-- one order in the words of the laws
start_order : (rows : List BookingRow) → Sorted BookingBefore rows → AreInStartOrder rows
start_order [] s = tt
start_order (x ∷ xs) s = (s.0, start_order xs s.1)

-- ---- the full calendar, and a sheet

-- the full calendar is the bookings of all days
pub calendar_rows : (r : Replica) (room : Text) (rows : List BookingRow) → IsReplica r → AreBookings room None (tables_of r) rows → entries (whole_list (view_of r room)) ≡ map row_entry rows
calendar_rows r room rows h are =
    calendar_told r room rows h (start_order rows (bookings_sorted r room None rows h are))
    (λ row. (
      (λ a. let p = picked_has r room None row (has_permuted row (picked_bookings room None (tables_of r)) rows are.0 a) in (p.0, p.1)),
      λ p. permuted_has row (picked_bookings room None (tables_of r)) rows are.0 (has_picked r room None row p.0 p.1 refl),
    ))

-- a day's sheet is the bookings of that day
pub sheet_rows : (r : Replica) (room : Text) (day : Date) (rows : List BookingRow) → IsReplica r → AreBookings room (Some day) (tables_of r) rows
    → filter (λ e. same_date e.day day) (entries (whole_list (view_of r room))) ≡ map row_entry rows
sheet_rows r room day rows h are =
    sorted_same EntryBefore entry_irreflexive entry_trans (filter (λ e. same_date e.day day) whole) (map row_entry rows)
    (sorted_filter EntryBefore (λ e. same_date e.day day) whole (entries_sorted r room h)) (start_sorted rows (start_order rows (bookings_sorted r room (Some day) rows h are))) there back_to
  where
    whole : List Entry
    whole = entries (whole_list (view_of r room))

    there : (e : Entry) → Has e (filter (λ (x : Entry). same_date x.day day) (entries (whole_list (view_of r room)))) → Has e (map row_entry rows)
    there e a =
        let f = filter_has (λ (x : Entry). same_date x.day day) e (entries (whole_list (view_of r room))) a in
        let (row, b, own, s) = entry_has_row r room e h f.0 in
        subst (λ x. Has x (map row_entry rows)) (sym s)
        (has_map row_entry row rows
        (permuted_has row (picked_bookings room (Some day) (tables_of r)) rows are.0 (has_picked r room (Some day) row b own (ap (λ (x : Entry). same_date x.day day) (sym s) ∙ f.1))))

    back_to : (e : Entry) → Has e (map row_entry rows) → Has e (filter (λ (x : Entry). same_date x.day day) (entries (whole_list (view_of r room))))
    back_to e a =
        let (row, b, s) = map_has row_entry e rows a in
        let p = picked_has r room (Some day) row (has_permuted row (picked_bookings room (Some day) (tables_of r)) rows are.0 b) in
        subst (λ x. Has x (filter (λ (y : Entry). same_date y.day day) (entries (whole_list (view_of r room))))) (sym s)
        (has_filter (λ (y : Entry). same_date y.day day) (row_entry row) (entries (whole_list (view_of r room))) p.2 (row_has_entry r room row h p.0 p.1))

-- ---- the committed calendar

-- what a keeper gives of a room: its bookings, those that a cancel took back, and its cancels
pub record AreOfRoom (r : Replica) (room : Text) (bookings : List BookingRow) (cancelled : List CancelledRow) (cancels : List CancelRow) : Type 0 where
  pub bookings_are : IsPermutation (picked_bookings room None (tables_of r)) bookings
  pub cancelled_are : IsPermutation (picked_cancelled room (tables_of r)) cancelled
  pub cancels_are : IsPermutation (picked_cancels room (tables_of r)) cancels

module _ (r : Replica) (room : Text) (bookings : List BookingRow) (cancelled : List CancelledRow) (cancels : List CancelRow) (h : IsReplica r) (are : AreOfRoom r room bookings cancelled cancels) where
  of_booking : (row : BookingRow) → Has row bookings → Has row (tables_of r).booking × (row.room ≡ room)
  of_booking row a = let p = picked_has r room None row (has_permuted row (picked_bookings room None (tables_of r)) bookings are.bookings_are a) in (p.0, p.1)

  of_cancelled : (gone : CancelledRow) → Has gone cancelled → Has gone (tables_of r).cancelled × (gone.room ≡ room)
  of_cancelled gone a =
      let f = filter_has (λ (x : CancelledRow). bytes_eq x.room room) gone (tables_of r).cancelled (has_permuted gone (picked_cancelled room (tables_of r)) cancelled are.cancelled_are a) in
      (f.0, one_name gone.room room f.1)

  of_cancel : (c : CancelRow) → Has c cancels → Has c (tables_of r).cancels
  of_cancel c a = (filter_has (λ (x : CancelRow). bytes_eq x.room room) c (tables_of r).cancels (has_permuted c (picked_cancels room (tables_of r)) cancels are.cancels_are a)).0

  -- the rows that are shown are those of the law
  shown_is : (row : BookingRow) → Has row (committed_rows bookings cancelled cancels) → IsCommittedBooking r room row
  shown_is row a = go (has_split row (filter (λ (x : BookingRow). x.committed) bookings) _ a)
    where
      go : Has row (filter (λ (x : BookingRow). x.committed) bookings)
          ⊎ Has row (map as_booked (filter (λ (x : CancelledRow). x.committed && has_tentative x.by cancels) cancelled)) → IsCommittedBooking r room row
      go (inl b) =
          let f = filter_has (λ (x : BookingRow). x.committed) row bookings b in
          let p = of_booking row f.0 in
          stands p.0 p.1 f.1
      go (inr b) =
          let (gone, c, s) = map_has as_booked row _ b in
          let f = filter_has (λ (x : CancelledRow). x.committed && has_tentative x.by cancels) gone cancelled c in
          let p = of_cancelled gone f.0 in
          let t = and_parts gone.committed (has_tentative gone.by cancels) f.1 in
          let (k, d, e) = has_any (λ (x : CancelRow). same_id (cancel_id x) gone.by && eqb x.seq 0) cancels t.1 in
          let q = and_parts (same_id (cancel_id k) gone.by) (eqb k.seq 0) e in
          back gone k p.0 p.1 t.0 (of_cancel k d) (same_id-true (cancel_id k) gone.by q.0) (eqb-true k.seq 0 q.1) s

  is_shown : (row : BookingRow) → IsCommittedBooking r room row → Has row (committed_rows bookings cancelled cancels)
  is_shown row (stands a own mark) =
      has_left row (filter (λ (x : BookingRow). x.committed) bookings) _
      (has_filter (λ (x : BookingRow). x.committed) row bookings mark (permuted_has row (picked_bookings room None (tables_of r)) bookings are.bookings_are (has_picked r room None row a own refl)))
  is_shown row (back gone c a own mark b by zero is) =
      has_right row (filter (λ (x : BookingRow). x.committed) bookings) _
      (subst (λ x. Has x (map as_booked (filter (λ (x : CancelledRow). x.committed && has_tentative x.by cancels) cancelled))) (sym is)
      (has_map as_booked gone _
      (has_filter (λ (x : CancelledRow). x.committed && has_tentative x.by cancels) gone cancelled (and_from gone.committed (has_tentative gone.by cancels) mark tentative) given)))
    where
      given : Has gone cancelled
      given = permuted_has gone (picked_cancelled room (tables_of r)) cancelled are.cancelled_are
          (has_filter (λ (x : CancelledRow). bytes_eq x.room room) gone (tables_of r).cancelled (same_name gone.room room own) a)

      in_room : c.room ≡ room
      in_room =
          let told = cancelled_tell r room gone h a own in
          let (d, of) = told.0 in
          ap (λ (x : CancelRow). x.room) (one_cancel r c d h b of.is_there (by ∙ sym of.is_by)) ∙ of.same_room ∙ own

      tentative : has_tentative gone.by cancels ≡ true
      tentative =
          any_has (λ (x : CancelRow). same_id (cancel_id x) gone.by && eqb x.seq 0) c cancels
          (and_from (same_id (cancel_id c) gone.by) (eqb c.seq 0) (same_id_from (cancel_id c) gone.by by) (eq-eqb c.seq 0 zero))
          (permuted_has c (picked_cancels room (tables_of r)) cancels are.cancels_are (has_filter (λ (x : CancelRow). bytes_eq x.room room) c (tables_of r).cancels (same_name c.room room in_room) b))

  -- they are of different ids
  shown_apart : Sorted (λ x y. same_id (booking_id x) (booking_id y) ≡ false) (committed_rows bookings cancelled cancels)
  shown_apart =
      sorted_append (λ x y. same_id (booking_id x) (booking_id y) ≡ false) (filter (λ (x : BookingRow). x.committed) bookings)
      (map as_booked (filter (λ (x : CancelledRow). x.committed && has_tentative x.by cancels) cancelled))
      (sorted_filter (λ x y. same_id (booking_id x) (booking_id y) ≡ false) (λ x. x.committed) bookings
      (permuted_apart booking_id (picked_bookings room None (tables_of r)) bookings are.bookings_are
      (table_apart booking_id (λ x. bytes_eq x.room room && true) (tables_of r).booking (tables_in_order r h).booking)))
      (booked_apart (filter (λ (x : CancelledRow). x.committed && has_tentative x.by cancels) cancelled)
      (sorted_filter (λ x y. same_id (cancelled_id x) (cancelled_id y) ≡ false) (λ (x : CancelledRow). x.committed && has_tentative x.by cancels) cancelled
      (permuted_apart cancelled_id (picked_cancelled room (tables_of r)) cancelled are.cancelled_are
      (table_apart cancelled_id (λ x. bytes_eq x.room room) (tables_of r).cancelled (tables_in_order r h).cancelled))))
      across
    where
      booked_apart : (gs : List CancelledRow) → Sorted (λ x y. same_id (cancelled_id x) (cancelled_id y) ≡ false) gs → Sorted (λ x y. same_id (booking_id x) (booking_id y) ≡ false) (map as_booked gs)
      booked_apart [] s = tt
      booked_apart (g ∷ gs) s = (
        has_all (λ y. same_id (booking_id (as_booked g)) (booking_id y) ≡ false) (map as_booked gs)
            (λ y a. let (z, b, e) = map_has as_booked y gs a in
            subst (λ u. same_id (cancelled_id g) (booking_id u) ≡ false) (sym e) (all_has (λ u. same_id (cancelled_id g) (cancelled_id u) ≡ false) z gs s.0 b)),
        booked_apart gs s.1,
      )

      across : (x y : BookingRow) → Has x (filter (λ (x : BookingRow). x.committed) bookings)
          → Has y (map as_booked (filter (λ (x : CancelledRow). x.committed && has_tentative x.by cancels) cancelled)) → same_id (booking_id x) (booking_id y) ≡ false
      across x y a b =
          false_from_ne_true (same_id (booking_id x) (booking_id y))
          (λ e.
          let (gone, c, s) = map_has as_booked y _ b in
          let p = of_booking x (filter_has (λ (x : BookingRow). x.committed) x bookings a).0 in
          let q = of_cancelled gone (filter_has (λ (x : CancelledRow). x.committed && has_tentative x.by cancels) gone cancelled c).0 in
          let one : rows.Booked x ≡ rows.Cancelled gone = one_place r (rows.Booked x) (rows.Cancelled gone) h p.0 q.0 (same_id-true (booking_id x) (booking_id y) e ∙ ap booking_id s) in
          cc one)

  committed_all : (shown : List BookingRow) → IsPermutation (committed_rows bookings cancelled cancels) shown
      → IsSortedBy booking_before shown → entries (committed_list (view_of r room)) ≡ map row_entry shown
  committed_all shown moved up =
      committed_told r room shown h
      (start_order shown
      (in_strict_order booking_id BookingBefore booking_before booking_trans booking_tested shown (permuted_apart booking_id (committed_rows bookings cancelled cancels) shown moved shown_apart) up
      (λ x y a b apart.
      either_shown x y (entries (committed_list (view_of r room))) (committed_sorted r room h)
      (row_has_committed r room x h (shown_is x (has_permuted x (committed_rows bookings cancelled cancels) shown moved a)))
      (row_has_committed r room y h (shown_is y (has_permuted y (committed_rows bookings cancelled cancels) shown moved b))) apart)))
      (λ row. (
        (λ a. shown_is row (has_permuted row (committed_rows bookings cancelled cancels) shown moved a)),
        λ c. permuted_has row (committed_rows bookings cancelled cancels) shown moved (is_shown row c),
      ))

-- the committed calendar: the committed bookings, and those that a tentative cancel took back
pub committed_calendar_rows : (r : Replica) (room : Text) (bookings : List BookingRow) (cancelled : List CancelledRow) (cancels : List CancelRow) (shown : List BookingRow)
    → IsReplica r → AreOfRoom r room bookings cancelled cancels
    → IsPermutation (committed_rows bookings cancelled cancels) shown → IsSortedBy booking_before shown → entries (committed_list (view_of r room)) ≡ map row_entry shown
committed_calendar_rows r room bookings cancelled cancels shown h are moved up = committed_all r room bookings cancelled cancels h are shown moved up
