-- The committed calendar: committed bookings that stand, and those whose cancel is tentative.
use Rattle.std.proofs.Common.{◌≡◌, refl, sym, ap, ◌∙◌, subst, ◌+◌, Bool, true, false, not, eqb, List, [], ◌∷◌, ◌++◌, map, ◌⊎◌, inl, inr, Option, Some, None, eqb-true}
use Rattle.std.proofs.lemmas.Bool.{true≢false}
use Rattle.std.specs.List.{filter_map}
use Rattle.mr_model.specs.Dropped.{Has}
use Rattle.mr_model.specs.Texts.{Text}
use Rattle.mr_model.specs.Slots.{Slot}
use Rattle.mr_model.specs.Writes.{Id, Write, id_of, length_in, title_in}
use Rattle.mr_model.specs.Replay.{slot_at}
use Rattle.mr_model.specs.Replica.{Replica, committed, tentative, IsReplica}
use Rattle.mr_model.specs.Board.{after}
use Rattle.mr_model.specs.Replies.{Entry}
use Rattle.mr_model.specs.View.{Placed, Told, placed_of, of_room, view_of, cancel_of, tell, committed_list, entry_with, entry_unless, entry_of, entries}
use Rattle.mr_model.specs.Tables.{BookingRow, CancelledRow, CancelRow, PlaceRow, seq_of, place_row, as_booking, as_cancelled, as_cancel, as_booked}
use Rattle.mr_model.specs.Tables as rows
use Rattle.mr_model.specs.Queries.{row_entry, cancel_id, AreInStartOrder, IsCommittedBooking, stands, back, AreCommittedBookingsOf}
use Rattle.mr_model.proofs.Members.{has_map, map_has, find_has, has_filter_map, filter_map_has, Sorted, sorted_same}
use Rattle.mr_model.proofs.KnownById.{one_known}
use Rattle.mr_model.proofs.UniqueReplay.{some_inj, none_some}
use Rattle.mr_model.proofs.EntryOrder.{EntryBefore, entry_irreflexive, entry_trans, by_start_sorted, sorted_has, has_sorted}
use Rattle.mr_model.proofs.PlacedInOrder.{committed-places}
use Rattle.mr_model.proofs.RoomTold.{IsToldOf, told_of_room, room_list, told_id, told_placed, told_cancel, told_in_room, known_told, committed-seq}
use Rattle.mr_model.proofs.PlacesOfOrder.{room_places, placed_has}
use Rattle.mr_model.proofs.Cancellers.{or_else, cancel-append}
use Rattle.mr_model.proofs.RowsTell.{Case, stood, gone, erred, done, void, case_of, booked_as, erred_as, cancelled_as, cancel_as, of_known, known_of, entry-row, IsTakenBack, back_of}
use Rattle.mr_model.proofs.CalendarsTell.{committed_part, tentative_part, part_apart, start_sorted, option_back, with_booking_row, row_told}

-- ---- what is told with more behind

-- the same write told alone and with more behind
record Longer (qs : List Placed) (t u : Told) : Type 0 where
  same : placed_of t ≡ placed_of u
  more : u.cancelled_by ≡ or_else t.cancelled_by (cancel_of (told_id t) qs)

longer_of : (ps qs : List Placed) (t : Told) → Has t (tell ps) → (u : Told) × Has u (tell (ps ++ qs)) × Longer qs t u
longer_of [] qs t h = absurd h
longer_of (p ∷ ps) qs t (inl e) = (
  record { write = p.write; is_committed = p.is_committed; place = p.place; cancelled_by = cancel_of (id_of p.write) (ps ++ qs) },
  inl refl,
  record {
    same = ap placed_of e;
    more = cancel-append (id_of p.write) ps qs ∙ sym (λ i. or_else (e i).cancelled_by (cancel_of (told_id (e i)) qs));
  },
)
longer_of (p ∷ ps) qs t (inr h) = let (u, g, l) = longer_of ps qs t h in (u, inr g, l)

shorter_of : (ps qs : List Placed) (u : Told) → Has u (tell (ps ++ qs)) → ((t : Told) × Has t (tell ps) × Longer qs t u) ⊎ Has u (tell qs)
shorter_of [] qs u h = inr h
shorter_of (p ∷ ps) qs u (inl e) =
    inl (
      record { write = p.write; is_committed = p.is_committed; place = p.place; cancelled_by = cancel_of (id_of p.write) ps },
      inl refl,
      record { same = sym (ap placed_of e); more = ap (λ (x : Told). x.cancelled_by) e ∙ cancel-append (id_of p.write) ps qs },
    )
shorter_of (p ∷ ps) qs u (inr h) = go (shorter_of ps qs u h)
  where
    go : ((t : Told) × Has t (tell ps) × Longer qs t u) ⊎ Has u (tell qs) → ((t : Told) × Has t (tell (p ∷ ps)) × Longer qs t u) ⊎ Has u (tell qs)
    go (inl (t, g, l)) = inl (t, inr g, l)
    go (inr g) = inr g

-- ---- of a room

module _ (r : Replica) (room : Text) (h : IsReplica r) where
  ps : List Placed
  ps = committed_part r room

  qs : List Placed
  qs = tentative_part r room

  early : (p : Placed) → Has p (committed_part r room) → p.is_committed ≡ true
  early p a = (placed_has true [] p (of_room room (committed r)) a).1

  late : (p : Placed) → Has p (tentative_part r room) → p.is_committed ≡ false
  late p a = (placed_has false (after [] (of_room room (committed r))) p (of_room room (tentative r)) a).1

  -- a committed one is told among the committed
  told_early : (u : Told) → Has u (room_list r room) → u.is_committed ≡ true → (t : Told) × Has t (tell (committed_part r room)) × Longer (tentative_part r room) t u
  told_early u a e = go (shorter_of (committed_part r room) (tentative_part r room) u a)
    where
      go : ((t : Told) × Has t (tell (committed_part r room)) × Longer (tentative_part r room) t u) ⊎ Has u (tell (tentative_part r room))
          → (t : Told) × Has t (tell (committed_part r room)) × Longer (tentative_part r room) t u
      go (inl x) = x
      go (inr g) = absurd (true≢false (sym e ∙ late (placed_of u) (told_placed (tentative_part r room) u g)))

  entry_uncancelled : (t : Told) (e : Entry) → entry_of t ≡ Some e → t.cancelled_by ≡ None
  entry_uncancelled t e f = go t.cancelled_by refl
    where
      go : (c : Option Placed) → t.cancelled_by ≡ c → t.cancelled_by ≡ None
      go None g = g
      go (Some c) g = absurd (none_some e (sym (ap (λ x. entry_unless x t) g) ∙ f))

  -- an entry without regard to cancels
  bare : (t : Told) → t.cancelled_by ≡ None → entry_of t ≡ entry_with t (slot_at t.write t.place)
  bare t c = ap (λ x. entry_unless x t) c

  bare_same : (t u : Told) → placed_of t ≡ placed_of u → entry_with t (slot_at t.write t.place) ≡ entry_with u (slot_at u.write u.place)
  bare_same t u e = ap (λ (p : Placed). entry_with (record { write = p.write; is_committed = p.is_committed; place = p.place; cancelled_by = None }) (slot_at p.write p.place)) e

  to_rows : (e : Entry) (t : Told) → Has t (tell (committed_part r room)) → entry_of t ≡ Some e → (row : BookingRow) × IsCommittedBooking r room row × (e ≡ row_entry row)
  to_rows e t a f = go (cancel_of (told_id t) (tentative_part r room)) refl
    where
      alone : t.cancelled_by ≡ None
      alone = entry_uncancelled t e f

      found : (u : Told) × Has u (tell (room_places r room)) × Longer (tentative_part r room) t u
      found = longer_of (committed_part r room) (tentative_part r room) t a

      u : Told
      u = found.0

      k : IsToldOf r room found.0
      k = told_of_room r room found.0 h found.1

      marked : found.0.is_committed ≡ true
      marked = sym (ap (λ (p : Placed). p.is_committed) found.2.same) ∙ early (placed_of t) (told_placed (committed_part r room) t a)

      plain : entry_with found.0 (slot_at found.0.write found.0.place) ≡ Some e
      plain = sym (bare_same t found.0 found.2.same) ∙ sym (bare t alone) ∙ f

      go : (c : Option Placed) → cancel_of (told_id t) (tentative_part r room) ≡ c → (row : BookingRow) × IsCommittedBooking r room row × (e ≡ row_entry row)
      go None g =
          let none : found.0.cancelled_by ≡ None = found.2.more ∙ (λ i. or_else (alone i) (g i)) in
          let own : entry_of found.0 ≡ Some e = bare found.0 none ∙ plain in
          let (row, i, s) = option_back row_entry (as_booking (place_row r found.0.write)) e (sym (entry-row r room found.0 k) ∙ own) in
          let w = with_booking_row r room found.0 row k i in
          (row, stands (of_known as_booking r row h found.0.write k.known i) (w.in_room ∙ k.in_room) (w.mark ∙ sym k.mark ∙ marked), s)
      go (Some c) g = by_case (case_of r room found.0 k)
        where
          some : found.0.cancelled_by ≡ Some c
          some = found.2.more ∙ (λ i. or_else (alone i) (g i))

          away : IsTakenBack r found.0 c
          away = back_of r room found.0 c h found.1 some

          late_cancel : c.is_committed ≡ false
          late_cancel = late c (find_has _ c (tentative_part r room) g).0

          zero_seq : seq_of r c.write ≡ 0
          zero_seq = eqb-true (seq_of r c.write) 0 (not_not (eqb (seq_of r c.write) 0) (sym (committed-seq r c.write) ∙ sym away.mark ∙ late_cancel))
            where
              not_not : (b : Bool) → not b ≡ false → b ≡ true
              not_not true x = refl
              not_not false x = absurd (true≢false x)

          impossible : (o : Option Slot) → slot_at found.0.write found.0.place ≡ o → o ≡ None → (row : BookingRow) × IsCommittedBooking r room row × (e ≡ row_entry row)
          impossible o x y = absurd (none_some e (sym (ap (entry_with found.0) (x ∙ y)) ∙ plain))

          by_case : Case r found.0 → (row : BookingRow) × IsCommittedBooking r room row × (e ≡ row_entry row)
          by_case (gone m s d act o b row) =
              let same : d ≡ c = some_inj d c (sym b ∙ some) in
              let is_row : place_row r found.0.write ≡ rows.Cancelled (cancelled_as r found.0.write m s c) = row ∙ ap (λ x. rows.Cancelled (cancelled_as r found.0.write m s x)) same in (
                as_booked (cancelled_as r found.0.write m s c),
                back (cancelled_as r found.0.write m s c) (cancel_as r c.write away.target true)
                    (of_known as_cancelled r (cancelled_as r found.0.write m s c) h found.0.write k.known (ap as_cancelled is_row))
                    k.in_room (sym k.mark ∙ marked)
                    (of_known as_cancel r (cancel_as r c.write away.target true) h c.write away.known (ap as_cancel away.row))
                    refl zero_seq refl,
                some_inj e (row_entry (booked_as r found.0.write m s)) (sym plain ∙ ap (entry_with found.0) o
                    ∙ (let mark = k.mark in
                    λ i. Some (record { day = s.day; start = s.start; stop = s.start + length_in (act i); is_committed = mark i; id = id_of found.0.write; title = title_in (act i) }))),
              )
          by_case (stood m s act o b row) = absurd (none_some c (sym b ∙ some))
          by_case (erred m act p b row) = absurd (none_some c (sym b ∙ some))
          by_case (done x act p row) = impossible (slot_at found.0.write found.0.place) refl (ap (slot_at found.0.write) p)
          by_case (void x act p row) = impossible (slot_at found.0.write found.0.place) refl (ap (slot_at found.0.write) p)

  uncancelled : (t : Told) (c : Option Placed) → t.cancelled_by ≡ c → (o : Option Placed)
      → or_else t.cancelled_by (cancel_of (told_id t) (tentative_part r room)) ≡ o → ((d : Placed) → c ≡ Some d → o ≡ Some d → ⊥) → t.cancelled_by ≡ None
  uncancelled t None e o g f = e
  uncancelled t (Some d) e o g f = absurd (f d refl (sym g ∙ ap (λ x. or_else x (cancel_of (told_id t) (tentative_part r room))) e))

  from_rows : (b : BookingRow) → IsCommittedBooking r room b → (t : Told) × Has t (tell (committed_part r room)) × (entry_of t ≡ Some (row_entry b))
  from_rows row (stands a own mark) =
      let (u, c, i) = row_told r room row h a own in
      let k = told_of_room r room u h c in
      let wu = with_booking_row r room u row k i in
      let (t, d, l) = told_early u c (k.mark ∙ sym wu.mark ∙ mark) in
      let none : u.cancelled_by ≡ None = entry_uncancelled u (row_entry row) wu.entry in
      let alone : t.cancelled_by ≡ None = uncancelled t t.cancelled_by refl u.cancelled_by (sym l.more) (λ p q z. none_some p (sym none ∙ z)) in
      (t, d, bare t alone ∙ bare_same t u l.same ∙ sym (bare u none) ∙ wu.entry)
  from_rows row0 (back row c a own mark b id zero is) =
      let (w, g, i) = known_of as_cancelled r row a in
      by_case w g i
    where
      row_of : (w : Write) → as_cancelled (place_row r w) ≡ Some row → place_row r w ≡ rows.Cancelled row
      row_of w i = go (place_row r w) i
        where
          go : (p : PlaceRow) → as_cancelled p ≡ Some row → p ≡ rows.Cancelled row
          go (rows.Booked x) f = absurd (none_some row f)
          go (rows.Erred x) f = absurd (none_some row f)
          go (rows.Cancelled x) f = ap rows.Cancelled (some_inj x row f)
          go (rows.Cancel x) f = absurd (none_some row f)

      cancel_of_row : (v : Write) → as_cancel (place_row r v) ≡ Some c → Has v r.known → (x : Id) × (d : Bool) × (c ≡ cancel_as r v x d)
      cancel_of_row v i g =
          let (t, x, y) = known_told r v h g in
          subst (λ z. (x : Id) × (d : Bool) × (c ≡ cancel_as r z x d)) y (go t (told_of_room r v.room t h x) (ap (λ z. as_cancel (place_row r z)) y ∙ i))
        where
          go : (t : Told) → IsToldOf r v.room t → as_cancel (place_row r t.write) ≡ Some c → (x : Id) × (d : Bool) × (c ≡ cancel_as r t.write x d)
          go t k j = at (case_of r v.room t k)
            where
              at : Case r t → (x : Id) × (d : Bool) × (c ≡ cancel_as r t.write x d)
              at (stood m s act o q p) = absurd (none_some c (sym (ap as_cancel p) ∙ j))
              at (gone m s z act o q p) = absurd (none_some c (sym (ap as_cancel p) ∙ j))
              at (erred m act o q p) = absurd (none_some c (sym (ap as_cancel p) ∙ j))
              at (done x act o p) = (x, true, sym (some_inj (cancel_as r t.write x true) c (sym (ap as_cancel p) ∙ j)))
              at (void x act o p) = (x, false, sym (some_inj (cancel_as r t.write x false) c (sym (ap as_cancel p) ∙ j)))

      by_told : (u : Told) → Has u (room_list r room) → place_row r u.write ≡ rows.Cancelled row → (t : Told) × Has t (tell (committed_part r room)) × (entry_of t ≡ Some (row_entry row0))
      by_told u x p = at (case_of r room u k)
        where
          k : IsToldOf r room u
          k = told_of_room r room u h x

          other : (q : PlaceRow) → place_row r u.write ≡ q → as_cancelled q ≡ None → (t : Told) × Has t (tell (committed_part r room)) × (entry_of t ≡ Some (row_entry row0))
          other q f n = absurd (none_some row (sym n ∙ ap as_cancelled (sym f ∙ p)))

          at : Case r u → (t : Told) × Has t (tell (committed_part r room)) × (entry_of t ≡ Some (row_entry row0))
          at (stood m s act o q f) = other (rows.Booked (booked_as r u.write m s)) f refl
          at (erred m act o q f) = other (rows.Erred (erred_as r u.write m)) f refl
          at (done z act o f) = other (rows.Cancel (cancel_as r u.write z true)) f refl
          at (void z act o f) = other (rows.Cancel (cancel_as r u.write z false)) f refl
          at (gone m s d act o q f) =
              let same : cancelled_as r u.write m s d ≡ row = some_inj (cancelled_as r u.write m s d) row (ap as_cancelled (sym f ∙ p)) in
              let marked : u.is_committed ≡ true = k.mark ∙ ap (λ (z : CancelledRow). z.committed) same ∙ mark in
              let (t, y, l) = told_early u x marked in
              let away = back_of r room u d h x q in
              let (v, vk, vi) = known_of as_cancel r c b in
              let (tx, td, cs) = cancel_of_row v vi vk in
              let one : v ≡ d.write = one_known r v d.write h vk away.known (sym (ap cancel_id cs) ∙ id ∙ sym (ap (λ (z : CancelledRow). z.by) same)) in
              let no_seq : seq_of r d.write ≡ 0 = ap (seq_of r) (sym one) ∙ sym (ap (λ (z : CancelRow). z.seq) cs) ∙ zero in
              let unmarked : d.is_committed ≡ false = away.mark ∙ committed-seq r d.write ∙ ap (λ n. not (eqb n 0)) no_seq in
              let alone : t.cancelled_by ≡ None = uncancelled t t.cancelled_by refl u.cancelled_by (sym l.more) (λ z zs zu. early_not t y d z zs (some_inj z d (sym zu ∙ q)) unmarked) in (
                t,
                y,
                bare t alone ∙ bare_same t u l.same ∙ ap (entry_with u) o
                    ∙ (let m0 = k.mark in λ i. Some (record { day = s.day; start = s.start; stop = s.start + length_in (act i); is_committed = m0 i; id = id_of u.write; title = title_in (act i) }))
                    ∙ ap (λ z. Some (row_entry (as_booked z))) same ∙ ap (λ z. Some (row_entry z)) (sym is),
              )
            where
              early_not : (t : Told) → Has t (tell (committed_part r room)) → (d z : Placed) → t.cancelled_by ≡ Some z → z ≡ d → d.is_committed ≡ false → ⊥
              early_not t y d z zs s n = true≢false (sym (early z (told_cancel (committed_part r room) t z y zs).0) ∙ ap (λ (p : Placed). p.is_committed) s ∙ n)

      by_case : (w : Write) → Has w r.known → as_cancelled (place_row r w) ≡ Some row → (t : Told) × Has t (tell (committed_part r room)) × (entry_of t ≡ Some (row_entry row0))
      by_case w g i =
          let (u, x, y) = told_in_room r room w h g (own_room w g i) in
          by_told u x (ap (place_row r) y ∙ row_of w i)
        where
          own_room : (w : Write) → Has w r.known → as_cancelled (place_row r w) ≡ Some row → w.room ≡ room
          own_room w g i =
              let (u, x, y) = known_told r w h g in
              sym (ap (λ (z : Write). z.room) y) ∙ at u (told_of_room r w.room u h x) (ap (λ z. as_cancelled (place_row r z)) y ∙ i) ∙ own
            where
              at : (u : Told) → IsToldOf r w.room u → as_cancelled (place_row r u.write) ≡ Some row → u.write.room ≡ row.room
              at u k j = go (case_of r w.room u k)
                where
                  go : Case r u → u.write.room ≡ row.room
                  go (stood m s act o q f) = absurd (none_some row (sym (ap as_cancelled f) ∙ j))
                  go (erred m act o q f) = absurd (none_some row (sym (ap as_cancelled f) ∙ j))
                  go (done z act o f) = absurd (none_some row (sym (ap as_cancelled f) ∙ j))
                  go (void z act o f) = absurd (none_some row (sym (ap as_cancelled f) ∙ j))
                  go (gone m s d act o q f) = ap (λ (z : CancelledRow). z.room) (some_inj (cancelled_as r u.write m s d) row (sym (ap as_cancelled f) ∙ j))

is_part : (r : Replica) (room : Text) → committed_list (view_of r room) ≡ tell (committed_part r room)
is_part r room = ap tell (committed-places (view_of r room))

pub committed_has_row : (r : Replica) (room : Text) (e : Entry) → IsReplica r → Has e (entries (committed_list (view_of r room)))
    → (row : BookingRow) × IsCommittedBooking r room row × (e ≡ row_entry row)
committed_has_row r room e h a =
    let (t, b, f) = filter_map_has entry_of e (committed_list (view_of r room)) (sorted_has e (filter_map entry_of (committed_list (view_of r room))) a) in
    to_rows r room h e t (subst (λ ts. Has t ts) (is_part r room) b) f

pub row_has_committed : (r : Replica) (room : Text) (row : BookingRow) → IsReplica r → IsCommittedBooking r room row → Has (row_entry row) (entries (committed_list (view_of r room)))
row_has_committed r room row h c =
    let (t, b, f) = from_rows r room h row c in
    has_sorted (row_entry row) (filter_map entry_of (committed_list (view_of r room)))
    (has_filter_map entry_of t (row_entry row) (committed_list (view_of r room)) f (subst (λ ts. Has t ts) (sym (is_part r room)) b))

pub committed_sorted : (r : Replica) (room : Text) → IsReplica r → Sorted EntryBefore (entries (committed_list (view_of r room)))
committed_sorted r room h = by_start_sorted (filter_map entry_of (committed_list (view_of r room))) (part_apart r room h)

pub committed_told : (r : Replica) (room : Text) (rows : List BookingRow) → IsReplica r → AreInStartOrder rows
    → AreCommittedBookingsOf r room rows → entries (committed_list (view_of r room)) ≡ map row_entry rows
committed_told r room rs h o m =
    sorted_same EntryBefore entry_irreflexive entry_trans (entries (committed_list (view_of r room))) (map row_entry rs) (committed_sorted r room h) (start_sorted rs o) there back_to
  where
    there : (e : Entry) → Has e (entries (committed_list (view_of r room))) → Has e (map row_entry rs)
    there e a =
        let (row, c, s) = committed_has_row r room e h a in
        subst (λ x. Has x (map row_entry rs)) (sym s) (has_map row_entry row rs ((m row).1 c))

    back_to : (e : Entry) → Has e (map row_entry rs) → Has e (entries (committed_list (view_of r room)))
    back_to e a =
        let (row, g, s) = map_has row_entry e rs a in
        subst (λ x. Has x (entries (committed_list (view_of r room)))) (sym s) (row_has_committed r room row h ((m row).0 g))
