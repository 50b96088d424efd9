-- Calendars show the bookings that stand; these are apart; and what becomes of writes follows from their order.
use Rattle.std.proofs.Common.{◌≡◌, refl, sym, ap, ◌∙◌, subst, ℕ, ◌+◌, Bool, true, false, not, cond, List, [], ◌∷◌, ◌++◌, length, map, drop, ◌⊎◌, inl, inr, Option, Some, None, add-zero, append-nil}
use Rattle.std.proofs.lemmas.Bool.{true≢false}
use Rattle.std.proofs.lemmas.List.{map-append}
use Rattle.std.specs.Prelude.{option_map}
use Rattle.std.specs.List.{filter, flat_map, filter_map, slice_get, AllByRecursion}
use Rattle.mr_model.specs.Slots.{Slot, Overlap}
use Rattle.mr_model.specs.Writes.{Id, Meeting, Action, Books, Cancels, Write, id_of, same_id, choices_of, length_of, choices_in, length_in}
use Rattle.mr_model.specs.Replay.{Place, Taken, Logged, Done, Void, Booking, place_for, place_among, slot_at, booking_of, without_target, booked_with, replay}
use Rattle.mr_model.specs.Board.{after}
use Rattle.mr_model.specs.Replies.{Entry}
use Rattle.mr_model.specs.View.{View, Placed, cancels_it, cancel_of, Told, tell, placed_with, whole_places, committed_places}
use Rattle.mr_model.specs.View.{booking_unless, booked_told, whole_list, committed_list, entry_with, entry_unless, entry_of}
use Rattle.mr_model.specs.Laws.{Shows, ShowsStanding, AreApart, fate_of, of_committed, as_committed}
use Rattle.mr_model.specs.Dropped.{Has}
use Rattle.mr_model.proofs.Members.{has_left, has_right, has_split, filter_has, all_has, has_all, has_filter_map, filter_map_has, find_has}
use Rattle.mr_model.proofs.EntryOrder.{sorted_has, has_sorted}
use Rattle.mr_model.proofs.UniqueReplay.{Meets, Choice, one_free, none_free, choice, first_free_taken, first_free_logged, before-stands, stands-before, some_inj}
use Rattle.mr_model.proofs.PlacedInOrder.{placed_among, among-append, stand_alone, whole-places, standing-told, standing-told-of-committed, after-before}
use Rattle.mr_model.proofs.RowsById.{flat_has}

-- ---- entries

pub has_flat : {A B : Type 0} (f : A → List B) (x : A) (y : B) (xs : List A) → Has x xs → Has y (f x) → Has y (flat_map f xs)
has_flat f x y [] h g = absurd h
has_flat f x y (z ∷ zs) (inl e) g = has_left y (f z) (flat_map f zs) (subst (λ w. Has y (f w)) e g)
has_flat f x y (z ∷ zs) (inr h) g = has_right y (f z) (flat_map f zs) (has_flat f x y zs h g)

-- the entry of a told write is that of its booking
module _ (t : Told) where
  entry_shows : (o : Option Slot) (e : Entry) → entry_with t o ≡ Some e → (b : Booking) × Has b (booking_of t.write o) × Shows e b
  entry_shows None e h = absurd (let g : ◌≡◌ {A = Option Entry} None (Some e) = h in cc)
  entry_shows (Some s) e h =
      let same = some_inj _ e h in (
        record { id = id_of t.write; slot = s; length = length_of t.write },
        inl refl,
        record {
          day = sym (ap (λ (x : Entry). x.day) same);
          start = sym (ap (λ (x : Entry). x.start) same);
          stop = sym (ap (λ (x : Entry). x.stop) same);
          id = sym (ap (λ (x : Entry). x.id) same);
        },
      )

  booking_shown : (o : Option Slot) (b : Booking) → Has b (booking_of t.write o) → (e : Entry) × (entry_with t o ≡ Some e) × Shows e b
  booking_shown None b h = absurd h
  booking_shown (Some s) b (inr h) = absurd h
  booking_shown (Some s) b (inl same) = (
    _,
    refl,
    record {
      day = ap (λ (x : Booking). x.slot.day) (sym same);
      start = ap (λ (x : Booking). x.slot.start) (sym same);
      stop = ap (λ (x : Booking). x.slot.start + x.length) (sym same);
      id = ap (λ (x : Booking). x.id) (sym same);
    },
  )

  entry-shows : (e : Entry) → entry_of t ≡ Some e → (b : Booking) × Has b (booked_told t) × Shows e b
  entry-shows e h = go t.cancelled_by h
    where
      go : (c : Option Placed) → entry_unless c t ≡ Some e → (b : Booking) × Has b (booking_unless c t.write t.place) × Shows e b
      go None g = entry_shows (slot_at t.write t.place) e g
      go (Some c) g = absurd (let k : ◌≡◌ {A = Option Entry} None (Some e) = g in cc)

  booking-shown : (b : Booking) → Has b (booked_told t) → (e : Entry) × (entry_of t ≡ Some e) × Shows e b
  booking-shown b h = go t.cancelled_by h
    where
      go : (c : Option Placed) → Has b (booking_unless c t.write t.place) → (e : Entry) × (entry_unless c t ≡ Some e) × Shows e b
      go None g = booking_shown (slot_at t.write t.place) b g
      go (Some c) g = absurd g

pub shows_standing : (ts : List Told) (ws : List Write) → flat_map booked_told ts ≡ after [] ws → ShowsStanding ts ws
shows_standing ts ws same = record {
  shown = λ e h.
      let (t, i, is) = filter_map_has entry_of e ts (sorted_has e (filter_map entry_of ts) h) in
      let (b, k, s) = entry-shows t e is in
      (b, before-stands ws (replay ws) (length ws) b (subst (λ bs. Has b bs) (same ∙ after-before ws) (has_flat booked_told t b ts i k)), s);
  all = λ b h.
      let (t, i, k) = flat_has booked_told b ts (subst (λ bs. Has b bs) (sym (same ∙ after-before ws)) (stands-before ws (replay ws) (length ws) b h)) in
      let (e, is, s) = booking-shown t b k in
      (e, has_sorted e (filter_map entry_of ts) (has_filter_map entry_of t e ts is i), s);
}

pub calendars_show : (v : View) → ShowsStanding (whole_list v) (v.committed ++ v.tentative) × ShowsStanding (committed_list v) v.committed
calendars_show v = (shows_standing (whole_list v) (v.committed ++ v.tentative) (standing-told v), shows_standing (committed_list v) v.committed (standing-told-of-committed v))

-- ---- no two that stand overlap

apart_filter : (p : Booking → Bool) (bs : List Booking) → AreApart bs → AreApart (filter p bs)
apart_filter p [] h = tt
apart_filter p (b ∷ bs) h = go (p b) (apart_filter p bs h.1)
  where
    go : (c : Bool) → AreApart (filter p bs) → AreApart (cond c (b ∷ filter p bs) (filter p bs))
    go false ih = ih
    go true ih = (has_all (λ c. ¬ (Overlap b.slot b.length c.slot c.length)) (filter p bs) (λ c i. all_has (λ x. ¬ (Overlap b.slot b.length x.slot x.length)) c bs h.0 (filter_has p c bs i).0), ih)

pub overlap_turned : (a : Slot) (m : ℕ) (b : Slot) (n : ℕ) → Overlap a m b n → Overlap b n a m
overlap_turned a m b n (day, minute, x, y) = (day, minute, y, x)

apart_last : (bs : List Booking) (x : Booking) → AreApart bs → (Meets bs x.slot x.length → ⊥) → AreApart (bs ++ x ∷ [])
apart_last [] x h free = (tt, tt)
apart_last (b ∷ bs) x h free = (
  has_all (λ c. ¬ (Overlap b.slot b.length c.slot c.length)) (bs ++ x ∷ []) each,
  apart_last bs x h.1 (λ m. free (inr m)),
)
  where
    each : (c : Booking) → Has c (bs ++ x ∷ []) → Overlap b.slot b.length c.slot c.length → ⊥
    each c i o = go (has_split c bs (x ∷ []) i)
      where
        go : Has c bs ⊎ Has c (x ∷ []) → ⊥
        go (inl g) = all_has (λ y. ¬ (Overlap b.slot b.length y.slot y.length)) c bs h.0 g o
        go (inr (inr g)) = absurd g
        go (inr (inl e)) = free (inl (overlap_turned b.slot b.length x.slot x.length (subst (λ (y : Booking). Overlap b.slot b.length y.slot y.length) e o)))

-- what a booking took was free
taken_free : (bs : List Booking) (m : Meeting) (k : ℕ) (s : Slot) → place_for bs (Books m) ≡ Taken k → slice_get (choices_of m) k ≡ Some s → Meets bs s m.length → ⊥
taken_free bs m k s e at meets = go (choice bs m.length (choices_of m))
  where
    same : (i j : ℕ) → Taken i ≡ Taken j → i ≡ j
    same i j g = cc

    go : Choice bs m.length (choices_of m) → ⊥
    go (one_free c f) =
        let k_is : c ≡ k = same c k (sym (first_free_taken bs m.length 0 (choices_of m) c f ∙ ap Taken (add-zero c)) ∙ e) in
        let slot : f.slot ≡ s = some_inj f.slot s (sym f.is_choice ∙ ap (slice_get (choices_of m)) k_is ∙ at) in
        f.free (subst (λ u. Meets bs u m.length) (sym slot) meets)
    go (none_free all) = let g : Logged ≡ Taken k = sym (first_free_logged bs m.length 0 (choices_of m) all) ∙ e in absurd (cc)

apart_booked : (bs : List Booking) (w : Write) (p : Place) → place_among bs w ≡ p → AreApart bs → AreApart (booked_with bs w p)
apart_booked bs w Logged e h = h
apart_booked bs w Void e h = h
apart_booked bs w Done e h = go w.action
  where
    go : (a : Action) → AreApart (without_target bs a)
    go (Books m) = h
    go (Cancels t) = apart_filter (λ b. not (same_id b.id t)) bs h
apart_booked bs w (Taken k) e h = go w.action refl (slot_at w (Taken k)) refl
  where
    go : (a : Action) → w.action ≡ a → (o : Option Slot) → slot_at w (Taken k) ≡ o → AreApart (bs ++ booking_of w o)
    go a ea None eo = subst AreApart (sym (append-nil bs)) h
    go (Cancels t) ea (Some s) eo = absurd (let g : ◌≡◌ {A = Option Slot} None (Some s) = sym (ap (λ x. slice_get (choices_in x) k) ea) ∙ eo in cc)
    go (Books m) ea (Some s) eo =
        apart_last bs (record { id = id_of w; slot = s; length = length_of w }) h
        (λ x. taken_free bs m k s (ap (place_for bs) (sym ea) ∙ e) (sym (ap (λ a. slice_get (choices_in a) k) ea) ∙ eo) (subst (λ n. Meets bs s n) (ap length_in ea) x))

pub apart_after : (bs : List Booking) (ws : List Write) → AreApart bs → AreApart (after bs ws)
apart_after bs [] h = h
apart_after bs (w ∷ ws) h = apart_after (booked_with bs w (place_among bs w)) ws (apart_booked bs w (place_among bs w) refl h)

-- ---- fates

-- without its mark
abbrev pub erased : Placed → Placed
erased p = record { write = p.write; is_committed = false; place = p.place }

pub cancel-erased : (i : Id) (ps : List Placed) → cancel_of i (map erased ps) ≡ option_map erased (cancel_of i ps)
cancel-erased i [] = refl
cancel-erased i (p ∷ ps) = go (cancels_it i p.write.action p.place) (cancel-erased i ps)
  where
    go : (b : Bool) → cancel_of i (map erased ps) ≡ option_map erased (cancel_of i ps) → cond b (Some (erased p)) (cancel_of i (map erased ps)) ≡ option_map erased (cond b (Some p) (cancel_of i ps))
    go true ih = refl
    go false ih = ih

pub same_ids : (o : Option Placed) → option_map (λ c. id_of c.write) (option_map erased o) ≡ option_map (λ c. id_of c.write) o
same_ids None = refl
same_ids (Some c) = refl

fates-erased : (ps : List Placed) → map fate_of (tell (map erased ps)) ≡ map fate_of (tell ps)
fates-erased [] = refl
fates-erased (p ∷ ps) =
    let by = ap (option_map (λ (c : Placed). id_of c.write)) (cancel-erased (id_of p.write) ps) ∙ same_ids (cancel_of (id_of p.write) ps) in
    let rest = fates-erased ps in
    λ i. record { write = p.write; place = p.place; cancelled_by = by i } ∷ rest i

erased-among : (mark : Bool) (bs : List Booking) (ws : List Write) → map erased (placed_among mark bs ws) ≡ placed_among false bs ws
erased-among mark bs [] = refl
erased-among mark bs (w ∷ ws) = ap (λ (ps : List Placed). record { write = w; is_committed = false; place = place_among bs w } ∷ ps) (erased-among mark (booked_with bs w (place_among bs w)) ws)

pub whole-erased : (v : View) → map erased (whole_places v) ≡ placed_among false [] (v.committed ++ v.tentative)
whole-erased v =
    let cs = placed_among true [] v.committed in
    let ts = placed_among false (after [] v.committed) v.tentative in
    ap (map erased) (whole-places v) ∙ map-append erased cs ts ∙ ap (λ ps. ps ++ map erased ts) (erased-among true [] v.committed)
    ∙ ap (λ ps. placed_among false [] v.committed ++ ps) (erased-among false (after [] v.committed) v.tentative) ∙ sym (among-append false [] v.committed v.tentative)

-- what becomes of writes follows from their order
pub fates_by_order : (u v : View) → u.committed ++ u.tentative ≡ v.committed ++ v.tentative → map fate_of (whole_list u) ≡ map fate_of (whole_list v)
fates_by_order u v e =
    sym (fates-erased (whole_places u)) ∙ ap (λ ps. map fate_of (tell ps)) (whole-erased u ∙ ap (placed_among false []) e ∙ sym (whole-erased v)) ∙ fates-erased (whole_places v)

-- ---- the committed part of the whole list

-- all with this mark
abbrev AllMarked : Bool → List Placed → Type 0
AllMarked m ps = AllByRecursion (λ p. p.is_committed ≡ m) ps

marked_with : (m : Bool) (ws : List Write) (ps : List Place) → AllMarked m (placed_with m ws ps)
marked_with m [] ps = tt
marked_with m (w ∷ ws) [] = tt
marked_with m (w ∷ ws) (p ∷ ps) = (refl, marked_with m ws ps)

cancel_marked : (i : Id) (m : Bool) (ps : List Placed) (c : Placed) → AllMarked m ps → cancel_of i ps ≡ Some c → c.is_committed ≡ m
cancel_marked i m ps c h e = all_has (λ p. p.is_committed ≡ m) c ps h (find_has (λ p. cancels_it i p.write.action p.place) c ps e).0

-- of cancels among committed writes and then others only the former count
committed_cancel : (i : Id) (xs ys : List Placed) → AllMarked true xs → AllMarked false ys → of_committed (cancel_of i (xs ++ ys)) ≡ cancel_of i xs
committed_cancel i [] ys h k = go (cancel_of i ys) refl
  where
    go : (o : Option Placed) → cancel_of i ys ≡ o → of_committed o ≡ None
    go None e = refl
    go (Some c) e = ap (λ b. cond b (Some c) None) (cancel_marked i false ys c k e)
committed_cancel i (x ∷ xs) ys h k = go (cancels_it i x.write.action x.place) (committed_cancel i xs ys h.1 k)
  where
    go : (b : Bool) → of_committed (cancel_of i (xs ++ ys)) ≡ cancel_of i xs → of_committed (cond b (Some x) (cancel_of i (xs ++ ys))) ≡ cond b (Some x) (cancel_of i xs)
    go true ih = ap (λ b. cond b (Some x) None) h.0
    go false ih = ih

others_gone : (ys : List Placed) → AllMarked false ys → map as_committed (filter (λ t. t.is_committed) (tell ys)) ≡ []
others_gone [] k = refl
others_gone (y ∷ ys) k =
    ap (λ b. map as_committed (cond b (record { write = y.write; is_committed = y.is_committed; place = y.place; cancelled_by = cancel_of (id_of y.write) ys } ∷
    filter (λ t. t.is_committed) (tell ys)) (filter (λ t. t.is_committed) (tell ys)))) k.0
    ∙ others_gone ys k.1

committed_tell : (xs ys : List Placed) → AllMarked true xs → AllMarked false ys → tell xs ≡ map as_committed (filter (λ t. t.is_committed) (tell (xs ++ ys)))
committed_tell [] ys h k = sym (others_gone ys k)
committed_tell (x ∷ xs) ys h k =
    let rest = committed_tell xs ys h.1 k in
    let by = committed_cancel (id_of x.write) xs ys h.1 k in
    (λ i. record { write = x.write; is_committed = x.is_committed; place = x.place; cancelled_by = sym by i } ∷ rest i)
    ∙ ap (λ b. map as_committed (cond b (later ∷ filter (λ t. t.is_committed) (tell (xs ++ ys))) (filter (λ t. t.is_committed) (tell (xs ++ ys))))) (sym h.0)
  where
    later : Told
    later = record { write = x.write; is_committed = x.is_committed; place = x.place; cancelled_by = cancel_of (id_of x.write) (xs ++ ys) }

pub committed_part_told : (v : View) → committed_list v ≡ map as_committed (filter (λ t. t.is_committed) (whole_list v))
committed_part_told v =
    committed_tell (committed_places v) (placed_with false v.tentative places) (marked_with true v.committed (replay v.committed)) (marked_with false v.tentative places)
    ∙ ap (λ ps. map as_committed (filter (λ t. t.is_committed) (tell ps))) (sym (stand_alone v))
  where
    places : List Place
    places = drop (length v.committed) (replay (v.committed ++ v.tentative))

-- a cancel behind a tentative write is tentative
later_cancel : (xs ys : List Placed) (t : Told) (c : Placed) → AllMarked true xs → AllMarked false ys
    → Has t (tell (xs ++ ys)) → t.is_committed ≡ false → t.cancelled_by ≡ Some c → c.is_committed ≡ false
later_cancel [] [] t c h k i m e = absurd i
later_cancel [] (y ∷ ys) t c h k (inl s) m e = cancel_marked (id_of y.write) false ys c k.1 (sym (ap (λ (u : Told). u.cancelled_by) s) ∙ e)
later_cancel [] (y ∷ ys) t c h k (inr i) m e = later_cancel [] ys t c h k.1 i m e
later_cancel (x ∷ xs) ys t c h k (inl s) m e = absurd (true≢false (sym h.0 ∙ sym (ap (λ (u : Told). u.is_committed) s) ∙ m))
later_cancel (x ∷ xs) ys t c h k (inr i) m e = later_cancel xs ys t c h.1 k i m e

pub cancels_later : (v : View) (t : Told) (c : Placed) → Has t (whole_list v) → t.is_committed ≡ false → t.cancelled_by ≡ Some c → c.is_committed ≡ false
cancels_later v t c i m e =
    later_cancel (committed_places v) (placed_with false v.tentative places) t c (marked_with true v.committed (replay v.committed)) (marked_with false v.tentative places)
    (subst (λ ps. Has t (tell ps)) (stand_alone v) i) m e
  where
    places : List Place
    places = drop (length v.committed) (replay (v.committed ++ v.tentative))
