-- The error log of a room is its error rows and its void cancels, in the order of the room's list. And the rows of each table
-- rise by their ids.
use Rattle.std.proofs.Common.{◌≡◌, refl, sym, ap, ◌∙◌, subst, ℕ, ◌+◌, ◌<◌, ◌≤◌, Bool, true, false, not, cond, List, [], ◌∷◌, ◌++◌, map, ◌⊎◌, inl, inr, Option, Some, None, arith, IsTrue}
use Rattle.std.proofs.lemmas.Bool.{true≢false, false_from_ne_true, cond-true, cond-false}
use Rattle.std.proofs.lemmas.List.{map-append}
use Rattle.std.proofs.lemmas.List.Elements.{filter-append}
use Rattle.std.specs.Prelude.{option_map}
use Rattle.std.specs.List.{filter_map, cons_option}
use Rattle.std.specs.Str.{bytes_eq}
use Rattle.mr_model.specs.Dropped.{Has}
use Rattle.mr_model.specs.Texts.{Text}
use Rattle.mr_model.specs.Slots.{Slot}
use Rattle.mr_model.specs.Writes.{Id, Books, Write, id_of, same_id, stamp_before, Meeting}
use Rattle.mr_model.specs.Replay.{Place, slot_at, Taken, Logged, Done, Void}
use Rattle.mr_model.specs.Replica.{Replica, committed, tentative, order_of, IsReplica}
use Rattle.mr_model.specs.Board.{after}
use Rattle.mr_model.specs.Replies.{RequestLogged, CancelLogged}
use Rattle.mr_model.specs.View.{Placed, Told, of_room, view_of, tell, whole_list, logging_with, logging_of}
use Rattle.mr_model.specs.Tables.{CancelRow, PlaceRow, seq_among, seq_of, place_row, as_error, as_cancel}
use Rattle.mr_model.specs.Tables as rows
use Rattle.mr_model.specs.Queries.{LogLine, OfLogged, OfVoid, line_seq, line_time, line_server, line_logging, LineBefore, both, one, none, AreInLogOrder, IsLineOf, AreErrorsOf, is_marked}
use Rattle.mr_model.proofs.Members.{has_map, has_filter_map, filter_map_has, has_all, all_has, Sorted, sorted_same, sorted_filter, same_id-true, same_id_refl, among_not, Distinct}
use Rattle.mr_model.proofs.OrderedSets.{before-true, Before}
use Rattle.mr_model.proofs.KnownById.{committed_ids, committed_known, tentative_known, tentative_sorted, distinct_commits}
use Rattle.mr_model.proofs.UniqueReplay.{some_inj, none_some}
use Rattle.mr_model.proofs.PlacedInOrder.{placed_among}
use Rattle.mr_model.proofs.Runs.{sorted_append}
use Rattle.mr_model.proofs.RoomTold.{IsToldOf, told_of_room, room_list, room-list, told_id, told_in_room, known_told, committed-seq}
use Rattle.mr_model.proofs.RowsById.{seq_not, seq_has}
use Rattle.mr_model.proofs.PlacesOfOrder.{room_places, placed-writes}
use Rattle.mr_model.proofs.RowsTell.{Case, stood, gone, erred, done, void, case_of, booked_as, erred_as, cancelled_as, cancel_as, of_known, known_of, erred_is, cancel_is}

pub sorted_within : {A : Type 0} (P Q : A → A → Type 0) (xs : List A) → ((x y : A) → Has x xs → Has y xs → P x y → Q x y) → Sorted P xs → Sorted Q xs
sorted_within P Q [] f s = tt
sorted_within P Q (x ∷ xs) f s = (has_all (Q x) xs (λ y h. f x y (inl refl) (inr h) (all_has (P x) y xs s.0 h)), sorted_within P Q xs (λ y z h g. f y z (inr h) (inr g)) s.1)

pub sorted_map : {A B : Type 0} (P : B → B → Type 0) (f : A → B) (xs : List A) → Sorted P (map f xs) → Sorted (λ x y. P (f x) (f y)) xs
sorted_map P f [] s = tt
sorted_map P f (x ∷ xs) s = (has_all (λ y. P (f x) (f y)) xs (λ y h. all_has (P (f x)) (f y) (map f xs) s.0 (has_map f y xs h)), sorted_map P f xs s.1)

pub sorted_filter_map : {A B : Type 0} (P : A → A → Type 0) (Q : B → B → Type 0) (f : A → Option B) (xs : List A)
    → ((x y : A) (u v : B) → P x y → f x ≡ Some u → f y ≡ Some v → Q u v) → Sorted P xs → Sorted Q (filter_map f xs)
sorted_filter_map P Q f [] k s = tt
sorted_filter_map {A = A} {B = B} P Q f (x ∷ xs) k s = go (f x) refl (sorted_filter_map P Q f xs k s.1)
  where
    go : (o : Option B) → f x ≡ o → Sorted Q (filter_map f xs) → Sorted Q (cons_option o (filter_map f xs))
    go None e t = t
    go (Some u) e t = (has_all (Q u) (filter_map f xs) (λ v h. let (y, g, i) = filter_map_has f v xs h in k x y u v (all_has (P x) y xs s.0 g) e i), t)

seq_sorted : (k : ℕ) (ids : List Id) → Distinct ids → Sorted (λ i j. seq_among k ids i < seq_among k ids j) ids
seq_sorted k [] d = tt
seq_sorted k (x ∷ xs) d = (
  has_all (λ j. seq_among k (x ∷ xs) x < seq_among k (x ∷ xs) j) xs (λ j h. let l : k + 1 ≤ seq_among (k + 1) xs j = seq_has (k + 1) xs j h in
      let f : seq_among k (x ∷ xs) x ≡ k = first in let g : seq_among k (x ∷ xs) j ≡ seq_among (k + 1) xs j = later j h in omega (arith, l, f, g)),
  sorted_within (λ i j. seq_among (k + 1) xs i < seq_among (k + 1) xs j) (λ i j. seq_among k (x ∷ xs) i < seq_among k (x ∷ xs) j) xs
      (λ i j h g l. let p : seq_among k (x ∷ xs) i ≡ seq_among (k + 1) xs i = later i h in
      let q : seq_among k (x ∷ xs) j ≡ seq_among (k + 1) xs j = later j g in omega (arith, l, p, q)) (seq_sorted (k + 1) xs d.1),
)
  where
    first : seq_among k (x ∷ xs) x ≡ k
    first = cond-true (same_id x x) k (seq_among (k + 1) xs x) (same_id_refl x)

    later : (j : Id) → Has j xs → seq_among k (x ∷ xs) j ≡ seq_among (k + 1) xs j
    later j h = cond-false (same_id x j) k (seq_among (k + 1) xs j) (false_from_ne_true (same_id x j) (λ e. among_not x xs d.0 (subst (λ i. Has i xs) (sym (same_id-true x j e)) h)))

-- a write comes before another in the order
abbrev pub OrderBefore : Replica → Write → Write → Type 0
OrderBefore r x y =
    ((0 < seq_of r x) × (seq_of r x < seq_of r y)) ⊎ (((0 < seq_of r x) × (seq_of r y ≡ 0)) ⊎ ((seq_of r x ≡ 0) × (seq_of r y ≡ 0) × IsTrue (stamp_before x y)))

pub order_sorted : (r : Replica) → IsReplica r → Sorted (OrderBefore r) (order_of r)
order_sorted r h =
    sorted_append (OrderBefore r) (committed r) (tentative r)
    (sorted_within (λ x y. seq_of r x < seq_of r y) (OrderBefore r) (committed r) (λ x y p q l. inl (positive x p, l))
    (sorted_map (λ i j. seq_among 1 r.commits i < seq_among 1 r.commits j) id_of (committed r)
    (subst (λ is. Sorted (λ i j. seq_among 1 r.commits i < seq_among 1 r.commits j) is) (sym (committed_ids r h)) (seq_sorted 1 r.commits (distinct_commits r h)))))
    (sorted_within (λ x y. IsTrue (stamp_before x y)) (OrderBefore r) (tentative r) (λ x y p q l. inr (inr (nothing x p, nothing y q, l))) (tentative_sorted r h))
    (λ x y p q. inr (inl (positive x p, nothing y q)))
  where
    positive : (x : Write) → Has x (committed r) → 0 < seq_of r x
    positive x p = let l : 1 ≤ seq_of r x = seq_has 1 r.commits (id_of x) (committed_known r x h p).1 in omega (arith, l)

    nothing : (x : Write) → Has x (tentative r) → seq_of r x ≡ 0
    nothing x p = seq_not 1 r.commits (id_of x) (among_not (id_of x) r.commits (tentative_known r x p).1)

-- ---- lines

line_irreflexive : (r : LogLine) → LineBefore r r → ⊥
line_irreflexive r (both p q) = omega (arith, q)
line_irreflexive r (one p q) = omega (arith, p, q)
line_irreflexive r (none p q (inl l)) = omega (arith, l)
line_irreflexive r (none p q (inr l)) = omega (arith, l.1)

line_transitive : (r s t : LogLine) → LineBefore r s → LineBefore s t → LineBefore r t
line_transitive r s t (both p q) (both u v) = both p (omega (arith, q, v))
line_transitive r s t (both p q) (one u v) = one p v
line_transitive r s t (both p q) (none u v w) = absurd (omega (arith, q, u))
line_transitive r s t (one p q) (both u v) = absurd (omega (arith, q, u))
line_transitive r s t (one p q) (one u v) = absurd (omega (arith, q, u))
line_transitive r s t (one p q) (none u v w) = one p v
line_transitive r s t (none p q l) (both u v) = absurd (omega (arith, q, u))
line_transitive r s t (none p q l) (one u v) = absurd (omega (arith, q, u))
line_transitive r s t (none p q l) (none u v m) = none p v (go l m)
  where
    go : (line_time r < line_time s) ⊎ ((line_time r ≡ line_time s) × (line_server r < line_server s)) → (line_time s < line_time t)
        ⊎ ((line_time s ≡ line_time t) × (line_server s < line_server t)) → (line_time r < line_time t) ⊎ ((line_time r ≡ line_time t) × (line_server r < line_server t))
    go (inl a) (inl b) = inl (omega (arith, a, b))
    go (inl a) (inr b) = inl (let e = b.0 in omega (arith, a, e))
    go (inr a) (inl b) = inl (let e = a.0 in omega (arith, b, e))
    go (inr a) (inr b) = inr (a.0 ∙ b.0, omega (arith, a.1, b.1))

-- the line of a row
abbrev pub unless_done : CancelRow → Option LogLine
unless_done c = cond c.done None (Some (OfVoid c))

abbrev pub line_in : PlaceRow → Option LogLine
line_in (rows.Booked row) = None
line_in (rows.Erred row) = Some (OfLogged row)
line_in (rows.Cancelled row) = None
line_in (rows.Cancel row) = unless_done row

logging-line : (r : Replica) (room : Text) (t : Told) → IsToldOf r room t → logging_of t ≡ option_map line_logging (line_in (place_row r t.write))
logging-line r room t k = go (case_of r room t k)
  where
    mark : t.is_committed ≡ is_marked (seq_of r t.write)
    mark = k.mark ∙ committed-seq r t.write

    taken : (m : Meeting) (p : Place) (s : Slot) → slot_at t.write p ≡ Some s → logging_with t (Books m) p ≡ None
    taken m (Taken i) s o = refl
    taken m Logged s o = absurd (none_some s o)
    taken m Done s o = refl
    taken m Void s o = refl

    go : Case r t → logging_of t ≡ option_map line_logging (line_in (place_row r t.write))
    go (stood m s f o c e) = ap (λ a. logging_with t a t.place) f ∙ taken m t.place s o ∙ sym (ap (λ x. option_map line_logging (line_in x)) e)
    go (gone m s c f o b e) = ap (λ a. logging_with t a t.place) f ∙ taken m t.place s o ∙ sym (ap (λ x. option_map line_logging (line_in x)) e)
    go (erred m f p c e) =
        (λ i. logging_with t (f i) (p i))
        ∙ ap (λ x. Some (RequestLogged (record { is_committed = x; id = told_id t; day = m.wish.day; start = m.wish.start; stop = m.wish.start + m.length; title = m.title }))) mark
        ∙ sym (ap (λ x. option_map line_logging (line_in x)) e)
    go (done x f p e) = (λ i. logging_with t (f i) (p i)) ∙ sym (ap (λ x. option_map line_logging (line_in x)) e)
    go (void x f p e) = (λ i. logging_with t (f i) (p i)) ∙ ap (λ y. Some (CancelLogged y (told_id t) x)) mark ∙ sym (ap (λ x. option_map line_logging (line_in x)) e)

-- a line bears the number, the time and the server of its write
record IsLineFor (r : Replica) (w : Write) (l : LogLine) : Type 0 where
  seq : line_seq l ≡ seq_of r w
  time : line_time l ≡ w.stamp.time
  server : line_server l ≡ w.stamp.server
  is_line : IsLineOf r w.room l

line_for : (r : Replica) (room : Text) (t : Told) (l : LogLine) → IsReplica r → IsToldOf r room t → line_in (place_row r t.write) ≡ Some l → IsLineFor r t.write l
line_for r room t l h k i = go (case_of r room t k)
  where
    never : (p : PlaceRow) → place_row r t.write ≡ p → line_in p ≡ None → IsLineFor r t.write l
    never p e n = absurd (none_some l (sym n ∙ ap line_in (sym e) ∙ i))

    here : (x : LogLine) → Some x ≡ Some l → IsLineFor r t.write x → IsLineFor r t.write l
    here x e f = subst (IsLineFor r t.write) (some_inj x l e) f

    go : Case r t → IsLineFor r t.write l
    go (stood m s f o c e) = never (rows.Booked (booked_as r t.write m s)) e refl
    go (gone m s c f o b e) = never (rows.Cancelled (cancelled_as r t.write m s c)) e refl
    go (done x f p e) = never (rows.Cancel (cancel_as r t.write x true)) e refl
    go (erred m f p c e) =
        here (OfLogged (erred_as r t.write m)) (sym (ap line_in e) ∙ i)
        (record { seq = refl; time = refl; server = refl; is_line = (of_known as_error r (erred_as r t.write m) h t.write k.known (ap as_error e), refl) })
    go (void x f p e) =
        here (OfVoid (cancel_as r t.write x false)) (sym (ap line_in e) ∙ i)
        (record { seq = refl; time = refl; server = refl; is_line = (of_known as_cancel r (cancel_as r t.write x false) h t.write k.known (ap as_cancel e), refl, refl) })

-- ---- the room's writes in their order

told-writes : (ps : List Placed) → map (λ (t : Told). t.write) (tell ps) ≡ map (λ (p : Placed). p.write) ps
told-writes [] = refl
told-writes (p ∷ ps) = ap (λ (ws : List Write). p.write ∷ ws) (told-writes ps)

room-writes : (r : Replica) (room : Text) → map (λ (t : Told). t.write) (room_list r room) ≡ of_room room (order_of r)
room-writes r room =
    told-writes (room_places r room)
    ∙ map-append (λ (p : Placed). p.write) (placed_among true [] cs) (placed_among false (after [] cs) ts)
    ∙ ap (λ ws. ws ++ map (λ (p : Placed). p.write) (placed_among false (after [] cs) ts)) (placed-writes true [] cs)
    ∙ ap (λ ws. cs ++ ws) (placed-writes false (after [] cs) ts)
    ∙ sym (filter-append (λ w. bytes_eq w.room room) (committed r) (tentative r))
  where
    cs : List Write
    cs = of_room room (committed r)

    ts : List Write
    ts = of_room room (tentative r)

-- ---- the law

abbrev told_line : Replica → Told → Option LogLine
told_line r t = line_in (place_row r t.write)

record InOrder (r : Replica) (room : Text) (t u : Told) : Type 0 where
  first : IsToldOf r room t
  second : IsToldOf r room u
  before : OrderBefore r t.write u.write

pub lines_sorted : (r : Replica) (room : Text) → IsReplica r → Sorted LineBefore (filter_map (told_line r) (room_list r room))
lines_sorted r room h =
    sorted_filter_map (InOrder r room) LineBefore (told_line r) (room_list r room) step
    (sorted_within (λ t u. OrderBefore r t.write u.write) (InOrder r room) (room_list r room)
    (λ t u a b o. record { first = told_of_room r room t h a; second = told_of_room r room u h b; before = o })
    (sorted_map (OrderBefore r) (λ (t : Told). t.write) (room_list r room)
    (subst (λ ws. Sorted (OrderBefore r) ws) (sym (room-writes r room)) (sorted_filter (OrderBefore r) (λ w. bytes_eq w.room room) (order_of r) (order_sorted r h)))))
  where
    step : (t u : Told) (l m : LogLine) → InOrder r room t u → told_line r t ≡ Some l → told_line r u ≡ Some m → LineBefore l m
    step t u l m o e f = go (line_for r room t l h o.first e) (line_for r room u m h o.second f) o.before
      where
        go : IsLineFor r t.write l → IsLineFor r u.write m → OrderBefore r t.write u.write → LineBefore l m
        go a b (inl p) = let x = a.seq in let y = b.seq in let q = p.0 in let s = p.1 in both (omega (arith, x, q)) (omega (arith, x, y, s))
        go a b (inr (inl p)) = let x = a.seq in let q = p.0 in one (omega (arith, x, q)) (b.seq ∙ p.1)
        go a b (inr (inr p)) = none (a.seq ∙ p.0) (b.seq ∙ p.1) (at (before-true t.write u.write p.2))
          where
            at : Before t.write u.write → (line_time l < line_time m) ⊎ ((line_time l ≡ line_time m) × (line_server l < line_server m))
            at (inl q) = let x = a.time in let y = b.time in inl (omega (arith, x, y, q))
            at (inr q) = let x = a.server in let y = b.server in let s = q.1 in inr (a.time ∙ q.0 ∙ sym b.time, omega (arith, x, y, s))

log_sorted : (ls : List LogLine) → AreInLogOrder ls → Sorted LineBefore ls
log_sorted [] o = tt
log_sorted (l ∷ ls) o = (o.0, log_sorted ls o.1)

filter_map-option : {A B C : Type 0} (f : A → Option B) (g : B → C) (h : A → Option C) (xs : List A) → ((x : A) → Has x xs → h x ≡ option_map g (f x)) → filter_map h xs ≡ map g (filter_map f xs)
filter_map-option f g h [] e = refl
filter_map-option {B = B} f g h (x ∷ xs) e = ap (λ o. cons_option o (filter_map h xs)) (e x (inl refl)) ∙ go (f x) (filter_map-option f g h xs (λ y i. e y (inr i)))
  where
    go : (o : Option B) → filter_map h xs ≡ map g (filter_map f xs) → cons_option (option_map g o) (filter_map h xs) ≡ map g (cons_option o (filter_map f xs))
    go None q = q
    go (Some u) q = ap (λ ys. g u ∷ ys) q

-- a line of the room is that of one of its writes
line_write : (r : Replica) (room : Text) (l : LogLine) → IsReplica r → IsLineOf r room l → (t : Told) × Has t (room_list r room) × (told_line r t ≡ Some l)
line_write r room (OfLogged row) h p =
    let (w, a, i) = known_of as_error r row p.0 in
    let is : place_row r w ≡ rows.Erred row = erred_is row (place_row r w) i in
    let own : w.room ≡ row.room = row_room w a is in
    let (t, b, s) = told_in_room r room w h a (own ∙ p.1) in
    (t, b, ap (λ x. line_in (place_row r x)) s ∙ ap line_in is)
  where
    row_room : (w : Write) → Has w r.known → place_row r w ≡ rows.Erred row → w.room ≡ row.room
    row_room w a is =
        let (t, b, s) = known_told r w h a in
        sym (ap (λ (x : Write). x.room) s) ∙ sym ((line_for r w.room t (OfLogged row) h (told_of_room r w.room t h b) (ap (λ x. line_in (place_row r x)) s ∙ ap line_in is)).is_line.1)
line_write r room (OfVoid row) h p =
    let (w, a, i) = known_of as_cancel r row p.0 in
    let is : place_row r w ≡ rows.Cancel row = cancel_is row (place_row r w) i in
    let line : line_in (place_row r w) ≡ Some (OfVoid row) = ap line_in is ∙ ap (λ b. cond b None (Some (OfVoid row))) (not_true row.done p.2) in
    let own : w.room ≡ row.room = row_room w a line in
    let (t, b, s) = told_in_room r room w h a (own ∙ p.1) in
    (t, b, ap (λ x. line_in (place_row r x)) s ∙ line)
  where
    not_true : (b : Bool) → not b ≡ true → b ≡ false
    not_true true e = absurd (true≢false (sym e))
    not_true false e = refl

    row_room : (w : Write) → Has w r.known → line_in (place_row r w) ≡ Some (OfVoid row) → w.room ≡ row.room
    row_room w a line =
        let (t, b, s) = known_told r w h a in
        sym (ap (λ (x : Write). x.room) s) ∙ sym ((line_for r w.room t (OfVoid row) h (told_of_room r w.room t h b) (ap (λ x. line_in (place_row r x)) s ∙ line)).is_line.1)

-- the lines of a room's error log
abbrev pub room_lines : Replica → Text → List LogLine
room_lines r room = filter_map (told_line r) (room_list r room)

pub line_is_of : (r : Replica) (room : Text) (l : LogLine) → IsReplica r → Has l (room_lines r room) → IsLineOf r room l
line_is_of r room l h a =
    let (t, b, e) = filter_map_has (told_line r) l (room_list r room) a in
    let k = told_of_room r room t h b in
    subst (λ x. IsLineOf r x l) k.in_room (line_for r room t l h k e).is_line

pub is_of_line : (r : Replica) (room : Text) (l : LogLine) → IsReplica r → IsLineOf r room l → Has l (room_lines r room)
is_of_line r room l h a =
    let (t, b, e) = line_write r room l h a in
    has_filter_map (told_line r) t l (room_list r room) e b

pub loggings-lines : (r : Replica) (room : Text) → IsReplica r → filter_map logging_of (whole_list (view_of r room)) ≡ map line_logging (room_lines r room)
loggings-lines r room h =
    ap (filter_map logging_of) (room-list r room)
    ∙ filter_map-option (told_line r) line_logging logging_of (room_list r room) (λ t a. logging-line r room t (told_of_room r room t h a))

pub same_lines : (xs ys : List LogLine) → Sorted LineBefore xs → Sorted LineBefore ys → ((l : LogLine) → Has l xs → Has l ys) → ((l : LogLine) → Has l ys → Has l xs) → xs ≡ ys
same_lines xs ys p q f g = sorted_same LineBefore line_irreflexive line_transitive xs ys p q f g

pub errors_told : (r : Replica) (room : Text) (ls : List LogLine) → IsReplica r → AreInLogOrder ls → AreErrorsOf r room ls → filter_map logging_of (whole_list (view_of r room)) ≡ map line_logging ls
errors_told r room ls h o m =
    loggings-lines r room h
    ∙ ap (map line_logging)
    (same_lines (room_lines r room) ls (lines_sorted r room h) (log_sorted ls o) (λ l a. (m l).1 (line_is_of r room l h a)) (λ l a. is_of_line r room l h ((m l).0 a)))
