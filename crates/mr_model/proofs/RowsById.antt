-- Rows of tables: by the id that they bear, whole tables against single rows; and what a log row keeps of a write.
use Rattle.std.proofs.Common.{◌≡◌, refl, sym, ap, ◌∙◌, subst, ℕ, zero, suc, ◌+◌, ◌*◌, ◌<◌, ◌≤◌, Bool, true, false, not, cond, ◌&&◌, eqb, leb, List, [], ◌∷◌, ◌++◌}
use Rattle.std.proofs.Common.{length, map, drop, ◌⊎◌, inl, inr, Option, Some, None, arith, append_assoc, IsTrue, leb-true, eqb-true, slice_index, length-append}
use Rattle.std.proofs.lemmas.Bool.{and_parts, or_parts, cond-true, cond-false, false_from_ne_true, cases_eq}
use Rattle.std.proofs.lemmas.List.Elements.{filter_map-append}
use Rattle.std.specs.Prelude.{flat_map}
use Rattle.std.specs.List.{AllByRecursion, list_all, filter, filter_map, cons_option, slice_get}
use Rattle.mr_model.specs.Texts.{Text, words, numbers_on}
use Rattle.mr_model.specs.Calendar.{date_text, time_text}
use Rattle.mr_model.specs.Slots.{Slot, is_slot, slot_words}
use Rattle.mr_model.specs.Writes.{Id, Meeting, Action, Books, Cancels, Write, id_of, same_id, choices_of, is_title, is_length, fits_day}
use Rattle.mr_model.specs.Writes.{greatest_alternatives, is_meeting, is_action, is_write, is_server, is_count, is_time, is_stamp, is_room_name}
use Rattle.mr_model.specs.Replica.{Replica, writes_of, count_of, is_among, IsReplica}
use Rattle.mr_model.specs.Exchange.{slots_at}
use Rattle.mr_model.specs.Tables.{MeetingCells, OfMeeting, OfCancel, LogRow, by_id, seq_among, choices_text, cells_of, log_row}
use Rattle.mr_model.proofs.ChangesKeep.{within}
use Rattle.mr_model.proofs.LinesReadBack.{slots_all, slots-read, words-cons}
use Rattle.mr_model.specs.Dropped.{Has}
use Rattle.mr_model.proofs.Members.{has_left, has_right, has_split, filter_has, has_filter_map, filter_map_has, all_has, slice_has, same_id-true, same_id_refl, among_not, Distinct}
use Rattle.mr_model.proofs.KnownById.{one_known, numbered_writes, own_has_at}

-- ---- members of lists of lists

pub has_flat : {A B : Type 0} (f : A → List B) (y : B) (x : A) (xs : List A) → Has x xs → Has y (f x) → Has y (flat_map f xs)
has_flat f y x [] h g = absurd h
has_flat f y x (z ∷ zs) (inl e) g = has_left y (f z) (flat_map f zs) (subst (λ u. Has y (f u)) e g)
has_flat f y x (z ∷ zs) (inr h) g = has_right y (f z) (flat_map f zs) (has_flat f y x zs h g)

pub flat_has : {A B : Type 0} (f : A → List B) (y : B) (xs : List A) → Has y (flat_map f xs) → (x : A) × Has x xs × Has y (f x)
flat_has f y [] h = absurd h
flat_has {A = A} {B = B} f y (z ∷ zs) h = go (has_split y (f z) (flat_map f zs) h) (flat_has f y zs)
  where
    go : Has y (f z) ⊎ Has y (flat_map f zs) → (Has y (flat_map f zs) → (x : A) × Has x zs × Has y (f x)) → (x : A) × Has x (z ∷ zs) × Has y (f x)
    go (inl g) ih = (z, inl refl, g)
    go (inr g) ih = let (x, i, j) = ih g in (x, inr i, j)

pub has_numbers : (m k n : ℕ) → k ≤ m → m < k + n → Has m (numbers_on k n)
has_numbers m k zero low high = absurd (let t : m < k + 0 = high in omega (arith, t, low))
has_numbers m k (suc n) low high = go (cases_eq m k) (λ l t. has_numbers m (k + 1) n l t)
  where
    go : (m ≡ k) ⊎ (m ≡ k → ⊥) → (k + 1 ≤ m → m < k + 1 + n → Has m (numbers_on (k + 1) n)) → Has m (k ∷ numbers_on (k + 1) n)
    go (inl e) ih = inl e
    go (inr ne) ih = let top : m < k + suc n = high in inr (ih (omega (arith, low, ne)) (omega (arith, top)))

-- ---- known writes by id

pub server_bounds : (w : Write) → IsTrue (is_write w) → (1 ≤ w.stamp.server) × (w.stamp.server ≤ 99)
server_bounds w ok =
    let f = and_parts (is_server w.stamp.server && is_count w.stamp.n) (is_time w.stamp.time) ((within w ok).stamp) in
    let g = and_parts (is_server w.stamp.server) (is_count w.stamp.n) f.0 in
    let s = and_parts (leb 1 w.stamp.server) (leb w.stamp.server 99) g.0 in
    (leb-true 1 w.stamp.server s.0, leb-true w.stamp.server 99 s.1)

pub known_write : (r : Replica) (w : Write) → IsReplica r → Has w r.known → IsTrue (is_write w)
known_write r w h a = all_has (λ v. IsTrue (is_write v)) w r.known h.within_limits a

pub has_by_id : (r : Replica) (w : Write) → IsReplica r → Has w r.known → Has w (by_id r.known)
has_by_id r w h a =
    let b = server_bounds w (known_write r w h a) in
    let top : w.stamp.server ≤ 99 = b.1 in
    has_flat (λ s. writes_of s r.known) w w.stamp.server (numbers_on 1 99) (has_numbers w.stamp.server 1 99 b.0 (omega (arith, top))) (own_has_at w.stamp.server w r.known refl a)

pub by_id_has : (r : Replica) (w : Write) → Has w (by_id r.known) → Has w r.known
by_id_has r w a = let (s, b, c) = flat_has (λ s. writes_of s r.known) w (numbers_on 1 99) a in (filter_has (λ v. eqb v.stamp.server s) w r.known c).0

-- ---- a table, row by row

rows_numbered : {R : Type 0} (f g : Write → Option R) (k : ℕ) (xs ys : List Write) → map (λ w. w.stamp.n) xs ≡ numbers_on k (length xs) → map (λ w. w.stamp.n) ys ≡ numbers_on k (length ys)
    → length xs ≡ length ys → ((x y : Write) → Has x xs → Has y ys → x.stamp.n ≡ y.stamp.n → f x ≡ g y) → filter_map f xs ≡ filter_map g ys
rows_numbered f g k [] [] a b l e = refl
rows_numbered f g k [] (y ∷ ys) a b l e = absurd (let t : 0 ≡ suc (length ys) = l in omega (arith, t))
rows_numbered f g k (x ∷ xs) [] a b l e = absurd (let t : suc (length xs) ≡ 0 = l in omega (arith, t))
rows_numbered f g k (x ∷ xs) (y ∷ ys) a b l e =
    let first : x.stamp.n ≡ k = ap (λ (ms : List ℕ). slice_index ms 0) a in
    let other : y.stamp.n ≡ k = ap (λ (ms : List ℕ). slice_index ms 0) b in
    let long : suc (length xs) ≡ suc (length ys) = l in
    let here : f x ≡ g y = e x y (inl refl) (inl refl) (first ∙ sym other) in
    let rest : filter_map f xs ≡ filter_map g ys =
    rows_numbered f g (k + 1) xs ys (ap (λ (ms : List ℕ). drop 1 ms) a) (ap (λ (ms : List ℕ). drop 1 ms) b) (omega (arith, long)) (λ v w p q s. e v w (inr p) (inr q) s) in
    ap (λ o. cons_option o (filter_map f xs)) here ∙ ap (λ rs. cons_option (g y) rs) rest

-- rows of writes that bear the same ids
abbrev pub Paired : {R : Type 0} → Replica → Replica → (Write → R) → (Write → R) → Type 0
Paired a b f g = (x y : Write) → Has x a.known → Has y b.known → id_of x ≡ id_of y → f x ≡ g y

pub rows_from_pairs : {R : Type 0} (a b : Replica) (f g : Write → Option R) → IsReplica a → IsReplica b
    → ((s : ℕ) → count_of a s ≡ count_of b s) → Paired a b f g → filter_map f (by_id a.known) ≡ filter_map g (by_id b.known)
rows_from_pairs a b f g ha hb counts e = go (numbers_on 1 99)
  where
    id_at : (s : ℕ) (x y : Write) → x.stamp.server ≡ s → y.stamp.server ≡ s → x.stamp.n ≡ y.stamp.n → id_of x ≡ id_of y
    id_at s x y p q n = let t = p ∙ sym q in λ i. record { server = t i; n = n i }

    one : (s : ℕ) → filter_map f (writes_of s a.known) ≡ filter_map g (writes_of s b.known)
    one s =
        rows_numbered f g 1 (writes_of s a.known) (writes_of s b.known) (numbered_writes a s ha) (numbered_writes b s hb) (counts s)
        (λ x y p q n. let u = filter_has (λ w. eqb w.stamp.server s) x a.known p in let v = filter_has (λ w. eqb w.stamp.server s) y b.known q in
        e x y u.0 v.0 (id_at s x y (eqb-true x.stamp.server s u.1) (eqb-true y.stamp.server s v.1) n))

    go : (ss : List ℕ) → filter_map f (flat_map (λ s. writes_of s a.known) ss) ≡ filter_map g (flat_map (λ s. writes_of s b.known) ss)
    go [] = refl
    go (s ∷ ss) =
        filter_map-append f (writes_of s a.known) (flat_map (λ t. writes_of t a.known) ss)
        ∙ ap (λ rs. rs ++ filter_map f (flat_map (λ t. writes_of t a.known) ss)) (one s)
        ∙ ap (λ rs. filter_map g (writes_of s b.known) ++ rs) (go ss)
        ∙ sym (filter_map-append g (writes_of s b.known) (flat_map (λ t. writes_of t b.known) ss))

-- where each row bears the id of its write, one table has one row of an id
row_in : {R : Type 0} (b : Replica) (g : Write → Option R) (key : R → Id) → IsReplica b → ((y : Write) (w : R) → g y ≡ Some w → key w ≡ id_of y)
    → (y : Write) (w : R) → Has y b.known → Has w (filter_map g (by_id b.known)) → key w ≡ id_of y → g y ≡ Some w
row_in b g key hb keyed y w q h k =
    let (z, i, e) = filter_map_has g w (by_id b.known) h in
    let same : z ≡ y = one_known b z y hb (by_id_has b z i) q (sym (keyed z w e) ∙ k) in
    ap g (sym same) ∙ e

pub pairs_from_rows : {R : Type 0} (a b : Replica) (f g : Write → Option R) (key : R → Id) → IsReplica a → IsReplica b → ((x : Write) (w : R) → f x ≡ Some w → key w ≡ id_of x)
    → ((y : Write) (w : R) → g y ≡ Some w → key w ≡ id_of y) → filter_map f (by_id a.known) ≡ filter_map g (by_id b.known) → Paired a b f g
pairs_from_rows {R = R} a b f g key ha hb kf kg e x y p q s = go (f x) refl (g y) refl
  where
    there : (w : R) → f x ≡ Some w → g y ≡ Some w
    there w o = row_in b g key hb kg y w q (subst (λ rs. Has w rs) e (has_filter_map f x w (by_id a.known) o (has_by_id a x ha p))) (kf x w o ∙ s)

    back : (w : R) → g y ≡ Some w → f x ≡ Some w
    back w o = row_in a f key ha kf x w p (subst (λ rs. Has w rs) (sym e) (has_filter_map g y w (by_id b.known) o (has_by_id b y hb q))) (kg y w o ∙ sym s)

    go : (o : Option R) → f x ≡ o → (u : Option R) → g y ≡ u → f x ≡ g y
    go (Some w) o u v = o ∙ sym (there w o)
    go None o (Some w) v = back w v ∙ sym v
    go None o None v = o ∙ sym v

-- the rows of the writes that are left
pub map_filter : {A B : Type 0} (d : A → Bool) (f : A → B) (xs : List A) → map f (filter (λ x. not (d x)) xs) ≡ filter_map (λ x. cond (d x) None (Some (f x))) xs
map_filter d f [] = refl
map_filter {A = A} {B = B} d f (x ∷ xs) = go (d x) (map_filter d f xs)
  where
    go : (b : Bool) → map f (filter (λ y. not (d y)) xs) ≡ filter_map (λ y. cond (d y) None (Some (f y))) xs
        → map f (cond (not b) (x ∷ filter (λ y. not (d y)) xs) (filter (λ y. not (d y)) xs)) ≡ cons_option (cond b None (Some (f x))) (filter_map (λ y. cond (d y) None (Some (f y))) xs)
    go true ih = ih
    go false ih = ap (λ ys. f x ∷ ys) ih

-- ---- the text of choices

pub words-snoc : (t : Text) (ts : List Text) → words (t ∷ (ts ++ [] ∷ [])) ≡ words (t ∷ ts) ++ 32 ∷ []
words-snoc t [] = refl
words-snoc t (u ∷ us) = ap (λ x. t ++ 32 ∷ x) (words-snoc u us) ∙ sym (append_assoc t (32 ∷ words (u ∷ us)) (32 ∷ []))

pub slots_long : (ss : List Slot) → length (words (flat_map slot_words ss ++ [] ∷ [])) ≡ 17 * length ss
slots_long [] = refl
slots_long (s ∷ ss) =
    let rest : length (words (flat_map slot_words ss ++ [] ∷ [])) ≡ 17 * length ss = slots_long ss in
    let time : length (words (time_text s.start ∷ (flat_map slot_words ss ++ [] ∷ [])))
    ≡ length (time_text s.start ++ 32 ∷ words (flat_map slot_words ss ++ [] ∷ [])) = ap length (words-cons (time_text s.start) (flat_map slot_words ss) []) in
    let more : length (time_text s.start ++ 32 ∷ words (flat_map slot_words ss ++ [] ∷ [])) ≡ 5 + (1 + length (words (flat_map slot_words ss ++ [] ∷ []))) =
    length-append (time_text s.start) (32 ∷ words (flat_map slot_words ss ++ [] ∷ [])) ∙ omega arith in
    let day : length (date_text s.day ++ 32 ∷ words (time_text s.start ∷ (flat_map slot_words ss ++ [] ∷ []))) ≡ 10 + (1 + length (words (time_text s.start ∷ (flat_map slot_words ss ++ [] ∷ [])))) =
    length-append (date_text s.day) (32 ∷ words (time_text s.start ∷ (flat_map slot_words ss ++ [] ∷ []))) ∙ omega arith in
    day ∙ omega (arith, rest, time, more)

slots_same : (ss ts : List Slot) → AllByRecursion (λ s. is_slot s ≡ true) ss → AllByRecursion (λ s. is_slot s ≡ true) ts
    → words (flat_map slot_words ss ++ [] ∷ []) ≡ words (flat_map slot_words ts ++ [] ∷ []) → ss ≡ ts
slots_same ss ts a b e =
    let long : 17 * length ss ≡ 17 * length ts = sym (slots_long ss) ∙ ap length e ∙ slots_long ts in
    let n : length ss ≡ length ts = omega (arith, long) in
    sym (slots-read ss 0 (words (flat_map slot_words ss ++ [] ∷ [])) [] a refl)
    ∙ ap (λ l. slots_at (length ss) 0 l) e ∙ ap (λ k. slots_at k 0 (words (flat_map slot_words ts ++ [] ∷ []))) n
    ∙ slots-read ts 0 (words (flat_map slot_words ts ++ [] ∷ [])) [] b refl

pub meeting_slots : (m : Meeting) → is_meeting m ≡ true → AllByRecursion (λ s. is_slot s ≡ true) (choices_of m)
meeting_slots m ok =
    slots_all m.length (choices_of m)
    (and_parts (is_title m.title && is_length m.length && leb (length m.alternatives) greatest_alternatives) (list_all (λ s. is_slot s && fits_day m.length s) (choices_of m)) ok).1

choices_same : (x y : Meeting) → is_meeting x ≡ true → is_meeting y ≡ true → choices_text x ≡ choices_text y → choices_of x ≡ choices_of y
choices_same x y a b e =
    slots_same (choices_of x) (choices_of y) (meeting_slots x a) (meeting_slots y b)
    (words-snoc (date_text x.wish.day) (time_text x.wish.start ∷ flat_map slot_words x.alternatives) ∙ ap (λ t. t ++ 32 ∷ []) e
    ∙ sym (words-snoc (date_text y.wish.day) (time_text y.wish.start ∷ flat_map slot_words y.alternatives)))

cells_inj : (a b : MeetingCells) → OfMeeting a ≡ OfMeeting b → a ≡ b
cells_inj a b e = cc

choices_inj : (x y : Meeting) → choices_of x ≡ choices_of y → (x.wish ≡ y.wish) × (x.alternatives ≡ y.alternatives)
choices_inj x y e = let cs : x.wish ∷ x.alternatives ≡ y.wish ∷ y.alternatives = e in ((cc), (cc))

meeting_same : (x y : Meeting) → is_meeting x ≡ true → is_meeting y ≡ true → cells_of (Books x) ≡ cells_of (Books y) → x ≡ y
meeting_same x y a b e =
    let cells = cells_inj (record { length = x.length; choices = choices_text x; title = x.title }) (record { length = y.length; choices = choices_text y; title = y.title }) e in
    let long = ap (λ (c : MeetingCells). c.length) cells in
    let title = ap (λ (c : MeetingCells). c.title) cells in
    let slots = choices_inj x y (choices_same x y a b (ap (λ (c : MeetingCells). c.choices) cells)) in
    let wish = slots.0 in
    let others = slots.1 in
    λ i. record { title = title i; length = long i; wish = wish i; alternatives = others i }

pub cells_same : (a b : Action) → is_action a ≡ true → is_action b ≡ true → cells_of a ≡ cells_of b → a ≡ b
cells_same (Books x) (Books y) p q e = ap Books (meeting_same x y p q e)
cells_same (Books x) (Cancels u) p q e = absurd (let f : OfMeeting (record { length = x.length; choices = choices_text x; title = x.title }) ≡ OfCancel u = e in cc)
cells_same (Cancels t) (Books y) p q e = absurd (let f : OfCancel t ≡ OfMeeting (record { length = y.length; choices = choices_text y; title = y.title }) = e in cc)
cells_same (Cancels t) (Cancels u) p q e = ap Cancels (let f : OfCancel t ≡ OfCancel u = e in cc)

pub action_within : (w : Write) → IsTrue (is_write w) → is_action w.action ≡ true
action_within w ok = (and_parts (is_stamp w.stamp && is_room_name w.room) (is_action w.action) ok).1

-- a write is known again from its log row
pub log_row_same : (a b : Replica) (x y : Write) → IsTrue (is_write x) → IsTrue (is_write y) → log_row a x ≡ log_row b y → x ≡ y
log_row_same a b x y p q e =
    let s = ap (λ (r : LogRow). r.server) e in
    let n = ap (λ (r : LogRow). r.n) e in
    let t = ap (λ (r : LogRow). r.time) e in
    let room = ap (λ (r : LogRow). r.room) e in
    let action = cells_same x.action y.action (action_within x p) (action_within y q) (ap (λ (r : LogRow). r.action) e) in
    λ i. record { stamp = record { server = s i; n = n i; time = t i }; room = room i; action = action i }

-- ---- commit numbers

pub seq_not : (k : ℕ) (ids : List Id) (id : Id) → (Has id ids → ⊥) → seq_among k ids id ≡ 0
seq_not k [] id f = refl
seq_not k (x ∷ xs) id f = cond-false (same_id x id) k (seq_among (k + 1) xs id) (false_from_ne_true (same_id x id) (λ e. f (inl (sym (same_id-true x id e))))) ∙ seq_not (k + 1) xs id (λ h. f (inr h))

pub seq_low : (k : ℕ) (ids : List Id) (id : Id) → (seq_among k ids id ≡ 0) ⊎ (k ≤ seq_among k ids id)
seq_low k [] id = inl refl
seq_low k (x ∷ xs) id = go (same_id x id) (seq_low (k + 1) xs id)
  where
    go : (b : Bool) → (seq_among (k + 1) xs id ≡ 0) ⊎ (k + 1 ≤ seq_among (k + 1) xs id) → (cond b k (seq_among (k + 1) xs id) ≡ 0) ⊎ (k ≤ cond b k (seq_among (k + 1) xs id))
    go true ih = inr (omega arith)
    go false (inl e) = inl e
    go false (inr l) = inr (omega (arith, l))

pub seq_has : (k : ℕ) (ids : List Id) (id : Id) → Has id ids → k ≤ seq_among k ids id
seq_has k [] id h = absurd h
seq_has k (x ∷ xs) id (inl e) =
    let here : cond (same_id x id) k (seq_among (k + 1) xs id) ≡ k = cond-true (same_id x id) k (seq_among (k + 1) xs id) (subst (λ y. same_id x y ≡ true) (sym e) (same_id_refl x)) in
    omega (arith, here)
seq_has k (x ∷ xs) id (inr h) = go (same_id x id) (seq_has (k + 1) xs id h)
  where
    go : (b : Bool) → k + 1 ≤ seq_among (k + 1) xs id → k ≤ cond b k (seq_among (k + 1) xs id)
    go true l = omega arith
    go false l = omega (arith, l)

pub seq_at : (k : ℕ) (ids : List Id) (id : Id) (i : ℕ) → Distinct ids → slice_get ids i ≡ Some id → seq_among k ids id ≡ k + i
seq_at k [] id i d e = absurd (let f : ◌≡◌ {A = Option Id} None (Some id) = e in cc)
seq_at k (x ∷ xs) id zero d e =
    let same : x ≡ id = (let f : Some x ≡ Some id = e in cc) in
    cond-true (same_id x id) k (seq_among (k + 1) xs id) (subst (λ y. same_id x y ≡ true) same (same_id_refl x)) ∙ omega arith
seq_at k (x ∷ xs) id (suc i) d e =
    cond-false (same_id x id) k (seq_among (k + 1) xs id) (false_from_ne_true (same_id x id) (λ s. among_not x xs d.0 (subst (λ y. Has y xs) (sym (same_id-true x id s)) (slice_has xs i id e))))
    ∙ seq_at (k + 1) xs id i d.1 e ∙ omega arith

pub at_seq : (k : ℕ) (ids : List Id) (id : Id) (i : ℕ) → 1 ≤ k → seq_among k ids id ≡ k + i → slice_get ids i ≡ Some id
at_seq k [] id i low e = absurd (let f : 0 ≡ k + i = e in omega (arith, f, low))
at_seq k (x ∷ xs) id zero low e = go (same_id x id) refl e
  where
    go : (b : Bool) → same_id x id ≡ b → cond b k (seq_among (k + 1) xs id) ≡ k + 0 → Some x ≡ Some id
    go true s f = ap Some (same_id-true x id s)
    go false s f = absurd (later (seq_low (k + 1) xs id) f)
      where
        later : (seq_among (k + 1) xs id ≡ 0) ⊎ (k + 1 ≤ seq_among (k + 1) xs id) → seq_among (k + 1) xs id ≡ k + 0 → ⊥
        later (inl z) g = omega (arith, z, g, low)
        later (inr l) g = omega (arith, l, g)
at_seq k (x ∷ xs) id (suc i) low e = go (same_id x id) e (at_seq (k + 1) xs id i (omega arith))
  where
    go : (b : Bool) → cond b k (seq_among (k + 1) xs id) ≡ k + suc i → (seq_among (k + 1) xs id ≡ k + 1 + i → slice_get xs i ≡ Some id) → slice_get xs i ≡ Some id
    go true f ih = absurd (let g : k ≡ k + suc i = f in omega (arith, g))
    go false f ih = ih (let g : seq_among (k + 1) xs id ≡ k + suc i = f in omega (arith, g))

pub seq_behind : (k : ℕ) (xs ys : List Id) (id : Id) → is_among id xs ≡ false → seq_among k (xs ++ ys) id ≡ seq_among (k + length xs) ys id
seq_behind k [] ys id e = let f : k ≡ k + 0 = omega arith in ap (λ n. seq_among n ys id) f
seq_behind k (x ∷ xs) ys id e =
    let p = or_parts (same_id id x) (is_among id xs) e in
    let f : k + 1 + length xs ≡ k + suc (length xs) = omega arith in
    cond-false (same_id x id) k (seq_among (k + 1) (xs ++ ys) id) (false_from_ne_true (same_id x id) (λ s. among_not id (x ∷ xs) e (inl (sym (same_id-true x id s)))))
    ∙ seq_behind (k + 1) xs ys id p.1 ∙ ap (λ n. seq_among n ys id) f

-- ---- lists index by index

pub list_ext : {A : Type 0} (xs ys : List A) → length xs ≡ length ys → ((i : ℕ) (x : A) → slice_get xs i ≡ Some x → slice_get ys i ≡ Some x) → xs ≡ ys
list_ext [] [] l f = refl
list_ext [] (y ∷ ys) l f = absurd (let t : 0 ≡ suc (length ys) = l in omega (arith, t))
list_ext (x ∷ xs) [] l f = absurd (let t : suc (length xs) ≡ 0 = l in omega (arith, t))
list_ext (x ∷ xs) (y ∷ ys) l f =
    let long : suc (length xs) ≡ suc (length ys) = l in
    let here : Some y ≡ Some x = f zero x refl in
    let same : x ≡ y = (cc) in
    let rest = list_ext xs ys (omega (arith, long)) (λ i z e. f (suc i) z e) in
    λ i. same i ∷ rest i

pub slice_drop : {A : Type 0} (d i : ℕ) (xs : List A) → slice_get (drop d xs) i ≡ slice_get xs (d + i)
slice_drop zero i xs = let f : i ≡ 0 + i = omega arith in ap (λ n. slice_get xs n) f
slice_drop (suc d) i [] = refl
slice_drop (suc d) i (x ∷ xs) = let f : suc (d + i) ≡ suc d + i = omega arith in slice_drop d i xs ∙ ap (λ n. slice_get (x ∷ xs) n) f
