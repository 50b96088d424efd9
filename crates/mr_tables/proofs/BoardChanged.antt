-- The board of changed tables: what the tables tell of each id that the change names, and under each other id what it had. Of the other
-- ids this holds of any tables.
use Rattle.std.proofs.Common.{◌≡◌, ◌∙◌, refl, sym, ap, subst, Bool, true, false, not, cond, ◌&&◌, ◌||◌, List, [], ◌∷◌, map, Option, Some, None, option_map}
use Rattle.std.proofs.lemmas.Bool.{true≢false, or_parts, or_from}
use Rattle.std.proofs.lemmas.List.{map-id}
use Rattle.std.specs.List.{filter, AllByRecursion}
use Rattle.std.specs.List.Sorted.{IsStrictlySortedBy}
use Rattle.std.specs.Option.{option_or}
use Rattle.std.specs.BTreeMap.{insert_entry}
use Rattle.mr_model.specs.Writes.{Id, same_id}
use Rattle.mr_model.specs.Replica.{is_among}
use Rattle.mr_model.specs.Tables.{Tables, CancelRow}
use Rattle.mr_model.specs.Queries.{booking_id, error_id, cancelled_id, cancel_id}
use Rattle.mr_model.proofs.Members.{same_id-true}
use Rattle.mr_base.specs.Ids.{id_cmp}
use Rattle.mr_replay.specs.declared.rows.Row.{Row}
use Rattle.mr_replay.specs.Rows.{Rows, row_at}
use Rattle.mr_replay.specs.Holds.{AreDistinct}
use Rattle.mr_replay.proofs.IdKeys.{same_id_equivalence}
use Rattle.mr_replay.proofs.Entries.{IsInOrder, row_at-put, in_order-put, row_at-removed, in_order-removed}
use Rattle.mr_replay.proofs.Hiding.{same_rows}
use Rattle.mr_tables.specs.Boards.{booking_entry, error_entry, cancelled_entry, cancel_entry, is_void, put_entries, board_of}
use Rattle.mr_tables.specs.BoardChanges.{row_with_id, HaveOneRowEach, cancel_told, row_told, with_told, told_anew}
use Rattle.mr_tables.specs.Change.{ChangeView, changed, put, put_all, rows_without, id_before}
use Rattle.mr_tables.specs.TableOrders.{InOrder, id_order}
use Rattle.mr_tables.proofs.BoardsTold.{entries_ordered}

or_none : (o : Option Row) → option_or o None ≡ o
or_none None = refl
or_none (Some row) = refl

-- ---- entries put on a board

-- the row that the last of these entries tells of an id
abbrev last_at : List (Id × Row) → Id → Option Row
last_at [] i = None
last_at (e ∷ es) i = option_or (last_at es i) (cond (same_id i e.0) (Some e.1) None)

row_at-entries : (es : List (Id × Row)) (b : Rows) (i : Id) → row_at (put_entries es b) i ≡ option_or (last_at es i) (row_at b i)
row_at-entries [] b i = refl
row_at-entries (e ∷ es) b i =
    row_at-entries es (insert_entry id_cmp b e.0 e.1) i ∙ ap (option_or (last_at es i)) (row_at-put b e.0 e.1 i) ∙ go (last_at es i) (same_id i e.0)
  where
    go : (o : Option Row) (s : Bool) → option_or o (cond s (Some e.1) (row_at b i)) ≡ option_or (option_or o (cond s (Some e.1) None)) (row_at b i)
    go (Some row) s = refl
    go None true = refl
    go None false = refl

pub board_in_order : (t : Tables) → IsInOrder (board_of t)
unfolding IsStrictlySortedBy
board_in_order t =
    entries_ordered (map cancel_entry (filter is_void t.cancels)) _ (entries_ordered (map cancelled_entry t.cancelled) _
    (entries_ordered (map error_entry t.errorlog) _ (entries_ordered (map booking_entry t.booking) [] tt)))

-- ---- one table, of which some rows are told

untold : (q s : Bool) (row : Row) → s ≡ false → cond (q && s) (Some row) None ≡ None
untold true s row h = ap (λ t. cond t (Some row) None) h
untold false s row h = refl

module _ {R : Type 0} (entry : R → Id × Row) (p : R → Bool) where
  abbrev key : R → Id
  key x = (entry x).0

  -- what the last row of an id tells of it
  abbrev pub last_in : List R → Id → Option Row
  last_in [] i = None
  last_in (x ∷ xs) i = option_or (last_in xs i) (cond (p x && same_id i (key x)) (Some (entry x).1) None)

  told_last : (rows : List R) (i : Id) → last_at (map entry (filter p rows)) i ≡ last_in rows i
  told_last [] i = refl
  told_last (x ∷ xs) i = go (p x) (told_last xs i)
    where
      go : (q : Bool) → last_at (map entry (filter p xs)) i ≡ last_in xs i
          → last_at (map entry (cond q (x ∷ filter p xs) (filter p xs))) i ≡ option_or (last_in xs i) (cond (q && same_id i (key x)) (Some (entry x).1) None)
      go true ih = ap (λ o. option_or o (cond (same_id i (key x)) (Some (entry x).1) None)) ih
      go false ih = ih ∙ sym (or_none (last_in xs i))

  -- a row that isn't of this id tells nothing of it
  silent : (o : Option Row) (x : R) (i : Id) → same_id i (key x) ≡ false → option_or o (cond (p x && same_id i (key x)) (Some (entry x).1) None) ≡ o
  silent o x i h = ap (option_or o) (untold (p x) (same_id i (key x)) (entry x).1 h) ∙ or_none o

  last-without : (gone : List Id) (rows : List R) (i : Id) → is_among i gone ≡ false → last_in (rows_without key gone rows) i ≡ last_in rows i
  last-without gone [] i apart = refl
  last-without gone (x ∷ xs) i apart = go (is_among (key x) gone) refl (last-without gone xs i apart)
    where
      other : (s : Bool) → same_id i (key x) ≡ s → is_among (key x) gone ≡ true → s ≡ false
      other true e g = absurd (true≢false (sym g ∙ ap (λ k. is_among k gone) (sym (same_id-true i (key x) e)) ∙ apart))
      other false e g = refl

      go : (g : Bool) → is_among (key x) gone ≡ g → last_in (rows_without key gone xs) i ≡ last_in xs i
          → last_in (cond (not g) (x ∷ rows_without key gone xs) (rows_without key gone xs)) i ≡ last_in (x ∷ xs) i
      go true g ih = ih ∙ sym (silent (last_in xs i) x i (other (same_id i (key x)) refl g))
      go false g ih = ap (λ o. option_or o (cond (p x && same_id i (key x)) (Some (entry x).1) None)) ih

  last-put : (x : R) (rows : List R) (i : Id) → same_id i (key x) ≡ false → last_in (put id_before key x rows) i ≡ last_in rows i
  last-put x [] i apart = silent None x i apart
  last-put x (y ∷ ys) i apart = go (id_before (key x) (key y)) refl (id_before (key y) (key x)) refl (last-put x ys i apart)
    where
      go : (b : Bool) → id_before (key x) (key y) ≡ b → (c : Bool) → id_before (key y) (key x) ≡ c → last_in (put id_before key x ys) i ≡ last_in ys i
          → last_in (cond b (x ∷ y ∷ ys) (cond c (y ∷ put id_before key x ys) (x ∷ ys))) i ≡ last_in (y ∷ ys) i
      go true b c d ih = silent (last_in (y ∷ ys) i) x i apart
      go false b true d ih = ap (λ o. option_or o (cond (p y && same_id i (key y)) (Some (entry y).1) None)) ih
      go false b false d ih =
          silent (last_in ys i) x i apart ∙ sym (silent (last_in ys i) y i (ap (same_id i) (sym (id_order.total (key x) (key y) b d)) ∙ apart))

  last-put_all : (xs rows : List R) (i : Id) → is_among i (map key xs) ≡ false → last_in (put_all id_before key xs rows) i ≡ last_in rows i
  last-put_all [] rows i apart = refl
  last-put_all (x ∷ xs) rows i apart =
      let each = or_parts (same_id i (key x)) (is_among i (map key xs)) apart in
      last-put_all xs (put id_before key x rows) i each.1 ∙ last-put x rows i each.0

  last-changed : (gone : List Id) (xs rows : List R) (i : Id) → is_among i gone ≡ false → is_among i (map key xs) ≡ false
      → last_in (put_all id_before key xs (rows_without key gone rows)) i ≡ last_in rows i
  last-changed gone xs rows i g h = last-put_all xs (rows_without key gone rows) i h ∙ last-without gone rows i g

  last-absent : (rows : List R) (i : Id) → is_among i (map key rows) ≡ false → last_in rows i ≡ None
  last-absent [] i apart = refl
  last-absent (x ∷ xs) i apart =
      let each = or_parts (same_id i (key x)) (is_among i (map key xs)) apart in
      silent (last_in xs i) x i each.0 ∙ last-absent xs i each.1

  -- what a row that is found tells
  abbrev pub found_told : Option R → Option Row
  found_told None = None
  found_told (Some x) = cond (p x) (Some (entry x).1) None

  -- if no id stands twice the row that is found is the last one
  last-found : (rows : List R) (i : Id) → AreDistinct (map key rows) → last_in rows i ≡ found_told (row_with_id key i rows)
  last-found [] i d = refl
  last-found (x ∷ xs) i d =
      go (same_id i (key x)) refl (last-found xs i d.1) ∙ ap (λ s. found_told (cond s (Some x) (row_with_id key i xs))) (same_id_equivalence.symm i (key x))
    where
      own : (q : Bool) → cond (q && true) (Some (entry x).1) None ≡ cond q (Some (entry x).1) None
      own true = refl
      own false = refl

      go : (s : Bool) → same_id i (key x) ≡ s → last_in xs i ≡ found_told (row_with_id key i xs) → last_in (x ∷ xs) i ≡ found_told (cond s (Some x) (row_with_id key i xs))
      go true e ih =
          let none : last_in xs i ≡ None = last-absent xs i (ap (λ k. is_among k (map key xs)) (same_id-true i (key x) e) ∙ d.0) in
          (λ k. option_or (none k) (cond (p x && e k) (Some (entry x).1) None)) ∙ own (p x)
      go false e ih = silent (last_in xs i) x i e ∙ ih

told_all : {R : Type 0} (entry : R → Id × Row) (rows : List R) (i : Id) → last_at (map entry rows) i ≡ last_in entry (λ _. true) rows i
told_all entry [] i = refl
told_all entry (x ∷ xs) i = ap (λ o. option_or o (cond (same_id i (entry x).0) (Some (entry x).1) None)) (told_all entry xs i)

found_all : {R : Type 0} (entry : R → Id × Row) (o : Option R) → found_told entry (λ _. true) o ≡ option_map (λ row. (entry row).1) o
found_all entry None = refl
found_all entry (Some x) = refl

found_void : (o : Option CancelRow) → found_told cancel_entry is_void o ≡ cancel_told o
found_void None = refl
found_void (Some x) = refl

-- ---- all tables

-- what the last rows of an id in the four tables tell of it
abbrev last_told : Tables → Id → Option Row
last_told t i =
    option_or (last_in cancel_entry is_void t.cancels i)
    (option_or (last_in cancelled_entry (λ _. true) t.cancelled i)
    (option_or (last_in error_entry (λ _. true) t.errorlog i) (last_in booking_entry (λ _. true) t.booking i)))

board_tells : (t : Tables) (i : Id) → row_at (board_of t) i ≡ last_told t i
board_tells t i =
    let b = put_entries (map booking_entry t.booking) [] in
    let e = put_entries (map error_entry t.errorlog) b in
    let c = put_entries (map cancelled_entry t.cancelled) e in
    row_at-entries (map cancel_entry (filter is_void t.cancels)) c i
    ∙ ap (λ o. option_or o (row_at c i)) (told_last cancel_entry is_void t.cancels i)
    ∙ ap (option_or (last_in cancel_entry is_void t.cancels i))
    (row_at-entries (map cancelled_entry t.cancelled) e i ∙ ap (λ o. option_or o (row_at e i)) (told_all cancelled_entry t.cancelled i)
    ∙ ap (option_or (last_in cancelled_entry (λ _. true) t.cancelled i))
    (row_at-entries (map error_entry t.errorlog) b i ∙ ap (λ o. option_or o (row_at b i)) (told_all error_entry t.errorlog i)
    ∙ ap (option_or (last_in error_entry (λ _. true) t.errorlog i))
    (row_at-entries (map booking_entry t.booking) [] i ∙ or_none (last_at (map booking_entry t.booking) i) ∙ told_all booking_entry t.booking i)))

-- the board has under each id what the tables tell of it
board_row : (t : Tables) (i : Id) → HaveOneRowEach t → row_at (board_of t) i ≡ row_told t i
board_row t i one =
    board_tells t i
    ∙ (λ k. option_or ((last-found cancel_entry is_void t.cancels i one.cancels ∙ found_void (row_with_id cancel_id i t.cancels)) k)
    (option_or ((last-found cancelled_entry (λ _. true) t.cancelled i one.cancelled ∙ found_all cancelled_entry (row_with_id cancelled_id i t.cancelled)) k)
    (option_or ((last-found error_entry (λ _. true) t.errorlog i one.errorlog ∙ found_all error_entry (row_with_id error_id i t.errorlog)) k)
    ((last-found booking_entry (λ _. true) t.booking i one.booking ∙ found_all booking_entry (row_with_id booking_id i t.booking)) k))))

-- ---- a change

-- the change names no booking or cancel of this id
pub record LeavesOut (c : ChangeView) (i : Id) : Type 0 where
  pub unbooked : is_among i c.unbooked ≡ false
  pub booking : is_among i (map booking_id c.booking) ≡ false
  pub unlogged : is_among i c.unlogged ≡ false
  pub errorlog : is_among i (map error_id c.errorlog) ≡ false
  pub uncancelled : is_among i c.uncancelled ≡ false
  pub cancelled : is_among i (map cancelled_id c.cancelled) ≡ false
  pub cancels : is_among i (map cancel_id c.cancels) ≡ false

board_stays : (c : ChangeView) (t : Tables) (i : Id) → LeavesOut c i → row_at (board_of (changed c t)) i ≡ row_at (board_of t) i
board_stays c t i h =
    board_tells (changed c t) i
    ∙ (λ k. option_or (last-put_all cancel_entry is_void c.cancels t.cancels i h.cancels k)
    (option_or (last-changed cancelled_entry (λ _. true) c.uncancelled c.cancelled t.cancelled i h.uncancelled h.cancelled k)
    (option_or (last-changed error_entry (λ _. true) c.unlogged c.errorlog t.errorlog i h.unlogged h.errorlog k)
    (last-changed booking_entry (λ _. true) c.unbooked c.booking t.booking i h.unbooked h.booking k))))
    ∙ sym (board_tells t i)

-- ---- ids told anew

row_at-with : (b : Rows) (i q : Id) (o : Option Row) → IsInOrder b → row_at (with_told b i o) q ≡ cond (same_id q i) o (row_at b q)
row_at-with b i q None h = row_at-removed b i q h
row_at-with b i q (Some row) h = row_at-put b i row q

in_order-with : (b : Rows) (i : Id) (o : Option Row) → IsInOrder b → IsInOrder (with_told b i o)
in_order-with b i None h = in_order-removed b i h
in_order-with b i (Some row) h = in_order-put b i row h

in_order-anew : (t : Tables) (is : List Id) (b : Rows) → IsInOrder b → IsInOrder (told_anew t is b)
in_order-anew t [] b h = h
in_order-anew t (i ∷ is) b h = in_order-anew t is (with_told b i (row_told t i)) (in_order-with b i (row_told t i) h)

-- an id has the row that the tables tell, if it is told anew or had that row
row-anew : (t : Tables) (is : List Id) (b : Rows) (q : Id) → IsInOrder b → (is_among q is ≡ false → row_at b q ≡ row_told t q) → row_at (told_anew t is b) q ≡ row_told t q
row-anew t [] b q h had = had refl
row-anew t (i ∷ is) b q h had =
    row-anew t is (with_told b i (row_told t i)) q (in_order-with b i (row_told t i) h)
    (λ apart. row_at-with b i q (row_told t i) h ∙ go (same_id q i) refl apart)
  where
    go : (s : Bool) → same_id q i ≡ s → is_among q is ≡ false → cond s (row_told t i) (row_at b q) ≡ row_told t q
    go true e apart = ap (row_told t) (sym (same_id-true q i e))
    go false e apart = had (ap (λ s. s || is_among q is) e ∙ apart)

-- the board of the tables before a change, told anew of each id that the change names
abbrev pub board_after : ChangeView → Tables → Rows → Rows
board_after c t b =
    told_anew t (map cancel_id c.cancels) (told_anew t (map cancelled_id c.cancelled) (told_anew t (map (λ i. i) c.uncancelled)
    (told_anew t (map error_id c.errorlog) (told_anew t (map (λ i. i) c.unlogged) (told_anew t (map booking_id c.booking) (told_anew t (map (λ i. i) c.unbooked) b))))))

pub board_changed : (c : ChangeView) (before t : Tables) → t ≡ changed c before → HaveOneRowEach t → board_after c t (board_of before) ≡ board_of t
board_changed c before t is one =
    same_rows _ (board_of t) (in_order-anew t (map cancel_id c.cancels) b6 o6) (board_in_order t) (λ q.
    row-anew t (map cancel_id c.cancels) b6 q o6 (λ f7.
    row-anew t (map cancelled_id c.cancelled) b5 q o5 (λ f6.
    row-anew t (map (λ i. i) c.uncancelled) b4 q o4 (λ f5.
    row-anew t (map error_id c.errorlog) b3 q o3 (λ f4.
    row-anew t (map (λ i. i) c.unlogged) b2 q o2 (λ f3.
    row-anew t (map booking_id c.booking) b1 q o1 (λ f2.
    row-anew t (map (λ i. i) c.unbooked) b0 q o0 (λ f1.
    sym (board_stays c before q (record {
      unbooked = ap (is_among q) (sym (map-id c.unbooked)) ∙ f1;
      booking = f2;
      unlogged = ap (is_among q) (sym (map-id c.unlogged)) ∙ f3;
      errorlog = f4;
      uncancelled = ap (is_among q) (sym (map-id c.uncancelled)) ∙ f5;
      cancelled = f6;
      cancels = f7;
    })) ∙ ap (λ u. row_at (board_of u) q) (sym is) ∙ board_row t q one)))))))
    ∙ sym (board_row t q one))
  where
    b0 : Rows
    b0 = board_of before

    o0 : IsInOrder b0
    o0 = board_in_order before

    b1 : Rows
    b1 = told_anew t (map (λ i. i) c.unbooked) b0

    o1 : IsInOrder b1
    o1 = in_order-anew t (map (λ i. i) c.unbooked) b0 o0

    b2 : Rows
    b2 = told_anew t (map booking_id c.booking) b1

    o2 : IsInOrder b2
    o2 = in_order-anew t (map booking_id c.booking) b1 o1

    b3 : Rows
    b3 = told_anew t (map (λ i. i) c.unlogged) b2

    o3 : IsInOrder b3
    o3 = in_order-anew t (map (λ i. i) c.unlogged) b2 o2

    b4 : Rows
    b4 = told_anew t (map error_id c.errorlog) b3

    o4 : IsInOrder b4
    o4 = in_order-anew t (map error_id c.errorlog) b3 o3

    b5 : Rows
    b5 = told_anew t (map (λ i. i) c.uncancelled) b4

    o5 : IsInOrder b5
    o5 = in_order-anew t (map (λ i. i) c.uncancelled) b4 o4

    b6 : Rows
    b6 = told_anew t (map cancelled_id c.cancelled) b5

    o6 : IsInOrder b6
    o6 = in_order-anew t (map cancelled_id c.cancelled) b5 o5

-- ---- rows in order, and a row that is found

-- in the order of their ids no id stands twice
pub distinct_ids : {R : Type 0} (key : R → Id) (rows : List R) → InOrder id_before key rows → AreDistinct (map key rows)
distinct_ids key [] h = tt
distinct_ids {R} key (x ∷ xs) h = (apart xs h.0, distinct_ids key xs h.1)
  where
    go : (y : R) (s : Bool) → same_id (key x) (key y) ≡ s → id_before (key x) (key y) ≡ true → s ≡ false
    go y true e before = absurd (id_order.irreflexive (key x) (ap (id_before (key x)) (same_id-true (key x) (key y) e) ∙ before))
    go y false e before = refl

    apart : (ys : List R) → AllByRecursion (λ y. id_before (key x) (key y) ≡ true) ys → is_among (key x) (map key ys) ≡ false
    apart [] h = refl
    apart (y ∷ ys) h = or_from (same_id (key x) (key y)) (is_among (key x) (map key ys)) (go y (same_id (key x) (key y)) refl h.0) (apart ys h.1)

-- what all rows keep, the one that is found keeps
pub found_keeps : {R : Type 0} (P : R → Type 0) (key : R → Id) (i : Id) (rows : List R) (row : R) → AllByRecursion P rows → row_with_id key i rows ≡ Some row → P row
found_keeps P key i [] row h e = absurd (let never : ⊥ = cc in never)
found_keeps P key i (x ∷ xs) row h e = go (same_id (key x) i) e (found_keeps P key i xs row h.1)
  where
    go : (s : Bool) → cond s (Some x) (row_with_id key i xs) ≡ Some row → (row_with_id key i xs ≡ Some row → P row) → P row
    go true f later = let one : x ≡ row = cc in subst P one h.0
    go false f later = later f
