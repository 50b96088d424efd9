-- The rows that a change puts: of writes that follow each other in the order, of older ones, and of servers whose counts are others now.
use Rattle.std.proofs.Common.{◌≡◌, refl, sym, ap, ◌∙◌, subst, ℕ, zero, suc, ◌+◌, ◌<◌, ◌≤◌, Bool, true, false, not, cond, ◌&&◌, eqb, leb, ltb}
use Rattle.std.proofs.Common.{List, [], ◌∷◌, ◌++◌, length, map, ◌⊎◌, inl, inr, Option, Some, arith, append_assoc, append-nil, eqb-true}
use Rattle.std.proofs.lemmas.Bool.{and_parts, cond-false, false_from_ne_true}
use Rattle.std.proofs.lemmas.List.{map-append}
use Rattle.std.specs.Prelude.{flat_map}
use Rattle.std.specs.List.{slice_get}
use Rattle.mr_model.specs.Texts.{Text, numbers_on}
use Rattle.mr_model.specs.Writes.{Id, Write, id_of}
use Rattle.mr_model.specs.Replica.{Replica, IsReplica, count_of, is_committed, text_before}
use Rattle.mr_model.specs.View.{place_of}
use Rattle.mr_model.specs.Tables.{MetaRow, VectorRow, LogRow, PlaceRow, seq_of, log_row_with, log_row, place_row_for, place_row, vector_row, tables_of}
use Rattle.mr_model.specs.Queries.{row_id}
use Rattle.mr_model.specs.Dropped.{Has}
use Rattle.mr_model.proofs.KnownById.{one_known}
use Rattle.mr_model.proofs.Members.{map_has}
use Rattle.mr_model.proofs.RoomTold.{committed-seq}
use Rattle.mr_model.proofs.RowsById.{flat_has, has_flat, has_numbers}
use Rattle.mr_model.proofs.TablesTell.{vector_entry, key-row}
use Rattle.mr_model.proofs.TwinTables.{flat_map_same}
use Rattle.mr_tables.specs.declared.summary.Tally.{Tally}
use Rattle.mr_tables.specs.Summary.{tally_at, tally_of}
use Rattle.mr_tables.specs.Change.{put_all, changed}
use Rattle.mr_tables.specs.ExecutionRows.{seq_on, log_rows, place_rows}
use Rattle.mr_tables.specs.Tallied.{tally_rows}
use Rattle.mr_tables.specs.Written.{same_tally, changed_tallies, with_places, written}
use Rattle.mr_tables.proofs.Adding.{place-push}
use Rattle.mr_tables.proofs.Summaries.{tally-of}
use Rattle.mr_part.specs.Logged.{undo_with}
use Rattle.mr_part.specs.Placing.{with_places_put}
use Rattle.mr_part.proofs.MovedTables.{Moves, change_of, moves, vectors_move}

-- rows of places come behind those that were put
pub places-put : (meta : MetaRow) (rooms : List Text) (vector : List VectorRow) (log : List LogRow) (ps qs : List PlaceRow)
    → with_places_put (with_places meta rooms vector log ps) qs ≡ with_places meta rooms vector log (ps ++ qs)
places-put meta rooms vector log ps [] = ap (with_places meta rooms vector log) (sym (append-nil ps))
places-put meta rooms vector log ps (q ∷ qs) =
    ap (λ c. with_places_put c qs) (place-push meta rooms vector log ps q)
    ∙ places-put meta rooms vector log (ps ++ q ∷ []) qs
    ∙ ap (with_places meta rooms vector log) (append_assoc ps (q ∷ []) qs)

-- ---- writes that follow each other in the order

-- the first of them is the k-th
abbrev pub AreNumbered : Replica → ℕ → List Write → Type 0
AreNumbered r k ws = (i : ℕ) (w : Write) → slice_get ws i ≡ Some w → seq_of r w ≡ seq_on (length r.commits) (k + i)

numbered_first : (r : Replica) (k : ℕ) (w : Write) (ws : List Write) → AreNumbered r k (w ∷ ws) → seq_on (length r.commits) k ≡ seq_of r w
numbered_first r k w ws n = let e : k ≡ k + 0 = omega arith in ap (seq_on (length r.commits)) e ∙ sym (n zero w refl)

numbered_rest : (r : Replica) (k : ℕ) (w : Write) (ws : List Write) → AreNumbered r k (w ∷ ws) → AreNumbered r (k + 1) ws
numbered_rest r k w ws n = λ i v e. n (suc i) v e ∙ (let m : k + suc i ≡ k + 1 + i = omega arith in ap (seq_on (length r.commits)) m)

-- with what undoes them, they get the rows of log that the replica has of them
logs_told : (r : Replica) (k : ℕ) (ws : List Write) → AreNumbered r k ws → log_rows (length r.commits) k ws (map (undo_with (place_of r)) ws) ≡ map (log_row r) ws
logs_told r k [] n = refl
logs_told r k (w ∷ ws) n =
    let here = numbered_first r k w ws n in
    let rest = logs_told r (k + 1) ws (numbered_rest r k w ws n) in
    λ i. log_row_with w (place_of r w) (here i) ∷ rest i

-- a write with a number is committed
mark_on : (r : Replica) (k : ℕ) (w : Write) → 1 ≤ k → seq_of r w ≡ seq_on (length r.commits) k → is_committed r (id_of w) ≡ leb k (length r.commits)
mark_on r k w low e = committed-seq r w ∙ ap (λ q. not (eqb q 0)) e ∙ go (leb k (length r.commits))
  where
    go : (b : Bool) → not (eqb (cond b k 0) 0) ≡ b
    go true = ap not (false_from_ne_true (eqb k 0) (λ z. let n = eqb-true k 0 z in omega (arith, low, n)))
    go false = refl

-- such cancels give a write the row that it has
abbrev pub GiveRow : Replica → (Write → Option Id) → Write → Type 0
GiveRow r by w = place_row_for w w.action (place_of r w) (by w) (is_committed r (id_of w)) (seq_of r w) ≡ place_row r w

-- and the rows of places, with cancels that are of use where a booking took its slot
places_told : (r : Replica) (k : ℕ) (by : Write → Option Id) (ws : List Write) → 1 ≤ k → AreNumbered r k ws → ((w : Write) → Has w ws → GiveRow r by w)
    → place_rows (length r.commits) k ws (map (undo_with (place_of r)) ws) (map by ws) ≡ map (place_row r) ws
places_told r k by [] low n same = refl
places_told r k by (w ∷ ws) low n same =
    let here = numbered_first r k w ws n in
    let mark = sym (mark_on r k w low (sym here)) in
    let row = (λ i. place_row_for w w.action (place_of r w) (by w) (mark i) (here i)) ∙ same w (inl refl) in
    let rest = places_told r (k + 1) by ws (omega (arith, low)) (numbered_rest r k w ws n) (λ v h. same v (inr h)) in
    λ i. row i ∷ rest i

pub written_told : (r : Replica) (k : ℕ) (by : Write → Option Id) (ws : List Write) (rooms : List Text) (vector : List VectorRow)
    → 1 ≤ k → AreNumbered r k ws → ((w : Write) → Has w ws → GiveRow r by w)
    → written (tables_of r).meta rooms vector (length r.commits) k ws (map (undo_with (place_of r)) ws) (map by ws) ≡ change_of r ws ws rooms vector
written_told r k by ws rooms vector low n same =
    let logs = logs_told r k ws n in
    let places = places_told r k by ws low n same in
    λ i. with_places (tables_of r).meta rooms vector (logs i) (places i)

-- ---- rows of older writes

-- rows that are those of known writes
pub record AreOf (r : Replica) (rows : List PlaceRow) : Type 0 where
  pub writes : List Write
  pub rows_are : map (place_row r) writes ≡ rows
  pub known : (w : Write) → Has w writes → Has w r.known

pub writes_of_rows : (r : Replica) (rows : List PlaceRow) → ((p : PlaceRow) → Has p rows → (w : Write) × Has w r.known × (p ≡ place_row r w)) → AreOf r rows
writes_of_rows r [] told = record { writes = []; rows_are = refl; known = λ w h. absurd h }
writes_of_rows r (p ∷ ps) told =
    let (w, known, is) = told p (inl refl) in
    let rest = writes_of_rows r ps (λ q h. told q (inr h)) in
    record { writes = w ∷ rest.writes; rows_are = λ i. sym is i ∷ rest.rows_are i; known = λ v h. go w known rest v h }
  where
    go : (w : Write) → Has w r.known → (rest : AreOf r ps) → (v : Write) → Has v (w ∷ rest.writes) → Has v r.known
    go w known rest v (inl e) = subst (λ u. Has u r.known) (sym e) known
    go w known rest v (inr h) = rest.known v h

-- the row of a known write is that of one of these alone
pub write_of_row : (r : Replica) (rows : List PlaceRow) (olds : AreOf r rows) (w : Write) → IsReplica r → Has w r.known → Has (place_row r w) rows → Has w olds.writes
write_of_row r rows olds w h known there =
    let (v, g, e) = map_has (place_row r) (place_row r w) olds.writes (subst (λ xs. Has (place_row r w) xs) (sym olds.rows_are) there) in
    let id : id_of v ≡ id_of w = sym (key-row r v) ∙ ap row_id (sym e) ∙ key-row r w in
    subst (λ u. Has u olds.writes) (one_known r v w h (olds.known v g) known id) g

-- ---- the change

-- where all others keep their rows, these make the tables of the one replica those of the other
pub put_makes : (a b : Replica) (k : ℕ) (by : Write → Option Id) (ws : List Write) (older : List PlaceRow) (rooms : List Text) (vector : List VectorRow)
    → 1 ≤ k → AreNumbered b k ws → ((w : Write) → Has w ws → GiveRow b by w)
    → IsReplica a → IsReplica b → (olds : AreOf b older) → Moves a b ws (ws ++ olds.writes) → put_all text_before (λ name. name) rooms a.rooms ≡ b.rooms
    → put_all ltb (λ (row : VectorRow). row.server) vector (tables_of a).vector ≡ (tables_of b).vector
    → changed (with_places_put (written (tables_of b).meta rooms vector (length b.commits) k ws (map (undo_with (place_of b)) ws) (map by ws)) older) (tables_of a) ≡ tables_of b
put_makes a b k by ws older rooms vector low n same ha hb olds m e f =
    (λ i. changed (with_places_put (written_told b k by ws rooms vector low n same i) (sym olds.rows_are i)) (tables_of a))
    ∙ ap (λ c. changed c (tables_of a))
    (places-put (tables_of b).meta rooms vector (map (log_row b) ws) (map (place_row b) ws) (map (place_row b) olds.writes)
    ∙ ap (with_places (tables_of b).meta rooms vector (map (log_row b) ws)) (sym (map-append (place_row b) ws olds.writes)))
    ∙ moves a b ws (ws ++ olds.writes) rooms vector ha hb m e f

-- ---- servers

same_tally-true : (t u : Tally) → same_tally t u ≡ true → t ≡ u
same_tally-true t u h =
    let p = and_parts (eqb t.count u.count && eqb t.last_time u.last_time) (eqb t.committed u.committed) h in
    let q = and_parts (eqb t.count u.count) (eqb t.last_time u.last_time) p.0 in
    let count = eqb-true t.count u.count q.0 in
    let last = eqb-true t.last_time u.last_time q.1 in
    let committed = eqb-true t.committed u.committed p.1 in
    λ i. record { count = count i; last_time = last i; committed = committed i }

tally_row : (ts : List Tally) (s : ℕ) (t : Tally) → tally_at ts s ≡ t
    → tally_rows ts s ≡ cond (eqb t.count 0) [] (record { server = s; count = t.count; last_time = t.last_time; committed = t.committed } ∷ [])
tally_row ts s t e = λ i. cond (eqb (e i).count 0) [] (record { server = s; count = (e i).count; last_time = (e i).last_time; committed = (e i).committed } ∷ [])

numbers_below : (m k n : ℕ) → Has m (numbers_on k n) → m < k + n
numbers_below m k zero h = absurd h
numbers_below m k (suc n) (inl e) = omega (arith, e)
numbers_below m k (suc n) (inr h) = let l : m < k + 1 + n = numbers_below m (k + 1) n h in omega (arith, l)

abbrev pub tallies_of : Replica → List Tally
tallies_of r = map (tally_of r) (numbers_on 0 100)

-- the vector's rows of the servers whose tallies differ
abbrev pub vector_between : Replica → Replica → List VectorRow
vector_between a b = changed_tallies (tallies_of a) (tallies_of b)

abbrev rows_between : Replica → Replica → ℕ → List VectorRow
rows_between a b s = cond (same_tally (tally_of a s) (tally_of b s)) [] (vector_row b s)

between : (a b : Replica) → vector_between a b ≡ flat_map (rows_between a b) (numbers_on 1 99)
between a b = flat_map_same (λ s. cond (same_tally (tally_at old s) (tally_at new s)) [] (tally_rows new s)) (rows_between a b) (numbers_on 1 99) each
  where
    old : List Tally
    old = tallies_of a

    new : List Tally
    new = tallies_of b

    each : (s : ℕ) → Has s (numbers_on 1 99) → cond (same_tally (tally_at old s) (tally_at new s)) [] (tally_rows new s) ≡ rows_between a b s
    each s h =
        let l = numbers_below s 1 99 h in
        let p = tally-of a s l in
        let q = tally-of b s l in
        let row = tally_row new s (tally_of b s) q in
        λ i. cond (same_tally (p i) (q i)) [] (row i)

pub tallies_move : (a b : Replica) → IsReplica a → IsReplica b → ((w : Write) → Has w a.known → Has w b.known)
    → put_all ltb (λ (row : VectorRow). row.server) (vector_between a b) (tables_of a).vector ≡ (tables_of b).vector
tallies_move a b ha hb stays =
    ap (λ rows. put_all ltb (λ (row : VectorRow). row.server) rows (tables_of a).vector) (between a b)
    ∙ vectors_move a b (flat_map (rows_between a b) (numbers_on 1 99)) ha hb stays new others
  where
    new : (row : VectorRow) → Has row (flat_map (rows_between a b) (numbers_on 1 99)) → Has row (tables_of b).vector
    new row h =
        let (s, c, d) = flat_has (rows_between a b) row (numbers_on 1 99) h in
        has_flat (vector_row b) row s (numbers_on 1 99) c (own s (same_tally (tally_of a s) (tally_of b s)) d)
      where
        own : (s : ℕ) (t : Bool) → Has row (cond t [] (vector_row b s)) → Has row (vector_row b s)
        own s true g = absurd g
        own s false g = g

    others : (s : ℕ) → 1 ≤ s → s ≤ 99 → (count_of b s ≡ 0 → ⊥) → Has (vector_entry b s) (flat_map (rows_between a b) (numbers_on 1 99)) ⊎ (vector_entry a s ≡ vector_entry b s)
    others s low high ne = go (same_tally (tally_of a s) (tally_of b s)) refl
      where
        entry : Has (vector_entry b s) (vector_row b s)
        entry = subst (λ rows. Has (vector_entry b s) rows)
            (sym (cond-false (eqb (count_of b s) 0) [] (vector_entry b s ∷ []) (false_from_ne_true (eqb (count_of b s) 0) (λ z. ne (eqb-true (count_of b s) 0 z))))) (inl refl)

        go : (t : Bool) → same_tally (tally_of a s) (tally_of b s) ≡ t → Has (vector_entry b s) (flat_map (rows_between a b) (numbers_on 1 99)) ⊎ (vector_entry a s ≡ vector_entry b s)
        go true e = inr (ap (λ (t : Tally). record { server = s; count = t.count; last_time = t.last_time; committed = t.committed }) (same_tally-true (tally_of a s) (tally_of b s) e))
        go false e =
            inl (has_flat (rows_between a b) (vector_entry b s) s (numbers_on 1 99) (has_numbers s 1 99 low (omega (arith, high)))
            (subst (λ t. Has (vector_entry b s) (cond t [] (vector_row b s))) (sym e) entry))
