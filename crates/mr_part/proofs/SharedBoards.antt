-- The bookings of a scope's rooms, as they are seen on a board of all bookings, are the board of the rows in scope.
use Rattle.std.proofs.Common.{◌≡◌, ◌∙◌, refl, sym, ap, ltb, Bool, true, false, not, cond, ◌&&◌, ◌||◌, List, [], ◌∷◌, ◌++◌, map, inl, inr, Option, Some, None}
use Rattle.std.proofs.lemmas.Bool.{cond-true, cond-false, true≢false}
use Rattle.std.proofs.Math.Bool.{or-false}
use Rattle.std.specs.BTreeSet.{BTreeSet}
use Rattle.std.specs.List.{filter, list_any}
use Rattle.std.specs.Prelude.{bytes_eq, flat_map}
use Rattle.mr_model.specs.Texts.{Text}
use Rattle.mr_model.specs.Writes.{Id, same_id}
use Rattle.mr_model.specs.Exchange.{Item, W, C}
use Rattle.mr_model.specs.Dropped.{Has}
use Rattle.mr_model.specs.Queries.{log_id}
use Rattle.mr_model.specs.Replica.{Replica, IsReplica, is_among}
use Rattle.mr_model.specs.Scopes.{Scope, Nothing, InRoom, OfTarget, NextCommits, UpTo, Above, OfItems, in_scope, item_id}
use Rattle.mr_model.specs.Scopes.{has_number, is_named, is_tentative, is_in_tail, is_touched, rooms_of_item, touched_rooms}
use Rattle.mr_model.specs.Tables.{LogRow, Tables, tables_of}
use Rattle.mr_model.proofs.Members.{has_among, has_map, same_id-true}
use Rattle.mr_replay.specs.declared.rows.Row.{Row}
use Rattle.mr_replay.specs.Rows.{row_at}
use Rattle.mr_replay.specs.Bookings.{is_taken}
use Rattle.mr_replay.specs.Seen.{has_room, seen_in}
use Rattle.mr_replay.proofs.Hiding.{same_rows}
use Rattle.mr_replay.proofs.SeenRows.{if_seen, in_order-seen, row_at-seen}
use Rattle.mr_tables.specs.Boards.{board_of}
use Rattle.mr_part.specs.Parts.{HasRowsButBookings, goes_by_rooms}
use Rattle.mr_part.specs.RowTests.{rooms_wanted}
use Rattle.mr_part.specs.Sets.{IsSetOf}
use Rattle.mr_part.proofs.PartBoards.{if_picked, is_in_part, part-row}
use Rattle.mr_tables.proofs.BoardChanged.{board_in_order}

-- ---- the rooms that a batch touches are told by the rows of log that it names, which are in scope

-- rows that pass are among those that are looked at
looked_at : {R : Type 0} (f p : R → Bool) (rows : List R) → ((row : R) → f row ≡ true → p row ≡ true) → filter f (filter p rows) ≡ filter f rows
looked_at f p [] g = refl
looked_at {R} f p (x ∷ xs) g = go (p x) refl (f x) refl (looked_at f p xs g)
  where
    go : (b : Bool) → p x ≡ b → (c : Bool) → f x ≡ c → filter f (filter p xs) ≡ filter f xs → filter f (cond b (x ∷ filter p xs) (filter p xs)) ≡ cond c (x ∷ filter f xs) (filter f xs)
    go true e true k rest = cond-true (f x) (x ∷ filter f (filter p xs)) (filter f (filter p xs)) k ∙ ap (λ (ys : List R). x ∷ ys) rest
    go true e false k rest = cond-false (f x) (x ∷ filter f (filter p xs)) (filter f (filter p xs)) k ∙ rest
    go false e true k rest = absurd (true≢false (sym (g x k) ∙ e))
    go false e false k rest = rest

rooms_of_named : (t : Tables) (items : List Item) (x : Item) → Has x items → rooms_of_item t.meta.commits (in_scope (OfItems items) t).log x ≡ rooms_of_item t.meta.commits t.log x
rooms_of_named t items (W w) h = refl
rooms_of_named t items (C seq id) h = ap (λ rows. cond (ltb t.meta.commits seq) (map (λ (row : LogRow). row.room) rows) []) (looked_at (λ (row : LogRow). same_id (log_id row) id) test t.log named)
  where
    test : LogRow → Bool
    test row = is_named items row || (is_in_tail t.meta.commits items row && is_touched t items row.room)

    named : (row : LogRow) → same_id (log_id row) id ≡ true → test row ≡ true
    named row e =
        let among : is_among (log_id row) (map item_id items) ≡ true = ap (λ i. is_among i (map item_id items)) (same_id-true (log_id row) id e)
        ∙ has_among id (map item_id items) (has_map item_id (C seq id) items h) in
        ap (λ c. (c || (not (is_tentative row) && list_any (has_number row.seq) items)) || (is_in_tail t.meta.commits items row && is_touched t items row.room)) among

same_rooms : (f g : Item → List Text) (xs : List Item) → ((x : Item) → Has x xs → f x ≡ g x) → flat_map f xs ≡ flat_map g xs
same_rooms f g [] same = refl
same_rooms f g (x ∷ xs) same = λ i. same x (inl refl) i ++ same_rooms f g xs (λ y h. same y (inr h)) i

touched_in_scope : (a : Replica) (items : List Item) (t : Tables) → HasRowsButBookings t (OfItems items) a → touched_rooms t items ≡ touched_rooms (tables_of a) items
touched_in_scope a items t e =
    let commits : t.meta.commits ≡ (tables_of a).meta.commits = ap (λ (x : Tables). x.meta.commits) e in
    let logs : (in_scope (OfItems items) t).log ≡ (in_scope (OfItems items) (tables_of a)).log = ap (λ (x : Tables). x.log) e in
    same_rooms (rooms_of_item t.meta.commits t.log) (rooms_of_item (tables_of a).meta.commits (tables_of a).log) items (λ x h.
    sym (rooms_of_named t items x h) ∙ (λ i. rooms_of_item (commits i) (logs i) x) ∙ rooms_of_named (tables_of a) items x h)

-- what the rows in scope tell of the rooms that are wanted
pub rooms_in_scope : (s : Scope) (a : Replica) (t : Tables) → HasRowsButBookings t s a → rooms_wanted s t ≡ rooms_wanted s (tables_of a)
rooms_in_scope Nothing a t e = refl
rooms_in_scope (InRoom room) a t e = refl
rooms_in_scope (OfTarget target) a t e = refl
rooms_in_scope (NextCommits k) a t e = refl
rooms_in_scope (UpTo d) a t e = refl
rooms_in_scope (Above c) a t e = refl
rooms_in_scope (OfItems items) a t e = touched_in_scope a items t e

-- ---- what is seen is what is in scope

no_room : (set : BTreeSet Text) (rooms : List Text) (name : Text) → IsSetOf set rooms → rooms ≡ [] → has_room set name ≡ false
no_room set rooms name are none = are name ∙ ap (list_any (bytes_eq name)) none

and_false : (b : Bool) → (b && false) ≡ false
and_false true = refl
and_false false = refl

module _ (a : Replica) (set : BTreeSet Text) where
  seen_row : (s : Scope) (i : Id) (row : Row) → goes_by_rooms s ≡ true → IsSetOf set (rooms_wanted s (tables_of a)) → (is_taken row.trace && has_room set row.room) ≡ is_in_part s a i row
  seen_row Nothing i row by are = ap (λ c. is_taken row.trace && c) (are row.room) ∙ and_false (is_taken row.trace)
  seen_row (InRoom room) i row by are = ap (λ c. is_taken row.trace && c) (are row.room ∙ or-false (bytes_eq row.room room))
  seen_row (OfTarget target) i row by are = absurd (true≢false (sym by))
  seen_row (NextCommits k) i row by are = absurd (true≢false (sym by))
  seen_row (UpTo d) i row by are = ap (λ c. is_taken row.trace && c) (are row.room) ∙ and_false (is_taken row.trace)
  seen_row (Above c) i row by are = ap (λ c. is_taken row.trace && c) (are row.room) ∙ and_false (is_taken row.trace)
  seen_row (OfItems items) i row by are = ap (λ c. is_taken row.trace && c) (are row.room)

  seen_option : (s : Scope) (i : Id) (o : Option Row) → goes_by_rooms s ≡ true → IsSetOf set (rooms_wanted s (tables_of a)) → if_seen set o ≡ if_picked (is_in_part s a i) o
  seen_option s i None by are = refl
  seen_option s i (Some row) by are = ap (λ c. cond c (Some row) None) (seen_row s i row by are)

  pub seen_is_in_scope : (s : Scope) → IsReplica a → goes_by_rooms s ≡ true → IsSetOf set (rooms_wanted s (tables_of a)) → seen_in set (board_of (tables_of a)) ≡ board_of (in_scope s (tables_of a))
  seen_is_in_scope s sound by are =
      let all = board_of (tables_of a) in
      same_rows (seen_in set all) (board_of (in_scope s (tables_of a))) (in_order-seen set all (board_in_order (tables_of a))) (board_in_order (in_scope s (tables_of a))) (λ i.
      row_at-seen set all i (board_in_order (tables_of a)) ∙ seen_option s i (row_at all i) by are ∙ sym (part-row s a i sound))
