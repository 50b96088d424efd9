-- Tables with the rows that a command needs have in its scope what all tables have.
use Rattle.std.proofs.Common.{◌≡◌, ℕ, nat_lt, Bool, true, false, cond, not, ◌&&◌, ◌||◌, List, [], ◌∷◌, ◌++◌, map, flat_map, take, ◌⊎◌, inl, inr, Option, Some, IfSome, refl, sym, ap, subst, ◌∙◌}
use Rattle.std.proofs.lemmas.Bool.{true≢false, and_from, and_parts, or_cases, or_left, or_right}
use Rattle.std.specs.List.{filter, list_any}
use Rattle.std.specs.Str.{bytes_eq}
use Rattle.mr_model.specs.Dropped.{Has}
use Rattle.mr_model.specs.Exchange.{Item, W, C}
use Rattle.mr_model.specs.Texts.{Text, within}
use Rattle.mr_model.specs.Scopes.{Scope, Nothing, InRoom, OfTarget, NextCommits, UpTo, Above, OfItems, is_tentative, is_above, by_stamp}
use Rattle.mr_model.specs.Scopes.{has_number, in_scope, is_in_tail, is_named, is_new_commit, item_id, rooms_of_item, with_rows}
use Rattle.mr_model.specs.Tables.{LogRow, BookingRow, ErrorRow, CancelledRow, Tables}
use Rattle.mr_model.specs.Queries.{booking_id, error_id, cancelled_id, log_id}
use Rattle.mr_model.specs.Replica.{is_among}
use Rattle.mr_model.specs.Writes.{Id, same_id}
use Rattle.mr_part.specs.Touched.{writes_in}
use Rattle.mr_part.specs.Parts.{goes_by_rooms, without_bookings}
use Rattle.mr_replica.specs.Needed.{is_late_row, is_log_needed, is_of_rooms}

-- to pick twice is to pick once
twice : {R : Type 0} (p : R → Bool) (rows : List R) → filter p (filter p rows) ≡ filter p rows
twice p [] = refl
twice {R} p (x ∷ xs) = go (p x) refl (twice p xs)
  where
    go : (b : Bool) → p x ≡ b → filter p (filter p xs) ≡ filter p xs → filter p (cond b (x ∷ filter p xs) (filter p xs)) ≡ cond b (x ∷ filter p xs) (filter p xs)
    go true e ih = ap (λ c. cond c (x ∷ filter p (filter p xs)) (filter p (filter p xs))) e ∙ ap (λ ys. x ∷ ys) ih
    go false e ih = ih

again : {R : Type 0} (p : R → Bool) (rows picked : List R) → picked ≡ filter p rows → filter p picked ≡ filter p rows
again p rows picked is = ap (filter p) is ∙ twice p rows

pub target_scope : (t : Tables) (target : Id) (booking : List BookingRow) (errorlog : List ErrorRow) (cancelled : List CancelledRow)
    → booking ≡ filter (λ r. same_id (booking_id r) target) t.booking → errorlog ≡ filter (λ r. same_id (error_id r) target) t.errorlog
    → cancelled ≡ filter (λ r. same_id (cancelled_id r) target) t.cancelled → in_scope (OfTarget target) (with_rows t [] booking errorlog cancelled) ≡ in_scope (OfTarget target) t
target_scope t target booking errorlog cancelled b e c =
    (λ i. with_rows t []
    (again (λ (x : BookingRow). same_id (booking_id x) target) t.booking booking b i)
    (again (λ (x : ErrorRow). same_id (error_id x) target) t.errorlog errorlog e i)
    (again (λ (x : CancelledRow). same_id (cancelled_id x) target) t.cancelled cancelled c i))

pub commits_scope : (t : Tables) (k : ℕ) → in_scope (NextCommits k) (with_rows t (filter is_tentative t.log) [] [] t.cancelled) ≡ in_scope (NextCommits k) t
commits_scope t k =
    (λ i. with_rows t (take k (by_stamp (twice is_tentative t.log i))) [] []
    (filter (λ c. is_among (cancelled_id c) (map log_id (take k (by_stamp (twice is_tentative t.log i))))) t.cancelled))

pub up_to_scope : (t : Tables) (d : ℕ) → in_scope (UpTo d) (with_rows t (filter (λ row. within 1 d row.seq) t.log) [] [] []) ≡ in_scope (UpTo d) t
up_to_scope t d = ap (λ logs. with_rows t logs [] [] []) (twice (λ (row : LogRow). within 1 d row.seq) t.log)

pub above_scope : (t : Tables) (commits : ℕ) → in_scope (Above commits) (with_rows t (filter (is_above commits) t.log) [] [] []) ≡ in_scope (Above commits) t
above_scope t commits = ap (λ logs. with_rows t logs [] [] []) (twice (is_above commits) t.log)

-- ---- without bookings

-- the tests of a batch find the same rows among those that are needed
narrower : {R : Type 0} (p q : R → Bool) → ((r : R) → p r ≡ true → q r ≡ true) → (rows : List R) → filter p (filter q rows) ≡ filter p rows
narrower p q up [] = refl
narrower {R} p q up (x ∷ xs) = go (p x) (q x) refl (up x) (narrower p q up xs)
  where
    go : (a b : Bool) → p x ≡ a → (a ≡ true → b ≡ true) → filter p (filter q xs) ≡ filter p xs → filter p (cond b (x ∷ filter q xs) (filter q xs)) ≡ cond a (x ∷ filter p xs) (filter p xs)
    go a true e u ih = ap (λ c. cond c (x ∷ filter p (filter q xs)) (filter p (filter q xs))) e ∙ ap (λ ys. cond a (x ∷ ys) ys) ih
    go true false e u ih = absurd (true≢false (sym (u refl)))
    go false false e u ih = ih

named_id : (a : Id) (x : Item) (items : List Item) → Has x items → same_id a (item_id x) ≡ true → is_among a (map item_id items) ≡ true
named_id a x [] h same = absurd h
named_id a x (y ∷ items) (inl e) same = or_left (same_id a (item_id y)) (is_among a (map item_id items)) (subst (λ z. same_id a (item_id z) ≡ true) e same)
named_id a x (y ∷ items) (inr h) same = or_right (same_id a (item_id y)) (is_among a (map item_id items)) (named_id a x items h same)

-- where a batch touches a room, it has a new commit or writes in the room
touched_by : (known : ℕ) (log : List LogRow) (room : Text) (items : List Item) → list_any (bytes_eq room) (flat_map (rooms_of_item known log) items) ≡ true
    → (list_any (is_new_commit known) items || list_any (writes_in room) items) ≡ true
touched_by known log room [] h = h
touched_by known log room (W w ∷ items) h = go (bytes_eq room w.room) h (touched_by known log room items)
  where
    go : (b : Bool) → (b || list_any (bytes_eq room) (flat_map (rooms_of_item known log) items)) ≡ true
        → (list_any (bytes_eq room) (flat_map (rooms_of_item known log) items) ≡ true → (list_any (is_new_commit known) items || list_any (writes_in room) items) ≡ true)
        → (list_any (is_new_commit known) items || (b || list_any (writes_in room) items)) ≡ true
    go true h ih = or_right (list_any (is_new_commit known) items) true refl
    go false h ih = ih h
touched_by known log room (C seq id ∷ items) h = go (nat_lt known seq) h (touched_by known log room items)
  where
    go : (b : Bool) → list_any (bytes_eq room) (cond b (map (λ (row : LogRow). row.room) (filter (λ row. same_id (log_id row) id) log)) [] ++ flat_map (rooms_of_item known log) items) ≡ true
        → (list_any (bytes_eq room) (flat_map (rooms_of_item known log) items) ≡ true → (list_any (is_new_commit known) items || list_any (writes_in room) items) ≡ true)
        → ((b || list_any (is_new_commit known) items) || list_any (writes_in room) items) ≡ true
    go true h ih = refl
    go false h ih = ih h

module _ (known : ℕ) (items : List Item) (log : List LogRow) where
  abbrev pub needed : LogRow → Bool
  needed row = is_late_row known items row || is_named items row

  kept : (x : Item) → Has x items → filter (λ row. same_id (log_id row) (item_id x)) (filter needed log) ≡ filter (λ row. same_id (log_id row) (item_id x)) log
  kept x h =
      narrower (λ row. same_id (log_id row) (item_id x)) needed
      (λ row same. or_right (is_late_row known items row) (is_named items row)
      (or_left (is_among (log_id row) (map item_id items)) (not (is_tentative row) && list_any (has_number row.seq) items) (named_id (log_id row) x items h same)))
      log

  rooms_of : (left : List Item) → ((x : Item) → Has x left → Has x items) → flat_map (rooms_of_item known (filter needed log)) left ≡ flat_map (rooms_of_item known log) left
  rooms_of [] all = refl
  rooms_of (W w ∷ left) all = ap (λ rooms. w.room ∷ rooms) (rooms_of left (λ x h. all x (inr h)))
  rooms_of (C seq id ∷ left) all =
      (λ i. cond (nat_lt known seq) (map (λ (row : LogRow). row.room) (kept (C seq id) (all (C seq id) (inl refl)) i)) [] ++ rooms_of left (λ x h. all x (inr h)) i)

  abbrev pub in_batch : List Text → LogRow → Bool
  in_batch rooms row = is_named items row || (is_in_tail known items row && list_any (bytes_eq row.room) rooms)

  pub batch_rows : filter (in_batch (flat_map (rooms_of_item known (filter needed log)) items)) (filter needed log) ≡ filter (in_batch (flat_map (rooms_of_item known log) items)) log
  batch_rows =
      (λ i. filter (in_batch (rooms_of items (λ x h. h) i)) (filter needed log))
      ∙ narrower (in_batch (flat_map (rooms_of_item known log) items)) needed
      (λ row h. up row (or_cases (is_named items row) (is_in_tail known items row && list_any (bytes_eq row.room) (flat_map (rooms_of_item known log) items)) h)) log
    where
      up : (row : LogRow) → (is_named items row ≡ true) ⊎ ((is_in_tail known items row && list_any (bytes_eq row.room) (flat_map (rooms_of_item known log) items)) ≡ true) → needed row ≡ true
      up row (inl named) = or_right (is_late_row known items row) (is_named items row) named
      up row (inr late) =
          let (behind, touched) = and_parts (is_in_tail known items row) (list_any (bytes_eq row.room) (flat_map (rooms_of_item known log) items)) late in
          or_left (is_late_row known items row) (is_named items row)
          (and_from (is_in_tail known items row) (list_any (is_new_commit known) items || list_any (writes_in row.room) items) behind (touched_by known log row.room items touched))

pub rooms_scope : (s : Scope) (t : Tables) → is_of_rooms s ≡ true
    → without_bookings (in_scope s (with_rows t (filter (is_log_needed t.meta.commits s) t.log) [] [] [])) ≡ without_bookings (in_scope s t)
rooms_scope Nothing t is = refl
rooms_scope (InRoom room) t is = refl
rooms_scope (OfTarget target) t is = absurd (true≢false (sym is))
rooms_scope (NextCommits k) t is = absurd (true≢false (sym is))
rooms_scope (UpTo d) t is = absurd (true≢false (sym is))
rooms_scope (Above commits) t is = absurd (true≢false (sym is))
rooms_scope (OfItems items) t is = ap (λ logs. with_rows t logs [] [] []) (batch_rows t.meta.commits items t.log)

pub by_rooms : (s : Scope) → is_of_rooms s ≡ true → goes_by_rooms s ≡ true
by_rooms Nothing is = refl
by_rooms (InRoom room) is = refl
by_rooms (OfTarget target) is = absurd (true≢false (sym is))
by_rooms (NextCommits k) is = absurd (true≢false (sym is))
by_rooms (UpTo d) is = refl
by_rooms (Above commits) is = refl
by_rooms (OfItems items) is = refl

-- ---- what holds of an optional value

pub some_of : {X : Type 0} (P : X → Type 0) (o : Option X) (x : X) → o ≡ Some x → IfSome o P → P x
some_of P o x e h = subst (λ o. IfSome o P) e h

pub carried : {X : Type 0} (P : X → Type 0) (o q : Option X) → o ≡ q → IfSome q P → IfSome o P
carried P o q e h = subst (λ o. IfSome o P) (sym e) h
