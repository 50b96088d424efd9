-- What a batch undoes and executes anew, picked from lists of kept writes.
use Rattle.std.proofs.Common.{◌≡◌, sym, ap, ◌∙◌, subst, ℕ, ◌+◌, ◌<◌, ◌≤◌, Bool, true, false, cond, ◌&&◌, ◌||◌, ◌==◌, ltb, List, [], ◌∷◌, ◌++◌, length, get_or}
use Rattle.std.proofs.Common.{drop, map, ◌⊎◌, inl, inr, Some, append_assoc, append-nil, arith, refl, leb, le-leb, lt-ltb, ltb-true, eq-eqb, eqb-true}
use Rattle.std.proofs.lemmas.List.{get_or-map, at_drop_all, length-append, length-map, map-append}
use Rattle.std.proofs.lemmas.Bool.{true≢false, cond-true, cond-false, false_from_ne_true, and_parts, and_from, or_left, or_right}
use Rattle.std.proofs.lemmas.List.Elements.{filter-append}
use Rattle.std.specs.List.{filter, list_any, slice_get}
use Rattle.std.specs.Prelude.{flat_map, bytes_eq}
use Rattle.mr_model.specs.Texts.{Text}
use Rattle.mr_model.specs.Writes.{Id, Write, id_of, same_id}
use Rattle.mr_model.specs.Exchange.{Item, W, C}
use Rattle.mr_model.specs.Kept.{dropped_in_order, kept_in_order, kept_committed}
use Rattle.mr_model.specs.Replica.{Replica, IsReplica, is_among, committed, tentative, order_of}
use Rattle.mr_model.specs.Scopes.{item_id, is_named, is_late, is_in_tail, is_touched, rooms_of_item, touched_rooms}
use Rattle.mr_model.specs.Moving.{may_move, again}
use Rattle.mr_model.specs.Tables.{LogRow, seq_of, log_row, tables_of}
use Rattle.mr_model.specs.View.{place_of}
use Rattle.mr_model.specs.Dropped.{Has}
use Rattle.mr_model.proofs.KnownById.{tentative_known, distinct_commits, committed_ids}
use Rattle.mr_model.proofs.DroppedApart.{kept_known, known_kept, committed-parts}
use Rattle.mr_model.proofs.Members.{has_left, has_right, has_filter, filter_has, has_map, map_has, has_among, same_id-true, Distinct, distinct_parts, any_has, has_any}
use Rattle.mr_model.proofs.Orders.{append_split}
use Rattle.mr_model.proofs.RowsById.{flat_has, has_flat, seq_not}
use Rattle.mr_model.proofs.RowsOfKnown.{rows_of_known}
use Rattle.mr_model.proofs.MembersAlike.{bool_same}
use Rattle.mr_model.specs.Queries.{log_id}
use Rattle.mr_part.specs.Moves.{rooms_named, AreTouched, moves_in, moves_row, is_anew, ShowsMoves}
use Rattle.mr_part.specs.declared.kept_rows.KeptRow.{KeptRow}
use Rattle.mr_part.specs.KeptRows.{kept_row, row_writes, row_undos}
use Rattle.mr_part.specs.Logged.{undo_with}
use Rattle.mr_part.specs.Taken.{CoversScope, is_inside}
use Rattle.mr_part.specs.KeptWrites.{held_place, held_row}
use Rattle.mr_part.proofs.OrderNumbers.{dropped_long, order_numbers, slice_left}
use Rattle.mr_part.proofs.BatchNumbers.{commits_long, new_number}
use Rattle.mr_part.proofs.Picking.{picked_here, left_here}
use Rattle.mr_model.proofs.Fronts.{get_below}
use Rattle.mr_model.proofs.InScope.{tentative_number}
use Rattle.mr_model.proofs.Lists.{filter_true, has_place}

-- ---- picking one by one

pub told_at : {A B : Type 0} (f : A → B) (xs : List A) (ys : List B) (k : ℕ) (x : A) (d : B) → k < length xs → x ≡ get_or xs k x → ys ≡ map f xs → f x ≡ get_or ys k d
told_at f xs ys k x d low at e = ap f at ∙ sym (get_or-map f xs k x d low) ∙ ap (λ zs. get_or zs k d) (sym e)

pub pick_more : {A B : Type 0} (f : A → B) (p : A → Bool) (xs : List A) (k : ℕ) (x : A) (done next : List B) (y : B) → k < length xs → x ≡ get_or xs k x → p x ≡ true
    → y ≡ f x → next ≡ done ++ y ∷ [] → done ++ map f (filter p (drop k xs)) ≡ map f (filter p xs) → next ++ map f (filter p (drop (k + 1) xs)) ≡ map f (filter p xs)
pick_more f p xs k x done next y low at t is more e =
    let rest = map f (filter p (drop (k + 1) xs)) in
    ap (λ ys. ys ++ rest) more ∙ append_assoc done (y ∷ []) rest ∙ ap (λ z. done ++ z ∷ rest) is
    ∙ ap (λ zs. done ++ map f zs) (sym (picked_here p xs k x low at t)) ∙ e

pub pick_none : {A B : Type 0} (f : A → B) (p : A → Bool) (xs : List A) (k : ℕ) (x : A) (done next : List B) → k < length xs → x ≡ get_or xs k x → p x ≡ false
    → next ≡ done → done ++ map f (filter p (drop k xs)) ≡ map f (filter p xs) → next ++ map f (filter p (drop (k + 1) xs)) ≡ map f (filter p xs)
pick_none f p xs k x done next low at t same e =
    ap (λ ys. ys ++ map f (filter p (drop (k + 1) xs))) same ∙ ap (λ zs. done ++ map f zs) (sym (left_here p xs k x low at t)) ∙ e

-- where none is left all are picked
pub pick_end : {A B : Type 0} (f : A → B) (p : A → Bool) (xs : List A) (k : ℕ) (done : List B) → length xs ≤ k → done ++ map f (filter p (drop k xs)) ≡ map f (filter p xs) → done ≡ map f (filter p xs)
pick_end f p xs k done all e = sym (append-nil done) ∙ ap (λ ys. done ++ ys) (sym (at_drop_all (λ zs. map f (filter p zs)) xs k all)) ∙ e

-- one more, where they are looked at one by one
pub passed_more : {A B : Type 0} (f : A → B) (p : A → Bool) (xs : List A) (x : A) (b : Bool) (done next : List B)
    → b ≡ p x → next ≡ cond b (done ++ f x ∷ []) done → done ≡ map f (filter p xs) → next ≡ map f (filter p (xs ++ x ∷ []))
passed_more f p xs x b done next is put e = put ∙ go b is ∙ sym (ap (map f) (filter-append p xs (x ∷ [])))
  where
    go : (c : Bool) → c ≡ p x → cond c (done ++ f x ∷ []) done ≡ map f (filter p xs ++ filter p (x ∷ []))
    go true t = ap (λ ys. ys ++ f x ∷ []) e ∙ sym (map-append f (filter p xs) (x ∷ [])) ∙ ap (λ ys. map f (filter p xs ++ ys)) (sym (cond-true (p x) (x ∷ []) [] (sym t)))
    go false t = e ∙ ap (map f) (sym (append-nil (filter p xs))) ∙ ap (λ ys. map f (filter p xs ++ ys)) (sym (cond-false (p x) (x ∷ []) [] (sym t)))

-- ---- the rooms that are touched

same_any : (room : Text) (xs ys : List Text) → ((t : Text) → Has t xs → Has t ys) → ((t : Text) → Has t ys → Has t xs) → list_any (bytes_eq room) xs ≡ list_any (bytes_eq room) ys
same_any room xs ys f g =
    bool_same (list_any (bytes_eq room) xs) (list_any (bytes_eq room) ys)
    (λ e. let (t, h, k) = has_any (bytes_eq room) xs e in any_has (bytes_eq room) t ys k (f t h))
    (λ e. let (t, h, k) = has_any (bytes_eq room) ys e in any_has (bytes_eq room) t xs k (g t h))

-- the kept writes in scope name the rooms that all rows of the log do
module _ (a : Replica) (items : List Item) (inside : Write → Bool) (sound : IsReplica a) (covers : CoversScope a items inside) where
  here : (t : Text) (x : Item) → Has x items → Has t (rooms_named (length a.commits) (filter inside (kept_in_order a)) x) → Has t (rooms_of_item (length a.commits) (tables_of a).log x)
  here t (W w) g h = h
  here t (C seq id) g h = go (ltb (length a.commits) seq) h
    where
      ws : List Write
      ws = filter inside (kept_in_order a)

      go : (b : Bool) → Has t (cond b (map (λ w. w.room) (filter (λ w. same_id (id_of w) id) ws)) []) → Has t (cond b (map (λ r. r.room) (filter (λ r. same_id (log_id r) id) (tables_of a).log)) [])
      go false k = k
      go true k =
          let (w, m, e) = map_has (λ (v : Write). v.room) t (filter (λ v. same_id (id_of v) id) ws) k in
          let f = filter_has (λ (v : Write). same_id (id_of v) id) w ws m in
          let there = filter_has inside w (kept_in_order a) f.0 in
          let known = kept_known a w sound there.0 in
          let row = ((rows_of_known a sound).log (log_row a w)).1 (w, known.0, known.1, refl) in
          subst (λ u. Has u (map (λ (r : LogRow). r.room) (filter (λ r. same_id (log_id r) id) (tables_of a).log))) (sym e)
          (has_map (λ (r : LogRow). r.room) (log_row a w) (filter (λ r. same_id (log_id r) id) (tables_of a).log)
          (has_filter (λ (r : LogRow). same_id (log_id r) id) (log_row a w) (tables_of a).log f.1 row))

  back : (t : Text) (x : Item) → Has x items → Has t (rooms_of_item (length a.commits) (tables_of a).log x) → Has t (rooms_named (length a.commits) (filter inside (kept_in_order a)) x)
  back t (W w) g h = h
  back t (C seq id) g h = go (ltb (length a.commits) seq) h
    where
      ws : List Write
      ws = filter inside (kept_in_order a)

      go : (b : Bool) → Has t (cond b (map (λ r. r.room) (filter (λ r. same_id (log_id r) id) (tables_of a).log)) []) → Has t (cond b (map (λ w. w.room) (filter (λ w. same_id (id_of w) id) ws)) [])
      go false k = k
      go true k =
          let (r, m, e) = map_has (λ (r : LogRow). r.room) t (filter (λ r. same_id (log_id r) id) (tables_of a).log) k in
          let f = filter_has (λ (r : LogRow). same_id (log_id r) id) r (tables_of a).log m in
          let (w, known, kept, is) = ((rows_of_known a sound).log r).0 f.0 in
          let own : same_id (id_of w) id ≡ true = ap (λ (v : LogRow). same_id (log_id v) id) (sym is) ∙ f.1 in
          let named : is_among (id_of w) (map item_id items) ≡ true =
          has_among (id_of w) (map item_id items) (subst (λ i. Has i (map item_id items)) (sym (same_id-true (id_of w) id own)) (has_map item_id (C seq id) items g)) in
          let there : Has w ws = has_filter inside w (kept_in_order a) (covers w (or_left _ _ (or_left _ _ named))) (known_kept a w sound known kept) in
          subst (λ u. Has u (map (λ (v : Write). v.room) (filter (λ v. same_id (id_of v) id) ws))) (sym (e ∙ ap (λ (v : LogRow). v.room) is))
          (has_map (λ (v : Write). v.room) w (filter (λ v. same_id (id_of v) id) ws) (has_filter (λ (v : Write). same_id (id_of v) id) w ws own there))

  pub touched_told : AreTouched (flat_map (rooms_named (length a.commits) (filter inside (kept_in_order a))) items) a items
  touched_told room =
      same_any room (flat_map (rooms_named (length a.commits) (filter inside (kept_in_order a))) items) (touched_rooms (tables_of a) items)
      (λ t h. let (x, g, k) = flat_has (rooms_named (length a.commits) (filter inside (kept_in_order a))) t items h in
      has_flat (rooms_of_item (length a.commits) (tables_of a).log) t x items g (here t x g k))
      (λ t h. let (x, g, k) = flat_has (rooms_of_item (length a.commits) (tables_of a).log) t items h in
      has_flat (rooms_named (length a.commits) (filter inside (kept_in_order a))) t x items g (back t x g k))

-- ---- those in scope

filter_inside : {A : Type 0} (q p inside : A → Bool) (xs : List A) → ((x : A) → Has x xs → q x ≡ p x) → ((x : A) → Has x xs → p x ≡ true → inside x ≡ true) → filter q (filter inside xs) ≡ filter p xs
filter_inside q p inside [] same all = refl
filter_inside q p inside (x ∷ xs) same all = go (inside x) refl (p x) refl (filter_inside q p inside xs (λ y h. same y (inr h)) (λ y h. all y (inr h)))
  where
    go : (b : Bool) → inside x ≡ b → (d : Bool) → p x ≡ d → filter q (filter inside xs) ≡ filter p xs
        → filter q (cond b (x ∷ filter inside xs) (filter inside xs)) ≡ cond d (x ∷ filter p xs) (filter p xs)
    go true e true f ih = cond-true (q x) (x ∷ filter q (filter inside xs)) (filter q (filter inside xs)) (same x (inl refl) ∙ f) ∙ ap (λ ys. x ∷ ys) ih
    go true e false f ih = cond-false (q x) (x ∷ filter q (filter inside xs)) (filter q (filter inside xs)) (same x (inl refl) ∙ f) ∙ ih
    go false e true f ih = absurd (true≢false (sym (all x (inl refl) f) ∙ e))
    go false e false f ih = ih

filter_apart : {A : Type 0} (q inside : A → Bool) (xs ys : List A) → filter q (filter inside (xs ++ ys)) ≡ filter q (filter inside xs) ++ filter q (filter inside ys)
filter_apart q inside xs ys = ap (filter q) (filter-append inside xs ys) ∙ filter-append q (filter inside xs) (filter inside ys)

pub none_passes : {A : Type 0} (xs : List A) → filter (λ x. false) xs ≡ []
none_passes [] = refl
none_passes (x ∷ xs) = none_passes xs

filter_logged : (q : KeptRow → Bool) (a r : Replica) (ws : List Write) → row_writes (filter q (map (held_row a r) ws)) ≡ filter (λ w. q (held_row a r w)) ws
filter_logged q a r [] = refl
filter_logged q a r (w ∷ ws) = go (q (held_row a r w)) (filter_logged q a r ws)
  where
    go : (b : Bool) → row_writes (filter q (map (held_row a r) ws)) ≡ filter (λ v. q (held_row a r v)) ws
        → row_writes (cond b (held_row a r w ∷ filter q (map (held_row a r) ws)) (filter q (map (held_row a r) ws)))
        ≡ cond b (w ∷ filter (λ v. q (held_row a r v)) ws) (filter (λ v. q (held_row a r v)) ws)
    go true ih = ap (λ vs. w ∷ vs) ih
    go false ih = ih

-- what undid them, by the places in the first replica
undos_held : (q : KeptRow → Bool) (a r : Replica) (ws : List Write) → row_undos (filter q (map (held_row a r) ws)) ≡ map (undo_with (held_place a)) (row_writes (filter q (map (held_row a r) ws)))
undos_held q a r [] = refl
undos_held q a r (w ∷ ws) = go (q (held_row a r w)) (undos_held q a r ws)
  where
    go : (b : Bool) → row_undos (filter q (map (held_row a r) ws)) ≡ map (undo_with (held_place a)) (row_writes (filter q (map (held_row a r) ws)))
        → row_undos (cond b (held_row a r w ∷ filter q (map (held_row a r) ws)) (filter q (map (held_row a r) ws)))
        ≡ map (undo_with (held_place a)) (row_writes (cond b (held_row a r w ∷ filter q (map (held_row a r) ws)) (filter q (map (held_row a r) ws))))
    go true ih = ap (λ us. undo_with (held_place a) w ∷ us) ih
    go false ih = ih

-- the first committed writes have the first numbers
first_number : (r : Replica) (front rest : List Write) (w : Write) → IsReplica r → committed r ≡ front ++ rest → Has w front → (1 ≤ seq_of r w) × (seq_of r w ≤ length front)
first_number r front rest w sound parts h =
    let (i, e) = has_place w front h in
    let low = get_below front i w e in
    let more = length-append front rest in
    let long : length (committed r) ≡ length r.commits = sym (length-map (committed r) id_of) ∙ ap length (committed_ids r sound) in
    let all = ap length parts in
    let there : slice_get (order_of r) i ≡ Some w =
    ap (λ ws. slice_get (ws ++ tentative r) i) parts ∙ slice_left (front ++ rest) (tentative r) i (omega (arith, low, more)) ∙ slice_left front rest i low ∙ e in
    let within : 1 + i ≤ length r.commits = omega (arith, low, more, long, all) in
    let seq : seq_of r w ≡ 1 + i = order_numbers r i w sound there ∙ cond-true (leb (1 + i) (length r.commits)) (1 + i) 0 (le-leb (1 + i) (length r.commits) within) in
    (omega (arith, seq), omega (arith, seq, low))

-- ---- rows

pub filter-map : {A B : Type 0} (p : B → Bool) (g : A → B) (xs : List A) → filter p (map g xs) ≡ map g (filter (λ x. p (g x)) xs)
filter-map p g [] = refl
filter-map p g (x ∷ xs) = go (p (g x)) (filter-map p g xs)
  where
    go : (b : Bool) → filter p (map g xs) ≡ map g (filter (λ y. p (g y)) xs)
        → cond b (g x ∷ filter p (map g xs)) (filter p (map g xs)) ≡ map g (cond b (x ∷ filter (λ y. p (g y)) xs) (filter (λ y. p (g y)) xs))
    go true ih = ap (λ ys. g x ∷ ys) ih
    go false ih = ih

map-twice : {A B C : Type 0} (f : B → C) (g : A → B) (xs : List A) → map f (map g xs) ≡ map (λ x. f (g x)) xs
map-twice f g [] = refl
map-twice f g (x ∷ xs) = ap (λ ys. f (g x) ∷ ys) (map-twice f g xs)

-- the rooms of the writes that a new commit names are those of their rows
pub rooms_of_rows : (commits : ℕ) (rows : List KeptRow) (seq : ℕ) (other : Id) → rooms_named commits (row_writes rows) (C seq other)
    ≡ cond (ltb commits seq) (map (λ (x : KeptRow). x.write.room) (filter (λ (x : KeptRow). same_id (id_of x.write) other) rows)) []
rooms_of_rows commits rows seq other =
    ap (λ names. cond (ltb commits seq) names [])
    (ap (map (λ (w : Write). w.room)) (filter-map (λ (w : Write). same_id (id_of w) other) (λ (x : KeptRow). x.write) rows)
    ∙ map-twice (λ (w : Write). w.room) (λ (x : KeptRow). x.write) (filter (λ (x : KeptRow). same_id (id_of x.write) other) rows))

-- what undoes those of a replica's writes that are tentative and may move
pub undos_moved : (a : Replica) (touched : List Text) (items : List Item) (commits : ℕ) (ws : List Write)
    → row_undos (filter (moves_row touched items commits) (map (kept_row a) ws)) ≡ map (undo_with (place_of a)) (filter (λ w. seq_of a w == 0 && moves_in touched items commits w) ws)
undos_moved a touched items commits ws =
    ap row_undos (filter-map (moves_row touched items commits) (kept_row a) ws)
    ∙ map-twice (λ (x : KeptRow). x.undo) (kept_row a) (filter (λ w. seq_of a w == 0 && moves_in touched items commits w) ws)

-- ---- what is undone and what is executed anew

moving_inside : (a : Replica) (items : List Item) (w : Write) → seq_of a w ≡ 0 → may_move a items w ≡ true → is_inside a items w ≡ true
moving_inside a items w open_ e =
    let p = and_parts (is_touched (tables_of a) items w.room) (is_late (length a.commits) items w.stamp.time w.stamp.server) e in
    let tail : is_in_tail (length a.commits) items (log_row a w) ≡ true = and_from (seq_of a w == 0) (is_late (length a.commits) items w.stamp.time w.stamp.server) (eq-eqb (seq_of a w) 0 open_) p.1 in
    or_right (is_named items (log_row a w)) (is_in_tail (length a.commits) items (log_row a w) && is_touched (tables_of a) items w.room)
    (and_from (is_in_tail (length a.commits) items (log_row a w)) (is_touched (tables_of a) items w.room) tail p.0)

-- a kept commit isn't moved
pub moves_not : (a : Replica) (items : List Item) (touched : List Text) → IsReplica a → (w : Write)
    → Has w (kept_committed a) → (seq_of a w == 0 && moves_in touched items (length a.commits) w) ≡ false
moves_not a items touched sound w h =
    let there = subst (λ ws. Has w ws) (sym (committed-parts a)) (has_right w (dropped_in_order a) (kept_committed a) h) in
    let low = (first_number a (committed a) [] w sound (sym (append-nil (committed a))) there).0 in
    let no : (seq_of a w == 0) ≡ false = false_from_ne_true (seq_of a w == 0) (λ t. let z = eqb-true (seq_of a w) 0 t in omega (arith, z, low)) in
    λ i. no i && moves_in touched items (length a.commits) w

-- a tentative write is moved where it may move
pub moves_as : (a : Replica) (items : List Item) (touched : List Text) → AreTouched touched a items → (w : Write)
    → Has w (tentative a) → (seq_of a w == 0 && moves_in touched items (length a.commits) w) ≡ may_move a items w
moves_as a items touched right w h = let open_ = tentative_number a w h in λ i. eq-eqb (seq_of a w) 0 open_ i && (right w.room i && is_late (length a.commits) items w.stamp.time w.stamp.server)

pub undone_picked : (a : Replica) (items : List Item) (inside : Write → Bool) (touched : List Text) → IsReplica a → CoversScope a items inside → AreTouched touched a items
    → filter (λ w. seq_of a w == 0 && moves_in touched items (length a.commits) w) (filter inside (kept_in_order a)) ≡ filter (may_move a items) (tentative a)
undone_picked a items inside touched sound covers right =
    filter_apart (λ w. seq_of a w == 0 && moves_in touched items (length a.commits) w) inside (kept_committed a) (tentative a)
    ∙ (λ i. none i ++ some i)
  where
    none : filter (λ w. seq_of a w == 0 && moves_in touched items (length a.commits) w) (filter inside (kept_committed a)) ≡ []
    none = filter_inside (λ w. seq_of a w == 0 && moves_in touched items (length a.commits) w) (λ w. false) inside
        (kept_committed a) (moves_not a items touched sound) (λ w h e. absurd (true≢false (sym e))) ∙ none_passes (kept_committed a)

    some : filter (λ w. seq_of a w == 0 && moves_in touched items (length a.commits) w) (filter inside (tentative a)) ≡ filter (may_move a items) (tentative a)
    some =
        filter_inside (λ w. seq_of a w == 0 && moves_in touched items (length a.commits) w) (may_move a items) inside (tentative a) (moves_as a items touched right)
        (λ w h e. covers w (moving_inside a items w (tentative_number a w h) e))

abbrev anew : Replica → Replica → List Item → List Text → Write → Bool
anew a b items touched w = is_anew touched items (length a.commits) (held_row a b w)

not_above : (n k : ℕ) → k ≤ n → ltb n k ≡ false
not_above n k l = false_from_ne_true (ltb n k) (λ t. let g = ltb-true n k t in omega (arith, g, l))

pub again_picked : (a b : Replica) (items : List Item) (inside : Write → Bool) (touched : List Text) (commits : ℕ) (kept : List KeptRow)
    (m : ShowsMoves a b items inside touched commits kept) → row_writes (filter (is_anew touched items commits) kept) ≡ again a items m.moves.news b
again_picked a b items inside touched commits kept m =
    (λ i. row_writes (filter (is_anew touched items (m.commits_are i)) (m.kept_are i)))
    ∙ filter_logged (is_anew touched items (length a.commits)) a b (filter inside (kept_in_order b))
    ∙ ap (λ ws. filter (anew a b items touched) (filter inside (ws ++ tentative b))) kept_is
    ∙ filter_apart (anew a b items touched) inside (kept_committed a ++ m.moves.news) (tentative b)
    ∙ ap (λ ws. ws ++ filter (anew a b items touched) (filter inside (tentative b))) (filter_apart (anew a b items touched) inside (kept_committed a) m.moves.news)
    ∙ (λ i. (none i ++ all i) ++ some i)
  where
    long : length (committed a) ≡ length a.commits
    long = sym (length-map (committed a) id_of) ∙ ap length (committed_ids a m.sound)

    kept_is : kept_committed b ≡ kept_committed a ++ m.moves.news
    kept_is =
        (append_split (dropped_in_order b) (dropped_in_order a) (kept_committed b) (kept_committed a ++ m.moves.news)
        (dropped_long b m.moves.sound ∙ sym m.moves.dropped ∙ sym (dropped_long a m.sound))
        (sym (committed-parts b) ∙ m.moves.committed_are ∙ ap (λ ws. ws ++ m.moves.news) (committed-parts a) ∙ append_assoc (dropped_in_order a) (kept_committed a) m.moves.news)).1

    old : (w : Write) → Has w (kept_committed a) → anew a b items touched w ≡ false
    old w h =
        let there = subst (λ ws. Has w ws) (sym (committed-parts a)) (has_right w (dropped_in_order a) (kept_committed a) h) in
        let p = first_number b (committed a) m.moves.news w m.moves.sound m.moves.committed_are there in
        let low = p.0 in
        let high = p.1 in
        let no : ltb (length a.commits) (seq_of b w) ≡ false = not_above (length a.commits) (seq_of b w) (omega (arith, high, long)) in
        let closed : (seq_of b w == 0) ≡ false = false_from_ne_true (seq_of b w == 0) (λ t. let z = eqb-true (seq_of b w) 0 t in omega (arith, z, low)) in
        λ i. no i || (closed i && moves_in touched items (length a.commits) w)

    none : filter (anew a b items touched) (filter inside (kept_committed a)) ≡ []
    none = filter_inside (anew a b items touched) (λ w. false) inside (kept_committed a) old (λ w h e. absurd (true≢false (sym e))) ∙ none_passes (kept_committed a)

    number : (w : Write) → Has w m.moves.news → length a.commits < seq_of b w
    number w h =
        let (i, e) = has_place w m.moves.news h in
        let low = get_below m.moves.news i w e in
        let commits = commits_long a b items m.moves m.sound in
        let within : length a.commits + 1 + i ≤ length b.commits = omega (arith, low, commits) in
        let seq : seq_of b w ≡ length a.commits + 1 + i = new_number a b items m.moves m.sound i w low e
        ∙ cond-true (leb (length a.commits + 1 + i) (length b.commits)) (length a.commits + 1 + i) 0 (le-leb (length a.commits + 1 + i) (length b.commits) within) in
        omega (arith, seq)

    shown : (w : Write) → Has w m.moves.news → inside w ≡ true
    shown w h = go (m.marks w)
      where
        go : (seq_of b w ≡ seq_of a w) ⊎ (inside w ≡ true) → inside w ≡ true
        go (inr h) = h
        go (inl same) =
            let d : Distinct (a.commits ++ map id_of m.moves.news) = subst Distinct m.moves.commits_are (distinct_commits b m.moves.sound) in
            let zero_ : seq_of a w ≡ 0 = seq_not 1 a.commits (id_of w) (λ g. (distinct_parts a.commits (map id_of m.moves.news) d).2 (id_of w) g (has_map id_of w m.moves.news h)) in
            let above = number w h in
            absurd (omega (arith, same, zero_, above))

    all : filter (anew a b items touched) (filter inside m.moves.news) ≡ m.moves.news
    all =
        filter_inside (anew a b items touched) (λ w. true) inside m.moves.news
        (λ w h. or_left (ltb (length a.commits) (seq_of b w)) (seq_of b w == 0 && moves_in touched items (length a.commits) w) (lt-ltb (length a.commits) (seq_of b w) (number w h)))
        (λ w h e. shown w h)
        ∙ filter_true m.moves.news

    uncommitted : (w : Write) → Has w (tentative b) → seq_of a w ≡ 0
    uncommitted w h =
        seq_not 1 a.commits (id_of w)
        (λ g. true≢false (sym (has_among (id_of w) b.commits (subst (λ ids. Has (id_of w) ids) (sym m.moves.commits_are) (has_left (id_of w) a.commits (map id_of m.moves.news) g)))
        ∙ (tentative_known b w h).1))

    same_test : (w : Write) → Has w (tentative b) → anew a b items touched w ≡ may_move a items w
    same_test w h =
        let open_ = tentative_number b w h in
        let no : ltb (length a.commits) (seq_of b w) ≡ false = not_above (length a.commits) (seq_of b w) (omega (arith, open_)) in
        let open_too = eq-eqb (seq_of b w) 0 open_ in
        λ i. no i || (open_too i && (m.are_touched w.room i && is_late (length a.commits) items w.stamp.time w.stamp.server))

    some : filter (anew a b items touched) (filter inside (tentative b)) ≡ filter (may_move a items) (tentative b)
    some = filter_inside (anew a b items touched) (may_move a items) inside (tentative b) same_test (λ w h e. m.covers w (moving_inside a items w (uncommitted w h) e))

-- and what undid them
pub undos_picked : (a b : Replica) (items : List Item) (inside : Write → Bool) (touched : List Text) (commits : ℕ) (kept : List KeptRow) → ShowsMoves a b items inside touched commits kept
    → row_undos (filter (is_anew touched items commits) kept) ≡ map (undo_with (held_place a)) (row_writes (filter (is_anew touched items commits) kept))
undos_picked a b items inside touched commits kept m =
    subst (λ (rows : List KeptRow). row_undos (filter (is_anew touched items commits) rows) ≡ map (undo_with (held_place a)) (row_writes (filter (is_anew touched items commits) rows)))
    (sym m.kept_are)
    (undos_held (is_anew touched items commits) a b (filter inside (kept_in_order b)))

-- ---- what is in scope
