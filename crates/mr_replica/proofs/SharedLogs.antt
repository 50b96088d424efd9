-- A list that is that of the rows of the log is so when a row is put, and is that of a replica's kept writes.
use Rattle.std.proofs.Common.{◌≡◌, refl, sym, ap, ◌∙◌, subst, IfSome, ℕ, zero, suc, ◌+◌, ◌-◌, ◌<◌, ◌≤◌, Bool, true, false, ◌||◌, List, [], ◌∷◌, ◌++◌}
use Rattle.std.proofs.Common.{take, drop, length, map, ◌⊎◌, inl, inr, Option, Some, None, arith, add-one, slice_get, slice_index_or, slice_set}
use Rattle.std.specs.declared.cmp.Ordering.{Ordering}
use Rattle.std.specs.declared.cmp.Ordering.TheVariants.{Less, Equal, Greater}
use Rattle.std.specs.List.{AllByRecursion}
use Rattle.std.specs.List.Sorted.{IsPermutation}
use Rattle.std.specs.Ordering.{is_lt}
use Rattle.std.proofs.lemmas.Bool.{true≢false, or_left, or_right}
use Rattle.mr_model.specs.Dropped.{Has}
use Rattle.mr_model.specs.Kept.{KeptIsTheLog, kept_in_order}
use Rattle.mr_model.specs.Queries.{log_id}
use Rattle.mr_model.specs.Replica.{Replica, IsReplica}
use Rattle.mr_model.specs.Tables.{LogRow, Tables, Stands, log_row, seq_of, tables_of}
use Rattle.mr_model.specs.View.{place_of}
use Rattle.mr_model.specs.Writes.{Id, Write, id_of, same_id}
use Rattle.mr_model.proofs.DroppedApart.{kept_known}
use Rattle.mr_model.proofs.LogOrder.{kept_is_the_log}
use Rattle.mr_model.proofs.Members.{Sorted, all_has, has_all, has_left, has_map, has_right, has_split, map_has, same_id_from, slice_has, sorted_same}
use Rattle.mr_model.proofs.RowsById.{known_write}
use Rattle.mr_model.proofs.UniqueReplay.{some_inj}
use Rattle.mr_tables.specs.Change.{id_before, put, put_all, rows_without}
use Rattle.mr_tables.specs.Rise.{Rise}
use Rattle.mr_tables.specs.TableOrders.{InOrder, IsOrder, id_order}
use Rattle.mr_tables.proofs.Putting.{has_put, put_has}
use Rattle.mr_part.specs.declared.kept_rows.KeptRow.{KeptRow}
use Rattle.mr_part.specs.declared.kept_rows.RunPlace.{RunPlace}
use Rattle.mr_part.specs.KeptRows.{kept_row, run_place, run_cmp}
use Rattle.mr_part.specs.Parts.{IsLogOf}
use Rattle.mr_part.proofs.KeptOrder.{log_place, run_order, rows_rise}
use Rattle.mr_part.proofs.Sorting.{has_moved, irreflexive, moved_has}
use Rattle.mr_replica.specs.SharedLog.{run_before, AreKeptInRunOrder, AreTold, IsSharedLog, IsTold}
use Rattle.mr_replica.proofs.RowsById.{one_row}

abbrev Before : KeptRow → KeptRow → Type 0
Before x y = run_before (run_place x) (run_place y) ≡ true

-- ---- the order of execution

nil_cons : {X : Type 0} {x : X} {xs : List X} → [] ≡ x ∷ xs → ⊥
nil_cons e = cc

less : (o : Ordering) → is_lt o ≡ true → o ≡ Less
less Less e = refl
less Equal e = absurd (true≢false (sym e))
less Greater e = absurd (true≢false (sym e))

never : (p : RunPlace) → run_before p p ≡ true → ⊥
never p e = irreflexive run_cmp run_order p (less (run_cmp p p) e)

transitive : (p q r : RunPlace) → run_before p q ≡ true → run_before q r ≡ true → run_before p r ≡ true
transitive p q r e f = ap is_lt (run_order.trans p q r (less (run_cmp p q) e) (less (run_cmp q r) f))

-- rows that each stand before the next one
pub rise_run : (rows : List KeptRow) → Rise run_before run_place rows → AreKeptInRunOrder rows
rise_run [] rise = tt
rise_run (x ∷ rows) rise =
    let later = rise_run rows
    (λ k d l. subst (λ j. run_before (run_place (slice_index_or rows k d)) (run_place (slice_index_or rows j d)) ≡ true) (sym (add-one k))
    (subst (λ j. run_before (run_place (slice_index_or rows k d)) (run_place (slice_index_or (x ∷ rows) j d)) ≡ true) (add-one (suc k)) (rise (suc k) d (omega (arith, l)))))
    in
    (first rows (rise 0 x) later, later)
  where
    first : (ys : List KeptRow) → (0 + 1 < length (x ∷ ys) → run_before (run_place x) (run_place (slice_index_or (x ∷ ys) 1 x)) ≡ true) → AreKeptInRunOrder ys → AllByRecursion (Before x) ys
    first [] b s = tt
    first (y ∷ ys) b s =
        let l = b (omega arith) in
        (l, has_all (Before x) ys (λ z h. transitive (run_place x) (run_place y) (run_place z) l (all_has (Before y) z ys s.0 h)))

-- what stands behind the last one stands behind all
pub behind_last : (rows : List KeptRow) (last : KeptRow) (p : RunPlace) → AreKeptInRunOrder rows → slice_get rows (length rows - 1) ≡ Some last
    → run_before (run_place last) p ≡ true → (y : KeptRow) → Has y rows → run_before (run_place y) p ≡ true
behind_last [] last p s e b y h = absurd h
behind_last (x ∷ []) last p s e b y (inl same) = subst (λ z. run_before (run_place z) p ≡ true) (sym (same ∙ some_inj x last e)) b
behind_last (x ∷ []) last p s e b y (inr h) = absurd h
behind_last (x ∷ z ∷ zs) last p s e b y h = go (behind_last (z ∷ zs) last p s.1 next b) h
  where
    next : slice_get (z ∷ zs) (length (z ∷ zs) - 1) ≡ Some last
    next =
        let far : length (x ∷ z ∷ zs) - 1 ≡ suc (length (z ∷ zs) - 1) = omega arith in
        ap (slice_get (x ∷ z ∷ zs)) (sym far) ∙ e

    go : ((w : KeptRow) → Has w (z ∷ zs) → run_before (run_place w) p ≡ true) → Has y (x ∷ z ∷ zs) → run_before (run_place y) p ≡ true
    go ih (inl same) =
        subst (λ w. run_before (run_place w) p ≡ true) (sym same)
        (transitive (run_place x) (run_place last) p (all_has (Before x) last (z ∷ zs) s.0 (slice_has (z ∷ zs) (length (z ∷ zs) - 1) last next)) b)
    go ih (inr g) = ih y g

-- and what stands before the first one before all
pub before_first : (rows : List KeptRow) (first : KeptRow) (p : RunPlace) → AreKeptInRunOrder rows → slice_get rows 0 ≡ Some first
    → run_before p (run_place first) ≡ true → (y : KeptRow) → Has y rows → run_before p (run_place y) ≡ true
before_first [] first p s e b y h = absurd h
before_first (x ∷ xs) first p s e b y (inl same) = subst (λ z. run_before p (run_place z) ≡ true) (sym (same ∙ some_inj x first e)) b
before_first (x ∷ xs) first p s e b y (inr h) =
    transitive p (run_place x) (run_place y) (subst (λ z. run_before p (run_place z) ≡ true) (sym (some_inj x first e)) b) (all_has (Before x) y xs s.0 h)

-- ---- lists

pub set_at : {X : Type 0} (xs : List X) (k : ℕ) (old x : X) (rest : List X) → drop k xs ≡ old ∷ rest → slice_set xs k x ≡ take k xs ++ x ∷ rest
set_at [] zero old x rest e = absurd (nil_cons e)
set_at [] (suc k) old x rest e = absurd (nil_cons e)
set_at (y ∷ ys) zero old x rest e = ap (λ zs. x ∷ drop 1 zs) e
set_at (y ∷ ys) (suc k) old x rest e = ap (λ zs. y ∷ zs) (set_at ys k old x rest e)

pub next_drop : {X : Type 0} (xs : List X) (k : ℕ) (old : X) (rest : List X) → drop k xs ≡ old ∷ rest → drop (k + 1) xs ≡ rest
next_drop [] zero old rest e = absurd (nil_cons e)
next_drop [] (suc k) old rest e = absurd (nil_cons e)
next_drop (y ∷ ys) zero old rest e = ap (drop 1) e
next_drop (y ∷ ys) (suc k) old rest e = ap (λ n. drop n (y ∷ ys)) (add-one (suc k)) ∙ ap (λ n. drop n ys) (sym (add-one k)) ∙ next_drop ys k old rest e

pub take_more : {X : Type 0} (xs : List X) (k : ℕ) (x : X) → k < length xs → x ≡ slice_index_or xs k x → take (k + 1) xs ≡ take k xs ++ x ∷ []
take_more [] k x l e = absurd (omega (arith, l))
take_more (y ∷ ys) zero x l e = ap (λ z. z ∷ []) (sym e)
take_more (y ∷ ys) (suc k) x l e =
    ap (λ n. take n (y ∷ ys)) (add-one (suc k)) ∙ ap (λ zs. y ∷ zs) (ap (λ n. take n ys) (sym (add-one k)) ∙ take_more ys k x (let m : suc k < suc (length ys) = l in omega (arith, m)) e)

pub put_more : (xs : List LogRow) (x : LogRow) (log : List LogRow) → put_all id_before log_id (xs ++ x ∷ []) log ≡ put id_before log_id x (put_all id_before log_id xs log)
put_more [] x log = refl
put_more (y ∷ ys) x log = put_more ys x (put id_before log_id y log)

-- ---- a list with one more in its midst

has_out : {X : Type 0} (y x : X) (us vs : List X) → Has y (us ++ x ∷ vs) → (y ≡ x) ⊎ Has y (us ++ vs)
has_out y x us vs h = go (has_split y us (x ∷ vs) h)
  where
    go : Has y us ⊎ Has y (x ∷ vs) → (y ≡ x) ⊎ Has y (us ++ vs)
    go (inl g) = inr (has_left y us vs g)
    go (inr (inl e)) = inl e
    go (inr (inr g)) = inr (has_right y us vs g)

has_in : {X : Type 0} (y x : X) (us vs : List X) → Has y (us ++ vs) → Has y (us ++ x ∷ vs)
has_in y x us vs h = go (has_split y us vs h)
  where
    go : Has y us ⊎ Has y vs → Has y (us ++ x ∷ vs)
    go (inl g) = has_left y us (x ∷ vs) g
    go (inr g) = has_right y us (x ∷ vs) (inr g)

sorted_in : {X : Type 0} (lt : X → X → Type 0) (x : X) (us vs : List X) → Sorted lt (us ++ vs) → ((y : X) → Has y us → lt y x) → ((y : X) → Has y vs → lt x y) → Sorted lt (us ++ x ∷ vs)
sorted_in lt x [] vs s f g = (has_all (lt x) vs g, s)
sorted_in lt x (u ∷ us) vs s f g =
    (has_all (lt u) (us ++ x ∷ vs) (λ y h. later y (has_out y x us vs h)), sorted_in lt x us vs s.1 (λ y h. f y (inr h)) g)
  where
    later : (y : _) → (y ≡ x) ⊎ Has y (us ++ vs) → lt u y
    later y (inl e) = subst (lt u) (sym e) (f u (inl refl))
    later y (inr h) = all_has (lt u) y (us ++ vs) s.0 h

sorted_out : {X : Type 0} (lt : X → X → Type 0) (x : X) (us vs : List X) → Sorted lt (us ++ x ∷ vs) → Sorted lt (us ++ vs) × ((y : X) → Has y us → lt y x) × ((y : X) → Has y vs → lt x y)
sorted_out lt x [] vs s = (s.1, λ y h. absurd h, λ y h. all_has (lt x) y vs s.0 h)
sorted_out {X} lt x (u ∷ us) vs s =
    let (rest, front, behind) = sorted_out lt x us vs s.1 in
    ((has_all (lt u) (us ++ vs) (λ y h. all_has (lt u) y (us ++ x ∷ vs) s.0 (has_in y x us vs h)), rest), first front, behind)
  where
    first : ((y : X) → Has y us → lt y x) → (y : X) → Has y (u ∷ us) → lt y x
    first front y (inl e) = subst (λ z. lt z x) (sym e) (all_has (lt u) x (us ++ x ∷ vs) s.0 (has_right x us (x ∷ vs) (inl refl)))
    first front y (inr h) = front y h

-- ---- a row is put

pub told_id : (row : LogRow) (x : KeptRow) → IsTold row x → id_of x.write ≡ log_id row
told_id row x t = ap log_id t.told

told_place : (row : LogRow) (x : KeptRow) → IsTold row x → run_place x ≡ log_place row
told_place row x t = ap log_place t.told

-- what the log is with a row that fits between some of the rows, which are all but the one of its write
between : (log : List LogRow) (told : LogRow) (rows us vs : List KeptRow) (x : KeptRow) → InOrder id_before log_id log → IsSharedLog log rows → IsTold told x
    → ((y : KeptRow) → Has y (us ++ vs) → Has y rows × (id_of y.write ≡ log_id told → ⊥))
    → ((y : KeptRow) → Has y rows → (id_of y.write ≡ log_id told → ⊥) → Has y (us ++ vs))
    → AreKeptInRunOrder (us ++ x ∷ vs) → IsSharedLog (put id_before log_id told log) (us ++ x ∷ vs)
between log told rows us vs x order is t others rest s = record { told = record { each = each; own = own }; order = s }
  where
    here : Has x (us ++ x ∷ vs)
    here = has_right x us (x ∷ vs) (inl refl)

    each : (row : LogRow) → Has row (put id_before log_id told log) → (y : KeptRow) × Has y (us ++ x ∷ vs) × IsTold row y
    each row h = go (put_has id_before log_id id_order row told log order h)
      where
        go : (row ≡ told) ⊎ (Has row log × (log_id row ≡ log_id told → ⊥)) → (y : KeptRow) × Has y (us ++ x ∷ vs) × IsTold row y
        go (inl e) = (x, here, subst (λ r. IsTold r x) (sym e) t)
        go (inr (g, differ)) =
            let (y, k, f) = is.told.each row g in
            (y, has_in y x us vs (rest y k (λ e. differ (sym (told_id row y f) ∙ e))), f)

    own : (y : KeptRow) → Has y (us ++ x ∷ vs) → (row : LogRow) × Has row (put id_before log_id told log) × IsTold row y
    own y h = go (has_out y x us vs h)
      where
        go : (y ≡ x) ⊎ Has y (us ++ vs) → (row : LogRow) × Has row (put id_before log_id told log) × IsTold row y
        go (inl e) = (told, has_put id_before log_id id_order told told log (inl refl), subst (IsTold told) (sym e) t)
        go (inr g) =
            let (there, differ) = others y g in
            let (row, k, f) = is.told.own y there in
            (row, has_put id_before log_id id_order row told log (inr (k, λ e. differ (told_id row y f ∙ e))), f)

-- a row of a write that had none
pub one_new : (log : List LogRow) (told : LogRow) (us vs : List KeptRow) (x : KeptRow) → InOrder id_before log_id log → IsSharedLog log (us ++ vs) → IsTold told x
    → ((row : LogRow) → Has row log → log_id row ≡ log_id told → ⊥)
    → ((y : KeptRow) → Has y us → Before y x) → ((y : KeptRow) → Has y vs → Before x y) → IsSharedLog (put id_before log_id told log) (us ++ x ∷ vs)
one_new log told us vs x order is t new front behind =
    between log told (us ++ vs) us vs x order is t (λ y h. (h, other y h)) (λ y h differ. h) (sorted_in Before x us vs is.order front behind)
  where
    other : (y : KeptRow) → Has y (us ++ vs) → id_of y.write ≡ log_id told → ⊥
    other y h e = let (row, k, f) = is.told.own y h in new row k (sym (told_id row y f) ∙ e)

-- a row in the place of the one that its write had
pub one_again : (log : List LogRow) (told : LogRow) (us vs : List KeptRow) (old x : KeptRow) → InOrder id_before log_id log → IsSharedLog log (us ++ old ∷ vs) → IsTold told x
    → id_of old.write ≡ log_id told
    → ((y : KeptRow) → Has y us → Before y x) → ((y : KeptRow) → Has y vs → Before x y) → IsSharedLog (put id_before log_id told log) (us ++ x ∷ vs)
one_again log told us vs old x order is t same front behind =
    let (s, before, later) = sorted_out Before old us vs is.order in
    between log told (us ++ old ∷ vs) us vs x order is t (λ y h. (has_in y old us vs h, other before later y h)) rest (sorted_in Before x us vs s front behind)
  where
    -- no other row is of the same write: it would have the same place
    place : (y : KeptRow) → Has y (us ++ old ∷ vs) → id_of y.write ≡ log_id told → run_place y ≡ run_place old
    place y h e =
        let (row, k, f) = is.told.own y h in
        let (row', k', f') = is.told.own old (has_right old us (old ∷ vs) (inl refl)) in
        let one : row ≡ row' = one_row log_id log order row row' k k' (sym (told_id row y f) ∙ e ∙ sym same ∙ told_id row' old f') in
        told_place row y f ∙ ap log_place one ∙ sym (told_place row' old f')

    other : ((y : KeptRow) → Has y us → Before y old) → ((y : KeptRow) → Has y vs → Before old y) → (y : KeptRow) → Has y (us ++ vs) → id_of y.write ≡ log_id told → ⊥
    other before later y h e = go (has_split y us vs h)
      where
        alike : run_place y ≡ run_place old
        alike = place y (has_in y old us vs h) e

        go : Has y us ⊎ Has y vs → ⊥
        go (inl g) = never (run_place old) (subst (λ p. run_before p (run_place old) ≡ true) alike (before y g))
        go (inr g) = never (run_place old) (subst (λ p. run_before (run_place old) p ≡ true) alike (later y g))

    rest : (y : KeptRow) → Has y (us ++ old ∷ vs) → (id_of y.write ≡ log_id told → ⊥) → Has y (us ++ vs)
    rest y h differ = go (has_out y old us vs h)
      where
        go : (y ≡ old) ⊎ Has y (us ++ vs) → Has y (us ++ vs)
        go (inl e) = absurd (differ (ap (λ z. id_of z.write) e ∙ same))
        go (inr g) = g

-- ---- of a replica

sorted_as : {X : Type 0} (P Q : X → X → Type 0) → ((x y : X) → P x y → Q x y) → (xs : List X) → Sorted P xs → Sorted Q xs
sorted_as P Q up [] s = tt
sorted_as P Q up (x ∷ xs) s = (has_all (Q x) xs (λ y h. up x y (all_has (P x) y xs s.0 h)), sorted_as P Q up xs s.1)

pub shared_is : (t : Tables) (a : Replica) (rows : List KeptRow) → Stands t a → IsSharedLog t.log rows → IsLogOf rows a
shared_is t a rows h is =
    sorted_same Before (λ x. never (run_place x)) (λ x y z. transitive (run_place x) (run_place y) (run_place z)) rows (map (kept_row a) (kept_in_order a)) is.order
    (sorted_as (λ x y. run_cmp (run_place x) (run_place y) ≡ Less) Before (λ x y e. ap is_lt e) (map (kept_row a) (kept_in_order a)) (rows_rise a (kept_in_order a) log.in_order))
    there back
  where
    log : KeptIsTheLog a
    log = kept_is_the_log a h.sound

    same : t.log ≡ (tables_of a).log
    same = ap (λ (u : Tables). u.log) h.are

    read : (w : Write) (row : LogRow) (x : KeptRow) → Has w (kept_in_order a) → row ≡ log_row a w → IsTold row x → x ≡ kept_row a w
    read w row x k e f = f.only w (place_of a w) (seq_of a w) (known_write a w h.sound (kept_known a w h.sound k).0) e

    there : (x : KeptRow) → Has x rows → Has x (map (kept_row a) (kept_in_order a))
    there x g =
        let (row, k, f) = is.told.own x g in
        let (w, b, e) = map_has (log_row a) row (kept_in_order a) ((log.same_rows row).0 (subst (Has row) same k)) in
        subst (λ y. Has y (map (kept_row a) (kept_in_order a))) (sym (read w row x b e f)) (has_map (kept_row a) w (kept_in_order a) b)

    back : (x : KeptRow) → Has x (map (kept_row a) (kept_in_order a)) → Has x rows
    back x g =
        let (w, b, e) = map_has (kept_row a) x (kept_in_order a) g in
        let (y, k, f) = is.told.each (log_row a w) (subst (Has (log_row a w)) (sym same) ((log.same_rows (log_row a w)).1 (has_map (log_row a) w (kept_in_order a) b))) in
        subst (λ z. Has z rows) (read w (log_row a w) y b refl f ∙ sym e) k

pub sorted_left : {X : Type 0} (lt : X → X → Type 0) (xs ys : List X) → Sorted lt (xs ++ ys) → Sorted lt xs
sorted_left lt [] ys s = tt
sorted_left lt (x ∷ xs) ys s = (has_all (lt x) xs (λ y h. all_has (lt x) y (xs ++ ys) s.0 (has_left y xs ys h)), sorted_left lt xs ys s.1)

-- ---- rows that are told

pub told_more : (logs : List LogRow) (rows : List KeptRow) (log : LogRow) (row : KeptRow) → AreTold logs rows → IsTold log row → AreTold (logs ++ log ∷ []) (rows ++ row ∷ [])
told_more logs rows log row are t =
    record {
      each = λ r h. each r (has_split r logs (log ∷ []) h);
      own = λ x h. own x (has_split x rows (row ∷ []) h);
    }
  where
    each : (r : LogRow) → Has r logs ⊎ Has r (log ∷ []) → (x : KeptRow) × Has x (rows ++ row ∷ []) × IsTold r x
    each r (inl g) = let (x, k, f) = are.each r g in (x, has_left x rows (row ∷ []) k, f)
    each r (inr (inl e)) = (row, has_right row rows (row ∷ []) (inl refl), subst (λ z. IsTold z row) (sym e) t)
    each r (inr (inr n)) = absurd n

    own : (x : KeptRow) → Has x rows ⊎ Has x (row ∷ []) → (r : LogRow) × Has r (logs ++ log ∷ []) × IsTold r x
    own x (inl g) = let (r, k, f) = are.own x g in (r, has_left r logs (log ∷ []) k, f)
    own x (inr (inl e)) = (log, has_right log logs (log ∷ []) (inl refl), subst (IsTold log) (sym e) t)
    own x (inr (inr n)) = absurd n

-- in another order they are told too
pub told_moved : (logs : List LogRow) (rows moved : List KeptRow) → IsPermutation rows moved → AreTold logs rows → AreTold logs moved
told_moved logs rows moved p are =
    record {
      each = λ r h. let (x, k, f) = are.each r h in (x, has_moved rows moved p x k, f);
      own = λ x h. are.own x (moved_has rows moved p x h);
    }

pub without_none : (log : List LogRow) → rows_without log_id [] log ≡ log
without_none [] = refl
without_none (x ∷ xs) = ap (λ rows. x ∷ rows) (without_none xs)

-- what holds of each that has the first property
pub if_some : {X : Type 0} {P Q : X → Type 0} (o : Option X) → ((x : X) → P x → Q x) → IfSome o P → IfSome o Q
if_some None up h = tt
if_some (Some x) up h = up x h

-- ---- ids that are known, of rows that are put one after the other

pub new_one : (table so_far : List LogRow) (log : LogRow) (was : Id → Bool) → ((row : LogRow) → Has row so_far → Has row table ⊎ (was (log_id row) ≡ true))
    → ((row : LogRow) → Has row table → log_id row ≡ log_id log → ⊥) × (was (log_id log) ≡ false) → (one : LogRow) → Has one so_far → log_id one ≡ log_id log → ⊥
new_one table so_far log was known new one h e = go (known one h)
  where
    go : Has one table ⊎ (was (log_id one) ≡ true) → ⊥
    go (inl g) = new.0 one g e
    go (inr t) = true≢false (sym t ∙ ap was e ∙ new.1)

pub known_more : (table so_far : List LogRow) (log one : LogRow) (was is : Id → Bool) → ((i : Id) → is i ≡ (same_id (log_id log) i || was i))
    → ((row : LogRow) → Has row so_far → Has row table ⊎ (was (log_id row) ≡ true)) → (one ≡ log) ⊎ (Has one so_far × (log_id one ≡ log_id log → ⊥)) → Has one table ⊎ (is (log_id one) ≡ true)
known_more table so_far log one was is more known (inl e) =
    inr (more (log_id one) ∙ or_left (same_id (log_id log) (log_id one)) (was (log_id one)) (same_id_from (log_id log) (log_id one) (ap log_id (sym e))))
known_more table so_far log one was is more known (inr p) = go (known one p.0)
  where
    go : Has one table ⊎ (was (log_id one) ≡ true) → Has one table ⊎ (is (log_id one) ≡ true)
    go (inl g) = inl g
    go (inr t) = inr (more (log_id one) ∙ or_right (same_id (log_id log) (log_id one)) (was (log_id one)) t)
