-- The notes of all tables are in turn by pairs where those of each table rise, and each of a table fits among those of another.
use Rattle.std.proofs.Common.{◌≡◌, refl, sym, ap, ◌∙◌, subst, suc, ◌+◌, ◌<◌, Bool, true, false, cond, ◌&&◌, ◌||◌, List, [], ◌∷◌, ◌++◌, length, map, ◌⊎◌, inl, inr, arith, add-one, slice_index_or}
use Rattle.std.proofs.lemmas.Bool.{and_parts, and_from}
use Rattle.std.specs.List.{list_all, AllByRecursion}
use Rattle.mr_model.specs.Dropped.{Has}
use Rattle.mr_model.specs.Writes.{same_id}
use Rattle.mr_model.specs.Tables.{Tables}
use Rattle.mr_model.proofs.Members.{has_left, has_right, has_split, map_has, has_map, all_has, has_all}
use Rattle.mr_tables.specs.Change.{id_before}
use Rattle.mr_tables.specs.Rise.{Rise}
use Rattle.mr_tables.specs.TableOrders.{InOrder, id_before-true}
use Rattle.mr_agree.specs.Agreeing.{Note, log_note, error_note, cancel_note, notes, do_two_agree}
use Rattle.mr_agree.proofs.AgreeCounts.{all_true}
use Rattle.mr_audit.specs.KeyOrders.{AreByRisingId}
use Rattle.mr_audit.specs.Turns.{comes_before, are_in_turn, are_two_in_turn, are_all_in_turn, AreChains, AreInTurn, are_fitting, are_tables_fitting}
use Rattle.mr_audit.specs.Apart.{do_numbers_differ, are_numbers_single}
use Rattle.mr_audit.proofs.IdsApart.{and-true, crossed}
use Rattle.mr_audit.proofs.NotesInTurn.{later-true, later_from, later_trans, later_of_turn, turn_of_later, turn_self, sorted_at}
use Rattle.mr_model.proofs.MembersAlike.{bool_same}

-- ---- one table

-- rows of which each comes before the next
pub chain_in_order : {R : Type 0} (note : R → Note) (rows : List R) → Rise comes_before note rows → InOrder comes_before note rows
chain_in_order note [] rise = tt
chain_in_order {R} note (x ∷ rows) rise =
    let later = chain_in_order note rows
    (λ k d l. subst (λ j. comes_before (note (slice_index_or rows k d)) (note (slice_index_or rows j d)) ≡ true) (sym (add-one k))
    (subst (λ j. comes_before (note (slice_index_or rows k d)) (note (slice_index_or (x ∷ rows) j d)) ≡ true) (add-one (suc k)) (rise (suc k) d (omega (arith, l)))))
    in
    (first rows (rise 0 x) later, later)
  where
    first : (ys : List R) → (0 + 1 < length (x ∷ ys) → comes_before (note x) (note (slice_index_or (x ∷ ys) 1 x)) ≡ true)
        → InOrder comes_before note ys → AllByRecursion (λ y. comes_before (note x) (note y) ≡ true) ys
    first [] b s = tt
    first (y ∷ ys) b s =
        let l = b (omega arith) in (
          l,
          has_all (λ z. comes_before (note x) (note z) ≡ true) ys
              (λ z h. later_from (note x) (note z)
              (later_trans (note x) (note y) (note z) (later-true (note x) (note y) l) (later-true (note y) (note z) (all_has (λ u. comes_before (note y) (note u) ≡ true) z ys s.0 h)))),
        )

pub in_order_chain : {R : Type 0} (note : R → Note) (rows : List R) → InOrder comes_before note rows → Rise comes_before note rows
in_order_chain note rows s = λ k d l. sorted_at comes_before note rows s k (k + 1) d (omega arith) l

-- rows by rising id that are in turn by pairs
pub turn_in_order : {R : Type 0} (note : R → Note) (rows : List R) → InOrder id_before (λ r. (note r).id) rows
    → ((x y : R) → Has x rows → Has y rows → are_in_turn (note x) (note y) ≡ true) → InOrder comes_before note rows
turn_in_order note [] s f = tt
turn_in_order note (x ∷ rows) s f = (
  has_all (λ y. comes_before (note x) (note y) ≡ true) rows
      (λ y h. later_from (note x) (note y)
      (later_of_turn (note x) (note y) (id_before-true (note x).id (note y).id (all_has (λ u. id_before (note x).id (note u).id ≡ true) y rows s.0 h)) (f x y (inl refl) (inr h)))),
  turn_in_order note rows s.1 (λ u v h k. f u v (inr h) (inr k)),
)

two_in_order : {R : Type 0} (note : R → Note) (x y : R) (rows : List R) → InOrder comes_before note rows → Has x rows
    → Has y rows → (x ≡ y) ⊎ ((comes_before (note x) (note y) ≡ true) ⊎ (comes_before (note y) (note x) ≡ true))
two_in_order note x y [] s h k = absurd h
two_in_order note x y (z ∷ zs) s (inl p) (inl q) = inl (p ∙ sym q)
two_in_order note x y (z ∷ zs) s (inl p) (inr k) =
    inr (inl (subst (λ u. comes_before (note u) (note y) ≡ true) (sym p) (all_has (λ u. comes_before (note z) (note u) ≡ true) y zs s.0 k)))
two_in_order note x y (z ∷ zs) s (inr h) (inl q) =
    inr (inr (subst (λ u. comes_before (note u) (note x) ≡ true) (sym q) (all_has (λ u. comes_before (note z) (note u) ≡ true) x zs s.0 h)))
two_in_order note x y (z ∷ zs) s (inr h) (inr k) = two_in_order note x y zs s.1 h k

-- ---- notes of two lists, in turn in both orders

abbrev Turned : List Note → List Note → Type 0
Turned xs ys = (a b : Note) → Has a xs → Has b ys → (are_in_turn a b ≡ true) × (are_in_turn b a ≡ true)

swapped : (xs ys : List Note) → Turned xs ys → Turned ys xs
swapped xs ys f a b h k = let p = f b a k h in (p.1, p.0)

joined : (xs ys zs : List Note) → Turned xs ys → Turned xs zs → Turned xs (ys ++ zs)
joined xs ys zs f g a b h k = go (has_split b ys zs k)
  where
    go : Has b ys ⊎ Has b zs → (are_in_turn a b ≡ true) × (are_in_turn b a ≡ true)
    go (inl p) = f a b h p
    go (inr p) = g a b h p

own_turned : {R : Type 0} (note : R → Note) (rows : List R) → InOrder comes_before note rows → Turned (map note rows) (map note rows)
own_turned {R} note rows s a b h k =
    let (x, p, e) = map_has note a rows h in
    let (y, q, f) = map_has note b rows k in
    let t = go x y (two_in_order note x y rows s p q) in
    ((λ i. are_in_turn (e i) (f i)) ∙ t.0, (λ i. are_in_turn (f i) (e i)) ∙ t.1)
  where
    go : (x y : R) → (x ≡ y) ⊎ ((comes_before (note x) (note y) ≡ true) ⊎ (comes_before (note y) (note x) ≡ true)) → (are_in_turn (note x) (note y) ≡ true) × (are_in_turn (note y) (note x) ≡ true)
    go x y (inl e) = ((λ i. are_in_turn (note x) (note (sym e i))) ∙ turn_self (note x), (λ i. are_in_turn (note (sym e i)) (note x)) ∙ turn_self (note x))
    go x y (inr (inl l)) = turn_of_later (note x) (note y) (later-true (note x) (note y) l)
    go x y (inr (inr l)) = let t = turn_of_later (note y) (note x) (later-true (note y) (note x) l) in (t.1, t.0)

true_at : {A : Type 0} (p : A → Bool) (xs : List A) → list_all p xs ≡ true → (x : A) → Has x xs → p x ≡ true
true_at p [] t x h = absurd h
true_at p (y ∷ ys) t x (inl e) = ap p e ∙ (and_parts (p y) (list_all p ys) t).0
true_at p (y ∷ ys) t x (inr h) = true_at p ys (and_parts (p y) (list_all p ys) t).1 x h

fit_turned : {R S : Type 0} (f : R → Note) (g : S → Note) (rows : List R) (others : List S) → are_fitting f g rows others ≡ true → Turned (map f rows) (map g others)
fit_turned f g rows others t a b h k =
    let (x, p, e) = map_has f a rows h in
    let (y, q, d) = map_has g b others k in
    let two = true_at (λ other. are_two_in_turn (f x) (g other)) others (true_at (λ row. list_all (λ other. are_two_in_turn (f row) (g other)) others) rows t x p) y q in
    let both = and_parts (are_in_turn (f x) (g y)) (are_in_turn (g y) (f x)) two in
    ((λ i. are_in_turn (e i) (d i)) ∙ both.0, (λ i. are_in_turn (d i) (e i)) ∙ both.1)

turned_fit : {R S : Type 0} (f : R → Note) (g : S → Note) (rows : List R) (others : List S) → Turned (map f rows) (map g others) → are_fitting f g rows others ≡ true
turned_fit f g rows others t =
    all_true (λ row. list_all (λ other. are_two_in_turn (f row) (g other)) others) rows
    (λ x h. all_true (λ other. are_two_in_turn (f x) (g other)) others
    (λ y k. let p = t (f x) (g y) (has_map f x rows h) (has_map g y others k) in and_from (are_in_turn (f x) (g y)) (are_in_turn (g y) (f x)) p.0 p.1))

turned_all : (ns : List Note) → Turned ns ns → list_all (λ a. list_all (are_in_turn a) ns) ns ≡ true
turned_all ns f = all_true (λ a. list_all (are_in_turn a) ns) ns (λ a h. all_true (are_in_turn a) ns (λ b k. (f a b h k).0))

all_turned : (ns : List Note) → list_all (λ a. list_all (are_in_turn a) ns) ns ≡ true → (a b : Note) → Has a ns → Has b ns → are_in_turn a b ≡ true
all_turned ns t a b h k = true_at (are_in_turn a) ns (true_at (λ x. list_all (are_in_turn x) ns) ns t a h) b k

-- ---- the three tables

module _ (t : Tables) where
  in_log : (a : Note) → Has a (map log_note t.log) → Has a (notes t)
  in_log a h = has_left a (map log_note t.log) (map error_note t.errorlog ++ map cancel_note t.cancels) h

  in_errors : (a : Note) → Has a (map error_note t.errorlog) → Has a (notes t)
  in_errors a h = has_right a (map log_note t.log) (map error_note t.errorlog ++ map cancel_note t.cancels) (has_left a (map error_note t.errorlog) (map cancel_note t.cancels) h)

  in_cancels : (a : Note) → Has a (map cancel_note t.cancels) → Has a (notes t)
  in_cancels a h = has_right a (map log_note t.log) (map error_note t.errorlog ++ map cancel_note t.cancels) (has_right a (map error_note t.errorlog) (map cancel_note t.cancels) h)

  pub chains_in_order : AreChains t → AreInTurn t
  chains_in_order h = record {
    log = chain_in_order log_note t.log h.log;
    errorlog = chain_in_order error_note t.errorlog h.errorlog;
    cancels = chain_in_order cancel_note t.cancels h.cancels;
  }

  pub turn_chains : AreByRisingId t → are_all_in_turn t ≡ true → AreChains t
  turn_chains o all = record {
    log = in_order_chain log_note t.log (turn_in_order log_note t.log o.log
        (λ x y h k. all_turned (notes t) all (log_note x) (log_note y) (in_log (log_note x) (has_map log_note x t.log h)) (in_log (log_note y) (has_map log_note y t.log k))));
    errorlog = in_order_chain error_note t.errorlog (turn_in_order error_note t.errorlog o.errorlog (λ x y h k. all_turned (notes t) all (error_note x)
        (error_note y) (in_errors (error_note x) (has_map error_note x t.errorlog h)) (in_errors (error_note y) (has_map error_note y t.errorlog k))));
    cancels = in_order_chain cancel_note t.cancels (turn_in_order cancel_note t.cancels o.cancels (λ x y h k. all_turned (notes t) all (cancel_note x)
        (cancel_note y) (in_cancels (cancel_note x) (has_map cancel_note x t.cancels h)) (in_cancels (cancel_note y) (has_map cancel_note y t.cancels k))));
  }

  pub tables_fitting : AreInTurn t → are_tables_fitting t ≡ are_all_in_turn t
  tables_fitting o = bool_same (are_tables_fitting t) (are_all_in_turn t) there back
    where
      there : are_tables_fitting t ≡ true → are_all_in_turn t ≡ true
      there h =
          let l = map log_note t.log in
          let e = map error_note t.errorlog in
          let c = map cancel_note t.cancels in
          let p = and_parts (are_fitting error_note log_note t.errorlog t.log) (are_fitting cancel_note log_note t.cancels t.log && are_fitting cancel_note error_note t.cancels t.errorlog) h in
          let q = and_parts (are_fitting cancel_note log_note t.cancels t.log) (are_fitting cancel_note error_note t.cancels t.errorlog) p.1 in
          let el = fit_turned error_note log_note t.errorlog t.log p.0 in
          let cl = fit_turned cancel_note log_note t.cancels t.log q.0 in
          let ce = fit_turned cancel_note error_note t.cancels t.errorlog q.1 in
          let of_log = joined l l (e ++ c) (own_turned log_note t.log o.log) (joined l e c (swapped e l el) (swapped c l cl)) in
          let of_errors = joined e l (e ++ c) el (joined e e c (own_turned error_note t.errorlog o.errorlog) (swapped c e ce)) in
          let of_cancels = joined c l (e ++ c) cl (joined c e c ce (own_turned cancel_note t.cancels o.cancels)) in
          let n = notes t in
          turned_all n (joined n l (e ++ c) (swapped l n of_log) (joined n e c (swapped e n of_errors) (swapped c n of_cancels)))

      back : are_all_in_turn t ≡ true → are_tables_fitting t ≡ true
      back h =
          let all = all_turned (notes t) h in
          and_from (are_fitting error_note log_note t.errorlog t.log) (are_fitting cancel_note log_note t.cancels t.log && are_fitting cancel_note error_note t.cancels t.errorlog)
          (turned_fit error_note log_note t.errorlog t.log (λ a b p q. (all a b (in_errors a p) (in_log b q), all b a (in_log b q) (in_errors a p))))
          (and_from (are_fitting cancel_note log_note t.cancels t.log) (are_fitting cancel_note error_note t.cancels t.errorlog)
          (turned_fit cancel_note log_note t.cancels t.log (λ a b p q. (all a b (in_cancels a p) (in_log b q), all b a (in_log b q) (in_cancels a p))))
          (turned_fit cancel_note error_note t.cancels t.errorlog (λ a b p q. (all a b (in_cancels a p) (in_errors b q), all b a (in_errors b q) (in_cancels a p)))))

-- ---- the test of two notes is that of their turn and that of their numbers

parted_test : (same x n o : Bool) → cond same x (n && o) ≡ (cond same x o && (same || n))
parted_test true x n o = sym (and-true x)
parted_test false x true true = refl
parted_test false x true false = refl
parted_test false x false true = refl
parted_test false x false false = refl

all_both : {A : Type 0} (p q : A → Bool) (xs : List A) → list_all (λ x. p x && q x) xs ≡ (list_all p xs && list_all q xs)
all_both p q [] = refl
all_both p q (x ∷ xs) = ap (λ b. (p x && q x) && b) (all_both p q xs) ∙ crossed (p x) (q x) (list_all p xs) (list_all q xs)

two_agree : (a b : Note) → do_two_agree a b ≡ (are_in_turn a b && do_numbers_differ a b)
two_agree a b = parted_test (same_id a.id b.id) _ _ _

pub all_two : (t : Tables) → list_all (λ a. list_all (do_two_agree a) (notes t)) (notes t) ≡ (are_all_in_turn t && are_numbers_single t)
all_two t =
    let n = notes t in
    (λ i. list_all (λ a. list_all (λ b. two_agree a b i) n) n) ∙ (λ i. list_all (λ a. all_both (are_in_turn a) (do_numbers_differ a) n i) n)
    ∙ all_both (λ a. list_all (are_in_turn a) n) (λ a. list_all (do_numbers_differ a) n) n
