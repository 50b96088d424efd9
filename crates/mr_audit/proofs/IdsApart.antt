-- Rows of several tables with different ids, from tests of two tables each.
use Rattle.std.proofs.Common.{◌≡◌, refl, sym, ap, ◌∙◌, subst, Bool, true, false, not, ◌||◌, ◌&&◌, List, [], ◌∷◌, ◌++◌, map}
use Rattle.std.proofs.lemmas.Bool.{and_from}
use Rattle.mr_model.specs.Tables.{Tables}
use Rattle.mr_model.specs.Writes.{Id, same_id}
use Rattle.mr_model.specs.Replica.{is_among}
use Rattle.mr_model.specs.Queries.{booking_id, error_id, cancelled_id, cancel_id}
use Rattle.mr_model.proofs.Members.{all_has, map_has, not_among}
use Rattle.mr_tables.specs.Change.{id_before}
use Rattle.mr_tables.specs.TableOrders.{InOrder, id_order}
use Rattle.mr_agree.specs.Agreeing.{row_ids, are_distinct}
use Rattle.mr_audit.specs.KeyOrders.{AreByRisingId}
use Rattle.mr_audit.specs.SideBySide.{are_apart, are_tables_apart, is_placed}

-- ---- tests

pub and_assoc : (a b c : Bool) → ((a && b) && c) ≡ (a && (b && c))
and_assoc true b c = refl
and_assoc false b c = refl

pub and-true : (a : Bool) → (a && true) ≡ a
and-true true = refl
and-true false = refl

-- the order of two conditions in the middle
pub crossed : (a b c d : Bool) → ((a && b) && (c && d)) ≡ ((a && c) && (b && d))
crossed true true c d = refl
crossed true false true d = refl
crossed true false false d = refl
crossed false b c d = refl

neither : (a b : Bool) → not (a || b) ≡ (not a && not b)
neither true b = refl
neither false b = refl

-- ---- ids in several tables

pub among_append : (x : Id) (xs ys : List Id) → is_among x (xs ++ ys) ≡ (is_among x xs || is_among x ys)
among_append x [] ys = refl
among_append x (y ∷ xs) ys = go (same_id x y) (among_append x xs ys)
  where
    go : (b : Bool) → is_among x (xs ++ ys) ≡ (is_among x xs || is_among x ys) → (b || is_among x (xs ++ ys)) ≡ ((b || is_among x xs) || is_among x ys)
    go true e = refl
    go false e = e

pub apart_append : (xs ys zs : List Id) → are_apart xs (ys ++ zs) ≡ (are_apart xs ys && are_apart xs zs)
apart_append [] ys zs = refl
apart_append (x ∷ xs) ys zs =
    ap (λ b. not b && are_apart xs (ys ++ zs)) (among_append x ys zs)
    ∙ ap (λ b. not (is_among x ys || is_among x zs) && b) (apart_append xs ys zs)
    ∙ ap (λ b. b && (are_apart xs ys && are_apart xs zs)) (neither (is_among x ys) (is_among x zs))
    ∙ crossed (not (is_among x ys)) (not (is_among x zs)) (are_apart xs ys) (are_apart xs zs)

-- of two lists of different ids
pub distinct_append : (xs ys : List Id) → are_distinct xs ≡ true → are_distinct (xs ++ ys) ≡ (are_apart xs ys && are_distinct ys)
distinct_append [] ys d = refl
distinct_append (x ∷ xs) ys d =
    let p = Rattle.std.proofs.lemmas.Bool.and_parts (not (is_among x xs)) (are_distinct xs) d in
    let gone : is_among x xs ≡ false = Rattle.std.proofs.lemmas.Bool.not-true (is_among x xs) p.0 in
    ap (λ b. not b && are_distinct (xs ++ ys)) (among_append x xs ys ∙ ap (λ b. b || is_among x ys) gone)
    ∙ ap (λ b. not (is_among x ys) && b) (distinct_append xs ys p.1)
    ∙ sym (and_assoc (not (is_among x ys)) (are_apart xs ys) (are_distinct ys))

-- rows that rise by id have different ids
pub rising_distinct : {R : Type 0} (key : R → Id) (rows : List R) → InOrder id_before key rows → are_distinct (map key rows) ≡ true
rising_distinct key [] s = refl
rising_distinct key (x ∷ rows) s =
    and_from (not (is_among (key x) (map key rows))) (are_distinct (map key rows))
    (ap not (not_among (key x) (map key rows)
    (λ h. let (y, g, e) = map_has key (key x) rows h in
    id_order.irreflexive (key x) (subst (λ i. id_before (key x) i ≡ true) (sym e) (all_has (λ u. id_before (key x) (key u) ≡ true) y rows s.0 g)))))
    (rising_distinct key rows s.1)

-- ---- the four tables

pub tables_apart : (t : Tables) → AreByRisingId t → are_tables_apart t ≡ are_distinct (row_ids t)
tables_apart t o =
    let b = map booking_id t.booking in
    let e = map error_id t.errorlog in
    let g = map cancelled_id t.cancelled in
    let c = map cancel_id t.cancels in
    sym (distinct_append b (e ++ (g ++ c)) (rising_distinct booking_id t.booking o.booking)
    ∙ ap (λ v. v && are_distinct (e ++ (g ++ c))) (apart_append b e (g ++ c) ∙ ap (λ v. are_apart b e && v) (apart_append b g c))
    ∙ ap (λ v. (are_apart b e && (are_apart b g && are_apart b c)) && v)
    (distinct_append e (g ++ c) (rising_distinct error_id t.errorlog o.errorlog)
    ∙ ap (λ v. v && are_distinct (g ++ c)) (apart_append e g c)
    ∙ ap (λ v. (are_apart e g && are_apart e c) && v)
    (distinct_append g c (rising_distinct cancelled_id t.cancelled o.cancelled)
    ∙ ap (λ v. are_apart g c && v) (rising_distinct cancel_id t.cancels o.cancels) ∙ and-true (are_apart g c))))

pub placed_among : (t : Tables) (id : Id) → is_placed id t ≡ is_among id (row_ids t)
placed_among t id =
    let b = map booking_id t.booking in
    let e = map error_id t.errorlog in
    let g = map cancelled_id t.cancelled in
    let c = map cancel_id t.cancels in
    sym (among_append id b (e ++ (g ++ c))
    ∙ ap (λ v. is_among id b || v) (among_append id e (g ++ c) ∙ ap (λ v. is_among id e || v) (among_append id g c)))
