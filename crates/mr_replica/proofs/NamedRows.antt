-- Rows that a batch names are put beside those that are there, one item after the other.
use Rattle.std.proofs.Common.{◌≡◌, ℕ, ◌==◌, Bool, true, false, not, ◌&&◌, ◌||◌, List, [], ◌∷◌, ◌++◌, map, ◌⊎◌, inl, inr, refl, sym, ap, subst, ◌∙◌}
use Rattle.std.proofs.lemmas.Bool.{or_cases, or_left, or_right}
use Rattle.std.specs.List.{filter, list_any}
use Rattle.mr_model.specs.Dropped.{Has}
use Rattle.mr_model.specs.Exchange.{Item, W, C}
use Rattle.mr_model.specs.Queries.{log_id}
use Rattle.mr_model.specs.Replica.{is_among}
use Rattle.mr_model.specs.Scopes.{has_number, is_named, is_tentative, item_id}
use Rattle.mr_model.specs.Tables.{LogRow}
use Rattle.mr_model.specs.Writes.{Id, Write, id_of, same_id}
use Rattle.mr_model.proofs.Members.{filter_has, has_filter, has_left, has_right, has_split, sorted_filter}
use Rattle.mr_tables.specs.Change.{id_before, put_all}
use Rattle.mr_tables.specs.TableOrders.{InOrder, id_order}
use Rattle.mr_tables.proofs.Putting.{puts_make}
use Rattle.mr_replica.specs.declared.row_key.RowKey.{RowKey}
use Rattle.mr_replica.specs.RowKeys.{is_between, log_key, number_end, AreBetween, AreThose}
use Rattle.mr_replica.proofs.LogEnds.{number_between}

-- those that pass are put beside others
pub puts_those : {R : Type 0} (id : R → Id) (p q : R → Bool) (all xs : List R) → InOrder id_before id all → AreThose q all xs → put_all id_before id xs (filter p all) ≡ filter (λ r. p r || q r) all
puts_those {R} id p q all xs order those =
    puts_make id_before id id_order xs (filter p all) (filter (λ r. p r || q r) all)
    (sorted_filter (λ a b. id_before (id a) (id b) ≡ true) p all order)
    (sorted_filter (λ a b. id_before (id a) (id b) ≡ true) (λ r. p r || q r) all order)
    (λ r h. let (there, passes) = those.0 r h in has_filter (λ r. p r || q r) r all (or_right (p r) (q r) passes) there)
    (λ r h lacks. let (there, passes) = filter_has p r all h in has_filter (λ r. p r || q r) r all (or_left (p r) (q r) passes) there)
    (λ r h. let (there, passes) = filter_has (λ r. p r || q r) r all h in from r there (or_cases (p r) (q r) passes))
  where
    from : (r : R) → Has r all → (p r ≡ true) ⊎ (q r ≡ true) → Has r xs ⊎ Has r (filter p all)
    from r h (inl e) = inr (has_filter p r all e h)
    from r h (inr e) = inl (those.1 r h e)

pub none_picked : {R : Type 0} (rows : List R) → filter (λ r. false) rows ≡ []
none_picked [] = refl
none_picked (x ∷ rows) = none_picked rows

-- where none are
pub puts_first : {R : Type 0} (id : R → Id) (q : R → Bool) (all xs : List R) → InOrder id_before id all → AreThose q all xs → put_all id_before id xs [] ≡ filter q all
puts_first id q all xs order those = ap (put_all id_before id xs) (sym (none_picked all)) ∙ puts_those id (λ r. false) q all xs order those

-- those of two lists
pub those_both : {R : Type 0} (p q : R → Bool) (all xs ys : List R) → AreThose p all xs → AreThose q all ys → AreThose (λ r. p r || q r) all (xs ++ ys)
those_both {R} p q all xs ys a b = (λ r h. own r (has_split r xs ys h), λ r h passes. each r h (or_cases (p r) (q r) passes))
  where
    own : (r : R) → Has r xs ⊎ Has r ys → Has r all × ((p r || q r) ≡ true)
    own r (inl g) = let (there, passes) = a.0 r g in (there, or_left (p r) (q r) passes)
    own r (inr g) = let (there, passes) = b.0 r g in (there, or_right (p r) (q r) passes)

    each : (r : R) → Has r all → (p r ≡ true) ⊎ (q r ≡ true) → Has r (xs ++ ys)
    each r h (inl passes) = has_left r xs ys (a.1 r h passes)
    each r h (inr passes) = has_right r xs ys (b.1 r h passes)

pub those_same : {R : Type 0} (p q : R → Bool) (all xs : List R) → ((r : R) → p r ≡ q r) → AreThose p all xs → AreThose q all xs
those_same p q all xs same = subst (λ f. AreThose f all xs) (λ t r. same r t)

pub those_picked : {R : Type 0} (p : R → Bool) (all : List R) → AreThose p all (filter p all)
those_picked p all = (λ r h. filter_has p r all h, λ r h passes. has_filter p r all passes h)

pub those_between : {R : Type 0} (key : R → RowKey) (first last : RowKey) (all rows : List R) → AreBetween key first last all rows → AreThose (λ r. is_between first last (key r)) all rows
those_between key first last all rows found = (found.own, found.each)

-- ---- an item

write_alone : (s t : Bool) → ((s || false) || (t && false)) ≡ s
write_alone true t = refl
write_alone false true = refl
write_alone false false = refl

commit_alone : (s t n : Bool) → ((s || false) || (t && (n || false))) ≡ ((t && n) || s)
commit_alone true true true = refl
commit_alone true true false = refl
commit_alone true false n = refl
commit_alone false true true = refl
commit_alone false true false = refl
commit_alone false false n = refl

-- the row of a write
pub write_those : (w : Write) (i : Id) (all : List LogRow) → i ≡ id_of w → AreThose (is_named (W w ∷ [])) all (filter (λ r. same_id (log_id r) i) all)
write_those w i all is =
    those_same (λ r. same_id (log_id r) i) (is_named (W w ∷ [])) all (filter (λ r. same_id (log_id r) i) all)
    (λ r. sym (write_alone (same_id (log_id r) (id_of w)) (not (is_tentative r)) ∙ ap (same_id (log_id r)) (sym is)))
    (those_picked (λ r. same_id (log_id r) i) all)

-- the rows of a commit
pub commit_those : (seq : ℕ) (id : Id) (all rows : List LogRow) → AreBetween log_key (number_end 0 seq) (number_end 2 seq) all rows
    → AreThose (is_named (C seq id ∷ [])) all (rows ++ filter (λ r. same_id (log_id r) id) all)
commit_those seq id all rows found =
    those_same (λ r. is_between (number_end 0 seq) (number_end 2 seq) (log_key r) || same_id (log_id r) id) (is_named (C seq id ∷ [])) all (rows ++ filter (λ r. same_id (log_id r) id) all)
    (λ r. sym (commit_alone (same_id (log_id r) id) (not (is_tentative r)) (seq == r.seq) ∙ ap (λ b. b || same_id (log_id r) id) (sym (number_between seq r))))
    (those_both (λ r. is_between (number_end 0 seq) (number_end 2 seq) (log_key r)) (λ r. same_id (log_id r) id) all rows (filter (λ r. same_id (log_id r) id) all)
    (those_between log_key (number_end 0 seq) (number_end 2 seq) all rows found) (those_picked (λ r. same_id (log_id r) id) all))

-- ---- all items

cons_named : (a more t n ns : Bool) → ((a || more) || (t && (n || ns))) ≡ (((a || false) || (t && (n || false))) || (more || (t && ns)))
cons_named true more t n ns = refl
cons_named false true true true ns = refl
cons_named false true true false ns = refl
cons_named false true false n ns = refl
cons_named false false true true ns = refl
cons_named false false true false ns = refl
cons_named false false false n ns = refl

-- one after the other
pub named_next : (p : Bool) (x : Item) (items : List Item) (r : LogRow) → ((p || is_named (x ∷ []) r) || is_named items r) ≡ (p || is_named (x ∷ items) r)
named_next true x items r = refl
named_next false x items r = sym (cons_named (same_id (log_id r) (item_id x)) (is_among (log_id r) (map item_id items)) (not (is_tentative r)) (has_number r.seq x) (list_any (has_number r.seq) items))

pub none_named : (p : Bool) (r : LogRow) → (p || is_named [] r) ≡ p
none_named true r = refl
none_named false r = go (not (is_tentative r))
  where
    go : (b : Bool) → (b && false) ≡ false
    go true = refl
    go false = refl
