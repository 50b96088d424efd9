-- Rows in the order of their ids, put into a map and their keys into a set at once.
use Rattle.std.proofs.Common.{◌≡◌, refl, sym, ap, ◌∙◌, subst, cond, T, ◌&&◌, List, [], ◌∷◌, map, Some}
use Rattle.std.specs.BTreeMap.{BTreeMap, IsFromIterResult}
use Rattle.std.specs.BTreeSet.{BTreeSet}
use Rattle.std.specs.BTreeSet.{IsFromIterResult as IsSetFromIterResult}
use Rattle.std.specs.FinMap.Entries.{find, is_sorted, below_all, same_entries}
use Rattle.std.specs.List.{AllByRecursion}
use Rattle.std.specs.List.Sorted.{IsStrictlySortedBy}
use Rattle.std.specs.Map.{keys_of, values_of, lookup}
use Rattle.std.specs.Ordering.{is_eq, is_lt}
use Rattle.std.specs.declared.cmp.Ordering.TheVariants.{Less}
use Rattle.std.proofs.lemmas.Map.Keys.{IsDistinct-from_sorted}
use Rattle.std.proofs.lemmas.Map.Made.{update_all_none}
use Rattle.mr_model.specs.Writes.{Id}
use Rattle.mr_model.proofs.Members.{Sorted, any_has, has_map}
use Rattle.mr_base.specs.Ids.{id_cmp}
use Rattle.mr_replay.proofs.IdKeys.{at, at_equivalence, exact_ids, ids_total}
use Rattle.mr_tables.specs.Change.{id_before}
use Rattle.mr_tables.specs.TableOrders.{InOrder}
use Rattle.mr_replica.specs.declared.row_key.RowKey.{RowKey}
use Rattle.mr_replica.specs.RowKeys.{row_key_cmp, AreRowsIndexed, IsTable}
use Rattle.mr_replica.proofs.ByKeys.{at_itself}
use Rattle.mr_replica.proofs.LogEnds.{rises}
use Rattle.mr_replay.proofs.OneBoard.{both_hold}

module _ {R : Type 0} where
  below : (k : Id) (es : List (Id × R)) → AllByRecursion (λ y. id_cmp k y ≡ Less) (keys_of es) → T (below_all id_cmp k es)
  below k [] h = tt
  below k (e ∷ es) h = subst (λ o. T (is_lt o && below_all id_cmp k es)) (sym h.0) (below k es h.1)

  sorted_test : (es : List (Id × R)) → IsStrictlySortedBy id_cmp (keys_of es) → T (is_sorted id_cmp es)
  unfolding IsStrictlySortedBy
  sorted_test [] h = tt
  sorted_test (e ∷ es) h = both_hold (below_all id_cmp e.0 es) (is_sorted id_cmp es) (below e.0 es h.0) (sorted_test es h.1)

  find_at : (es : List (Id × R)) (q : Id) → find id_cmp q es ≡ lookup (at q) es
  find_at [] q = refl
  find_at (e ∷ es) q = ap (cond (at q e.0) (Some e.1)) (find_at es q)

module _ {R : Type 0} (id : R → Id) where
  abbrev pub paired : R → Id × R
  paired r = (id r, r)

  less_all : (i : Id) (rows : List R) → AllByRecursion (λ r. id_cmp i (id r) ≡ Less) rows → AllByRecursion (λ j. id_cmp i j ≡ Less) (keys_of (map paired rows))
  less_all i [] h = tt
  less_all i (x ∷ rows) h = (h.0, less_all i rows h.1)

  keys_rise : (rows : List R) → Sorted (λ x y. id_cmp (id x) (id y) ≡ Less) rows → IsStrictlySortedBy id_cmp (keys_of (map paired rows))
  unfolding IsStrictlySortedBy
  keys_rise [] s = tt
  keys_rise (x ∷ rows) s = (less_all (id x) rows s.0, keys_rise rows s.1)

  values : (rows : List R) → values_of (map paired rows) ≡ rows
  values [] = refl
  values (x ∷ rows) = ap (λ ys. x ∷ ys) (values rows)

  own_keys : (rows : List R) → AllByRecursion (λ e. e.0 ≡ id e.1) (map paired rows)
  own_keys [] = tt
  own_keys (x ∷ rows) = (refl, own_keys rows)

  -- the entries are the rows under their ids
  made : (rows : List R) (m : BTreeMap Id R) → InOrder id_before id rows → IsFromIterResult id_cmp (map paired rows) m → m.entries ≡ map paired rows
  made rows m order all =
      let sorted = keys_rise rows (rises id rows order) in
      same_entries id_cmp ids_total exact_ids m.entries (map paired rows) (sorted_test m.entries all.1) (sorted_test (map paired rows) sorted)
      (λ q. find_at m.entries q ∙ all.0 q ∙ update_all_none at_equivalence at (λ x y. refl) (map paired rows) q (IsDistinct-from_sorted id_cmp (keys_of (map paired rows)) sorted)
      ∙ sym (find_at (map paired rows) q))

  pub made_rows : (rows : List R) (m : BTreeMap Id R) → InOrder id_before id rows → IsFromIterResult id_cmp (map paired rows) m → values_of m.entries ≡ rows
  made_rows rows m order all = ap values_of (made rows m order all) ∙ values rows

  pub made_table : (key : R → RowKey) (rows : List R) (m : BTreeMap Id R) (keys : BTreeSet RowKey) → InOrder id_before id rows
      → IsFromIterResult id_cmp (map paired rows) m → IsSetFromIterResult row_key_cmp (map key rows) keys → IsTable id key m.entries keys
  made_table key rows m keys order all noted =
      subst (λ es. IsTable id key es keys) (sym (made rows m order all)) (record {
        keyed = record { keys = own_keys rows; order = subst (InOrder id_before id) (sym (values rows)) order };
        index = subst (λ rs. AreRowsIndexed id key rs keys) (sym (values rows)) (record {
          order = order;
          noted = λ r h. noted.0 (key r) ∙ any_has (λ k. is_eq (row_key_cmp (key r) k)) (key r) (map key rows) (ap is_eq (at_itself (key r))) (has_map key r rows h);
        });
      })
