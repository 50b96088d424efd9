-- A test that one row alone can pass: that of the id which it asks for.
use Rattle.std.proofs.Common.{◌≡◌, refl, sym, ap, ◌∙◌, subst, Bool, true, false, not, ◌&&◌, ◌||◌, List, map}
use Rattle.std.proofs.lemmas.Bool.{true≢false, false_from_ne_true, and_parts}
use Rattle.std.specs.List.{list_any}
use Rattle.std.specs.Str.{bytes_eq}
use Rattle.mr_model.specs.Tables.{CancelRow, CancelledRow}
use Rattle.mr_model.specs.Queries.{cancel_id, cancelled_id, is_marked}
use Rattle.mr_agree.specs.Agreeing.{is_taken_by}
use Rattle.mr_model.specs.Dropped.{Has}
use Rattle.mr_model.specs.Writes.{Id, same_id}
use Rattle.mr_model.specs.Replica.{is_among}
use Rattle.mr_model.proofs.Members.{any_has, has_any, has_map, among_not, same_id-true}
use Rattle.mr_tables.specs.Change.{id_before}
use Rattle.mr_tables.specs.TableOrders.{InOrder, id_order}
use Rattle.mr_tables.proofs.Putting.{one_a_key}

module _ {R : Type 0} (key : R → Id) (id : Id) (p : R → Bool) (own : (r : R) → p r ≡ true → key r ≡ id) (rows : List R) where
  pub none_passes : is_among id (map key rows) ≡ false → list_any p rows ≡ false
  none_passes none =
      false_from_ne_true (list_any p rows)
      (λ e. let (x, h, q) = has_any p rows e in
      among_not id (map key rows) none (subst (λ i. Has i (map key rows)) (own x q) (has_map key x rows h)))

  pub one_passes : (row : R) → InOrder id_before key rows → Has row rows → key row ≡ id → list_any p rows ≡ p row
  one_passes row order h k = go (p row) refl
    where
      go : (b : Bool) → p row ≡ b → list_any p rows ≡ b
      go true e = any_has p row rows e h
      go false e =
          false_from_ne_true (list_any p rows)
          (λ t. let (x, g, q) = has_any p rows t in
          let same = one_a_key id_before key id_order rows order x row g h (own x q ∙ sym k) in
          true≢false (sym q ∙ ap p same ∙ e))

-- ---- tests of several conditions

-- the ids are the first of six conditions, or of seven
pub id_first : (a b : Id) (p q r s t : Bool) → (same_id a b && p && q && r && s && t) ≡ true → b ≡ a
id_first a b p q r s t e =
    let five = and_parts (same_id a b && p && q && r && s) t e in
    let four = and_parts (same_id a b && p && q && r) s five.0 in
    let three = and_parts (same_id a b && p && q) r four.0 in
    let two = and_parts (same_id a b && p) q three.0 in
    sym (same_id-true a b (and_parts (same_id a b) p two.0).0)

pub id_first_of_seven : (a b : Id) (p q r s t u : Bool) → (same_id a b && p && q && r && s && t && u) ≡ true → b ≡ a
id_first_of_seven a b p q r s t u e = id_first a b p q r s t (and_parts (same_id a b && p && q && r && s && t) u e).0

-- ---- a cancel and the booking that it took back

pub canceller_of : (c : CancelRow) (row : CancelledRow) → is_taken_by c row ≡ true → cancel_id c ≡ row.by
canceller_of c row e =
    let four = and_parts (same_id (cancel_id c) row.by && c.done && same_id c.target (cancelled_id row) && bytes_eq c.room row.room) (not (is_marked c.seq) || row.committed) e in
    let three = and_parts (same_id (cancel_id c) row.by && c.done && same_id c.target (cancelled_id row)) (bytes_eq c.room row.room) four.0 in
    let two = and_parts (same_id (cancel_id c) row.by && c.done) (same_id c.target (cancelled_id row)) three.0 in
    same_id-true (cancel_id c) row.by (and_parts (same_id (cancel_id c) row.by) c.done two.0).0

pub target_of : (c : CancelRow) (row : CancelledRow) → is_taken_by c row ≡ true → cancelled_id row ≡ c.target
target_of c row e =
    let four = and_parts (same_id (cancel_id c) row.by && c.done && same_id c.target (cancelled_id row) && bytes_eq c.room row.room) (not (is_marked c.seq) || row.committed) e in
    let three = and_parts (same_id (cancel_id c) row.by && c.done && same_id c.target (cancelled_id row)) (bytes_eq c.room row.room) four.0 in
    sym (same_id-true c.target (cancelled_id row) (and_parts (same_id (cancel_id c) row.by && c.done) (same_id c.target (cancelled_id row)) three.0).1)
