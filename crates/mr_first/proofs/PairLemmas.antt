-- Rows of both logs, paired, are the log that takes their place.
use Rattle.std.proofs.Common.{◌≡◌, ℕ, ◌<◌, zero, suc, List, [], ◌∷◌, ◌++◌, map, length, take, get_or, true, Bool, inl, inr, Some, None, refl, sym, ap, subst, ◌∙◌, arith}
use Rattle.std.specs.Prelude.{option_map}
use Rattle.std.specs.List.{cons_option, AllByRecursion}
use Rattle.std.proofs.lemmas.List.{get_or-map, map-append}
use Rattle.std.proofs.Math.Seq.{take-suc}
use Rattle.sqlite_keyed.proofs.ListLemmas.{ascending_weaker}
use Rattle.sqlite_trees.specs.Tree.{Trees}
use Rattle.mr_model.specs.Writes.{Id, Write, same_id}
use Rattle.mr_model.specs.Replica.{Replica}
use Rattle.mr_model.specs.Tables.{MetaRow, LogRow, kept}
use Rattle.mr_model.specs.First.{WriteRow, FirstUndoRow, FirstTables, write_row, undo_row, StandsFirst, undo_of, moved_row, moved_log, moved}
use Rattle.mr_model.specs.Dropped.{Has}
use Rattle.mr_model.proofs.Members.{find_one, same_id-true, same_id_from}
use Rattle.mr_model.specs.Queries.{log_id}
use Rattle.mr_tables.specs.Change.{put_all, id_before}
use Rattle.mr_tables.specs.TableOrders.{IsOrder, InOrder, id_order}
use Rattle.mr_tables.proofs.Putting.{OneAKey, one_a_key, in_order_same}
use Rattle.mr_rows.proofs.SortedByKey.{Apart, ordered_in_order, ordered_has, has_ordered}
use Rattle.mr_first.specs.FirstCells.{write_row_from, undo_in}
use Rattle.mr_first.specs.Forms.{write_id, undo_id}
use Rattle.mr_first.specs.FirstDatabase.{first_in}
use Rattle.mr_first.specs.MovedUp.{ArePaired}
use Rattle.mr_first.specs.MoveUpSteps.{filled}

-- ---- pairs

-- as many rows as have a partner at their place
abbrev pub joined : List WriteRow → List FirstUndoRow → List LogRow
joined [] us = []
joined (w ∷ ws) [] = []
joined (w ∷ ws) (u ∷ us) = moved_row w u ∷ joined ws us

-- rows that are paired, among all of the other log
joined_is : (ws : List WriteRow) (us all : List FirstUndoRow) → OneAKey undo_id all → ((u : FirstUndoRow) → Has u us → Has u all) → map write_id ws ≡ map undo_id us → joined ws us ≡ moved_log ws all
joined_is [] us all one inside same = refl
joined_is (w ∷ ws) [] all one inside same = absurd (cc)
joined_is (w ∷ ws) (u ∷ us) all one inside same =
    let here : write_id w ≡ undo_id u = cc in
    let found : undo_of w all ≡ Some u =
    find_one (λ v. same_id (undo_id v) (write_id w)) u all (inside u (inl refl)) (same_id_from _ _ (sym here)) (λ v h e. one v u h (inside u (inl refl)) (same_id-true (undo_id v) _ e ∙ here)) in
    let more = joined_is ws us all one (λ v h. inside v (inr h)) (cc) in
    λ i. cons_option (option_map (moved_row w) (sym found i)) (more i)

undo_apart : (trees : Trees) → OneAKey undo_id (first_in trees).undo
unfolding first_in
undo_apart trees = one_a_key id_before undo_id id_order _ (ordered_in_order id_before undo_id id_order (map undo_in (trees 8)))

pub paired_is : (ws : List WriteRow) (us : List FirstUndoRow) (trees : Trees) → ArePaired ws us → us ≡ (first_in trees).undo → joined ws us ≡ moved_log ws us
paired_is ws us trees paired is = joined_is ws us us (subst (λ rows. OneAKey undo_id rows) (sym is) (undo_apart trees)) (λ u h. h) paired

-- ---- pairs one after the other

-- what is at a place of both, of rows of one write each
pub paired_at : (ws : List WriteRow) (us : List FirstUndoRow) (i : ℕ) (w : WriteRow) (u : FirstUndoRow) → i < length ws
    → length ws ≡ length us → w ≡ get_or ws i w → u ≡ get_or us i u → ArePaired ws us → write_id w ≡ undo_id u
paired_at ws us i w u low many at_w at_u same =
    ap write_id at_w ∙ sym (get_or-map write_id ws i w (write_id w) low) ∙ ap (λ ids. get_or ids i (write_id w)) same
    ∙ get_or-map undo_id us i u (write_id w) (omega (arith, low, many)) ∙ ap undo_id (sym at_u)

-- the ids of one row more
taken : {R : Type 0} (key : R → Id) (rows : List R) (i : ℕ) (row : R) → i < length rows → row ≡ get_or rows i row → map key (take (suc i) rows) ≡ map key (take i rows) ++ key row ∷ []
taken key rows i row low at = ap (map key) (take-suc rows i row low) ∙ map-append key (take i rows) _ ∙ ap (λ r. map key (take i rows) ++ key r ∷ []) (sym at)

-- one pair more
pub more_paired : (ws : List WriteRow) (us : List FirstUndoRow) (i : ℕ) (w : WriteRow) (u : FirstUndoRow)
    → i < length ws → length ws ≡ length us → w ≡ get_or ws i w → u ≡ get_or us i u → write_id w ≡ undo_id u
    → ArePaired (take i ws) (take i us) → ArePaired (take (suc i) ws) (take (suc i) us)
more_paired ws us i w u low many at_w at_u here same = taken write_id ws i w low at_w ∙ (λ j. same j ++ here j ∷ []) ∙ sym (taken undo_id us i u (omega (arith, low, many)) at_u)

pub more_joined : (ws : List WriteRow) (us : List FirstUndoRow) (i : ℕ) (w : WriteRow) (u : FirstUndoRow) → i < length ws → length ws ≡ length us → w ≡ get_or ws i w → u ≡ get_or us i u
    → joined (take (suc i) ws) (take (suc i) us) ≡ joined (take i ws) (take i us) ++ moved_row w u ∷ []
more_joined [] us i w u low many at_w at_u = absurd (omega (arith, low))
more_joined (x ∷ ws) [] i w u low many at_w at_u = absurd (cc)
more_joined (x ∷ ws) (y ∷ us) zero w u low many at_w at_u = λ j. moved_row (sym at_w j) (sym at_u j) ∷ []
more_joined (x ∷ ws) (y ∷ us) (suc i) w u low many at_w at_u =
    let lengths : length ws ≡ length us = omega (arith, many) in
    ap (λ rows. moved_row x y ∷ rows) (more_joined ws us i w u (omega (arith, low)) lengths at_w at_u)

-- the logs of a replica's first tables
pub replicas_paired : (t : FirstTables) (r : Replica) → StandsFirst t r → ArePaired t.write_log t.undo
replicas_paired t r stands = subst (λ (x : FirstTables). ArePaired x.write_log x.undo) (sym stands.are) (go (kept r))
  where
    go : (ws : List Write) → map write_id (map (write_row r) ws) ≡ map undo_id (map (undo_row r) ws)
    go [] = refl
    go (w ∷ ws) = ap (λ ids. write_id (write_row r w) ∷ ids) (go ws)

-- ---- rows in order, put into none, are these

pub put_into_empty : {R K : Type 0} (before : K → K → Bool) (key : R → K) → IsOrder K before → (rows : List R) → InOrder before key rows → put_all before key rows [] ≡ rows
put_into_empty {R} {K} before key o rows up =
    in_order_same before key o (put_all before key rows []) rows (ordered_in_order before key o rows) up
    (λ row h. ordered_has before key o rows row h) (λ row h. has_ordered before key o rows apart row h)
  where
    apart : Apart before key rows
    apart = ascending_weaker (λ x y. before (key x) (key y) ≡ true) (λ x y. key x ≡ key y → ⊥) (λ x y less same. o.irreflexive (key x) (subst (λ k. before (key x) k ≡ true) (sym same) less)) rows up

-- ---- the log is in order

log_in_order : (ws : List WriteRow) (us : List FirstUndoRow) → InOrder id_before write_id ws → InOrder id_before log_id (moved_log ws us)
log_in_order [] us s = tt
log_in_order (w ∷ ws) us s =
    elim (undo_of w us) as (λ o. InOrder id_before log_id (cons_option (option_map (moved_row w) o) (moved_log ws us)))
    [ None ↦ log_in_order ws us s.1 | Some u ↦ (above ws s.0, log_in_order ws us s.1) ]
  where
    above : (xs : List WriteRow) → AllByRecursion (λ x. id_before (write_id w) (write_id x) ≡ true) xs → AllByRecursion (λ y. id_before (write_id w) (log_id y) ≡ true) (moved_log xs us)
    above [] h = tt
    above (x ∷ xs) h =
        elim (undo_of x us) as (λ o. AllByRecursion (λ y. id_before (write_id w) (log_id y) ≡ true) (cons_option (option_map (moved_row x) o) (moved_log xs us)))
        [ None ↦ above xs h.1 | Some u ↦ (h.0, above xs h.1) ]

writes_in_order : (trees : Trees) → InOrder id_before write_id (first_in trees).write_log
unfolding first_in
writes_in_order trees = ordered_in_order id_before write_id id_order (map write_row_from (trees 6))

-- the first tables with their own row of `meta` and their log are the moved ones
pub filled_is : (trees : Trees) (m : MetaRow) (log : List LogRow) → m ≡ (first_in trees).meta
    → log ≡ moved_log (first_in trees).write_log (first_in trees).undo → filled m log (first_in trees) ≡ moved (first_in trees)
filled_is trees m log meta is =
    let t = first_in trees in
    let put : put_all id_before log_id log [] ≡ moved_log t.write_log t.undo =
    ap (λ rows. put_all id_before log_id rows []) is ∙ put_into_empty id_before log_id id_order _ (log_in_order t.write_log t.undo (writes_in_order trees)) in
    λ i. record { meta = meta i; room = t.room; vector = t.vector; log = put i; booking = t.booking; errorlog = t.errorlog; cancelled = []; cancels = [] }
