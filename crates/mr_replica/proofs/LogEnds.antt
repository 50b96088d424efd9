-- The rows of the log that a command needs are those with keys between two ends.
use Rattle.std.proofs.Common.{◌≡◌, refl, sym, ap, ◌∙◌, ℕ, ◌≤◌, ◌<◌, Bool, true, false, not, cond, ◌&&◌, ◌||◌, ◌==◌}
use Rattle.std.proofs.Common.{List, [], ◌∷◌, ◌⊎◌, inl, inr, arith, eqb, ltb, leb, eq-eqb, eqb-true, lt-ltb, ltb-true}
use Rattle.std.specs.Cmp.Lexicographic.{slice_cmp}
use Rattle.std.specs.List.{filter}
use Rattle.std.specs.List.Sorted.{IsPermutation, IsSortedByKey}
use Rattle.std.specs.declared.cmp.Ordering.{Ordering}
use Rattle.std.specs.Ordering.{is_gt, is_lt, is_le, nat_cmp, ordering_then}
use Rattle.std.specs.declared.cmp.Ordering.TheVariants.{Less, Equal, Greater}
use Rattle.std.proofs.Math.Bool.{and-true}
use Rattle.std.proofs.lemmas.Bool.{true≢false, cases_order}
use Rattle.std.proofs.lemmas.Bool.Decides.{leb_tells, nat_tests}
use Rattle.std.proofs.lemmas.Cmp.{nat_cmp_total, tied_itself}
use Rattle.mr_model.proofs.Members.{all_has, has_all, has_filter, filter_has, sorted_filter}
use Rattle.mr_part.proofs.Sorting.{Rises, sorted_is}
use Rattle.mr_tables.specs.Change.{id_before}
use Rattle.mr_tables.specs.TableOrders.{InOrder}
use Rattle.mr_model.specs.Scopes.{is_tentative, is_above, time_before}
use Rattle.mr_model.specs.Queries.{log_id}
use Rattle.mr_model.specs.Tables.{LogRow}
use Rattle.mr_model.specs.Texts.{Text, within}
use Rattle.mr_model.specs.Writes.{Id}
use Rattle.mr_base.specs.Ids.{id_cmp}
use Rattle.mr_replay.specs.Index.{padded}
use Rattle.mr_replay.proofs.IdKeys.{ids_total, is_lt-Less}
use Rattle.mr_replica.specs.declared.row_key.RowKey.{RowKey}
use Rattle.mr_part.specs.declared.tail.Tail.{Tail}
use Rattle.mr_part.specs.declared.tail.Tail.TheVariants.{Everything, From, Nothing}
use Rattle.mr_part.specs.Tails.{has_place}
use Rattle.mr_replica.specs.RowKeys.{is_between, key_at, key_before, row_key_cmp, log_end, log_key, number_end, numbered, stamp_date, tail_end, AreBetween}
use Rattle.mr_replica.proofs.ByKeys.{at_itself, tied, tied_names}
use Rattle.mr_replica.proofs.RowsById.{before_is}

-- by the two tests of nat_cmp, whatever they say
before : (b e : Bool) → is_lt (ordering_then (cond b Less (cond e Equal Greater)) Greater) ≡ b
before true e = refl
before false true = refl
before false false = refl

up_to : (b e : Bool) → is_le (ordering_then (cond b Less (cond e Equal Greater)) Greater) ≡ b
up_to true e = refl
up_to false true = refl
up_to false false = refl

-- the key of a row that is tentative, or isn't
abbrev key_if : LogRow → Bool → RowKey
key_if row b = key_at (cond b 3 1) (cond b row.room []) 1 (cond b (stamp_date row.time row.server) (numbered row.seq)) 1 0 (log_id row)

pub commits_between : (row : LogRow) → is_between (log_end 2) (log_end 4) (log_key row) ≡ is_tentative row
commits_between row = go (is_tentative row)
  where
    go : (b : Bool) → is_between (log_end 2) (log_end 4) (key_if row b) ≡ b
    go true = refl
    go false = refl

pub above_between : (commits : ℕ) (row : LogRow) → is_between (number_end 2 commits) (log_end 4) (log_key row) ≡ is_above commits row
above_between commits row = go (is_tentative row)
  where
    go : (b : Bool) → is_between (number_end 2 commits) (log_end 4) (key_if row b) ≡ (b || ltb commits row.seq)
    go true = refl
    go false = and-true _ ∙ up_to (ltb commits row.seq) (commits == row.seq)

-- the place of a stamp is at or behind another one
from_place : (time server t s : ℕ) → is_le (ordering_then (nat_cmp time t) (ordering_then (nat_cmp server s) Less)) ≡ not (time_before t s time server)
from_place time server t s = go (cases_order time t)
  where
    servers : (server ≡ s) ⊎ ((server < s) ⊎ (s < server)) → is_le (ordering_then (nat_cmp server s) Less) ≡ not (ltb s server)
    servers (inl e) = grind (arith, nat_tests)
    servers (inr (inl l)) = grind (arith, nat_tests)
    servers (inr (inr l)) = grind (arith, nat_tests)

    go : (time ≡ t) ⊎ ((time < t) ⊎ (t < time)) → is_le (ordering_then (nat_cmp time t) (ordering_then (nat_cmp server s) Less)) ≡ not (time_before t s time server)
    go (inl e) = ap (λ u. is_le (ordering_then (nat_cmp time u) (ordering_then (nat_cmp server s) Less))) (sym e)
        ∙ ap (λ o. is_le (ordering_then o (ordering_then (nat_cmp server s) Less))) (tied_itself nat_cmp_total time) ∙ servers (cases_order server s) ∙ grind (arith, nat_tests)
    go (inr (inl l)) = grind (arith, nat_tests)
    go (inr (inr l)) = grind (arith, nat_tests)

-- the rows of a room that are in a tail
pub tail_between : (room : Text) (tail : Tail) (row : LogRow) → row.room ≡ room
    → is_between (tail_end room tail) (tail_end room Nothing) (log_key row) ≡ (is_tentative row && has_place tail row.time row.server)
tail_between room tail row is = (λ t. is_between (tail_end (sym is t) tail) (tail_end (sym is t) Nothing) (log_key row)) ∙ own tail
  where
    names : (o : Ordering) → ordering_then (slice_cmp nat_cmp (padded row.room) (padded row.room)) o ≡ o
    names o = tied_names (padded row.room) o

    own : (tail : Tail) → is_between (tail_end row.room tail) (tail_end row.room Nothing) (log_key row) ≡ (is_tentative row && has_place tail row.time row.server)
    own Everything = go (is_tentative row)
      where
        go : (b : Bool) → is_between (tail_end row.room Everything) (tail_end row.room Nothing) (key_if row b) ≡ (b && true)
        go true = (λ t. is_le (names Less t) && not (is_lt (names Greater t)))
        go false = refl
    own (From time server) = go (is_tentative row)
      where
        go : (b : Bool) → is_between (tail_end row.room (From time server)) (tail_end row.room Nothing) (key_if row b) ≡ (b && not (time_before row.time row.server time server))
        go true =
            (λ t. is_le (names (ordering_then (nat_cmp time row.time) (ordering_then (nat_cmp server row.server) Less)) t) && not (is_lt (names Greater t)))
            ∙ and-true _ ∙ from_place time server row.time row.server
        go false = refl
    own Nothing = go (is_tentative row)
      where
        go : (b : Bool) → is_between (tail_end row.room Nothing) (tail_end row.room Nothing) (key_if row b) ≡ (b && false)
        go true = (λ t. is_le (names Greater t) && not (is_lt (names Greater t)))
        go false = refl

pub tail_forward : (room : Text) (tail : Tail) → is_gt (row_key_cmp (tail_end room tail) (tail_end room Nothing)) ≡ false
tail_forward room Everything = ap is_gt (tied_names (padded room) Less)
tail_forward room (From time server) = ap is_gt (tied_names (padded room) Less)
tail_forward room Nothing = ap is_gt (at_itself (tail_end room Nothing))

-- the rows of a commit number
of_number : (number n : ℕ) → (is_le (ordering_then (nat_cmp number n) Less) && not (is_lt (ordering_then (nat_cmp number n) Greater))) ≡ (number == n)
of_number number n = grind (arith, nat_tests)

pub number_between : (number : ℕ) (row : LogRow) → is_between (number_end 0 number) (number_end 2 number) (log_key row) ≡ (not (is_tentative row) && (number == row.seq))
number_between number row = go (is_tentative row)
  where
    go : (b : Bool) → is_between (number_end 0 number) (number_end 2 number) (key_if row b) ≡ (not b && (number == row.seq))
    go true = refl
    go false = of_number number row.seq

pub number_forward : (number : ℕ) → is_gt (row_key_cmp (number_end 0 number) (number_end 2 number)) ≡ false
number_forward number = ap is_gt (tied number Less)

not_above : (number n : ℕ) → eqb n 0 ≡ false → not (ltb number n) ≡ within 1 number n
not_above number n e = go (ltb number n) refl (leb_tells 1 n) (leb_tells n number)
  where
    go : (b : Bool) → ltb number n ≡ b → ((leb 1 n ≡ true) × (1 ≤ n)) ⊎ ((leb 1 n ≡ false) × (n < 1))
        → ((leb n number ≡ true) × (n ≤ number)) ⊎ ((leb n number ≡ false) × (number < n)) → not b ≡ within 1 number n
    go b is (inr (_, l)) high = absurd (true≢false (sym (eq-eqb n 0 (omega (arith, l))) ∙ e))
    go true is (inl (p, _)) (inl (q, l)) = let m = ltb-true number n is in let never : ⊥ = omega (arith, l, m) in absurd never
    go true is (inl (p, _)) (inr (q, _)) = sym (λ i. p i && q i)
    go false is (inl (p, _)) (inl (q, _)) = sym (λ i. p i && q i)
    go false is (inl (p, _)) (inr (q, l)) = absurd (true≢false (sym (lt-ltb number n l) ∙ is))

pub up_to_between : (number : ℕ) (row : LogRow) → is_between (log_end 0) (number_end 2 number) (log_key row) ≡ within 1 number row.seq
up_to_between number row = go (is_tentative row) refl
  where
    go : (b : Bool) → is_tentative row ≡ b → is_between (log_end 0) (number_end 2 number) (key_if row b) ≡ within 1 number row.seq
    go true e = sym (ap (within 1 number) (eqb-true row.seq 0 e))
    go false e = ap not (before (ltb number row.seq) (number == row.seq)) ∙ not_above number row.seq e

-- ---- in the order of ids

pub rises : {R : Type 0} (id : R → Id) (rows : List R) → InOrder id_before id rows → Rises id_cmp id rows
rises id [] s = tt
rises id (x ∷ rows) s =
    (has_all (λ y. id_cmp (id x) (id y) ≡ Less) rows (λ y h. is_lt-Less _ (before_is (id x) (id y) ∙ all_has (λ y. id_before (id x) (id y) ≡ true) y rows s.0 h)), rises id rows s.1)

-- the rows between two keys, sorted by their ids
pub sorted_between : {R : Type 0} (id : R → Id) (key : R → RowKey) (first last : RowKey) (all rows sorted : List R) → InOrder id_before id all
    → AreBetween key first last all rows → IsPermutation rows sorted → IsSortedByKey id id_cmp sorted → sorted ≡ filter (λ r. is_between first last (key r)) all
sorted_between id key first last all rows sorted order found same by =
    sorted_is id_cmp ids_total id (λ a b. key_before (key a) (key b) ≡ true) (λ x e. true≢false (sym e ∙ ap is_lt (at_itself (key x))))
    rows sorted (filter (λ r. is_between first last (key r)) all) found.rise same by
    (rises id (filter (λ r. is_between first last (key r)) all) (sorted_filter (λ a b. id_before (id a) (id b) ≡ true) (λ r. is_between first last (key r)) all order))
    (λ x h. let (there, between) = found.own x h in has_filter (λ r. is_between first last (key r)) x all between there)
    (λ x h. let (there, between) = filter_has (λ r. is_between first last (key r)) x all h in found.each x there between)
