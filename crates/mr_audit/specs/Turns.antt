-- Which of two notes comes before the other, and tests of the notes of all tables by pairs.
use Rattle.std.specs.Prelude.{◌≡◌, ℕ, ◌+◌, ◌<◌, Bool, true, not, ◌&&◌, ◌||◌, if◌then◌else◌, ◌==◌, nat_lt, List, length}
use Rattle.std.specs.List.{list_all, slice_index_or}
use Rattle.mr_model.specs.Writes.{same_id}
use Rattle.mr_model.specs.Tables.{Tables}
use Rattle.mr_tables.specs.Change.{id_before}
use Rattle.mr_tables.specs.Rise.{Rise}
use Rattle.mr_tables.specs.TableOrders.{InOrder}
use Rattle.mr_agree.specs.Agreeing.{Note, log_note, error_note, cancel_note, notes, are_numbers_in_order}

-- the id is before the other one, and of one server's writes so are the time and the number
abbrev pub comes_before : Note → Note → Bool
comes_before a b =
    id_before a.id b.id && (not (a.id.server == b.id.server) || (nat_lt a.time b.time && are_numbers_in_order a.seq b.seq))

abbrev pub is_same_note : Note → Note → Bool
is_same_note a b = same_id a.id b.id && (a.time == b.time && a.seq == b.seq)

-- two notes of one write are the same, and of two of one server the later has the later time and number
abbrev pub are_in_turn : Note → Note → Bool
are_in_turn a b =
    if same_id a.id b.id then a.time == b.time && a.seq == b.seq
    else (not (a.id.server == b.id.server && nat_lt a.id.n b.id.n) || (nat_lt a.time b.time && are_numbers_in_order a.seq b.seq))

abbrev pub are_two_in_turn : Note → Note → Bool
are_two_in_turn a b = are_in_turn a b && are_in_turn b a

abbrev pub are_all_in_turn : Tables → Bool
are_all_in_turn t = list_all (λ a. list_all (are_in_turn a) (notes t)) (notes t)

-- ---- one note among rows

-- the row in front of this place comes before the note
abbrev pub FrontFits : {R : Type 0} → (R → Note) → List R → ℕ → Note → Type 0
FrontFits {R} note rows at a = (k : ℕ) (d : R) → k + 1 ≡ at → comes_before (note (slice_index_or rows k d)) a ≡ true

-- the row at this place is of the same write, or comes behind
abbrev pub BehindFits : {R : Type 0} → (R → Note) → List R → ℕ → Note → Type 0
BehindFits {R} note rows at a =
    (d : R) → at < length rows → (is_same_note a (note (slice_index_or rows at d)) || comes_before a (note (slice_index_or rows at d))) ≡ true

-- ---- the tables

pub record AreChains (t : Tables) : Type 0 where
  pub log : Rise comes_before log_note t.log
  pub errorlog : Rise comes_before error_note t.errorlog
  pub cancels : Rise comes_before cancel_note t.cancels

pub record AreInTurn (t : Tables) : Type 0 where
  pub log : InOrder comes_before log_note t.log
  pub errorlog : InOrder comes_before error_note t.errorlog
  pub cancels : InOrder comes_before cancel_note t.cancels

abbrev pub are_fitting : {R S : Type 0} → (R → Note) → (S → Note) → List R → List S → Bool
are_fitting f g rows others = list_all (λ row. list_all (λ other. are_two_in_turn (f row) (g other)) others) rows

abbrev pub are_tables_fitting : Tables → Bool
are_tables_fitting t =
    are_fitting error_note log_note t.errorlog t.log
    && (are_fitting cancel_note log_note t.cancels t.log && are_fitting cancel_note error_note t.cancels t.errorlog)
