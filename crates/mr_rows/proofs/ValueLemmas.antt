-- Equality of values, and what a column makes of a value of its own kind.
use Rattle.std.proofs.Common.{◌≡◌, inl, ⊎_elim, ℕ, ℤ, pos, List, [], ◌∷◌, ◌+◌, Bool, true, false, not, ◌&&◌, ◌||◌, ◌==◌, cond, if◌then◌else◌, Option, Some, refl, sym, ap, ◌∙◌, arith, Less}
use Rattle.std.proofs.lemmas.Bool.{and_parts}
use Rattle.std.proofs.lemmas.Map.Text.{is_eq-slice_cmp}
use Rattle.std.specs.Prelude.{bytes_eq}
use Rattle.std.specs.Ordering.{is_eq, int_cmp}
use Rattle.sqlite_value.specs.declared.value.Value.{Value}
use Rattle.sqlite_value.specs.declared.value.Value.TheVariants.{Null, Int, Real, Text, Blob}
use Rattle.sqlite_value.specs.Order.{Row, value_cmp}
use Rattle.sqlite_value.proofs.OrderLemmas.{value_cmp-Int, value_cmp-Text}
use Rattle.sqlite_sql.specs.Ops.{unary, binary, is_null, is_true, from_truth}
use Rattle.sqlite_schema.specs.Rules.{equal}
use Rattle.sqlite_schema.specs.declared.schema.Column.{Column}
use Rattle.sqlite_rules.specs.Cast.{cast, cast_all}
use Rattle.sqlite.specs.Rows.{mended_from}
use Rattle.sqlite_schema.specs.Names.{is_key}
use Rattle.sqlite.specs.Collation.TheVariants.{Binary}
use Rattle.sqlite.specs.Kind.{Kind}
use Rattle.sqlite.specs.Kind.TheVariants.{Integer}
use Rattle.sqlite.specs.Kind.TheVariants as kind
use Rattle.mr_model.specs.Writes.{Id}
use Rattle.mr_model.specs.Replica.{is_among}
use Rattle.mr_model.proofs.Members.{among_has, has_among}
use Rattle.mr_rows.specs.Facts.{is_plain, are_plain}
-- ---- equality

pub use Rattle.std.proofs.Math.Bool.{and-true as and_true, or-false as or_false}

truth_back : (b : Bool) → is_true (from_truth (Some b)) ≡ b
truth_back true = refl
truth_back false = refl

is_eq_nat : (a b : ℕ) → is_eq (int_cmp (pos a) (pos b)) ≡ (a == b)
is_eq_nat a b = grind (arith)

pub equal_nat : (a b : ℕ) → equal Binary (Int (pos a)) (Int (pos b)) ≡ (a == b)
unfolding binary
equal_nat a b = truth_back _ ∙ ap is_eq (value_cmp-Int (pos a) (pos b)) ∙ is_eq_nat a b

pub equal_text : (a b : List ℕ) → equal Binary (Text a) (Text b) ≡ bytes_eq a b
unfolding binary
equal_text a b = truth_back _ ∙ ap is_eq (value_cmp-Text a b) ∙ is_eq-slice_cmp a b

never_true : (p x : Bool) → x ≡ false → is_true (if p then Null else from_truth (Some x)) ≡ false
never_true true x gone = refl
never_true false x gone = ap (λ b. is_true (from_truth (Some b))) gone

-- values of which one is less aren't equal
pub equal_apart : (a b : Value) → value_cmp a b ≡ Less → equal Binary a b ≡ false
unfolding binary
equal_apart a b low = never_true (is_null a || is_null b) _ (ap is_eq low)

-- ---- keys of two columns

-- the test for an id
pub id_test : (s n : ℕ) (id : Id) → (equal Binary (Int (pos s)) (Int (pos id.server)) && (equal Binary (Int (pos n)) (Int (pos id.n)) && true)) ≡ is_among (record { server = s; n = n }) (id ∷ [])
id_test s n id = rw (equal_nat s id.server, equal_nat n id.n, and_true (n == id.n)) (sym (or_false ((s == id.server) && (n == id.n))))

pub among_one : (a id : Id) → is_among a (id ∷ []) ≡ true → a ≡ id
among_one a id h = ⊎_elim (λ same. same) (λ none. absurd none) (among_has a (id ∷ []) h)

pub one_among : (a id : Id) → a ≡ id → is_among a (id ∷ []) ≡ true
one_among a id same = has_among a (id ∷ []) (inl same)

-- ---- clashes of a new row with an old one, whose rowid is another

pub clash_one : (rowids k : Bool) → rowids ≡ false → ((rowids && true) || ((k && true) || false)) ≡ (k && true)
clash_one rowids k apart = rw apart (or_false (k && true))

pub clash_two : (rowids s n : Bool) → rowids ≡ false → ((rowids && true) || ((s && (n && true)) || false)) ≡ (s && (n && true))
clash_two rowids s n apart = rw apart (or_false (s && (n && true)))

-- ---- casts

either : (b : Bool) (x : Value) → cond b x x ≡ x
either true x = refl
either false x = refl

pub cast_null : cast Integer Null ≡ Null
unfolding unary
cast_null = either _ Null

pub cast_int : (n : ℤ) → cast Integer (Int n) ≡ Int n
unfolding unary
cast_int n = either _ (Int n)

-- ---- rows whose cells are of the kinds of their columns

cast_plain : (k : Kind) (v : Value) → is_plain k v ≡ true → cast k v ≡ v
cast_plain Integer (Int n) is = cast_int n
cast_plain kind.Text (Text t) is = refl
cast_plain Integer Null is = absurd (cc)
cast_plain Integer (Real x) is = absurd (cc)
cast_plain Integer (Text t) is = absurd (cc)
cast_plain Integer (Blob b) is = absurd (cc)
cast_plain kind.Text Null is = absurd (cc)
cast_plain kind.Text (Int n) is = absurd (cc)
cast_plain kind.Text (Real x) is = absurd (cc)
cast_plain kind.Text (Blob b) is = absurd (cc)
cast_plain kind.Real v is = absurd (cc)
cast_plain kind.Blob v is = absurd (cc)
cast_plain kind.Any v is = absurd (cc)

not_null_of : (k : Kind) (v : Value) → is_plain k v ≡ true → is_null v ≡ false
not_null_of k (Int n) is = refl
not_null_of k (Real x) is = refl
not_null_of k (Text t) is = refl
not_null_of k (Blob b) is = refl
not_null_of Integer Null is = absurd (cc)
not_null_of kind.Text Null is = absurd (cc)
not_null_of kind.Real Null is = absurd (cc)
not_null_of kind.Blob Null is = absurd (cc)
not_null_of kind.Any Null is = absurd (cc)

-- a column makes nothing else of them
pub casts_plain : (cs : List Column) (vs : Row) → are_plain cs vs ≡ true → cast_all cs vs ≡ vs
casts_plain [] vs all = refl
casts_plain (c ∷ cs) [] all = refl
casts_plain (c ∷ cs) (v ∷ vs) all =
    let both = and_parts (is_plain c.kind v) (are_plain cs vs) all in
    let one = cast_plain c.kind v both.0 in
    let more = casts_plain cs vs both.1 in
    λ i. one i ∷ more i

-- nor is one mended
pub mends_plain : (key : Option ℕ) (at : ℕ) (cs : List Column) (vs : Row) → are_plain cs vs ≡ true → mended_from key at cs vs ≡ vs
mends_plain key at [] vs all = refl
mends_plain key at (c ∷ cs) [] all = refl
mends_plain key at (c ∷ cs) (v ∷ vs) all =
    let both = and_parts (is_plain c.kind v) (are_plain cs vs) all in
    let one : (if c.not_null && is_null v && not (is_key key at) then c.default else v) ≡ v =
    rw (not_null_of c.kind v both.0) (elim c.not_null as (λ b. (if b && false && not (is_key key at) then c.default else v) ≡ v) [ true ↦ refl | false ↦ refl ]) in
    let more = mends_plain key (at + 1) cs vs both.1 in
    λ i. one i ∷ more i
