-- What the readers of words share: values that are read, pairs of digits.
use Rattle.std.proofs.Common.{◌≡◌, refl, sym, ap, ℕ, ◌+◌, ◌/◌, ◌%◌, ◌<◌, Bool, true, false, cond, Option, Some, None, Result, Ok, Err, IfOk, ok_or, arith}
use Rattle.std.specs.Str.{bytes_eq}
use Rattle.std.specs.Cmp.Lexicographic.{bytes_decides}
use Rattle.std.proofs.lemmas.Bool.Decides.{nat_tests}
use Rattle.mr_model.specs.Texts.{Text, only_if}
use Rattle.mr_base.specs.Readings.{pair_in}

-- texts that pass the test are the same, and the other way around
pub bytes_same : (s t : Text) → bytes_eq s t ≡ true → s ≡ t
bytes_same s t = (bytes_decides s t).0

pub same_bytes : (s t : Text) → s ≡ t → bytes_eq s t ≡ true
same_bytes s t = (bytes_decides s t).1

-- what is read where the test is passed, and where it is not
pub only_if_true : {A : Type 0} (b : Bool) (x : A) → b ≡ true → only_if b x ≡ Some x
only_if_true b x e = ap (λ t. only_if t x) e

pub only_if_false : {A : Type 0} (b : Bool) (x : A) → b ≡ false → only_if b x ≡ None
only_if_false b x e = ap (λ t. only_if t x) e

-- two readers that read the same values of a text read the same
pub same_reading : {A : Type 0} (o p : Option A) → ((v : A) → o ≡ Some v → p ≡ Some v) → ((v : A) → p ≡ Some v → o ≡ Some v) → o ≡ p
same_reading (Some v) p there back = sym (there v refl)
same_reading None (Some v) there back = back v refl
same_reading None None there back = refl

-- what holds of each value that is read holds of an answer that is one
pub ok_written : {A E : Type 0} (o : Option A) (fault : E) (r : Result A E) (P : A → Type 0) → ((v : A) → o ≡ Some v → P v) → r ≡ ok_or o fault → IfOk r P
ok_written (Some v) fault r P h e = let k : r ≡ Ok v = e in rw k (h v refl)
ok_written None fault r P h e = let k : r ≡ Err fault = e in rw k tt

-- ---- pairs of digits

-- two digits that are read as a number are those of the number
pub pair_is : (a b n : ℕ) → pair_in a b ≡ Some n → (a ≡ 48 + n / 10) × (b ≡ 48 + n % 10) × (n < 100)
pair_is a b n e = grind (arith, nat_tests)

-- and the digits of a number are read as it
pub pair-digits : (n : ℕ) → n < 100 → pair_in (48 + n / 10) (48 + n % 10) ≡ Some n
pair-digits n small = grind (arith, nat_tests)

-- what is read behind a test has passed it
pub when_is : {A : Type 0} (b : Bool) (o : Option A) (v : A) → cond b o None ≡ Some v → (b ≡ true) × (o ≡ Some v)
when_is true o v e = (refl, e)
when_is false o v e = cc
