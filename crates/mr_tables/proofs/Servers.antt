-- All servers, one after the other.
use Rattle.std.proofs.Common.{◌≡◌, sym, ap, ◌∙◌, ℕ, ◌+◌, ◌-◌, ◌≤◌, Bool, true, false, List, [], ◌∷◌, ◌++◌, Some, arith, append-nil, le-leb, append_assoc, leb}
use Rattle.std.proofs.lemmas.Bool.{and_from}
use Rattle.std.specs.Prelude.{flat_map}
use Rattle.mr_model.specs.Texts.{numbers_on, only_if}
use Rattle.mr_model.specs.Writes.{is_server}
use Rattle.mr_model.proofs.ChangesKeep.{numbers_on-add}
use Rattle.mr_model.proofs.UniqueReplay.{some_inj, none_some}

flat-append : {A B : Type 0} (f : A → List B) (xs : List A) (y : A) → flat_map f (xs ++ y ∷ []) ≡ flat_map f xs ++ f y
flat-append f [] y = append-nil (f y)
flat-append f (x ∷ xs) y = ap (λ ys. f x ++ ys) (flat-append f xs y) ∙ sym (append_assoc (f x) (flat_map f xs) (f y))

pub flat-more : {B : Type 0} (f : ℕ → List B) (n : ℕ) → 1 ≤ n → flat_map f (numbers_on 1 (n + 1 - 1)) ≡ flat_map f (numbers_on 1 (n - 1)) ++ f n
flat-more f n low =
    let next : n + 1 - 1 ≡ n - 1 + 1 = omega (arith, low) in
    let last : 1 + (n - 1) ≡ n = omega (arith, low) in
    ap (λ m. flat_map f (numbers_on 1 m)) next ∙ ap (flat_map f) (numbers_on-add 1 (n - 1) 1) ∙ flat-append f (numbers_on 1 (n - 1)) (1 + (n - 1))
    ∙ ap (λ m. flat_map f (numbers_on 1 (n - 1)) ++ f m) last

pub server_is : (n s : ℕ) → only_if (is_server n) n ≡ Some s → s ≡ n
server_is n s e = go (is_server n) e
  where
    go : (b : Bool) → only_if b n ≡ Some s → s ≡ n
    go true f = sym (some_inj n s f)
    go false f = absurd (none_some s f)

pub server_there : (n : ℕ) → 1 ≤ n → n ≤ 99 → only_if (is_server n) n ≡ Some n
server_there n low high = ap (λ b. only_if b n) (and_from (leb 1 n) (leb n 99) (le-leb 1 n low) (le-leb n 99 high))
