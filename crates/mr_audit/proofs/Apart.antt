-- Lists of which no two elements conflict: neighbours of a sorted list show it, and the order of the list doesn't matter.
use Rattle.std.proofs.Common.{◌≡◌, refl, sym, ap, subst, ◌∙◌, ℕ, zero, suc, ◌+◌, ◌*◌, ◌<◌, ◌≤◌, Bool, true, false, cond, not, ◌&&◌, List, [], ◌∷◌, map, length, get_or, arith}
use Rattle.std.proofs.lemmas.Bool.{true≢false, and_parts, and_from, and_left, and_right, not_from_true, not_from_false}
use Rattle.std.proofs.lemmas.List.Folds.{list_all-map}
use Rattle.std.proofs.lemmas.List.Sums.{sum_by-cons, AllPass-from_list_all, list_all-from_AllPass}
use Rattle.std.proofs.lemmas.List.Sorted.{sum_by-IsPermutation, All-permutation}
use Rattle.std.proofs.lemmas.List.Elements.{All-tail}
use Rattle.std.specs.List.{list_all, sum_by, All, AllByRecursion, AllAdjacentBelow, IsAllAdjacentAnswer}
use Rattle.std.specs.List.Sorted.{IsPermutation, IsSortedBy}
use Rattle.mr_audit.specs.Apart.{apart}

-- ---- from neighbours to all

-- each before all that follow it
abbrev pub Follow : {X : Type 0} → (X → X → Type 0) → List X → Type 0
Follow R [] = Unit {0}
Follow R (x ∷ xs) = AllByRecursion (R x) xs × Follow R xs

all_map : {X : Type 0} (P Q : X → Type 0) → ((x : X) → P x → Q x) → (xs : List X) → AllByRecursion P xs → AllByRecursion Q xs
all_map P Q f [] a = tt
all_map P Q f (x ∷ xs) a = (f x a.0, all_map P Q f xs a.1)

list_true : {X : Type 0} (p : X → Bool) (xs : List X) → AllByRecursion (λ x. p x ≡ true) xs → list_all p xs ≡ true
list_true p [] a = refl
list_true p (x ∷ xs) a = and_from (p x) (list_all p xs) a.0 (list_true p xs a.1)

next_adjacent : {X : Type 0} (R : X → X → Type 0) (x : X) (xs : List X) → AllAdjacentBelow R (x ∷ xs) (length (x ∷ xs)) → AllAdjacentBelow R xs (length xs)
next_adjacent R x xs a k d low =
    let next : suc k + 1 ≡ suc (k + 1) = omega arith in
    subst (λ n. R (get_or xs k d) (get_or (x ∷ xs) n d)) next (a (suc k) d (omega (arith, low)))

-- what joins over a good element goes on from neighbour to neighbour
pub follow_all : {X : Type 0} (R : X → X → Type 0) (V : X → Type 0) → ((x y z : X) → V y → R x y → R y z → R x z) → (xs : List X) → All V xs → AllAdjacentBelow R xs (length xs) → Follow R xs
follow_all R V join [] good a = tt
follow_all R V join (x ∷ []) good a = (tt, tt)
follow_all R V join (x ∷ y ∷ ys) good a =
    let first : R x y = a 0 x (omega arith) in
    let rest = follow_all R V join (y ∷ ys) (All-tail V x (y ∷ ys) good) (next_adjacent R x (y ∷ ys) a) in
    ((first, all_map (R y) (R x) (λ z r. join x y z (good 1 x (omega arith)) first r) ys rest.0), rest)

apart_from : {X : Type 0} (R : X → X → Type 0) (C : X → X → Bool) → ((x y : X) → R x y → C x y ≡ false) → (xs : List X) → Follow R xs → apart C xs ≡ true
apart_from R C off [] f = refl
apart_from R C off (x ∷ xs) f =
    and_from (list_all (λ y. not (C x y)) xs) (apart C xs)
    (list_true (λ y. not (C x y)) xs (all_map (R x) (λ y. not (C x y) ≡ true) (λ y r. not_from_false (C x y) (off x y r)) xs f.0))
    (apart_from R C off xs f.1)

-- two neighbours that conflict
apart_not : {X : Type 0} (C : X → X → Bool) (xs : List X) (k : ℕ) (d : X) → k + 1 < length xs → C (get_or xs k d) (get_or xs (k + 1) d) ≡ true → apart C xs ≡ false
apart_not C [] k d low e = absurd (omega (arith, low))
apart_not C (x ∷ []) k d low e = absurd (omega (arith, low))
apart_not C (x ∷ y ∷ ys) zero d low e =
    and_left (not (C x y) && list_all (λ z. not (C x z)) ys) (apart C (y ∷ ys))
    (and_left (not (C x y)) (list_all (λ z. not (C x z)) ys) (not_from_true (C x y) e))
apart_not C (x ∷ y ∷ ys) (suc k) d low e =
    let next : suc k + 1 ≡ suc (k + 1) = omega arith in
    and_right (list_all (λ z. not (C x z)) (y ∷ ys)) (apart C (y ∷ ys)) (apart_not C (y ∷ ys) k d (omega (arith, low)) (subst (λ n. C (get_or (y ∷ ys) k d) (get_or (x ∷ y ∷ ys) n d) ≡ true) next e))

-- what a test of neighbours of a sorted list answers, where those that fail it conflict
pub apart_answer : {X : Type 0} (lt R C : X → X → Bool) (V : X → Type 0) → ((x y z : X) → V y → R x y ≡ true → R y z ≡ true → R x z ≡ true)
    → ((x y : X) → R x y ≡ true → C x y ≡ false) → ((x y : X) → V x → V y → lt y x ≡ false → R x y ≡ false → C x y ≡ true)
    → (xs : List X) → All V xs → IsSortedBy lt xs → (r : Bool) → IsAllAdjacentAnswer (λ x y b. b ≡ R x y) xs r → r ≡ apart C xs
apart_answer lt R C V join off on xs good up true m =
    sym (apart_from (λ x y. R x y ≡ true) C off xs (follow_all (λ x y. R x y ≡ true) V join xs good (λ k d low. sym (m k d low))))
apart_answer lt R C V join off on [] good up false m = absurd (let (k, low, f) = m in omega (arith, low))
apart_answer lt R C V join off on (x ∷ xs) good up false m =
    let (k, low, f) = m in
    sym (apart_not C (x ∷ xs) k x low (on _ _ (good k x (omega (arith, low))) (good (k + 1) x low) (up k x (omega arith) low) (sym (f x))))

-- ---- in any order

abbrev clash : {X : Type 0} → (X → X → Bool) → X → X → ℕ
clash C x y = cond (C x y) 1 0

-- how many pairs conflict, of all and of each with itself
abbrev pairs : {X : Type 0} → (X → X → Bool) → List X → ℕ
pairs C xs = sum_by (λ x. sum_by (clash C x) xs) xs

abbrev own : {X : Type 0} → (X → X → Bool) → List X → ℕ
own C xs = sum_by (λ x. clash C x x) xs

sum_plus : {X : Type 0} (f g : X → ℕ) (xs : List X) → sum_by (λ x. f x + g x) xs ≡ sum_by f xs + sum_by g xs
sum_plus f g [] = refl
sum_plus f g (x ∷ xs) =
    let all = sum_by-cons (λ y. f y + g y) x xs in
    let fs = sum_by-cons f x xs in
    let gs = sum_by-cons g x xs in
    let rest = sum_plus f g xs in
    omega (arith, all, fs, gs, rest)

-- one element more conflicts with each of the others twice
pairs-cons : {X : Type 0} (C : X → X → Bool) → ((x y : X) → C x y ≡ C y x) → (x : X) (xs : List X) → pairs C (x ∷ xs) ≡ clash C x x + 2 * sum_by (clash C x) xs + pairs C xs
pairs-cons C alike x xs =
    let first = sum_by-cons (clash C x) x xs in
    let all = sum_by-cons (λ z. sum_by (clash C z) (x ∷ xs)) x xs in
    let each : sum_by (λ z. sum_by (clash C z) (x ∷ xs)) xs ≡ sum_by (λ z. clash C x z + sum_by (clash C z) xs) xs =
    λ i. sum_by (λ z. (sum_by-cons (clash C z) x xs ∙ ap (λ b. cond b 1 0 + sum_by (clash C z) xs) (alike z x)) i) xs in
    let split = sum_plus (clash C x) (λ z. sum_by (clash C z) xs) xs in
    omega (arith, first, all, each, split)

no_clash : {X : Type 0} (C : X → X → Bool) (x : X) (xs : List X) → list_all (λ y. not (C x y)) xs ≡ true → sum_by (clash C x) xs ≡ 0
no_clash C x [] e = refl
no_clash C x (y ∷ ys) e =
    let p = and_parts (not (C x y)) (list_all (λ z. not (C x z)) ys) e in
    go (C x y) refl p.0 (no_clash C x ys p.1)
  where
    go : (b : Bool) → C x y ≡ b → not (C x y) ≡ true → sum_by (clash C x) ys ≡ 0 → sum_by (clash C x) (y ∷ ys) ≡ 0
    go true c n z = absurd (true≢false (sym n ∙ not_from_true (C x y) c))
    go false c n z = sum_by-cons (clash C x) y ys ∙ (λ i. cond (c i) 1 0 + z i)

clash_free : {X : Type 0} (C : X → X → Bool) (x : X) (xs : List X) → sum_by (clash C x) xs ≡ 0 → list_all (λ y. not (C x y)) xs ≡ true
clash_free C x [] e = refl
clash_free C x (y ∷ ys) e =
    let z : clash C x y + sum_by (clash C x) ys ≡ 0 = sym (sum_by-cons (clash C x) y ys) ∙ e in
    go (C x y) refl z (clash_free C x ys (omega (arith, z)))
  where
    go : (b : Bool) → C x y ≡ b → clash C x y + sum_by (clash C x) ys ≡ 0 → list_all (λ z. not (C x z)) ys ≡ true → list_all (λ z. not (C x z)) (y ∷ ys) ≡ true
    go true c z rest = let one : clash C x y ≡ 1 = ap (λ b. cond b 1 0) c in absurd (omega (arith, one, z))
    go false c z rest = and_from (not (C x y)) (list_all (λ z. not (C x z)) ys) (not_from_false (C x y) c) rest

own_pairs : {X : Type 0} (C : X → X → Bool) → ((x y : X) → C x y ≡ C y x) → (xs : List X)
    → (own C xs ≤ pairs C xs) × (apart C xs ≡ true → pairs C xs ≡ own C xs) × (pairs C xs ≡ own C xs → apart C xs ≡ true)
own_pairs C alike [] = (omega arith, λ e. refl, λ e. refl)
own_pairs C alike (x ∷ xs) =
    let rest = own_pairs C alike xs in
    let low = rest.0 in
    let all = pairs-cons C alike x xs in
    let mine = sum_by-cons (λ y. clash C y y) x xs in (
      omega (arith, low, all, mine),
      λ e. let p = and_parts (list_all (λ y. not (C x y)) xs) (apart C xs) e in
          let none = no_clash C x xs p.0 in
          let same = rest.1 p.1 in
          omega (arith, all, mine, none, same),
      λ e.
          let none : sum_by (clash C x) xs ≡ 0 = omega (arith, low, all, mine, e) in
          let same : pairs C xs ≡ own C xs = omega (arith, low, all, mine, e) in
          and_from (list_all (λ y. not (C x y)) xs) (apart C xs) (clash_free C x xs none) (rest.2 same),
    )

-- the same elements in another order
pub apart-permutation : {X : Type 0} (C : X → X → Bool) → ((x y : X) → C x y ≡ C y x) → (xs ys : List X) → IsPermutation xs ys → apart C xs ≡ apart C ys
apart-permutation C alike xs ys moved = go (apart C xs) (apart C ys) (own_pairs C alike xs) (own_pairs C alike ys)
  where
    all : pairs C ys ≡ pairs C xs
    all = (λ i. sum_by (λ x. sum_by-IsPermutation (clash C x) xs ys moved i) ys) ∙ sum_by-IsPermutation (λ x. sum_by (clash C x) xs) xs ys moved

    mine : own C ys ≡ own C xs
    mine = sum_by-IsPermutation (λ x. clash C x x) xs ys moved

    go : (a b : Bool) → (own C xs ≤ pairs C xs) × (a ≡ true → pairs C xs ≡ own C xs) × (pairs C xs ≡ own C xs → a ≡ true)
        → (own C ys ≤ pairs C ys) × (b ≡ true → pairs C ys ≡ own C ys) × (pairs C ys ≡ own C ys → b ≡ true) → a ≡ b
    go true b p q = sym (q.2 (all ∙ p.1 refl ∙ sym mine))
    go false true p q = p.2 (sym all ∙ q.1 refl ∙ mine)
    go false false p q = refl

-- ---- all with all

and_twice : (b c : Bool) → (b && (b && c)) ≡ (b && c)
and_twice true c = refl
and_twice false c = refl

list_and : {X : Type 0} (p q : X → Bool) (xs : List X) → list_all (λ x. p x && q x) xs ≡ (list_all p xs && list_all q xs)
list_and p q [] = refl
list_and p q (x ∷ xs) = ap (λ b. (p x && q x) && b) (list_and p q xs) ∙ go (p x) (q x) (list_all p xs) (list_all q xs)
  where
    go : (a b c d : Bool) → ((a && b) && (c && d)) ≡ ((a && c) && (b && d))
    go true true c d = refl
    go true false true d = refl
    go true false false d = refl
    go false b c d = refl

not_twice : (b : Bool) → not (not b) ≡ b
not_twice true = refl
not_twice false = refl

-- each agrees with all where none conflicts with a later one, if it agrees with itself
pub apart_of_all : {X : Type 0} (D : X → X → Bool) → ((x : X) → D x x ≡ true) → ((x y : X) → D x y ≡ D y x) → (xs : List X) → apart (λ x y. not (D x y)) xs ≡ list_all (λ x. list_all (D x) xs) xs
apart_of_all D self alike [] = refl
apart_of_all D self alike (x ∷ xs) =
    (λ i. list_all (λ y. not_twice (D x y) i) xs && apart_of_all D self alike xs i)
    ∙ sym (and_twice (list_all (D x) xs) (list_all (λ z. list_all (D z) xs) xs))
    ∙ (λ i. (sym (self x) i && list_all (D x) xs) && (list_all (λ z. alike x z i) xs && list_all (λ z. list_all (D z) xs) xs))
    ∙ ap (λ b. (D x x && list_all (D x) xs) && b) (sym (list_and (λ z. D z x) (λ z. list_all (D z) xs) xs))

-- ---- of values of elements

pub apart-map : {X Y : Type 0} (C : Y → Y → Bool) (f : X → Y) (xs : List X) → apart (λ x y. C (f x) (f y)) xs ≡ apart C (map f xs)
apart-map C f [] = refl
apart-map C f (x ∷ xs) = λ i. sym (list_all-map (λ y. not (C (f x) y)) f xs) i && apart-map C f xs i

-- a test of all elements, in another order
pub list_all-permutation : {X : Type 0} (p : X → Bool) (xs ys : List X) → IsPermutation xs ys → list_all p xs ≡ true → list_all p ys ≡ true
list_all-permutation p xs ys moved all =
    list_all-from_AllPass p ys (All-permutation (λ x. p x ≡ true) xs ys moved (AllPass-from_list_all p xs all))
