-- Lines, one after the other.
use Rattle.std.proofs.Common.{◌≡◌, sym, ap, ◌∙◌, ℕ, Bool, ◌+◌, ◌<◌, List, [], ◌∷◌, ◌++◌, length, map, take, get_or, append-nil, append_assoc}
use Rattle.std.proofs.lemmas.Grind.{flat_map-append}
use Rattle.std.proofs.lemmas.List.{map_more, map-append}
use Rattle.std.proofs.lemmas.List.Elements.{filter-append}
use Rattle.std.specs.List.{filter}
use Rattle.std.proofs.lemmas.Simd.{map-map}
use Rattle.std.specs.Prelude.{OnOk, Result, Ok, Err}
use Rattle.mr_model.specs.Texts.{Text, line, lines_text}

-- the line of one item more, behind those of the items so far
pub lines_more : {A B : Type 0} (f : B → Text) (g : A → B) (before now after : Text) (xs : List A) (i : ℕ) (x : A) → now ≡ before ++ lines_text (map f (map g (take i xs)))
    → after ≡ now ++ line (f (g x)) → x ≡ get_or xs i x → i < length xs → after ≡ before ++ lines_text (map f (map g (take (i + 1) xs)))
lines_more {A} {B} f g before now after xs i x so_far one at l =
    one ∙ ap (λ t. t ++ line (f (g x))) so_far
    ∙ append_assoc before (lines_text (map f (map g (take i xs)))) (line (f (g x)))
    ∙ ap (λ t. before ++ t)
    (ap (λ t. lines_text (map f (map g (take i xs))) ++ t) (sym (append-nil (line (f (g x)))))
    ∙ sym (flat_map-append line (map f (map g (take i xs))) (f (g x) ∷ []))
    ∙ ap (λ ls. lines_text (ls ++ f (g x) ∷ [])) (map-map f g (take i xs))
    ∙ ap (λ y. lines_text (map (λ z. f (g z)) (take i xs) ++ f (g y) ∷ [])) at
    ∙ ap lines_text (sym (map_more (λ z. f (g z)) xs i x l))
    ∙ ap lines_text (sym (map-map f g (take (i + 1) xs))))

-- the LF stands behind the last word of a line
pub line_of_three : (m i t : Text) → line (m ++ 32 ∷ (i ++ 32 ∷ t)) ≡ m ++ 32 ∷ (i ++ 32 ∷ (t ++ 10 ∷ []))
line_of_three m i t = append_assoc m (32 ∷ (i ++ 32 ∷ t)) (10 ∷ []) ∙ ap (λ x. m ++ 32 ∷ x) (append_assoc i (32 ∷ t) (10 ∷ []))

-- what is so where a call succeeds makes so what follows from it
pub on_ok : {T E : Type 0} (r : Result T E) (P Q : Type 0) → (P → Q) → OnOk r P → OnOk r Q
on_ok (Ok x) P Q f h = f h
on_ok (Err e) P Q f h = tt

-- the same of items that are seen as others first
pub lines_more_of : {A B C : Type 0} (f : B → Text) (g : C → B) (h : A → C) (before now after : Text) (xs : List A) (i : ℕ) (x : A)
    → now ≡ before ++ lines_text (map f (map g (map h (take i xs)))) → after ≡ now ++ line (f (g (h x))) → x ≡ get_or xs i x → i < length xs
    → after ≡ before ++ lines_text (map f (map g (map h (take (i + 1) xs))))
lines_more_of f g h before now after xs i x so_far one at l =
    lines_more f (λ z. g (h z)) before now after xs i x (so_far ∙ ap (λ ys. before ++ lines_text (map f ys)) (map-map g h (take i xs))) one at l
    ∙ ap (λ ys. before ++ lines_text (map f ys)) (sym (map-map g h (take (i + 1) xs)))

-- what is made of those that pass a test, and of one item more
pub picked_more : {A B : Type 0} (f : A → B) (p : A → Bool) (before now after : List B) (xs : List A) (x : A)
    → now ≡ before ++ map f (filter p xs) → after ≡ now ++ map f (filter p (x ∷ [])) → after ≡ before ++ map f (filter p (xs ++ x ∷ []))
picked_more f p before now after xs x so_far one =
    one ∙ ap (λ ys. ys ++ map f (filter p (x ∷ []))) so_far
    ∙ append_assoc before (map f (filter p xs)) (map f (filter p (x ∷ [])))
    ∙ ap (λ ys. before ++ ys) (sym (map-append f (filter p xs) (filter p (x ∷ []))) ∙ ap (map f) (sym (filter-append p xs (x ∷ []))))
