use Rattle.std.proofs.Common.{rules, tests, refl, ap, ◌∙◌, ◌≡◌, Bool, List, [], ◌∷◌, map, ◌&&◌}
use Rattle.std.proofs.lemmas.Iterator.{YieldsList-from_slice}
use Rattle.std.proofs.lemmas.Iterator.Search.{all_from_yields_List}
use Rattle.std.specs.List.{list_all}
use Rattle.mr_tasks.specs.RehearsalScript.{is_word}
use Rattle.mr_tasks.proofs.words.are_words.Goals as goal

-- a test of the values is one of what they are
list_all-map : {A B : Type 0} (f : A → B) (test : B → Bool) (xs : List A) → list_all (λ x. test (f x)) xs ≡ list_all test (map f xs)
list_all-map f test [] = refl
list_all-map f test (x ∷ xs) = ap (λ b. test (f x) && b) (list_all-map f test xs)

pub returns : goal.returns
returns c =
    all_from_yields_List (λ t. is_word t.now) _ _ _ c.all.ensures.ran (YieldsList-from_slice c.args.texts.now cc) (λ x b q k. search (rules, tests))
    ∙ list_all-map _ is_word c.args.texts.now
