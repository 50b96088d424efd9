-- A test of all elements of lists that are made of rows, one behind the other.
use Rattle.std.proofs.Common.{◌≡◌, ◌&&◌, ◌++◌, Bool, List, map, ap, ◌∙◌}
use Rattle.std.proofs.lemmas.List.Folds.{list_all-append, list_all-map}
use Rattle.std.specs.List.{list_all}

-- of rows of one table, before what is made of others
pub all_mapped : {R X : Type 0} (p : X → Bool) (f : R → X) (rows : List R) (others : List X) → list_all p (map f rows ++ others) ≡ (list_all (λ row. p (f row)) rows && list_all p others)
all_mapped p f rows others =
    list_all-append p (map f rows) others ∙ ap (λ b. b && list_all p others) (list_all-map p f rows)
