-- A board, its base, with a small one of its own over it: what is seen of the two.
use Rattle.std.specs.Prelude.{◌≡◌, true, [], ◌∷◌}
use Rattle.std.specs.BTreeMap.{insert_entry}
use Rattle.std.specs.BTreeSet.{BTreeSet}
use Rattle.std.specs.List.{AllByRecursion}
use Rattle.std.specs.List.Sorted.{IsStrictlySortedBy}
use Rattle.std.specs.Map.{keys_of}
use Rattle.mr_model.specs.Writes.{Id}
use Rattle.mr_base.specs.Ids.{id_cmp}
use Rattle.mr_replay.specs.Rows.{Rows}
use Rattle.mr_replay.specs.Hidden.{is_hidden}

-- the base, with the own rows put in
abbrev pub overlaid : Rows → Rows → Rows
overlaid base [] = base
overlaid base (e ∷ es) = insert_entry id_cmp (overlaid base es) e.0 e.1

-- both are in order, and no row of the base is seen under the id of an own one
pub record CanOverlay (base : Rows) (hidden : BTreeSet Id) (own : Rows) : Type 0 where
  pub base_order : IsStrictlySortedBy id_cmp (keys_of base)
  pub own_order : IsStrictlySortedBy id_cmp (keys_of own)
  pub aside : AllByRecursion (λ i. is_hidden hidden i ≡ true) (keys_of own)
