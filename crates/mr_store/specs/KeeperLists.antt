-- What a keeper of lists is seen as.
use Rattle.std.specs.Prelude.{ℕ}
use Rattle.mr_model.specs.Tables.{Tables}

pub record ListsView : Type 0 where
  pub tables : Tables
  pub failures : ℕ  -- how many calls have answered that the store failed
