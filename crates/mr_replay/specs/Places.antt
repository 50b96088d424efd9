-- Places of the program and places of the definitions; undo rows as contracts see them.
use Rattle.std.specs.Prelude.{Option}
use Rattle.mr_model.specs.Writes.{Id}
use Rattle.mr_model.specs.Replay as model
use Rattle.mr_replay.specs.declared.rows.Place.{Place}
use Rattle.mr_replay.specs.declared.rows.Place.TheVariants.{Taken, Logged, Done, Void}

-- the place of the definitions that a place of the program is
abbrev pub place_seen : Place → model.Place
place_seen (Taken k) = model.Taken k
place_seen Logged = model.Logged
place_seen Done = model.Done
place_seen Void = model.Void

-- and back
abbrev pub place_from : model.Place → Place
place_from (model.Taken k) = Taken k
place_from model.Logged = Logged
place_from model.Done = Done
place_from model.Void = Void

-- what undoes one execution: the id of the write, the place that it had, and its target, if it is a cancel
pub record UndoRow : Type 0 where
  pub id : Id
  pub place : model.Place
  pub target : Option Id
