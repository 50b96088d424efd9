-- The id that a command gives to the write that it makes.
use Rattle.std.specs.Prelude.{Result, Ok, Err, Option, Some, None}
use Rattle.mr_model.specs.Writes.{Id, Stamp}
use Rattle.mr_model.specs.Scopes.{Scope, Nothing, InRoom, OfTarget, NextCommits, UpTo, Above, OfItems}
use Rattle.mr_base.specs.declared.refusals.Refusal.{Refusal}
use Rattle.mr_tables.specs.declared.summary.Summary.{Summary}
use Rattle.mr_tables.specs.Summary.{stamp_next}

abbrev pub id_of_stamp : Result Stamp Refusal → Option Id
id_of_stamp (Ok stamp) = Some (record { server = stamp.server; n = stamp.n })
id_of_stamp (Err e) = None

-- that of the next write of the own server, unless its count or the clock is at its limit
abbrev pub next_own_id : Summary → Option Id
next_own_id s = id_of_stamp (stamp_next s)

-- submissions and cancels make a write, and no other command does
abbrev pub id_given : Scope → Summary → Option Id
id_given (InRoom room) s = next_own_id s
id_given (OfTarget target) s = next_own_id s
id_given Nothing s = None
id_given (NextCommits count) s = None
id_given (UpTo number) s = None
id_given (Above commits) s = None
id_given (OfItems items) s = None
