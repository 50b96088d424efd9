use Rattle.std.proofs.Common.{refl}
use Rattle.sqlite.specs.Held.{state}
use Rattle.mr_calls.proofs.MadeDatabases.{blank_adopted}
use Rattle.mr_offices.specs.Happenings.{first_server}
use Rattle.mr_calls.proofs.databases.databases_law.Goals as goal

pub returns-clause-again : goal.returns-clause-again
returns-clause-again g c old new is clean =
    record { opens = is.opens clean; found = ((state g.S.Store new.0).now.trees, is.opened clean, refl); settled = is.settled clean }

pub returns-clause-founded : goal.returns-clause-founded
returns-clause-founded g c v server before new within other blank is clean =
    record {
      within = within;
      other = other;
      opens = is.opens clean;
      stands = blank_adopted server (first_server v.offices server) before (state g.S.Store new.0).now.trees blank (is.opened clean);
      settled = is.settled clean;
    }
