-- Two different replicas with equal tables: they dropped writes that differ in their alternatives, and dropped them in another order.
use Rattle.std.proofs.Common.{◌≡◌, refl, subst, ℕ, List, [], ◌∷◌, Some}
use Rattle.std.specs.Prelude.{codes}
use Rattle.std.specs.Fmt.{digits}
use Rattle.mr_model.specs.Slots.{Slot}
use Rattle.mr_model.specs.Writes.{Id, Books, Write}
use Rattle.mr_model.specs.Replica.{Replica, opening, IsReplica}
use Rattle.mr_model.specs.Exchange.{First, W, C, Complete, Batch, batch_text}
use Rattle.mr_model.specs.Step.{Command, Receive, Truncate, step}
use Rattle.mr_model.specs.Tables.{tables_of}
use Rattle.mr_model.proofs.StepsKeep.{step_keeps}
use Rattle.mr_model.proofs.RunsAnswer.{opening_is}
use Rattle.mr_model.proofs.EqualTables.{equal_replies}

abbrev at : ℕ → Slot
at minute = record { day = record { year = 2024; month = 1; day = 1 }; start = minute }

abbrev alpha : List Slot → Write
alpha others = record { stamp = record { server = 1; n = 1; time = 1 }; room = codes "oak"; action = Books (record { title = codes "Alpha"; length = 30; wish = at 540; alternatives = others }) }

abbrev beta : Write
beta = record { stamp = record { server = 3; n = 1; time = 2 }; room = codes "oak"; action = Books (record { title = codes "Beta"; length = 30; wish = at 600; alternatives = [] }) }

abbrev one : Replica
one =
    record {
      server = 2;
      primary = 1;
      known = alpha [] ∷ beta ∷ [];
      commits = record { server = 1; n = 1 } ∷ record { server = 3; n = 1 } ∷ [];
      dropped = 2;
      rooms = codes "oak" ∷ [];
    }

abbrev other : Replica
other =
    record {
      server = 2;
      primary = 1;
      known = alpha (at 660 ∷ []) ∷ beta ∷ [];
      commits = record { server = 3; n = 1 } ∷ record { server = 1; n = 1 } ∷ [];
      dropped = 2;
      rooms = codes "oak" ∷ [];
    }

equal_tables : tables_of one ≡ tables_of other
equal_tables = refl

-- both are reached by a batch and a truncation, so both are sound
abbrev batch : List Slot → Id → Id → Batch
batch others first second =
    record { version = First; header = Some (record { from = 1; primary = 1 }); items = W (alpha others) ∷ W beta ∷ C 1 first ∷ C 2 second ∷ []; ending = Complete }

abbrev reached : Batch → Replica
reached b = (step (step (opening 2 1) (Receive (batch_text b))).replica (Truncate 2)).replica

one_reached : reached (batch [] (record { server = 1; n = 1 }) (record { server = 3; n = 1 })) ≡ one
unfolding digits
one_reached = refl

other_reached : reached (batch (at 660 ∷ []) (record { server = 3; n = 1 }) (record { server = 1; n = 1 })) ≡ other
unfolding digits
other_reached = refl

sound : (b : Batch) → IsReplica (reached b)
sound b = step_keeps (step (opening 2 1) (Receive (batch_text b))).replica (Truncate 2) (step_keeps (opening 2 1) (Receive (batch_text b)) (opening_is 2 1 refl refl))

one_sound : IsReplica one
one_sound = subst IsReplica one_reached (sound (batch [] (record { server = 1; n = 1 }) (record { server = 3; n = 1 })))

other_sound : IsReplica other
other_sound = subst IsReplica other_reached (sound (batch (at 660 ∷ []) (record { server = 3; n = 1 }) (record { server = 1; n = 1 })))

-- so that they reply alike to every command
alike : (c : Command) → (step one c).reply ≡ (step other c).reply
alike c = equal_replies one other c one_sound other_sound equal_tables
