-- Of tables that stand for a replica no row has the id that a command gives.
use Rattle.std.proofs.Common.{◌≡◌, refl, ap, ◌∙◌, ◌+◌, Bool, true, false, cond, Ok, Err, arith}
use Rattle.std.specs.Prelude.{nat_le}
use Rattle.mr_model.specs.Writes.{Stamp, greatest_count, greatest_time}
use Rattle.mr_model.specs.Replica.{Replica, IsReplica, count_of, clock_of}
use Rattle.mr_model.specs.Scopes.{Scope, Nothing, InRoom, OfTarget, NextCommits, UpTo, Above, OfItems}
use Rattle.mr_model.specs.Tables.{Tables, Stands}
use Rattle.mr_base.specs.declared.refusals.Refusal.TheVariants.{ClockExhausted, CountExhausted}
use Rattle.mr_tables.specs.Summary.{summary_of, stamp_next}
use Rattle.mr_tables.proofs.Summaries.{tally-of}
use Rattle.mr_part.proofs.Submitting.{own_server}
use Rattle.mr_part.specs.NextId.{id_of_stamp, next_own_id, id_given}
use Rattle.mr_agree.proofs.FreeIds.{next_ids_are_free}
use Rattle.mr_replica.specs.Taken.{is_id_taken}

-- the next stamp by the count of the own writes
pub stamp_told : (a : Replica) → IsReplica a
    → stamp_next (summary_of a) ≡ cond (nat_le greatest_time (clock_of a)) (Err ClockExhausted)
    (cond (nat_le greatest_count (count_of a a.server)) (Err CountExhausted) (Ok (record { server = a.server; n = count_of a a.server + 1; time = clock_of a + 1 })))
stamp_told a sound =
    let tally = ap (λ x. x.count) (tally-of a a.server (own_server a sound)) in
    λ i. cond (nat_le greatest_time (clock_of a)) (Err ClockExhausted)
    (cond (nat_le greatest_count (tally i)) (Err CountExhausted) (Ok (record { server = a.server; n = tally i + 1; time = clock_of a + 1 })))

-- the next id of a replica is that behind its own writes, where there is one
next_taken : (t : Tables) (a : Replica) → Stands t a → is_id_taken (next_own_id (summary_of a)) t ≡ false
next_taken t a h = ap (λ s. is_id_taken (id_of_stamp s) t) (stamp_told a h.sound) ∙ go (nat_le greatest_time (clock_of a)) (nat_le greatest_count (count_of a a.server))
  where
    own : Stamp
    own = record { server = a.server; n = count_of a a.server + 1; time = clock_of a + 1 }

    go : (b c : Bool) → is_id_taken (id_of_stamp (cond b (Err ClockExhausted) (cond c (Err CountExhausted) (Ok own)))) t ≡ false
    go true c = refl
    go false true = refl
    go false false = next_ids_are_free t a (record { server = a.server; n = count_of a a.server + 1 }) h (omega arith)

pub given_free : (s : Scope) (t : Tables) (a : Replica) → Stands t a → is_id_taken (id_given s (summary_of a)) t ≡ false
given_free (InRoom room) t a h = next_taken t a h
given_free (OfTarget target) t a h = next_taken t a h
given_free Nothing t a h = refl
given_free (NextCommits k) t a h = refl
given_free (UpTo d) t a h = refl
given_free (Above c) t a h = refl
given_free (OfItems items) t a h = refl
