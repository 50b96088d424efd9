-- The numbers in the rows of a replica are within the limits of positions.
use Rattle.std.proofs.Common.{◌≤◌, ◌==◌, Bool, true, false, ℕ, [], ◌∷◌}
use Rattle.std.specs.List.{AllByRecursion}
use Rattle.std.specs.Prelude.{if◌then◌else◌}
use Rattle.std.proofs.lemmas.List.Elements.{All-from_recursion}
use Rattle.mr_model.specs.Replica.{Replica, IsReplica, count_of, last_time, committed_count}
use Rattle.mr_model.specs.Tables.{VectorRow, vector_row, tables_of}
use Rattle.mr_model.specs.Texts.{numbers_on}
use Rattle.mr_model.proofs.BatchItems.{all_flat_map}
use Rattle.mr_model.proofs.Members.{has_all}
use Rattle.mr_model.proofs.StepsKeep.{count_within}
use Rattle.mr_replica.specs.Desk.{IsWithinLimits}
use Rattle.mr_tables.proofs.CountLimits.{few_commits}

pub tables_within : (a : Replica) → IsReplica a → IsWithinLimits (tables_of a)
tables_within a sound = record {
  commits = few_commits a sound;
  counts =
      All-from_recursion (λ (row : VectorRow). row.count ≤ 999_999_999) (tables_of a).vector
      (all_flat_map (λ s. Unit {0}) (λ (row : VectorRow). row.count ≤ 999_999_999) (vector_row a) (λ s u. each s (count_of a s == 0)) (numbers_on 1 99)
      (has_all (λ s. Unit {0}) (numbers_on 1 99) (λ s h. tt)));
}
  where
    each : (s : ℕ) (none : Bool)
        → AllByRecursion (λ (row : VectorRow). row.count ≤ 999_999_999)
        (if none then [] else record { server = s; count = count_of a s; last_time = last_time a s; committed = committed_count a s } ∷ [])
    each s true = tt
    each s false = (count_within a s sound, tt)
