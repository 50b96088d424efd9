use Rattle.std.proofs.Common.{refl}
use Rattle.mr_changes.proofs.IndexLemmas.{is_ready}
use Rattle.mr_changes.proofs.key_indexes.indexes.Goals as goal

pub returns-clause-ready : goal.returns-clause-ready
returns-clause-ready c v trees indexed =
    is_ready v trees refl (λ t e. e) (
      (trees.key 0 refl, trees.table 0 refl),
      (
        (trees.key 2 refl, trees.table 2 refl),
        (
          (trees.key 4 refl, trees.table 4 refl),
          (
            (trees.key 6 refl, trees.table 6 refl),
            (
              (trees.key 8 refl, trees.table 8 refl),
              (
                (trees.key 10 refl, trees.table 10 refl),
                ((trees.key 12 refl, trees.table 12 refl), ((trees.key 14 refl, trees.table 14 refl), ((trees.key 16 refl, trees.table 16 refl), ((trees.key 18 refl, trees.table 18 refl), tt)))),
              ),
            ),
          ),
        ),
      ),
    )
    (indexed.meta, (indexed.room, (indexed.vector, (indexed.write_log, (indexed.undo, (indexed.booking, (indexed.errorlog, (indexed.log, (indexed.cancelled, (indexed.cancels, tt))))))))))
