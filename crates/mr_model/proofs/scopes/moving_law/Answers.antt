use Rattle.std.proofs.Common.{IsTrue}
use Rattle.mr_model.specs.Exchange.{is_item}
use Rattle.mr_model.proofs.Members.{all_has, has_all}
use Rattle.mr_model.proofs.TakingKeeps.{IsItem, versions_item}
use Rattle.mr_model.proofs.Moved.{batches_move_touched_rooms}
use Rattle.mr_model.proofs.scopes.moving_law.Goals as goal

pub returns : goal.returns
returns c = record {
  batches = λ v items line p q h all e.
      batches_move_touched_rooms items line p q h (has_all IsItem items (λ x g. versions_item v x (all_has (λ y. IsTrue (is_item v y)) x items all g))) e;
}
