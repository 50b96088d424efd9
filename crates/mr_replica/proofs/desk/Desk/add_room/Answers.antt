use Rattle.std.proofs.Common.{◌∙◌}
use Rattle.mr_model.specs.Replies.{RoomAdded}
use Rattle.mr_model.specs.Scopes.{Nothing}
use Rattle.mr_model.specs.Step.{add_room}
use Rattle.mr_replica.proofs.Steps.{room_step}
use Rattle.mr_replica.proofs.Taken.{turned, unmade}
use Rattle.mr_tables.specs.Change.{ChangeView}
use Rattle.mr_base.specs.declared.refusals.Refusal.TheVariants as refusal
use Rattle.mr_replica.proofs.Dues.{due_step, is_known_to, room_there}
use Rattle.mr_replica.proofs.desk.Desk.add_room.Goals as goal

pub returns-in-Ok-clause-step : goal.returns-in-Ok-clause-step
returns-in-Ok-clause-step c =
    turned (Nothing) (λ a. add_room a c.args.room.now) (λ _ (x : ChangeView). RoomAdded) (λ (x : ChangeView). x) c.in-Ok.part c.args.self.now c.changed_so.new.self c.add_room.result
    c.changed_so.result (room_step c.args.room.now) c.in-Ok.ensures.part c.add_room.ensures.step c.changed_so.ensures.made c.changed_so.ensures.err c.changed_so.ensures.only

pub returns-in-Err-clause-step : goal.returns-in-Err-clause-step
returns-in-Err-clause-step c =
    unmade (λ a. add_room a c.args.room.now) (λ _ (x : ChangeView). RoomAdded) c.args.self.now c.args.self.now c.in-Err.refusal (λ _. c.args.self.now) (λ a h. c.in-Err.ensures.only a h)

pub returns-in-Ok-clause-own : goal.returns-in-Ok-clause-own
returns-in-Ok-clause-own c = λ a h. c.changed_so.ensures.own c.add_room.ensures.own

pub returns-then-knows-clause-step : goal.returns-then-knows-clause-step
returns-then-knows-clause-step c =
    due_step (λ a. add_room a c.args.room.now) (λ _ _. RoomAdded) c.args.self.now refusal.RoomThere
    (λ a h. room_there c.args.room.now a c.as_str.ensures.is_name (is_known_to c.args.room.now a c.self.view_is h.are c.knows.ensures ∙ c.if-knows.true))
