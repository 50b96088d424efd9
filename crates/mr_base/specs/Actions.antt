-- Actions of the program as those of the definitions.
use Rattle.mr_model.specs.Writes as model
use Rattle.mr_base.specs.declared.actions.Action.{Action}
use Rattle.mr_base.specs.declared.actions.Action.TheVariants.{Books, Cancels}

abbrev pub action_of : Action → model.Action
action_of (Books meeting) = model.Books meeting
action_of (Cancels target) = model.Cancels target
