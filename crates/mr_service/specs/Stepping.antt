-- Steps of a world and their replies, as values of the definitions.
use Rattle.mr_model.specs.World as model
use Rattle.mr_service.specs.Asked.{local_of, reply_of}
use Rattle.mr_service.specs.declared.steps.Step.{Step}
use Rattle.mr_service.specs.declared.steps.Step.TheVariants as step
use Rattle.mr_service.specs.declared.steps.StepReply.{StepReply}
use Rattle.mr_service.specs.declared.steps.StepReply.TheVariants as reply

abbrev pub step_of : Step → model.Step
step_of (step.Add server) = model.Add server
step_of (step.Do server local) = model.Step.Do server (local_of local)
step_of (step.Make from to max_lines) = model.Make from to max_lines
step_of (step.Deliver batch to bytes) = model.Deliver batch to bytes

abbrev pub step_reply_of : StepReply → model.StepReply
step_reply_of reply.Added = model.Added
step_reply_of reply.There = model.There
step_reply_of reply.NoReplica = model.NoReplica
step_reply_of reply.NoBatch = model.NoBatch
step_reply_of (reply.Made number bytes) = model.Made number bytes
step_reply_of (reply.Said r) = model.Said (reply_of r)
