-- What a question about a room is answered.
use Rattle.std.proofs.Common.{◌≡◌, ℕ, ◌⊎◌, inl, inr, Option}
use Rattle.mr_model.specs.Texts.{Text}
use Rattle.mr_model.specs.Replica.{Replica}
use Rattle.mr_model.specs.Replies.{Reply}
use Rattle.mr_model.specs.View.{Question, view_of, answer}
use Rattle.mr_model.specs.Step.{Ask, step, IsOfMachine}
use Rattle.mr_model.specs.Tables.{Tables}
use Rattle.mr_service.specs.Replied.{RepliesTo}
use Rattle.mr_words.specs.CommandOutput.{PrintsReply}
use Rattle.mr_tasks.specs.CommandEffects.{TellsAnswer}

reply_of_question : (a : Replica) (room : Text) (question : Question) (reply : Reply) → IsOfMachine reply ⊎ (reply ≡ (step a (Ask room question)).reply)
    → (reply ≡ answer room (view_of a room) question) ⊎ IsOfMachine reply
reply_of_question a room question reply (inl failed) = inr failed
reply_of_question a room question reply (inr said) = inl said

-- the reply to a question is the answer of the room's view
pub question_is_told : (before : Tables) (room : Text) (question : Question) (reply : Reply) (held holds : Option Text) (status : ℕ)
    → RepliesTo before (Ask room question) reply → PrintsReply reply held holds status → TellsAnswer before room question held holds status
question_is_told before room question reply held holds status replied told = λ a stands.
    (reply, reply_of_question a room question reply (replied a stands), told)
