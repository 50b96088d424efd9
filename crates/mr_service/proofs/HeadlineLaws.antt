-- What serves commands keeps both halves of the headline.
use Rattle.std.proofs.Common.{◌≡◌, sym, ap, ◌∙◌, ◌⊎◌, inl, inr, List}
use Rattle.mr_model.specs.Texts.{Text}
use Rattle.mr_model.specs.Replica.{Replica}
use Rattle.mr_model.specs.Replies.{Reply}
use Rattle.mr_model.specs.View.{View, Question, view_of, answer}
use Rattle.mr_model.specs.Step.{Command, IsOfMachine, step}
use Rattle.mr_model.specs.Serving.{Serves}
use Rattle.mr_model.specs.Tables.{Tables, Stands}
use Rattle.mr_service.specs.Headline.{AnswersByView, AnswersQuestion, KeepsHeadline}
use Rattle.mr_service.specs.Replied.{RepliesTo}

-- an answer of the room's view is that of each equal view
pub answers_by_view : (at : Replica) (room : Text) (question : Question) (reply : Reply)
    → reply ≡ answer room (view_of at room) question → AnswersByView at room question reply
answers_by_view at room question reply said = record { of_view = said; alike = λ other same. ap (λ (v : View). answer room v question) same ∙ sym said }

-- the same where memory or the store may have failed
by_view : (at : Replica) (room : Text) (question : Question) (reply : Reply)
    → (reply ≡ answer room (view_of at room) question) ⊎ IsOfMachine reply → AnswersByView at room question reply ⊎ IsOfMachine reply
by_view at room question reply (inl said) = inl (answers_by_view at room question reply said)
by_view at room question reply (inr failed) = inr failed

pub headline_kept : (before after : Tables) (commands : List Command) (replies : List Reply) (a : Replica)
    → Stands before a → Serves before commands replies after → KeepsHeadline a commands replies after
headline_kept before after commands replies a stands serves =
    let (b, run, answered, now) = serves a stands in
    record {
      new = b;
      run = run;
      stands = now;
      answers = λ i room question reply ec er.
          let (at, front, behind, said) = answered i room question reply ec er in
          (at, front, behind, by_view at room question reply said);
    }

-- what is replied to a question by its step is replied by the room's view
pub question_answered : (before : Tables) (command : Command) (reply : Reply) → RepliesTo before command reply → AnswersQuestion before command reply
question_answered before command reply replied a room question stands asked =
    elim (replied a stands) [ inl failed ↦ inr failed | inr said ↦ inl (answers_by_view a room question reply (said ∙ ap (λ (c : Command). (step a c).reply) asked)) ]
