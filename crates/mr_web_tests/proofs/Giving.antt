-- What one replica gives another, where each text is read back as what was written.
use Rattle.std.proofs.Common.{◌≡◌, refl, ap, subst, ◌∙◌, ℕ, Option, Some, None}
use Rattle.std.specs.Prelude.{Result, Ok, Err, IfOk}
use Rattle.mr_model.specs.Texts.{Text}
use Rattle.mr_model.specs.Replica.{Replica, IsReplica}
use Rattle.mr_model.specs.Refusals.{Refusal, first_refusal}
use Rattle.mr_model.specs.Exchange.{Batch, read_batch}
use Rattle.mr_model.specs.Positions.{position_of, position_text}
use Rattle.mr_model.specs.Replies.{Reply, BatchIs, reply_text}
use Rattle.mr_model.specs.Step.{After, BatchFor, Receive, step, batch_faults, batch_of, batch_reply, batch_unless, receive_batch, receive_read}
use Rattle.mr_model.specs.Tables.{Tables, Stands}
use Rattle.mr_model.specs.Laws.{OwnBatchIsReadBack, PositionTextsAsk}
use Rattle.mr_web_tests.specs.OneCommand.{TakesCommand, IsNoRefusal}
use Rattle.mr_web_tests.specs.HandedOver.{IsTextFor, IsGiven}

-- a batch that is not refused is given
given_unless : (fault : Option Refusal) (b : Batch) → IsNoRefusal (batch_unless fault b) → batch_unless fault b ≡ BatchIs b
given_unless None b not = refl
given_unless (Some e) b not = absurd (not e refl)

-- what is replied to the text of a position, where that is no refusal
pub text_for : PositionTextsAsk → (a b : Replica) (max_lines : ℕ) (position text : Text) (reply : Reply) → IsReplica b → position ≡ position_text (position_of b)
    → reply ≡ (step a (BatchFor position max_lines)).reply → IsNoRefusal reply → text ≡ reply_text reply → IsTextFor a b max_lines text
text_for asked a b max_lines position text reply sound is replied not written =
    let same : reply ≡ batch_reply a (position_of b) max_lines = replied ∙ ap (λ p. (step a (BatchFor p max_lines)).reply) is ∙ asked a b max_lines sound in
    let given : batch_reply a (position_of b) max_lines ≡ BatchIs (batch_of a (position_of b) max_lines) =
    given_unless (first_refusal (batch_faults a (position_of b) max_lines)) (batch_of a (position_of b) max_lines) (subst IsNoRefusal same not) in
    record { given = given; written = written ∙ ap reply_text (same ∙ given) }

-- what came of it where it was received
pub given_to : OwnBatchIsReadBack → (a b : Replica) (max_lines : ℕ) (text : Text) (reply : Reply) (after : Tables) → IsReplica a → IsTextFor a b max_lines text
    → TakesCommand b (Receive text) reply after → IsGiven a b max_lines reply after
given_to back a b max_lines text reply after sound for takes =
    let given = batch_of a (position_of b) max_lines in
    let read : read_batch text ≡ Ok given = ap read_batch for.written ∙ (back a (position_of b) max_lines given sound for.given).1 in
    let same : step b (Receive text) ≡ receive_batch b given = ap (receive_read b) read in
    record { replied = takes.replied ∙ ap (λ (x : After). x.reply) same; stands = subst (Stands after) (ap (λ (x : After). x.replica) same) takes.stands }

-- what holds of a value holds of it in other words
pub if_ok : {V E : Type 0} {P Q : V → Type 0} (result : Result V E) → ((v : V) → P v → Q v) → IfOk result P → IfOk result Q
if_ok (Ok v) f h = f v h
if_ok (Err e) f h = tt
