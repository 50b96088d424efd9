-- What one replica gives another: texts drop out of it.
use Rattle.std.specs.Prelude.{◌≡◌, ℕ}
use Rattle.mr_model.specs.Texts.{Text}
use Rattle.mr_model.specs.Replica.{Replica}
use Rattle.mr_model.specs.Exchange.{batch_text}
use Rattle.mr_model.specs.Positions.{position_of}
use Rattle.mr_model.specs.Replies.{Reply, BatchIs}
use Rattle.mr_model.specs.Step.{batch_of, batch_reply, receive_batch}
use Rattle.mr_model.specs.Tables.{Tables, Stands}

-- the text of what this replica gives the other one, in so many lines at most
pub record IsTextFor (from to : Replica) (max_lines : ℕ) (text : Text) : Type 0 where
  pub given : batch_reply from (position_of to) max_lines ≡ BatchIs (batch_of from (position_of to) max_lines)
  pub written : text ≡ batch_text (batch_of from (position_of to) max_lines)

-- what came of it there: the reply is that of taking this batch, and these tables stand for the replica that took it
pub record IsGiven (from to : Replica) (max_lines : ℕ) (reply : Reply) (after : Tables) : Type 0 where
  pub replied : reply ≡ (receive_batch to (batch_of from (position_of to) max_lines)).reply
  pub stands : Stands after (receive_batch to (batch_of from (position_of to) max_lines)).replica
