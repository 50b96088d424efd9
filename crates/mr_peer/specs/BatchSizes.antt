-- How long batches are as texts, and the requests and responses that carry them.
use Rattle.std.specs.Prelude.{◌≡◌, ℕ, ◌+◌, ◌*◌, ◌≤◌, true, length, IsTrue}
use Rattle.mr_model.specs.Texts.{Text}
use Rattle.mr_model.specs.Exchange.{Batch, is_batch, batch_text}
use Rattle.mr_model.specs.Http.{lines_over_http, response_of, response_text}
use Rattle.mr_model.specs.Replica.{Replica, IsReplica}
use Rattle.mr_model.specs.Replies.{BatchIs}
use Rattle.mr_peer.specs.PeerRequests.{is_host, push_request}
use Rattle.mr_model.specs.Step.{BatchFor, step}

-- a write or commit has a line of 403 bytes at most, the header one of 10, and the ending one of 2
abbrev pub BatchesAreShort : Type 0
BatchesAreShort = (b : Batch) → is_batch b ≡ true → length (batch_text b) ≤ 403 * length b.items + 12

-- a batch that a replica gives over HTTP, and the request and the response that carry it
abbrev pub GivenBatchesAreShort : Type 0
GivenBatchesAreShort =
    (a : Replica) (position : Text) (b : Batch) → IsReplica a → (step a (BatchFor position lines_over_http)).reply ≡ BatchIs b
    → (length (batch_text b) ≤ 25_804)
    × ((host : Text) → IsTrue (is_host host) → length (push_request host (batch_text b)) ≤ 26_200)
    × (length (response_text (response_of (BatchIs b))) ≤ 26_200)
