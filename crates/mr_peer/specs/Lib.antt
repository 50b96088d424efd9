-- A reader of the contracts trusts BatchSizes, PeerAsking, Exchanged, OnceAsked, ReplyLaw, ReplyRead, PeerReplies, PeerRequests, Rounds, ExchangeSteps,
-- PeerTaking and Took. The others, Seen and TookWords, serve private clauses and proofs alone.
pub mod BatchSizes
pub mod Exchanged
pub mod ExchangeSteps
pub mod OnceAsked
pub mod PeerAsking
pub mod PeerReplies
pub mod PeerRequests
pub mod PeerTaking
pub mod ReplyLaw
pub mod ReplyRead
pub mod Rounds
pub mod Seen
pub mod Took
pub mod TookWords
