-- A reader of the contracts trusts RequestAsks, Cancellations, JsonBodies, RequestLaw, RequestRead, Routes, RequestServed,
-- Submissions, Views, RouteViews and RepliesWritten. The others, Plain and ReplyHeads, serve private clauses and proofs
-- alone.
pub mod Cancellations
pub mod JsonBodies
pub mod Plain
pub mod RepliesWritten
pub mod ReplyHeads
pub mod RequestAsks
pub mod RequestLaw
pub mod RequestRead
pub mod RequestServed
pub mod Routes
pub mod RouteViews
pub mod Submissions
pub mod Views
