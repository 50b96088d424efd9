-- A reader of the contracts trusts all of these but SentRequests, which serves private clauses alone.
pub mod AskedInTurn
pub mod Bridged
pub mod Connections
pub mod Hosts
pub mod Printed
pub mod ExchangeRounds
pub mod SentRequests
pub mod Ways
