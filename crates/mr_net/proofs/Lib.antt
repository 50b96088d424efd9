pub mod BridgeLaws
pub mod ExchangeLaws
pub mod PrintedLines
pub mod RoundAsks
pub mod RoundLaws
pub mod ServingLaws
pub mod WayAsks
pub mod WayLaws
