pub mod FlaglessWords
pub mod AddressParts
pub mod TableRows
pub mod CommandLines
pub mod CommandsReadBack
pub mod CommandsSpelled
