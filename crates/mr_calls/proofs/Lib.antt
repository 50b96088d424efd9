pub mod CallChains
pub mod WayCalls
pub mod TaskChains
pub mod MadeDatabases
