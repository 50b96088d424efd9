-- A reader of the contracts trusts these, and what mr_branches, mr_net, mr_tasks and mr_sql name.
pub mod Calls
pub mod CommandCalls
pub mod TaskCalls
pub mod Databases
