-- What a command line prints, and with which status.
use Rattle.std.specs.Prelude.{◌≡◌, ◌⊎◌, ℕ, Option, Some, None}
use Rattle.std.specs.Io.KnownBytes.{Appends}
use Rattle.std.specs.declared.string.String.{String}
use Rattle.std.specs.declared.alloc.Global.{Global}
use Rattle.mr_model.specs.Texts.{Text, line}
use Rattle.mr_model.specs.Refusals.{Refusal, OutOfMemory, Store, NotAReplica, refusal_text}
use Rattle.mr_model.specs.Replica.{Replica, opening}
use Rattle.mr_model.specs.Replies.{Reply}
use Rattle.mr_model.specs.Step.{Command, Receive, BatchFor, step}
use Rattle.mr_model.specs.Tables.{Stands}
use Rattle.mr_store.specs.declared.keeper.Keeper.{Ghosts}
use Rattle.mr_store.specs.KeeperCalls.{IsSettled}
use Rattle.mr_service.specs.Asked.{local_of}
use Rattle.mr_words.specs.CommandOutput.{PrintsReply, ok_line}
use Rattle.mr_net.specs.Hosts.{IsPeer}
use Rattle.mr_net.specs.Printed.{EndsExchange, EndsServing, TellsBadAddress}
use Rattle.mr_words.specs.CommandTable.{Invoked, Init, Ask, Export, Import, Rehearse, Serve, Exchange, Bridge}
use Rattle.mr_words.specs.declared.invocations.Task.{Task}
use Rattle.mr_words.specs.declared.invocations.Task.TheVariants as task
use Rattle.mr_tasks.specs.CommandEffects.{TellsWritten}
use Rattle.mr_tasks.specs.Tasks.{IsBatchFor, IsReceive, EndsAskingOne, EndsInit, EndsRehearsal}

-- ---- exchanges

-- the database is exchanged with the peer at this address, or that is told to be none
pub record EndsExchangeAt (address : Text) (held holds : Option Text) (status : ℕ) : Type 0 where
  pub asked : (host : Text) (port : ℕ) → IsPeer address host port → EndsExchange held holds status
  pub bad : ((host : Text) (port : ℕ) → ¬ IsPeer address host port) → TellsBadAddress held holds status

-- ---- command lines

-- what a command line that asks for this prints, where databases are those of such keepers, copies those of such ones, and their trees those of such
abbrev pub EndsAs : {K C T : Type 0} → Ghosts K → Ghosts C → Ghosts T → Invoked → Option Text → Option Text → ℕ → Type 0
EndsAs keeper copy trees (Init database server primary) = EndsInit keeper server primary
EndsAs keeper copy trees (Ask database command) = EndsAskingOne keeper copy trees (λ c. c ≡ command) PrintsReply
EndsAs keeper copy trees (Export database position batch max_lines) = EndsAskingOne keeper copy trees (IsBatchFor max_lines) TellsWritten
EndsAs keeper copy trees (Import database batch) = EndsAskingOne keeper copy trees IsReceive PrintsReply
EndsAs keeper copy trees (Rehearse script) = EndsRehearsal
EndsAs keeper copy trees (Serve database port connections) = EndsServing port connections
EndsAs keeper copy trees (Exchange database address) = EndsExchangeAt address
EndsAs keeper copy trees (Bridge database other) = EndsExchange
