-- What tasks stand for, and what is found where a database is opened.
use Rattle.std.proofs.Common.{◌≡◌, sym, subst, ℕ, ◌⊎◌, inl, inr, Option, Some, None}
use Rattle.std.specs.declared.string.String.{String}
use Rattle.std.specs.declared.alloc.Global.{Global}
use Rattle.sqlite_trees.specs.Tree.{Trees}
use Rattle.mr_model.specs.Texts.{Text}
use Rattle.mr_model.specs.Replica.{opening}
use Rattle.mr_model.specs.Replies.{Reply}
use Rattle.mr_model.specs.Step.{Command}
use Rattle.mr_model.specs.Tables.{Stands}
use Rattle.mr_rows.specs.Database.{tables_in}
use Rattle.mr_sql.specs.Found.{IsAdopted}
use Rattle.mr_words.specs.declared.invocations.Task.{Task}
use Rattle.mr_words.specs.declared.invocations.Task.TheVariants as task
use Rattle.mr_tasks.specs.Tasks.{IsCommandFor, IsCommandWith, TellsTo, TellsToFile, file_for}

-- the tables of an adopted database are those of a replica that knows nothing yet, or they name this server and primary, moved up or not
pub adopted_tables : (server primary : ℕ) (before after : Trees) → IsAdopted server primary before after
    → Stands (tables_in after) (opening server primary) ⊎ (((tables_in after).meta.server ≡ server) × ((tables_in after).meta.primary ≡ primary))
adopted_tables server primary before after (inl blank) = inl blank.1
adopted_tables server primary before after (inr ours) = inr ours.1

-- a task is known by its kind
pub as_task : {asked given : Task} (Has : Text → Type 0) (command : Command) (file : Option (String Global)) → asked ≡ given
    → IsCommandWith given Has command × (file ≡ file_for given) → IsCommandWith asked Has command × (file ≡ file_for asked)
as_task Has command file same is = subst (λ t. IsCommandWith t Has command × (file ≡ file_for t)) (sym same) is

-- a command is that of its task, whatever is known of the file
pub for_any : (asked : Task) (Has : Text → Type 0) (command : Command) → IsCommandWith asked Has command → IsCommandFor asked command
for_any (task.Local local) Has command is = is
for_any (task.Import batch) Has command is = (is.0, is.2)
for_any (task.Export position out lines) Has command is = (is.0, is.2)

-- what is told of a reply, whatever is known of files
pub told_to : {M : Type 0} (file : Option (String Global)) (before after : M) (reply : Reply) (held holds : Option Text) (status : ℕ)
    → TellsToFile file before after reply held holds status → TellsTo file reply held holds status
told_to None before after reply held holds status told = told.0
told_to (Some path) before after reply held holds status told = told.0
