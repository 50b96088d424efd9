-- What is printed for the steps of a script.
use Rattle.std.specs.Prelude.{◌≡◌, ℕ, List, [], ◌∷◌, ◌++◌, take, flat_map, ◌⊎◌, codes, decimal, Option, Some, None, Ok, Err, ⊤}
use Rattle.std.specs.Io.KnownBytes.{Appends}
use Rattle.mr_model.specs.Texts.{Text, words, lines_text}
use Rattle.mr_model.specs.Replies.{reply_text}
use Rattle.mr_model.specs.World.{World, empty_world, Step, StepReply, Added, There, NoReplica, NoBatch, Made, Said}
use Rattle.mr_model.specs.Honest.{IsWorldRun}
use Rattle.mr_words.specs.CommandOutput.{no_memory_line}
use Rattle.mr_tasks.specs.RehearsalScript.{ReadsAsScript}

-- the text of a reply
abbrev pub step_reply_text : StepReply → Text
step_reply_text Added = lines_text (codes "ok" ∷ [])
step_reply_text There = lines_text (codes "there" ∷ [])
step_reply_text NoReplica = lines_text (codes "no replica" ∷ [])
step_reply_text NoBatch = lines_text (codes "no batch" ∷ [])
step_reply_text (Made number bytes) = lines_text (words (codes "batch" ∷ decimal number ∷ decimal bytes ∷ codes "bytes" ∷ []) ∷ [])
step_reply_text (Said reply) = reply_text reply

-- ---- a whole script

-- what is printed for these steps, from the empty world on
pub record Prints (steps : List Step) (output : Text) : Type 0 where
  pub replies : List StepReply
  pub world : World
  pub taken : IsWorldRun empty_world steps replies world
  pub printed : output ≡ flat_map step_reply_text replies

abbrev pub bad_line : ℕ → Text
bad_line number = codes "bad script line " ++ decimal number ++ 10 ∷ []

-- a script was run to its end
abbrev pub Rehearses : Text → Option Text → Option Text → Type 0
Rehearses bytes held holds = (steps : List Step) × (output : Text) × ReadsAsScript bytes (Ok steps) × Prints steps output × Appends held holds output

-- the steps were run, and memory was wanting for a reply, behind the texts of those before it
pub record StopsIn (steps : List Step) (held holds : Option Text) : Type 0 where
  pub replies : List StepReply
  pub world : World
  pub number : ℕ
  pub taken : IsWorldRun empty_world steps replies world
  pub told : Appends held holds (flat_map step_reply_text (take number replies) ++ no_memory_line)

-- a script was not run, for its first bad line or for want of memory; or memory was wanting on the way
abbrev pub StopsRehearsing : Text → Option Text → Option Text → Type 0
StopsRehearsing bytes held holds =
    ((number : ℕ) × ReadsAsScript bytes (Err number) × Appends held holds (bad_line number))
    ⊎ (Appends held holds no_memory_line ⊎ ((steps : List Step) × ReadsAsScript bytes (Ok steps) × StopsIn steps held holds))

-- the bytes are all that the reader had, as far as that is known
abbrev pub IsKnownInput : Option Text → Text → Type 0
IsKnownInput None bytes = ⊤
IsKnownInput (Some known) bytes = bytes ≡ known

-- the bytes are all that this reader had, where there is one
abbrev pub GivesInput : {R : Type 0} → (R → Option Text) → Option R → Text → Type 0
GivesInput remaining None bytes = ⊥
GivesInput remaining (Some reader) bytes = IsKnownInput (remaining reader) bytes

-- ---- command lines

abbrev pub bad_words_line : Text
bad_words_line = codes "bad command line" ++ 10 ∷ []
