-- What is answered and written, by the tables from before alone: a failure may have shut the keeper since.
use Rattle.std.specs.Prelude.{◌≡◌, ℕ, List, take, Option, Result, Ok, Err}
use Rattle.std.specs.Io.KnownBytes.{Appends, Keeps}
use Rattle.mr_model.specs.Http.{Asked, Faulty, Runs, Response, response_of, response_text}
use Rattle.mr_model.specs.Replies.{Reply}
use Rattle.mr_model.specs.Texts.{Text}
use Rattle.mr_store.specs.declared.keeper.Keeper.{Ghosts}
use Rattle.mr_http.specs.declared.faults.ReadFault.{ReadFault}
use Rattle.mr_http.specs.declared.faults.WebFault.{WebFault}
use Rattle.mr_http.specs.declared.faults.WebFault.TheVariants as fault
use Rattle.mr_service.specs.Replied.{RepliesTo}
use Rattle.mr_web.specs.RequestAsks.{Asks}
use Rattle.mr_web.specs.Views.{bytes_view}
use Rattle.mr_web.specs.declared.replies.Answer.{Answer}

-- The response to what is asked: the one to the fault, or that of some reply. Of a keeper that was open that is the command's reply.
abbrev pub Responds : {K : Type 0} → Ghosts K → K → K → Asked → Response → Type 0
Responds keeper old new (Faulty f) response = response ≡ f
Responds keeper old new (Runs command) response =
    (reply : Reply) × (response ≡ response_of reply)
    × (keeper.is_clean new → keeper.is_open old → RepliesTo (keeper.tables old) command reply)

-- the text and the status of such a response to what the input asks
abbrev pub IsAnswer : {K : Type 0} → Ghosts K → K → K → Text → Text → ℕ → Type 0
IsAnswer keeper old new input output status =
    (asked : Asked) × (response : Response) × Asks input asked × Responds keeper old new asked response
    × (output ≡ response_text response) × (status ≡ response.status)

-- the answer that is made, unless a read failed or memory ran out
abbrev pub MakesReply : (Text → ℕ → Type 0) → Result Answer ReadFault → Type 0
MakesReply IsOne (Ok a) = IsOne (bytes_view a.bytes) a.status
MakesReply IsOne (Err _) = Unit {0}

-- the answer is written, or a front of it where a write failed, or nothing; between what a writer held and holds, where known
abbrev pub Writes : Option (List ℕ) → Option (List ℕ) → (Text → ℕ → Type 0) → Result ℕ WebFault → Type 0
Writes held holds IsOne (Ok status) = (output : Text) × IsOne output status × Appends held holds output
Writes held holds IsOne (Err fault.Write) = (output : Text) × (status : ℕ) × (n : ℕ) × IsOne output status × Appends held holds (take n output)
Writes held holds IsOne (Err _) = Keeps held holds
