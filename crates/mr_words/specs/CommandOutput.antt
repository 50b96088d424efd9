-- What commands print, and with which statuses.
use Rattle.std.specs.Prelude.{◌≡◌, ℕ, ◌++◌, ◌∷◌, [], ◌⊎◌, codes, Option}
use Rattle.std.specs.Io.KnownBytes.{Appends}
use Rattle.mr_model.specs.Texts.{Text, line}
use Rattle.mr_model.specs.Refusals.{Refusal, refusal_text}
use Rattle.mr_model.specs.Replies.{Reply, Refused, reply_text}

abbrev pub ok_line : Text
ok_line = line (codes "ok")

abbrev pub no_memory_line : Text
no_memory_line = codes "refused 24 OutOfMemory" ++ 10 ∷ []

-- 0, or 1 where it is a refusal
abbrev pub status_of : Reply → ℕ
status_of (Refused e) = 1
status_of _ = 0

-- its text is printed; or memory is wanting for the text, which is printed in its place; or the writer doesn't take what is printed
abbrev pub PrintsReply : Reply → Option Text → Option Text → ℕ → Type 0
PrintsReply reply held holds status =
    ((status ≡ status_of reply) × Appends held holds (reply_text reply))
    ⊎ (((status ≡ 1) × Appends held holds no_memory_line) ⊎ (status ≡ 3))

-- a refusal is printed, or want of memory in its place
abbrev pub TellsRefusal : Option Text → Option Text → Type 0
TellsRefusal held holds = ((e : Refusal) × Appends held holds (line (refusal_text e))) ⊎ Appends held holds no_memory_line
