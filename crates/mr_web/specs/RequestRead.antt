-- How far a request is read.
use Rattle.std.specs.Prelude.{◌≡◌, ◌≤◌, ◌-◌, ◌++◌, ◌⊎◌, ℕ, [], length, Option, Result, Ok, Err}
use Rattle.std.specs.Io.KnownBytes.{Consumes}
use Rattle.httparse.specs.Grammar.{RequestHead}
use Rattle.mr_model.specs.Texts.{Text}
use Rattle.mr_model.specs.Http.{Route}
use Rattle.mr_http.specs.Heads.{IsHead}
use Rattle.mr_http.specs.Reading.{AwaitsHead, IsReadWhile}
use Rattle.mr_web.specs.RequestAsks.{asked_by}
use Rattle.mr_web.specs.declared.rejections.Stop.{Stop}
use Rattle.mr_web.specs.declared.rejections.Stop.TheVariants as stop

-- behind the first bytes, in which the head was looked for, nothing more was read, or at most what they lack of the body that is asked for
abbrev pub IsRestOfBody : Text → Text → Type 0
IsRestOfBody first more =
    (more ≡ [])
    ⊎ ((h : RequestHead) × (rest : Text) × (asked : Route × ℕ) × IsHead first h rest × (asked_by h ≡ Ok asked) × (length more ≤ asked.1 - length rest))

-- what a reader gave, where that is known: pieces until there was a head or none could come, and then what they lack of the body
abbrev pub ReadsOneRequest : Option Text → Option Text → Type 0
ReadsOneRequest known left =
    (first : Text) × (more : Text) × Consumes known left (first ++ more) × IsReadWhile AwaitsHead first × IsRestOfBody first more

-- it holds, unless a read failed or memory ran out
abbrev pub UnlessFault : {X : Type 0} → Type 0 → Result X Stop → Type 0
UnlessFault P (Ok x) = P
UnlessFault P (Err (stop.Rejected r)) = P
UnlessFault P (Err (stop.Fault f)) = Unit {0}
