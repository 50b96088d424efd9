-- How far a reply is read.
use Rattle.std.specs.Prelude.{◌≡◌, ◌≤◌, ◌-◌, ◌++◌, ◌⊎◌, ℕ, [], length, Option, Some}
use Rattle.std.specs.Io.KnownBytes.{Consumes}
use Rattle.httparse.specs.Grammar.{ResponseHead}
use Rattle.mr_model.specs.Texts.{Text}
use Rattle.mr_http.specs.Heads.{IsReplyHead}
use Rattle.mr_http.specs.Reading.{AwaitsReplyHead, IsReadWhile}
use Rattle.mr_peer.specs.PeerReplies.{reply_length}

-- behind the first bytes, in which the head was looked for, nothing more was read, or at most what they lack of the body that it states
abbrev pub IsRestOfReply : Text → Text → Type 0
IsRestOfReply first more =
    (more ≡ [])
    ⊎ ((h : ResponseHead) × (rest : Text) × (n : ℕ) × IsReplyHead first h rest × (reply_length h ≡ Some n) × (length more ≤ n - length rest))

-- what a reader gave, where that is known: pieces until there was a head or none could come, and then what they lack of the body
abbrev pub ReadsOneReply : Option Text → Option Text → Type 0
ReadsOneReply known left =
    (first : Text) × (more : Text) × Consumes known left (first ++ more) × IsReadWhile AwaitsReplyHead first × IsRestOfReply first more
