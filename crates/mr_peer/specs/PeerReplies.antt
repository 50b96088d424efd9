-- What a client makes of a reply.
use Rattle.std.specs.Prelude.{◌≡◌, ◌⊎◌, ◌==◌, ℕ, Bool, if◌then◌else◌, nat_lt, length, take, Option, Some, None, Result, Ok, Err, ok_or, option_map, true}
use Rattle.httparse.specs.Grammar.{ResponseHead, status_code}
use Rattle.mr_model.specs.Texts.{Text}
use Rattle.mr_model.specs.Http.{body_length, greatest_body}
use Rattle.mr_model.specs.Positions.{Position, read_position}
use Rattle.mr_http.specs.Heads.{IsReplyHead, HasNoReplyHead}
use Rattle.mr_http.specs.HeaderFields.{fields_of}
use Rattle.mr_http.specs.declared.faults.WebFault.{WebFault}
use Rattle.mr_http.specs.declared.faults.WebFault.TheVariants.{BadReply, Peer}
use Rattle.mr_peer.specs.Took.{read_took}

-- a reply with the head that is demanded: its status, what came of its body, and whether the input ended before all of it came
pub record PeerReply : Type 0 where
  pub status : ℕ
  pub body : Text
  pub is_cut : Bool

-- a stated length that isn't beyond the limit
abbrev pub within_limit : Option ℕ → Option ℕ
within_limit None = None
within_limit (Some n) = if nat_lt greatest_body n then None else Some n

-- the length of the body, of which exactly one is to be stated, and no transfer encoding
abbrev pub reply_length : ResponseHead → Option ℕ
reply_length h = within_limit (body_length true (fields_of h.fields))

-- a body of n bytes at the front of the rest
abbrev pub reply_cut : ℕ → Text → ℕ → PeerReply
reply_cut status rest n = record { status = status; body = take n rest; is_cut = nat_lt (length rest) n }

-- the reply with this head, before the rest
abbrev pub reply_behind : ResponseHead → Text → Option PeerReply
reply_behind h rest = option_map (reply_cut (status_code h) rest) (reply_length h)

-- the reply that an input is, or none
abbrev pub IsReplied : Text → Option PeerReply → Type 0
IsReplied input reply =
    (HasNoReplyHead input × (reply ≡ None))
    ⊎ ((h : ResponseHead) × (rest : Text) × IsReplyHead input h rest × (reply ≡ reply_behind h rest))

-- what is made of a value, where there is no fault
abbrev pub result_and_then : {A B : Type 0} → (A → Result B WebFault) → Result A WebFault → Result B WebFault
result_and_then f (Ok x) = f x
result_and_then f (Err e) = Err e

-- the whole body of a reply of status 200, or what is wrong with the reply
abbrev pub whole_body : Option PeerReply → Result Text WebFault
whole_body None = Err BadReply
whole_body (Some r) = if r.is_cut then Err BadReply else (if r.status == 200 then Ok r.body else Err (Peer r.status))

-- the same, but with status 200 a body may end early
abbrev pub front_body : Option PeerReply → Result Text WebFault
front_body None = Err BadReply
front_body (Some r) = if r.status == 200 then Ok r.body else (if r.is_cut then Err BadReply else Err (Peer r.status))

-- the position that a peer tells
abbrev pub told_position : Option PeerReply → Result Position WebFault
told_position reply = result_and_then (λ body. ok_or (read_position body) BadReply) (whole_body reply)

-- how many writes and commits a peer took
abbrev pub told_took : Option PeerReply → Result (ℕ × ℕ) WebFault
told_took reply = result_and_then (λ body. ok_or (read_took body) BadReply) (whole_body reply)
