-- How far a reply was read.
use Rattle.std.proofs.Common.{◌≡◌, ◌≤◌, ◌-◌, ◌++◌, inl, inr, ℕ, [], length, append-nil, refl, sym, subst, Option, Some, Result, Ok, Err}
use Rattle.std.specs.Prelude.{IsErrAnd}
use Rattle.std.specs.Io.KnownBytes.{Consumes}
use Rattle.httparse.specs.Grammar.{ResponseHead}
use Rattle.mr_model.specs.Texts.{Text}
use Rattle.mr_http.specs.Heads.{IsReplyHead}
use Rattle.mr_http.specs.Faults.{web_fault}
use Rattle.mr_http.specs.Reading.{AwaitsReplyHead, IsReadWhile, OnceRead}
use Rattle.mr_http.specs.declared.faults.ReadFault.{ReadFault}
use Rattle.mr_http.specs.declared.faults.WebFault.{WebFault}
use Rattle.mr_http.proofs.ReadPieces.{not_read}
use Rattle.mr_peer.specs.ReplyRead.{ReadsOneReply}
use Rattle.mr_peer.specs.PeerReplies.{reply_length}

-- no more than the first bytes
pub head_read : (known left : Option Text) (first : Text) → Consumes known left first → IsReadWhile AwaitsReplyHead first → ReadsOneReply known left
head_read known left first whole pieces =
    (first, [], subst (λ l. Consumes known left l) (sym (append-nil first)) whole, pieces, inl refl)

-- and what they lack of the body
pub body_read : (known left : Option Text) (first more rest : Text) (h : ResponseHead) (n : ℕ) → Consumes known left (first ++ more)
    → IsReadWhile AwaitsReplyHead first → IsReplyHead first h rest → reply_length h ≡ Some n → length more ≤ n - length rest → ReadsOneReply known left
body_read known left first more rest h n whole pieces head states short =
    (first, more, whole, pieces, inr (h, rest, n, head, states, short))

-- a fault of reading is handed on
pub lost_read : (X P : Type 0) (f : ReadFault) (result : Result X WebFault) → IsErrAnd result (λ e. e ≡ web_fault f) → OnceRead P result
lost_read X P f (Ok x) handed = absurd handed
lost_read X P f (Err e) handed = subst (λ g. OnceRead {X = X} P (Err g)) (sym handed) (not_read X P f)
