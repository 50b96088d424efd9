-- How far a request was read.
use Rattle.std.proofs.Common.{◌≡◌, ◌≤◌, ◌-◌, ◌++◌, inl, inr, ℕ, [], length, append-nil, refl, sym, subst, Option, Result, Ok, Err}
use Rattle.std.specs.Prelude.{OnOk}
use Rattle.std.specs.Io.KnownBytes.{Consumes}
use Rattle.httparse.specs.Grammar.{RequestHead}
use Rattle.mr_model.specs.Texts.{Text}
use Rattle.mr_model.specs.Http.{Route}
use Rattle.mr_http.specs.Heads.{IsHead}
use Rattle.mr_http.specs.Reading.{AwaitsHead, IsReadWhile}
use Rattle.mr_http.specs.declared.faults.ReadFault.{ReadFault}
use Rattle.mr_web.specs.RequestAsks.{asked_by}
use Rattle.mr_web.specs.RequestRead.{ReadsOneRequest, UnlessFault}
use Rattle.mr_web.specs.Views.{StopsWith}
use Rattle.mr_web.specs.declared.rejections.Stop.{Stop}
use Rattle.mr_web.specs.declared.rejections.Stop.TheVariants as stop
use Rattle.mr_web.specs.declared.replies.Answer.{Answer}

-- no more than the first bytes
pub head_read : (known left : Option Text) (first : Text) → Consumes known left first → IsReadWhile AwaitsHead first → ReadsOneRequest known left
head_read known left first whole pieces =
    (first, [], subst (λ l. Consumes known left l) (sym (append-nil first)) whole, pieces, inl refl)

-- and what they lack of the body
pub body_read : (known left : Option Text) (first more rest : Text) (h : RequestHead) (asked : Route × ℕ) → Consumes known left (first ++ more)
    → IsReadWhile AwaitsHead first → IsHead first h rest → asked_by h ≡ Ok asked → length more ≤ asked.1 - length rest → ReadsOneRequest known left
body_read known left first more rest h asked whole pieces head asks short =
    (first, more, whole, pieces, inr (h, rest, asked, head, asks, short))

-- what holds anyway
pub unless_fault : {X : Type 0} (P : Type 0) (result : Result X Stop) → P → UnlessFault P result
unless_fault P (Ok x) p = p
unless_fault P (Err (stop.Rejected r)) p = p
unless_fault P (Err (stop.Fault f)) p = tt

-- an answer comes of no fault
pub answered_unless : (P : Type 0) (s : Stop) (result : Result Answer ReadFault) → StopsWith s result → UnlessFault {X = Answer} P (Err s) → OnOk result P
answered_unless P (stop.Rejected r) (Ok a) stops p = p
answered_unless P (stop.Rejected r) (Err f) stops p = tt
answered_unless P (stop.Fault f) (Ok a) stops p = absurd stops
answered_unless P (stop.Fault f) (Err g) stops p = tt

pub answered_ok : (P : Type 0) (result : Result Answer ReadFault) → P → OnOk result P
answered_ok P (Ok a) p = p
answered_ok P (Err f) p = tt
