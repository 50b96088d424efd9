-- Which faults come.
use Rattle.std.proofs.Common.{◌≡◌, refl, sym, subst, ℕ, Option, Some, None, Result, Ok, Err, Bool, true, false}
use Rattle.std.specs.Prelude.{IfErr, IsErrAnd, ok_or, if◌then◌else◌, ◌==◌}
use Rattle.mr_model.specs.Texts.{Text}
use Rattle.mr_model.specs.Positions.{read_position}
use Rattle.mr_http.specs.Faults.{web_fault}
use Rattle.mr_http.specs.declared.faults.ReadFault.{ReadFault}
use Rattle.mr_http.specs.declared.faults.ReadFault.TheVariants as read
use Rattle.mr_http.specs.declared.faults.WebFault.{WebFault}
use Rattle.mr_http.specs.declared.faults.WebFault.TheVariants as fault
use Rattle.mr_base.specs.RefusalViews.{refusal_of}
use Rattle.mr_store.specs.declared.keeper.Keeper.{Ghosts}
use Rattle.mr_service.specs.Asked.{reply_of}
use Rattle.mr_service.specs.Asking.{LeavesOnRefusal}
use Rattle.mr_service.specs.declared.replies.Reply as service
use Rattle.mr_service.specs.declared.replies.Reply.TheVariants as code
use Rattle.mr_peer.specs.PeerReplies.{PeerReply, result_and_then, whole_body, front_body, told_position, told_took}
use Rattle.mr_peer.specs.Seen.{counts_seen}
use Rattle.mr_peer.specs.ExchangeSteps.{KeepsTables}
use Rattle.mr_peer.specs.PeerTaking.{Says, EndsAsBatch, IsReplyFault, IsOwnFault, IsTakeFault}
use Rattle.mr_peer.specs.Took.{read_took}

-- a fault that is handed on is of the same kind
pub handed_on : {X : Type 0} (P : WebFault → Type 0) (f : WebFault) (result : Result X WebFault) → P f → IsErrAnd result (λ e. e ≡ f) → IfErr result P
handed_on P f (Ok x) is handed = tt
handed_on P f (Err e) is handed = subst P (sym handed) is

-- ---- of a reply

pub read_faults : (f : ReadFault) → IsReplyFault (web_fault f)
read_faults read.Read = tt
read_faults read.Memory = tt

whole_cases : (body : Text) (status : ℕ) (is_cut is_ok : Bool)
    → IfErr {T = Text} (if is_cut then Err fault.BadReply else (if is_ok then Ok body else Err (fault.Peer status))) IsReplyFault
whole_cases body status true is_ok = tt
whole_cases body status false true = tt
whole_cases body status false false = tt

whole_faults : (reply : Option PeerReply) → IfErr (whole_body reply) IsReplyFault
whole_faults None = tt
whole_faults (Some r) = whole_cases r.body r.status r.is_cut (r.status == 200)

front_cases : (body : Text) (status : ℕ) (is_ok is_cut : Bool)
    → IfErr {T = Text} (if is_ok then Ok body else (if is_cut then Err fault.BadReply else Err (fault.Peer status))) IsReplyFault
front_cases body status true is_cut = tt
front_cases body status false true = tt
front_cases body status false false = tt

pub front_faults : (reply : Option PeerReply) → IfErr (front_body reply) IsReplyFault
front_faults None = tt
front_faults (Some r) = front_cases r.body r.status (r.status == 200) r.is_cut

read_off : {A : Type 0} (o : Option A) → IfErr (ok_or o fault.BadReply) IsReplyFault
read_off None = tt
read_off (Some x) = tt

bound : {A B : Type 0} (o : Result A WebFault) (f : A → Result B WebFault) → IfErr o IsReplyFault
    → ((x : A) → IfErr (f x) IsReplyFault) → IfErr (result_and_then f o) IsReplyFault
bound (Ok x) f is more = more x
bound (Err e) f is more = is

pub position_faults : (reply : Option PeerReply) → IfErr (told_position reply) IsReplyFault
position_faults reply =
    bound (whole_body reply) (λ body. ok_or (read_position body) fault.BadReply) (whole_faults reply) (λ body. read_off (read_position body))

pub took_faults : (reply : Option PeerReply) → IfErr (told_took reply) IsReplyFault
took_faults reply = bound (whole_body reply) (λ body. ok_or (read_took body) fault.BadReply) (whole_faults reply) (λ body. read_off (read_took body))

told_as : {X : Type 0} (told : Result X WebFault) (e : WebFault) → IfErr told IsReplyFault → told ≡ Err e → IsReplyFault e
told_as {X} told e is says = subst (λ (r : Result X WebFault). IfErr r IsReplyFault) says is

-- no other fault is said of a reply than what is told of it, or want of memory
pub says_faults : {X : Type 0} (told result : Result X WebFault) → IfErr told IsReplyFault → Says told result → IfErr result IsReplyFault
says_faults told (Ok x) is says = tt
says_faults told (Err fault.Read) is says = tt
says_faults told (Err fault.Memory) is says = tt
says_faults told (Err fault.BadReply) is says = tt
says_faults told (Err (fault.Peer status)) is says = tt
says_faults told (Err fault.Write) is says = told_as told fault.Write is (sym says)
says_faults told (Err (fault.Own e)) is says = told_as told (fault.Own e) is (sym says)

-- ---- of this replica

pub ends_faults : (body : Text) (e : WebFault) → EndsAsBatch body (Err e) → IsOwnFault e
ends_faults body (fault.Own e) is = tt
ends_faults body fault.Memory u = tt
ends_faults body fault.Read u = absurd u
ends_faults body fault.Write u = absurd u
ends_faults body fault.BadReply u = absurd u
ends_faults body (fault.Peer n) u = absurd u

pub counts_faults : (reply : service.Reply) → IfErr (counts_seen reply) IsOwnFault
counts_faults (code.Took w c) = tt
counts_faults (code.Refused e) = tt
counts_faults _ = tt

-- ---- of either

pub reply_takes : (e : WebFault) → IsReplyFault e → IsTakeFault e
reply_takes fault.Read is = tt
reply_takes fault.Memory is = tt
reply_takes fault.BadReply is = tt
reply_takes (fault.Peer n) is = tt
reply_takes (fault.Own e) is = tt
reply_takes fault.Write is = is

pub own_takes : {X : Type 0} (result : Result X WebFault) → IfErr result IsOwnFault → IfErr result IsTakeFault
own_takes (Ok x) is = tt
own_takes (Err fault.Memory) is = tt
own_takes (Err (fault.Own e)) is = tt
own_takes (Err fault.Read) is = tt
own_takes (Err fault.BadReply) is = tt
own_takes (Err (fault.Peer n)) is = tt
own_takes (Err fault.Write) is = is

-- ---- the tables

-- where the counts are none, this replica refused, or memory is told to have run out
pub counts_leave : {K : Type 0} (keeper : Ghosts K) (old new : K) (reply : service.Reply)
    → (keeper.is_clean new → keeper.is_open new → LeavesOnRefusal (reply_of reply) (keeper.tables old) (keeper.tables new))
    → IfErr (counts_seen reply) (KeepsTables keeper old new)
counts_leave keeper old new (code.Took writes commits) leaves = tt
counts_leave keeper old new (code.Refused e) leaves = λ other clean now. leaves clean now (refusal_of e) refl
counts_leave keeper old new _ leaves = λ other. absurd (other refl)
