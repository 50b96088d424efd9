-- From the bytes that were read to the reply that an input is.
use Rattle.std.proofs.Common.{◌≡◌, ◌++◌, ◌<◌, ◌⊎◌, inl, inr, ℕ, [], length, Option, Some, None, IfSome, Result, Ok, Err, refl, sym, ap, ◌∙◌, subst, append-nil}
use Rattle.std.specs.Prelude.{option_map, ok_or, unwrap_or}
use Rattle.std.specs.Io.KnownBytes.{Consumes, IsAtEnd}
use Rattle.httparse.specs.Grammar.{ResponseHead, status_code}
use Rattle.mr_model.specs.Texts.{Text}
use Rattle.mr_http.specs.Heads.{IsReplyHead, HasNoReplyHead, FindsReplyHead}
use Rattle.mr_http.specs.Inputs.{OfInput}
use Rattle.mr_http.specs.declared.faults.WebFault.{WebFault}
use Rattle.mr_http.specs.declared.faults.WebFault.TheVariants as fault
use Rattle.mr_http.proofs.HeadLemmas.{reply_head_more}
use Rattle.mr_http.proofs.BodyLemmas.{take_same, short_same}
use Rattle.mr_http.proofs.Known.{if_some_map, of_input, of_input_map}
use Rattle.mr_peer.specs.PeerReplies.{PeerReply, IsReplied, reply_cut, reply_behind, reply_length}
use Rattle.mr_base.specs.RefusalViews.{refusal_of}
use Rattle.mr_base.specs.declared.refusals.Refusal.{Refusal}
use Rattle.mr_base.specs.declared.refusals.Refusal.TheVariants.{OutOfMemory}
use Rattle.mr_model.specs.Refusals as model
use Rattle.mr_model.specs.Positions.{Position}
use Rattle.mr_peer.specs.Seen.{unread}
use Rattle.mr_peer.specs.PeerTaking.{TellsAsRead, Says}

-- an input without the head that is demanded
pub without_head : (known : Option Text) (bytes : Text) → FindsReplyHead known bytes None → OfInput known (λ input. IsReplied input None)
without_head known bytes none =
    let P : Text → Type 0 = λ input. IsReplied input None in
    of_input known bytes P (if_some_map known HasNoReplyHead P (λ input h. inl (h, refl)) none.1) (inl (none.0, refl))

-- the head has no length within the limit: of the known input
lengthless : (known left : Option Text) (bytes rest : Text) (h : ResponseHead)
    → Consumes known left bytes → IsReplyHead bytes h rest → reply_length h ≡ None → IfSome known (λ input. IsReplied input None)
lengthless None left bytes rest h p head none = tt
lengthless (Some x) None bytes rest h p head none = absurd p
lengthless (Some x) (Some y) bytes rest h p head none =
    subst (λ input. IsReplied input None) (sym p)
    (inr (h, rest ++ y, reply_head_more bytes y h rest head, ap (option_map (reply_cut (status_code h) (rest ++ y))) (sym none)))

-- the same of any input
pub without_length : (known left : Option Text) (bytes rest : Text) (h : ResponseHead)
    → Consumes known left bytes → IsReplyHead bytes h rest → reply_length h ≡ None → OfInput known (λ input. IsReplied input None)
without_length known left bytes rest h p head none =
    of_input known bytes (λ input. IsReplied input None) (lengthless known left bytes rest h p head none)
    (lengthless (Some bytes) (Some []) bytes rest h (sym (append-nil bytes)) head none)

same_reply : (status n : ℕ) (rest y : Text) → (length rest < n → y ≡ []) → reply_cut status rest n ≡ reply_cut status (rest ++ y) n
same_reply status n rest y ends =
    let body = take_same n rest y ends in
    let cut = short_same n rest y ends in
    sym (λ i. record { status = status; body = body i; is_cut = cut i })

-- the body was read to its end, or to that of the input: of the known input
bodied : (known left : Option Text) (bytes rest : Text) (h : ResponseHead) (n : ℕ)
    → Consumes known left bytes → IsReplyHead bytes h rest → (length rest < n → IsAtEnd left) → reply_length h ≡ Some n
    → IfSome known (λ input. IsReplied input (Some (reply_cut (status_code h) rest n)))
bodied None left bytes rest h n p head ends is = tt
bodied (Some x) None bytes rest h n p head ends is = absurd p
bodied (Some x) (Some y) bytes rest h n p head ends is =
    let told : Some (reply_cut (status_code h) rest n) ≡ reply_behind h (rest ++ y) =
    ap Some (same_reply (status_code h) n rest y ends)
    ∙ ap (option_map (reply_cut (status_code h) (rest ++ y))) (sym is) in
    subst (λ input. IsReplied input (Some (reply_cut (status_code h) rest n))) (sym p)
    (inr (h, rest ++ y, reply_head_more bytes y h rest head, told))

-- the same of any input
pub with_body : (known left : Option Text) (bytes rest : Text) (h : ResponseHead) (n : ℕ)
    → Consumes known left bytes → IsReplyHead bytes h rest → (length rest < n → IsAtEnd left) → reply_length h ≡ Some n
    → OfInput known (λ input. IsReplied input (Some (reply_cut (status_code h) rest n)))
with_body known left bytes rest h n p head ends is =
    of_input known bytes (λ input. IsReplied input (Some (reply_cut (status_code h) rest n)))
    (bodied known left bytes rest h n p head ends is)
    (bodied (Some bytes) (Some []) bytes rest h n (sym (append-nil bytes)) head (λ few. refl) is)

-- the status and the length that were found, or that none was
pub no_length : (s : ℕ) (o : Option ℕ) → ◌≡◌ {A = Option (ℕ × ℕ)} None (option_map (λ (n : ℕ). (s, n)) o) → o ≡ None
no_length s None e = refl
no_length s (Some n) e = absurd (let g : ◌≡◌ {A = Option (ℕ × ℕ)} None (Some (s, n)) = e in cc)

pub one_length : (s status n : ℕ) (o : Option ℕ) → ◌≡◌ {A = Option (ℕ × ℕ)} (Some (status, n)) (option_map (λ (m : ℕ). (s, m)) o)
    → (o ≡ Some n) × (status ≡ s)
one_length s status n None e = absurd (let g : ◌≡◌ {A = Option (ℕ × ℕ)} (Some (status, n)) None = e in cc)
one_length s status n (Some m) e =
    (ap (λ (o : Option (ℕ × ℕ)). Some (unwrap_or o (0, 0)).1) (sym e), ap (λ (o : Option (ℕ × ℕ)). (unwrap_or o (0, 0)).0) e)

-- what is said of the reply is told of the input that it is
pub says_told : {X : Type 0} (told : Option PeerReply → Result X WebFault) (known : Option Text) (reply : Option PeerReply) (result : Result X WebFault)
    → OfInput known (λ input. IsReplied input reply) → Says (told reply) result → TellsAsRead told known result
says_told told known reply (Err fault.Read) is says = tt
says_told told known reply (Err fault.Memory) is says = tt
says_told told known reply (Ok x) is says = of_input_map known (λ input. IsReplied input reply) _ (λ input r. (reply, r, says)) is
says_told told known reply (Err fault.Write) is says = of_input_map known (λ input. IsReplied input reply) _ (λ input r. (reply, r, says)) is
says_told told known reply (Err fault.BadReply) is says = of_input_map known (λ input. IsReplied input reply) _ (λ input r. (reply, r, says)) is
says_told told known reply (Err (fault.Peer s)) is says = of_input_map known (λ input. IsReplied input reply) _ (λ input r. (reply, r, says)) is
says_told told known reply (Err (fault.Own e)) is says = of_input_map known (λ input. IsReplied input reply) _ (λ input r. (reply, r, says)) is

-- ---- of the body

unread_says : (e : Refusal) → Says {X = Position} (Err fault.BadReply) (Err (unread e))
unread_says OutOfMemory = tt
unread_says _ = refl

-- what is refused as a position tells none, unless memory ran out
pub position_unread : (o : Option Position) (e : Refusal) → (ok_or o model.BadPosition ≡ Err (refusal_of e)) ⊎ (e ≡ OutOfMemory)
    → Says (ok_or o fault.BadReply) (Err (unread e))
position_unread None e h = unread_says e
position_unread (Some p) e (inl h) = absurd (let g : ◌≡◌ {A = Result Position model.Refusal} (Ok p) (Err (refusal_of e)) = h in cc)
position_unread (Some p) e (inr h) = subst (λ (f : Refusal). Says {X = Position} (Ok p) (Err (unread f))) (sym h) tt
