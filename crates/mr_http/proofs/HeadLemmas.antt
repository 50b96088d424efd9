-- Whether the bytes read so far settle what head there is.
use Rattle.std.proofs.Common.{◌≡◌, ◌++◌, ◌≤◌, ℕ, List, length, take, drop, Option, Some, None, IfSome, refl, sym, ap, ◌∙◌, subst, arith, append-nil, length-append}
use Rattle.std.proofs.lemmas.List.{take-append-le, take-append-drop}
use Rattle.std.proofs.Math.Seq.{take-append_seam}
use Rattle.std.specs.Io.KnownBytes.{Consumes, IsAtEnd}
use Rattle.httparse.specs.Grammar.{RequestHead, print_request, ResponseHead, print_response}
use Rattle.httparse.proofs.GrammarLemmas.{ReadsRequest-append, ReadsResponse-append}
use Rattle.mr_http.specs.Heads.{IsHead, IsReplyHead}
use Rattle.mr_http.specs.Looks.{Awaits, HasNone, HasNoneYet, Finds}
use Rattle.mr_http.specs.declared.heads.Kind.{Kind}
use Rattle.mr_http.specs.declared.heads.Kind.TheVariants.{Request, Reply}

-- more bytes behind a head leave it the head
pub head_more : (bytes more : List ℕ) (h : RequestHead) (rest : List ℕ) → IsHead bytes h rest → IsHead (bytes ++ more) h (rest ++ more)
head_more bytes more h rest head = record {
  reads = ReadsRequest-append bytes h rest more head.reads;
  within = head.within;
  fields = head.fields;
  version = head.version;
}

pub reply_head_more : (bytes more : List ℕ) (h : ResponseHead) (rest : List ℕ) → IsReplyHead bytes h rest → IsReplyHead (bytes ++ more) h (rest ++ more)
reply_head_more bytes more h rest head = record {
  reads = ReadsResponse-append bytes h rest more head.reads;
  within = head.within;
  fields = head.fields;
  version = head.version;
}

-- a head is no longer than the bytes
pub head_short : (bytes : List ℕ) (h : RequestHead) (rest : List ℕ) → IsHead bytes h rest → length (print_request h) ≤ length bytes
head_short bytes h rest head = omega (arith, ap length head.reads.1, length-append (print_request h) rest)

pub reply_head_short : (bytes : List ℕ) (h : ResponseHead) (rest : List ℕ) → IsReplyHead bytes h rest → length (print_response h) ≤ length bytes
reply_head_short bytes h rest head = omega (arith, ap length head.reads.1, length-append (print_response h) rest)

-- a text at the front of two joined ones that is no longer than the first is at the front of the first
pub front_of : (a b c d : List ℕ) → a ++ b ≡ c ++ d → length c ≤ length a → a ≡ c ++ drop (length c) a
front_of a b c d e short =
    let front : take (length c) a ≡ c =
    sym (take-append-le (length c) a b short) ∙ ap (take (length c)) e ∙ take-append_seam c d in
    sym (take-append-drop (length c) a) ∙ ap (λ l. l ++ drop (length c) a) front

-- with the limit reached and no head so far, none comes within the limit
pub full_no_head : (kind : Kind) (bytes ys : List ℕ) → 8192 ≤ length bytes → HasNoneYet kind bytes → HasNone kind (bytes ++ ys)
full_no_head Request bytes ys full none = λ h rest head.
    let short : length (print_request h) ≤ length bytes = omega (arith, head.within, full) in
    none h (drop (length (print_request h)) bytes)
    (head.reads.0, front_of bytes ys (print_request h) rest head.reads.1 short)
full_no_head Reply bytes ys full none = λ h rest head.
    let short : length (print_response h) ≤ length bytes = omega (arith, head.within, full) in
    none h (drop (length (print_response h)) bytes)
    (head.reads.0, front_of bytes ys (print_response h) rest head.reads.1 short)

-- while a head may still come there is none
pub has_none : (kind : Kind) (bytes : List ℕ) → Awaits kind bytes → HasNoneYet kind bytes
has_none Request bytes awaits = awaits.0
has_none Reply bytes awaits = awaits.0

-- no head so far is no head within the limits
pub none_yet : (kind : Kind) (bytes : List ℕ) → HasNoneYet kind bytes → HasNone kind bytes
none_yet Request bytes none = λ h rest head. none h rest head.reads
none_yet Reply bytes none = λ h rest head. none h rest head.reads

-- what holds of the bytes whatever follows them holds of the known input
pub no_head_known : (kind : Kind) (a b : Option (List ℕ)) (bytes : List ℕ) → Consumes a b bytes
    → ((ys : List ℕ) → b ≡ Some ys → HasNone kind (bytes ++ ys)) → IfSome a (HasNone kind)
no_head_known kind None b bytes p h = tt
no_head_known kind (Some x) None bytes p h = absurd p
no_head_known kind (Some x) (Some y) bytes p h = subst (HasNone kind) (sym p) (h y refl)

-- at the end of the input
pub ended_no_head : (kind : Kind) (a b : Option (List ℕ)) (bytes : List ℕ) → Consumes a b bytes → IsAtEnd b → HasNoneYet kind bytes
    → IfSome a (HasNone kind)
ended_no_head kind None b bytes p end none = tt
ended_no_head kind (Some x) None bytes p end none = absurd p
ended_no_head kind (Some x) (Some y) bytes p end none =
    let whole : x ≡ bytes = p ∙ ap (λ l. bytes ++ l) end ∙ append-nil bytes in
    subst (HasNone kind) (sym whole) (none_yet kind bytes none)

-- none is found where neither the bytes nor the known input have one
pub finds_none : (kind : Kind) (known : Option (List ℕ)) (bytes : List ℕ) → HasNone kind bytes → IfSome known (HasNone kind)
    → Finds kind known bytes None
finds_none Request known bytes none h = (none, h)
finds_none Reply known bytes none h = (none, h)
