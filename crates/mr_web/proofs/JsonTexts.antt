-- The texts of the objects that replies show.
use Rattle.std.proofs.Common.{◌≡◌, ◌∙◌, ℕ, true, List, [], ◌∷◌, ◌++◌, refl, sym, ap, codes, decimal, append_assoc}
use Rattle.std.specs.List.{join_with_byte}
use Rattle.json.specs.Print.{quoted}
use Rattle.serde_json.specs.Data.{Data, string, number, unsigned, object, Members, no_members, member}
use Rattle.serde_json.specs.Written.{compact_text, members_text}
use Rattle.mr_model.specs.Texts.{Text}
use Rattle.mr_model.specs.Http as model
use Rattle.mr_web.specs.Plain.{IsPlain}
use Rattle.mr_web.proofs.PlainTexts.{escape_plain}

-- ---- an object whose keys need no escapes

abbrev PlainKeys : Members → Type 0
PlainKeys no_members = Unit {0}
PlainKeys (member k d ms) = IsPlain k × PlainKeys ms

-- the members as the definitions show them
abbrev shown : Members → List Text
shown no_members = []
shown (member k d ms) = model.member k (compact_text d) ∷ shown ms

quoted_plain : (t : Text) → IsPlain t → quoted t ≡ model.quoted t
quoted_plain t p = ap (λ e. 34 ∷ (e ++ 34 ∷ [])) (escape_plain t p)

regroup : (q v rest : Text) → q ++ 58 ∷ (v ++ rest) ≡ ((q ++ 58 ∷ []) ++ v) ++ rest
regroup q v rest = sym (append_assoc (q ++ 58 ∷ []) v rest ∙ append_assoc q (58 ∷ []) (v ++ rest))

one_member : (k : Text) (d : Data) (rest : Text) → IsPlain k
    → quoted k ++ 58 ∷ (compact_text d ++ rest) ≡ model.member k (compact_text d) ++ rest
one_member k d rest p =
    ap (λ q. q ++ 58 ∷ (compact_text d ++ rest)) (quoted_plain k p) ∙ regroup (model.quoted k) (compact_text d) rest

members_shown : (k : Text) (d : Data) (ms : Members) → PlainKeys (member k d ms)
    → quoted k ++ 58 ∷ (compact_text d ++ members_text true ms) ≡ join_with_byte 44 (shown (member k d ms)) ++ 125 ∷ []
members_shown k d no_members p = one_member k d (125 ∷ []) p.0
members_shown k d (member l e ms) p =
    let more = ap (λ t. 44 ∷ t) (members_shown l e ms p.1) in
    let first = model.member k (compact_text d) in
    let rest = join_with_byte 44 (shown (member l e ms)) in
    one_member k d (members_text true (member l e ms)) p.0
    ∙ ap (λ t. first ++ t) more ∙ sym (append_assoc first (44 ∷ rest) (125 ∷ []))

object_shown : (k : Text) (d : Data) (ms : Members) → PlainKeys (member k d ms)
    → compact_text (object (member k d ms)) ≡ model.object (shown (member k d ms))
object_shown k d ms p = ap (λ t. 123 ∷ t) (members_shown k d ms p)

-- ---- the objects of replies

pub logged_text : (id mark : Text) → IsPlain id → IsPlain mark
    → compact_text (object (member (codes "id") (string id) (member (codes "mark") (string mark) (member (codes "state") (string (codes "logged")) no_members))))
    ≡ model.object (model.member (codes "id") (model.quoted id) ∷ model.member (codes "mark") (model.quoted mark)
    ∷ model.member (codes "state") (model.quoted (codes "logged")) ∷ [])
logged_text id mark i m =
    let state = quoted_plain (codes "logged") refl in
    let a = quoted_plain id i in
    let b = quoted_plain mark m in
    object_shown (codes "id") (string id) (member (codes "mark") (string mark) (member (codes "state") (string (codes "logged")) no_members))
    (refl, (refl, (refl, tt)))
    ∙ (λ j. model.object (model.member (codes "id") (a j) ∷ model.member (codes "mark") (b j) ∷ model.member (codes "state") (state j) ∷ []))

pub booked_text : (day id mark start stop : Text) → IsPlain day → IsPlain id → IsPlain mark → IsPlain start → IsPlain stop
    → compact_text (
    object (
    member (codes "day") (string day) (member (codes "id") (string id) (member (codes "mark") (string mark) (member (codes "start") (string start)
    (member (codes "state") (string (codes "booked")) (member (codes "stop") (string stop) no_members)))))))
    ≡ model.object (model.member (codes "day") (model.quoted day) ∷ model.member (codes "id") (model.quoted id)
    ∷ model.member (codes "mark") (model.quoted mark) ∷ model.member (codes "start") (model.quoted start)
    ∷ model.member (codes "state") (model.quoted (codes "booked")) ∷ model.member (codes "stop") (model.quoted stop) ∷ [])
booked_text day id mark start stop d i m s e =
    let state = quoted_plain (codes "booked") refl in
    let p = quoted_plain day d in
    let q = quoted_plain id i in
    let r = quoted_plain mark m in
    let t = quoted_plain start s in
    let u = quoted_plain stop e in
    object_shown (codes "day") (string day)
    (member (codes "id") (string id) (member (codes "mark") (string mark) (member (codes "start") (string start)
    (member (codes "state") (string (codes "booked")) (member (codes "stop") (string stop) no_members)))))
    (refl, (refl, (refl, (refl, (refl, (refl, tt))))))
    ∙ (λ j. model.object (model.member (codes "day") (p j) ∷ model.member (codes "id") (q j) ∷ model.member (codes "mark") (r j)
    ∷ model.member (codes "start") (t j) ∷ model.member (codes "state") (state j) ∷ model.member (codes "stop") (u j) ∷ []))

pub cancelled_text : (by by_mark id mark : Text) → IsPlain by → IsPlain by_mark → IsPlain id → IsPlain mark
    → compact_text (
    object (
    member (codes "by") (string by) (member (codes "bymark") (string by_mark) (member (codes "id") (string id) (member (codes "mark") (string mark)
    (member (codes "state") (string (codes "cancelled")) no_members))))))
    ≡ model.object (model.member (codes "by") (model.quoted by) ∷ model.member (codes "bymark") (model.quoted by_mark)
    ∷ model.member (codes "id") (model.quoted id) ∷ model.member (codes "mark") (model.quoted mark)
    ∷ model.member (codes "state") (model.quoted (codes "cancelled")) ∷ [])
cancelled_text by by_mark id mark b d i m =
    let state = quoted_plain (codes "cancelled") refl in
    let p = quoted_plain by b in
    let q = quoted_plain by_mark d in
    let r = quoted_plain id i in
    let t = quoted_plain mark m in
    object_shown (codes "by") (string by)
    (member (codes "bymark") (string by_mark) (member (codes "id") (string id) (member (codes "mark") (string mark)
    (member (codes "state") (string (codes "cancelled")) no_members))))
    (refl, (refl, (refl, (refl, (refl, tt)))))
    ∙ (λ j. model.object (model.member (codes "by") (p j) ∷ model.member (codes "bymark") (q j) ∷ model.member (codes "id") (r j)
    ∷ model.member (codes "mark") (t j) ∷ model.member (codes "state") (state j) ∷ []))

pub cancel_text : (id mark state target : Text) → IsPlain id → IsPlain mark → IsPlain state → IsPlain target
    → compact_text (
    object (
    member (codes "id") (string id) (member (codes "mark") (string mark) (member (codes "state") (string state)
    (member (codes "target") (string target) no_members)))))
    ≡ model.object (model.member (codes "id") (model.quoted id) ∷ model.member (codes "mark") (model.quoted mark)
    ∷ model.member (codes "state") (model.quoted state) ∷ model.member (codes "target") (model.quoted target) ∷ [])
cancel_text id mark state target i m s t =
    let p = quoted_plain id i in
    let q = quoted_plain mark m in
    let r = quoted_plain state s in
    let u = quoted_plain target t in
    object_shown (codes "id") (string id)
    (member (codes "mark") (string mark) (member (codes "state") (string state) (member (codes "target") (string target) no_members)))
    (refl, (refl, (refl, (refl, tt))))
    ∙ (λ j. model.object (model.member (codes "id") (p j) ∷ model.member (codes "mark") (q j) ∷ model.member (codes "state") (r j)
    ∷ model.member (codes "target") (u j) ∷ []))

pub refusal_text : (name : Text) (n : ℕ) → IsPlain name
    → compact_text (object (member (codes "name") (string name) (member (codes "refusal") (number (unsigned n)) no_members)))
    ≡ model.object (model.member (codes "name") (model.quoted name) ∷ model.member (codes "refusal") (decimal n) ∷ [])
refusal_text name n p =
    let q = quoted_plain name p in
    object_shown (codes "name") (string name) (member (codes "refusal") (number (unsigned n)) no_members) (refl, (refl, tt))
    ∙ (λ j. model.object (model.member (codes "name") (q j) ∷ model.member (codes "refusal") (decimal n) ∷ []))

pub line_text : (line : ℕ) (name : Text) (n : ℕ) → IsPlain name
    → compact_text (
    object (
    member (codes "line") (number (unsigned line)) (member (codes "name") (string name) (member (codes "refusal") (number (unsigned n)) no_members))))
    ≡ model.object (model.member (codes "line") (decimal line) ∷ model.member (codes "name") (model.quoted name)
    ∷ model.member (codes "refusal") (decimal n) ∷ [])
line_text line name n p =
    let q = quoted_plain name p in
    object_shown (codes "line") (number (unsigned line))
    (member (codes "name") (string name) (member (codes "refusal") (number (unsigned n)) no_members)) (refl, (refl, (refl, tt)))
    ∙ (λ j. model.object (model.member (codes "line") (decimal line) ∷ model.member (codes "name") (q j)
    ∷ model.member (codes "refusal") (decimal n) ∷ []))
