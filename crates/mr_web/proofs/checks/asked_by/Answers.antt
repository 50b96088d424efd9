use Rattle.std.proofs.Common.{◌≡◌, ◌∙◌, ap, sym, subst, ℕ, Some, Result, Ok}
use Rattle.std.proofs.lemmas.Option.{same_Some}
use Rattle.std.specs.Prelude.{option_copied}
use Rattle.httparse.specs.declared.Error.{Error}
use Rattle.httparse.specs.declared.Status.{Status}
use Rattle.httparse.specs.Outcome.{IfComplete}
use Rattle.httparse.specs.Borrowed.{HoldsSomeRequest}
use Rattle.httparse.specs.Grammar.{RequestHead}
use Rattle.httparse.proofs.GrammarLemmas.{request_unique}
use Rattle.mr_model.specs.Http.{Route, Response}
use Rattle.mr_http.specs.HeaderFields.{header_fields, fields_of}
use Rattle.mr_http.proofs.FieldLemmas.{same_fields}
use Rattle.mr_web.specs.RequestAsks.{head_asks}
use Rattle.mr_web.specs.Routes.{route_of}
use Rattle.mr_web.specs.Views.{GivesView, asked_view}
use Rattle.mr_web.proofs.checks.asked_by.Goals as goal

-- the parsed head is the one at the front of the bytes
pub returns-clause-gives : goal.returns-clause-gives
returns-clause-gives c h rest reads few =
    let bytes = c.args.bytes.now in
    let request = c.parse.new.self in
    let P : Result (Status ℕ) Error → Type 0 = λ r. IfComplete r (HoldsSomeRequest bytes request) in
    let found : HoldsSomeRequest bytes request c.in-Ok-Complete.field-0-0 =
    subst P (c.in-Ok-Complete.is ∙ ap Ok c.in-Ok-Complete.field-0-is) c.parse.ensures.complete in
    let same = (request_unique bytes found.0 h _ rest found.1.reads reads).0 in
    let method : c.in-Some-Some.method.now ≡ h.method =
    same_Some _ _ (ap option_copied (sym c.in-Some-Some.is-0) ∙ found.1.method ∙ ap (λ (k : RequestHead). Some k.method) same) in
    let target : c.in-Some-Some.target.now ≡ h.target =
    same_Some _ _ (ap option_copied (sym c.in-Some-Some.is-1) ∙ found.1.path ∙ ap (λ (k : RequestHead). Some k.target) same) in
    let fields : header_fields request.headers.now ≡ fields_of h.fields =
    same_fields request.headers.now found.0.fields found.1.fields ∙ ap (λ (k : RequestHead). fields_of k.fields) same in
    let Q : Result (Route × ℕ) Response → Type 0 = GivesView asked_view c.asked_of.result in
    subst Q (ap (λ m. head_asks (route_of c.in-Some-Some.target.now) m (header_fields request.headers.now)) method
    ∙ ap (λ t. head_asks (route_of t) h.method (header_fields request.headers.now)) target
    ∙ ap (head_asks (route_of h.target) h.method) fields) c.asked_of.ensures.gives
