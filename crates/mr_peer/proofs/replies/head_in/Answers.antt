use Rattle.std.proofs.Common.{◌≡◌, ◌∙◌, ap, sym, subst, List, ℕ, Some, Option, option_map, unwrap_or, true}
use Rattle.std.specs.Prelude.{Result, Ok}
use Rattle.httparse.specs.declared.Error.{Error}
use Rattle.httparse.specs.declared.Status.{Status}
use Rattle.httparse.specs.Outcome.{IfComplete}
use Rattle.httparse.specs.Borrowed.{HoldsSomeResponse}
use Rattle.httparse.specs.Grammar.{ResponseHead, status_code}
use Rattle.httparse.proofs.GrammarLemmas.{response_unique}
use Rattle.mr_model.specs.Http.{Field, body_length}
use Rattle.mr_http.specs.HeaderFields.{fields_of, header_fields}
use Rattle.mr_http.proofs.FieldLemmas.{same_fields}
use Rattle.mr_peer.specs.PeerReplies.{within_limit}
use Rattle.mr_peer.proofs.replies.head_in.Goals as goal

pub returns-clause-head : goal.returns-clause-head
returns-clause-head c = λ h rest reads few.
    let bytes = c.args.bytes.now in
    let reply = c.parse.new.self in
    let P : Result (Status ℕ) Error → Type 0 = λ r. IfComplete r (HoldsSomeResponse bytes reply) in
    let found : HoldsSomeResponse bytes reply c.in-Ok-Complete.field-0-0 =
    subst P (c.in-Ok-Complete.is ∙ ap Ok c.in-Ok-Complete.field-0-is) c.parse.ensures.complete in
    let same = (response_unique bytes found.0 h _ rest found.1.reads reads).0 in
    let told : Some c.in_ok-status.status ≡ Some (status_code h) =
    sym c.in_ok-status.was ∙ found.1.code ∙ ap (λ (k : ResponseHead). Some (status_code k)) same in
    let status : c.in_ok-status.status ≡ status_code h = ap (λ (o : Option ℕ). unwrap_or o 0) told in
    let fields : header_fields reply.headers.now ≡ fields_of h.fields =
    same_fields reply.headers.now found.0.fields found.1.fields ∙ ap (λ (k : ResponseHead). fields_of k.fields) same in
    c.with_length.ensures.exact
    ∙ ap (λ (s : ℕ). option_map (λ (n : ℕ). (s, n)) (within_limit (body_length true (header_fields reply.headers.now)))) status
    ∙ ap (λ (fs : List Field). option_map (λ (n : ℕ). (status_code h, n)) (within_limit (body_length true fs))) fields
