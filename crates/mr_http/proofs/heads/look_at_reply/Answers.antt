use Rattle.std.proofs.Common.{◌≡◌, ap, ◌∙◌}
use Rattle.httparse.specs.Grammar.{ResponseHead}
use Rattle.httparse.proofs.GrammarLemmas.{response_prefix_free}
use Rattle.mr_http.proofs.heads.look_at_reply.Goals as goal

-- a head of another version stays the head, whatever follows
pub returns-in_default : goal.returns-in_default
returns-in_default c more h rest head =
    let found = rw c.in-Ok-Complete.field-0-is at c.in-Ok-Complete.ensures.complete in
    let same = response_prefix_free c.args.bytes.now more found.0 h _ rest found.1.reads head.reads in
    let minor : c.in-Ok-Complete.head.version ≡ 1 =
    found.1.version ∙ ap (λ (k : ResponseHead). k.minor) same.0 ∙ head.version in
    absurd (c.if-head-eq1.false minor)
