use Rattle.std.proofs.Common.{◌≡◌, ◌++◌, ◌≤◌, ◌-◌, ◌∙◌, ℕ, List, length, drop, arith, ap, sym, subst, Option, Some, vec_len, length-drop, length-append}
use Rattle.std.proofs.lemmas.List.{drop-append-le}
use Rattle.std.proofs.KnownBytes.{Consumes-trans}
use Rattle.httparse.specs.Grammar.{ReadsResponse, status_code}
use Rattle.mr_http.specs.Heads.{BeginsWithReplyHead, FindsReplyHead}
use Rattle.mr_http.specs.Inputs.{OfInput}
use Rattle.mr_http.proofs.HeadLemmas.{reply_head_more, reply_head_short}
use Rattle.mr_peer.specs.PeerReplies.{IsReplied, reply_cut, reply_length}
use Rattle.mr_peer.proofs.ReadBytes.{head_read, body_read}
use Rattle.mr_peer.proofs.ReplyLemmas.{without_head, without_length, with_body, no_length, one_length}
use Rattle.mr_peer.proofs.replies.read_reply.Goals as goal

-- the input has no head
pub returns-in_default-clause-replied : goal.returns-in_default-clause-replied
returns-in_default-clause-replied g c =
    let known = g.R.Read.remaining c.args.reader.now in
    let first = c.read_reply_head.new.buffer.items in
    let P : Option ℕ → Type 0 = λ o. FindsReplyHead known first o in
    without_head known first (subst P c.in_default.is c.in_ok-start.ensures.found)

-- the head has no length within the limit
pub returns-in_default-head_in-clause-replied : goal.returns-in_default-head_in-clause-replied
returns-in_default-head_in-clause-replied g c =
    let known = g.R.Read.remaining c.args.reader.now in
    let between = g.R.Read.remaining c.read_reply_head.new.reader in
    let first = c.read_reply_head.new.buffer.items in
    let start = c.in-Some.start in
    let P : Option ℕ → Type 0 = λ o. FindsReplyHead known first o in
    let found : BeginsWithReplyHead first start = subst P c.in-Some.is c.in_ok-start.ensures.found in
    let h = found.0 in
    let Q : List ℕ → Type 0 = λ l. ReadsResponse l h (drop start first) in
    let reads = subst Q (sym c.as_slice.ensures.value) found.1.reads in
    let told = sym c.in_default-head_in.is ∙ c.head_in.ensures.head h (drop start first) reads found.1.fields in
    without_length known between first (drop start first) h c.in_ok-start.ensures.consumed found.1 (no_length (status_code h) (reply_length h) told)

-- the body was read to its end, or to that of the input
pub returns-clause-replied : goal.returns-clause-replied
returns-clause-replied g c =
    let known = g.R.Read.remaining c.args.reader.now in
    let between = g.R.Read.remaining c.read_reply_head.new.reader in
    let left = g.R.Read.remaining c.fill_to.new.reader in
    let first = c.read_reply_head.new.buffer.items in
    let start = c.in-Some.start in
    let status = c.in-Some-head_in.status in
    let n = c.in-Some-head_in.length in
    let P : Option ℕ → Type 0 = λ o. FindsReplyHead known first o in
    let found : BeginsWithReplyHead first start = subst P c.in-Some.is c.in_ok-start.ensures.found in
    let h = found.0 in
    let Q : List ℕ → Type 0 = λ l. ReadsResponse l h (drop start first) in
    let reads = subst Q (sym c.as_slice.ensures.value) found.1.reads in
    let told = one_length (status_code h) status n (reply_length h) (c.in-Some-head_in.ensures.head h (drop start first) reads found.1.fields) in
    let filled = c.in_ok-fill_to.ensures in
    let whole = Consumes-trans known between left first filled.0 c.in_ok-start.ensures.consumed filled.2 in
    let head = reply_head_more first filled.0 h (drop start first) found.1 in
    let rest = drop start first ++ filled.0 in
    let short : start ≤ length first = omega (arith, reply_head_short first h (drop start first) found.1, found.2) in
    let behind : drop start c.fill_to.new.buffer.items ≡ rest = ap (drop start) filled.1 ∙ drop-append-le start first filled.0 short in
    let size : vec_len c.fill_to.new.buffer ≡ length (first ++ filled.0) = c.fill_to.new.buffer.ok.0 ∙ ap length filled.1 in
    let body = with_body known left (first ++ filled.0) rest h n whole head
    (λ few. filled.3 (omega (arith, few, size, short, length-append first filled.0, length-append (drop start first) filled.0, length-drop start first)))
    told.0 in
    let S : ℕ → Type 0 = λ s. OfInput known (λ input. IsReplied input (Some (reply_cut s rest n))) in
    let T : List ℕ → Type 0 = λ l. OfInput known (λ input. IsReplied input (Some (reply_cut status l n))) in
    subst T (sym behind) (subst S (sym told.1) body)

-- ---- how far the reader was read

pub returns-in_default-clause-reads : goal.returns-in_default-clause-reads
returns-in_default-clause-reads g c =
    head_read (g.R.Read.remaining c.args.reader.now) (g.R.Read.remaining c.read_reply_head.new.reader) c.read_reply_head.new.buffer.items
    c.in_ok-start.ensures.consumed c.in_ok-start.ensures.pieces

pub returns-in_default-head_in-clause-reads : goal.returns-in_default-head_in-clause-reads
returns-in_default-head_in-clause-reads g c =
    head_read (g.R.Read.remaining c.args.reader.now) (g.R.Read.remaining c.read_reply_head.new.reader) c.read_reply_head.new.buffer.items
    c.in_ok-start.ensures.consumed c.in_ok-start.ensures.pieces

pub returns-clause-reads : goal.returns-clause-reads
returns-clause-reads g c =
    let known = g.R.Read.remaining c.args.reader.now in
    let between = g.R.Read.remaining c.read_reply_head.new.reader in
    let left = g.R.Read.remaining c.fill_to.new.reader in
    let first = c.read_reply_head.new.buffer.items in
    let start = c.in-Some.start in
    let n = c.in-Some-head_in.length in
    let P : Option ℕ → Type 0 = λ o. FindsReplyHead known first o in
    let found : BeginsWithReplyHead first start = subst P c.in-Some.is c.in_ok-start.ensures.found in
    let h = found.0 in
    let Q : List ℕ → Type 0 = λ l. ReadsResponse l h (drop start first) in
    let reads = subst Q (sym c.as_slice.ensures.value) found.1.reads in
    let told = one_length (status_code h) c.in-Some-head_in.status n (reply_length h) (c.in-Some-head_in.ensures.head h (drop start first) reads found.1.fields) in
    let filled = c.in_ok-fill_to.ensures in
    let whole = Consumes-trans known between left first filled.0 c.in_ok-start.ensures.consumed filled.2 in
    let short : start ≤ length first = omega (arith, reply_head_short first h (drop start first) found.1, found.2) in
    let size : vec_len c.read_reply_head.new.buffer ≡ length first = c.read_reply_head.new.buffer.ok.0 in
    let few : length filled.0 ≤ n - length (drop start first) = omega (arith, filled.4, size, short, length-drop start first) in
    body_read known left first filled.0 (drop start first) h n whole c.in_ok-start.ensures.pieces found.1 told.0 few
