use Rattle.std.proofs.Common.{◌≡◌, ◌++◌, ◌≤◌, ◌-◌, ℕ, List, length, drop, arith, ap, sym, subst, ◌∙◌, vec_len, Option, Result, Ok, Err, length-drop, length-append}
use Rattle.std.proofs.lemmas.List.{drop-append-le}
use Rattle.httparse.specs.Grammar.{ReadsRequest}
use Rattle.std.proofs.lemmas.Result.{err_from_is_err_and}
use Rattle.std.proofs.KnownBytes.{Consumes-trans}
use Rattle.mr_http.specs.Heads.{BeginsWithHead, FindsHead}
use Rattle.mr_http.specs.Inputs.{OfInput}
use Rattle.mr_http.proofs.HeadLemmas.{head_more, head_short}
use Rattle.mr_web.specs.RequestAsks.{asked_by, body_in}
use Rattle.mr_web.specs.RequestRead.{ReadsOneRequest, UnlessFault}
use Rattle.mr_web.specs.Views.{asked_view, FailsAs, Settles}
use Rattle.mr_service.specs.declared.commands.Command.{Command}
use Rattle.mr_web.specs.declared.rejections.Stop.{Stop}
use Rattle.mr_http.proofs.Known.{of_input_unit}
use Rattle.mr_web.proofs.RequestBytes.{head_read, body_read, unless_fault}
use Rattle.mr_web.proofs.ServedInputs.{settles_none, settles_result, settles_head_stop, settles_body_stop}
use Rattle.mr_web.proofs.serving.request_in.Goals as goal

pub returns-clause-settles : goal.returns-clause-settles
returns-clause-settles g c =
    let known = g.R.Read.remaining c.args.reader.now in
    let between = g.R.Read.remaining c.read_request_head.new.reader in
    let left = g.R.Read.remaining c.fill_to.new.reader in
    let first = c.read_request_head.new.buffer.items in
    let start = c.in-Some.start in
    let P : Option ℕ → Type 0 = λ o. FindsHead known first o in
    let found : BeginsWithHead first start = subst P c.in-Some.is c.in_ok-start.ensures.found in
    let filled = c.in_ok-fill_to.ensures in
    let whole = Consumes-trans known between left first filled.0 c.in_ok-start.ensures.consumed filled.2 in
    let head = head_more first filled.0 found.0 (drop start first) found.1 in
    let h = found.0 in
    let rest = drop start first ++ filled.0 in
    let Q : List ℕ → Type 0 = λ l. ReadsRequest l h (drop start first) in
    let reads = subst Q (sym c.as_slice.ensures.value) found.1.reads in
    let a = asked_view c.in_ok-asked.asked in
    let asked : asked_by h ≡ Ok a = c.in_ok-asked.ensures.gives h (drop start first) reads found.1.fields in
    let short : start ≤ length first = omega (arith, head_short first h (drop start first) found.1, found.2) in
    let bytes : c.as_slice-2.result.now ≡ first ++ filled.0 = c.as_slice-2.ensures.value ∙ filled.1 in
    let behind : drop start c.as_slice-2.result.now ≡ rest = ap (drop start) bytes ∙ drop-append-le start first filled.0 short in
    let cut : body_in a.1 rest ≡ Ok c.in_ok-body.body.now = ap (body_in a.1) (sym behind) ∙ c.in_ok-body.ensures in
    let size : vec_len c.fill_to.new.buffer ≡ length (first ++ filled.0) = c.fill_to.new.buffer.ok.0 ∙ ap length filled.1 in
    settles_result known left (first ++ filled.0) rest h a c.in_ok-body.body.now c.command_of.result whole head
    (λ few. filled.3 (omega (arith, few, size, short, length-append first filled.0, length-append (drop start first) filled.0, length-drop start first)))
    asked cut c.command_of.ensures

-- a check of the head alone fails
pub returns-in_err-asked-clause-settles : goal.returns-in_err-asked-clause-settles
returns-in_err-asked-clause-settles g c =
    let known = g.R.Read.remaining c.args.reader.now in
    let first = c.read_request_head.new.buffer.items in
    let start = c.in-Some.start in
    let P : Option ℕ → Type 0 = λ o. FindsHead known first o in
    let found : BeginsWithHead first start = subst P c.in-Some.is c.in_ok-start.ensures.found in
    let h = found.0 in
    let Q : List ℕ → Type 0 = λ l. ReadsRequest l h (drop start first) in
    let reads = subst Q (sym c.as_slice.ensures.value) found.1.reads in
    let fails = c.in_err-asked.ensures.gives h (drop start first) reads found.1.fields in
    let told = err_from_is_err_and c.from_residual-in_err-asked.result c.from_residual-in_err-asked.ensures.1 in
    let S : Result Command Stop → Type 0 = λ r. OfInput known (λ input. Settles input r) in
    subst S (sym (told.1 ∙ ap Err told.2))
    (settles_head_stop known (g.R.Read.remaining c.read_request_head.new.reader) first (drop start first) h c.in_err-asked.field-0.0
    c.in_ok-start.ensures.consumed found.1 fails)

-- the input ends before the body does
pub returns-in_err-body-clause-settles : goal.returns-in_err-body-clause-settles
returns-in_err-body-clause-settles g c =
    let known = g.R.Read.remaining c.args.reader.now in
    let between = g.R.Read.remaining c.read_request_head.new.reader in
    let left = g.R.Read.remaining c.fill_to.new.reader in
    let first = c.read_request_head.new.buffer.items in
    let start = c.in-Some.start in
    let P : Option ℕ → Type 0 = λ o. FindsHead known first o in
    let found : BeginsWithHead first start = subst P c.in-Some.is c.in_ok-start.ensures.found in
    let filled = c.in_ok-fill_to.ensures in
    let whole = Consumes-trans known between left first filled.0 c.in_ok-start.ensures.consumed filled.2 in
    let head = head_more first filled.0 found.0 (drop start first) found.1 in
    let h = found.0 in
    let rest = drop start first ++ filled.0 in
    let Q : List ℕ → Type 0 = λ l. ReadsRequest l h (drop start first) in
    let reads = subst Q (sym c.as_slice.ensures.value) found.1.reads in
    let a = asked_view c.in_ok-asked.asked in
    let asked : asked_by h ≡ Ok a = c.in_ok-asked.ensures.gives h (drop start first) reads found.1.fields in
    let short : start ≤ length first = omega (arith, head_short first h (drop start first) found.1, found.2) in
    let bytes : c.as_slice-2.result.now ≡ first ++ filled.0 = c.as_slice-2.ensures.value ∙ filled.1 in
    let behind : drop start c.as_slice-2.result.now ≡ rest = ap (drop start) bytes ∙ drop-append-le start first filled.0 short in
    let e = c.in_err-body.field-0.0 in
    let cut : FailsAs e (body_in a.1 rest) = subst (λ l. FailsAs e (body_in a.1 l)) behind c.in_err-body.ensures in
    let size : vec_len c.fill_to.new.buffer ≡ length (first ++ filled.0) = c.fill_to.new.buffer.ok.0 ∙ ap length filled.1 in
    let told = err_from_is_err_and c.from_residual-in_err-body.result c.from_residual-in_err-body.ensures.1 in
    let S : Result Command Stop → Type 0 = λ r. OfInput known (λ input. Settles input r) in
    subst S (sym (told.1 ∙ ap Err told.2))
    (settles_body_stop known left (first ++ filled.0) rest h a e whole head
    (λ few. filled.3 (omega (arith, few, size, short, length-append first filled.0, length-append (drop start first) filled.0, length-drop start first)))
    asked cut)

-- the input has no head
pub returns-in_default-clause-settles : goal.returns-in_default-clause-settles
returns-in_default-clause-settles g c =
    let known = g.R.Read.remaining c.args.reader.now in
    let first = c.read_request_head.new.buffer.items in
    let P : Option ℕ → Type 0 = λ o. FindsHead known first o in
    settles_none known first (subst P c.in_default.is c.in_ok-start.ensures.found)

-- a read failed, or memory ran out
pub returns-in_err-start-clause-settles : goal.returns-in_err-start-clause-settles
returns-in_err-start-clause-settles g c =
    let known = g.R.Read.remaining c.args.reader.now in
    let told = err_from_is_err_and c.from_residual.result c.from_residual.ensures.1 in
    let S : Result Command Stop → Type 0 = λ r. OfInput known (λ input. Settles input r) in
    subst S (sym (told.1 ∙ ap Err told.2)) (of_input_unit known)

pub returns-in_err-fill_to-clause-settles : goal.returns-in_err-fill_to-clause-settles
returns-in_err-fill_to-clause-settles g c =
    let known = g.R.Read.remaining c.args.reader.now in
    let told = err_from_is_err_and c.from_residual-in_err-fill_to.result c.from_residual-in_err-fill_to.ensures.1 in
    let S : Result Command Stop → Type 0 = λ r. OfInput known (λ input. Settles input r) in
    subst S (sym (told.1 ∙ ap Err told.2)) (of_input_unit known)

-- ---- how far the reader was read

pub returns-clause-reads : goal.returns-clause-reads
returns-clause-reads g c =
    let known = g.R.Read.remaining c.args.reader.now in
    let between = g.R.Read.remaining c.read_request_head.new.reader in
    let left = g.R.Read.remaining c.fill_to.new.reader in
    let first = c.read_request_head.new.buffer.items in
    let start = c.in-Some.start in
    let P : Option ℕ → Type 0 = λ o. FindsHead known first o in
    let found : BeginsWithHead first start = subst P c.in-Some.is c.in_ok-start.ensures.found in
    let filled = c.in_ok-fill_to.ensures in
    let whole = Consumes-trans known between left first filled.0 c.in_ok-start.ensures.consumed filled.2 in
    let h = found.0 in
    let Q : List ℕ → Type 0 = λ l. ReadsRequest l h (drop start first) in
    let reads = subst Q (sym c.as_slice.ensures.value) found.1.reads in
    let a = asked_view c.in_ok-asked.asked in
    let asked : asked_by h ≡ Ok a = c.in_ok-asked.ensures.gives h (drop start first) reads found.1.fields in
    let short : start ≤ length first = omega (arith, head_short first h (drop start first) found.1, found.2) in
    let size : vec_len c.read_request_head.new.buffer ≡ length first = c.read_request_head.new.buffer.ok.0 in
    let few : length filled.0 ≤ a.1 - length (drop start first) = omega (arith, filled.4, size, short, length-drop start first) in
    let no_further = body_read known left first filled.0 (drop start first) h a whole c.in_ok-start.ensures.pieces found.1 asked few in
    unless_fault (ReadsOneRequest known left) c.command_of.result no_further

pub returns-in_err-body-clause-reads : goal.returns-in_err-body-clause-reads
returns-in_err-body-clause-reads g c =
    let known = g.R.Read.remaining c.args.reader.now in
    let between = g.R.Read.remaining c.read_request_head.new.reader in
    let left = g.R.Read.remaining c.fill_to.new.reader in
    let first = c.read_request_head.new.buffer.items in
    let start = c.in-Some.start in
    let P : Option ℕ → Type 0 = λ o. FindsHead known first o in
    let found : BeginsWithHead first start = subst P c.in-Some.is c.in_ok-start.ensures.found in
    let filled = c.in_ok-fill_to.ensures in
    let whole = Consumes-trans known between left first filled.0 c.in_ok-start.ensures.consumed filled.2 in
    let h = found.0 in
    let Q : List ℕ → Type 0 = λ l. ReadsRequest l h (drop start first) in
    let reads = subst Q (sym c.as_slice.ensures.value) found.1.reads in
    let a = asked_view c.in_ok-asked.asked in
    let asked : asked_by h ≡ Ok a = c.in_ok-asked.ensures.gives h (drop start first) reads found.1.fields in
    let short : start ≤ length first = omega (arith, head_short first h (drop start first) found.1, found.2) in
    let size : vec_len c.read_request_head.new.buffer ≡ length first = c.read_request_head.new.buffer.ok.0 in
    let few : length filled.0 ≤ a.1 - length (drop start first) = omega (arith, filled.4, size, short, length-drop start first) in
    let no_further = body_read known left first filled.0 (drop start first) h a whole c.in_ok-start.ensures.pieces found.1 asked few in
    unless_fault (ReadsOneRequest known left) c.from_residual-in_err-body.result no_further

pub returns-in_err-asked-clause-reads : goal.returns-in_err-asked-clause-reads
returns-in_err-asked-clause-reads g c =
    let known = g.R.Read.remaining c.args.reader.now in
    let left = g.R.Read.remaining c.read_request_head.new.reader in
    unless_fault (ReadsOneRequest known left) c.from_residual-in_err-asked.result
    (head_read known left c.read_request_head.new.buffer.items c.in_ok-start.ensures.consumed c.in_ok-start.ensures.pieces)

pub returns-in_default-clause-reads : goal.returns-in_default-clause-reads
returns-in_default-clause-reads g c =
    head_read (g.R.Read.remaining c.args.reader.now) (g.R.Read.remaining c.read_request_head.new.reader) c.read_request_head.new.buffer.items
    c.in_ok-start.ensures.consumed c.in_ok-start.ensures.pieces

pub returns-in_err-start-clause-reads : goal.returns-in_err-start-clause-reads
returns-in_err-start-clause-reads g c =
    let known = g.R.Read.remaining c.args.reader.now in
    let left = g.R.Read.remaining c.read_request_head.new.reader in
    let told = err_from_is_err_and c.from_residual.result c.from_residual.ensures.1 in
    let S : Result Command Stop → Type 0 = λ r. UnlessFault (ReadsOneRequest known left) r in
    subst S (sym (told.1 ∙ ap Err told.2)) tt

pub returns-in_err-fill_to-clause-reads : goal.returns-in_err-fill_to-clause-reads
returns-in_err-fill_to-clause-reads g c =
    let known = g.R.Read.remaining c.args.reader.now in
    let left = g.R.Read.remaining c.fill_to.new.reader in
    let told = err_from_is_err_and c.from_residual-in_err-fill_to.result c.from_residual-in_err-fill_to.ensures.1 in
    let S : Result Command Stop → Type 0 = λ r. UnlessFault (ReadsOneRequest known left) r in
    subst S (sym (told.1 ∙ ap Err told.2)) tt
