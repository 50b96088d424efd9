use Rattle.std.proofs.Common.{◌∙◌, ap, sym, subst, take, List, ℕ, Result, Ok, Err}
use Rattle.std.specs.Prelude.{IfErr}
use Rattle.std.proofs.lemmas.Result.{err_from_is_err_and}
use Rattle.std.specs.Io.KnownBytes.{Appends}
use Rattle.mr_http.specs.Faults.{web_fault}
use Rattle.mr_http.specs.declared.faults.WebFault.{WebFault}
use Rattle.mr_http.specs.declared.faults.WebFault.TheVariants.{Write}
use Rattle.mr_http.specs.Reading.{OnceRead}
use Rattle.mr_http.proofs.ReadPieces.{not_read, once_read}
use Rattle.mr_web.specs.RequestRead.{ReadsOneRequest}
use Rattle.mr_web.specs.RequestServed.{IsRequest}
use Rattle.mr_web.specs.Views.{AnswersTo, EndsServed, IsServeFault, bytes_view}
use Rattle.mr_web.specs.RepliesWritten.{MakesReply, Writes}
use Rattle.mr_web.proofs.ServedInputs.{ends_fault, none_written, serve_faults}
use Rattle.mr_web.proofs.OneRequest.{request_on}
use Rattle.mr_web.proofs.serving.serve_one.Goals as goal

-- nothing was written
pub returns-in_err-answer-clause-served : goal.returns-in_err-answer-clause-served
returns-in_err-answer-clause-served g c =
    let old = c.args.service.now in
    let new = c.answer_one.new.service in
    let known = g.R.Read.remaining c.args.reader.now in
    let held = g.W.Write.contents c.args.writer.now in
    let f = c.in_err-answer.field-0.0 in
    let told = err_from_is_err_and c.from_residual.result c.from_residual.ensures.1 in
    let P : Result ℕ WebFault → Type 0 = λ r. IsRequest g.K.Keeper old new known r (EndsServed held held) (Writes held held) in
    subst P (sym (told.1 ∙ ap Err told.2))
    (request_on g.K.Keeper old new known (Err f) (Err (web_fault f)) AnswersTo (EndsServed held held) MakesReply (Writes held held)
    c.in_err-answer.ensures.served (λ input before after a. ends_fault input before after a held f) (λ IsOne u. none_written held f IsOne))

-- a front of the reply was written
pub returns-in_err-send-clause-served : goal.returns-in_err-send-clause-served
returns-in_err-send-clause-served g c =
    let old = c.args.service.now in
    let new = c.answer_one.new.service in
    let known = g.R.Read.remaining c.args.reader.now in
    let held = g.W.Write.contents c.args.writer.now in
    let holds = g.W.Write.contents c.send.new.writer in
    let answer = c.in_ok-answer.answer in
    let told = err_from_is_err_and c.from_residual-in_err-send.result c.from_residual-in_err-send.ensures.1 in
    let front = c.send.ensures.front in
    let A : List ℕ → Type 0 = λ l. Appends held holds (take front.0 l) in
    let appends = subst A c.as_slice.ensures front.2 in
    let P : Result ℕ WebFault → Type 0 = λ r. IsRequest g.K.Keeper old new known r (EndsServed held holds) (Writes held holds) in
    subst P (sym (told.1 ∙ ap Err (told.2 ∙ c.in_err-send.ensures.fault)))
    (request_on g.K.Keeper old new known (Ok answer) (Err Write) AnswersTo (EndsServed held holds) MakesReply (Writes held holds)
    c.in_ok-answer.ensures.served (λ input before after a is. (bytes_view answer.bytes, answer.status, front.0, is, appends))
    (λ IsOne is. (bytes_view answer.bytes, answer.status, front.0, is, appends)))

-- the whole reply was written
pub returns-clause-served : goal.returns-clause-served
returns-clause-served g c =
    let held = g.W.Write.contents c.args.writer.now in
    let holds = g.W.Write.contents c.send.new.writer in
    let answer = c.in_ok-answer.answer in
    let A : List ℕ → Type 0 = λ l. Appends held holds l in
    let appends = subst A c.as_slice.ensures c.in_ok-send.ensures.ok in
    request_on g.K.Keeper c.args.service.now c.answer_one.new.service (g.R.Read.remaining c.args.reader.now) (Ok answer) (Ok answer.status)
    AnswersTo (EndsServed held holds) MakesReply (Writes held holds) c.in_ok-answer.ensures.served
    (λ input before after a is. (bytes_view answer.bytes, is, appends)) (λ IsOne is. (bytes_view answer.bytes, is, appends))

-- ---- which faults come

pub returns-in_err-answer-clause-fault : goal.returns-in_err-answer-clause-fault
returns-in_err-answer-clause-fault g c =
    let told = err_from_is_err_and c.from_residual.result c.from_residual.ensures.1 in
    subst (λ (r : Result ℕ WebFault). IfErr r IsServeFault) (sym (told.1 ∙ ap Err told.2)) (serve_faults c.in_err-answer.field-0.0)

pub returns-in_err-send-clause-fault : goal.returns-in_err-send-clause-fault
returns-in_err-send-clause-fault g c =
    let told = err_from_is_err_and c.from_residual-in_err-send.result c.from_residual-in_err-send.ensures.1 in
    subst (λ (r : Result ℕ WebFault). IfErr r IsServeFault) (sym (told.1 ∙ ap Err (told.2 ∙ c.in_err-send.ensures.fault))) tt

-- ---- how far the reader was read

pub returns-in_err-answer-clause-reads : goal.returns-in_err-answer-clause-reads
returns-in_err-answer-clause-reads g c =
    let told = err_from_is_err_and c.from_residual.result c.from_residual.ensures.1 in
    let P = ReadsOneRequest (g.R.Read.remaining c.args.reader.now) (g.R.Read.remaining c.answer_one.new.reader) in
    subst (λ (r : Result ℕ WebFault). OnceRead P r) (sym (told.1 ∙ ap Err told.2)) (not_read ℕ P c.in_err-answer.field-0.0)

pub returns-in_err-send-clause-reads : goal.returns-in_err-send-clause-reads
returns-in_err-send-clause-reads g c =
    once_read (ReadsOneRequest (g.R.Read.remaining c.args.reader.now) (g.R.Read.remaining c.answer_one.new.reader)) c.from_residual-in_err-send.result
    c.in_ok-answer.ensures.reads
