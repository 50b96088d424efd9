use Rattle.std.proofs.Common.{◌≡◌, rules, sym, ◌∙◌, ap, inl, Ok, Some}
use Rattle.std.proofs.lemmas.Result.{err_from_is_err_and}
use Rattle.mr_base.specs.Batches.{batch_seen}
use Rattle.mr_wire.proofs.LoopLaws.{no_header_line, bad_header, bad_body, whole_batch, said_items}
use Rattle.mr_wire.proofs.batches.batch_of.Goals as goal

pub returns-in_default : goal.returns-in_default
returns-in_default c = no_header_line c.args.bytes.now c.in_default.ensures.value ∙ ap Ok (sym c.without_header.ensures)

pub returns-in_default-read_header : goal.returns-in_default-read_header
returns-in_default-read_header c = inl (bad_header c.args.bytes.now c.in-Some.line.now c.in-Some.rest.now c.in-Some.ensures.value (sym c.in_default-read_header.ensures))

pub returns-in_err-items : goal.returns-in_err-items
returns-in_err-items c =
    let p = err_from_is_err_and c.from_residual.result c.from_residual.ensures.1 in
    rw (p.1, p.2) (bad_body c.args.bytes.now c.in-Some.line.now c.in-Some.rest.now _ c.in_err-items.field-0.0 c.in-Some.ensures.value (sym c.in-Some-read_header.ensures) c.in_err-items.ensures)

pub of_said-requires : goal.of_said-requires
of_said-requires c = said_items c.args.bytes.now c.in-Some.line.now c.in-Some.rest.now _ _ c.in-Some.ensures.value c.in-Some-read_header.ensures c.in_ok-items.ensures

pub returns : goal.returns
returns c =
    let said : c.of_said.result ≡ batch_seen c.in-Some-read_header.version (Some c.in-Some-read_header.header) c.in_ok-items.items.items c.in_ok-items.ending = search rules in
    whole_batch c.args.bytes.now c.in-Some.line.now c.in-Some.rest.now _ _ c.in-Some.ensures.value c.in-Some-read_header.ensures c.in_ok-items.ensures ∙ ap Ok (sym said)
