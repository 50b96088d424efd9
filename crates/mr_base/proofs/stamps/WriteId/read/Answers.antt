use Rattle.std.proofs.Common.{◌∙◌, ap}
use Rattle.std.specs.Prelude.{ok_or}
use Rattle.mr_base.specs.declared.refusals.Refusal.TheVariants.{NoSuchRequest}
use Rattle.mr_base.proofs.IdTexts.{read_id_is, written, read}
use Rattle.mr_base.proofs.stamps.WriteId.read.Goals as goal

pub returns-clause-value : goal.returns-clause-value
returns-clause-value c = c.ok_or.ensures.value ∙ ap (λ o. ok_or o NoSuchRequest) (c.id_of.ensures ∙ read_id_is c.args.text.now)

pub returns-clause-written : goal.returns-clause-written
returns-clause-written c = written c.args.text.now NoSuchRequest _ (c.ok_or.ensures.value ∙ ap (λ o. ok_or o NoSuchRequest) c.id_of.ensures)

pub returns-clause-read : goal.returns-clause-read
returns-clause-read c id is text = read c.args.text.now NoSuchRequest _ (c.ok_or.ensures.value ∙ ap (λ o. ok_or o NoSuchRequest) c.id_of.ensures) id is text
