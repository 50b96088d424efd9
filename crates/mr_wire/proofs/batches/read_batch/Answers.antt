use Rattle.std.proofs.Common.{subst, ap, ◌∙◌}
use Rattle.mr_model.proofs.BatchesReadBack.{reads_read}
use Rattle.mr_model.proofs.ByteFronts.{front_reads}
use Rattle.mr_base.specs.Answers.{Gives}
use Rattle.mr_model.specs.Exchange.{read_batch}
use Rattle.mr_wire.proofs.AnswerLaws.{ok_reads, err_refuses}
use Rattle.mr_wire.proofs.batches.read_batch.Goals as goal

pub returns-clause-reads : goal.returns-clause-reads
returns-clause-reads c = ok_reads c.args.bytes.now c.batch_of.result c.batch_of.ensures

pub returns-clause-all_read : goal.returns-clause-all_read
returns-clause-all_read c b r = subst (λ o. Gives c.batch_of.result o) (reads_read c.args.bytes.now b r) c.batch_of.ensures

pub returns-clause-refuses : goal.returns-clause-refuses
returns-clause-refuses c = err_refuses c.args.bytes.now c.batch_of.result c.batch_of.ensures

pub returns-clause-fronts : goal.returns-clause-fronts
returns-clause-fronts c n b ok is = subst (λ o. Gives c.batch_of.result o) (ap read_batch is ∙ front_reads n b ok) c.batch_of.ensures
