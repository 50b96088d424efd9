use Rattle.mr_tasks.proofs.UniqueReading.{reads_one_way}
use Rattle.mr_tasks.proofs.script.scripts_are_read_one_way.Goals as goal

pub returns : goal.returns
returns c = reads_one_way
