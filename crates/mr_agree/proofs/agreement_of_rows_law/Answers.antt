use Rattle.mr_agree.proofs.TablesAgree.{standing_tables_agree}
use Rattle.mr_agree.proofs.FreeIds.{next_ids_are_free}
use Rattle.mr_agree.proofs.agreement_of_rows_law.Goals as goal

pub returns : goal.returns
returns c = record { agree = standing_tables_agree; free = next_ids_are_free }
