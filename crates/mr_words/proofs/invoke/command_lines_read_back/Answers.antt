use Rattle.mr_words.proofs.CommandsReadBack.{lines_read_back}
use Rattle.mr_words.proofs.invoke.command_lines_read_back.Goals as goal

pub returns : goal.returns
returns c = lines_read_back
