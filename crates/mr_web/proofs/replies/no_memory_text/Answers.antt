use Rattle.std.proofs.Common.{rules}
use Rattle.std.specs.Fmt.{digits}
use Rattle.mr_web.proofs.replies.no_memory_text.Goals as goal

pub returns : goal.returns
unfolding digits
returns c = search rules
