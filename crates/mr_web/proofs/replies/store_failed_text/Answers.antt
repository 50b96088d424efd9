use Rattle.std.proofs.Common.{rules}
use Rattle.std.specs.Fmt.{digits}
use Rattle.mr_web.proofs.replies.store_failed_text.Goals as goal

pub returns : goal.returns
unfolding digits
returns c = search rules
