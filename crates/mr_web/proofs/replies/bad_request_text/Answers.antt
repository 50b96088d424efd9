use Rattle.std.proofs.Common.{rules}
use Rattle.std.specs.Fmt.{digits}
use Rattle.mr_web.proofs.replies.bad_request_text.Goals as goal

pub returns : goal.returns
unfolding digits
returns c = search rules
