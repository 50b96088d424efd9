use Rattle.std.proofs.Common.{ap, arith}
use Rattle.mr_tasks.proofs.RunLaws.{input_read}
use Rattle.mr_tasks.proofs.files.read_limited.Goals as goal

pub returns-else-len-gt-GREATEST_FILE-clause-all : goal.returns-else-len-gt-GREATEST_FILE-clause-all
returns-else-len-gt-GREATEST_FILE-clause-all g c =
    input_read (g.R.Read.remaining c.args.reader) (g.R.Read.remaining c.take-limited.result.inner) c.take-limited.result.limit c.new-bytes.result.items c.read_to_end.new.buf.items
    (ap g.R.Read.remaining c.take-limited.ensures.inner) c.new-bytes.ensures.items c.in-Ok.ensures.bytes
    (let long = c.read_to_end.new.buf.ok in omega (arith, c.if-len-gt-GREATEST_FILE.false, c.len.ensures, long, c.take-limited.ensures.limit))
