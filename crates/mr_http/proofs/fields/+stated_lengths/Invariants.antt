use Rattle.std.proofs.Common.{length}
use Rattle.mr_http.proofs.fields.+stated_lengths.Given as goal

abbrev pub decreases-stated_lengths : goal.decreases-stated_lengths
decreases-stated_lengths l = length l.fields.now
