use Rattle.std.proofs.Common.{length}
use Rattle.mr_http.proofs.fields.+all_digits.Given as goal

abbrev pub decreases-all_digits : goal.decreases-all_digits
decreases-all_digits l = length l.value.now
