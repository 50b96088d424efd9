-- The order of ids, for maps that have them as keys.
use Rattle.std.specs.Ordering.{on, nat_cmp, then_cmp}
use Rattle.std.specs.declared.cmp.Ordering.{Ordering}
use Rattle.mr_model.specs.Writes.{Id}

-- by server, then by count
abbrev pub id_cmp : Id → Id → Ordering
id_cmp = then_cmp (on (λ i. i.server) nat_cmp) (on (λ i. i.n) nat_cmp)
