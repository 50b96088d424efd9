use Rattle.std.proofs.Common.{◌≤◌, ◌-◌, vec_len}
use Rattle.std.specs.Io.KnownBytes.{Consumes}
use Rattle.mr_http.specs.Looks.{Awaits}
use Rattle.mr_http.specs.Reading.{IsReadWhile}
use Rattle.mr_http.proofs.heads.read_head.Given as goal

abbrev pub invariant-reading : goal.invariant-reading
invariant-reading g l = record {
  consumed : Consumes (g.R.Read.remaining l.fn.reader) (g.R.Read.remaining l.reader) l.buffer.items;
  within : vec_len l.buffer ≤ 8192;
  pieces : IsReadWhile (Awaits l.kind) l.buffer.items;
}

abbrev pub decreases-reading : goal.decreases-reading
decreases-reading g l = 8192 - vec_len l.buffer
