-- What becomes of an item of a batch, by what is known and kept.
use Rattle.std.specs.Prelude.{ℕ, ◌+◌, Bool, true, false, not, if◌then◌else◌, ◌==◌, nat_lt, nat_le, List, find, Option, Some, None, Result, Ok, Err}
use Rattle.mr_model.specs.Writes.{Id, Write, id_of, same_id, same_write}
use Rattle.mr_base.specs.declared.refusals.Refusal.{Refusal}
use Rattle.mr_base.specs.declared.refusals.Refusal.TheVariants.{Gap, OutOfOrder, Forged, OwnWrite, PrimaryOnly}
use Rattle.mr_tables.specs.declared.summary.Tally.{Tally}
use Rattle.mr_tables.specs.declared.summary.Summary.{Summary}
use Rattle.mr_tables.specs.Summary.{tally_at}

-- ---- added, or skipped, or refused

-- the kept write of an id
abbrev pub write_with_id : List Write → Id → Option Write
write_with_id ws id = find (λ w. same_id (id_of w) id) ws

-- of a write that is known: where it isn't kept any more it is dropped
abbrev pub known_verdict : ℕ → Write → Option Write → Result Bool Refusal
known_verdict line w None = Ok false
known_verdict line w (Some v) = if same_write v w then Ok false else Err (Forged line)

-- by what is known of the write's server, and the kept write of its id
abbrev pub write_verdict_with : ℕ → Tally → ℕ → Option Write → Write → Result Bool Refusal
write_verdict_with line tally own there w =
    if nat_le w.stamp.n tally.count then known_verdict line w there
    else (if w.stamp.server == own then Err (OwnWrite line)
    else (if nat_lt (tally.count + 1) w.stamp.n then Err (Gap line)
    else (if nat_le w.stamp.time tally.last_time then Err (OutOfOrder line)
    else Ok true)))

abbrev pub write_verdict_by : ℕ → Tally → ℕ → List Write → Write → Result Bool Refusal
write_verdict_by line tally own kept w = write_verdict_with line tally own (write_with_id kept (id_of w)) w

abbrev pub write_verdict : ℕ → Summary → List Write → Write → Result Bool Refusal
write_verdict line s kept w = write_verdict_by line (tally_at s.tallies w.stamp.server) s.server kept w

-- of a commit that is known and not dropped: whether it is of this id
abbrev pub there_verdict : ℕ → Bool → Result Bool Refusal
there_verdict line is_there = if is_there then Ok false else Err (Forged line)

-- by what is known of the server, and whether the kept write of the id has that commit number
abbrev pub commit_verdict_with : ℕ → Tally → Summary → Bool → ℕ → Id → Result Bool Refusal
commit_verdict_with line tally s is_there q id =
    if nat_le q s.dropped then Ok false
    else (if nat_le q s.commits then there_verdict line is_there
    else (if s.server == s.primary then Err (PrimaryOnly line)
    else (if nat_lt (s.commits + 1) q then Err (Gap line)
    else (if nat_lt tally.count id.n then Err (Gap line)
    else (if not (id.n == tally.committed + 1) then Err (OutOfOrder line)
    else Ok true)))))

abbrev pub commit_verdict : ℕ → Summary → Bool → ℕ → Id → Result Bool Refusal
commit_verdict line s is_there q id = commit_verdict_with line (tally_at s.tallies id.server) s is_there q id
