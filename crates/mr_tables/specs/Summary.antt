-- The numbers of a replica, and what one write more and one commit more make of them.
use Rattle.std.specs.Prelude.{ℕ, ◌+◌, ◌-◌, ◌≤◌, min, max, nat_le, ◌==◌, if◌then◌else◌, List, [], ◌∷◌, map, length, slice_set, Result, Ok, Err}
use Rattle.std.specs.List.{All, slice_index_or}
use Rattle.mr_model.specs.Texts.{numbers_on}
use Rattle.mr_model.specs.Writes.{Id, Stamp, Write, greatest_count, greatest_time}
use Rattle.mr_model.specs.Positions.{Count}
use Rattle.mr_model.specs.Replica.{Replica, count_of, last_time, committed_count, clock_of}
use Rattle.mr_base.specs.declared.refusals.Refusal.{Refusal}
use Rattle.mr_base.specs.declared.refusals.Refusal.TheVariants.{ClockExhausted, CountExhausted}
use Rattle.mr_tables.specs.declared.summary.Tally.{Tally}
use Rattle.mr_tables.specs.declared.summary.Summary.{Summary}

abbrev pub no_tally : Tally
no_tally = record { count = 0; last_time = 0; committed = 0 }

-- the tally of a server
abbrev pub tally_at : List Tally → ℕ → Tally
tally_at ts s = slice_index_or ts s no_tally

-- the numbers are within the limits of positions
pub record IsWithin (s : Summary) : Type 0 where
  pub commits : s.commits ≤ 999_999_999_999
  pub counts : All (λ t. t.count ≤ 999_999_999) s.tallies

-- with a write as the last of its server
abbrev pub noted_write : Summary → Stamp → Summary
noted_write s stamp =
    record s {
      clock = max s.clock stamp.time;
      tallies = slice_set s.tallies stamp.server (record (tally_at s.tallies stamp.server) { count = stamp.n; last_time = stamp.time });
    }

-- with one commit more, the last of its server; the number of commits stops at the greatest of its type
abbrev pub noted_commit : Summary → Id → Summary
noted_commit s id =
    record s {
      commits = min (s.commits + 1) 18_446_744_073_709_551_615;
      tallies = slice_set s.tallies id.server (record (tally_at s.tallies id.server) { committed = id.n });
    }

-- with these commits more
abbrev pub noted_commits : Summary → List Id → Summary
noted_commits s [] = s
noted_commits s (id ∷ ids) = noted_commits (noted_commit s id) ids

-- how many of the kept writes are committed
abbrev pub committed_len : Summary → List Write → ℕ
committed_len s kept = min (s.commits - s.dropped) (length kept)

-- the counts of these servers, without those that have no write
abbrev pub counts_in : List Tally → List ℕ → List Count
counts_in ts [] = []
counts_in ts (s ∷ ss) =
    if (tally_at ts s).count == 0 then counts_in ts ss else record { server = s; count = (tally_at ts s).count } ∷ counts_in ts ss

-- the next stamp of the own server, or why there is none
abbrev pub stamp_next : Summary → Result Stamp Refusal
stamp_next s =
    let count = (tally_at s.tallies s.server).count in
    if nat_le greatest_time s.clock then Err ClockExhausted
    else (if nat_le greatest_count count then Err CountExhausted
    else Ok (record { server = s.server; n = count + 1; time = s.clock + 1 }))

-- ---- of a replica

abbrev pub tally_of : Replica → ℕ → Tally
tally_of a s = record { count = count_of a s; last_time = last_time a s; committed = committed_count a s }

abbrev pub summary_of : Replica → Summary
summary_of a =
    record {
      server = a.server;
      primary = a.primary;
      commits = length a.commits;
      dropped = a.dropped;
      clock = clock_of a;
      tallies = map (tally_of a) (numbers_on 0 100);
    }
