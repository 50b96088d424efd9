use Rattle.std.proofs.Common.{◌≡◌, subst, sym}
use Rattle.std.specs.List.Sorted.{IsPermutation}
use Rattle.std.proofs.lemmas.List.Sorted.{IsPermutation-refl}
use Rattle.sqlite.specs.Held.{state}
use Rattle.mr_rows.specs.Database.{tables_in}
use Rattle.mr_rows.proofs.QueryLemmas.{reads_so}
use Rattle.mr_sql.proofs.FailedReads.{alone}
use Rattle.mr_sql.proofs.answers.rooms_of.Goals as goal

pub returns-clause-reads : goal.returns-clause-reads
returns-clause-reads g c =
    let old = state g.S.Store c.args.conn.now in
    reads_so old (state g.S.Store c.read_rooms.new.conn) c.read_rooms.result (λ rooms. rooms.items ≡ (tables_in old.now.trees).room) _
    (λ kept rooms is. subst (IsPermutation (tables_in old.now.trees).room) (sym is) (IsPermutation-refl _)) c.read_rooms.ensures.reads

pub returns-clause-failed : goal.returns-clause-failed
returns-clause-failed g c = alone (state g.S.Store c.args.conn.now) (state g.S.Store c.read_rooms.new.conn) c.read_rooms.result (λ clean here rows. c.read_rooms.ensures.cause clean here rows.0.room)
