use Rattle.std.proofs.Common.{◌≡◌, None, Ok, Some, inl, inr, subst}
use Rattle.sqlite.specs.Held.{state}
use Rattle.sqlite.specs.State.{State}
use Rattle.mr_rows.specs.Reads.{IsPlacedIn}
use Rattle.mr_rows.specs.Schema.{first_schema}
use Rattle.mr_first.specs.FirstDatabase.{LooksFirst}
use Rattle.mr_first.proofs.ReadLemmas.{first_meta_found}
use Rattle.mr_sql.specs.Found.{IsTaken}
use Rattle.mr_sql.specs.Opening.{IsFirstFound, Suits}
use Rattle.mr_sql.proofs.TakenLemmas.{somebodys, sound_as, strange_first}
use Rattle.mr_sql.proofs.OpeningLaws.{first_holds_none, not_raised, raised, read_failed, read_strange}
use Rattle.mr_sql.proofs.first.raise.Goals as goal

here : (s : State) → s.now.schema ≡ first_schema → IsTaken s → IsPlacedIn first_schema s
here s first taken = record { schema = first; settled = taken.settled }

pub returns-in-Ok : goal.returns-in-Ok
returns-in-Ok g c = record {
  opening = raised c.args.whose (state g.S.Store c.args.conn.now) (state g.S.Store c.find_old.new.conn)
      (state g.S.Store c.move_up.new.conn) c.in-Ok-Some.meta c.requires.first (rw c.in-Ok-Some.field-0-is at c.in-Ok-Some.ensures.looks)
      (c.is_of.ensures.same c.if-not-is_of.false) c.move_up.ensures.survives c.in-Ok.ensures.lasts c.in-Ok.ensures.moved;
}

pub returns-in-Err-move_up : goal.returns-in-Err-move_up
returns-in-Err-move_up g c = record {
  opening = not_raised c.args.whose (state g.S.Store c.args.conn.now) (state g.S.Store c.find_old.new.conn)
      (state g.S.Store c.move_up.new.conn) c.in-Ok-Some.meta c.requires.first (rw c.in-Ok-Some.field-0-is at c.in-Ok-Some.ensures.looks)
      (c.is_of.ensures.same c.if-not-is_of.false) c.in-Err-move_up.error c.move_up.ensures.survives c.in-Err-move_up.ensures.moved c.refusal_of.result c.refusal_of.ensures.cause;
}

pub returns-then-not-is_of : goal.returns-then-not-is_of
returns-then-not-is_of g c =
    let old = state g.S.Store c.args.conn.now in
    let looks : LooksFirst old (state g.S.Store c.find_old.new.conn) (Ok (Some c.in-Ok-Some.meta)) (IsFirstFound old.now.trees) = rw c.in-Ok-Some.field-0-is at c.in-Ok-Some.ensures.looks in
    record {
      opening = read_strange c.args.whose old (state g.S.Store c.find_old.new.conn) (IsPlacedIn first_schema) (here old c.requires.first) looks.0 looks.1 (λ clean taken.
          let meta = first_meta_found old.now.trees _ (looks.2 clean (here old c.requires.first taken)).1.1 in
          strange_first c.args.whose old taken c.requires.first (inr (λ suits. c.is_of.ensures.other c.if-not-is_of.true (subst (Suits c.args.whose) meta suits))));
    }

pub returns-in-Ok-None : goal.returns-in-Ok-None
returns-in-Ok-None g c =
    let old = state g.S.Store c.args.conn.now in
    let looks : LooksFirst old (state g.S.Store c.find_old.new.conn) (Ok None) (IsFirstFound old.now.trees) = rw c.in-Ok-None.field-0-is at c.in-Ok-None.ensures.looks in
    record {
      opening = read_strange c.args.whose old (state g.S.Store c.find_old.new.conn) (IsPlacedIn first_schema) (here old c.requires.first) looks.0 looks.1 (λ clean taken.
          strange_first c.args.whose old taken c.requires.first (inl (looks.2 clean (here old c.requires.first taken)).1));
    }

pub returns-in-Err : goal.returns-in-Err
returns-in-Err g c =
    let old = state g.S.Store c.args.conn.now in
    record {
      opening = read_failed c.args.whose old (state g.S.Store c.find_old.new.conn) (IsPlacedIn first_schema)
          (here old c.requires.first) c.in-Err.ensures.looks.0 c.in-Err.ensures.looks.1 c.refusal_of-in-Err.result c.refusal_of-in-Err.ensures.cause
          (λ taken. somebodys c.args.whose old.now.trees (inr (sound_as old first_schema taken c.requires.first)))
          (λ clean taken held is. absurd (first_holds_none old taken c.requires.first held));
    }
