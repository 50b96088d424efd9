use Rattle.std.proofs.Common.{◌≡◌, None, Ok, Some, inl, inr, refl, subst}
use Rattle.sqlite.specs.Held.{state}
use Rattle.sqlite.specs.State.{State}
use Rattle.mr_model.specs.Tables.{Tables}
use Rattle.mr_rows.specs.Reads.{IsPlaced, Looks}
use Rattle.mr_rows.specs.Schema.{our_schema}
use Rattle.mr_rows.proofs.FoundLemmas.{meta_is_found}
use Rattle.mr_sql.specs.Opening.{AreFoundHere, Suits}
use Rattle.mr_sql.specs.Found.{IsTaken}
use Rattle.mr_sql.proofs.TakenLemmas.{somebodys, sound_as, strange_ours}
use Rattle.mr_sql.proofs.FailedLemmas.{rows_found, store_failed}
use Rattle.mr_sql.proofs.OpeningLaws.{found_open, read_failed, read_strange}
use Rattle.mr_sql.proofs.adopt.resume.Goals as goal

here : (s : State) → s.now.schema ≡ our_schema → IsTaken s → IsPlaced s
here s ours taken = record { schema = ours; settled = taken.settled }

pub returns-then-is_of : goal.returns-then-is_of
returns-then-is_of g c = record {
  opening = found_open c.args.whose (state g.S.Store c.args.conn.now)
      (state g.S.Store c.find.new.conn) c.args.keep c.in-Ok-Some.tables c.kept.result c.requires.ours (rw c.in-Ok-Some.field-0-is at c.in-Ok-Some.ensures.looks)
      (subst (λ (t : Tables). Suits c.args.whose t.meta) c.tables.view_is (c.if-is_of.ensures.same refl)) c.kept.ensures;
}

pub returns-else-is_of : goal.returns-else-is_of
returns-else-is_of g c =
    let old = state g.S.Store c.args.conn.now in
    let looks : Looks old (state g.S.Store c.find.new.conn) (Ok (Some c.in-Ok-Some.tables)) (AreFoundHere c.args.keep old.now.trees) = rw c.in-Ok-Some.field-0-is at c.in-Ok-Some.ensures.looks in
    let other = subst (λ (t : Tables). Suits c.args.whose t.meta → ⊥) c.tables.view_is (c.if-is_of.ensures.other refl) in
    record {
      opening = read_strange c.args.whose old (state g.S.Store c.find.new.conn) IsPlaced (here old c.requires.ours) looks.0 looks.1 (λ clean taken.
          let meta = meta_is_found old.now.trees _ (looks.2 clean (here old c.requires.ours taken)).1.1 in
          strange_ours c.args.whose old taken c.requires.ours (inr (λ suits. other (subst (Suits c.args.whose) meta suits))));
    }

pub returns-in-Ok-None : goal.returns-in-Ok-None
returns-in-Ok-None g c =
    let old = state g.S.Store c.args.conn.now in
    let looks : Looks old (state g.S.Store c.find.new.conn) (Ok None) (AreFoundHere c.args.keep old.now.trees) = rw c.in-Ok-None.field-0-is at c.in-Ok-None.ensures.looks in
    record {
      opening = read_strange c.args.whose old (state g.S.Store c.find.new.conn) IsPlaced (here old c.requires.ours) looks.0 looks.1 (λ clean taken.
          strange_ours c.args.whose old taken c.requires.ours (inl (looks.2 clean (here old c.requires.ours taken)).1));
    }

pub returns-in-Err : goal.returns-in-Err
returns-in-Err g c =
    let old = state g.S.Store c.args.conn.now in
    let new = state g.S.Store c.find.new.conn in
    record {
      opening = read_failed c.args.whose old new IsPlaced (here old c.requires.ours) c.in-Err.ensures.looks.0 c.in-Err.ensures.looks.1 c.refusal_of.result c.refusal_of.ensures.cause
          (λ taken. somebodys c.args.whose old.now.trees (inl (sound_as old our_schema taken c.requires.ours)))
          (λ clean taken held. store_failed old new c.in-Err.error c.refusal_of.result c.refusal_of.ensures.memory
          (c.in-Err.ensures.cause clean (here old c.requires.ours taken) (rows_found old.now.trees held)));
    }
