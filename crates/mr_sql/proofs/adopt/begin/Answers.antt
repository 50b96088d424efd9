use Rattle.std.proofs.Common.{inl}
use Rattle.sqlite.specs.Held.{state}
use Rattle.sqlite.proofs.StateLemmas.{survives_weaker}
use Rattle.mr_rows.specs.Schema.{no_schema}
use Rattle.mr_sql.proofs.OpeningLemmas.{opening_stands}
use Rattle.mr_sql.proofs.OpeningLaws.{blank_holds_none, of_opening}
use Rattle.mr_sql.proofs.TakenLemmas.{not_strange, sound_as, stays}
use Rattle.mr_sql.proofs.adopt.begin.Goals as goal

pub returns-in-Ok : goal.returns-in-Ok
returns-in-Ok g c =
    let old = state g.S.Store c.args.conn.now in
    let new = state g.S.Store c.create.new.conn in
    record {
      opening = record {
        survives = survives_weaker old new _ _
            (λ _ db are taken. inl (
              sound_as old no_schema taken c.requires.blank,
              opening_stands _ _ db c.number.ensures.in_range c.number-2.ensures.in_range c.number.ensures.value c.number-2.ensures.value c.opening-row.ensures (are c.requires.blank),
            )) c.create.ensures.survives;
        opened = λ clean taken.
            let now = c.in-Ok.ensures.lasts clean in
            record {
              is_open = now;
              kept = c.in-Ok.ensures.kept clean now c.requires.blank;
              tables = inl (
                sound_as old no_schema taken c.requires.blank,
                opening_stands _ _ _ c.number.ensures.in_range c.number-2.ensures.in_range c.number.ensures.value c.number-2.ensures.value c.opening-row.ensures
                    (c.in-Ok.ensures.tables clean now c.requires.blank),
              );
              fresh = tt;
            };
        refused = λ clean taken. tt;
        cause = tt;
      };
    }

pub returns-in-Err : goal.returns-in-Err
returns-in-Err g c =
    let old = state g.S.Store c.args.conn.now in
    let new = state g.S.Store c.create.new.conn in
    record {
      opening = record {
        survives = survives_weaker old new _ _
            (λ _ db are taken. inl (
              sound_as old no_schema taken c.requires.blank,
              opening_stands _ _ db c.number.ensures.in_range c.number-2.ensures.in_range c.number.ensures.value c.number-2.ensures.value c.opening-row.ensures (are c.requires.blank),
            )) c.create.ensures.survives;
        opened = λ clean taken. tt;
        refused = λ clean taken. record {
          strange = λ is. absurd (not_strange c.refusal_of.ensures.cause is);
          store = λ _. inl (sound_as old no_schema taken c.requires.blank);
          failed = λ held is. absurd (blank_holds_none old taken c.requires.blank held);
          stays = λ now. stays old new taken (c.in-Err.ensures.refused clean now c.requires.blank taken.settled);
        };
        cause = of_opening c.refusal_of.result c.refusal_of.ensures.cause;
      };
    }
