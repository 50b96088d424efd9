use Rattle.std.proofs.Common.{refl}
use Rattle.sqlite.specs.Held.{state}
use Rattle.mr_sql.proofs.TakenLemmas.{strange_others}
use Rattle.mr_sql.proofs.OpeningLaws.{unread_strange}
use Rattle.mr_sql.proofs.adopt.settle.Goals as goal

pub returns : goal.returns
returns g c =
    let s = state g.S.Store c.args.conn.now in
    record {
      opening = unread_strange c.args.whose s (λ taken. strange_others c.args.whose s taken (c.if-is_blank.ensures.other refl) c.requires.others (c.if-is_first.ensures.other refl));
    }

pub returns-then-is_first : goal.returns-then-is_first
returns-then-is_first g c = record { opening = c.raise.ensures.opening }
