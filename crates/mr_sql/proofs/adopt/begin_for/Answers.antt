use Rattle.std.proofs.Common.{sym, subst}
use Rattle.sqlite.specs.Held.{state}
use Rattle.mr_sql.specs.Opening.{AreStrangeTo, IsOpening}
use Rattle.mr_sql.proofs.TakenLemmas.{strange_none}
use Rattle.mr_sql.proofs.OpeningLaws.{unread_strange}
use Rattle.mr_sql.proofs.adopt.begin_for.Goals as goal

pub returns-in-Of : goal.returns-in-Of
returns-in-Of g c = record {
  opening = subst (λ w. IsOpening w (state g.S.Store c.args.conn.now) (state g.S.Store c.begin.new.conn) c.begin.result) (sym c.in-Of.is) c.begin.ensures.opening;
}

pub returns-in-Anyones : goal.returns-in-Anyones
returns-in-Anyones g c =
    let s = state g.S.Store c.args.conn.now in
    record { opening = unread_strange c.args.whose s (λ taken. subst (λ w. AreStrangeTo w s.now.trees) (sym c.in-Anyones.is) (strange_none s taken c.requires.blank)) }
