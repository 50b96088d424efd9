use Rattle.std.proofs.Common.{◌≡◌, refl, reverse, sym, ap, subst}
use Rattle.std.specs.Prelude.{OnOk}
use Rattle.std.specs.BTreeSet.{InsertsAll}
use Rattle.std.proofs.lemmas.Iterator.{YieldsList-from_slice}
use Rattle.std.proofs.lemmas.Iterator.Adapters.{fact_from_extend}
use Rattle.mr_model.specs.Replica.{is_among}
use Rattle.mr_model.specs.Writes.{Id}
use Rattle.mr_base.specs.Ids.{id_cmp}
use Rattle.mr_tables.specs.Change.{id_before, put_all}
use Rattle.mr_replica.specs.Journal.{is_going, AreSteps}
use Rattle.mr_replica.specs.RowKeys.{IsRowNoted}
use Rattle.mr_replica.proofs.Journals.{but_these, going_all}
use Rattle.mr_replica.proofs.journal.Journal.put_all.Goals as goal

pub loop-row-init : goal.loop-row-init
loop-row-init g c =
    let id = g.R.IdRow.id in
    let gone = c.args.gone.now in
    let rows = c.args.table.now.rows in
    let old = c.args.self.now.going in
    let new = c.extend.new.self in
    let all : (i : Id) → is_going new i ≡ is_among i gone =
    subst (λ r. OnOk r ((i : Id) → is_going new i ≡ is_among i gone)) c.in_ok-extend.was
    (fact_from_extend (λ x. x.now) c.extend.result c.extend.ensures.ran (λ it b. YieldsList-from_slice gone b.0)
    (λ xs e made. going_all old new gone c.requires.going (subst (λ ids. InsertsAll id_cmp old ids new) e made))) in
    record {
      steps = subst (λ puts. AreSteps id (IsRowNoted g.R.KeyedRow.second_key c.args.table.now.keys) (reverse puts) rows rows) (sym c.requires.puts) refl;
      made = ap (put_all id_before id c.args.news.now) (but_these id (is_going new) gone rows all);
    }
