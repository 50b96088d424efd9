use Rattle.std.proofs.Common.{◌≡◌, ◌∷◌, [], Option, cond, false, reverse, sym, ap, subst, ◌∙◌}
use Rattle.std.proofs.lemmas.List.{reverse-append}
use Rattle.std.specs.BTreeMap.{is_at}
use Rattle.mr_model.specs.Writes.{Id, same_id}
use Rattle.mr_base.specs.Ids.{id_cmp}
use Rattle.mr_replica.specs.Journal.{is_going, rows_but, AreSteps}
use Rattle.mr_replica.specs.RowKeys.{IsRowNoted}
use Rattle.mr_replica.proofs.Journals.{at_id, put_but, steps_more}
use Rattle.mr_replica.proofs.journal.put_one.Goals as goal

pub returns-in_err-old-clause-steps : goal.returns-in_err-old-clause-steps
returns-in_err-old-clause-steps g c = λ before h.
    let id = g.R.IdRow.id in
    let key = g.R.KeyedRow.second_key in
    let noted = IsRowNoted key c.put.new.self.keys in
    let old = c.args.table.now.rows in
    subst (λ rows. AreSteps id noted (reverse c.reserve.new.self.items) before rows) (sym c.in_err-old.ensures.kept)
    (subst (λ items. AreSteps id noted (reverse items) before old) (sym c.reserve.ensures.items)
    (steps_more id (IsRowNoted key c.args.table.now.keys) noted (λ r n. c.put.ensures.keys (key r) n) (reverse c.args.journal.now.puts.items) before old h))

pub returns-clause-steps : goal.returns-clause-steps
returns-clause-steps g c = λ before h.
    let id = g.R.IdRow.id in
    let key = g.R.KeyedRow.second_key in
    let noted = IsRowNoted key c.put.new.self.keys in
    let old = c.args.table.now.rows in
    let items = c.reserve.new.self.items in
    let step : Id × Option g.row.R.Denot = (c.write_id-id.result, c.in_ok-old.old) in
    let more : (r : g.row.R.Denot) → IsRowNoted key c.args.table.now.keys r → noted r = λ r n. c.put.ensures.keys (key r) n in
    let older : AreSteps id noted (reverse items) before old =
    subst (λ xs. AreSteps id noted (reverse xs) before old) (sym c.reserve.ensures.items)
    (steps_more id (IsRowNoted key c.args.table.now.keys) noted more (reverse c.args.journal.now.puts.items) before old h) in
    subst (λ xs. AreSteps id noted (reverse xs) before c.put.new.self.rows) (sym c.push_reserved.ensures.items)
    (subst (λ xs. AreSteps id noted xs before c.put.new.self.rows) (sym (reverse-append items (step ∷ []))) (
      old,
      record {
        row = c.args.row;
        order = c.put.ensures.index.order;
        put = c.in_ok-old.ensures.put;
        its_id = c.write_id-id.ensures;
        old = c.in_ok-old.ensures.old;
        known = λ r there. more r (c.put.ensures.index.noted r there);
      },
      older,
    ))

pub returns-clause-made : goal.returns-clause-made
returns-clause-made g c =
    let id = g.R.IdRow.id in
    let going = c.args.journal.now.going in
    let next = c.remove.new.self in
    let here : (i : Id) → is_going next i ≡ cond (same_id i (id c.args.row)) false (is_going going i) =
    λ i. c.remove.ensures.updates.0 i ∙ ap (λ k. cond (is_at (id_cmp k) i) false (is_going going i)) c.write_id-id.ensures ∙ ap (λ b. cond b false (is_going going i)) (at_id (id c.args.row) i) in
    ap (rows_but id (is_going next)) c.in_ok-old.ensures.put
    ∙ put_but id (is_going going) (is_going next) c.args.row c.args.table.now.rows c.put.ensures.index.order here
