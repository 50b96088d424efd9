use Rattle.std.proofs.Common.{◌≡◌, ◌∷◌, [], ◌++◌, sym, ap, subst, ◌∙◌}
use Rattle.std.specs.List.{filter}
use Rattle.std.specs.Prelude.{IfOk}
use Rattle.std.proofs.lemmas.Result.{IfOk-weaker}
use Rattle.mr_base.specs.Batches.{item_of}
use Rattle.mr_model.specs.Queries.{log_id}
use Rattle.mr_model.specs.Scopes.{is_named}
use Rattle.mr_model.specs.Exchange.{W, C}
use Rattle.mr_model.specs.Writes.{id_of, same_id}
use Rattle.mr_replica.specs.RowKeys.{log_key, number_end, AreBetween, AreThose}
use Rattle.mr_replica.proofs.NamedRows.{commit_those, write_those}
use Rattle.mr_replica.proofs.indexed.Indexed+LogRow.named_by.Goals as goal

pub returns-in-W-clause-those : goal.returns-in-W-clause-those
returns-in-W-clause-those c =
    let all = c.args.self.now.rows in
    let w = c.in-W.write in
    let id = c.id.result in
    subst (λ it. IfOk c.with_id.result (λ rows. AreThose (is_named (item_of it ∷ [])) all rows.items)) (sym c.in-W.is)
    (IfOk-weaker c.with_id.result (λ rows. rows.items ≡ filter (λ r. same_id (log_id r) id) all) (λ rows. AreThose (is_named (W w ∷ [])) all rows.items)
    (λ rows is. subst (AreThose (is_named (W w ∷ [])) all) (sym is) (write_those w id all (c.id.ensures ∙ ap id_of c.write.view_is)))
    c.with_id.ensures.those)

pub returns-in_ok-append-in-C-clause-those : goal.returns-in_ok-append-in-C-clause-those
returns-in_ok-append-in-C-clause-those c =
    let all = c.args.self.now.rows in
    let seq = c.in-C.seq in
    let id = c.in-C.id in
    let rows = c.in_ok-rows-in-C.rows.items in
    let first = c.number_end.ensures ∙ ap (number_end 0) c.number-number.ensures.value in
    let last = c.number_end-in-C.ensures ∙ ap (number_end 2) c.number-number.ensures.value in
    let between : AreBetween log_key (number_end 0 seq) (number_end 2 seq) all rows =
    subst (λ k. AreBetween log_key (number_end 0 seq) k all rows) last (subst (λ k. AreBetween log_key k c.number_end-in-C.result all rows) first c.in_ok-rows-in-C.ensures.found) in
    subst (λ it. AreThose (is_named (item_of it ∷ [])) all c.append.new.self.items) (sym c.in-C.is)
    (subst (AreThose (is_named (C seq id ∷ [])) all) (sym (c.in_ok-append-in-C.ensures.items ∙ ap (λ ys. rows ++ ys) c.in_ok-with_id-in-C.ensures.those)) (commit_those seq id all rows between))
