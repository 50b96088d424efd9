use Rattle.std.proofs.Common.{◌≡◌, refl, true, false, find, sym, ap, subst, ◌∙◌}
use Rattle.std.proofs.lemmas.Bool.{true≢false}
use Rattle.std.specs.BTreeMap.{insert_entry, is_at}
use Rattle.std.specs.Map.{values_of, lookup}
use Rattle.mr_model.specs.Writes.{same_id}
use Rattle.mr_tables.specs.Change.{id_before, put}
use Rattle.mr_base.specs.Ids.{id_cmp}
use Rattle.mr_replica.specs.Keyed.{IsKeyed}
use Rattle.mr_replica.specs.RowKeys.{has_row_key, IndexView, AreRowsIndexed, IsTable}
use Rattle.mr_replica.proofs.ByKeys.{still, IsIndexed-more, IsIndexed-put}
use Rattle.mr_replica.proofs.RowsById.{found, on_err, rows_put, IsKeyed-put}
use Rattle.mr_replica.proofs.indexed.Indexed.put.Goals as goal

-- memory refuses the key
pub invariant_of-self : goal.invariant_of-self
invariant_of-self g c =
    record {
      keyed = c.self.invariant.keyed;
      index = IsIndexed-more g.R.IdRow.id g.R.KeyedRow.second_key g.met.R.KeyedRow.has_id (values_of c.self.inside.rows.entries) c.self.inside.keys c.insert.new.self c.self.invariant.index
          (λ k there. ap (λ ks. has_row_key (record { keys = ks }) k) c.in_err-insert.ensures.err ∙ there);
    }

-- the row
pub invariant_of-self-in_err-insert-2 : goal.invariant_of-self-in_err-insert-2
invariant_of-self-in_err-insert-2 g c =
    subst (λ es. IsTable g.R.IdRow.id g.R.KeyedRow.second_key es c.insert.new.self) (sym c.in_err-insert-2.ensures.err) (record {
      keyed = c.self.invariant.keyed;
      index = IsIndexed-more g.R.IdRow.id g.R.KeyedRow.second_key g.met.R.KeyedRow.has_id (values_of c.self.inside.rows.entries) c.self.inside.keys c.insert.new.self c.self.invariant.index
          (λ k there. c.in_ok-insert.ensures.updates.0 k ∙ still c.second_key.result k c.self.inside.keys there);
    })

-- both are there
pub invariant_of-self-2 : goal.invariant_of-self-2
invariant_of-self-2 g c =
    let id = g.R.IdRow.id in
    let key = g.R.KeyedRow.second_key in
    let old = c.self.inside.rows.entries in
    let new = c.insert.new.self in
    let entries = c.in_ok-insert-2.ensures.entries ∙ ap (λ k. insert_entry id_cmp old k c.args.row) c.write_id.ensures in
    record {
      keyed = subst (IsKeyed id) (sym entries) (IsKeyed-put id old c.args.row c.self.invariant.keyed);
      index = subst (λ rows. AreRowsIndexed id key rows new) (sym (ap values_of entries ∙ rows_put id old c.args.row c.self.invariant.keyed))
          (IsIndexed-put id key g.met.R.KeyedRow.has_id c.args.row (values_of old) c.self.inside.keys new new (find (λ x. same_id (id x) (id c.args.row)) (values_of old)) c.self.invariant.index refl
          (λ k there. c.in_ok-insert.ensures.updates.0 k ∙ still c.second_key.result k c.self.inside.keys there) (λ k other there. there)
          (subst (λ k. has_row_key new k ≡ true) c.second_key.ensures c.in_ok-insert.ensures.updates.1));
    }

pub returns-clause-put : goal.returns-clause-put
returns-clause-put g c =
    let id = g.R.IdRow.id in
    let old = c.self.inside.rows.entries in
    ap values_of (c.in_ok-insert-2.ensures.entries ∙ ap (λ k. insert_entry id_cmp old k c.args.row) c.write_id.ensures)
    ∙ rows_put id old c.args.row c.self.invariant.keyed
    ∙ ap (λ v. put id_before id c.args.row (IndexView.rows v)) c.self.view_is

pub returns-clause-old : goal.returns-clause-old
returns-clause-old g c =
    let id = g.R.IdRow.id in
    let old = c.self.inside.rows.entries in
    c.in_ok-insert-2.ensures.old ∙ ap (λ k. lookup (is_at (id_cmp k)) old) c.write_id.ensures ∙ found id old (id c.args.row) c.self.invariant.keyed
    ∙ ap (λ v. find (λ r. same_id (id r) (id c.args.row)) (IndexView.rows v)) c.self.view_is

pub returns-clause-keys : goal.returns-clause-keys
returns-clause-keys g c = λ k there.
    c.in_ok-insert.ensures.updates.0 k ∙ still c.second_key.result k c.self.inside.keys (ap (λ v. has_row_key (IndexView.keys v) k) c.self.view_is ∙ there)

pub returns-in_err-insert-2-clause-keys : goal.returns-in_err-insert-2-clause-keys
returns-in_err-insert-2-clause-keys g c = λ k there.
    c.in_ok-insert.ensures.updates.0 k ∙ still c.second_key.result k c.self.inside.keys (ap (λ v. has_row_key (IndexView.keys v) k) c.self.view_is ∙ there)

-- the key wasn't there
pub returns-in_err-insert-clause-absent : goal.returns-in_err-insert-clause-absent
returns-in_err-insert-clause-absent g c = λ there.
    let lacks : has_row_key c.self.inside.keys (g.R.KeyedRow.second_key c.args.row) ≡ false = ap (has_row_key c.self.inside.keys) (sym c.second_key.ensures) ∙ c.in_err-insert.ensures.absent in
    absurd (true≢false (sym there ∙ ap (λ v. has_row_key (IndexView.keys v) (g.R.KeyedRow.second_key c.args.row)) (sym c.self.view_is) ∙ lacks))

-- no row was there
pub returns-in_err-insert-2-clause-absent : goal.returns-in_err-insert-2-clause-absent
returns-in_err-insert-2-clause-absent g c = λ there.
    let id = g.R.IdRow.id in
    let old = c.self.inside.rows.entries in
    on_err c.from_residual-in_err-insert-2.result
    (ap (λ v. find (λ r. same_id (id r) (id c.args.row)) (IndexView.rows v)) (sym c.self.view_is) ∙ sym (found id old (id c.args.row) c.self.invariant.keyed)
    ∙ sym (ap (λ k. lookup (is_at (id_cmp k)) old) c.write_id.ensures) ∙ c.in_err-insert-2.ensures.absent)
