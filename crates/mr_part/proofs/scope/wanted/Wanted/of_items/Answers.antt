use Rattle.std.proofs.Common.{rules, ◌∙◌, ap, sym, subst, List, ℕ, map}
use Rattle.mr_model.specs.Scopes.{OfItems, touched_rooms}
use Rattle.mr_model.specs.Tables.{MetaRow, LogRow, Tables}
use Rattle.mr_base.specs.Batches.{item_of}
use Rattle.mr_part.specs.Parts.{kept_in}
use Rattle.mr_part.specs.RowTests.{has_log, IsBatchScope, ArePicked}
use Rattle.mr_part.proofs.PartScopes.{picked_items}
use Rattle.mr_part.proofs.scope.wanted.Wanted.of_items.Goals as goal

pub returns-in_err-batch-clause-only : goal.returns-in_err-batch-clause-only
returns-in_err-batch-clause-only c = λ a h e. search rules

pub returns-in_err-kept-clause-only : goal.returns-in_err-kept-clause-only
returns-in_err-kept-clause-only c = λ a h e.
    let t = c.args.tables.now in
    let items = map item_of c.args.items.now in
    let batch = c.in_ok-batch.batch in
    let log = c.deref.ensures.value ∙ ap (λ (u : Tables). u.log) c.tables.view_is in
    let log_still = c.deref-2.ensures.value ∙ ap (λ (u : Tables). u.log) c.tables.view_is in
    let commits = ap (λ (m : MetaRow). m.commits) (c.meta.view_is ∙ ap (λ (u : Tables). u.meta) c.tables.view_is) in
    let is = subst (λ (rows : List LogRow). IsBatchScope batch t.meta.commits items rows) log (subst (λ (n : ℕ). IsBatchScope batch n items c.deref.result.now) commits c.in_ok-batch.ensures.scope) in
    let told = subst (λ (rows : List LogRow). ArePicked a (has_log batch) rows (kept_in (OfItems items) a)) (sym log_still) (picked_items a items t batch h is e) in
    let only = c.in_err-kept.ensures.only a (kept_in (OfItems items) a) h told in
    search (rules, only)

pub returns-clause-wanted : goal.returns-clause-wanted
returns-clause-wanted c =
    let t = c.args.tables.now in
    let items = map item_of c.args.items.now in
    let batch = c.in_ok-batch.batch in
    let log = c.deref.ensures.value ∙ ap (λ (u : Tables). u.log) c.tables.view_is in
    let log_still = c.deref-2.ensures.value ∙ ap (λ (u : Tables). u.log) c.tables.view_is in
    let commits = ap (λ (m : MetaRow). m.commits) (c.meta.view_is ∙ ap (λ (u : Tables). u.meta) c.tables.view_is) in
    let is = subst (λ (rows : List LogRow). IsBatchScope batch t.meta.commits items rows) log (subst (λ (n : ℕ). IsBatchScope batch n items c.deref.result.now) commits c.in_ok-batch.ensures.scope) in
    record {
      bookings_are = c.in_rooms.ensures (touched_rooms t items) is.rooms_are;
      kept_are = λ a h e.
          let told = subst (λ (rows : List LogRow). ArePicked a (has_log batch) rows (kept_in (OfItems items) a)) (sym log_still) (picked_items a items t batch h is e) in
          c.in_ok-kept.ensures.writes a (kept_in (OfItems items) a) h told;
    }
