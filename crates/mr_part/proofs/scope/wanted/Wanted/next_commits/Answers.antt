use Rattle.std.proofs.Common.{rules, ◌∙◌, ap, sym, subst, [], map, take}
use Rattle.std.specs.List.{filter}
use Rattle.std.specs.Prelude.{None}
use Rattle.mr_model.specs.Changes.{first_tentative}
use Rattle.mr_model.specs.Queries.{log_id}
use Rattle.mr_model.specs.Scopes.{is_tentative, by_stamp}
use Rattle.mr_model.specs.Tables.{Tables}
use Rattle.mr_part.specs.KeptRows.{kept_row}
use Rattle.mr_part.specs.RowTests.{IsBookingTest}
use Rattle.mr_part.proofs.PartScopes.{commit_rows, first_kept}
use Rattle.mr_part.proofs.PickedRows.{rows_of_logged, logged_within}
use Rattle.mr_part.proofs.scope.wanted.Wanted.next_commits.Goals as goal

pub returns-in_err-first-clause-only : goal.returns-in_err-first-clause-only
returns-in_err-first-clause-only c = λ a h e. search rules

pub returns-in_err-kept-clause-only : goal.returns-in_err-kept-clause-only
returns-in_err-kept-clause-only c = λ a h e.
    let k = c.args.count in
    let log = c.deref.ensures.value ∙ ap (λ (t : Tables). t.log) c.tables.view_is in
    let first = c.in_ok-first.ensures.rows ∙ ap (λ rs. take k (by_stamp (filter is_tentative rs))) log in
    let told = ap (map (λ r. r.now)) c.deref-2.ensures.value ∙ first ∙ commit_rows a k c.args.tables.now h e ∙ sym (rows_of_logged a (first_tentative a k)) in
    let only = c.in_err-kept.ensures.only (map (kept_row a) (first_tentative a k)) (logged_within a (first_tentative a k) h (λ w g. (first_kept a k w g).0)) told in
    search (rules, only)

pub returns-in_err-taken-clause-only : goal.returns-in_err-taken-clause-only
returns-in_err-taken-clause-only c = λ a h e. search rules

pub returns-clause-wanted : goal.returns-clause-wanted
returns-clause-wanted c =
    let k = c.args.count in
    let log = c.deref.ensures.value ∙ ap (λ (t : Tables). t.log) c.tables.view_is in
    let first = c.in_ok-first.ensures.rows ∙ ap (λ rs. take k (by_stamp (filter is_tentative rs))) log in
    let ids = ap (map log_id) (ap (map (λ r. r.now)) c.deref-3.ensures.value ∙ first) in
    record {
      bookings_are = subst (λ is. IsBookingTest c.of_taken.result [] None is) ids (c.of_taken.ensures (map log_id (map (λ r. r.now) c.deref-3.result.now)) c.in_ok-taken.ensures.ids);
      kept_are = λ a h e.
          let told = ap (map (λ r. r.now)) c.deref-2.ensures.value ∙ first ∙ commit_rows a k c.args.tables.now h e ∙ sym (rows_of_logged a (first_tentative a k)) in
          c.in_ok-kept.ensures.writes (map (kept_row a) (first_tentative a k)) (logged_within a (first_tentative a k) h (λ w g. (first_kept a k w g).0)) told;
    }
