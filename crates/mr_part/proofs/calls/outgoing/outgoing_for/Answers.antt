use Rattle.std.proofs.Common.{◌≡◌, ◌+◌, ◌-◌, ◌≤◌, min, ◌++◌, [], Err, IfErr, take, drop, length, sym, ap, ◌∙◌, subst, arith}
use Rattle.std.specs.List.{drop-map, take-map}
use Rattle.std.proofs.lemmas.List.{drop_min, length-map}
use Rattle.std.proofs.lemmas.Result.{err_from_is_err_and}
use Rattle.mr_model.specs.Positions.{Position}
use Rattle.mr_base.specs.declared.refusals.Refusal.{Refusal}
use Rattle.mr_base.specs.declared.refusals.Refusal.TheVariants.{OutOfMemory}
use Rattle.std.specs.Prelude.{Result}
use Rattle.mr_part.specs.declared.calls.outgoing.Outgoing.{Outgoing}
use Rattle.mr_tables.specs.Summary.{committed_len}
use Rattle.mr_part.specs.declared.kept_rows.KeptRow.{KeptRow}
use Rattle.mr_part.specs.KeptRows.{row_writes}
use Rattle.mr_part.specs.Outgoing.{Offers, committed_items, lacked_items}
use Rattle.mr_base.specs.PositionCounts.{counts_of_pairs}
use Rattle.mr_base.specs.Versions.{version_of}
use Rattle.mr_tables.proofs.CountLimits.{few_asked}
use Rattle.mr_part.proofs.calls.outgoing.outgoing_for.Goals as goal

-- the commits that are handed on have numbers within the limits
pub returns-in_err-push_commits-clause-only : goal.returns-in_err-push_commits-clause-only
returns-in_err-push_commits-clause-only c = λ low few.
    let x = err_from_is_err_and c.from_residual.result c.from_residual.ensures.1 in
    let top : c.position.inside.commits ≤ 999999999999 =
    few_asked (record {
      version = version_of c.position.inside.version;
      server = c.position.inside.server;
      primary = c.position.inside.primary;
      commits = c.position.inside.commits;
      counts = counts_of_pairs c.position.inside.counts.items;
    }) c.position.invariant in
    let is : c.position.inside.commits ≡ c.args.position.now.commits = ap (λ (p : Position). p.commits) c.position.view_is in
    let rest = c.split_at-2.ensures.back_len in
    let front = c.split_at.ensures.front_len in
    let len = c.committed_in.ensures in
    let known = c.saturating_sub-known.ensures in
    let least = c.min.ensures in
    let sum : c.position.inside.commits + 1 + length c.split_at-2.result.1.now ≤ 1000000000000 = omega arith in
    subst (λ (r : Result Outgoing Refusal). IfErr r (λ e. e ≡ OutOfMemory)) (sym (x.1 ∙ ap Err x.2)) (c.in_err-push_commits.ensures.only (omega arith) sum)

pub returns-clause-items : goal.returns-clause-items
returns-clause-items c =
    let p = c.args.position.now in
    let s = c.args.summary.now in
    let rows = c.args.kept.now in
    let kept = row_writes rows in
    let commits : c.position.inside.commits ≡ p.commits = ap (λ (q : Position). q.commits) c.position.view_is in
    let len : c.committed_in.result ≡ committed_len s kept = c.committed_in.ensures ∙ ap (λ n. min (s.commits - s.dropped) n) (sym (length-map rows (λ (x : KeptRow). x.write))) in
    let known : c.saturating_sub-known.result ≡ p.commits - s.dropped = c.saturating_sub-known.ensures ∙ ap (λ n. n - s.dropped) commits in
    let front = ap row_writes c.split_at.ensures.front ∙ sym (take-map (λ (x : KeptRow). x.write) c.committed_in.result rows) ∙ ap (λ n. take n kept) len in
    let behind = c.split_at-2.ensures.back ∙ ap (λ n. drop n c.split_at.result.0.now) c.min.ensures ∙ drop_min c.saturating_sub-known.result c.split_at.result.0.now in
    let unknown = ap row_writes behind ∙ sym (drop-map (λ (x : KeptRow). x.write) c.saturating_sub-known.result c.split_at.result.0.now) ∙ (λ t. drop (known t) (front t)) in
    let tentative = ap row_writes c.split_at.ensures.back ∙ sym (drop-map (λ (x : KeptRow). x.write) c.committed_in.result rows) ∙ ap (λ n. drop n kept) len in
    let first = subst (λ n. Offers n [] c.new-outgoing.result.items.items c.new-outgoing.result.more) (sym c.new-outgoing.ensures.limit) c.new-outgoing.ensures.items in
    let second = c.in_ok-push_commits.ensures.items [] first in
    let lines = committed_items p (c.position.inside.commits + 1) (row_writes c.split_at-2.result.1.now) in
    let third = c.in_ok-push_lacked.ensures.items lines
    (subst (λ n. Offers n lines c.push_commits.new.self.items.items c.push_commits.new.self.more) (sym c.in_ok-push_commits.ensures.limit) second) in
    subst (λ xs. Offers c.args.limit xs c.push_lacked.new.self.items.items c.push_lacked.new.self.more)
    (λ t. committed_items p (commits t + 1) (unknown t) ++ lacked_items p (tentative t))
    (subst (λ n. Offers n (lines ++ lacked_items p (row_writes c.split_at.result.1.now)) c.push_lacked.new.self.items.items c.push_lacked.new.self.more)
    (c.in_ok-push_commits.ensures.limit ∙ c.new-outgoing.ensures.limit) third)
