use Rattle.std.proofs.Common.{◌≡◌, ◌≤◌, ◌==◌, nat_lt, max, false, length, ap, sym, ◌∙◌, inl, arith}
use Rattle.std.proofs.lemmas.Bool.Decides.{nat_tests}
use Rattle.mr_model.specs.Replies.{DroppedIs}
use Rattle.mr_model.specs.Step.{After}
use Rattle.mr_model.specs.Tables.{tables_of}
use Rattle.mr_tables.specs.declared.summary.Summary.{Summary}
use Rattle.mr_tables.specs.Written.{meta_of}
use Rattle.mr_part.proofs.Truncating.{truncate_none}
use Rattle.mr_part.specs.Parts.{PartView}
use Rattle.mr_part.proofs.PartCalls.{part_truncate}
use Rattle.mr_part.proofs.part.Part.truncate.Goals as goal

pub returns-clause-step : goal.returns-clause-step
returns-clause-step c = λ a sound part.
    let i = c.self.inside in
    let n = c.args.number in
    let p : PartView = record { summary = i.summary; rooms = i.rooms.items; kept = c.as_slice.result.now; board = i.board } in
    let e = (λ t. record { summary = i.summary; rooms = i.rooms.items; kept = c.as_slice.ensures t; board = i.board }) ∙ c.self.view_is ∙ part in
    let server : i.summary.server ≡ a.server = ap (λ (v : PartView). v.summary.server) e in
    let primary : i.summary.primary ≡ a.primary = ap (λ (v : PartView). v.summary.primary) e in
    let commits : i.summary.commits ≡ length a.commits = ap (λ (v : PartView). v.summary.commits) e in
    let own : (a.server == a.primary) ≡ false = (λ t. sym server t == sym primary t) ∙ sym c.eq.ensures ∙ c.if-eq.false in
    let most = c.if-number-self.false in
    let within : n ≤ length a.commits = omega arith in
    let late : nat_lt (length a.commits) n ≡ false = grind (arith, nat_tests) in
    let above = c.if-number-self-2.false in
    let top : n ≡ max i.summary.dropped n = omega (arith, above) in
    let s : Summary = record i.summary { dropped = n } in
    let is : s ≡ record i.summary { dropped = max i.summary.dropped n } = ap (λ d. record i.summary { dropped = d }) top in
    inl (part_truncate a n p s c.in_ok-change.change sound e own late within is c.in_ok-change.ensures.change)

-- so many commits are dropped already
pub returns-then-number-self-2-clause-step : goal.returns-then-number-self-2-clause-step
returns-then-number-self-2-clause-step c = λ a sound part.
    let i = c.self.inside in
    let n = c.args.number in
    let e = c.self.view_is ∙ part in
    let server : i.summary.server ≡ a.server = ap (λ (v : PartView). v.summary.server) e in
    let primary : i.summary.primary ≡ a.primary = ap (λ (v : PartView). v.summary.primary) e in
    let commits : i.summary.commits ≡ length a.commits = ap (λ (v : PartView). v.summary.commits) e in
    let dropped : i.summary.dropped ≡ a.dropped = ap (λ (v : PartView). v.summary.dropped) e in
    let own : (a.server == a.primary) ≡ false = (λ t. sym server t == sym primary t) ∙ sym c.eq.ensures ∙ c.if-eq.false in
    let most = c.if-number-self.false in
    let within : n ≤ length a.commits = omega arith in
    let late : nat_lt (length a.commits) n ≡ false = grind (arith, nat_tests) in
    let few = c.if-number-self-2.true in
    let low : n ≤ a.dropped = omega (arith, few, dropped) in
    let step = truncate_none a n own late low in
    inl (
      ap DroppedIs dropped ∙ ap (λ (x : After). x.reply) (sym step),
      c.no_change-change.ensures (tables_of a) (sym (ap (λ (v : PartView). meta_of v.summary) e)) ∙ ap (λ (x : After). tables_of x.replica) (sym step),
    )
