use Rattle.std.specs.Option.{ok_or}
use Rattle.std.specs.Prelude.{Option, Result}
use Rattle.std.proofs.Common.{ℕ, IsTrue, ap, sym, ◌∙◌, subst, inl}
use Rattle.mr_base.specs.declared.refusals.Refusal.{Refusal}
use Rattle.mr_base.specs.declared.refusals.Refusal.TheVariants.{Store}
use Rattle.mr_model.specs.Texts.{numbers_on, only_if}
use Rattle.mr_model.specs.Writes.{is_server}
use Rattle.mr_model.specs.Positions.{Position, position_of, is_position}
use Rattle.mr_model.proofs.PositionsReadBack.{position_within}
use Rattle.mr_part.specs.Answering.{NeverStore}
use Rattle.mr_tables.specs.Summary.{counts_in}
use Rattle.mr_tables.proofs.TallyCounts.{counts-own}
use Rattle.mr_part.proofs.PositionLimits.{position_with, position_fits}
use Rattle.mr_part.proofs.calls.position.position.Goals as goal

pub returns-clause-own : goal.returns-clause-own
returns-clause-own c = λ a sound is.
    let counts = c.in_ok-counts.ensures.counts ∙ (λ t. counts_in (is t).tallies (numbers_on 1 99)) ∙ counts-own a in
    let all : Option Position → Result Position Refusal = λ o. ok_or o Store in
    let new = c.new.ensures
    ∙ (λ t. only_if (is_position (position_with (is t) (counts t))) (position_with (is t) (counts t)))
    ∙ ap (λ b. only_if b (position_of a)) (position_within a sound) in
    inl (c.ok_or.ensures.value ∙ ap all new)

pub returns-clause-store : goal.returns-clause-store
returns-clause-store c = λ within.
    let s = c.args.summary.now in
    let server = subst (λ (s : ℕ). IsTrue (is_server s)) c.number.ensures.value c.number.ensures.in_range in
    let primary = subst (λ (s : ℕ). IsTrue (is_server s)) c.number-2.ensures.value c.number-2.ensures.in_range in
    let all : Option Position → Result Position Refusal = λ o. ok_or o Store in
    let new = c.new.ensures
    ∙ (λ t. only_if (is_position (position_with s (c.in_ok-counts.ensures.counts t))) (position_with s (c.in_ok-counts.ensures.counts t)))
    ∙ ap (λ b. only_if b (position_with s (counts_in s.tallies (numbers_on 1 99)))) (position_fits s server primary within) in
    subst NeverStore (sym (c.ok_or.ensures.value ∙ ap all new)) tt
