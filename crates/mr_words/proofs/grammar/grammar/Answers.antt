use Rattle.std.proofs.Common.{◌<◌, sym, ap, ap₂, ◌∙◌, arith}
use Rattle.clap.specs.Words.{Shape, with_subcommand}
use Rattle.clap.proofs.SimpleLemmas.{plain_fields}
use Rattle.mr_words.proofs.FlaglessWords.{program_more}
use Rattle.mr_words.proofs.grammar.grammar.Goals as goal

pub loop-name-preserved : goal.loop-name-preserved
loop-name-preserved c =
    let local = (plain_fields c.in_ok-row.field-0 (ap (λ (s : Shape). s.is_plain) c.in_ok-row.ensures)).globals in
    let below : c.loop-name.name-index < 17 = omega arith in
    c.in_ok-command.ensures.shape local ∙ ap₂ with_subcommand c.loop-name.invariant c.in_ok-row.ensures
    ∙ sym (program_more (λ s. s.now) _ c.loop-name.name-index _ below)
