use Rattle.std.proofs.Common.{◌≡◌, sym, ap, subst, ◌∙◌, ◌≤◌, length, map, arith, inl, inr}
use Rattle.std.proofs.lemmas.List.{length-map}
use Rattle.mr_words.specs.declared.invocations.WordFault.TheVariants.{Memory}
use Rattle.std.specs.String.{string_bytes}
use Rattle.clap.specs.Lexer.{usize_max}
use Rattle.clap.specs.Words.{fault_of, is_simple, is_simple_and_free, kind_of, subcommand_of, IsAmong}
use Rattle.mr_words.proofs.CommandLines.{parsed, refused}
use Rattle.mr_words.proofs.FlaglessWords.{program_is_simple, program_simple}
use Rattle.mr_words.proofs.invoke.parse.Goals as goal

pub returns-in-Ok : goal.returns-in-Ok
returns-in-Ok c = λ plain.
    let is = c.in_ok-grammar.ensures in
    let words = map string_bytes c.args.words.now in
    let free = c.in-Ok.ensures.kinds (ap is_simple_and_free is ∙ program_simple) in
    let found = (c.in-Ok.ensures.matches (ap is_simple is ∙ program_is_simple)).1 in
    parsed words c.in-Ok.matches plain (ap (λ app. fault_of app words) (sym is) ∙ free) (found ∙ ap (λ app. subcommand_of app words) is)

pub returns-in-Err : goal.returns-in-Err
returns-in-Err c = λ plain bad.
    let words = map string_bytes c.args.words.now in
    let low : length c.args.words.now ≤ usize_max = omega arith in
    elim (c.in-Err.ensures.kinds (ap is_simple_and_free c.in_ok-grammar.ensures ∙ program_simple)) [
      | inl memory ↦ let told : c.fault_of.result ≡ Memory = c.fault_of.ensures.memory (c.kind.ensures ∙ memory) in cc
      | inr among ↦ refused words (kind_of c.in-Err.error) plain (subst (λ n. n ≤ usize_max) (sym (length-map c.args.words.now string_bytes)) low)
          (subst (λ app. IsAmong (kind_of c.in-Err.error) (fault_of app words)) c.in_ok-grammar.ensures among)
    ]
