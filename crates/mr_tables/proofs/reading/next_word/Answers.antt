use Rattle.std.proofs.Common.{◌∙◌, ap, sym, Some, lit<}
use Rattle.mr_model.specs.Texts.{Text}
use Rattle.mr_tables.proofs.FrontWords.{word-before, word_alone, space-some, space-none}
use Rattle.mr_tables.proofs.reading.next_word.Goals as goal

pub returns-in-Some-clause-word : goal.returns-in-Some-clause-word
returns-in-Some-clause-word c = (c.in-Some.ensures.byte (lit< tt) (λ w o h. h)).0 ∙ word-before c.args.text.now

pub returns-in-Some-clause-rest : goal.returns-in-Some-clause-rest
returns-in-Some-clause-rest c =
    let split = c.in-Some.ensures.byte (lit< tt) (λ w o h. h) in
    ap (λ (t : Text). Some t) split.1 ∙ sym (space-some c.args.text.now split.2)

pub returns-in-None-clause-word : goal.returns-in-None-clause-word
returns-in-None-clause-word c = word_alone c.args.text.now (c.in-None.ensures.byte (lit< tt) (λ w o h. h))

pub returns-in-None-clause-rest : goal.returns-in-None-clause-rest
returns-in-None-clause-rest c = sym (space-none c.args.text.now (c.in-None.ensures.byte (lit< tt) (λ w o h. h)))
