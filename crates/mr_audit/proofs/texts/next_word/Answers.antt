use Rattle.std.proofs.Common.{◌∙◌, lit<}
use Rattle.mr_tables.proofs.FrontWords.{word-before, word-after, word_alone, none_after}
use Rattle.mr_audit.proofs.texts.next_word.Goals as goal

pub returns-in-Some-clause-word : goal.returns-in-Some-clause-word
returns-in-Some-clause-word c = (c.in-Some.ensures.byte (lit< tt) (λ w o h. h)).0 ∙ word-before c.args.text.now

pub returns-in-Some-clause-rest : goal.returns-in-Some-clause-rest
returns-in-Some-clause-rest c = (c.in-Some.ensures.byte (lit< tt) (λ w o h. h)).1 ∙ word-after c.args.text.now

pub returns-in-None-clause-word : goal.returns-in-None-clause-word
returns-in-None-clause-word c = word_alone c.args.text.now (c.in-None.ensures.byte (lit< tt) (λ w o h. h))

pub returns-in-None-clause-rest : goal.returns-in-None-clause-rest
returns-in-None-clause-rest c = none_after c.args.text.now (c.in-None.ensures.byte (lit< tt) (λ w o h. h))
