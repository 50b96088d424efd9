use Rattle.mr.proofs.EndLaws.{words_end, bad_words_end, bad_words_status, ends_within}
use Rattle.mr.proofs.commands.command.Goals as goal

pub returns-in-Err-clause-within : goal.returns-in-Err-clause-within
returns-in-Err-clause-within g c =
    bad_words_status c.say_word_fault.result
    (bad_words_end c.in-Err.fault (g.W.Write.contents c.args.out.now)
    (g.W.Write.contents c.say_word_fault.new.out) c.say_word_fault.result c.say_word_fault.ensures.bad c.say_word_fault.ensures.memory)

pub returns-in-Err-clause-asked : goal.returns-in-Err-clause-asked
returns-in-Err-clause-asked g c = λ flagless asked is.
    words_end _ _ _ asked c.in-Err.fault (g.W.Write.contents c.args.out.now) (g.W.Write.contents c.say_word_fault.new.out) c.say_word_fault.result
    (λ bad. absurd (cc (c.in-Err.ensures flagless bad, is))) c.say_word_fault.ensures.memory

pub returns-in-Err-clause-bad : goal.returns-in-Err-clause-bad
returns-in-Err-clause-bad g c = λ flagless none.
    bad_words_end c.in-Err.fault (g.W.Write.contents c.args.out.now) (g.W.Write.contents c.say_word_fault.new.out) c.say_word_fault.result c.say_word_fault.ensures.bad c.say_word_fault.ensures.memory

pub returns-in-Ok-clause-within : goal.returns-in-Ok-clause-within
returns-in-Ok-clause-within g c = ends_within _ _ _ _ _ _ _ c.perform.ensures
