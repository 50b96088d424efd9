use Rattle.std.proofs.Common.{◌≡◌, refl, subst, None, Some}
use Rattle.std.proofs.lemmas.Option.{MatchOption-at_some, MatchOption-at_none}
use Rattle.clap.specs.Words.{found_of}
use Rattle.mr_words.specs.InvocationRead.{asked_of}
use Rattle.mr_words.specs.CommandTable.{in_row, table}
use Rattle.mr_words.proofs.CommandLines.{words_are}
use Rattle.mr_words.proofs.invoke.read_row.Goals as goal

pub returns-in-Some : goal.returns-in-Some
returns-in-Some c =
    let entries = (found_of c.args.matches.now).entries.items in
    subst (λ words. in_row table c.args.name.now words ≡ Some (asked_of c.in-Some.invocation))
    (words_are entries c.get_strs.result _ c.unwrap_or-words.result refl c.unwrap_or-words.ensures c.get_strs.ensures)
    (MatchOption-at_some _ _ _ c.in-Some.is c.in_ok-invocation.ensures)

pub returns-in-None : goal.returns-in-None
returns-in-None c = λ bad.
    let entries = (found_of c.args.matches.now).entries.items in
    subst (λ words. in_row table c.args.name.now words ≡ None)
    (words_are entries c.get_strs.result _ c.unwrap_or-words.result refl c.unwrap_or-words.ensures c.get_strs.ensures)
    (MatchOption-at_none _ _ c.in-None.is c.in_ok-invocation.ensures)
