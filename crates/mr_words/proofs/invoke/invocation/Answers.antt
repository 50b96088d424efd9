use Rattle.std.proofs.Common.{◌≡◌, subst, map, None, Some, MatchResult}
use Rattle.std.specs.String.{string_bytes}
use Rattle.clap.specs.Words.{found_of, rows_of}
use Rattle.mr_words.specs.declared.invocations.WordFault.TheVariants.{Bad}
use Rattle.mr_words.specs.InvocationRead.{asked_of}
use Rattle.mr_words.proofs.CommandLines.{answered, found_one}
use Rattle.mr_words.proofs.invoke.invocation.Goals as goal

pub returns-in-Some : goal.returns-in-Some
returns-in-Some c = λ plain.
    let named = c.in_ok-matches.ensures plain in
    subst (λ o. MatchResult c.read_row.result (λ i. o ≡ Some (asked_of i)) (λ fault. fault ≡ Bad → o ≡ None))
    (answered (map string_bytes c.args.words.now) c.in_ok-matches.matches c.in-Some.name.now (rows_of (found_of c.in-Some.inner.now)) named
    c.in-Some.ensures.name c.in-Some.ensures.rows)
    c.read_row.ensures

pub returns : goal.returns
returns c = λ plain bad.
    let named = c.in_ok-matches.ensures plain in
    absurd (found_one (map string_bytes c.args.words.now) c.in_ok-matches.matches named c.in-None.ensures.name)
