use Rattle.std.proofs.Common.{◌≡◌, sym, ap, ◌∙◌, length, lit<, arith, eqb-true, Some, None}
use Rattle.std.proofs.lemmas.Bool.{eqb-false}
use Rattle.std.proofs.lemmas.Str.Pattern.{split_parts}
use Rattle.mr_tasks.specs.LineSteps.{cut_first_word}
use Rattle.mr_tasks.proofs.WordLaws.{cut_nothing, cut_no_word, cut_word}
use Rattle.mr_tasks.proofs.words.Words.next.Goals as goal

pub returns-in-None : goal.returns-in-None
returns-in-None c =
    let left : c.self.inside.rest.now ≡ c.args.self.now = c.self.view_is in
    ap cut_first_word (sym left) ∙ cut_nothing c.self.inside.rest.now (split_parts 32 c.self.inside.rest.now None c.in-None.ensures.cases (lit< tt))

pub returns-then-is_empty : goal.returns-then-is_empty
returns-then-is_empty c =
    let left : c.self.inside.rest.now ≡ c.args.self.now = c.self.view_is in
    let parts = split_parts 32 c.self.inside.rest.now (Some (c.in-Some.word, c.in-Some.rest)) c.in-Some.ensures.cases (lit< tt) in
    cut_no_word c.args.self.now c.in-Some.word.now c.in-Some.rest.now (sym left ∙ parts.0)
    (eqb-true (length c.in-Some.word.now) 0 (sym c.is_empty.ensures ∙ c.if-is_empty.true))

pub returns-else-is_empty : goal.returns-else-is_empty
returns-else-is_empty c =
    let left : c.self.inside.rest.now ≡ c.args.self.now = c.self.view_is in
    let parts = split_parts 32 c.self.inside.rest.now (Some (c.in-Some.word, c.in-Some.rest)) c.in-Some.ensures.cases (lit< tt) in
    let some_bytes = eqb-false (length c.in-Some.word.now) 0 (sym c.is_empty.ensures ∙ c.if-is_empty.false) in
    cut_word c.args.self.now c.in-Some.word.now c.in-Some.rest.now (sym left ∙ parts.0) parts.1 (omega (arith, some_bytes))
