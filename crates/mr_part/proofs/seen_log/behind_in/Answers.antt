use Rattle.std.proofs.Common.{◌∙◌, ap, drop}
use Rattle.std.proofs.lemmas.List.{drop_min}
use Rattle.mr_part.proofs.seen_log.behind_in.Goals as goal

pub returns : goal.returns
returns c = c.split_at.ensures.back ∙ ap (λ n. drop n c.args.rows.now) c.min.ensures ∙ drop_min c.args.first c.args.rows.now
