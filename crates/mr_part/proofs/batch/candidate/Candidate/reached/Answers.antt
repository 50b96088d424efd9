use Rattle.std.proofs.Common.{IfOk, sym, subst, ◌∙◌, ◌&&◌, not}
use Rattle.std.specs.List.{list_any}
use Rattle.std.specs.Prelude.{bytes_eq}
use Rattle.std.proofs.lemmas.Result.{err_from_is_err_and}
use Rattle.mr_model.specs.Texts.{Text}
use Rattle.mr_replay.specs.Seen.{has_room}
use Rattle.mr_part.specs.Taken.{ShowsPicked}
use Rattle.mr_part.proofs.TakingItems.{taken-all}
use Rattle.mr_part.proofs.batch.candidate.Candidate.reached.Goals as goal

pub returns-in_err-rooms-clause-reached : goal.returns-in_err-rooms-clause-reached
returns-in_err-rooms-clause-reached c = λ a inside p sound known shows.
    let x = err_from_is_err_and c.from_residual.result c.from_residual.ensures.1 in
    subst (λ r. IfOk r (λ v. ShowsPicked a inside v p)) (sym x.1) tt

pub returns-in_err-kept-clause-reached : goal.returns-in_err-kept-clause-reached
returns-in_err-kept-clause-reached c = λ a inside p sound known shows.
    let x = err_from_is_err_and c.from_residual-in_err-kept.result c.from_residual-in_err-kept.ensures.1 in
    subst (λ r. IfOk r (λ v. ShowsPicked a inside v p)) (sym x.1) tt

pub returns-clause-reached : goal.returns-clause-reached
returns-clause-reached c = λ a inside p sound known shows.
    let rooms = λ (name : Text). c.in_ok-rooms.ensures.unknown name ∙ (λ t. not (list_any (bytes_eq name) (known t)) && has_room c.args.self.rooms name) in
    taken-all a inside c.args.self p c.in_ok-rooms.rooms.items c.in_ok-kept.kept.items shows rooms (c.in_ok-kept.ensures.sorted a p.replica inside sound shows.kept)
