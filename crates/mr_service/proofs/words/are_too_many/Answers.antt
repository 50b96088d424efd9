use Rattle.std.proofs.Common.{ap, sym, nat_lt}
use Rattle.std.proofs.lemmas.List.{length-map}
use Rattle.mr_model.specs.Writes.{greatest_alternatives}
use Rattle.mr_service.specs.Asked.{words_of}
use Rattle.mr_service.proofs.words.are_too_many.Goals as goal

pub returns : goal.returns
returns c = ap (nat_lt greatest_alternatives) (sym (length-map c.args.words.now words_of))
