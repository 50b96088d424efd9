use Rattle.std.proofs.Common.{◌∙◌, sym}
use Rattle.mr_model.specs.Writes.{Meeting, Books, Write}
use Rattle.mr_model.specs.Requests.{Request}
use Rattle.mr_base.proofs.Refusing.{same_refusal}
use Rattle.mr_base.proofs.writes.Write.new.Goals as goal

pub returns-in-Err : goal.returns-in-Err
returns-in-Err c =
    let meeting : Meeting = record { title = c.args.title; length = c.args.length; wish = c.args.wish; alternatives = c.args.alternatives } in
    let x : Request = record { room = c.args.room; meeting = meeting } in
    let y : Write = record { stamp = c.args.stamp; room = c.args.room; action = Books meeting } in
    sym (same_refusal c.args.length c.args.wish c.args.alternatives x y c.in-Err.refusal (sym c.new.ensures ∙ c.in-Err.is))
