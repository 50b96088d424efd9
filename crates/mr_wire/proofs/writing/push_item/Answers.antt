use Rattle.std.proofs.Common.{◌≡◌, ◌++◌, List, ℕ, subst, sym, ap, ◌∙◌}
use Rattle.std.specs.Prelude.{OnOk}
use Rattle.std.specs.String.{string_bytes}
use Rattle.mr_model.specs.Texts.{line}
use Rattle.mr_model.specs.Exchange.{item_line}
use Rattle.mr_base.specs.Batches.{item_of}
use Rattle.mr_wire.proofs.WritingLaws.{write_text_is}
use Rattle.mr_wire.proofs.writing.push_item.Goals as goal

pub returns-in-W : goal.returns-in-W
returns-in-W c =
    subst (λ (t : List ℕ). OnOk c.push_write.result (string_bytes c.push_write.new.text ≡ string_bytes c.args.text.now ++ t))
    (write_text_is _ ∙ sym (ap (λ i. line (item_line (item_of i))) c.in-W.is)) c.push_write.ensures
