use Rattle.std.proofs.lemmas.Result.{IfOk-weaker}
use Rattle.std.proofs.lemmas.Str.{is_utf8-from_IsUtf8, IsUtf8-string_bytes}
use Rattle.mr_rows.proofs.CellLemmas.{text_unread}
use Rattle.mr_rows.proofs.cells.read_text.Goals as goal

pub returns-clause-utf8 : goal.returns-clause-utf8
returns-clause-utf8 c = IfOk-weaker c.get.result _ _ (λ text _. is_utf8-from_IsUtf8 _ (IsUtf8-string_bytes text)) c.get.ensures.ok

pub returns-clause-refused : goal.returns-clause-refused
returns-clause-refused c = text_unread c.args.row.now c.args.at c.get.result _ c.get.ensures.kind
