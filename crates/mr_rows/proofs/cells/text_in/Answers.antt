use Rattle.std.proofs.Common.{rules, ◌≡◌, true, false, Bool, IsTrue, refl, sym, ap, ◌∙◌, subst}
use Rattle.std.specs.Str.{is_utf8}
use Rattle.std.proofs.lemmas.Str.{is_utf8-from_IsUtf8, IsUtf8-from_is_utf8}
use Rattle.sqlite_value.specs.declared.value.Value.TheVariants.{Text}
use Rattle.sqlite_value.specs.Order.{column}
use Rattle.mr_rows.specs.CellLimits.{is_text}
use Rattle.mr_rows.proofs.cells.text_in.Goals as goal

pub returns-in-Ok-clause-utf8 : goal.returns-in-Ok-clause-utf8
returns-in-Ok-clause-utf8 c = subst (λ text. IsTrue (is_utf8 text)) (sym c.in-Ok.ensures.cases.0) (is_utf8-from_IsUtf8 _ c.in-Ok.ensures.cases.1)

pub returns-in-Err-clause-refused : goal.returns-in-Err-clause-refused
returns-in-Err-clause-refused c =
    let cell : column c.args.row.now c.args.at ≡ Text c.in-Text.bytes.now = search rules in
    ap (is_text is_utf8) cell ∙ go (is_utf8 c.in-Text.bytes.now) refl
  where
    go : (b : Bool) → is_utf8 c.in-Text.bytes.now ≡ b → is_utf8 c.in-Text.bytes.now ≡ false
    go true is = absurd (c.in-Err.ensures.cases.0 (IsUtf8-from_is_utf8 _ is))
    go false is = is
