use Rattle.std.proofs.Common.{◌≡◌, true, ◌&&◌, ◌↔◌, sym, ◌∙◌, IsTrue}
use Rattle.std.proofs.lemmas.Bool.{true≢false, and_parts, and_from}
use Rattle.std.proofs.lemmas.Result.{IfOk-weaker}
use Rattle.mr_model.specs.Changes.{AreInKeyOrder}
use Rattle.mr_agree.specs.Agreeing.{agree, are_rows_apart}
use Rattle.mr_audit.specs.Apart.{are_numbers_single}
use Rattle.mr_audit.specs.Parts.{do_parts_agree}
use Rattle.mr_audit.proofs.PartsTell.{parts_tell, by_rising_id, in_key_order}
use Rattle.mr_audit.proofs.agreeing.do_tables_agree.Goals as goal

pub returns-then-not-are_in_key_order-clause-agree : goal.returns-then-not-are_in_key_order-clause-agree
returns-then-not-are_in_key_order-clause-agree c =
    let t = c.args.tables.now in
    (λ e. absurd (true≢false (sym e)), λ p. absurd (true≢false (sym (c.are_in_key_order.ensures.1 (by_rising_id t p.1)) ∙ c.if-not-are_in_key_order.true)))

pub do_parts_agree-requires : goal.do_parts_agree-requires
do_parts_agree-requires c = c.are_in_key_order.ensures.0 c.if-not-are_in_key_order.false

pub returns-then-not-do_parts_agree-clause-agree : goal.returns-then-not-do_parts_agree-clause-agree
returns-then-not-do_parts_agree-clause-agree c =
    let t = c.args.tables.now in
    let no = sym c.do_parts_agree.ensures ∙ c.if-not-do_parts_agree.true in (
      λ e. absurd (true≢false (sym e)),
      λ p. let q = and_parts (do_parts_agree t) (are_rows_apart t.booking && are_numbers_single t) (sym (parts_tell t) ∙ p.0) in absurd (true≢false (sym q.0 ∙ no)),
    )

pub returns-clause-agree : goal.returns-clause-agree
returns-clause-agree c =
    let t = c.args.tables.now in
    let sorted = are_rows_apart t.booking && are_numbers_single t in
    let yes = sym c.do_parts_agree.ensures ∙ c.if-not-do_parts_agree.false in
    let order = c.are_in_key_order.ensures.0 c.if-not-are_in_key_order.false in
    IfOk-weaker c.do_sorted_parts_agree.result (λ r. r ≡ sorted) (λ r. IsTrue r ↔ ((agree t ≡ true) × AreInKeyOrder t))
    (λ r e. (
      λ h. (parts_tell t ∙ and_from (do_parts_agree t) sorted yes (sym e ∙ h), in_key_order t order),
      λ p. let q = and_parts (do_parts_agree t) sorted (sym (parts_tell t) ∙ p.0) in e ∙ q.1,
    ))
    c.do_sorted_parts_agree.ensures.agree
