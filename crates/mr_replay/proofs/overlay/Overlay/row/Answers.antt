use Rattle.std.proofs.Common.{◌≡◌, ◌∙◌, true, false, Some, None, cond, ap, sym}
use Rattle.std.specs.Option.{option_copied, option_or}
use Rattle.mr_replay.specs.Rows.{row_at}
use Rattle.mr_replay.specs.Hidden.{is_hidden}
use Rattle.mr_replay.proofs.Overlaid.{row_at-seen}
use Rattle.mr_replay.proofs.overlay.Overlay.row.Goals as goal

pub returns-in-Some : goal.returns-in-Some
returns-in-Some c =
    let o = c.self.inside in
    let own : row_at o.own c.args.id ≡ Some c.in-Some.row.now = sym c.row.ensures ∙ ap option_copied c.in-Some.is in
    sym (ap (λ x. option_or x (cond (is_hidden o.hidden c.args.id) None (row_at o.base c.args.id))) own)
    ∙ sym (row_at-seen o.base o.own o.hidden c.args.id) ∙ ap (λ b. row_at b c.args.id) c.self.view_is

pub returns-then-contains : goal.returns-then-contains
returns-then-contains c =
    let o = c.self.inside in
    let own : row_at o.own c.args.id ≡ None = sym c.row.ensures ∙ ap option_copied c.in_default.is in
    let hides : is_hidden o.hidden c.args.id ≡ true = sym c.contains.ensures ∙ c.if-contains.true in
    sym (row_at-seen o.base o.own o.hidden c.args.id ∙ ap (λ x. option_or x (cond (is_hidden o.hidden c.args.id) None (row_at o.base c.args.id))) own
    ∙ ap (λ t. cond t None (row_at o.base c.args.id)) hides) ∙ ap (λ b. row_at b c.args.id) c.self.view_is

pub returns : goal.returns
returns c =
    let o = c.self.inside in
    let own : row_at o.own c.args.id ≡ None = sym c.row.ensures ∙ ap option_copied c.in_default.is in
    let shows : is_hidden o.hidden c.args.id ≡ false = sym c.contains.ensures ∙ c.if-contains.false in
    c.row-2.ensures
    ∙ sym (row_at-seen o.base o.own o.hidden c.args.id ∙ ap (λ x. option_or x (cond (is_hidden o.hidden c.args.id) None (row_at o.base c.args.id))) own
    ∙ ap (λ t. cond t None (row_at o.base c.args.id)) shows) ∙ ap (λ b. row_at b c.args.id) c.self.view_is
