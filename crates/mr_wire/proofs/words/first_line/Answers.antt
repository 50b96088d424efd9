use Rattle.std.proofs.Common.{◌≡◌, ◌∙◌, sym, ap, ◌-◌, ◌+◌, length, drop, take, Some, option_map, arith}
use Rattle.std.proofs.lemmas.List.{length-drop, take_all}
use Rattle.mr_wire.proofs.Cuts.{cut_none, cut_some}
use Rattle.mr_wire.proofs.words.first_line.Goals as goal

pub returns-in_err-end-clause-value : goal.returns-in_err-end-clause-value
returns-in_err-end-clause-value c = ap (option_map (λ x. (x.0.now, x.1.now))) c.from_residual.ensures ∙ sym (cut_none 10 c.args.bytes.now (sym c.place_of.ensures ∙ c.in_err-end.was))

pub returns-clause-value : goal.returns-clause-value
returns-clause-value c =
    let bytes = c.args.bytes.now in
    let end = c.in_ok-end.end in
    let found = cut_some 10 end bytes (sym c.place_of.ensures ∙ c.in_ok-end.was) in
    let long : length (drop (end + 1) bytes) ≡ length bytes - (end + 1) = length-drop (end + 1) bytes in
    ap (λ t. Some (take end bytes, t)) (take_all (length bytes - (end + 1)) (drop (end + 1) bytes) (omega (arith, long))) ∙ sym found.1
