use Rattle.std.proofs.Common.{◌≡◌, ◌<◌, ◌∙◌, ◌||◌, not, ltb, length, get_or, ap, sym, arith}
use Rattle.std.proofs.lemmas.Iterator.Adapters.{YieldsList-from_vec}
use Rattle.std.proofs.lemmas.Iterator.Consumers.{YieldsList-turn}
use Rattle.std.proofs.lemmas.List.{get_or_default, length_push}
use Rattle.mr_part.specs.PartMoves.{is_new, is_elsewhere, same_place}
use Rattle.mr_part.specs.Logged.{undo_with}
use Rattle.mr_part.proofs.ChangedRows.{changed_more, as_many-more, row_next}
use Rattle.mr_part.proofs.batch.changed.changed_of.Goals as goal

pub loop-write-preserved : goal.loop-write-preserved
loop-write-preserved c =
    let listed = YieldsList-from_vec {s = c.into_iter-write-iterator.result} c.args.writes.items (cc) (cc) in
    let at = YieldsList-turn listed c.loop-write.yielded c.loop-write.write-iterator c.loop-write.yielded_by c.next.result c.next.new.self c.in-Some.write c.in-Some.is c.next.ensures.steps in
    let ws = c.args.writes.items in
    let k = c.loop-write.k in
    let done = c.loop-write.yielded in
    let w = c.in-Some.write in
    let count = c.loop-write.invariant.count in
    let old = c.loop-write.changed in
    let e = c.in_ok-push_if.ensures in
    let low : k < length ws = omega (arith, count, at.0) in
    let is_w = at.1 ∙ ap (λ n. get_or ws n w) (sym count) in
    let many : length ws ≡ length c.args.rows.now = c.requires.1 in
    let more = length_push done w in
    let u = c.index-rows-k-in-loop-write.result in
    let asked = c.index-rows-k.result in
    let second : k < length c.args.rows.now = omega (arith, low, many) in
    let same : asked ≡ u = c.index-rows-k.is ∙ get_or_default c.args.rows.now k asked u second ∙ sym c.index-rows-k-in-loop-write.is in
    record {
      count = omega (arith, count, more);
      as_many = ap length e.writes ∙ as_many-more _ old.writes.items old.undo.items w u c.loop-write.invariant.as_many ∙ sym (ap length e.undo);
      changed = λ before place was rows.
          let mine : u ≡ undo_with place w = row_next (undo_with place) ws c.args.rows.now k w u low is_w c.index-rows-k-in-loop-write.is rows in
          let his = row_next (undo_with before) ws c.args.was.now k w c.index-was-k.result low is_w c.index-was-k.is was in
          let moved = c.is_elsewhere-moved.ensures ∙ (λ t. is_new c.args.old.now w || not (same_place (his t).place ((same ∙ mine) t).place)) in
          changed_more c.args.news (is_elsewhere c.args.old.now before place) place done w u _ old.writes.items c.push_if.new.self.writes.items old.undo.items c.push_if.new.self.undo.items mine
          (λ t. ltb (count t) c.args.news || moved t) e.writes e.undo (c.loop-write.invariant.changed before place was rows);
    }
