use Rattle.std.proofs.Common.{◌≡◌, ◌∙◌, ap, sym, rules}
use Rattle.std.specs.List.{list_any}
use Rattle.std.specs.BTreeSet.{keys_between}
use Rattle.std.specs.Range.{range_inclusive_start, range_inclusive_end}
use Rattle.std.specs.declared.ops.Bound.TheVariants.{Included}
use Rattle.mr_replay.specs.Index.{key_cmp, first_key, last_key, is_in_the_way_at}
use Rattle.mr_replay.specs.Hidden.{shown}
use Rattle.mr_replay.proofs.Hiding.{IsIndexed-shown}
use Rattle.mr_replay.proofs.Indexed.{ends_in_order, taken}
use Rattle.mr_replay.proofs.taken.is_taken.Goals as goal

pub range-key-items-requires : goal.range-key-items-requires
range-key-items-requires c =
    ends_in_order c.args.slot c.args.room.now (range_inclusive_start c.new.result) (range_inclusive_end c.new.result) (search rules) (search rules)

pub loop-key-init : goal.loop-key-init
loop-key-init c =
    let room = c.args.room.now in
    let slot = c.args.slot in
    let rows = shown c.args.hidden.now c.args.rows.now.entries in
    let index = c.args.index.now in
    let first : range_inclusive_start c.new.result ≡ first_key slot room = search rules in
    let last : range_inclusive_end c.new.result ≡ last_key slot room = search rules in
    let listed : c.into_iter-key-iterator.result ≡ keys_between key_cmp (Included (range_inclusive_start c.new.result)) (Included (range_inclusive_end c.new.result)) index = search rules in
    sym (taken room slot c.args.length rows index (IsIndexed-shown c.args.hidden.now c.args.rows.now.entries index c.requires))
    ∙ sym (ap (list_any (is_in_the_way_at room slot c.args.length rows)) (listed ∙ (λ t. keys_between key_cmp (Included (first t)) (Included (last t)) index)))
