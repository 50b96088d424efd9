use Rattle.std.proofs.Common.{ap, sym, subst, ◌++◌, [], append-nil}
use Rattle.mr_tables.specs.Choices.{IsRestOf, IsUnderWay, lent}
use Rattle.mr_tables.proofs.FrontWords.{all_read, one_more, behind_one, told_one}
use Rattle.mr_tables.proofs.reading.slots_of.Goals as goal

pub returns-in-None-clause-read : goal.returns-in-None-clause-read
returns-in-None-clause-read c = λ ss h. absurd (
    let way = subst (IsUnderWay ss c.rest.slots.items) (ap lent c.in-Some.is) (c.rest.invariant.under_way ss h) in
    let (s, others, e, t) = one_more ss c.rest.slots.items c.in-Some.text.now way in
    c.in-None.ensures.read s others t
    )

pub rest-preserved : goal.rest-preserved
rest-preserved c = record {
  under_way = λ ss h.
      let way = subst (IsUnderWay ss c.rest.slots.items) (ap lent c.in-Some.is) (c.rest.invariant.under_way ss h) in
      let (s, others, e, t) = one_more ss c.rest.slots.items c.in-Some.text.now way in
      let gives = c.in-Some-next_slot.ensures.read s others t in
      subst (λ read. IsUnderWay ss read (lent c.in-Some-next_slot.taken.1)) (sym c.in_ok-push-in-Some-next_slot.ensures.items)
      (behind_one ss c.rest.slots.items others s _ _ e gives.0 gives.1);
  told = λ left h. subst (λ read. IsRestOf (lent c.args.text) (read ++ left)) (sym c.in_ok-push-in-Some-next_slot.ensures.items)
      (told_one (lent c.args.text) (lent c.rest.rest) (lent c.in-Some-next_slot.taken.1) c.in-Some.text.now c.rest.slots.items c.in-Some-next_slot.taken.0 left
      (ap lent c.in-Some.is) c.rest.invariant.told (c.in-Some-next_slot.ensures.told left h));
  utf8 = c.in-Some-next_slot.ensures.utf8;
}

pub returns-clause-read : goal.returns-clause-read
returns-clause-read c = λ ss h. (all_read ss c.rest.slots.items (subst (IsUnderWay ss c.rest.slots.items) (ap lent c.in_default.is) (c.rest.invariant.under_way ss h)), tt)

pub returns-clause-told : goal.returns-clause-told
returns-clause-told c = subst (IsRestOf (lent c.args.text)) (append-nil c.rest.slots.items) (c.rest.invariant.told [] (record { slots = tt; rest_is = ap lent c.in_default.is }))
