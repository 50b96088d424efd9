use Rattle.std.proofs.Common.{◌≡◌, ℕ, ◌+◌, ◌<◌, ◌==◌, ◌⊎◌, true, false, None, Some, Ok, Err, IfOk, Result, List, map, length, ap, sym, ◌∙◌, subst, inl, arith}
use Rattle.mr_model.specs.Exchange.{Batch, Header, Item}
use Rattle.mr_model.specs.Replica.{Replica}
use Rattle.mr_model.specs.Replies.{Took}
use Rattle.mr_model.specs.Scopes.{OfItems}
use Rattle.mr_model.specs.Tables.{tables_of}
use Rattle.mr_model.specs.Taking.{take_items}
use Rattle.mr_model.specs.Step.{After, after_items}
use Rattle.mr_base.specs.Batches.{header_of, item_of}
use Rattle.mr_base.specs.declared.refusals.Refusal.{Refusal}
use Rattle.mr_base.specs.declared.refusals.Refusal.TheVariants.{OutOfMemory}
use Rattle.mr_tables.specs.Change.{ChangeView, changed}
use Rattle.mr_tables.specs.Written.{meta_of}
use Rattle.mr_part.specs.Answering.{nothing_taken, reply_with}
use Rattle.mr_part.specs.Parts.{PartView, IsPartOf}
use Rattle.mr_part.proofs.Receiving.{items_good, own_primary, receive_done}
use Rattle.mr_part.proofs.ReceivingPart.{receive_nothing, other_primary, receive_other}
use Rattle.mr_part.proofs.part.Part.receive.Goals as goal

-- what is owed, by the step and the answer
abbrev Owed : Replica → Result (ℕ × ℕ × ChangeView) Refusal → After → Type 0
Owed a r s = ((reply_with (λ (taken : ℕ × ℕ × ChangeView). Took taken.0 taken.1) r ≡ s.reply) × IfOk r (λ taken. changed taken.2 (tables_of a) ≡ tables_of s.replica)) ⊎ (r ≡ Err OutOfMemory)

pub returns-clause-step : goal.returns-clause-step
returns-clause-step c = λ a sound part.
    let b = c.batch.view_is in
    let h : Header = record { from = c.in-Some.header.from; primary = c.in-Some.header.primary } in
    let header : c.args.batch.now.header ≡ Some h = sym (ap (λ (b : Batch). b.header) b) ∙ ap header_of c.in-Some.is in
    let items : map item_of c.deref.result.now ≡ c.args.batch.now.items = ap (map item_of) c.deref.ensures.value ∙ ap (λ (b : Batch). b.items) b in
    let good = items_good c.args.batch.now h (map item_of c.deref.result.now) header items c.is_within_limits.ensures in
    let ok = c.batch.inside.items.ok in
    let small = c.batch.inside.items.small in
    let size = ap length c.deref.ensures.value in
    let short : length c.deref.result.now + 2 < 18446744073709551616 = omega arith in
    let primary = ap (λ (v : PartView). v.summary.primary) (c.self.view_is ∙ part) in
    let own : (c.in-Some.header.primary == a.primary) ≡ true = own_primary c.in-Some.header.primary c.self.inside.summary.primary a.primary c.ne.result c.ne.ensures c.if-ne.false primary in
    let step = ap (λ xs. after_items a (take_items xs 2 (Ok (nothing_taken a)))) items ∙ sym (receive_done a c.args.batch.now h header own) in
    let mine = subst (λ (xs : List Item). IsPartOf c.args.self (OfItems xs) a) (sym items) part in
    subst (Owed a c.take_items.result) step (c.take_items.ensures.step good short a sound mine)

-- a batch without a header changes nothing
pub returns-in_default-clause-step : goal.returns-in_default-clause-step
returns-in_default-clause-step c = λ a sound part.
    let header : c.args.batch.now.header ≡ None = sym (ap (λ (b : Batch). b.header) c.batch.view_is) ∙ ap header_of c.in_default.is in
    let step = sym (receive_nothing a c.args.batch.now header) in
    inl (ap (λ (x : After). x.reply) step, c.no_change.ensures (tables_of a) (sym (ap (λ (v : PartView). meta_of v.summary) (c.self.view_is ∙ part))) ∙ ap (λ (x : After). tables_of x.replica) step)

pub returns-then-ne-clause-step : goal.returns-then-ne-clause-step
returns-then-ne-clause-step c = λ a sound part.
    let h : Header = record { from = c.in-Some.header.from; primary = c.in-Some.header.primary } in
    let header : c.args.batch.now.header ≡ Some h = sym (ap (λ (b : Batch). b.header) c.batch.view_is) ∙ ap header_of c.in-Some.is in
    let primary = ap (λ (v : PartView). v.summary.primary) (c.self.view_is ∙ part) in
    let other : (c.in-Some.header.primary == a.primary) ≡ false = other_primary c.in-Some.header.primary c.self.inside.summary.primary a.primary c.ne.result c.ne.ensures c.if-ne.true primary in
    inl (sym (receive_other a c.args.batch.now h header other), tt)
