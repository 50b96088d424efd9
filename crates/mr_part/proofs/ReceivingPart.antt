-- A part that takes a batch: its answer is what the items give.
use Rattle.std.proofs.Common.{◌≡◌, ℕ, ◌-◌, ◌==◌, not, Bool, true, false, None, Some, List, length, ◌⊎◌, Result, Ok, Err, IfOk, ap, sym, ◌∙◌, subst, inl, inr, arith}
use Rattle.std.specs.List.{list_all}
use Rattle.std.proofs.lemmas.Bool.Decides.{nat_tests}
use Rattle.std.proofs.lemmas.List.{length-map}
use Rattle.mr_model.specs.Texts.{only_if}
use Rattle.mr_model.specs.Exchange.{Second, Item, Header, Batch, is_item}
use Rattle.mr_model.specs.Refusals as model
use Rattle.mr_model.specs.Replica.{Replica, IsReplica}
use Rattle.mr_model.specs.Replies.{Took, Refused}
use Rattle.mr_model.specs.Scopes.{OfItems}
use Rattle.mr_model.specs.Step.{After, after_items, step_unless, receive_under, receive_batch}
use Rattle.mr_model.specs.Tables.{tables_of}
use Rattle.mr_model.specs.Taking.{Progress, take_items}
use Rattle.mr_base.specs.RefusalViews.{refusal_of}
use Rattle.mr_base.specs.declared.refusals.Refusal.{Refusal}
use Rattle.mr_base.specs.declared.refusals.Refusal.TheVariants.{OutOfMemory}
use Rattle.mr_tables.specs.declared.summary.Summary.{Summary}
use Rattle.mr_tables.specs.Change.{ChangeView, changed}
use Rattle.mr_part.specs.Answering.{nothing_taken, reply_with}
use Rattle.mr_part.specs.Taken.{ReachedView, ShowsPicked, is_inside}
use Rattle.mr_part.specs.PartMoves.{AnswersItems}
use Rattle.mr_part.specs.KeptRows.{kept_row}
use Rattle.mr_part.specs.Parts.{PartView, kept_in, part_of}
use Rattle.mr_part.proofs.Receiving.{items-bring}

-- the answer is what the items give
pub part_received : (a : Replica) (items : List Item) (part : PartView) (c : ReachedView) (q : Progress) (x : ℕ × ℕ × ChangeView) → IsReplica a
    → part ≡ part_of (OfItems items) a → list_all (is_item Second) items ≡ true → take_items items 2 (Ok (nothing_taken a)) ≡ Ok q → ShowsPicked a (is_inside a items) c q
    → x.0 ≡ length c.kept - length part.kept → x.1 ≡ c.summary.commits - part.summary.commits → changed x.2 (tables_of a) ≡ tables_of q.replica → AnswersItems a items (Ok x)
part_received a items part c q x sound is_part good taken shows writes commits turns =
    let step = ap (after_items a) taken in
    let brings = (items-bring items 2 (nothing_taken a) q sound good taken).commits in
    let kept = ap (λ (v : PartView). length v.kept) is_part ∙ length-map (kept_in (OfItems items) a) (kept_row a) in
    let was = ap (λ (v : PartView). v.summary.commits) is_part in
    let now = ap (λ (s : Summary). s.commits) shows.summary in
    let more = shows.writes in
    let w : x.0 ≡ q.writes = omega (arith, writes, more, kept) in
    let m : x.1 ≡ q.commits = omega (arith, commits, brings, was, now) in
    inl ((λ i. Took (w i) (m i)) ∙ ap (λ (y : After). y.reply) (sym step), turns ∙ ap (λ (y : After). tables_of y.replica) (sym step))

-- a batch that is refused changes nothing
pub part_refused : (a : Replica) (items : List Item) (r : Result (ℕ × ℕ × ChangeView) Refusal) (e : Refusal) → r ≡ Err e
    → (take_items items 2 (Ok (nothing_taken a)) ≡ Err (refusal_of e)) ⊎ (e ≡ OutOfMemory) → AnswersItems a items r
part_refused a items r e p (inl t) = inl (
  ap (reply_with (λ (taken : ℕ × ℕ × ChangeView). Took taken.0 taken.1)) p ∙ ap (λ (x : After). x.reply) (sym (ap (after_items a) t)),
  subst (λ (y : Result (ℕ × ℕ × ChangeView) Refusal). IfOk y (λ taken. changed taken.2 (tables_of a) ≡ tables_of (after_items a (take_items items 2 (Ok (nothing_taken a)))).replica)) (sym p) tt,
)
part_refused a items r e p (inr t) = inr (p ∙ ap Err t)

-- ---- the whole batch

-- a batch without a header
pub receive_nothing : (a : Replica) (b : Batch) → b.header ≡ None → receive_batch a b ≡ record { reply = Took 0 0; replica = a }
receive_nothing a b header = ap (λ o. receive_under a o b.items) header

-- a primary that is found to be another
pub other_primary : (x p q : ℕ) (other : Bool) → other ≡ not (x == p) → other ≡ true → p ≡ q → (x == q) ≡ false
other_primary x p q other e f g = grind (arith, nat_tests)

pub receive_other : (a : Replica) (b : Batch) (h : Header) → b.header ≡ Some h → (h.primary == a.primary) ≡ false → (receive_batch a b).reply ≡ Refused model.WrongPrimary
receive_other a b h header other =
    ap (λ o. (receive_under a o b.items).reply) header ∙ (λ t. (step_unless a (only_if (not (other t)) model.WrongPrimary) (after_items a (take_items b.items 2 (Ok (nothing_taken a))))).reply)
