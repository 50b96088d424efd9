use Rattle.std.proofs.Common.{◌≡◌, ◌∙◌, not, false, Option, Some, ap, sym}
use Rattle.std.specs.BTreeMap.{is_at}
use Rattle.std.specs.Option.{option_eq}
use Rattle.std.proofs.lemmas.Bool.{true≢false, false_from_ne_true}
use Rattle.mr_replay.specs.contracts.index.IndexKeyPartialEq.TheImpl.{eq-value}
use Rattle.mr_replay.specs.contracts.index.IndexKeyEq.TheImpl.Laws.{laws-law}
use Rattle.mr_replay.specs.declared.index.IndexKey.{IndexKey}
use Rattle.mr_replay.specs.Index.{key_cmp}
use Rattle.mr_replay.proofs.Keys.{same_key}
use Rattle.mr_replay.proofs.index.take_out.Goals as goal

pub returns-then-ne : goal.returns-then-ne
returns-then-ne c = λ k is there.
    let key = c.args.key in
    let apart : is_at (key_cmp key) k ≡ false = false_from_ne_true (is_at (key_cmp key) k) (λ same.
    let one : key ≡ k = same_key key k same in
    true≢false (sym c.if-ne.true ∙ c.ne.ensures
    ∙ ap (λ (o : Option IndexKey). not (option_eq eq-value.it o (Some key))) (is one ∙ ap Some (sym one))
    ∙ ap not (laws-law.refl key))) in
    c.remove.ensures.updates.2 k apart ∙ there
