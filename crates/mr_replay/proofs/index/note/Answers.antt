use Rattle.std.proofs.Common.{◌≡◌, ◌∙◌, Bool, true, false, cond, IsTrue, sym, subst}
use Rattle.std.specs.BTreeMap.{is_at}
use Rattle.mr_model.proofs.UniqueReplay.{some_inj}
use Rattle.mr_replay.specs.declared.index.IndexKey.{IndexKey}
use Rattle.mr_replay.specs.Index.{key_cmp, has}
use Rattle.mr_replay.proofs.index.note.Goals as goal

still : (s h : Bool) → h ≡ true → cond s true h ≡ true
still true h e = λ _. true
still false h e = e

pub returns-in_ok-insert-clause-noted : goal.returns-in_ok-insert-clause-noted
returns-in_ok-insert-clause-noted c = λ key is.
    subst (λ (k : IndexKey). IsTrue (has c.insert.new.self k)) (some_inj c.in-Some.key key (sym c.in-Some.is ∙ c.key_if_taken.ensures ∙ is)) c.in_ok-insert.ensures.updates.1

pub returns-in_ok-insert-clause-grows : goal.returns-in_ok-insert-clause-grows
returns-in_ok-insert-clause-grows c = λ key there. c.in_ok-insert.ensures.updates.0 key ∙ still (is_at (key_cmp c.in-Some.key) key) (has c.args.index.now key) there
