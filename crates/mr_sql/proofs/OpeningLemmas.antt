-- Tables that were just made stand for the opening replica.
use Rattle.std.proofs.Common.{◌≡◌, ℕ, IsTrue, refl, ap, subst, ◌∙◌}
use Rattle.sqlite_trees.specs.Tree.{Trees}
use Rattle.mr_model.specs.Writes.{is_server}
use Rattle.mr_model.specs.Replica.{opening}
use Rattle.mr_model.specs.Tables.{MetaRow, Stands, tables_of}
use Rattle.mr_model.proofs.RunsAnswer.{opening_is}
use Rattle.mr_rows.specs.Database.{tables_in}
use Rattle.mr_rows.specs.ChangeParts.{put_meta}
use Rattle.mr_sql.specs.Blank.{no_tables}

none_known : (s p : ℕ) → put_meta (tables_of (opening s p)).meta no_tables ≡ tables_of (opening s p)
none_known s p = refl

pub opening_stands : (s p : ℕ) (trees : Trees) {s' p' : ℕ} {m : MetaRow} → IsTrue (is_server s') → IsTrue (is_server p') → s' ≡ s → p' ≡ p
    → m ≡ (tables_of (opening s p)).meta → tables_in trees ≡ put_meta m no_tables → Stands (tables_in trees) (opening s p)
opening_stands s p trees a b same_s same_p first e =
    record {
      sound = opening_is s p (subst (λ n. IsTrue (is_server n)) same_s a) (subst (λ n. IsTrue (is_server n)) same_p b);
      are = e ∙ ap (λ m. put_meta m no_tables) first ∙ none_known s p;
    }
