-- Texts that ask can only fail by the store; those that ask for whole tables show all their rows.
use Rattle.std.proofs.Common.{◌≡◌, inl, inr, ℕ, ◌==◌, List, [], ◌∷◌, length, codes, true, false, Bool, ◌&&◌, Option, Result, Ok, Err, refl, sym, subst, ◌∙◌, leb-true, eqb-true}
use Rattle.std.specs.Prelude.{nat_le}
use Rattle.std.proofs.lemmas.Bool.{and_parts}
use Rattle.sqlite_value.specs.Order.{Row}
use Rattle.sqlite_trees.specs.Tree.{Trees}
use Rattle.sqlite_sql.specs.Term.{Term}
use Rattle.sqlite_sql.specs.Program.{overlay}
use Rattle.sqlite_sql.proofs.QueryLemmas.{no_fold_overflows}
use Rattle.sqlite_typing.specs.Types.{accepts_program}
use Rattle.sqlite_tied.specs.Compute.{everything}
use Rattle.sqlite_schema.specs.declared.schema.Schema.{Schema}
use Rattle.sqlite_resolve.specs.declared.compiled.Compiled.{Compiled}
use Rattle.sqlite_resolve.specs.declared.error.CompileError.{CompileError}
use Rattle.sqlite.specs.declared.error.Error.{Error}
use Rattle.sqlite.specs.Command.TheVariants.{Select}
use Rattle.sqlite.specs.Effect.{Database, RefusesToRead, RefusesQuery}
use Rattle.sqlite.specs.Listing.{understood}
use Rattle.sqlite.proofs.Callers.{command_of}
use Rattle.mr_rows.specs.Meaning.{query_of, columns_at}
use Rattle.mr_rows.specs.Schema.{our_schema, IsOfTwo}
use Rattle.mr_rows.specs.Form.{meta_form}
use Rattle.mr_rows.specs.Causes.{IsStopped, IsSureUnder, IsSureIn, IsSure, AsksAll}
use Rattle.mr_rows.specs.StatementMeaning.{MeansQueryIn, MeansQuery, program_of, names_of}
use Rattle.mr_rows.proofs.StatementLemmas.{under_two}

-- the text is one statement, of so many parameters
abbrev pub is_whole : List ℕ → ℕ → Result Compiled CompileError → Bool
is_whole text count (Ok c) = nat_le (length text) c.tail && (count == length c.names)
is_whole text count (Err e) = false

pub sure_text_in : (under : Schema) (text : List ℕ) (params : Row) (tree : ℕ) (tests project : List Term) (names : List (List ℕ))
    → MeansQueryIn under text (Select (program_of tree tests project) names)
    → is_whole text (length params) (understood under text) ≡ true → accepts_program under [] (query_of tree tests project) params ≡ true → IsSureIn under text params
sure_text_in under text params tree tests project names means whole accepts = (means.1, given (understood under text) means.0.0 whole)
  where
    only_stopped : (limit : Option ℕ) (db : Database) (e : Error) → db.schema ≡ under → RefusesQuery limit db (program_of tree tests project) params e → IsStopped limit e
    only_stopped limit db e here (inl mistyped) =
        absurd (let never : false ≡ true = sym (subst (λ s. accepts_program s [] (query_of tree tests project) params ≡ false) here mistyped.1) ∙ accepts in cc)
    only_stopped limit db e here (inr (inl over)) =
        absurd (elim over.1 [ inl never ↦ never | inr folds ↦ no_fold_overflows (overlay db.trees []) (query_of tree tests project).from (params ∷ []) refl folds ])
    only_stopped limit db e here (inr (inr stopped)) = stopped

    given : (r : Result Compiled CompileError) → command_of r ≡ Select (program_of tree tests project) names → is_whole text (length params) r ≡ true → IsSureUnder under text params r
    given (Ok c) is fits =
        let parts = and_parts (nat_le (length text) c.tail) (length params == length c.names) fits in (
          leb-true (length text) c.tail parts.0,
          eqb-true (length params) (length c.names) parts.1,
          λ limit db e here refuses. only_stopped limit db e here (subst (λ k. RefusesToRead limit k db params e) is refuses),
        )
    given (Err e) is fits = absurd (let never : false ≡ true = fits in cc)

pub sure_text : (text : List ℕ) (params : Row) (tree : ℕ) (tests project : List Term) (names : List (List ℕ)) → MeansQuery text (Select (program_of tree tests project) names)
    → is_whole text (length params) (understood our_schema text) ≡ true → accepts_program our_schema [] (query_of tree tests project) params ≡ true → IsSure text params
sure_text text params tree tests project names means whole accepts = sure_text_in our_schema text params tree tests project names means whole accepts

-- ---- texts that ask for whole tables

pub asks_all : {under : Schema} (tree n : ℕ) → ((db : Trees) → overlay db [] tree ≡ db tree)
    → (text : List ℕ) (names : List (List ℕ)) → MeansQueryIn under text (Select (program_of tree [] (columns_at 1 n)) names)
    → is_whole text 0 (understood under text) ≡ true → accepts_program under [] (query_of tree [] (columns_at 1 n)) [] ≡ true → AsksAll under tree n text
asks_all {under} tree n alone text names means whole accepts = record {
  names = names;
  means = means.0.0;
  plain = means.0.1;
  sure = sure_text_in under text [] tree [] (columns_at 1 n) names means whole accepts;
  alone = alone;
}

pub asks_meta : (under : Schema) → IsOfTwo under → AsksAll under 0 7 (codes "SELECT one, schema, server, prim, commits, dropped, clock FROM meta")
unfolding understood everything
asks_meta = under_two (λ s. AsksAll s 0 7 (codes "SELECT one, schema, server, prim, commits, dropped, clock FROM meta"))
    (asks_all 0 7 (λ db. refl) _ (names_of meta_form.table) ((refl, (refl, refl)), refl) refl refl) (asks_all 0 7 (λ db. refl) _ (names_of meta_form.table) ((refl, (refl, refl)), refl) refl refl)

-- those of the first schema's logs, which have no rows in ours
pub asks_write_log : (under : Schema) → under ≡ our_schema → AsksAll under 6 1 (codes "SELECT server FROM write_log")
unfolding understood everything
asks_write_log = λ under is. subst (λ s. AsksAll s 6 1 (codes "SELECT server FROM write_log")) (sym is) (asks_all 6 1 (λ db. refl) _ (codes "server" ∷ []) ((refl, (refl, refl)), refl) refl refl)

pub asks_undo : (under : Schema) → under ≡ our_schema → AsksAll under 8 1 (codes "SELECT server FROM undo")
unfolding understood everything
asks_undo = λ under is. subst (λ s. AsksAll s 8 1 (codes "SELECT server FROM undo")) (sym is) (asks_all 8 1 (λ db. refl) _ (codes "server" ∷ []) ((refl, (refl, refl)), refl) refl refl)
