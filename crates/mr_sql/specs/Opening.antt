-- Opening a database, as one record over its connection before and after, for those who are wanted.
use Rattle.std.specs.Prelude.{◌≡◌, ◌⊎◌, Bool, Option, Some, None, Result, IfOk, IfErr, IsTrue, ⊤}
use Rattle.sqlite_trees.specs.Tree.{Trees}
use Rattle.sqlite_catalog.specs.Listing.{IsSound}
use Rattle.sqlite.specs.State.{State, HasCleanDisk, Survives}
use Rattle.mr_base.specs.declared.refusals.Refusal.{Refusal}
use Rattle.mr_model.specs.Tables.{MetaRow, Tables}
use Rattle.mr_rows.specs.Schema.{no_schema}
use Rattle.mr_rows.specs.Database.{IsKept}
use Rattle.mr_rows.specs.Shown.{IsMeta}
use Rattle.mr_rows.specs.Kept.{AreAllFound}
use Rattle.mr_first.specs.FirstShown.{AreFirstRows}
use Rattle.mr_sql.specs.Found.{AreFresh, IsAdopted, IsResumed, IsTaken, LeavesTables, Names}
use Rattle.mr_sql.specs.Refused.{AreSomebodys, HasNoMeta, IsAnothers, IsNobodys}
use Rattle.mr_sql.specs.Opened.{IsGivenBack, IsOfOpening, IsRefusedAs}
use Rattle.mr_sql.specs.declared.adopt.Whose.{Whose}
use Rattle.mr_sql.specs.declared.adopt.Whose.TheVariants as whose

-- ---- whose tables are wanted

abbrev pub Suits : Whose → MetaRow → Type 0
Suits (whose.Of server primary) = Names server primary
Suits whose.Anyones = λ _. ⊤

abbrev pub AreTakenAs : Whose → Trees → Trees → Type 0
AreTakenAs (whose.Of server primary) = IsAdopted server primary
AreTakenAs whose.Anyones = IsResumed

abbrev pub AreStrangeTo : Whose → Trees → Type 0
AreStrangeTo (whose.Of server primary) = IsAnothers server primary
AreStrangeTo whose.Anyones = IsNobodys

abbrev pub MayFailFor : Whose → Trees → Type 0
MayFailFor (whose.Of server primary) = λ trees. IsSound no_schema trees ⊎ AreSomebodys trees
MayFailFor whose.Anyones = AreSomebodys

abbrev pub RefusesFor : Whose → Trees → Refusal → State → Type 0
RefusesFor w = IsGivenBack (AreStrangeTo w) (MayFailFor w) (AreTakenAs w)

-- ---- what is found

-- all rows were tested, and these are the tables with the row of `meta`; or `meta` has no row, or one of another schema
abbrev pub AreFoundHere : Bool → Trees → Option Tables → Type 0
AreFoundHere keep trees None = HasNoMeta 2 trees
AreFoundHere keep trees (Some t) = AreAllFound keep trees (Some t)

-- the same of the first schema, whose row of `meta` is found
abbrev pub IsFirstFound : Trees → Option MetaRow → Type 0
IsFirstFound trees None = HasNoMeta 1 trees
IsFirstFound trees (Some m) = AreFirstRows trees × IsMeta trees (Some m)

-- ---- what is opened

-- the tables are a keeper's, and so are the rows that were kept
pub record IsOpenFor (w : Whose) (before : Trees) (rows : Option Tables) (s : State) : Type 0 where
  pub is_open : IsTrue s.is_open
  pub kept : IsKept s
  pub tables : AreTakenAs w before s.now.trees
  pub fresh : AreFresh rows s

-- a database that was opened anew is taken or refused; a crash may leave what it becomes
pub record IsOpening (w : Whose) (old new : State) (result : Result (Option Tables) Refusal) : Type 0 where
  pub survives : Survives old new (λ db. IsTaken old → AreTakenAs w old.now.trees db)
  pub opened : HasCleanDisk new → IsTaken old → IfOk result (λ rows. IsOpenFor w old.now.trees rows new)
  pub refused : HasCleanDisk new → IsTaken old → IfErr result (λ e. IsRefusedAs (AreStrangeTo w) (MayFailFor w) old.now.trees e new)
  pub cause : IfErr result IsOfOpening

-- a keeper's database was read: it has what it had, and a crash would leave no more
pub record IsLeftOpen (old new : State) : Type 0 where
  pub clean : HasCleanDisk new → HasCleanDisk old
  pub was_open : HasCleanDisk new → IsTrue new.is_open → IsTrue old.is_open
  pub lasts : HasCleanDisk new → IsTrue old.is_open → IsTrue new.is_open
  pub same : HasCleanDisk new → IsTrue new.is_open → new.now ≡ old.now
  pub settled : HasCleanDisk new → IsTrue new.is_open → LeavesTables old → LeavesTables new
