-- What a call answers that only reads.
use Rattle.std.specs.Prelude.{◌≡◌, List, [], ◌∷◌, Option, Some, None, IsTrue, Result, OnOk, IfOk}
use Rattle.sqlite.specs.State.{State, HasCleanDisk, Survives}
use Rattle.sqlite.specs.declared.error.Error.{Error}
use Rattle.sqlite_schema.specs.declared.schema.Schema.{Schema}
use Rattle.mr_rows.specs.Schema.{our_schema}
use Rattle.mr_rows.specs.Database.{IsKept}

-- the tables of this schema are there, and nothing is uncommitted
pub record IsPlacedIn (under : Schema) (s : State) : Type 0 where
  pub schema : s.now.schema ≡ under
  pub settled : s.now ≡ s.committed

-- our tables are there
abbrev pub IsPlaced : State → Type 0
IsPlaced s = IsPlacedIn our_schema s

-- Where this is known of the database, it stays what it is, and an answer tells that of it.
abbrev pub ReadsWhere : {X : Type 0} → (State → Type 0) → State → State → Result X Error → (X → Type 0) → Type 0
ReadsWhere Known old new result P =
    Survives old new (λ _. ¬ Known old)
    × (HasCleanDisk new → IsTrue new.is_open → IsTrue old.is_open × (Known old → (new.now ≡ old.now) × (new.committed ≡ old.committed)))
    × (HasCleanDisk new → Known old → OnOk result (IsTrue new.is_open) × IfOk result P)

-- what is read of a keeper's database
abbrev pub ReadsKept : {X : Type 0} → State → State → Result X Error → (X → Type 0) → Type 0
ReadsKept old new result P = ReadsWhere IsKept old new result P

-- a keeper's database, and its connection is open
abbrev pub IsInUse : State → Type 0
IsInUse s = IsKept s × IsTrue s.is_open

-- What is read of a keeper's database that is open. Where nothing has to be asked, an answer doesn't tell that it is.
abbrev pub ReadsInUse : {X : Type 0} → State → State → Result X Error → (X → Type 0) → Type 0
ReadsInUse old new result P = ReadsWhere IsInUse old new result P

-- what is read of a database of this schema whose rows may be any
abbrev pub LooksIn : {X : Type 0} → Schema → State → State → Result X Error → (X → Type 0) → Type 0
LooksIn under old new result P = ReadsWhere (IsPlacedIn under) old new result P

-- of one of ours
abbrev pub Looks : {X : Type 0} → State → State → Result X Error → (X → Type 0) → Type 0
Looks old new result P = LooksIn our_schema old new result P

abbrev pub first_of : {X : Type 0} → List X → Option X
first_of [] = None
first_of (x ∷ xs) = Some x
