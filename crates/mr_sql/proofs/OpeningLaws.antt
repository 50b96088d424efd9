-- How an opening is made of reads and of a move, and what comes of it.
use Rattle.std.proofs.Common.{◌≡◌, ◌⊎◌, inl, inr, ℕ, Bool, Option, None, Some, Ok, Err, Result, if◌then◌else◌, IfErr, IfOk, IsTrue, length, refl, sym, ap, subst, ◌∙◌, arith}
use Rattle.sqlite_trees.specs.Tree.{Trees}
use Rattle.sqlite_schema.specs.declared.schema.Schema.{Schema}
use Rattle.sqlite.specs.Effect.{Database}
use Rattle.sqlite.specs.State.{State, HasCleanDisk, Survives}
use Rattle.sqlite.specs.declared.error.Error.{Error}
use Rattle.sqlite.proofs.StateLemmas.{survives_then, survives_weaker}
use Rattle.mr_base.specs.declared.refusals.Refusal.{Refusal}
use Rattle.mr_base.specs.declared.refusals.Refusal.TheVariants as refusal
use Rattle.mr_model.specs.Tables.{MetaRow, Tables}
use Rattle.mr_model.specs.First.{moved}
use Rattle.mr_rows.specs.Schema.{no_schema, first_schema, our_schema}
use Rattle.mr_rows.specs.Database.{tables_in}
use Rattle.mr_rows.specs.Reads.{IsPlaced, IsPlacedIn, Looks}
use Rattle.mr_rows.proofs.FoundLemmas.{all_held, meta_is_found}
use Rattle.mr_rows.proofs.QueryLemmas.{clean_before, survives_itself}
use Rattle.mr_first.specs.FirstDatabase.{LooksFirst, first_in}
use Rattle.mr_first.specs.MovedUp.{IsMoved, MovesTo}
use Rattle.mr_sql.specs.declared.adopt.Whose.{Whose}
use Rattle.mr_sql.specs.Found.{IsTaken}
use Rattle.mr_sql.specs.Failed.{HoldReplica, StoreFailed}
use Rattle.mr_sql.specs.Opened.{IsNewKeeper, IsOfOpening}
use Rattle.mr_sql.specs.Opening.{AreFoundHere, AreStrangeTo, AreTakenAs, IsFirstFound, IsLeftOpen, IsOpening, MayFailFor, RefusesFor, Suits}
use Rattle.mr_sql.proofs.TakenLemmas.{alone, not_strange, settles, somebodys, sound_as, stays, taken_as}
use Rattle.mr_sql.proofs.FailedLemmas.{disk_failed, holds_ours}
use Rattle.mr_sql.proofs.FirstTaken.{IsFoundFirst, finds_first, raised_by_crash, raises}
use Rattle.mr_sql.proofs.FreshLemmas.{fresh_of}

-- tables of the first schema are no replica's as a keeper writes them, and no tables are none
pub first_holds_none : (s : State) → IsTaken s → s.now.schema ≡ first_schema → HoldReplica s.now.trees → ⊥
first_holds_none s taken first held = let same = ap (λ (x : Schema). length x.tables) (sym first ∙ holds_ours s taken held) in omega (arith, same)

pub blank_holds_none : (s : State) → IsTaken s → s.now.schema ≡ no_schema → HoldReplica s.now.trees → ⊥
blank_holds_none s taken blank held = let same = ap (λ (x : Schema). length x.tables) (sym blank ∙ holds_ours s taken held) in omega (arith, same)

-- one of two causes is one of three
pub of_opening : (e : Refusal) → (e ≡ refusal.OutOfMemory) ⊎ (e ≡ refusal.Store) → IsOfOpening e
of_opening e (inl memory) = inl memory
of_opening e (inr store) = inr (inl store)

-- ---- what is only read

-- the database stays what it is
abbrev StaysWhere : (State → Type 0) → State → State → Type 0
StaysWhere Known old new = HasCleanDisk new → IsTrue new.is_open → IsTrue old.is_open × (Known old → (new.now ≡ old.now) × (new.committed ≡ old.committed))

module _ (w : Whose) (old new : State) (Known : State → Type 0) (here : IsTaken old → Known old) (looks : Survives old new (λ _. ¬ Known old)) (same : StaysWhere Known old new) where
  -- a crash leaves nothing new
  read_survives : Survives old new (λ db. IsTaken old → AreTakenAs w old.now.trees db)
  read_survives = survives_weaker old new _ _ (λ _ db none taken. absurd (none (here taken))) looks

  -- tables of others are refused
  pub read_strange : (HasCleanDisk new → IsTaken old → AreStrangeTo w old.now.trees) → IsOpening w old new (Err refusal.NotAReplica)
  read_strange strange = record {
    survives = read_survives;
    opened = λ clean taken. tt;
    refused = λ clean taken. record {
      strange = λ _. strange clean taken;
      store = λ is. absurd (cc);
      failed = λ held is. absurd (cc);
      stays = λ now. stays old new taken ((same clean now).1 (here taken));
    };
    cause = inr (inr refl);
  }

  -- and so is what can't be read
  pub read_failed : (e : Refusal) → (e ≡ refusal.OutOfMemory) ⊎ (e ≡ refusal.Store) → (IsTaken old → MayFailFor w old.now.trees)
      → (HasCleanDisk new → IsTaken old → HoldReplica old.now.trees → e ≡ refusal.Store → StoreFailed old new) → IsOpening w old new (Err e)
  read_failed e cause may failed = record {
    survives = read_survives;
    opened = λ clean taken. tt;
    refused = λ clean taken. record {
      strange = λ is. absurd (not_strange cause is);
      store = λ _. may taken;
      failed = λ held is. disk_failed old new taken.is_open taken.unlimited (failed clean taken held is);
      stays = λ now. stays old new taken ((same clean now).1 (here taken));
    };
    cause = of_opening e cause;
  }

-- tables of others are refused unread
pub unread_strange : (w : Whose) (s : State) → (IsTaken s → AreStrangeTo w s.now.trees) → IsOpening w s s (Err refusal.NotAReplica)
unread_strange w s strange = record {
  survives = survives_itself s _;
  opened = λ clean taken. tt;
  refused = λ clean taken. record {
    strange = λ _. strange taken;
    store = λ is. absurd (cc);
    failed = λ held is. absurd (cc);
    stays = λ now. (refl, taken.settled);
  };
  cause = inr (inr refl);
}

-- our tables are found
pub found_open : (w : Whose) (old new : State) (keep : Bool) (t : Tables) (rows : Option Tables)
    → old.now.schema ≡ our_schema → Looks old new (Ok (Some t)) (AreFoundHere keep old.now.trees) → Suits w t.meta
    → rows ≡ (if keep then Some t else None) → IsOpening w old new (Ok rows)
found_open w old new keep t rows ours read suits is = record {
  survives = survives_weaker old new _ _ (λ _ db none taken. absurd (none (record { schema = ours; settled = taken.settled }))) read.0;
  opened = λ clean taken.
      let here : IsPlaced old = record { schema = ours; settled = taken.settled } in
      let told = read.2 clean here in
      let same = (read.1 clean told.0).1 here in
      let all = told.1 in
      record {
        is_open = told.0;
        kept = settles old new taken ours same all.0;
        tables = taken_as w old.now.trees new.now.trees t.meta (inl (sound_as old our_schema taken ours, ap (λ (db : Database). db.trees) same.0))
            (ap (λ (db : Database). (tables_in db.trees).meta) same.0 ∙ meta_is_found old.now.trees t.meta all.1) suits;
        fresh = fresh_of rows t keep new is (λ k. all.2 k (all_held old.now ours taken.sound taken.shelves all.0) ∙ ap (λ (db : Database). tables_in db.trees) (sym same.0));
      };
  refused = λ clean taken. tt;
  cause = tt;
}

-- ---- tables of the first schema that are found, and then moved up

module _ (w : Whose) (old mid new : State) (m : MetaRow) (first : old.now.schema ≡ first_schema) (read : LooksFirst old mid (Ok (Some m)) (IsFirstFound old.now.trees)) (suits : Suits w m) where
  found : HasCleanDisk mid → IsTaken old → IsFoundFirst old.now.trees m mid
  found clean taken =
      let here : IsPlacedIn first_schema old = record { schema = first; settled = taken.settled } in
      let told = read.2 clean here in
      let all = told.1 in
      finds_first m old mid taken first ((read.1 clean told.0).1 here) all.0 all.1

  left : Survives mid new (IsMoved mid (moved (first_in mid.now.trees))) → Survives old new (λ db. IsTaken old → AreTakenAs w old.now.trees db)
  left moves = survives_then old mid new _ _ _ (λ _ db none taken. absurd (none (record { schema = first; settled = taken.settled })))
      (λ clean db way taken. raised_by_crash w old.now.trees db m mid (found (clean_before moves clean) taken) way suits) read.0 moves

  pub raised : Survives mid new (IsMoved mid (moved (first_in mid.now.trees))) → (HasCleanDisk new → IsTrue new.is_open)
      → MovesTo mid new (moved (first_in mid.now.trees)) (Ok tt) → IsOpening w old new (Ok None)
  raised moves lasts way = record {
    survives = left moves;
    opened = λ clean taken.
        let now = lasts clean in
        let before = found (clean_before moves clean) taken in
        raises w old.now.trees m mid new before ((way clean now).1 before.kept).0 now suits;
    refused = λ clean taken. tt;
    cause = tt;
  }

  pub not_raised : (error : Error) → Survives mid new (IsMoved mid (moved (first_in mid.now.trees)))
      → MovesTo mid new (moved (first_in mid.now.trees)) (Err error) → (e : Refusal) → (e ≡ refusal.OutOfMemory) ⊎ (e ≡ refusal.Store)
      → IsOpening w old new (Err e)
  not_raised error moves way e cause = record {
    survives = left moves;
    opened = λ clean taken. tt;
    refused = λ clean taken.
        let before = found (clean_before moves clean) taken in
        record {
          strange = λ is. absurd (not_strange cause is);
          store = λ _. somebodys w old.now.trees (inr (sound_as old first_schema taken first));
          failed = λ held is. absurd (first_holds_none old taken first held);
          stays = λ now.
              let same = ((way clean now).1 before.kept).1 in
              (ap (λ (db : Database). db.trees) same.0 ∙ before.trees_are, same.0 ∙ before.kept.settled ∙ sym same.1);
        };
    cause = of_opening e cause;
  }

-- ---- what comes of an opening

-- a new keeper
pub new_keeper : (w : Whose) (old new : State) (rows : Option Tables) → (HasCleanDisk old → IsTaken old)
    → IsOpening w old new (Ok rows) → ((db : Trees) → IsTrue new.is_open → new.may_leave db → db ≡ new.committed.trees)
    → IsNewKeeper (AreTakenAs w old.now.trees) new 0
new_keeper w old new rows taken opening law =
    let done = λ (clean : HasCleanDisk new). opening.opened clean (taken (clean_before opening.survives clean)) in
    record {
      opens = λ clean. (done clean).is_open;
      opened = λ clean. (done clean).tables;
      settled = λ clean. alone new (done clean).kept (λ db left. law db (done clean).is_open left);
      uncounted = refl;
    }

-- or the connection
pub given_back : (w : Whose) (old new : State) (e : Refusal) → (HasCleanDisk old → IsTaken old) → IsOpening w old new (Err e)
    → ((db : Trees) → IsTrue old.is_open → old.may_leave db → db ≡ old.committed.trees) → HasCleanDisk new
    → HasCleanDisk old × RefusesFor w old.now.trees e new
given_back w old new e taken opening law clean =
    let before = clean_before opening.survives clean in
    let was = taken before in (
      before,
      record {
        refused = opening.refused clean was;
        crash = λ db left. elim (opening.survives.crash clean db left)
            [ inl first ↦ inl (law db was.is_open first ∙ ap (λ (d : Database). d.trees) (sym was.settled)) | inr way ↦ inr (way was) ];
      },
    )

-- a keeper of tables that are such is one of tables that are so
pub keeper_so : (P Q : Trees → Type 0) (s : State) (failures : ℕ) → (HasCleanDisk s → (trees : Trees) → P trees → Q trees) → IsNewKeeper P s failures → IsNewKeeper Q s failures
keeper_so P Q s failures way k = record { opens = k.opens; opened = λ clean. way clean s.now.trees (k.opened clean); settled = k.settled; uncounted = k.uncounted }

pub keepers_so : {K E : Type 0} (P Q : Trees → Type 0) (s : K → State) (failures : K → ℕ) (r : Result K E)
    → ((k : K) → HasCleanDisk (s k) → (trees : Trees) → P trees → Q trees) → IfOk r (λ k. IsNewKeeper P (s k) (failures k))
    → IfOk r (λ k. IsNewKeeper Q (s k) (failures k))
keepers_so P Q s failures (Ok k) way new = keeper_so P Q (s k) (failures k) (way k) new
keepers_so P Q s failures (Err e) way new = tt

-- a new keeper whose database was read is still new
pub keepers_left : {K E : Type 0} (P : Trees → Type 0) (old : State) (s : K → State) (n : ℕ) (failures : K → ℕ) (r : Result K E)
    → IsNewKeeper P old n → IfOk r (λ k. IsLeftOpen old (s k)) → IfOk r (λ k. failures k ≡ n)
    → IfOk r (λ k. IsNewKeeper P (s k) (failures k))
keepers_left P old s n failures (Ok k) new left same = record {
  opens = λ clean. left.lasts clean (new.opens (left.clean clean));
  opened = λ clean. let now = left.lasts clean (new.opens (left.clean clean)) in subst (λ (d : Database). P d.trees) (sym (left.same clean now)) (new.opened (left.clean clean));
  settled = λ clean. let now = left.lasts clean (new.opens (left.clean clean)) in left.settled clean now (new.settled (left.clean clean));
  uncounted = same ∙ new.uncounted;
}
keepers_left P old s n failures (Err e) new left same = tt

pub causes_of : {K : Type 0} (r : Result K Refusal) → IfErr r (λ e. (e ≡ refusal.OutOfMemory) ⊎ (e ≡ refusal.Store)) → IfErr r IsOfOpening
causes_of (Ok k) cause = tt
causes_of (Err e) cause = of_opening e cause
