-- The rooms that a batch touches: those of its writes, and those of the kept writes whose ids its new commits name.
use Rattle.std.proofs.Common.{◌≡◌, refl, sym, ap, ◌∙◌, ℕ, Bool, true, false, cond, ◌||◌, ◌&&◌, ltb, List, [], ◌∷◌, ◌++◌, map}
use Rattle.std.proofs.Math.Bool.{or_assoc}
use Rattle.std.proofs.lemmas.List.Folds.{list_any-append}
use Rattle.std.specs.BTreeSet.{BTreeSet}
use Rattle.std.specs.List.{filter, list_any}
use Rattle.std.specs.Prelude.{flat_map, bytes_eq}
use Rattle.mr_model.specs.Texts.{Text}
use Rattle.mr_model.specs.Writes.{Id, Write, same_id}
use Rattle.mr_model.specs.Exchange.{Item, W, C}
use Rattle.mr_model.proofs.CommittedPlaces.{same_id_comm}
use Rattle.mr_part.specs.declared.touched.Touched.{Touched}
use Rattle.mr_part.specs.Sets.{has_id, IsSetOf}
use Rattle.mr_replay.specs.Seen.{has_room}
use Rattle.mr_part.specs.Touched.{commits_id, writes_in, IsTouchedBy}
use Rattle.mr_replay.proofs.Overlaid.{or_swap}

-- ---- tests of lists

none : {A : Type 0} (xs : List A) → list_any (λ x. false) xs ≡ false
none [] = refl
none (x ∷ xs) = none xs

-- what either of two tests finds with a third one
either : {A : Type 0} (p q r : A → Bool) (xs : List A) → list_any (λ x. (p x || q x) && r x) xs ≡ (list_any (λ x. p x && r x) xs || list_any (λ x. q x && r x) xs)
either p q r [] = refl
either p q r (x ∷ xs) = ap (λ b. ((p x || q x) && r x) || b) (either p q r xs) ∙ go (p x) (q x) (r x) (list_any (λ x. p x && r x) xs) (list_any (λ x. q x && r x) xs)
  where
    go : (a b c m n : Bool) → (((a || b) && c) || (m || n)) ≡ (((a && c) || m) || ((b && c) || n))
    go true b true m n = refl
    go true b false m n = go_off b m n
      where
        go_off : (b m n : Bool) → (m || n) ≡ (m || ((b && false) || n))
        go_off true m n = refl
        go_off false m n = refl
    go false true true true n = refl
    go false true true false n = refl
    go false true false m n = refl
    go false false c m n = refl

-- ---- rooms

module _ {A : Type 0} (id : A → Id) (room : A → Text) (commits : ℕ) (rows : List A) (name : Text) where
  -- the rooms that one commit names
  named : (other : Id) (new : Bool) (xs : List A) → list_any (bytes_eq name) (cond new (map room (filter (λ row. same_id (id row) other) xs)) [])
      ≡ list_any (λ row. (new && same_id other (id row)) && bytes_eq name (room row)) xs
  named other false xs = sym (none xs)
  named other true [] = refl
  named other true (x ∷ xs) = go (same_id (id x) other) refl (named other true xs)
      ∙ ap (λ b. (b && bytes_eq name (room x)) || list_any (λ row. same_id other (id row) && bytes_eq name (room row)) xs) (same_id_comm (id x) other)
    where
      go : (b : Bool) → same_id (id x) other ≡ b
          → list_any (bytes_eq name) (map room (filter (λ row. same_id (id row) other) xs)) ≡ list_any (λ row. same_id other (id row) && bytes_eq name (room row)) xs
          → list_any (bytes_eq name) (map room (cond b (x ∷ filter (λ row. same_id (id row) other) xs) (filter (λ row. same_id (id row) other) xs)))
          ≡ ((b && bytes_eq name (room x)) || list_any (λ row. same_id other (id row) && bytes_eq name (room row)) xs)
      go true e rest = ap (λ b. bytes_eq name (room x) || b) rest
      go false e rest = rest

  -- a room that a batch touches is of one of its writes, or of a kept write that a new commit of it names
  pub touched_apart : (f : Item → List Text) → ((w : Write) → f (W w) ≡ w.room ∷ [])
      → ((seq : ℕ) (other : Id) → f (C seq other) ≡ cond (ltb commits seq) (map room (filter (λ row. same_id (id row) other) rows)) []) → (items : List Item)
      → list_any (bytes_eq name) (flat_map f items) ≡ (list_any (writes_in name) items || list_any (λ row. list_any (commits_id commits (id row)) items && bytes_eq name (room row)) rows)
  touched_apart f of_write of_commit [] = sym (none rows)
  touched_apart f of_write of_commit (W w ∷ items) =
      ap (λ rooms. list_any (bytes_eq name) (rooms ++ flat_map f items)) (of_write w)
      ∙ ap (λ b. bytes_eq name w.room || b) (touched_apart f of_write of_commit items)
      ∙ sym (or_assoc (bytes_eq name w.room) (list_any (writes_in name) items) (list_any (λ row. list_any (commits_id commits (id row)) items && bytes_eq name (room row)) rows))
  touched_apart f of_write of_commit (C seq other ∷ items) =
      let first = λ (row : A). ltb commits seq && same_id other (id row) in
      let later = λ (row : A). list_any (commits_id commits (id row)) items in
      let here = λ (row : A). bytes_eq name (room row) in
      list_any-append (bytes_eq name) (f (C seq other)) (flat_map f items)
      ∙ (λ t. (ap (list_any (bytes_eq name)) (of_commit seq other) ∙ named other (ltb commits seq) rows) t || touched_apart f of_write of_commit items t)
      ∙ or_swap (list_any (λ row. first row && here row) rows) (list_any (writes_in name) items) (list_any (λ row. later row && here row) rows)
      ∙ ap (λ b. list_any (writes_in name) items || b) (sym (either first later here rows))

-- what is found by itself and among the kept writes are the rooms that the batch touches
pub touched_found : {A : Type 0} (id : A → Id) (room : A → Text) (commits : ℕ) (rows : List A) (f : Item → List Text) → ((w : Write) → f (W w) ≡ w.room ∷ [])
    → ((seq : ℕ) (other : Id) → f (C seq other) ≡ cond (ltb commits seq) (map room (filter (λ row. same_id (id row) other) rows)) [])
    → (items : List Item) (touched : Touched) (set : BTreeSet Text) → IsTouchedBy touched commits items
    → ((name : Text) → has_room set name ≡ (has_room touched.rooms name || list_any (λ row. has_id touched.committed (id row) && bytes_eq name (room row)) rows)) → IsSetOf set (flat_map f items)
touched_found id room commits rows f of_write of_commit items touched set is added name =
    added name
    ∙ (λ t. is.rooms name t || list_any (λ row. is.committed (id row) t && bytes_eq name (room row)) rows)
    ∙ sym (touched_apart id room commits rows name f of_write of_commit items)
