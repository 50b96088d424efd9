-- A write is known again from its row in log.
use Rattle.std.proofs.Common.{◌≡◌, refl, ap, sym, subst, ◌&&◌, ℕ, List, ◌∷◌, inl, inr, Result, Ok, Err, IsTrue}
use Rattle.std.proofs.lemmas.Bool.{and_parts}
use Rattle.mr_model.specs.Texts.{Text}
use Rattle.mr_model.specs.Slots.{Slot}
use Rattle.mr_model.specs.Writes.{Id, Stamp, Meeting, Action, Books, Cancels, Write, is_write, is_stamp, is_room_name, is_action, is_meeting, choices_of}
use Rattle.mr_model.specs.Replay.{Place}
use Rattle.mr_model.specs.Tables.{MeetingCells, OfMeeting, OfCancel, LogRow, cells_of, choices_text, log_row_with}
use Rattle.mr_model.proofs.LinesReadBack.{slots_all}
use Rattle.mr_model.proofs.ChangesKeep.{within}
use Rattle.mr_base.specs.Answers.{OrOutOfMemory}
use Rattle.mr_base.specs.declared.refusals.Refusal.{Refusal}
use Rattle.mr_tables.specs.Cells.{meeting_cells}
use Rattle.mr_tables.specs.Choices.{IsTextOf}
use Rattle.mr_tables.proofs.Fitting.{choices_pass}

pub text_of_meeting : (m : Meeting) (text : Text) → IsTrue (is_meeting m) → text ≡ choices_text m → IsTextOf text (m.wish ∷ m.alternatives)
text_of_meeting m text ok e = record { slots = slots_all m.length (choices_of m) (choices_pass m ok); text_is = e }

-- the meeting with these cells and choices
pub meeting_again : (m : Meeting) (cells : MeetingCells) (wish : Slot) (others : List Slot) → cells ≡ meeting_cells m → wish ≡ m.wish
    → others ≡ m.alternatives → record { title = cells.title; length = cells.length; wish = wish; alternatives = others } ≡ m
meeting_again m cells wish others e w o = λ i. record { title = (e i).title; length = (e i).length; wish = w i; alternatives = o i }

-- ---- the parts of a row

pub stamp_of_row : (w : Write) (place : Place) (seq : ℕ) (row : LogRow) → row ≡ log_row_with w place seq → record { server = row.server; n = row.n; time = row.time } ≡ w.stamp
stamp_of_row w place seq row e = ap (λ (r : LogRow). record { server = r.server; n = r.n; time = r.time }) e

pub stamp_within : (w : Write) (s : Stamp) → IsTrue (is_write w) → s ≡ w.stamp → IsTrue (is_stamp s)
stamp_within w s ok e = subst (λ t. IsTrue (is_stamp t)) (sym e) (within w ok).stamp

-- cells of a meeting are those of a write that books one
pub record IsBookingOf (w : Write) (cells : MeetingCells) : Type 0 where
  pub meeting : Meeting
  pub books : w.action ≡ Books meeting
  pub are : cells ≡ meeting_cells meeting

pub booking_told : (w : Write) (cells : MeetingCells) → OfMeeting cells ≡ cells_of w.action → IsBookingOf w cells
booking_told w cells e = go w.action refl e
  where
    go : (a : Action) → w.action ≡ a → OfMeeting cells ≡ cells_of a → IsBookingOf w cells
    go (Books m) same f = record { meeting = m; books = same; are = cc }
    go (Cancels t) same f = absurd (let never : ⊥ = cc in never)

-- and a target is that of a cancel
pub cancel_told : (w : Write) (target : Id) → OfCancel target ≡ cells_of w.action → w.action ≡ Cancels target
cancel_told w target e = go w.action refl e
  where
    go : (a : Action) → w.action ≡ a → OfCancel target ≡ cells_of a → w.action ≡ Cancels target
    go (Books m) same f = absurd (let never : ⊥ = cc in never)
    go (Cancels t) same f = cc

pub meeting_within : (w : Write) (m : Meeting) → IsTrue (is_write w) → w.action ≡ Books m → IsTrue (is_meeting m)
meeting_within w m ok e =
    subst (λ (a : Action). IsTrue (is_action a)) e (and_parts (is_stamp w.stamp && is_room_name w.room) (is_action w.action) ok).1

-- the write with these parts
pub again : (w : Write) (place : Place) (seq : ℕ) (row : LogRow) (stamp : Stamp) (action : Action) → row ≡ log_row_with w place seq
    → stamp ≡ w.stamp → w.action ≡ action → record { stamp = stamp; room = row.room; action = action } ≡ w
again w place seq row stamp action e s a = λ i. record { stamp = s i; room = (e i).room; action = sym a i }

-- ---- answers where memory may be wanting

pub refused : {T U : Type 0} (x : T) (u : U) (e : Refusal) → OrOutOfMemory (Err e) (Ok x) → OrOutOfMemory (Err e) (Ok u)
refused {T} {U} x u e (inl p) = absurd (let q : ◌≡◌ {A = Result T Refusal} (Ok x) (Err e) = p in let never : ⊥ = cc in never)
refused x u e (inr p) = inr p

pub answered : {T : Type 0} (x y : T) → OrOutOfMemory {T = T} (Ok x) (Ok y) → x ≡ y
answered {T} x y p = let q : ◌≡◌ {A = Result T Refusal} (Ok y) (Ok x) = p in cc

-- where a value is the answer, a refusal is want of memory
pub never_refused : {T : Type 0} (x : T) (e : Refusal) → OrOutOfMemory (Err e) (Ok x) → e ≡ Refusal.OutOfMemory
never_refused {T} x e (inl p) = absurd (let q : ◌≡◌ {A = Result T Refusal} (Ok x) (Err e) = p in let never : ⊥ = cc in never)
never_refused x e (inr p) = p
