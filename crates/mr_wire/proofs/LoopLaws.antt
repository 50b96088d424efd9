-- What is read one after the other, as a loop does.
use Rattle.std.proofs.Common.{◌≡◌, refl, sym, ap, ◌∙◌, ℕ, suc, ◌+◌, ◌-◌, ◌<◌, ◌≤◌, Bool, true, false, cond, eqb, List}
use Rattle.std.proofs.Common.{[], ◌∷◌, ◌++◌, append_assoc, arith, Option, Some, None, Result, Ok, Err, ◌⊎◌, inl, inr}
use Rattle.std.proofs.lemmas.Bool.{and_parts}
use Rattle.std.proofs.lemmas.List.{append-nil}
use Rattle.std.specs.Prelude.{option_map, codes}
use Rattle.std.specs.List.{list_all}
use Rattle.std.specs.Str.{bytes_eq}
use Rattle.mr_model.specs.Texts.{Text, whole_lines, in_first_line}
use Rattle.mr_model.specs.Slots.{Slot}
use Rattle.mr_model.specs.Refusals as model
use Rattle.mr_model.specs.Exchange.{Version, Item, Ending, Cut, Heading, BodyLine, ItemLine, LastLine, is_heading, is_item, read_header, read_body_line}
use Rattle.mr_model.specs.Exchange.{with_item, read_end, read_line, read_body, under_heading, under_header, read_lines, read_batch, no_lines}
use Rattle.mr_model.proofs.BatchesReadBack.{read_reads}
use Rattle.mr_base.specs.RefusalViews.{refusal_of}
use Rattle.mr_base.specs.declared.refusals.Refusal.{Refusal}
use Rattle.mr_base.specs.declared.refusals.Refusal.TheVariants.{OutOfMemory}
use Rattle.mr_wire.specs.declared.fault.LineFault.{LineFault}
use Rattle.mr_wire.specs.declared.fault.LineFault.TheVariants as faults
use Rattle.mr_wire.specs.Words.{cut}
use Rattle.mr_model.specs.Positions.{Count}
use Rattle.mr_wire.specs.Fields.{◌>>=◌, slot_off, slots_off, parse_count, no_more, with_counts, counts_until_end}
use Rattle.mr_wire.specs.LineAnswers.{Fails}
use Rattle.mr_wire.specs.BatchAnswers.{with_front, refusal_at}

-- ---- slots

-- those that were read, and those that are still read
abbrev pub with_slots : List Slot → Option (List Slot × Text) → Option (List Slot × Text)
with_slots front read = read >>= λ x. Some (front ++ x.0, x.1)

regroup_slots : (front : List Slot) (s : Slot) (read : Option (List Slot × Text)) → with_slots front (read >>= λ x. Some (s ∷ x.0, x.1)) ≡ with_slots (front ++ s ∷ []) read
regroup_slots front s (Some x) = ap (λ (ss : List Slot). Some (ss, x.1)) (sym (append_assoc front (s ∷ []) x.0))
regroup_slots front s None = refl

pub slots_go_on : (front : List Slot) (count i : ℕ) (text : Text) (s : Slot) (after : Text) (total : Option (List Slot × Text)) → i < count → slot_off text ≡ Some (s, after)
    → with_slots front (slots_off (count - i) text) ≡ total → with_slots (front ++ s ∷ []) (slots_off (count - (i + 1)) after) ≡ total
unfolding slots_off
slots_go_on front count i text s after total lt h so_far =
    let k : count - i ≡ suc (count - (i + 1)) = omega arith in
    let one : with_slots front (slots_off (count - i) text) ≡ with_slots (front ++ s ∷ []) (slots_off (count - (i + 1)) after) =
    rw (k, h) (regroup_slots front s (slots_off (count - (i + 1)) after)) in
    sym one ∙ so_far

pub slots_end : (front : List Slot) (count i : ℕ) (text : Text) (total : Option (List Slot × Text))
    → i < count → slot_off text ≡ None → with_slots front (slots_off (count - i) text) ≡ total → total ≡ None
unfolding slots_off
slots_end front count i text total lt h so_far =
    let k : count - i ≡ suc (count - (i + 1)) = omega arith in
    let one : with_slots front (slots_off (count - i) text) ≡ None = rw (k, h) refl in
    sym so_far ∙ one

pub slots_are_done : (front : List Slot) (count i : ℕ) (text : Text) (total : Option (List Slot × Text))
    → count ≤ i → with_slots front (slots_off (count - i) text) ≡ total → total ≡ Some (front, text)
unfolding slots_off
slots_are_done front count i text total le so_far =
    let k : count - i ≡ 0 = omega arith in
    let one : with_slots front (slots_off (count - i) text) ≡ Some (front, text) = rw k (ap (λ (ss : List Slot). Some (ss, text)) (append-nil front)) in
    sym so_far ∙ one

-- ---- lines

lines_by : Option (Text × Text) → List Text
lines_by (Some p) = p.0 ∷ whole_lines p.1
lines_by None = []

lines_cut : (bytes : Text) → whole_lines bytes ≡ lines_by (cut 10 bytes)
unfolding lines_by
lines_cut [] = refl
lines_cut (c ∷ cs) = go (eqb c 10) (cut 10 cs) (lines_cut cs)
  where
    go : (b : Bool) (o : Option (Text × Text)) → whole_lines cs ≡ lines_by o → cond b ([] ∷ whole_lines cs) (in_first_line c (whole_lines cs))
        ≡ lines_by (cond {A = Option (Text × Text)} b (Some ([], cs)) (option_map (λ (p : Text × Text). (c ∷ p.0, p.1)) o))
    go true o ih = refl
    go false (Some p) ih = ap (in_first_line c) ih
    go false None ih = ap (in_first_line c) ih

-- the first line, and those behind it
pub first_line_is : (bytes line behind : Text) → Some (line, behind) ≡ cut 10 bytes → whole_lines bytes ≡ line ∷ whole_lines behind
unfolding lines_by
first_line_is bytes line behind e = lines_cut bytes ∙ ap lines_by (sym e)

pub no_line_left : (bytes : Text) → None ≡ cut 10 bytes → whole_lines bytes ≡ []
unfolding lines_by
no_line_left bytes e = lines_cut bytes ∙ ap lines_by (sym e)

-- ---- the lines below the header

regroup_items : (front : List Item) (x : Item) (read : Result (List Item × Ending) model.Refusal) → with_front front (with_item x read) ≡ with_front (front ++ x ∷ []) read
regroup_items front x (Ok body) = ap (λ (xs : List Item). Ok (xs, body.1)) (sym (append_assoc front (x ∷ []) body.0))
regroup_items front x (Err e) = refl

module _ (v : Version) (front : List Item) (k : ℕ) (rest line behind : Text) (total : Result (List Item × Ending) model.Refusal)
    (is : Some (line, behind) ≡ cut 10 rest) (so_far : with_front front (read_body v (k + 1) (whole_lines rest)) ≡ total) where
  -- what is read of the first line, and of those behind it
  by_first : (o : Option BodyLine) → read_body_line v line ≡ o → with_front front (read_line (k + 1) o (whole_lines behind) (read_body v (k + 1 + 1) (whole_lines behind))) ≡ total
  by_first o e =
      ap (λ b. with_front front (read_line (k + 1) b (whole_lines behind) (read_body v (k + 1 + 1) (whole_lines behind)))) (sym e)
      ∙ ap (λ ls. with_front front (read_body v (k + 1) ls)) (sym (first_line_is rest line behind is)) ∙ so_far

  pub body_goes_on : (x : Item) → read_body_line v line ≡ Some (ItemLine x) → with_front (front ++ x ∷ []) (read_body v (k + 1 + 1) (whole_lines behind)) ≡ total
  body_goes_on x e = sym (regroup_items front x (read_body v (k + 1 + 1) (whole_lines behind))) ∙ by_first (Some (ItemLine x)) e

  pub body_ends : (ending : Ending) → read_body_line v line ≡ Some (LastLine ending) → with_front front (read_end ending (k + 1) (whole_lines behind)) ≡ total
  body_ends ending e = by_first (Some (LastLine ending)) e

  pub body_refused : (fault : LineFault) → Fails fault (read_body_line v line) → (total ≡ Err (refusal_of (refusal_at (k + 1) fault))) ⊎ (refusal_at (k + 1) fault ≡ OutOfMemory)
  body_refused faults.NotALine e = inl (sym (by_first None e))
  body_refused faults.OutOfMemory e = inr refl

pub body_is_done : (v : Version) (front : List Item) (k : ℕ) (rest : Text) (total : Result (List Item × Ending) model.Refusal)
    → None ≡ cut 10 rest → with_front front (read_body v k (whole_lines rest)) ≡ total → total ≡ Ok (front, Cut)
body_is_done v front k rest total is so_far =
    sym so_far ∙ ap (λ ls. with_front front (read_body v k ls)) (no_line_left rest is) ∙ ap (λ (xs : List Item). Ok (xs, Cut)) (append-nil front)

-- behind the last line
pub ends_there : (front : List Item) (ending : Ending) (n : ℕ) (behind : Text) → None ≡ cut 10 behind → with_front front (read_end ending n (whole_lines behind)) ≡ Ok (front, ending)
ends_there front ending n behind is = ap (λ ls. with_front front (read_end ending n ls)) (no_line_left behind is) ∙ ap (λ (xs : List Item). Ok (xs, ending)) (append-nil front)

pub line_behind : (front : List Item) (ending : Ending) (n : ℕ) (behind : Text) (p : Text × Text)
    → Some p ≡ cut 10 behind → with_front front (read_end ending n (whole_lines behind)) ≡ Err (model.BadLine (n + 1))
line_behind front ending n behind p is = ap (λ ls. with_front front (read_end ending n ls)) (first_line_is behind p.0 p.1 is)

-- ---- the whole

pub no_header_line : (bytes : Text) → None ≡ cut 10 bytes → read_batch bytes ≡ Ok no_lines
no_header_line bytes is = ap read_lines (no_line_left bytes is)

pub bad_header : (bytes line rest : Text) → Some (line, rest) ≡ cut 10 bytes → read_header line ≡ None → read_batch bytes ≡ Err (model.BadLine 1)
bad_header bytes line rest is e = ap read_lines (first_line_is bytes line rest is) ∙ ap (λ o. under_header o (whole_lines rest)) e

pub read_under : (bytes line rest : Text) (h : Heading) → Some (line, rest) ≡ cut 10 bytes → read_header line ≡ Some h → read_batch bytes ≡ under_heading h (read_body h.version 2 (whole_lines rest))
read_under bytes line rest h is e = ap read_lines (first_line_is bytes line rest is) ∙ ap (λ o. under_header o (whole_lines rest)) e

pub bad_body : (bytes line rest : Text) (h : Heading) (e : Refusal) → Some (line, rest) ≡ cut 10 bytes → read_header line ≡ Some h
    → (read_body h.version 2 (whole_lines rest) ≡ Err (refusal_of e)) ⊎ (e ≡ OutOfMemory) → (read_batch bytes ≡ Err (refusal_of e)) ⊎ (e ≡ OutOfMemory)
bad_body bytes line rest h e is head (inl b) = inl (read_under bytes line rest h is head ∙ ap (under_heading h) b)
bad_body bytes line rest h e is head (inr m) = inr m

pub whole_batch : (bytes line rest : Text) (h : Heading) (body : List Item × Ending) → Some (line, rest) ≡ cut 10 bytes → Some h ≡ read_header line
    → read_body h.version 2 (whole_lines rest) ≡ Ok body → read_batch bytes ≡ Ok (record { version = h.version; header = Some h.header; items = body.0; ending = body.1 })
whole_batch bytes line rest h body is head read = read_under bytes line rest h is (sym head) ∙ ap (under_heading h) read

-- all items that are read are ones that the version can say
pub said_items : (bytes line rest : Text) (h : Heading) (body : List Item × Ending) → Some (line, rest) ≡ cut 10 bytes
    → Some h ≡ read_header line → read_body h.version 2 (whole_lines rest) ≡ Ok body → list_all (is_item h.version) body.0 ≡ true
said_items bytes line rest h body is head read =
    (and_parts (is_heading h) (list_all (is_item h.version) body.0)
    (read_reads bytes (record { version = h.version; header = Some h.header; items = body.0; ending = body.1 }) (whole_batch bytes line rest h body is head read)).is_a_batch).1

-- ---- the counts of a position

regroup_counts : (front : List Count) (c : Count) (read : Option (List Count)) → with_counts front (read >>= λ cs. Some (c ∷ cs)) ≡ with_counts (front ++ c ∷ []) read
regroup_counts front c (Some cs) = ap (λ (xs : List Count). Some xs) (sym (append_assoc front (c ∷ []) cs))
regroup_counts front c None = refl

module _ (front : List Count) (rest line behind : Text) (total : Option (List Count))
    (is : Some (line, behind) ≡ cut 10 rest) (so_far : with_counts front (counts_until_end (whole_lines rest)) ≡ total) where
  counts_by_first : (b : Bool) → bytes_eq line (codes "E") ≡ b
      → with_counts front (cond b (no_more (whole_lines behind)) (parse_count line >>= λ c. (counts_until_end (whole_lines behind) >>= λ cs. Some (c ∷ cs)))) ≡ total
  counts_by_first b e =
      ap (λ t. with_counts front (cond t (no_more (whole_lines behind)) (parse_count line >>= λ c. (counts_until_end (whole_lines behind) >>= λ cs. Some (c ∷ cs))))) (sym e)
      ∙ ap (λ ls. with_counts front (counts_until_end ls)) (sym (first_line_is rest line behind is)) ∙ so_far

  pub counts_at_end : bytes_eq line (codes "E") ≡ true → with_counts front (no_more (whole_lines behind)) ≡ total
  counts_at_end e = counts_by_first true e

  pub counts_go_on : (c : Count) → bytes_eq line (codes "E") ≡ false → parse_count line ≡ Some c → with_counts (front ++ c ∷ []) (counts_until_end (whole_lines behind)) ≡ total
  counts_go_on c e h =
      sym (regroup_counts front c (counts_until_end (whole_lines behind)))
      ∙ ap (λ o. with_counts front (o >>= λ (d : Count). (counts_until_end (whole_lines behind) >>= λ cs. Some (d ∷ cs)))) (sym h) ∙ counts_by_first false e

  pub counts_end : bytes_eq line (codes "E") ≡ false → parse_count line ≡ None → total ≡ None
  counts_end e h =
      sym (ap (λ o. with_counts front (o >>= λ (d : Count). (counts_until_end (whole_lines behind) >>= λ cs. Some (d ∷ cs)))) (sym h) ∙ counts_by_first false e)

pub counts_run_out : (front : List Count) (rest : Text) (total : Option (List Count)) → None ≡ cut 10 rest → with_counts front (counts_until_end (whole_lines rest)) ≡ total → total ≡ None
counts_run_out front rest total is so_far = sym so_far ∙ ap (λ ls. with_counts front (counts_until_end ls)) (no_line_left rest is)

pub no_more_there : (front : List Count) (behind : Text) → None ≡ cut 10 behind → with_counts front (no_more (whole_lines behind)) ≡ Some front
no_more_there front behind is = ap (λ ls. with_counts front (no_more ls)) (no_line_left behind is) ∙ ap (λ (cs : List Count). Some cs) (append-nil front)

pub more_there : (front : List Count) (behind : Text) (p : Text × Text) → Some p ≡ cut 10 behind → with_counts front (no_more (whole_lines behind)) ≡ None
more_there front behind p is = ap (λ ls. with_counts front (no_more ls)) (first_line_is behind p.0 p.1 is)
