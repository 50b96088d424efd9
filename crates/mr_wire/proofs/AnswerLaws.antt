-- What the answer of a reader says of the bytes.
use Rattle.std.proofs.Common.{◌≡◌, true, Vec, Global, refl, sym, ap, ◌∙◌, ℕ, ◌+◌, List, [], ◌∷◌, Result, Ok, Err, inl, inr, Option, Some, None}
use Rattle.std.proofs.lemmas.Option.{same_Some}
use Rattle.std.specs.Prelude.{IfOk, IfErr, ok_or}
use Rattle.mr_model.specs.Positions.{Position, is_position, read_position, position_text}
use Rattle.mr_model.proofs.PositionsReadBack.{read-position_text, read_position_text}
use Rattle.mr_model.specs.Texts.{Text, whole_lines}
use Rattle.mr_model.specs.Refusals as model
use Rattle.mr_model.specs.Exchange.{Version, Item, Ending, Heading, Batch, is_batch, batch_text, BodyLine, ItemLine, LastLine, read_header, read_body_line}
use Rattle.mr_model.specs.Exchange.{read_end, read_line, read_body, under_heading, under_header, read_lines, read_batch, ReadsAs, IsFirstBadLine}
use Rattle.mr_model.proofs.BatchesReadBack.{one_text, read_reads, ok_inj}
use Rattle.mr_model.proofs.FirstBadLine.{err_inj, ok_err, bad_line_is_first}
use Rattle.mr_base.specs.RefusalViews.{refusal_of}
use Rattle.mr_base.specs.Answers.{Gives}
use Rattle.mr_base.specs.declared.refusals.Refusal.{Refusal}
use Rattle.mr_base.specs.declared.refusals.Refusal.TheVariants.{BadLine}
use Rattle.mr_wire.specs.BatchAnswers.{IsRefusedFor, GivesSeen}

pub ok_reads : (bytes : Text) (r : Result Batch Refusal) → Gives r (read_batch bytes) → IfOk r (λ b. ReadsAs bytes b)
ok_reads bytes (Ok b) e = read_reads bytes b e
ok_reads bytes (Err e) h = tt

-- reading refuses for bad lines alone
IsBadLine : model.Refusal → Type 0
IsBadLine e = (i : ℕ) × (e ≡ model.BadLine i)

bad_body : (v : Version) (k : ℕ) (ls : List Text) (e : model.Refusal) → read_body v k ls ≡ Err e → IsBadLine e
unfolding IsBadLine
bad_body v k [] e h = absurd (ok_err _ e h)
bad_body v k (l ∷ ls) e h = go (read_body_line v l) (read_body v (k + 1) ls) (λ d. bad_body v (k + 1) ls d) h
  where
    ended : (ending : Ending) (ms : List Text) → read_end ending k ms ≡ Err e → (i : ℕ) × (e ≡ model.BadLine i)
    ended ending [] q = absurd (ok_err _ e q)
    ended ending (m ∷ ms) q = (k + 1, sym (err_inj (model.BadLine (k + 1)) e q))

    go : (o : Option BodyLine) (rest : Result (List Item × Ending) model.Refusal)
        → ((d : model.Refusal) → rest ≡ Err d → (i : ℕ) × (d ≡ model.BadLine i)) → read_line k o ls rest ≡ Err e → (i : ℕ) × (e ≡ model.BadLine i)
    go None rest ih q = (k, sym (err_inj (model.BadLine k) e q))
    go (Some (ItemLine x)) (Ok body) ih q = absurd (ok_err _ e q)
    go (Some (ItemLine x)) (Err d) ih q = ih e q
    go (Some (LastLine ending)) rest ih q = ended ending ls q

bad_lines : (ls : List Text) (e : model.Refusal) → read_lines ls ≡ Err e → IsBadLine e
unfolding IsBadLine
bad_lines [] e h = absurd (ok_err _ e h)
bad_lines (l ∷ ls) e h = go (read_header l) h
  where
    under : (d : Heading) (body : Result (List Item × Ending) model.Refusal)
        → ((x : model.Refusal) → body ≡ Err x → (i : ℕ) × (x ≡ model.BadLine i)) → under_heading d body ≡ Err e → (i : ℕ) × (e ≡ model.BadLine i)
    under d (Ok body) f q = absurd (ok_err _ e q)
    under d (Err x) f q = f e (ap Err (err_inj x e q))

    go : (o : Option Heading) → under_header o ls ≡ Err e → (i : ℕ) × (e ≡ model.BadLine i)
    go None q = (1, sym (err_inj (model.BadLine 1) e q))
    go (Some d) q = under d (read_body d.version 2 ls) (λ x. bad_body d.version 2 ls x) q

first_bad_of : (bytes : Text) (e : model.Refusal) → read_batch bytes ≡ Err e → (i : ℕ) × (e ≡ model.BadLine i) × IsFirstBadLine bytes i
unfolding IsBadLine
first_bad_of bytes e h =
    let (i, is) = bad_lines (whole_lines bytes) e h in
    (i, is, bad_line_is_first bytes i (h ∙ ap Err is))

pub err_refuses : (bytes : Text) (r : Result Batch Refusal) → Gives r (read_batch bytes) → IfErr r (λ e. IsRefusedFor bytes e)
err_refuses bytes (Ok b) h = tt
err_refuses bytes (Err e) (inl is) = inl (first_bad_of bytes (refusal_of e) is)
err_refuses bytes (Err e) (inr out) = inr out

-- ---- positions

pub ok_position : (bytes : Text) (r : Result Position Refusal) → Gives r (ok_or (read_position bytes) model.BadPosition) → IfOk r (λ p. bytes ≡ position_text p)
ok_position bytes (Ok p) e = go (read_position bytes) refl e
  where
    go : (o : Option Position) → read_position bytes ≡ o → ok_or o model.BadPosition ≡ Ok p → bytes ≡ position_text p
    go (Some q) h is = (read_position_text bytes p (h ∙ (let same : q ≡ p = cc in ap (λ (x : Position). Some x) same))).1
    go None h is = absurd (cc)
ok_position bytes (Err e) h = tt

-- ---- what is written

pub one_batch : (w : Batch) (r : Result (Vec ℕ Global) Refusal) → is_batch w ≡ true → GivesSeen (λ v. v.items) r (Ok (batch_text w))
    → (b : Batch) → is_batch b ≡ true → IfOk r (λ v. v.items ≡ batch_text b → b ≡ w)
one_batch w (Ok v) ok is b within = λ same. one_text b w within ok (sym same ∙ sym (ok_inj (batch_text w) v.items is))
one_batch w (Err e) ok is b within = tt

pub one_position : (w : Position) (r : Result (Vec ℕ Global) Refusal) → is_position w ≡ true → GivesSeen (λ v. v.items) r (Ok (position_text w))
    → (p : Position) → is_position p ≡ true → IfOk r (λ v. v.items ≡ position_text p → p ≡ w)
one_position w (Ok v) ok is p within = λ same. same_Some p w (sym (read-position_text p within) ∙ ap read_position (sym same ∙ sym (ok_inj (position_text w) v.items is)) ∙ read-position_text w ok)
one_position w (Err e) ok is p within = tt
