-- The rows of log, read row by row.
use Rattle.std.proofs.Common.{◌≡◌, refl, sym, ap, ◌∙◌, ℕ, zero, suc, ◌+◌, ◌<◌, ◌≤◌, ◌==◌, ◌&&◌, true, not, List, [], ◌∷◌, ◌++◌, length, get_or, take, map, inl, inr, arith, IsTrue}
use Rattle.std.specs.Str.{bytes_eq}
use Rattle.std.proofs.lemmas.Bool.{and_parts, and_from, true≢false, eq-eqb, eqb-true}
use Rattle.std.proofs.lemmas.List.{length-map, take_all}
use Rattle.mr_model.specs.Replay.{Place}
use Rattle.mr_model.specs.Writes.{Action, Books, Cancels, Write, id_of, is_write}
use Rattle.mr_model.specs.Replica.{Replica, IsReplica, is_dropped}
use Rattle.mr_model.specs.Tables.{ActionCells, OfMeeting, OfCancel, LogRow, by_id, kept, cells_of, log_row_with}
use Rattle.mr_model.specs.Dropped.{Has}
use Rattle.mr_model.proofs.Members.{filter_has, same_id-true, same_id_from}
use Rattle.mr_model.proofs.RowsById.{by_id_has, known_write}
use Rattle.mr_base.proofs.Readers.{bytes_same, same_bytes}
use Rattle.mr_part.specs.KeptRows.{kept_row_with}
use Rattle.mr_part.specs.WithoutChoices.{cells_without_choices, without_choices, kept_without_choices, is_of_cells, is_of_row}

-- the k-th row is that of a write, and what is made of the writes up to it has one element more
pub record IsRead {R T : Type 0} (f : Write → R) (h : Write → T) (ws : List Write) (k : ℕ) (x : R) : Type 0 where
  pub write : Write
  pub has : Has write ws
  pub row : x ≡ f write
  pub more : map h (take (k + 1) ws) ≡ map h (take k ws) ++ h write ∷ []

pub read_at : {R T : Type 0} (f : Write → R) (h : Write → T) (ws : List Write) (k : ℕ) (x : R) → k < length ws → x ≡ get_or (map f ws) k x → IsRead f h ws k x
read_at f h [] k x l p = absurd (omega (arith, l))
read_at f h (w ∷ ws) zero x l p = record { write = w; has = inl refl; row = p; more = refl }
read_at f h (w ∷ ws) (suc k) x l p =
    let rest = read_at f h ws k x (let m : suc k < suc (length ws) = l in omega (arith, m)) p in
    record {
      write = rest.write;
      has = inr rest.has;
      row = rest.row;
      more = (let e : suc k + 1 ≡ suc (k + 1) = omega arith in ap (λ n. map h (take n (w ∷ ws))) e) ∙ ap (λ ts. h w ∷ ts) rest.more;
    }

-- kept writes are within the limits
pub kept_within : (a : Replica) (w : Write) → IsReplica a → Has w (kept a) → IsTrue (is_write w)
kept_within a w h g = known_write a w h (by_id_has a w (filter_has (λ v. not (is_dropped a (id_of v))) w (by_id a.known) g).0)

-- at the end all are read
pub all_read : {R T : Type 0} (f : Write → R) (h : Write → T) (ws : List Write) (k : ℕ) (logs : List R) → logs ≡ map f ws → length logs ≤ k → map h (take k ws) ≡ map h ws
all_read f h ws k logs e l =
    let long : length logs ≡ length ws = ap length e ∙ length-map ws f in
    ap (map h) (take_all k ws (omega (arith, l, long)))

-- one row more
pub told_more : (logs : List LogRow) (k : ℕ) (x : LogRow) → k < length logs → x ≡ get_or logs k x
    → map without_choices (take (k + 1) logs) ≡ map without_choices (take k logs) ++ without_choices x ∷ []
told_more [] k x l e = absurd (omega (arith, l))
told_more (y ∷ ys) zero x l e = ap (λ row. without_choices row ∷ []) (sym e)
told_more (y ∷ ys) (suc k) x l e =
    (let n : suc k + 1 ≡ suc (k + 1) = omega arith in ap (λ m. map without_choices (take m (y ∷ ys))) n)
    ∙ ap (λ ts. without_choices y ∷ ts) (told_more ys k x (let m : suc k < suc (length ys) = l in omega (arith, m)) e)

-- ---- columns

told_action : (a : Action) (cells : ActionCells) → is_of_cells a cells ≡ true → cells_without_choices (cells_of a) ≡ cells_without_choices cells
told_action (Books m) (OfMeeting cells) e =
    let (length, title) = and_parts (m.length == cells.length) (bytes_eq m.title cells.title) e in
    λ i. OfMeeting (record { length = eqb-true m.length cells.length length i; choices = []; title = bytes_same m.title cells.title title i })
told_action (Books m) (OfCancel target) e = absurd (true≢false (sym e))
told_action (Cancels target) (OfMeeting cells) e = absurd (true≢false (sym e))
told_action (Cancels target) (OfCancel other) e = ap OfCancel (same_id-true target other e)

-- a write that is of the row tells it
pub told_row : (w : Write) (row : LogRow) → is_of_row w row ≡ true → kept_without_choices (kept_row_with w row.seq row.place) ≡ without_choices row
told_row w row e =
    let s = w.stamp in
    let (front, action) = and_parts (s.server == row.server && s.n == row.n && s.time == row.time && bytes_eq w.room row.room) (is_of_cells w.action row.action) e in
    let (front, room) = and_parts (s.server == row.server && s.n == row.n && s.time == row.time) (bytes_eq w.room row.room) front in
    let (front, time) = and_parts (s.server == row.server && s.n == row.n) (s.time == row.time) front in
    let (server, n) = and_parts (s.server == row.server) (s.n == row.n) front in
    λ i. record {
      server = eqb-true s.server row.server server i;
      n = eqb-true s.n row.n n i;
      time = eqb-true s.time row.time time i;
      room = bytes_same w.room row.room room i;
      action = told_action w.action row.action action i;
      place = row.place;
      seq = row.seq;
    }

own_cells : (a : Action) → is_of_cells a (cells_of a) ≡ true
own_cells (Books m) = and_from (m.length == m.length) (bytes_eq m.title m.title) (eq-eqb m.length m.length refl) (same_bytes m.title m.title refl)
own_cells (Cancels target) = same_id_from target target refl

-- and it is of its own row
pub own_row : (w : Write) (place : Place) (seq : ℕ) → is_of_row w (log_row_with w place seq) ≡ true
own_row w place seq =
    let s = w.stamp in
    let stamp = and_from (s.server == s.server && s.n == s.n) (s.time == s.time)
    (and_from (s.server == s.server) (s.n == s.n) (eq-eqb s.server s.server refl) (eq-eqb s.n s.n refl)) (eq-eqb s.time s.time refl) in
    let room = and_from (s.server == s.server && s.n == s.n && s.time == s.time) (bytes_eq w.room w.room) stamp (same_bytes w.room w.room refl) in
    and_from (s.server == s.server && s.n == s.n && s.time == s.time && bytes_eq w.room w.room) (is_of_cells w.action (cells_of w.action)) room (own_cells w.action)
