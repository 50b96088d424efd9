-- A line is read as the fields on it exactly where it is their line.
use Rattle.std.proofs.Common.{◌≡◌, refl, sym, ap, ◌∙◌, subst, ℕ, ◌^◌, ◌<◌, ◌≤◌, Bool, true, false, not, cond, ◌&&◌, leb, ltb}
use Rattle.std.proofs.Common.{List, [], ◌∷◌, ◌++◌, length, arith, Option, Some, None, Ok, Err, lit<, lit≤, le-leb, leb-true}
use Rattle.std.proofs.lemmas.Bool.{true≢false, and_parts, and_from, le-ltb}
use Rattle.std.proofs.lemmas.Option.{same_Some}
use Rattle.std.proofs.lemmas.Slice.Eq.{bytes_eq-Decides}
use Rattle.std.specs.Prelude.{flat_map, codes}
use Rattle.std.specs.Str.{bytes_eq}
use Rattle.std.specs.Fmt.{decimal}
use Rattle.std.specs.List.{AllByRecursion, list_all}
use Rattle.mr_model.specs.Texts.{Text, within, only_if, words}
use Rattle.mr_model.specs.Calendar.{date_text, time_text}
use Rattle.mr_model.specs.Slots.{Slot, is_slot, slot_words}
use Rattle.mr_model.specs.Writes.{Id, Stamp, Meeting, Action, Books, Cancels, Write, is_write, is_meeting, is_stamp, is_server, is_count}
use Rattle.mr_model.specs.Writes.{is_id, is_commit_number, is_room_name, is_title, is_length, fits_day, choices_of, greatest_alternatives}
use Rattle.mr_model.specs.Requests.{is_length_for}
use Rattle.mr_model.specs.Exchange.{Version, First, Second, Item, W, C, BodyLine, ItemLine, LastLine, Complete, More, Cut, is_in_version, is_item, write_line, item_line, read_body_line}
use Rattle.mr_model.proofs.WordsReadBack.{Plain}
use Rattle.mr_model.proofs.LinesReadBack.{words-cons, slots_all, meeting_facts, write_parts}
use Rattle.mr_model.proofs.BatchesReadBack.{only_if_some, IsLineOf, body_line_of, read-item_line}
use Rattle.mr_base.specs.declared.refusals.Refusal.{Refusal}
use Rattle.mr_base.specs.declared.refusals.Refusal.TheVariants.{BadLength, TooManyAlternatives}
use Rattle.mr_base.specs.Limits.{limited}
use Rattle.mr_wire.specs.Words.{cut}
use Rattle.mr_base.specs.Readings.{number_from_to}
use Rattle.mr_base.proofs.Readers.{same_reading}
use Rattle.mr_wire.specs.Fields.{◌>>=◌, number_off, slot_off, slots_off, front_off, most_alternatives, choices_off, booking_with, parse_booking}
use Rattle.mr_wire.specs.Fields.{behind_word, server_and, parse_id, cancel_parts, parse_cancel, commit_of, worded_line, bare_line, line_by, parse_line}
use Rattle.mr_wire.proofs.FieldLaws.{bind_some, cut_takes, word_again, number_takes, number_again, number_off_takes, number_off_again, front_rest}
use Rattle.mr_wire.proofs.FieldLaws.{front_off_takes, front_off_again, slot_off_takes, slot_off_again, slots_off_take, slots_off_again}

-- the booking and the cancel of these parts
abbrev pub booking : Stamp → Text → Meeting → Write
booking stamp room m = record { stamp = stamp; room = room; action = Books m }

abbrev pub cancel : Stamp → Text → Id → Write
cancel stamp room t = record { stamp = stamp; room = room; action = Cancels t }

-- the text is what stands behind the word of the write's line, whose first byte this is
record IsWriteOf (letter : ℕ) (v : Version) (text : Text) (w : Write) : Type 0 where
  ok : is_item v (W w) ≡ true
  is : letter ∷ 32 ∷ text ≡ write_line w

-- ---- how many alternatives a version has

most_small : (v : Version) → most_alternatives v < 2 ^ 64
most_small First = lit< tt
most_small Second = lit< tt

pub most_within : (v : Version) (n : ℕ) → n ≤ most_alternatives v → n ≤ greatest_alternatives
most_within First n h = omega (arith, h)
most_within Second n h = h

-- a booking is of this version where it has so many alternatives
in_version : (v : Version) (stamp : Stamp) (room : Text) (m : Meeting) → length m.alternatives ≤ most_alternatives v → is_in_version v (booking stamp room m) ≡ true
in_version First stamp room m few = le-leb (length m.alternatives) 8 few
in_version Second stamp room m few = refl

few_in_version : (v : Version) (stamp : Stamp) (room : Text) (m : Meeting) → is_in_version v (booking stamp room m) ≡ true → length m.alternatives ≤ 16 → length m.alternatives ≤ most_alternatives v
few_in_version First stamp room m e few = leb-true (length m.alternatives) 8 e
few_in_version Second stamp room m e few = few

-- ---- bookings

-- the text of the choices, and behind it the title
unfoldable pub choices_rest : Slot → List Slot → Text → Text
choices_rest wish others title =
    date_text wish.day ++ 32 ∷ (time_text wish.start ++ 32 ∷ (decimal (length others) ++ 32 ∷ words (flat_map slot_words others ++ title ∷ [])))

record AreChoices (most : ℕ) (text : Text) (wish : Slot) (others : List Slot) (title : Text) : Type 0 where
  wish_ok : is_slot wish ≡ true
  others_ok : AllByRecursion (λ s. is_slot s ≡ true) others
  few : length others ≤ most
  is : text ≡ choices_rest wish others title

choices_made : (most : ℕ) (text : Text) (a : Slot × Text) (k : ℕ × Text) (o : List Slot × Text) → slot_off text ≡ Some a
    → number_off 0 most a.1 ≡ Some k → slots_off k.0 k.1 ≡ Some o → AreChoices most text a.0 o.0 o.1
unfolding choices_rest
choices_made most text a k o ea ek eo =
    let ta = slot_off_takes text a ea in
    let tk = number_off_takes 0 most a.1 k ek in
    let to = slots_off_take k.0 k.1 o eo in
    let low : k.0 ≤ most = leb-true k.0 most (and_parts (leb 0 k.0) (leb k.0 most) tk.0).1 in
    let many : length o.0 ≡ k.0 = to.0 in
    record {
      wish_ok = ta.0;
      others_ok = to.1;
      few = omega (arith, low, many);
      is = ta.1 ∙ ap (λ (t : Text). date_text a.0.day ++ 32 ∷ (time_text a.0.start ++ 32 ∷ t))
          (tk.1 ∙ ap (λ (n : ℕ). decimal n ++ 32 ∷ k.1) (sym many) ∙ ap (λ (t : Text). decimal (length o.0) ++ 32 ∷ t) to.2);
    }

choices_take : (most : ℕ) (text : Text) (x : (Slot × List Slot) × Text) → choices_off most text ≡ Some x → AreChoices most text x.0.0 x.0.1 x.1
unfolding choices_off
choices_take most text x e =
    let a = bind_some (slot_off text) (λ wish. number_off 0 most wish.1 >>= λ few. slots_off few.0 few.1 >>= λ others. Some ((wish.0, others.0), others.1)) x e in
    let k = bind_some (number_off 0 most a.0.1) (λ few. slots_off few.0 few.1 >>= λ others. Some ((a.0.0, others.0), others.1)) x a.2 in
    let o = bind_some (slots_off k.0.0 k.0.1) (λ others. Some ((a.0.0, others.0), others.1)) x k.2 in
    let made : (Slot × List Slot) × Text = ((a.0.0, o.0.0), o.0.1) in
    subst (λ (y : (Slot × List Slot) × Text). AreChoices most text y.0.0 y.0.1 y.1) {x = made} (same_Some made x o.2) (choices_made most text a.0 k.0 o.0 a.1 k.1 o.1)

choices_again : (most : ℕ) (wish : Slot) (others : List Slot) (title : Text) → most < 2 ^ 64 → is_slot wish ≡ true
    → AllByRecursion (λ s. is_slot s ≡ true) others → length others ≤ most → choices_off most (choices_rest wish others title) ≡ Some ((wish, others), title)
unfolding choices_rest choices_off
choices_again most wish others title top ok all few =
    let tail : Text = words (flat_map slot_words others ++ title ∷ []) in
    let count : Text = decimal (length others) ++ 32 ∷ tail in
    let so_many : within 0 most (length others) ≡ true = and_from (leb 0 (length others)) (leb (length others) most) (le-leb 0 (length others) (omega arith)) (le-leb (length others) most few) in
    ap (λ o. o >>= λ (w : Slot × Text). number_off 0 most w.1 >>= λ k. slots_off k.0 k.1 >>= λ s. Some ((w.0, s.0), s.1)) (slot_off_again wish count ok)
    ∙ ap (λ o. o >>= λ (k : ℕ × Text). slots_off k.0 k.1 >>= λ s. Some ((wish, s.0), s.1)) (number_off_again 0 most (length others) tail so_many top)
    ∙ ap (λ o. o >>= λ (s : List Slot × Text). Some ((wish, s.0), s.1)) (slots_off_again others title all)

-- what stands behind the room of a booking
unfoldable pub meeting_rest : Meeting → Text
meeting_rest m = decimal m.length ++ 32 ∷ choices_rest m.wish m.alternatives m.title

pub booking_line_is : (stamp : Stamp) (room : Text) (m : Meeting) → write_line (booking stamp room m) ≡ 87 ∷ 32 ∷ front_rest stamp room (meeting_rest m)
unfolding front_rest meeting_rest choices_rest
booking_line_is stamp room m = ap (λ (t : Text). 87 ∷ 32 ∷ (
    decimal stamp.server ++ 32 ∷ (decimal stamp.n ++ 32 ∷ (decimal stamp.time ++ 32 ∷ (room ++ 32 ∷ (decimal m.length ++ 32 ∷ (
    date_text m.wish.day ++ 32 ∷ (time_text m.wish.start ++ 32 ∷ t))))))))
    (words-cons (decimal (length m.alternatives)) (flat_map slot_words m.alternatives) m.title)

booking_ok : (v : Version) (stamp : Stamp) (room : Text) (m : Meeting) → is_stamp stamp ≡ true → is_room_name room ≡ true → is_title m.title ≡ true
    → is_length_for m.length (choices_of m) ≡ true → length m.alternatives ≤ most_alternatives v → is_item v (W (booking stamp room m)) ≡ true
booking_ok v stamp room m s r t f few =
    let fits = and_parts (is_length m.length) (list_all (λ c. is_slot c && fits_day m.length c) (choices_of m)) f in
    and_from (is_write (booking stamp room m)) (is_in_version v (booking stamp room m))
    (and_from (is_stamp stamp && is_room_name room) (is_meeting m) (and_from (is_stamp stamp) (is_room_name room) s r)
    (and_from (is_title m.title && is_length m.length && leb (length m.alternatives) greatest_alternatives) (list_all (λ c. is_slot c && fits_day m.length c) (choices_of m))
    (and_from (is_title m.title && is_length m.length) (leb (length m.alternatives) greatest_alternatives) (and_from (is_title m.title) (is_length m.length) t fits.0)
    (le-leb (length m.alternatives) greatest_alternatives (most_within v (length m.alternatives) few)))
    fits.1))
    (in_version v stamp room m few)

booking_made : (v : Version) (text : Text) (f : Stamp × Text × Text) (m : ℕ × Text) (c : (Slot × List Slot) × Text) (w : Write) → front_off text ≡ Some f
    → number_off 1 1440 f.2 ≡ Some m → choices_off (most_alternatives v) m.1 ≡ Some c → booking_with f.0 f.1 m.0 c.0.0 c.0.1 c.1 ≡ Some w → IsWriteOf 87 v text w
unfolding booking_with meeting_rest
booking_made v text f m c w ef em ec ew =
    let meeting : Meeting = record { title = c.1; length = m.0; wish = c.0.0; alternatives = c.0.1 } in
    let made : Write = booking f.0 f.1 meeting in
    let few = not (ltb greatest_alternatives (length c.0.1)) in
    let ends = only_if_some (is_title c.1 && (is_length_for m.0 (c.0.0 ∷ c.0.1) && few)) made w ew in
    let titled = and_parts (is_title c.1) (is_length_for m.0 (c.0.0 ∷ c.0.1) && few) ends.0 in
    let long = and_parts (is_length_for m.0 (c.0.0 ∷ c.0.1)) few titled.1 in
    let tf = front_off_takes text f ef in
    let tm = number_off_takes 1 1440 f.2 m em in
    let tc = choices_take (most_alternatives v) m.1 c ec in
    let is : text ≡ front_rest f.0 f.1 (meeting_rest meeting) = tf.2 ∙ ap (front_rest f.0 f.1) (tm.1 ∙ ap (λ (t : Text). decimal m.0 ++ 32 ∷ t) tc.is) in
    subst (λ w. IsWriteOf 87 v text w) {x = made} ends.1 (record {
      ok = booking_ok v f.0 f.1 meeting tf.0 tf.1 titled.0 long.0 tc.few;
      is = ap (λ (t : Text). 87 ∷ 32 ∷ t) is ∙ sym (booking_line_is f.0 f.1 meeting);
    })

booking_takes : (v : Version) (text : Text) (w : Write) → parse_booking v text ≡ Some w → IsWriteOf 87 v text w
unfolding parse_booking
booking_takes v text w e =
    let f = bind_some (front_off text) (λ front. number_off 1 1440 front.2 >>= λ minutes. choices_off (most_alternatives v) minutes.1
    >>= λ c. booking_with front.0 front.1 minutes.0 c.0.0 c.0.1 c.1) w e in
    let m = bind_some (number_off 1 1440 f.0.2) (λ minutes. choices_off (most_alternatives v) minutes.1 >>= λ c. booking_with f.0.0 f.0.1 minutes.0 c.0.0 c.0.1 c.1) w f.2 in
    let c = bind_some (choices_off (most_alternatives v) m.0.1) (λ c. booking_with f.0.0 f.0.1 m.0.0 c.0.0 c.0.1 c.1) w m.2 in
    booking_made v text f.0 m.0 c.0 w f.1 m.1 c.1 c.2

booking_again : (v : Version) (stamp : Stamp) (room : Text) (m : Meeting) → is_item v (W (booking stamp room m)) ≡ true
    → parse_booking v (front_rest stamp room (meeting_rest m)) ≡ Some (booking stamp room m)
unfolding parse_booking booking_with meeting_rest
booking_again v stamp room m ok =
    let version = and_parts (is_write (booking stamp room m)) (is_in_version v (booking stamp room m)) ok in
    let p = write_parts (booking stamp room m) version.0 in
    let f = meeting_facts m p.2 in
    let a = and_parts _ (list_all (λ s. is_slot s && fits_day m.length s) (choices_of m)) p.2 in
    let b = and_parts _ (leb (length m.alternatives) greatest_alternatives) a.0 in
    let long : is_length m.length ≡ true = (and_parts (is_title m.title) (is_length m.length) b.0).1 in
    let all : AllByRecursion (λ s. is_slot s ≡ true) (choices_of m) = slots_all m.length (choices_of m) f.slots in
    let few : length m.alternatives ≤ most_alternatives v = few_in_version v stamp room m version.1 f.few in
    let tail : Text = choices_rest m.wish m.alternatives m.title in
    let fits : is_length_for m.length (choices_of m) ≡ true = and_from (is_length m.length) (list_all (λ s. is_slot s && fits_day m.length s) (choices_of m)) long f.slots in
    ap (λ o. o >>= λ (front : Stamp × Text × Text). number_off 1 1440 front.2 >>= λ minutes. choices_off (most_alternatives v) minutes.1
    >>= λ c. booking_with front.0 front.1 minutes.0 c.0.0 c.0.1 c.1) (front_off_again stamp room (decimal m.length ++ 32 ∷ tail) p.0 p.1)
    ∙ ap (λ o. o >>= λ (minutes : ℕ × Text). choices_off (most_alternatives v) minutes.1 >>= λ c. booking_with stamp room minutes.0 c.0.0 c.0.1 c.1)
    (number_off_again 1 1440 m.length tail long (lit< tt))
    ∙ ap (λ o. o >>= λ (c : (Slot × List Slot) × Text). booking_with stamp room m.length c.0.0 c.0.1 c.1)
    (choices_again (most_alternatives v) m.wish m.alternatives m.title (most_small v) all.0 all.1 few)
    ∙ ap (λ b. only_if b (booking stamp room m)) (and_from (is_title m.title) (is_length_for m.length (choices_of m) && not (ltb greatest_alternatives (length m.alternatives))) f.title
    (and_from (is_length_for m.length (choices_of m)) (not (ltb greatest_alternatives (length m.alternatives))) fits (ap not (le-ltb greatest_alternatives (length m.alternatives) f.few))))

-- ---- lines of a word, a server and a number

pub behind_takes : (word text rest : Text) → behind_word word text ≡ Some rest → text ≡ word ++ 32 ∷ rest
unfolding behind_word
behind_takes word text rest e =
    let a = bind_some (cut 32 text) (λ first. only_if (bytes_eq first.0 word) first.1) rest e in
    let b = only_if_some (bytes_eq a.0.0 word) a.0.1 rest a.2 in
    cut_takes 32 text a.0.0 a.0.1 a.1 ∙ ap (λ (w : Text). w ++ 32 ∷ a.0.1) ((bytes_eq-Decides a.0.0 word).0 b.0) ∙ ap (λ (t : Text). word ++ 32 ∷ t) b.1

pub behind_again : (word rest : Text) → Plain word → behind_word word (word ++ 32 ∷ rest) ≡ Some rest
unfolding behind_word
behind_again word rest h =
    ap (λ o. o >>= λ (first : Text × Text). only_if (bytes_eq first.0 word) first.1) (word_again word rest h)
    ∙ ap (λ b. only_if b rest) ((bytes_eq-Decides word word).1 refl)

pub server_and_takes : (high : ℕ) (text : Text) (x : ℕ × ℕ) → server_and high text ≡ Some x → (is_server x.0 ≡ true) × (within 1 high x.1 ≡ true) × (text ≡ decimal x.0 ++ 32 ∷ decimal x.1)
unfolding server_and
server_and_takes high text x e =
    let a = bind_some (number_off 1 99 text) (λ server. number_from_to 1 high server.1 >>= λ n. Some (server.0, n)) x e in
    let b = bind_some (number_from_to 1 high a.0.1) (λ n. Some (a.0.0, n)) x a.2 in
    let ta = number_off_takes 1 99 text a.0 a.1 in
    let tb = number_takes 1 high a.0.1 b.0 b.1 in
    let made : ℕ × ℕ = (a.0.0, b.0) in
    subst (λ (y : ℕ × ℕ). (is_server y.0 ≡ true) × (within 1 high y.1 ≡ true) × (text ≡ decimal y.0 ++ 32 ∷ decimal y.1)) {x = made} (same_Some made x b.2)
    (ta.0, tb.0, ta.1 ∙ ap (λ (t : Text). decimal a.0.0 ++ 32 ∷ t) tb.1)

pub server_and_again : (high s n : ℕ) → is_server s ≡ true → within 1 high n ≡ true → high < 2 ^ 64 → server_and high (decimal s ++ 32 ∷ decimal n) ≡ Some (s, n)
unfolding server_and
server_and_again high s n server ok top =
    ap (λ o. o >>= λ (server : ℕ × Text). number_from_to 1 high server.1 >>= λ n. Some (server.0, n)) (number_off_again 1 99 s (decimal n) server (lit< tt))
    ∙ ap (λ o. o >>= λ n. Some (s, n)) (number_again 1 high n ok top)

-- ---- identities, cancels and commits

-- the text of an identity that ends a line
unfoldable pub target_rest : Id → Text
target_rest t = decimal t.server ++ 32 ∷ decimal t.n

id_takes : (text : Text) (t : Id) → parse_id text ≡ Some t → (is_id t ≡ true) × (text ≡ target_rest t)
unfolding parse_id target_rest
id_takes text t e =
    let a = bind_some (server_and 999_999_999 text) (λ parts. Some (record { server = parts.0; n = parts.1 })) t e in
    let p = server_and_takes 999_999_999 text a.0 a.1 in
    let made : Id = record { server = a.0.0; n = a.0.1 } in
    subst (λ (y : Id). (is_id y ≡ true) × (text ≡ decimal y.server ++ 32 ∷ decimal y.n)) {x = made} (same_Some made t a.2)
    (and_from (is_server a.0.0) (is_count a.0.1) p.0 p.1, p.2)

id_again : (t : Id) → is_id t ≡ true → parse_id (target_rest t) ≡ Some t
unfolding parse_id target_rest
id_again t ok =
    let p = and_parts (is_server t.server) (is_count t.n) ok in
    ap (λ o. o >>= λ (parts : ℕ × ℕ). Some (record { server = parts.0; n = parts.1 })) (server_and_again 999_999_999 t.server t.n p.0 p.1 (lit< tt))

pub cancel_line_is : (stamp : Stamp) (room : Text) (t : Id) → write_line (cancel stamp room t) ≡ 88 ∷ 32 ∷ front_rest stamp room (target_rest t)
unfolding front_rest target_rest
cancel_line_is stamp room t = refl

parts_take : (text : Text) (x : Stamp × Text × Id) → cancel_parts text ≡ Some x → (is_item Second (W (cancel x.0 x.1 x.2)) ≡ true) × (text ≡ front_rest x.0 x.1 (target_rest x.2))
unfolding cancel_parts
parts_take text x e =
    let f = bind_some (front_off text) (λ front. parse_id front.2 >>= λ target. Some (front.0, front.1, target)) x e in
    let t = bind_some (parse_id f.0.2) (λ target. Some (f.0.0, f.0.1, target)) x f.2 in
    let tf = front_off_takes text f.0 f.1 in
    let ti = id_takes f.0.2 t.0 t.1 in
    let made : Stamp × Text × Id = (f.0.0, f.0.1, t.0) in
    subst (λ (y : Stamp × Text × Id). (is_item Second (W (cancel y.0 y.1 y.2)) ≡ true) × (text ≡ front_rest y.0 y.1 (target_rest y.2))) {x = made} (same_Some made x t.2) (
      and_from (is_write (cancel f.0.0 f.0.1 t.0)) true (and_from (is_stamp f.0.0 && is_room_name f.0.1) (is_id t.0) (and_from (is_stamp f.0.0) (is_room_name f.0.1) tf.0 tf.1) ti.0) refl,
      tf.2 ∙ ap (front_rest f.0.0 f.0.1) ti.1,
    )

parts_again : (stamp : Stamp) (room : Text) (t : Id) → is_stamp stamp ≡ true → is_room_name room ≡ true → is_id t ≡ true → cancel_parts (front_rest stamp room (target_rest t)) ≡ Some (stamp, room, t)
unfolding cancel_parts
parts_again stamp room t ok named good =
    ap (λ o. o >>= λ (front : Stamp × Text × Text). parse_id front.2 >>= λ target. Some (front.0, front.1, target)) (front_off_again stamp room (target_rest t) ok named)
    ∙ ap (λ o. o >>= λ (target : Id). Some (stamp, room, target)) (id_again t good)

cancel_takes : (v : Version) (text : Text) (w : Write) → parse_cancel v text ≡ Some w → IsWriteOf 88 v text w
cancel_takes First text w e = absurd (let f : ◌≡◌ {A = Option Write} None (Some w) = e in cc)
cancel_takes Second text w e =
    let c = bind_some (cancel_parts text) (λ c. Some (cancel c.0 c.1 c.2)) w e in
    let t = parts_take text c.0 c.1 in
    let made : Write = cancel c.0.0 c.0.1 c.0.2 in
    subst (λ w. IsWriteOf 88 Second text w) {x = made} (same_Some made w c.2)
    (record { ok = t.0; is = ap (λ (t : Text). 88 ∷ 32 ∷ t) t.1 ∙ sym (cancel_line_is c.0.0 c.0.1 c.0.2) })

cancel_again : (v : Version) (stamp : Stamp) (room : Text) (t : Id) → is_item v (W (cancel stamp room t)) ≡ true → parse_cancel v (front_rest stamp room (target_rest t)) ≡ Some (cancel stamp room t)
cancel_again First stamp room t ok = absurd (true≢false (sym (and_parts (is_write (cancel stamp room t)) false ok).1))
cancel_again Second stamp room t ok =
    let p = write_parts (cancel stamp room t) (and_parts (is_write (cancel stamp room t)) true ok).0 in
    ap (λ o. o >>= λ (c : Stamp × Text × Id). Some (cancel c.0 c.1 c.2)) (parts_again stamp room t p.0 p.1 p.2)

commit_rest : ℕ → Id → Text
commit_rest q id = decimal q ++ 32 ∷ target_rest id

commit_takes : (v : Version) (text : Text) (x : Item) → commit_of text ≡ Some x → (is_item v x ≡ true) × (67 ∷ 32 ∷ text ≡ item_line x)
unfolding commit_of target_rest
commit_takes v text x e =
    let a = bind_some (number_off 1 999_999_999_999 text) (λ seq. parse_id seq.1 >>= λ id. Some (C seq.0 id)) x e in
    let b = bind_some (parse_id a.0.1) (λ id. Some (C a.0.0 id)) x a.2 in
    let ta = number_off_takes 1 999_999_999_999 text a.0 a.1 in
    let tb = id_takes a.0.1 b.0 b.1 in
    let made : Item = C a.0.0 b.0 in
    subst (λ (y : Item). (is_item v y ≡ true) × (67 ∷ 32 ∷ text ≡ item_line y)) {x = made} (same_Some made x b.2) (
      and_from (is_commit_number a.0.0) (is_id b.0) ta.0 tb.0,
      ap (λ (t : Text). 67 ∷ 32 ∷ t) (ta.1 ∙ ap (λ (t : Text). decimal a.0.0 ++ 32 ∷ t) tb.1),
    )

commit_again : (v : Version) (q : ℕ) (id : Id) → is_item v (C q id) ≡ true → commit_of (commit_rest q id) ≡ Some (C q id)
unfolding commit_of commit_rest
commit_again v q id ok =
    let a = and_parts (is_commit_number q) (is_id id) ok in
    ap (λ o. o >>= λ (seq : ℕ × Text). parse_id seq.1 >>= λ i. Some (C seq.0 i)) (number_off_again 1 999_999_999_999 q (target_rest id) a.0 (lit< tt))
    ∙ ap (λ o. o >>= λ (i : Id). Some (C q i)) (id_again id a.1)

-- ---- lines below the header

write_line_again : (v : Version) (stamp : Stamp) (room : Text) (a : Action) → is_item v (W (record { stamp = stamp; room = room; action = a })) ≡ true
    → parse_line v (write_line (record { stamp = stamp; room = room; action = a })) ≡ Some (ItemLine (W (record { stamp = stamp; room = room; action = a })))
unfolding worded_line
write_line_again v stamp room (Books m) ok =
    let rest : Text = front_rest stamp room (meeting_rest m) in
    ap (parse_line v) (booking_line_is stamp room m)
    ∙ ap (line_by v (87 ∷ 32 ∷ rest)) (word_again (codes "W") rest (lit≤ tt, tt))
    ∙ ap (λ o. o >>= λ (w : Write). Some (ItemLine (W w))) (booking_again v stamp room m ok)
write_line_again v stamp room (Cancels t) ok =
    let rest : Text = front_rest stamp room (target_rest t) in
    ap (parse_line v) (cancel_line_is stamp room t)
    ∙ ap (line_by v (88 ∷ 32 ∷ rest)) (word_again (codes "X") rest (lit≤ tt, tt))
    ∙ ap (λ o. o >>= λ (w : Write). Some (ItemLine (W w))) (cancel_again v stamp room t ok)

line_again : (v : Version) (x : Item) → is_item v x ≡ true → parse_line v (item_line x) ≡ Some (ItemLine x)
unfolding worded_line commit_rest target_rest
line_again v (W w) ok = write_line_again v w.stamp w.room w.action ok
line_again v (C q id) ok =
    ap (line_by v (item_line (C q id))) (word_again (codes "C") (commit_rest q id) (lit≤ tt, tt))
    ∙ ap (λ o. o >>= λ (c : Item). Some (ItemLine c)) (commit_again v q id ok)

worded_takes : (v : Version) (text word rest : Text) (x : BodyLine) → text ≡ word ++ 32 ∷ rest → worded_line v word rest ≡ Some x → IsLineOf v text (Some x)
unfolding worded_line
worded_takes v text word rest x is = go (bytes_eq word (codes "W")) refl (bytes_eq word (codes "X")) refl (bytes_eq word (codes "C")) refl
  where
    written : (letter : ℕ) (o : Option Write) → word ≡ letter ∷ [] → ((w : Write) → o ≡ Some w → IsWriteOf letter v rest w) → (o >>= λ w. Some (ItemLine (W w))) ≡ Some x → IsLineOf v text (Some x)
    written letter o same takes e =
        let w = bind_some o (λ w. Some (ItemLine (W w))) x e in
        let t = takes w.0 w.1 in
        subst (λ y. IsLineOf v text (Some y)) (same_Some (ItemLine (W w.0)) x w.2) (t.ok, is ∙ ap (λ (u : Text). u ++ 32 ∷ rest) same ∙ t.is)

    go : (a : Bool) → bytes_eq word (codes "W") ≡ a → (d : Bool) → bytes_eq word (codes "X") ≡ d → (b : Bool) → bytes_eq word (codes "C") ≡ b
        → cond a (parse_booking v rest >>= λ w. Some (ItemLine (W w))) (cond d (parse_cancel v rest >>= λ w. Some (ItemLine (W w))) (cond b (commit_of rest >>= λ c. Some (ItemLine c)) None)) ≡ Some x
        → IsLineOf v text (Some x)
    go true a d ed b eb e = written 87 (parse_booking v rest) ((bytes_eq-Decides word (codes "W")).0 a) (λ w. booking_takes v rest w) e
    go false a true ed b eb e = written 88 (parse_cancel v rest) ((bytes_eq-Decides word (codes "X")).0 ed) (λ w. cancel_takes v rest w) e
    go false a false ed true eb e =
        let c = bind_some (commit_of rest) (λ c. Some (ItemLine c)) x e in
        let t = commit_takes v rest c.0 c.1 in
        subst (λ y. IsLineOf v text (Some y)) (same_Some (ItemLine c.0) x c.2)
        (t.0, is ∙ ap (λ (u : Text). u ++ 32 ∷ rest) ((bytes_eq-Decides word (codes "C")).0 eb) ∙ t.1)
    go false a false ed false eb e = absurd (let f : ◌≡◌ {A = Option BodyLine} None (Some x) = e in cc)

bare_takes : (v : Version) (text : Text) (x : BodyLine) → bare_line text ≡ Some x → IsLineOf v text (Some x)
unfolding bare_line
bare_takes v text x = go (bytes_eq text (codes "E")) refl (bytes_eq text (codes "M")) refl
  where
    go : (a : Bool) → bytes_eq text (codes "E") ≡ a → (b : Bool) → bytes_eq text (codes "M") ≡ b
        → cond a (Some (LastLine Complete)) (cond b (Some (LastLine More)) None) ≡ Some x → IsLineOf v text (Some x)
    go true a b eb e = subst (λ y. IsLineOf v text (Some y)) (same_Some (LastLine Complete) x e) (ap (λ (t : Text). t ∷ []) ((bytes_eq-Decides text (codes "E")).0 a))
    go false a true eb e = subst (λ y. IsLineOf v text (Some y)) (same_Some (LastLine More) x e) (ap (λ (t : Text). t ∷ []) ((bytes_eq-Decides text (codes "M")).0 eb))
    go false a false eb e = absurd (let f : ◌≡◌ {A = Option BodyLine} None (Some x) = e in cc)

line_takes : (v : Version) (text : Text) (x : BodyLine) → parse_line v text ≡ Some x → IsLineOf v text (Some x)
line_takes v text x = go (cut 32 text) refl
  where
    go : (o : Option (Text × Text)) → cut 32 text ≡ o → line_by v text o ≡ Some x → IsLineOf v text (Some x)
    go (Some p) c e = worded_takes v text p.0 p.1 x (cut_takes 32 text p.0 p.1 c) e
    go None c e = bare_takes v text x e

only_line : (t u : Text) → t ∷ [] ≡ u ∷ [] → t ≡ u
only_line t u e = cc

no_line : (t : Text) → ◌≡◌ {A = List Text} (t ∷ []) [] → ⊥
no_line t e = cc

-- what both read of a line of a kind
same_read : (v : Version) (read : Text → Option BodyLine) → ((x : Item) → is_item v x ≡ true → read (item_line x) ≡ Some (ItemLine x))
    → read (codes "E") ≡ Some (LastLine Complete) → read (codes "M") ≡ Some (LastLine More) → (text : Text) (x : BodyLine) → IsLineOf v text (Some x) → read text ≡ Some x
same_read v read items e m text (ItemLine x) t = ap read t.1 ∙ items x t.0
same_read v read items e m text (LastLine Complete) t = ap read (only_line text (codes "E") t) ∙ e
same_read v read items e m text (LastLine More) t = ap read (only_line text (codes "M") t) ∙ m
same_read v read items e m text (LastLine Cut) t = absurd (no_line text t)

-- a line below the header is read just as the definitions read it
pub line_is : (v : Version) (text : Text) → parse_line v text ≡ read_body_line v text
unfolding bare_line
line_is v text =
    same_reading (parse_line v text) (read_body_line v text)
    (λ x e. same_read v (read_body_line v) (read-item_line v) refl refl text x (line_takes v text x e))
    (λ x e. same_read v (parse_line v) (line_again v) refl refl text x (subst (λ o. IsLineOf v text o) e (body_line_of v text)))

-- ---- what `Write::new` answers

kept : {T : Type 0} (b d : Bool) (v x : T) (e f : Refusal) → cond (not b) (Err e) (cond d (Err f) (Ok v)) ≡ Ok x → ((b && not d) ≡ true) × (v ≡ x)
kept true false v x e f h = (refl, cc)
kept true true v x e f h = absurd (cc)
kept false d v x e f h = absurd (cc)

refused : {T : Type 0} (b d : Bool) (v : T) (e f g : Refusal) → cond (not b) (Err e) (cond d (Err f) (Ok v)) ≡ Err g → (b && not d) ≡ false
refused true false v e f g h = absurd (cc)
refused true true v e f g h = refl
refused false d v e f g h = refl

pub made_booking : (stamp : Stamp) (room title : Text) (m : ℕ) (wish : Slot) (others : List Slot) (r t : Text) (w : Write) → r ≡ room → t ≡ title
    → is_title title ≡ true → limited m wish others (booking stamp r (record { title = t; length = m; wish = wish; alternatives = others })) ≡ Ok w
    → booking_with stamp room m wish others title ≡ Some w
unfolding booking_with
made_booking stamp room title m wish others r t w er et ht h =
    let made : Write = booking stamp r (record { title = t; length = m; wish = wish; alternatives = others }) in
    let asked : Write = booking stamp room (record { title = title; length = m; wish = wish; alternatives = others }) in
    let same : asked ≡ made = (λ i. record { stamp = stamp; room = sym er i; action = Books (record { title = sym et i; length = m; wish = wish; alternatives = others }) }) in
    let k = kept (is_length_for m (wish ∷ others)) (ltb greatest_alternatives (length others)) made w BadLength TooManyAlternatives h in
    ap (λ b. only_if b asked) (and_from (is_title title) (is_length_for m (wish ∷ others) && not (ltb greatest_alternatives (length others))) ht k.0) ∙ ap (λ (v : Write). Some v) (same ∙ k.1)

pub no_booking : (stamp : Stamp) (room title : Text) (m : ℕ) (wish : Slot) (others : List Slot) (v : Write) (g : Refusal)
    → limited m wish others v ≡ Err g → booking_with stamp room m wish others title ≡ None
unfolding booking_with
no_booking stamp room title m wish others v g h =
    let k = refused (is_length_for m (wish ∷ others)) (ltb greatest_alternatives (length others)) v BadLength TooManyAlternatives g h in
    let made : Write = booking stamp room (record { title = title; length = m; wish = wish; alternatives = others }) in
    ap (λ b. only_if (is_title title && b) made) k ∙ none (is_title title) made
  where
    none : (a : Bool) (x : Write) → only_if (a && false) x ≡ None
    none true x = refl
    none false x = refl
