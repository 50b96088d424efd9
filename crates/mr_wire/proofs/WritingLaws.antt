-- The pieces that are written make a write's line.
use Rattle.std.proofs.Common.{◌≡◌, refl, sym, ap, ◌∙◌, List, [], ◌∷◌, ◌++◌, length, append_assoc}
use Rattle.std.specs.Prelude.{flat_map, codes}
use Rattle.std.specs.Fmt.{decimal}
use Rattle.mr_model.specs.Texts.{Text, words, line}
use Rattle.mr_model.specs.Calendar.{date_text, time_text}
use Rattle.mr_model.specs.Slots.{Slot, slot_words}
use Rattle.mr_model.specs.Writes.{Stamp, Action, Books, Cancels, Write}
use Rattle.mr_model.specs.Exchange.{write_line}
use Rattle.mr_model.proofs.LinesReadBack.{words-cons}
use Rattle.mr_wire.specs.Writing.{slot_front, slots_front, front_text, choices_front, meeting_text, target_text, action_word, action_text, write_text}
use Rattle.mr_wire.proofs.FieldLaws.{front_rest}
use Rattle.mr_wire.proofs.LineLaws.{booking, cancel, choices_rest, meeting_rest, booking_line_is, target_rest, cancel_line_is}

-- a word and a space in front
behind : (a x y z : Text) → x ++ z ≡ y → (a ++ 32 ∷ x) ++ z ≡ a ++ 32 ∷ y
behind a x y z e = append_assoc a (32 ∷ x) z ∙ ap (λ (t : Text). a ++ 32 ∷ t) e

slot_then : (s : Slot) (t : Text) → slot_front s ++ t ≡ date_text s.day ++ 32 ∷ (time_text s.start ++ 32 ∷ t)
unfolding slot_front
slot_then s t = behind (date_text s.day) (time_text s.start ++ 32 ∷ []) (time_text s.start ++ 32 ∷ t) t (behind (time_text s.start) [] t t refl)

slots_then : (ss : List Slot) (t : Text) → words (flat_map slot_words ss ++ t ∷ []) ≡ slots_front ss ++ t
slots_then [] t = refl
slots_then (s ∷ ss) t =
    ap (λ (u : Text). date_text s.day ++ 32 ∷ u) (words-cons (time_text s.start) (flat_map slot_words ss) t ∙ ap (λ (u : Text). time_text s.start ++ 32 ∷ u) (slots_then ss t))
    ∙ sym (append_assoc (slot_front s) (slots_front ss) t ∙ slot_then s (slots_front ss ++ t))

choices_then : (wish : Slot) (others : List Slot) (title tail : Text) → choices_rest wish others title ++ tail ≡ choices_front wish others ++ (title ++ tail)
unfolding choices_rest choices_front
choices_then wish others title tail =
    let count : Text = decimal (length others) in
    let slots : Text = slots_front others in
    let listed : Text = words (flat_map slot_words others ++ title ∷ []) in
    let read : listed ++ tail ≡ slots ++ (title ++ tail) = ap (λ (u : Text). u ++ tail) (slots_then others title) ∙ append_assoc slots title tail in
    behind (date_text wish.day) (time_text wish.start ++ 32 ∷ (count ++ 32 ∷ listed)) (time_text wish.start ++ 32 ∷ (count ++ 32 ∷ (slots ++ (title ++ tail)))) tail
    (behind (time_text wish.start) (count ++ 32 ∷ listed) (count ++ 32 ∷ (slots ++ (title ++ tail))) tail (behind count listed (slots ++ (title ++ tail)) tail read))
    ∙ sym (append_assoc (slot_front wish) (count ++ 32 ∷ slots) (title ++ tail)
    ∙ slot_then wish ((count ++ 32 ∷ slots) ++ (title ++ tail))
    ∙ ap (λ (u : Text). date_text wish.day ++ 32 ∷ (time_text wish.start ++ 32 ∷ u)) (behind count slots (slots ++ (title ++ tail)) (title ++ tail) refl))

-- the word, the stamp and the room of a write, and what stands behind them
fronted : Text → Stamp → Text → Text → Text
fronted word stamp room t = word ++ 32 ∷ (decimal stamp.server ++ 32 ∷ (decimal stamp.n ++ 32 ∷ (decimal stamp.time ++ 32 ∷ (room ++ t))))

front_then : (word : Text) (stamp : Stamp) (room x y t : Text) → x ++ t ≡ y → fronted word stamp room x ++ t ≡ fronted word stamp room y
unfolding fronted
front_then word stamp room x y t e =
    let e3 : (room ++ x) ++ t ≡ room ++ y = append_assoc room x t ∙ ap (λ (u : Text). room ++ u) e in
    let e2 = behind (decimal stamp.time) (room ++ x) (room ++ y) t e3 in
    let e1 = behind (decimal stamp.n) (decimal stamp.time ++ 32 ∷ (room ++ x)) (decimal stamp.time ++ 32 ∷ (room ++ y)) t e2 in
    let e0 = behind (decimal stamp.server) (decimal stamp.n ++ 32 ∷ (decimal stamp.time ++ 32 ∷ (room ++ x))) (decimal stamp.n ++ 32 ∷ (decimal stamp.time ++ 32 ∷ (room ++ y))) t e1 in
    behind word (decimal stamp.server ++ 32 ∷ (decimal stamp.n ++ 32 ∷ (decimal stamp.time ++ 32 ∷ (room ++ x))))
    (decimal stamp.server ++ 32 ∷ (decimal stamp.n ++ 32 ∷ (decimal stamp.time ++ 32 ∷ (room ++ y)))) t e0

front_is : (word : Text) (stamp : Stamp) (room t : Text) → front_text word stamp room ++ t ≡ fronted word stamp room t
unfolding front_text fronted
front_is word stamp room t =
    let e2 = behind (decimal stamp.time) room (room ++ t) t refl in
    let e1 = behind (decimal stamp.n) (decimal stamp.time ++ 32 ∷ room) (decimal stamp.time ++ 32 ∷ (room ++ t)) t e2 in
    let e0 = behind (decimal stamp.server) (decimal stamp.n ++ 32 ∷ (decimal stamp.time ++ 32 ∷ room)) (decimal stamp.n ++ 32 ∷ (decimal stamp.time ++ 32 ∷ (room ++ t))) t e1 in
    behind word (decimal stamp.server ++ 32 ∷ (decimal stamp.n ++ 32 ∷ (decimal stamp.time ++ 32 ∷ room)))
    (decimal stamp.server ++ 32 ∷ (decimal stamp.n ++ 32 ∷ (decimal stamp.time ++ 32 ∷ (room ++ t)))) t e0

-- a write's line of its word, its stamp, its room and what stands behind these
line_text_is : (word : Text) (stamp : Stamp) (room rest end text : Text) → text ≡ fronted word stamp room (32 ∷ rest) → rest ++ 10 ∷ [] ≡ end → front_text word stamp room ++ 32 ∷ end ≡ line text
line_text_is word stamp room rest end text is e =
    front_is word stamp room (32 ∷ end)
    ∙ sym (ap (λ (u : Text). u ++ 10 ∷ []) is ∙ front_then word stamp room (32 ∷ rest) (32 ∷ end) (10 ∷ []) (ap (λ (u : Text). 32 ∷ u) e))

action_text_is : (stamp : Stamp) (room : Text) (a : Action) → front_text (action_word a) stamp room ++ action_text a ≡ line (write_line (record { stamp = stamp; room = room; action = a }))
unfolding meeting_text target_text front_rest meeting_rest target_rest fronted
action_text_is stamp room (Books m) =
    let rest : Text = choices_rest m.wish m.alternatives m.title in
    let end : Text = choices_front m.wish m.alternatives ++ (m.title ++ 10 ∷ []) in
    line_text_is (codes "W") stamp room (decimal m.length ++ 32 ∷ rest) (decimal m.length ++ 32 ∷ end) (write_line (booking stamp room m)) (booking_line_is stamp room m)
    (behind (decimal m.length) rest end (10 ∷ []) (choices_then m.wish m.alternatives m.title (10 ∷ [])))
action_text_is stamp room (Cancels t) =
    line_text_is (codes "X") stamp room (decimal t.server ++ 32 ∷ decimal t.n) (decimal t.server ++ 32 ∷ (decimal t.n ++ 10 ∷ [])) (write_line (cancel stamp room t)) (cancel_line_is stamp room t)
    (behind (decimal t.server) (decimal t.n) (decimal t.n ++ 10 ∷ []) (10 ∷ []) refl)

pub write_text_is : (w : Write) → write_text w ≡ line (write_line w)
unfolding write_text
write_text_is w = action_text_is w.stamp w.room w.action
