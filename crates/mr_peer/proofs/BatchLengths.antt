-- How long the lines of a batch are, and its text.
use Rattle.std.proofs.Common.{◌≡◌, refl, sym, ap, ◌∙◌, subst, ℕ, ◌+◌, ◌*◌, ◌^◌, ◌<◌, ◌≤◌, Bool, true, ◌&&◌, leb, List, [], ◌∷◌, ◌++◌, length}
use Rattle.std.proofs.Common.{map, take, flat_map, codes, decimal, arith, leb-true, Option, Some, None, length-append, length-take}
use Rattle.std.proofs.lemmas.Bool.{and_parts}
use Rattle.std.proofs.lemmas.Fmt.{length-decimal-le}
use Rattle.std.specs.Fmt.{digits}
use Rattle.std.specs.List.{list_all}
use Rattle.mr_model.specs.Texts.{Text, within, words, line, lines_text}
use Rattle.mr_model.specs.Slots.{Slot, slot_words}
use Rattle.mr_model.specs.Writes.{Id, Stamp, Meeting, Action, Books, Cancels, Write, is_stamp, is_room_name, is_action, is_meeting, is_title, is_write, is_id, is_server, is_count, is_commit_number}
use Rattle.mr_model.specs.Http.{head_line, kind, lines_over_http, reason, response_of, response_text}
use Rattle.mr_model.specs.Positions.{Position, read_position}
use Rattle.mr_model.specs.Replica.{Replica, IsReplica}
use Rattle.mr_model.specs.Replies.{Reply, BatchIs, Refused}
use Rattle.mr_model.specs.Refusals.{BadPosition}
use Rattle.mr_model.specs.Step.{BatchFor, step, batch_of, items_for, batch_reply, reply_to_position}
use Rattle.mr_model.proofs.BatchItems.{batch_given, given_within}
use Rattle.mr_peer.specs.PeerRequests.{is_host, push_request}
use Rattle.mr_model.specs.Exchange.{Version, First, Second, Item, W, C, Ending, Complete, More, Cut, Header, Batch, is_item, is_header, is_in_version, is_batch_of}
use Rattle.mr_model.specs.Exchange.{is_batch, batch_text, version_word, header_line, item_line, ending_lines, lines_under, write_words_of, meeting_words, target_words}

-- the bytes of words, each with the one behind it
abbrev span : List Text → ℕ
span [] = 0
span (w ∷ ws) = length w + 1 + span ws

span_append : (xs ys : List Text) → span (xs ++ ys) ≡ span xs + span ys
span_append [] ys = omega arith
span_append (x ∷ xs) ys = let h = span_append xs ys in omega (arith, h)

-- a line with its end has these
line_spans : (w : Text) (ws : List Text) → length (words (w ∷ ws)) + 1 ≡ span (w ∷ ws)
line_spans w [] = omega arith
line_spans w (x ∷ ws) = let h = line_spans x ws in let a = length-append w (32 ∷ words (x ∷ ws)) in omega (arith, h, a)

slots_span : (slots : List Slot) → span (flat_map slot_words slots) ≡ 17 * length slots
slots_span [] = refl
slots_span (s ∷ slots) = let h = slots_span slots in omega (arith, h)

-- ---- the words of a line

most : (high n : ℕ) → within 1 high n ≡ true → n ≤ high
most high n is = leb-true n high (and_parts (leb 1 n) (leb n high) is).1

server_short : (n : ℕ) → is_server n ≡ true → length (decimal n) ≤ 2
server_short n is = let m = most 99 n is in length-decimal-le 2 n (omega arith) (omega (arith, m)) (omega (arith, m))

count_short : (n : ℕ) → is_count n ≡ true → length (decimal n) ≤ 9
count_short n is = let m = most 999_999_999 n is in length-decimal-le 9 n (omega arith) (omega (arith, m)) (omega (arith, m))

time_short : (n : ℕ) → within 1 999_999_999_999 n ≡ true → length (decimal n) ≤ 12
time_short n is = let m = most 999_999_999_999 n is in length-decimal-le 12 n (omega arith) (omega (arith, m)) (omega (arith, m))

-- ---- lines

booking_short : (stamp : Stamp) (room : Text) (m : Meeting) → is_stamp stamp ≡ true → is_room_name room ≡ true → is_meeting m ≡ true
    → span (write_words_of stamp room (Books m)) ≤ 403
booking_short stamp room m is_s is_r is_m =
    let (sn, t) = and_parts _ _ is_s in
    let (s, n) = and_parts _ _ sn in
    let r = most 16 (length room) (and_parts _ _ is_r).0 in
    let (tlk, fits) = and_parts _ _ is_m in
    let (tl, k) = and_parts _ _ tlk in
    let (title, l) = and_parts _ _ tl in
    let titled = most 60 (length m.title) (and_parts _ _ (and_parts _ _ (and_parts _ _ title).0).0).0 in
    let few : length m.alternatives ≤ 16 = leb-true (length m.alternatives) 16 k in
    let long = most 1440 m.length l in
    let a = server_short stamp.server s in
    let b = count_short stamp.n n in
    let c = time_short stamp.time t in
    let d = length-decimal-le 4 m.length (omega arith) (omega (arith, long)) (omega (arith, long)) in
    let e = length-decimal-le 2 (length m.alternatives) (omega arith) (omega (arith, few)) (omega (arith, few)) in
    let f = slots_span m.alternatives in
    let g = span_append (flat_map slot_words m.alternatives) (m.title ∷ []) in
    omega (arith, a, b, c, d, e, f, g, r, titled, few)

cancel_short : (stamp : Stamp) (room : Text) (target : Id) → is_stamp stamp ≡ true → is_room_name room ≡ true → is_id target ≡ true
    → span (write_words_of stamp room (Cancels target)) ≤ 403
cancel_short stamp room target is_s is_r is_t =
    let (sn, t) = and_parts _ _ is_s in
    let (s, n) = and_parts _ _ sn in
    let r = most 16 (length room) (and_parts _ _ is_r).0 in
    let (of_server, of_count) = and_parts _ _ is_t in
    let a = server_short stamp.server s in
    let b = count_short stamp.n n in
    let c = time_short stamp.time t in
    let d = server_short target.server of_server in
    let e = count_short target.n of_count in
    omega (arith, a, b, c, d, e, r)

-- a write's, with its end
write_short : (stamp : Stamp) (room : Text) (action : Action) → is_stamp stamp ≡ true → is_room_name room ≡ true → is_action action ≡ true
    → length (words (write_words_of stamp room action)) + 1 ≤ 403
write_short stamp room (Books m) is_s is_r is =
    let h = line_spans (codes "W") (decimal stamp.server ∷ decimal stamp.n ∷ decimal stamp.time ∷ room ∷ meeting_words m) in
    let b = booking_short stamp room m is_s is_r is in
    omega (arith, h, b)
write_short stamp room (Cancels t) is_s is_r is =
    let h = line_spans (codes "X") (decimal stamp.server ∷ decimal stamp.n ∷ decimal stamp.time ∷ room ∷ target_words t) in
    let b = cancel_short stamp room t is_s is_r is in
    omega (arith, h, b)

item_short : (v : Version) (x : Item) → is_item v x ≡ true → length (item_line x) + 1 ≤ 403
item_short v (W w) is =
    let (sr, action) = and_parts _ _ (and_parts (is_write w) (is_in_version v w) is).0 in
    let (stamp, room) = and_parts _ _ sr in
    write_short w.stamp w.room w.action stamp room action
item_short v (C seq id) is =
    let (numbered, named) = and_parts _ _ is in
    let (of_server, of_count) = and_parts _ _ named in
    let a = time_short seq numbered in
    let b = server_short id.server of_server in
    let c = count_short id.n of_count in
    let h = line_spans (codes "C") (decimal seq ∷ decimal id.server ∷ decimal id.n ∷ []) in
    omega (arith, a, b, c, h)

heading_short : (v : Version) (h : Header) → is_header h ≡ true → length (header_line v h) + 1 ≤ 10
heading_short v h is =
    let (from, primary) = and_parts _ _ is in
    let a = server_short h.from from in
    let b = server_short h.primary primary in
    let l = line_spans (version_word v) (decimal h.from ∷ decimal h.primary ∷ []) in
    let w = word v in
    omega (arith, a, b, l, w)
  where
    word : (v : Version) → length (version_word v) ≡ 3
    word First = refl
    word Second = refl

-- ---- texts

ending_short : (e : Ending) → length (lines_text (ending_lines e)) ≤ 2
ending_short Complete = omega arith
ending_short More = omega arith
ending_short Cut = omega arith

first_line : (l : Text) (ls : List Text) → length (lines_text (l ∷ ls)) ≡ length l + 1 + length (lines_text ls)
first_line l ls = let a = length-append (l ++ 10 ∷ []) (lines_text ls) in let b = length-append l (10 ∷ []) in omega (arith, a, b)

body_short : (v : Version) (xs : List Item) (e : Ending) → list_all (is_item v) xs ≡ true
    → length (lines_text (map item_line xs ++ ending_lines e)) ≤ 403 * length xs + 2
body_short v [] e is = let h = ending_short e in omega (arith, h)
body_short v (x ∷ xs) e is =
    let (first, more) = and_parts (is_item v x) (list_all (is_item v) xs) is in
    let a = first_line (item_line x) (map item_line xs ++ ending_lines e) in
    let b = item_short v x first in
    let c = body_short v xs e more in
    omega (arith, a, b, c)

pub batch_short : (b : Batch) → is_batch b ≡ true → length (batch_text b) ≤ 403 * length b.items + 12
batch_short b is = go b.version b.header b.items b.ending is
  where
    go : (v : Version) (h : Option Header) (xs : List Item) (e : Ending) → is_batch_of v h xs e ≡ true
        → length (lines_text (lines_under v h xs e)) ≤ 403 * length xs + 12
    go v None xs e is = omega arith
    go v (Some h) xs e is =
        let (head, all) = and_parts (is_header h) (list_all (is_item v) xs) is in
        let a = first_line (header_line v h) (map item_line xs ++ ending_lines e) in
        let b = heading_short v h head in
        let c = body_short v xs e all in
        omega (arith, a, b, c)

-- ---- batches that are given

few_lines : (n : ℕ) (xs : List Item) → length (take n xs) ≤ n
few_lines n xs = let a = length-take n xs in omega (arith, a)

-- over HTTP
pub given_short : (a : Replica) (position : Text) (b : Batch) → IsReplica a → (step a (BatchFor position lines_over_http)).reply ≡ BatchIs b
    → length (batch_text b) ≤ 25_804
given_short a position b sound is = go (read_position position) is
  where
    go : (p : Option Position) → reply_to_position a p lines_over_http ≡ BatchIs b → length (batch_text b) ≤ 25_804
    go None e = absurd (let z : Refused BadPosition ≡ BatchIs b = e in cc)
    go (Some p) e =
        let same = (batch_given a p lines_over_http b e).0 in
        let long = batch_short b (given_within a p lines_over_http b sound e) in
        let few : length b.items ≤ 64 = subst (λ (x : Batch). length x.items ≤ 64) (sym same) (few_lines 64 (items_for a p)) in
        omega (arith, long, few)

-- ---- what is written on a line with such a batch

-- the last lines of a head
abbrev last_lines : Text
last_lines = head_line (codes "Connection: close") ++ (head_line [] ++ [])

-- the number of a body's bytes, the last lines and the body
numbered_short : (body : Text) → length body ≤ 25_804 → length (((decimal (length body) ++ 13 ∷ 10 ∷ []) ++ last_lines) ++ body) ≤ 25_832
numbered_short body short =
    let d = length-decimal-le 5 (length body) (omega arith) (omega (arith, short)) (omega (arith, short)) in
    let a = length-append ((decimal (length body) ++ 13 ∷ 10 ∷ []) ++ last_lines) body in
    let b = length-append (decimal (length body) ++ 13 ∷ 10 ∷ []) last_lines in
    let c = length-append (decimal (length body)) (13 ∷ 10 ∷ []) in
    omega (arith, short, d, a, b, c)

-- the response
pub told_short : (b : Batch) → length (batch_text b) ≤ 25_804 → length (response_text (response_of (BatchIs b))) ≤ 26_200
unfolding digits
told_short b short = let n = numbered_short (batch_text b) short in omega (arith, n)

-- the request
pub sent_short : (host : Text) (b : Batch) → is_host host ≡ true → length (batch_text b) ≤ 25_804 → length (push_request host (batch_text b)) ≤ 26_200
sent_short host b is short =
    let body = batch_text b in
    let of_host = most 300 (length host) (and_parts (within 1 300 (length host)) (list_all (within 0x21 0x7E) host) is).0 in
    let d = length-decimal-le 5 (length body) (omega arith) (omega (arith, short)) (omega (arith, short)) in
    let numbered = codes "Content-Length: " ++ decimal (length body) ++ 13 ∷ 10 ∷ [] ++ last_lines in
    let a = length-append ((host ++ 13 ∷ 10 ∷ []) ++ numbered) body in
    let b = length-append (host ++ 13 ∷ 10 ∷ []) numbered in
    let c = length-append host (13 ∷ 10 ∷ []) in
    let e = length-append (decimal (length body) ++ 13 ∷ 10 ∷ []) last_lines in
    let f = length-append (decimal (length body)) (13 ∷ 10 ∷ []) in
    omega (arith, short, of_host, d, a, b, c, e, f)
