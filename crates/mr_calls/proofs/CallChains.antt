-- Commands that were asked of a database in turn, as calls of it, and as happenings.
use Rattle.std.proofs.Common.{◌≡◌, refl, sym, ap, subst, ℕ, zero, suc, List, [], ◌∷◌, ◌++◌, Option, Some, None}
use Rattle.mr_model.proofs.UniqueReplay.{some_inj}
use Rattle.std.specs.List.{slice_get, slice_set}
use Rattle.mr_model.specs.Texts.{Text}
use Rattle.mr_model.specs.Exchange.{batch_text}
use Rattle.mr_model.specs.Replies.{Reply, BatchIs}
use Rattle.mr_model.specs.Step.{Command, Receive, BatchFor}
use Rattle.mr_model.specs.World.{batch_numbered}
use Rattle.mr_store.specs.declared.keeper.Keeper.{Ghosts}
use Rattle.mr_net.specs.AskedInTurn.{InTurn}
use Rattle.mr_offices.specs.Standing.{Sight}
use Rattle.mr_offices.specs.Happenings.{AreHappenings, nothing, called, IsAsked, act_of, offices_after, office_after, texts_after, texts_with}
use Rattle.mr_branches.specs.Sights.{sight_of}
use Rattle.mr_branches.proofs.PullRuns.{get_set}
use Rattle.mr_branches.proofs.Served.{served_is_called}
use Rattle.mr_calls.specs.Calls.{AreAsked, AreCalls, CallsHappen, acts_of, doubt_after, heard_of, offices_behind, texts_behind}
use Rattle.mr_calls.specs.CommandCalls.{StopsAtFailure}

-- ---- commands in turn

-- a keeper that is clean behind some commands was so before them
clean_before : {K : Type 0} (k : Ghosts K) (old new : K) (calls : List (Command × Reply)) → InTurn k old calls new → k.is_clean new → k.is_clean old
clean_before k old new [] same clean = subst (λ x. k.is_clean x) same clean
clean_before k old new (c ∷ calls) (m, served, known, rest) clean = served.clean (clean_before k m new calls rest clean)

-- they are calls
pub in_turn_calls : {K : Type 0} (k : Ghosts K) (old new : K) (calls : List (Command × Reply)) → InTurn k old calls new → k.is_clean new → AreCalls (sight_of k) old calls new
in_turn_calls k old new [] same clean = same
in_turn_calls k old new (c ∷ calls) (m, served, known, rest) clean =
    (m, served_is_called k old m c.0 c.1 served (clean_before k m new calls rest clean), in_turn_calls k m new calls rest clean)

-- and stop behind 24 and 25
pub in_turn_stops : {K : Type 0} (k : Ghosts K) (old new : K) (calls : List (Command × Reply)) → InTurn k old calls new → StopsAtFailure calls
in_turn_stops k old new [] same = tt
in_turn_stops k old new (c ∷ calls) (m, served, known, rest) = (known, in_turn_stops k m new calls rest)

-- ---- happenings

-- an element stays where it is when others are put behind
get_more : {A : Type 0} (xs ys : List A) (n : ℕ) (x : A) → slice_get xs n ≡ Some x → slice_get (xs ++ ys) n ≡ Some x
get_more {A} [] ys n x e = absurd (let z : ◌≡◌ {A = Option A} None (Some x) = e in cc)
get_more (y ∷ xs) ys zero x e = e
get_more (y ∷ xs) ys (suc n) x e = get_more xs ys n x e

-- and so do numbered texts
numbered_more : (texts more : List Text) (n : ℕ) (t : Text) → batch_numbered texts n ≡ Some t → batch_numbered (texts ++ more) n ≡ Some t
numbered_more texts more zero t e = e
numbered_more texts more (suc n) t e = get_more texts more n t e

-- when a batch is given
there_with : (texts : List Text) (reply : Reply) (n : ℕ) (t : Text) → batch_numbered texts n ≡ Some t → batch_numbered (texts_with texts reply) n ≡ Some t
there_with texts (BatchIs b) n t e = numbered_more texts (batch_text b ∷ []) n t e
there_with texts _ n t e = e

-- and behind any command
there_after : (texts : List Text) (c : Command) (reply : Reply) (n : ℕ) (t : Text) → batch_numbered texts n ≡ Some t → batch_numbered (texts_after texts c reply) n ≡ Some t
there_after texts (BatchFor position max_lines) reply n t e = there_with texts reply n t e
there_after texts _ reply n t e = e

-- what was received is still a prefix of a text that was given
abbrev asked_after : (texts : List Text) (c : Command) (reply : Reply) (d : Command) → IsAsked texts d → IsAsked (texts_after texts c reply) d
asked_after texts c reply (Receive bytes) from =
    record {
      number = from.number;
      text = from.text;
      count = from.count;
      is_there = there_after texts c reply from.number from.text from.is_there;
      is_front = from.is_front;
    }
asked_after texts c reply (BatchFor position max_lines) from = from
asked_after texts c reply _ from = from

-- of all
abbrev all_asked_after : (texts : List Text) (c : Command) (reply : Reply) (calls : List (Command × Reply)) → AreAsked texts calls → AreAsked (texts_after texts c reply) calls
all_asked_after texts c reply [] from = tt
all_asked_after texts c reply (x ∷ calls) from = (asked_after texts c reply x.0 from.0, all_asked_after texts c reply calls from.1)

-- and the same act
act_same : (texts : List Text) (c : Command) (reply : Reply) (server : ℕ) (d : Command) (from : IsAsked texts d)
    → act_of (texts_after texts c reply) server d (asked_after texts c reply d from) ≡ act_of texts server d from
act_same texts c reply server (Receive bytes) from = refl
act_same texts c reply server (BatchFor position max_lines) from = refl
act_same texts c reply server _ from = refl

-- of all
acts_same : (texts : List Text) (c : Command) (reply : Reply) (server : ℕ) (calls : List (Command × Reply)) (from : AreAsked texts calls)
    → acts_of (texts_after texts c reply) server calls (all_asked_after texts c reply calls from) ≡ acts_of texts server calls from
acts_same texts c reply server [] from = refl
acts_same texts c reply server (x ∷ calls) from = λ i. act_same texts c reply server x.0 from.0 i ∷ acts_same texts c reply server calls from.1 i

-- an element that is put where it is
set_same : {A : Type 0} (xs : List A) (n : ℕ) (x : A) → slice_get xs n ≡ Some x → slice_set xs n x ≡ xs
set_same {A} [] n x e = absurd (let z : ◌≡◌ {A = Option A} None (Some x) = e in cc)
set_same (y ∷ xs) zero x e = ap (λ z. z ∷ xs) (sym (some_inj y x e))
set_same (y ∷ xs) (suc n) x e = ap (λ zs. y ∷ zs) (set_same xs n x e)

-- the last one that is put in a place stays
set_twice : {A : Type 0} (xs : List A) (n : ℕ) (x y : A) → slice_set (slice_set xs n x) n y ≡ slice_set xs n y
set_twice [] n x y = refl
set_twice (z ∷ xs) zero x y = refl
set_twice (z ∷ xs) (suc n) x y = ap (λ zs. z ∷ zs) (set_twice xs n x y)

-- calls of the office in a place are happenings
pub calls_happen : {K : Type 0} (sight : Sight K) → CallsHappen sight
calls_happen sight v place o [] new at asked same =
    subst (λ x. AreHappenings sight v [] [] (record { offices = slice_set v.offices place x; texts = v.texts }))
    (λ i. record { server = o.server; keeper = sym same i; pending = o.pending })
    (subst (λ x. AreHappenings sight v [] [] (record { offices = x; texts = v.texts })) (sym (set_same v.offices place o at)) nothing)
calls_happen sight v place o (c ∷ cs) new at asked (m, call, rest) =
    let one = office_after o m c.0 c.1 in
    let later = offices_after v place o m c.0 c.1 in
    let happened = calls_happen sight later place one cs new (get_set v.offices place one o at) (all_asked_after v.texts c.0 c.1 cs asked.1) rest in
    called place o m c.0 c.1 at asked.0 call
    (subst (λ acts. AreHappenings sight later acts (heard_of later.texts cs) (offices_behind v place o (c ∷ cs) new)) (acts_same v.texts c.0 c.1 o.server cs asked.1)
    (subst (λ x. AreHappenings sight later (acts_of later.texts o.server cs (all_asked_after v.texts c.0 c.1 cs asked.1))
    (heard_of later.texts cs) (record { offices = x; texts = texts_behind later.texts cs }))
    (set_twice v.offices place one (record { server = o.server; keeper = new; pending = doubt_after o.pending (c ∷ cs) })) happened))
