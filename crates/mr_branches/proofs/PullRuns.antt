-- A pull between two offices, and a push, is a run of theirs.
use Rattle.std.proofs.Common.{◌≡◌, refl, sym, ap, ◌∙◌, subst, ℕ, zero, suc, ◌+◌, cond, eqb, ◌||◌, List, [], ◌∷◌, ◌++◌, length, take, ◌⊎◌, inl, inr, arith, add-one, le_refl, Option, Some, None}
use Rattle.std.proofs.lemmas.Bool.{cond_both}
use Rattle.std.specs.List.{slice_get, slice_set}
use Rattle.mr_model.specs.Texts.{Text, within}
use Rattle.mr_model.specs.Refusals.{Refusal, OutOfMemory, Store, BadPosition, number_of, first_refusal}
use Rattle.mr_model.specs.Exchange.{Batch, batch_text}
use Rattle.mr_model.specs.Positions.{Position, position_of, position_text, read_position}
use Rattle.mr_model.specs.Replica.{Replica}
use Rattle.mr_model.specs.Replies.{Reply, BatchIs, PositionIs, Refused}
use Rattle.mr_model.specs.Http.{lines_over_http, response_of, status_by_number}
use Rattle.mr_model.specs.Step.{Command, AskPosition, BatchFor, Receive, After, step, reply_to_position, batch_unless, batch_faults, batch_of, IsStep, IsOfMachine, no_memory, no_store}
use Rattle.mr_model.specs.World.{World, StepReply, Said, Do, Made, Make, Deliver, replica_of, batch_numbered}
use Rattle.mr_model.specs.Honest.{IsHonest}
use Rattle.mr_model.proofs.Fronts.{get_end}
use Rattle.mr_model.proofs.UniqueReplay.{some_inj}
use Rattle.mr_store.specs.declared.keeper.Keeper.{Ghosts}
use Rattle.mr_peer.specs.PeerAsking.{lacking}
use Rattle.std.proofs.lemmas.List.{take_all}
use Rattle.mr_service.specs.Served.{IsServed}
use Rattle.mr_offices.specs.Offices.{Act, Within, Give, IsDone, IsOfficeStep, ended, stepped}
use Rattle.mr_offices.specs.OfficeLaws.{Hears, IsCount}
use Rattle.mr_offices.specs.Standing.{Sight, Office, Offices, StandFor}
use Rattle.mr_offices.specs.Happenings.{IsAsked, batch_heard, texts_with, IsCalled, IsRefusedAnywhere, office_after, offices_after}
use Rattle.mr_offices.proofs.Carrying.{front_taken}
use Rattle.mr_offices.proofs.OfficeSteps.{office_step_kept}
use Rattle.mr_offices.proofs.Standing.{At, found_by, office_at}
use Rattle.mr_offices.proofs.Calling.{calls_are_acts}
use Rattle.mr_branches.specs.Sights.{sight_of}
use Rattle.mr_branches.proofs.Heard.{given_as_made, heard_done, made_is_reply, position_told}
use Rattle.mr_branches.specs.Pulling.{IsRound, PullsBetween, PushesBetween, acts_of_pull, acts_of_push}
use Rattle.mr_branches.proofs.Served.{served_is_called}

-- ---- places of a list

pub get_set : {A : Type 0} (xs : List A) (i : ℕ) (x y : A) → slice_get xs i ≡ Some y → slice_get (slice_set xs i x) i ≡ Some x
get_set {A = A} [] i x y e = absurd (let f : ◌≡◌ {A = Option A} None (Some y) = e in cc)
get_set (z ∷ zs) zero x y e = refl
get_set (z ∷ zs) (suc i) x y e = get_set zs i x y e

pub get_other : {A : Type 0} (xs : List A) (i j : ℕ) (x : A) → (i ≡ j → ⊥) → slice_get (slice_set xs i x) j ≡ slice_get xs j
get_other [] i j x ne = refl
get_other (z ∷ zs) zero zero x ne = absurd (ne refl)
get_other (z ∷ zs) zero (suc j) x ne = refl
get_other (z ∷ zs) (suc i) zero x ne = refl
get_other (z ∷ zs) (suc i) (suc j) x ne = get_other zs i j x (λ e. ne (ap suc e))

-- ---- what a reply of status 200 to such a command is

never_ok : (n : ℕ) → status_by_number n ≡ 200 → ⊥
never_ok n =
    cond_both (within 1 6 n || eqb n 15 || eqb n 23) 400 (cond (eqb n 7 || eqb n 9) 404 (cond (eqb n 24 || eqb n 25 || eqb n 26) 503 409)) (λ s. s ≡ 200 → ⊥) (λ e z. omega (arith, z))
    (λ e. cond_both (eqb n 7 || eqb n 9) 404 (cond (eqb n 24 || eqb n 25 || eqb n 26) 503 409) (λ s. s ≡ 200 → ⊥) (λ f z. omega (arith, z))
    (λ f. cond_both (eqb n 24 || eqb n 25 || eqb n 26) 503 409 (λ s. s ≡ 200 → ⊥) (λ g z. omega (arith, z)) (λ g z. omega (arith, z))))

refused_not : (e : Refusal) → (response_of (Refused e)).status ≡ 200 → ⊥
refused_not e is = never_ok (number_of e) is

machine_not : {reply : Reply} → IsOfMachine reply → (response_of reply).status ≡ 200 → ⊥
machine_not no_memory is = refused_not OutOfMemory is
machine_not no_store is = refused_not Store is

is_given : (r : Replica) (o : Option Position) (m : ℕ) → (response_of (reply_to_position r o m)).status ≡ 200 → (b : Batch) × (reply_to_position r o m ≡ BatchIs b)
is_given r None m is = absurd (refused_not BadPosition is)
is_given r (Some p) m is = go (first_refusal (batch_faults r p m)) is
  where
    go : (o : Option Refusal) → (response_of (batch_unless o (batch_of r p m))).status ≡ 200 → (b : Batch) × (batch_unless o (batch_of r p m) ≡ BatchIs b)
    go (Some e) s = absurd (refused_not e s)
    go None s = (batch_of r p m, refl)

gave_batch : (r q : Replica) (text : Text) (m : ℕ) (gave : Reply) → IsStep r (BatchFor text m) gave q → (response_of gave).status ≡ 200 → (b : Batch) × (gave ≡ BatchIs b)
gave_batch r q text m gave (inr (machine, same)) is = absurd (machine_not machine is)
gave_batch r q text m gave (inl e) is =
    let said : gave ≡ reply_to_position r (read_position text) m = ap (λ (x : After). x.reply) e in
    let (b, given) = is_given r (read_position text) m (subst (λ x. (response_of x).status ≡ 200) said is) in
    (b, said ∙ given)

-- ---- a pull

module _ {K : Type 0} (k : Ghosts K) (v : Offices K) (w : World) (client server : ℕ) (oc os : Office K) (h : IsHonest w) (st : StandFor (sight_of k) v w)
    (ec : slice_get v.offices client ≡ Some oc) (es : slice_get v.offices server ≡ Some os) (apart : client ≡ server → ⊥) where
  abbrev sight : Sight K
  sight = sight_of k

  -- the databases are these now, and the acts up to here a run
  abbrev Pulled : K → K → Type 0
  Pulled new_client new_server =
      (done number bytes : ℕ) × (heard : List (Option StepReply))
      × IsRound sight w (take done (acts_of_pull oc.server os.server number bytes)) heard client new_client server new_server
      × ((said : Option StepReply) → slice_get heard 2 ≡ Some said → Hears IsCount said)

  undelivered : (heard : List (Option StepReply)) → slice_get heard 2 ≡ None → (said : Option StepReply) → slice_get heard 2 ≡ Some said → Hears IsCount said
  undelivered heard none said e = absurd (let f : ◌≡◌ {A = Option (Option StepReply)} None (Some said) = sym none ∙ e in cc)

  abbrev ac : At sight v.offices w.replicas client oc
  ac = office_at sight v.offices w.replicas client oc st.offices ec

  found_c : replica_of w oc.server ≡ Some ac.replica
  found_c = ap (λ s. replica_of w s) ac.is.server ∙ found_by w.replicas client ac.replica h.different_servers ac.at

  -- the client is asked for its position
  module _ (asked : K) (told : Reply) (first : IsServed k oc.keeper asked AskPosition told) (clean : k.is_clean asked) where
    abbrev v1 : Offices K
    v1 = offices_after v client oc asked AskPosition told

    abbrev oc1 : Office K
    oc1 = office_after oc asked AskPosition told

    abbrev a1 : Act
    a1 = Within (Do oc.server AskPosition)

    one : (end : World) × IsOfficeStep w a1 (Some (Said told)) end × StandFor sight v1 end
    one = calls_are_acts sight v w client oc asked AskPosition told h st ec tt (served_is_called k oc.keeper asked AskPosition told first clean)

    abbrev w1 : World
    w1 = one.0

    h1 : IsHonest w1
    h1 = (office_step_kept w w1 a1 (Some (Said told)) h one.1).0

    es1 : slice_get v1.offices server ≡ Some os
    es1 = get_other v.offices client server oc1 apart ∙ es

    ec1 : slice_get v1.offices client ≡ Some oc1
    ec1 = get_set v.offices client oc1 oc ec

    pub only_asked : Pulled asked os.keeper
    only_asked = (
      1,
      0,
      0,
      Some (Said told) ∷ [],
      record { end = w1; run = stepped {act = a1} one.1 ended; honest = h1; after = v1; stands = one.2; here = (oc1, ec1, refl); there = (os, es1, refl) },
      undelivered (Some (Said told) ∷ []) refl,
    )

    -- it told this one, and the server gives a batch
    module _ (p : Position) (is : told ≡ PositionIs p) (new : K) (gave : Reply) (second : IsServed k os.keeper new (lacking p) gave) (clean_new : k.is_clean new) where
      abbrev os2 : Office K
      os2 = office_after os new (lacking p) gave

      abbrev v2 : Offices K
      v2 = offices_after v1 server os new (lacking p) gave

      call2 : IsCalled sight os.keeper new (lacking p) gave
      call2 = served_is_called k os.keeper new (lacking p) gave second clean_new

      -- that of the client's replica, which stays
      position : (p ≡ position_of ac.replica) × (replica_of w1 oc.server ≡ Some ac.replica)
      position = position_told w w1 oc.server ac.replica p found_c (sym ac.is.server) (subst (λ x. IsOfficeStep w a1 (Some (Said x)) w1) is one.1)

      abbrev heard2 : StepReply
      heard2 = batch_heard v.texts gave

      abbrev given2 : Act
      given2 = Give os.server (position_text (position_of ac.replica)) lines_over_http

      abbrev a2 : Act
      a2 = Within (Make os.server oc.server lines_over_http)

      two : (end : World) × IsOfficeStep w1 (Give os.server (position_text p) lines_over_http) (Some heard2) end × StandFor sight v2 end
      two = calls_are_acts sight v1 w1 server os new (lacking p) gave h1 one.2 es1 tt call2

      abbrev w2 : World
      w2 = two.0

      two_given : IsOfficeStep w1 given2 (Some heard2) w2
      two_given = subst (λ x. IsOfficeStep w1 (Give os.server (position_text x) lines_over_http) (Some heard2) w2) position.0 two.1

      two_made : IsOfficeStep w1 a2 (Some heard2) w2
      two_made = given_as_made w1 w2 os.server oc.server lines_over_http ac.replica (Some heard2) h1 position.1 two_given

      h2 : IsHonest w2
      h2 = (office_step_kept w1 w2 given2 (Some heard2) h1 two_given).0

      ec2 : slice_get v2.offices client ≡ Some oc1
      ec2 = get_other v1.offices server client os2 (λ e. apart (sym e)) ∙ ec1

      es2 : slice_get v2.offices server ≡ Some os2
      es2 = get_set v1.offices server os2 os es1

      pub only_given : Pulled asked new
      only_given = (
        2,
        0,
        0,
        Some (Said told) ∷ Some heard2 ∷ [],
        record { end = w2; run = stepped {act = a1} one.1 (stepped {act = a2} two_made ended); honest = h2; after = v2; stands = two.2; here = (oc1, ec2, refl); there = (os2, es2, refl) },
        undelivered (Some (Said told) ∷ Some heard2 ∷ []) refl,
      )

      -- and the client receives a prefix of it
      module _ (last : K) (bytes : ℕ) (took : Reply) (third : IsServed k asked last (Receive (take bytes (response_of gave).body)) took)
          (ok : (response_of gave).status ≡ 200) (clean_last : k.is_clean last) where
        given : (b : Batch) × (gave ≡ BatchIs b)
        given = go call2.answered
          where
            by : k.is_open os.keeper → IsOfMachine gave ⊎ k.is_open new → (b : Batch) × (gave ≡ BatchIs b)
            by was_open (inl machine) = absurd (machine_not machine ok)
            by was_open (inr now) =
                let a = office_at sight v1.offices w1.replicas server os one.2.offices es1 in
                let (q, step, stands) = call2.step now a.replica (a.is.stands was_open) in
                gave_batch a.replica q (position_text p) lines_over_http gave step ok

            go : k.is_open os.keeper ⊎ IsRefusedAnywhere (lacking p) gave → (b : Batch) × (gave ≡ BatchIs b)
            go (inl was_open) = by was_open (call2.lasts was_open)
            go (inr (e, refuses, all)) = absurd (refused_not e (subst (λ x. (response_of x).status ≡ 200) refuses ok))

        abbrev number : ℕ
        number = length v.texts + 1

        abbrev size : ℕ
        size = length (batch_text given.0)

        from : IsAsked v2.texts (Receive (take bytes (response_of gave).body))
        from =
            record {
              number = number;
              text = batch_text given.0;
              count = bytes;
              is_there = ap (λ g. batch_numbered (texts_with v.texts g) number) given.1
                  ∙ ap (λ n. batch_numbered (v.texts ++ batch_text given.0 ∷ []) n) (add-one (length v.texts)) ∙ get_end v.texts (batch_text given.0);
              is_front = ap (λ g. take bytes (response_of g).body) given.1;
            }

        abbrev c3 : Command
        c3 = Receive (take bytes (response_of gave).body)

        abbrev oc3 : Office K
        oc3 = office_after oc1 last c3 took

        abbrev v3 : Offices K
        v3 = offices_after v2 client oc1 last c3 took

        abbrev a3 : Act
        a3 = Within (Deliver number oc.server bytes)

        three : (end : World) × IsOfficeStep w2 a3 (Some (Said took)) end × StandFor sight v3 end
        unfolding from
        three = calls_are_acts sight v2 w2 client oc1 last c3 took h2 two.2 ec2 from (served_is_called k asked last c3 took third clean_last)

        made : IsDone w1 given2 (Made number size) w2
        made = heard_done w1 w2 given2 (Made number size) (made_is_reply number size) (subst (λ g. IsOfficeStep w1 given2 (Some (batch_heard v.texts g)) w2) given.1 two_given)

        -- it is taken, since the position is the client's own
        counted : Hears IsCount (Some (Said took))
        counted =
            front_taken w1 w1 w2 w2 three.0 os.server oc.server number size (Some (Said took)) h1
            (record {
              receiver = ac.replica;
              is_receiver = position.1;
              acts_before = [];
              heard_before = [];
              before = ended;
              max_lines = lines_over_http;
              making = made;
              acts_between = [];
              heard_between = [];
              between = ended;
              bytes = bytes;
              delivery = three.1;
            })

        pub all_done : Pulled last new
        all_done = (
          3,
          number,
          bytes,
          Some (Said told) ∷ Some heard2 ∷ Some (Said took) ∷ [],
          record {
            end = three.0;
            run = stepped {act = a1} one.1 (stepped {act = a2} two_made (stepped {act = a3} three.1 ended));
            honest = (office_step_kept w2 three.0 a3 (Some (Said took)) h2 three.1).0;
            after = v3;
            stands = three.2;
            here = (oc3, get_set v2.offices client oc3 oc1 ec2, refl);
            there = (os2, get_other v2.offices client server oc3 apart ∙ es2, refl);
          },
          λ said e. subst (Hears IsCount) (some_inj (Some (Said took)) said e) counted,
        )

  pub pull_runs : (last new : K) → PullsBetween k k oc.keeper last os.keeper new → k.is_clean last → k.is_clean new → Pulled last new
  pull_runs last new (asked, told, first, inl (same_server, same_client)) clean_last clean_new =
      subst (λ x. Pulled x new) (sym same_client)
      (subst (λ x. Pulled asked x) (sym same_server) (only_asked asked told first (subst k.is_clean same_client clean_last)))
  pull_runs last new (asked, told, first, inr (p, gave, is, second, inl same_client)) clean_last clean_new =
      subst (λ x. Pulled x new) (sym same_client)
      (only_given asked told first (subst k.is_clean same_client clean_last) p is new gave second clean_new)
  pull_runs last new (asked, told, first, inr (p, gave, is, second, inr (bytes, took, third, ok))) clean_last clean_new =
      all_done asked told first (third.clean clean_last) p is new gave second clean_new last bytes took third ok clean_last

-- ---- a push

module _ {K : Type 0} (k : Ghosts K) (v : Offices K) (w : World) (client server : ℕ) (oc os : Office K) (h : IsHonest w) (st : StandFor (sight_of k) v w)
    (ec : slice_get v.offices client ≡ Some oc) (es : slice_get v.offices server ≡ Some os) (apart : client ≡ server → ⊥) (position : Position) where
  abbrev Pushed : K → K → Type 0
  Pushed new_client new_server =
      (done number bytes : ℕ) × (heard : List (Option StepReply))
      × IsRound (sight_of k) w (take done (acts_of_push oc.server os.server position number bytes)) heard client new_client server new_server
      × ((said : Option StepReply) → slice_get heard 1 ≡ Some said → slice_get heard 0 ≡ Some (Some (Made number bytes)))

  unpushed : (heard : List (Option StepReply)) → slice_get heard 1 ≡ None → (said : Option StepReply) → slice_get heard 1 ≡ Some said → slice_get heard 0 ≡ Some (Some (Made 0 0))
  unpushed heard none said e = absurd (let f : ◌≡◌ {A = Option (Option StepReply)} None (Some said) = sym none ∙ e in cc)

  nothing_done : Pushed oc.keeper os.keeper
  nothing_done = (0, 0, 0, [], record { end = w; run = ended; honest = h; after = v; stands = st; here = (oc, ec, refl); there = (os, es, refl) }, unpushed [] refl)

  -- the client gives a batch
  module _ (new : K) (gave : Reply) (first : IsServed k oc.keeper new (lacking position) gave) (clean : k.is_clean new) where
    abbrev push1 : Offices K
    push1 = offices_after v client oc new (lacking position) gave

    abbrev pc1 : Office K
    pc1 = office_after oc new (lacking position) gave

    abbrev p1 : Act
    p1 = Give oc.server (position_text position) lines_over_http

    abbrev heard1 : StepReply
    heard1 = batch_heard v.texts gave

    given_one : (end : World) × IsOfficeStep w p1 (Some heard1) end × StandFor (sight_of k) push1 end
    given_one =
        calls_are_acts (sight_of k) v w client oc new (lacking position) gave h st ec tt
        (served_is_called k oc.keeper new (lacking position) gave first clean)

    honest_then : IsHonest given_one.0
    honest_then = (office_step_kept w given_one.0 p1 (Some heard1) h given_one.1).0

    there : slice_get push1.offices server ≡ Some os
    there = get_other v.offices client server pc1 apart ∙ es

    here : slice_get push1.offices client ≡ Some pc1
    here = get_set v.offices client pc1 oc ec

    handed_out : Pushed new os.keeper
    handed_out = (
      1,
      0,
      0,
      Some heard1 ∷ [],
      record { end = given_one.0; run = stepped {act = p1} given_one.1 ended; honest = honest_then; after = push1; stands = given_one.2; here = (pc1, here, refl); there = (os, there, refl) },
      unpushed (Some heard1 ∷ []) refl,
    )

    -- and the server receives all of it
    module _ (last : K) (b : Batch) (took : Reply) (is : gave ≡ BatchIs b) (second : IsServed k os.keeper last (Receive (batch_text b)) took) (clean_last : k.is_clean last) where
      abbrev batch_number : ℕ
      batch_number = length v.texts + 1

      abbrev batch_size : ℕ
      batch_size = length (batch_text b)

      from_client : IsAsked push1.texts (Receive (batch_text b))
      from_client =
          record {
            number = batch_number;
            text = batch_text b;
            count = batch_size;
            is_there = ap (λ g. batch_numbered (texts_with v.texts g) batch_number) is
                ∙ ap (λ n. batch_numbered (v.texts ++ batch_text b ∷ []) n) (add-one (length v.texts)) ∙ get_end v.texts (batch_text b);
            is_front = sym (take_all batch_size (batch_text b) (le_refl batch_size));
          }

      abbrev p2 : Act
      p2 = Within (Deliver batch_number os.server batch_size)

      taken_two : (end : World) × IsOfficeStep given_one.0 p2 (Some (Said took)) end × StandFor (sight_of k) (offices_after push1 server os last (Receive (batch_text b)) took) end
      unfolding from_client given_one
      taken_two =
          calls_are_acts (sight_of k) push1 given_one.0 server os last (Receive (batch_text b)) took honest_then given_one.2 there from_client
          (served_is_called k os.keeper last (Receive (batch_text b)) took second clean_last)

      abbrev ps2 : Office K
      ps2 = office_after os last (Receive (batch_text b)) took

      handed_over : Pushed new last
      handed_over = (
        2,
        batch_number,
        batch_size,
        Some heard1 ∷ Some (Said took) ∷ [],
        record {
          end = taken_two.0;
          run = stepped {act = p1} given_one.1 (stepped {act = p2} taken_two.1 ended);
          honest = (office_step_kept given_one.0 taken_two.0 p2 (Some (Said took)) honest_then taken_two.1).0;
          after = offices_after push1 server os last (Receive (batch_text b)) took;
          stands = taken_two.2;
          here = (pc1, get_other push1.offices server client ps2 (λ e. apart (sym e)) ∙ here, refl);
          there = (ps2, get_set push1.offices server ps2 os there, refl);
        },
        λ said e. ap (λ g. Some (Some (batch_heard v.texts g))) is,
      )

  pub push_runs : (new last : K) → PushesBetween k k position oc.keeper new os.keeper last → k.is_clean new → k.is_clean last → Pushed new last
  push_runs new last (inl (same_client, same_server)) clean clean_last =
      subst (λ x. Pushed x last) (sym same_client) (subst (λ x. Pushed oc.keeper x) (sym same_server) nothing_done)
  push_runs new last (inr (gave, first, inl same_server)) clean clean_last =
      subst (λ x. Pushed new x) (sym same_server) (handed_out new gave first clean)
  push_runs new last (inr (gave, first, inr (b, took, is, second))) clean clean_last = handed_over new gave first clean last b took is second clean_last
