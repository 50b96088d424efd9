-- The calls of a pull and of a push over a line that may be cut anywhere.
use Rattle.std.proofs.Common.{◌≡◌, refl, sym, ap, ◌∙◌, subst, ℕ, ◌<◌, ◌≤◌, ◌^◌, true, [], ◌∷◌, ◌++◌, length, map, codes, take, length-append, arith, inl, inr, ◌⊎◌, Some, Result, Ok, Err}
use Rattle.std.specs.List.{flat_map}
use Rattle.std.specs.Fmt.{decimal}
use Rattle.mr_model.specs.Texts.{Text, words}
use Rattle.mr_model.specs.Step.{Command, AskPosition, Receive}
use Rattle.mr_model.specs.Http.{Response, Faulty, Runs, head_line, kind, reason, response_of, response_text}
use Rattle.mr_model.specs.Positions.{Position, position_text}
use Rattle.mr_model.specs.Exchange.{Batch, batch_text}
use Rattle.mr_model.specs.Replies.{Reply, BatchIs, PositionIs}
use Rattle.mr_base.specs.declared.batches.Ending.{Ending}
use Rattle.mr_store.specs.declared.keeper.Keeper.{Ghosts}
use Rattle.mr_http.specs.declared.faults.WebFault.{WebFault}
use Rattle.mr_http.specs.declared.faults.WebFault.TheVariants.{Memory}
use Rattle.mr_service.specs.Served.{IsServed}
use Rattle.mr_peer.specs.PeerAsking.{lacking}
use Rattle.mr_peer.specs.OnceAsked.{IsBodyOf, ReceivesOnce, SendsBatch, SendsPosition, TellsBatch}
use Rattle.mr_peer.specs.PeerRequests.{is_host, full_head, pull_request, push_request}
use Rattle.mr_peer.specs.PeerReplies.{IsReplied}
use Rattle.mr_web.specs.RequestAsks.{Asks}
use Rattle.mr_web.specs.RequestServed.{AsksOnce}
use Rattle.mr_web.specs.RepliesWritten.{Writes}
use Rattle.mr_ends.specs.Ends.{IsCutOrLong}
use Rattle.mr_ends.proofs.Asking.{pull_asked, push_asked}
use Rattle.mr_ends.proofs.Responses.{reply_front, fault_front}
use Rattle.mr_branches.specs.Pulling.{AnswersPull, PullsBetween, PushesBetween}

runs_inj : (c d : Command) → Runs c ≡ Runs d → c ≡ d
runs_inj c d e = cc

faulty_inj : (f g : Response) → Faulty f ≡ Faulty g → f ≡ g
faulty_inj f g e = cc

behind : (xs ys : Text) → length ys ≤ length (xs ++ ys)
behind xs ys = let a = length-append xs ys in omega (arith, a)

-- the body of a response is no longer than its text
body_short : (r : Response) (text : Text) → text ≡ response_text r → length text < 2 ^ 64 → length r.body < 2 ^ 64
body_short r text is low =
    let head : Text = flat_map head_line (words (codes "HTTP/1.1" ∷ decimal r.status ∷ reason r.status ∷ []) ∷ (codes "Content-Type: " ++ kind r.is_json) ∷
    (map (λ m. codes "Allow: " ++ m) r.allowed ++ (codes "Content-Length: " ++ decimal (length r.body)) ∷ codes "Connection: close" ∷ [] ∷ [])) in
    let a : length r.body ≤ length (response_text r) = behind head r.body in
    let b = ap length is in omega (arith, a, b, low)

-- ---- a pull

-- a client told its position, a prefix of the request with it was read, and the server's response lies here
module _ {C S : Type 0} (k : Ghosts C) (l : Ghosts S) (say : Reply) (p : Position) (say_is : say ≡ PositionIs p) (asked client : C) (old new : S) (host : Text)
    (sent told : ℕ) (host_ok : is_host host ≡ true) (low : length (position_text p) < 2 ^ 64) (response : Text) (short : length response < 2 ^ 64) where
  abbrev line : Text
  line = take sent (pull_request host (position_text p))

  -- the command is the batch for just this position
  is_batch : (c : Command) (input : Text) → input ≡ line → Asks input (Runs c) → c ≡ lacking p
  is_batch c input is asks = go (pull_asked host (position_text p) sent (Runs c) host_ok low (subst (λ i. Asks i (Runs c)) is asks))
    where
      go : (Runs c ≡ Runs (lacking p)) ⊎ ((f : Response) × (Runs c ≡ Faulty f) × IsCutOrLong f) → c ≡ lacking p
      go (inl e) = runs_inj c (lacking p) e
      go (inr (f, e, cut)) = absurd (let z : Runs c ≡ Faulty f = e in cc)

  is_cut : (f : Response) (input : Text) → input ≡ line → Asks input (Faulty f) → IsCutOrLong f
  is_cut f input is asks = go (pull_asked host (position_text p) sent (Faulty f) host_ok low (subst (λ i. Asks i (Faulty f)) is asks))
    where
      go : (Faulty f ≡ Runs (lacking p)) ⊎ ((g : Response) × (Faulty f ≡ Faulty g) × IsCutOrLong g) → IsCutOrLong f
      go (inl e) = absurd (let z : Faulty f ≡ Runs (lacking p) = e in cc)
      go (inr (g, e, cut)) = subst IsCutOrLong (sym (faulty_inj f g e)) cut

  -- the server failed, and nothing came back
  pub unanswered : (e : WebFault) → AsksOnce l old new (Some line) (Writes (Some []) (Some response)) (Err e) → client ≡ asked → AnswersPull k l say asked client old new
  unanswered e (inl (same, given)) stays = inl (same, stays)
  unanswered e (inr (c, gave, served, (input, is, asks), given)) stays =
      inr (p, gave, say_is, subst (λ d. IsServed l old new d gave) (is_batch c input is asks) served, inl stays)

  -- a prefix of its response came back
  pub answered : (status : ℕ) (result : Result (ℕ × ℕ × Ending) WebFault) → AsksOnce l old new (Some line) (Writes (Some []) (Some response)) (Ok status)
      → ReceivesOnce k asked client (IsBodyOf (Some (take told response))) TellsBatch result → AnswersPull k l say asked client old new
  answered status result (inl (same, given)) (inl (fails, stays)) = inl (same, stays)
  answered status result (inl (same, (input, is, (output, (f, asks, (out, code)), appends)))) (inr (body, took, served, (input2, is2, (reply, replied, taken)), tells)) =
      absurd (fault_front f told reply body (is_cut f input is asks) (subst (λ t. IsReplied t reply) (is2 ∙ ap (take told) (appends ∙ out)) replied) taken)
  answered status result (inr (c, gave, served, (input, is, asks), given)) (inl (fails, stays)) =
      inr (p, gave, say_is, subst (λ d. IsServed l old new d gave) (is_batch c input is asks) served, inl stays)
  answered status result (inr (c, gave, served, (input, is, asks), (output, (out, code), appends))) (inr (body, took, taken_served, (input2, is2, (reply, replied, taken)), tells)) =
      let wrote : response ≡ response_text (response_of gave) = appends ∙ out in
      let (j, front, ok) = reply_front gave told reply body (body_short (response_of gave) response wrote short) (subst (λ t. IsReplied t reply) (is2 ∙ ap (take told) wrote) replied) taken in
      inr (
        p,
        gave,
        say_is,
        subst (λ d. IsServed l old new d gave) (is_batch c input is asks) served,
        inr (j, took, subst (λ b. IsServed k asked client (Receive b) took) front taken_served, ok),
      )

-- the position that was told, and the request with it, which is no longer than memory
record Sent {K : Type 0} (k : Ghosts K) (old asked : K) (host request : Text) : Type 0 where
  say : Reply
  first : IsServed k old asked AskPosition say
  position : Position
  told : say ≡ PositionIs position
  is : request ≡ pull_request host (position_text position)
  low : length (position_text position) < 2 ^ 64

sent_of : {K : Type 0} (k : Ghosts K) (old asked : K) (host none request : Text) → length request < 2 ^ 64
    → SendsPosition k old asked host (Some none) (Some request) (Ok tt) → none ≡ [] → Sent k old asked host request
sent_of k old asked host none request low (say, first, inr (nothing, keeps)) empty = absurd nothing
sent_of k old asked host none request low (say, first, inl (p, told, appends)) empty =
    let whole : request ≡ pull_request host (position_text p) = appends ∙ ap (λ t. t ++ pull_request host (position_text p)) empty in
    let a : length (position_text p) ≤ length (pull_request host (position_text p)) = behind (full_head (codes "POST /pull HTTP/1.1") host (length (position_text p))) (position_text p) in
    let b = ap length whole in
    record { say = say; first = first; position = p; told = told; is = whole; low = omega (arith, a, b, low) }

pub between_err : {C S : Type 0} (k : Ghosts C) (l : Ghosts S) (old_client asked : C) (old new : S) (host none request sent_line held response : Text) (sent : ℕ) (e : WebFault)
    → is_host host ≡ true → length request < 2 ^ 64 → length response < 2 ^ 64
    → SendsPosition k old_client asked host (Some none) (Some request) (Ok tt) → none ≡ [] → sent_line ≡ take sent request
    → held ≡ [] → AsksOnce l old new (Some sent_line) (Writes (Some held) (Some response)) (Err e) → PullsBetween k l old_client asked old new
between_err k l old_client asked old new host none request sent_line held response sent e host_ok low short sends empty cut fresh once =
    let s = sent_of k old_client asked host none request low sends empty in
    let at : sent_line ≡ take sent (pull_request host (position_text s.position)) = cut ∙ ap (take sent) s.is in (
      asked,
      s.say,
      s.first,
      unanswered k l s.say s.position s.told asked asked old new host sent 0 host_ok s.low response short e
          (subst (λ h. AsksOnce l old new (Some (take sent (pull_request host (position_text s.position)))) (Writes (Some h) (Some response)) (Err e)) fresh
          (subst (λ x. AsksOnce l old new (Some x) (Writes (Some held) (Some response)) (Err e)) at once)) refl,
    )

pub between_ok : {C S : Type 0} (k : Ghosts C) (l : Ghosts S) (old_client asked client : C) (old new : S)
    (host none request sent_line held response back : Text) (sent told status : ℕ) (result : Result (ℕ × ℕ × Ending) WebFault)
    → is_host host ≡ true → length request < 2 ^ 64 → length response < 2 ^ 64
    → SendsPosition k old_client asked host (Some none) (Some request) (Ok tt) → none ≡ [] → sent_line ≡ take sent request
    → held ≡ [] → AsksOnce l old new (Some sent_line) (Writes (Some held) (Some response)) (Ok status) → back ≡ take told response
    → ReceivesOnce k asked client (IsBodyOf (Some back)) TellsBatch result → PullsBetween k l old_client client old new
between_ok k l old_client asked client old new host none request sent_line held response back sent told status result host_ok low short sends empty cut fresh once cut_back received =
    let s = sent_of k old_client asked host none request low sends empty in
    let at : sent_line ≡ take sent (pull_request host (position_text s.position)) = cut ∙ ap (take sent) s.is in (
      asked,
      s.say,
      s.first,
      answered k l s.say s.position s.told asked client old new host sent told host_ok s.low response short status result
          (subst (λ h. AsksOnce l old new (Some (take sent (pull_request host (position_text s.position)))) (Writes (Some h) (Some response)) (Ok status)) fresh
          (subst (λ x. AsksOnce l old new (Some x) (Writes (Some held) (Some response)) (Ok status)) at once))
          (subst (λ b. ReceivesOnce k asked client (IsBodyOf (Some b)) TellsBatch result) cut_back received),
    )

-- the request was not sent, or not whole, and the server was asked nothing
pub not_pulled : {C S : Type 0} (k : Ghosts C) (l : Ghosts S) (old_client client : C) (server : S) (host none request : Text) (e : WebFault)
    → SendsPosition k old_client client host (Some none) (Some request) (Err e) → PullsBetween k l old_client client server server
not_pulled k l old_client client server host none request e (say, first, sends) = (client, say, first, inl (refl, refl))

-- ---- a push

-- a server that read a prefix of a push received the whole batch, or was asked nothing
push_served : {K X E : Type 0} (k : Ghosts K) (old new : K) (host batch sent_line : Text) (sent : ℕ) (G : (Text → ℕ → Type 0) → Result X E → Type 0) (result : Result X E)
    → is_host host ≡ true → length batch < 2 ^ 64 → sent_line ≡ take sent (push_request host batch) → AsksOnce k old new (Some sent_line) G result
    → (new ≡ old) ⊎ ((took : Reply) × IsServed k old new (Receive batch) took)
push_served k old new host batch sent_line sent G result host_ok low at (inl (same, given)) = inl same
push_served k old new host batch sent_line sent G result host_ok low at (inr (c, took, served, (input, is, asks), given)) =
    go (push_asked host batch sent (Runs c) host_ok low (subst (λ i. Asks i (Runs c)) (is ∙ at) asks))
  where
    go : (Runs c ≡ Runs (Receive batch)) ⊎ ((f : Response) × (Runs c ≡ Faulty f) × IsCutOrLong f) → (new ≡ old) ⊎ ((took : Reply) × IsServed k old new (Receive batch) took)
    go (inl e) = inr (took, subst (λ d. IsServed k old new d took) (runs_inj c (Receive batch) e) served)
    go (inr (f, e, cut)) = absurd (let z : Runs c ≡ Faulty f = e in cc)

-- the request was not sent, or not whole
pub not_pushed : {C S : Type 0} (k : Ghosts C) (l : Ghosts S) (position : Position) (old_client client : C) (server : S) (host none request : Text) (e : WebFault)
    → SendsBatch k old_client client position host (Some none) (Some request) (Err e) → PushesBetween k l position old_client client server server
not_pushed k l position old_client client server host none request e (inl (fails, same, keeps)) = inl (same, refl)
not_pushed k l position old_client client server host none request e (inr (gave, served, given)) = inr (gave, served, inl refl)

pub pushed : {C S X E : Type 0} (k : Ghosts C) (l : Ghosts S) (position : Position) (old_client client : C) (old new : S) (host none request sent_line : Text) (sent : ℕ) (ending : Ending)
    (G : (Text → ℕ → Type 0) → Result X E → Type 0) (result : Result X E)
    → is_host host ≡ true → length request < 2 ^ 64 → none ≡ [] → sent_line ≡ take sent request
    → SendsBatch k old_client client position host (Some none) (Some request) (Ok ending)
    → AsksOnce l old new (Some sent_line) G result → PushesBetween k l position old_client client old new
pushed k l position old_client client old new host none request sent_line sent ending G result host_ok low empty cut (inl (fails, same, keeps)) once =
    absurd (let z : ◌≡◌ {A = Result Ending WebFault} (Ok ending) (Err Memory) = fails in cc)
pushed k l position old_client client old new host none request sent_line sent ending G result host_ok low empty cut (inr (gave, served, inr (nothing, keeps))) once = absurd nothing
pushed k l position old_client client old new host none request sent_line sent ending G result host_ok low empty cut (inr (gave, served, inl (b, is, appends, ends))) once =
    let whole : request ≡ push_request host (batch_text b) = appends ∙ ap (λ t. t ++ push_request host (batch_text b)) empty in
    let a : length (batch_text b) ≤ length (push_request host (batch_text b)) = behind (full_head (codes "POST /push HTTP/1.1") host (length (batch_text b))) (batch_text b) in
    let size = ap length whole in
    inr (gave, served, to (push_served l old new host (batch_text b) sent_line sent G result host_ok (omega (arith, a, size, low)) (cut ∙ ap (take sent) whole) once))
  where
    to : (new ≡ old) ⊎ ((took : Reply) × IsServed l old new (Receive (batch_text b)) took)
        → (new ≡ old) ⊎ ((c : Batch) × (took : Reply) × (gave ≡ BatchIs c) × IsServed l old new (Receive (batch_text c)) took)
    to (inl same) = inl same
    to (inr (took, received)) = inr (b, took, is, received)
