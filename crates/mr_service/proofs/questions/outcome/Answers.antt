use Rattle.std.proofs.Common.{true, ◌≡◌, refl, ◌∙◌, inl, subst, Ok, Err, Some, None}
use Rattle.std.proofs.lemmas.Result.{err_from_is_err_and}
use Rattle.mr_model.specs.Step.{Ask}
use Rattle.mr_model.specs.View.{AskOutcome}
use Rattle.mr_tables.specs.Cells.{place_row_of}
use Rattle.mr_store.specs.Picked.{IsPlaceOf}
use Rattle.mr_service.specs.Questions.{TellsOutcomeOf}
use Rattle.mr_service.proofs.KeeperReads.{read_ok, read_then, read_next, fails_all, refused_by, answered_by}
use Rattle.mr_service.proofs.RoomSteps as steps
use Rattle.mr_service.proofs.questions.outcome.Goals as goal

pub returns-in_err-room : goal.returns-in_err-room
returns-in_err-room g c =
    let p = err_from_is_err_and c.from_residual.result c.from_residual.ensures.1 in
    record {
      served = rw (p.1, p.2) (refused_by g.K.Keeper c.args.keeper.now c.known_room.new.keeper c.in_err-room.field-0.0 (Ask c.args.room.now (AskOutcome c.args.id.now)) c.in_err-room.ensures.read
          (λ u. steps.refused_anywhere (Ask c.args.room.now (AskOutcome c.args.id.now)) c.args.room.now c.in_err-room.field-0.0
          (λ t finds. steps.outcome_refused t t c.args.room.now c.args.id.now c.in_err-room.field-0.0 refl finds) (c.in_err-room.ensures.refuses u))
          (λ u o. steps.outcome_refused (g.K.Keeper.tables c.args.keeper.now) (g.K.Keeper.tables c.known_room.new.keeper) c.args.room.now c.args.id.now c.in_err-room.field-0.0
          (c.known_room.ensures.read.same u o) (c.in_err-room.ensures.finds u (c.known_room.ensures.read.opens u o))));
    }

pub returns-in_err-id : goal.returns-in_err-id
returns-in_err-id g c =
    let p = err_from_is_err_and c.from_residual-in_err-id.result c.from_residual-in_err-id.ensures.1 in
    record {
      served = rw (p.1, p.2) (answered_by g.K.Keeper c.args.keeper.now c.known_room.new.keeper c.in_ok-room.room (Ask c.args.room.now (AskOutcome c.args.id.now)) _ c.in_ok-room.ensures.read
          (λ u o. steps.bad_id_step (g.K.Keeper.tables c.args.keeper.now) (g.K.Keeper.tables c.known_room.new.keeper) c.args.room.now c.in_ok-room.room c.args.id.now
          c.in_err-id.field-0.0 c.in_err-id.ensures.value (c.known_room.ensures.read.same u o) (c.in_ok-room.ensures.finds u (c.known_room.ensures.read.opens u o)))
          (steps.id_not_store c.args.id.now c.in_err-id.field-0.0 c.in_err-id.ensures.value));
    }

pub returns-in_err-place : goal.returns-in_err-place
returns-in_err-place g c =
    let p = err_from_is_err_and c.from_residual-in_err-place.result c.from_residual-in_err-place.ensures.1 in
    record {
      served = rw p.1 (read_then g.K.Keeper c.args.keeper.now c.known_room.new.keeper c.place_of.new.self c.in_ok-room.room (Ask c.args.room.now (AskOutcome c.args.id.now)) _ c.in_ok-room.ensures.read
          (fails_all g.K.Keeper c.known_room.new.keeper c.place_of.new.self c.in_err-place.field-0.0 p.0 p.2 c.in_err-place.ensures.quiet (Ask c.args.room.now (AskOutcome c.args.id.now))));
    }

pub returns : goal.returns
returns g c =
    let same : g.K.Keeper.is_clean c.place_of.new.self → g.K.Keeper.is_open c.place_of.new.self → g.K.Keeper.tables c.known_room.new.keeper
    ≡ g.K.Keeper.tables c.args.keeper.now = λ u o. c.known_room.ensures.read.same (c.place_of.ensures.quiet.clean u) (c.place_of.ensures.quiet.opens u o) in
    record {
      served = answered_by g.K.Keeper c.args.keeper.now c.place_of.new.self true (Ask c.args.room.now (AskOutcome c.args.id.now)) _
          (read_next g.K.Keeper c.args.keeper.now c.known_room.new.keeper c.place_of.new.self c.in_ok-room.room _ c.in_ok-room.ensures.read
          (read_ok g.K.Keeper c.known_room.new.keeper c.place_of.new.self true _ c.in_ok-place.ensures.quiet))
          (λ u o. steps.no_request_step (g.K.Keeper.tables c.args.keeper.now)
          (g.K.Keeper.tables c.place_of.new.self) c.args.room.now c.in_ok-room.room c.args.id.now c.in_ok-id.id c.in_ok-id.ensures.value
          (c.place_of.ensures.quiet.same u o ∙ same u o)
          (c.in_ok-room.ensures.finds (c.place_of.ensures.quiet.clean u) (c.known_room.ensures.read.opens (c.place_of.ensures.quiet.clean u) (c.place_of.ensures.quiet.opens u o)))
          (subst (λ t. IsPlaceOf c.in_ok-room.room c.in_ok-id.id t None) (same u o)
          (subst (IsPlaceOf c.in_ok-room.room c.in_ok-id.id (g.K.Keeper.tables c.known_room.new.keeper)) c.in-None.is (c.in_ok-place.ensures.place u (c.place_of.ensures.quiet.opens u o)))))
          (λ told. cc told);
    }

pub returns-in_err-outcome-in-Some : goal.returns-in_err-outcome-in-Some
returns-in_err-outcome-in-Some g c =
    let k = g.K.Keeper in
    let p = err_from_is_err_and c.from_residual-in_err-outcome-in-Some.result c.from_residual-in_err-outcome-in-Some.ensures.1 in
    let sure : k.is_clean c.place_of.new.self → k.is_open c.place_of.new.self = λ u. c.in_ok-place.ensures.quiet.lasts u (c.in_ok-place.ensures.quiet.answered u) in
    let before : k.is_clean c.outcome_at.new.keeper → k.is_clean c.place_of.new.self = λ u. (c.outcome_at.ensures.read sure).clean u in
    let open_before : k.is_clean c.outcome_at.new.keeper → k.is_open c.outcome_at.new.keeper → k.is_open c.place_of.new.self = λ u o. (c.outcome_at.ensures.read sure).opens u o in
    let same_room : k.is_clean c.outcome_at.new.keeper → k.is_open c.outcome_at.new.keeper → k.tables c.known_room.new.keeper ≡ k.tables c.args.keeper.now =
    λ u o. c.known_room.ensures.read.same (c.place_of.ensures.quiet.clean (before u)) (c.place_of.ensures.quiet.opens (before u) (open_before u o)) in
    let same_place : k.is_clean c.outcome_at.new.keeper → k.is_open c.outcome_at.new.keeper
    → k.tables c.place_of.new.self ≡ k.tables c.args.keeper.now = λ u o. c.place_of.ensures.quiet.same (before u) (open_before u o) ∙ same_room u o in
    record {
      served = rw (p.1, p.2) (refused_by k c.args.keeper.now c.outcome_at.new.keeper c.in_err-outcome-in-Some.field-0.0 (Ask c.args.room.now (AskOutcome c.args.id.now))
          (read_next k c.args.keeper.now c.known_room.new.keeper c.outcome_at.new.keeper c.in_ok-room.room _ c.in_ok-room.ensures.read (read_next k c.known_room.new.keeper c.place_of.new.self
          c.outcome_at.new.keeper true _ (read_ok k c.known_room.new.keeper c.place_of.new.self true _ c.in_ok-place.ensures.quiet) (c.in_err-outcome-in-Some.ensures.read sure)))
          (λ u. inl (c.in_ok-room.ensures.read.answered (c.place_of.ensures.quiet.clean (before u))))
          (λ u o. steps.outcome_failed (k.tables c.args.keeper.now)
          (k.tables c.outcome_at.new.keeper) c.args.room.now c.in_ok-room.room c.args.id.now c.in_ok-id.id c.in-Some.place c.in_err-outcome-in-Some.field-0.0
          ((c.outcome_at.ensures.read sure).same u o ∙ same_place u o) (c.in_ok-room.ensures.finds (c.place_of.ensures.quiet.clean (before u))
          (c.known_room.ensures.read.opens (c.place_of.ensures.quiet.clean (before u)) (c.place_of.ensures.quiet.opens (before u) (open_before u o))))
          (subst (λ t. IsPlaceOf c.in_ok-room.room c.in_ok-id.id t (Some c.in-Some.place)) (same_room u o) (subst (IsPlaceOf c.in_ok-room.room c.in_ok-id.id
          (k.tables c.known_room.new.keeper)) c.in-Some.is (c.in_ok-place.ensures.place (before u) (c.place_of.ensures.quiet.opens (before u) (open_before u o)))))
          (subst (λ t. TellsOutcomeOf c.in_ok-room.room t (place_row_of c.in-Some.place) (Err c.in_err-outcome-in-Some.field-0.0))
          (same_place u o) (c.in_err-outcome-in-Some.ensures.tells u (open_before u o)))));
    }

pub returns-in-Some : goal.returns-in-Some
returns-in-Some g c =
    let k = g.K.Keeper in
    let sure : k.is_clean c.place_of.new.self → k.is_open c.place_of.new.self = λ u. c.in_ok-place.ensures.quiet.lasts u (c.in_ok-place.ensures.quiet.answered u) in
    let before : k.is_clean c.outcome_at.new.keeper → k.is_clean c.place_of.new.self = λ u. (c.outcome_at.ensures.read sure).clean u in
    let open_before : k.is_clean c.outcome_at.new.keeper → k.is_open c.outcome_at.new.keeper → k.is_open c.place_of.new.self = λ u o. (c.outcome_at.ensures.read sure).opens u o in
    let same_room : k.is_clean c.outcome_at.new.keeper → k.is_open c.outcome_at.new.keeper → k.tables c.known_room.new.keeper ≡ k.tables c.args.keeper.now =
    λ u o. c.known_room.ensures.read.same (c.place_of.ensures.quiet.clean (before u)) (c.place_of.ensures.quiet.opens (before u) (open_before u o)) in
    let same_place : k.is_clean c.outcome_at.new.keeper → k.is_open c.outcome_at.new.keeper
    → k.tables c.place_of.new.self ≡ k.tables c.args.keeper.now = λ u o. c.place_of.ensures.quiet.same (before u) (open_before u o) ∙ same_room u o in
    record {
      served = answered_by k c.args.keeper.now c.outcome_at.new.keeper c.in_ok-outcome-in-Some.outcome (Ask c.args.room.now (AskOutcome c.args.id.now)) _
          (read_next k c.args.keeper.now c.known_room.new.keeper c.outcome_at.new.keeper c.in_ok-room.room _ c.in_ok-room.ensures.read (read_next k c.known_room.new.keeper c.place_of.new.self
          c.outcome_at.new.keeper true _ (read_ok k c.known_room.new.keeper c.place_of.new.self true _ c.in_ok-place.ensures.quiet) (c.in_ok-outcome-in-Some.ensures.read sure)))
          (λ u o. steps.outcome_step (k.tables c.args.keeper.now) (k.tables c.outcome_at.new.keeper) c.args.room.now
          c.in_ok-room.room c.args.id.now c.in_ok-id.id c.in-Some.place c.in_ok-outcome-in-Some.outcome c.in_ok-id.ensures.value
          ((c.outcome_at.ensures.read sure).same u o ∙ same_place u o) (c.in_ok-room.ensures.finds (c.place_of.ensures.quiet.clean (before u))
          (c.known_room.ensures.read.opens (c.place_of.ensures.quiet.clean (before u)) (c.place_of.ensures.quiet.opens (before u) (open_before u o))))
          (subst (λ t. IsPlaceOf c.in_ok-room.room c.in_ok-id.id t (Some c.in-Some.place)) (same_room u o) (subst (IsPlaceOf c.in_ok-room.room c.in_ok-id.id
          (k.tables c.known_room.new.keeper)) c.in-Some.is (c.in_ok-place.ensures.place (before u) (c.place_of.ensures.quiet.opens (before u) (open_before u o)))))
          (subst (λ t. TellsOutcomeOf c.in_ok-room.room t (place_row_of c.in-Some.place) (Ok c.in_ok-outcome-in-Some.outcome))
          (same_place u o) (c.in_ok-outcome-in-Some.ensures.tells u (open_before u o))))
          (λ told. cc told);
    }
