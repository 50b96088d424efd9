-- Our tables beside `meta`: the rows of each, and how it gets other ones.
use Rattle.std.proofs.Common.{refl}
use Rattle.mr_rows.specs.Form.{room_form, vector_form, log_form, booking_form, error_form, cancelled_form, cancel_form}
use Rattle.mr_rows.specs.Database.{AreHeld, tables_in}
use Rattle.mr_rows.specs.TableSteps.{IsTableOf, table_is}

pub room_is : IsTableOf AreHeld tables_in room_form (λ t. t.room) (λ xs t. record t { room = xs })
unfolding tables_in
room_is = table_is room_form _ _ (λ t h. h.room) (λ t _ h rows. record { meta = h.meta; room = rows; vector = h.vector; log = h.log; booking = h.booking; errorlog = h.errorlog; cancelled = h.cancelled; cancels = h.cancels; no_write_log = h.no_write_log; no_undo = h.no_undo }) (λ t. refl) (λ t rows. refl) (λ t. refl) (λ xs t. refl) (λ xs ys t. refl)

pub vector_is : IsTableOf AreHeld tables_in vector_form (λ t. t.vector) (λ xs t. record t { vector = xs })
unfolding tables_in
vector_is = table_is vector_form _ _ (λ t h. h.vector) (λ t _ h rows. record { meta = h.meta; room = h.room; vector = rows; log = h.log; booking = h.booking; errorlog = h.errorlog; cancelled = h.cancelled; cancels = h.cancels; no_write_log = h.no_write_log; no_undo = h.no_undo }) (λ t. refl) (λ t rows. refl) (λ t. refl) (λ xs t. refl) (λ xs ys t. refl)

pub log_is : IsTableOf AreHeld tables_in log_form (λ t. t.log) (λ xs t. record t { log = xs })
unfolding tables_in
log_is = table_is log_form _ _ (λ t h. h.log) (λ t _ h rows. record { meta = h.meta; room = h.room; vector = h.vector; log = rows; booking = h.booking; errorlog = h.errorlog; cancelled = h.cancelled; cancels = h.cancels; no_write_log = h.no_write_log; no_undo = h.no_undo }) (λ t. refl) (λ t rows. refl) (λ t. refl) (λ xs t. refl) (λ xs ys t. refl)

pub booking_is : IsTableOf AreHeld tables_in booking_form (λ t. t.booking) (λ xs t. record t { booking = xs })
unfolding tables_in
booking_is = table_is booking_form _ _ (λ t h. h.booking) (λ t _ h rows. record { meta = h.meta; room = h.room; vector = h.vector; log = h.log; booking = rows; errorlog = h.errorlog; cancelled = h.cancelled; cancels = h.cancels; no_write_log = h.no_write_log; no_undo = h.no_undo }) (λ t. refl) (λ t rows. refl) (λ t. refl) (λ xs t. refl) (λ xs ys t. refl)

pub error_is : IsTableOf AreHeld tables_in error_form (λ t. t.errorlog) (λ xs t. record t { errorlog = xs })
unfolding tables_in
error_is = table_is error_form _ _ (λ t h. h.errorlog) (λ t _ h rows. record { meta = h.meta; room = h.room; vector = h.vector; log = h.log; booking = h.booking; errorlog = rows; cancelled = h.cancelled; cancels = h.cancels; no_write_log = h.no_write_log; no_undo = h.no_undo }) (λ t. refl) (λ t rows. refl) (λ t. refl) (λ xs t. refl) (λ xs ys t. refl)

pub cancelled_is : IsTableOf AreHeld tables_in cancelled_form (λ t. t.cancelled) (λ xs t. record t { cancelled = xs })
unfolding tables_in
cancelled_is = table_is cancelled_form _ _ (λ t h. h.cancelled) (λ t _ h rows. record { meta = h.meta; room = h.room; vector = h.vector; log = h.log; booking = h.booking; errorlog = h.errorlog; cancelled = rows; cancels = h.cancels; no_write_log = h.no_write_log; no_undo = h.no_undo }) (λ t. refl) (λ t rows. refl) (λ t. refl) (λ xs t. refl) (λ xs ys t. refl)

pub cancel_is : IsTableOf AreHeld tables_in cancel_form (λ t. t.cancels) (λ xs t. record t { cancels = xs })
unfolding tables_in
cancel_is = table_is cancel_form _ _ (λ t h. h.cancels) (λ t _ h rows. record { meta = h.meta; room = h.room; vector = h.vector; log = h.log; booking = h.booking; errorlog = h.errorlog; cancelled = h.cancelled; cancels = rows; no_write_log = h.no_write_log; no_undo = h.no_undo }) (λ t. refl) (λ t rows. refl) (λ t. refl) (λ xs t. refl) (λ xs ys t. refl)
