-- The first tables beside `meta`: the rows of each, and how it gets other ones.
use Rattle.std.proofs.Common.{refl}
use Rattle.mr_rows.specs.Form.{room_form, vector_form, booking_form, error_form}
use Rattle.mr_rows.specs.TableSteps.{IsTableOf, table_is}
use Rattle.mr_first.specs.Forms.{write_form, undo_form}
use Rattle.mr_first.specs.FirstDatabase.{AreHeldFirst, first_in}

pub first_room_is : IsTableOf AreHeldFirst first_in room_form (λ t. t.room) (λ xs t. record t { room = xs })
unfolding first_in
first_room_is = table_is room_form _ _ (λ t h. h.room)
    (λ t _ h rows. record { meta = h.meta; room = rows; vector = h.vector; write_log = h.write_log; undo = h.undo; booking = h.booking; errorlog = h.errorlog })
    (λ t. refl) (λ t rows. refl) (λ t. refl) (λ xs t. refl) (λ xs ys t. refl)

pub first_vector_is : IsTableOf AreHeldFirst first_in vector_form (λ t. t.vector) (λ xs t. record t { vector = xs })
unfolding first_in
first_vector_is = table_is vector_form _ _ (λ t h. h.vector)
    (λ t _ h rows. record { meta = h.meta; room = h.room; vector = rows; write_log = h.write_log; undo = h.undo; booking = h.booking; errorlog = h.errorlog })
    (λ t. refl) (λ t rows. refl) (λ t. refl) (λ xs t. refl) (λ xs ys t. refl)

pub write_is : IsTableOf AreHeldFirst first_in write_form (λ t. t.write_log) (λ xs t. record t { write_log = xs })
unfolding first_in
write_is = table_is write_form _ _ (λ t h. h.write_log)
    (λ t _ h rows. record { meta = h.meta; room = h.room; vector = h.vector; write_log = rows; undo = h.undo; booking = h.booking; errorlog = h.errorlog })
    (λ t. refl) (λ t rows. refl) (λ t. refl) (λ xs t. refl) (λ xs ys t. refl)

pub undo_is : IsTableOf AreHeldFirst first_in undo_form (λ t. t.undo) (λ xs t. record t { undo = xs })
unfolding first_in
undo_is = table_is undo_form _ _ (λ t h. h.undo)
    (λ t _ h rows. record { meta = h.meta; room = h.room; vector = h.vector; write_log = h.write_log; undo = rows; booking = h.booking; errorlog = h.errorlog })
    (λ t. refl) (λ t rows. refl) (λ t. refl) (λ xs t. refl) (λ xs ys t. refl)

pub first_booking_is : IsTableOf AreHeldFirst first_in booking_form (λ t. t.booking) (λ xs t. record t { booking = xs })
unfolding first_in
first_booking_is = table_is booking_form _ _ (λ t h. h.booking)
    (λ t _ h rows. record { meta = h.meta; room = h.room; vector = h.vector; write_log = h.write_log; undo = h.undo; booking = rows; errorlog = h.errorlog })
    (λ t. refl) (λ t rows. refl) (λ t. refl) (λ xs t. refl) (λ xs ys t. refl)

pub first_error_is : IsTableOf AreHeldFirst first_in error_form (λ t. t.errorlog) (λ xs t. record t { errorlog = xs })
unfolding first_in
first_error_is = table_is error_form _ _ (λ t h. h.errorlog)
    (λ t _ h rows. record { meta = h.meta; room = h.room; vector = h.vector; write_log = h.write_log; undo = h.undo; booking = h.booking; errorlog = rows })
    (λ t. refl) (λ t rows. refl) (λ t. refl) (λ xs t. refl) (λ xs ys t. refl)
