-- The names of the table's rows.
use Rattle.std.specs.Prelude.{codes}
use Rattle.mr_model.specs.Texts.{Text}

abbrev pub init_name : Text
init_name = codes "init"

abbrev pub export_name : Text
export_name = codes "export"

abbrev pub import_name : Text
import_name = codes "import"

abbrev pub rehearse_name : Text
rehearse_name = codes "rehearse"

abbrev pub serve_name : Text
serve_name = codes "serve"

abbrev pub exchange_name : Text
exchange_name = codes "exchange"

abbrev pub bridge_name : Text
bridge_name = codes "bridge"

abbrev pub add_room_name : Text
add_room_name = codes "add-room"

abbrev pub book_name : Text
book_name = codes "book"

abbrev pub cancel_name : Text
cancel_name = codes "cancel"

abbrev pub commit_name : Text
commit_name = codes "commit"

abbrev pub truncate_name : Text
truncate_name = codes "truncate"

abbrev pub position_name : Text
position_name = codes "position"

abbrev pub sheet_name : Text
sheet_name = codes "sheet"

abbrev pub calendar_name : Text
calendar_name = codes "calendar"

abbrev pub outcome_name : Text
outcome_name = codes "outcome"

abbrev pub errors_name : Text
errors_name = codes "errors"
