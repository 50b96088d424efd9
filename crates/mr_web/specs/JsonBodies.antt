-- Bodies that are JSON, and the members of objects.
use Rattle.std.specs.Prelude.{ℕ, suc, Option, None, if◌then◌else◌, option_and_then}
use Rattle.std.specs.Str.{is_utf8}
use Rattle.serde_json.specs.Data.{Data, null, boolean, number, string, array, object, Members, no_members, member}
use Rattle.serde_json.specs.Find.{get, as_str}
use Rattle.serde_json.specs.Read.{read}
use Rattle.mr_model.specs.Texts.{Text}

-- the value that a body is, as the library reads it
abbrev pub json_of : Text → Option Data
json_of body = if is_utf8 body then read body else None

abbrev pub member_count : Members → ℕ
member_count no_members = 0
member_count (member k d ms) = suc (member_count ms)

-- how many members an object has; what is none has none
abbrev pub members_in : Data → ℕ
members_in (object ms) = member_count ms
members_in null = 0
members_in (boolean b) = 0
members_in (number n) = 0
members_in (string s) = 0
members_in (array ds) = 0

abbrev pub text_at : Text → Data → Option Text
text_at key d = option_and_then as_str (get key d)
