-- The location that a `Url` represents.
use Rattle.std.specs.Prelude.{string_bytes, option_map}
use Rattle.bstr.specs.Owned.{bstring_bytes}
use Rattle.gix_url.specs.declared.location.Url.TheInside.{Inside}
use Rattle.git_syntax.specs.Location.{Location}
use Rattle.gix_url.specs.Views.{owned_scheme}

-- the eight fields of a `Url`, as plain values
abbrev pub location : Inside → Location
location u = record {
  scheme = owned_scheme u.scheme;
  user = option_map string_bytes u.user;
  password = option_map string_bytes u.password;
  host = option_map string_bytes u.host;
  flag = u.serialize_alternative_form;
  port = u.port;
  path = bstring_bytes u.path;
  spelling = option_map bstring_bytes u.spelling;
}
