-- The location whose fields a stored record has.
use Rattle.std.specs.Prelude.{string_bytes, option_map}
use Rattle.std.specs.Vec.{vec_items}
use Rattle.gix_url.specs.declared.stored.StoredUrl.{StoredUrl}
use Rattle.git_syntax.specs.Location.{Location}
use Rattle.gix_url.specs.Views.{owned_scheme}

-- the eight fields of a record, as plain values
abbrev pub recorded_location : StoredUrl → Location
recorded_location s = record {
  scheme = owned_scheme s.scheme;
  user = option_map string_bytes s.user;
  password = option_map string_bytes s.password;
  host = option_map string_bytes s.host;
  flag = s.serialize_alternative_form;
  port = s.port;
  path = vec_items s.path;
  spelling = option_map vec_items s.path_with_percent_escapes;
}
