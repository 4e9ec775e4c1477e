-- The location that a `UrlRef` represents.
use Rattle.std.specs.Prelude.{option_map}
use Rattle.git_location.specs.declared.url_ref.UrlRef.TheInside.{Inside}
use Rattle.git_syntax.specs.Location.{Location}
use Rattle.git_syntax.specs.Views.{borrowed_scheme}

-- the eight fields of a `UrlRef`, as plain values
abbrev pub borrowed_location : Inside → Location
borrowed_location u = record {
  scheme = borrowed_scheme u.scheme;
  user = option_map (λ t. t.now) u.user;
  password = option_map (λ t. t.now) u.password;
  host = option_map (λ t. t.now) u.host;
  flag = u.serialize_alternative_form;
  port = u.port;
  path = u.path.now;
  spelling = option_map (λ t. t.now) u.spelling;
}
