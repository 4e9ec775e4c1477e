-- The plain values of `Credentials`.
use Rattle.std.specs.Prelude.{option_map}
use Rattle.git_rules.specs.declared.credentials.Credentials.TheInside.{Inside}
use Rattle.git_rules.specs.CredentialEntries.{CredentialUse}

-- the view of `Credentials`
abbrev pub credential_use : Inside → CredentialUse
credential_use c = record {
  helpers = c.helpers.items;
  user = option_map (λ t. t.now) c.user;
  use_http_path = c.use_http_path;
}
