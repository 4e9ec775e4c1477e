-- The request of Git's credential code to helpers, as texts.
use Rattle.std.specs.Prelude.{◌≡◌, ℕ, List, Option, Some, None, option_map, string_bytes}
use Rattle.git_syntax.specs.Bytes.{lossy_text}
use Rattle.git_reads.specs.declared.credential.Request.{Request}
use Rattle.git_reads.specs.Credentials.{CredentialReading, CredentialReads}
use Rattle.git_reads.specs.Views.{credential_reading}
use Rattle.explain_report.specs.declared.credential.Credential.{Credential}

-- the parts of the request as texts, with U+FFFD for bytes that aren't UTF-8
pub record IsTextOf (request : Request) (shown : Credential) : Type 0 where
  pub protocol : string_bytes shown.protocol ≡ lossy_text request.protocol.now
  pub user : option_map string_bytes shown.user ≡ option_map (λ it. lossy_text it.now) request.user
  pub host : string_bytes shown.host ≡ lossy_text request.host.now
  pub path : option_map string_bytes shown.path ≡ option_map (λ it. lossy_text it.now) request.path

-- the request that Git's credential code reads in the text, as texts; none if it reads none
abbrev pub IsRequestIn : List ℕ → Option Credential → Type 0
IsRequestIn text None = (r : CredentialReading) → ¬ CredentialReads text r
IsRequestIn text (Some shown) = (request : Request) × CredentialReads text (credential_reading request)
    × IsTextOf request shown
