-- Authorities: the flaws that the checks find in their pieces, and the form of a piece in which nothing is
-- found.
use Rattle.std.proofs.Common.{◌≡◌, ℕ, ◌+◌, ◌<◌, Bool, true, List, [], ◌∷◌, ◌++◌, length, Option, Some, None, refl, ap, subst, arith, length-append}
use Rattle.std.specs.Prelude.{IsSome, IsUtf8}
use Rattle.percent_encoding.specs.Percent.{percent_decode}
use Rattle.git_syntax.specs.Bytes.{colon, at_sign, backslash, FreeOf}
use Rattle.git_syntax.specs.Hosts.{HostSyntax, SpellsHostPort}
use Rattle.git_syntax.specs.Authority.{Credentials, Authority}
use Rattle.git_syntax.proofs.Texts.EscapeLemmas.{utf8_parts}
use Rattle.git_syntax.proofs.Parsing.HostLemmas.{flawed_unnamed}
use Rattle.git_syntax.proofs.Parsing.UrlLemmas.{no_text_refutes, nothing_named}
use Rattle.git_syntax.proofs.Errors.RefusalLemmas.{flawed_authority}
use Rattle.git_refusals.specs.declared.place.Place.{Place}
use Rattle.git_refusals.specs.declared.reason.Reason.TheVariants as reason
use Rattle.git_refusals.specs.Reasons.{Passes, HasBackslash, Then, Undecodable, BadHost, BadUser, BadParts, BadAuthority}
use Rattle.git_refusals.specs.Internal.Readable.{Checks, HoldsParts, HoldsUser, NamesHost}
use Rattle.git_refusals.proofs.Refusing.PassLemmas.{after_passes, found_second, backslash_passes, decoded_passes}
use Rattle.git_refusals.proofs.Refusing.FlawLemmas.{bad_host_flaw, bad_user_kind, bad_authority_flaw}

-- ---- user information

-- user information without a colon is checked as a whole
pub user_alone : (text : List ℕ) (r : Option Place) → FreeOf colon text → Checks text (Undecodable text) (IsUtf8 (percent_decode text)) r → Checks text (BadUser text) (HoldsUser text) r
user_alone text None free h = record { found = (_, _, Credentials.user_alone free h.found refl refl); within = h.within }
user_alone text (Some p) free h = record { found = BadUser.alone free h.found; within = h.within }

-- a password that decodes to no text is the flaw of user information
pub password_found : (text u w : List ℕ) (p : Place) → FreeOf colon u → text ≡ u ++ colon ∷ w → Checks w (Undecodable w) (IsUtf8 (percent_decode w)) (Some p) → Checks text (BadUser text) (HoldsUser text) (Some (record { reason = p.reason; at = length u + 1 + p.at; len = p.len }))
password_found text u w p free e h = record {
  found = BadUser.with_password u w free e (Then.at_first (record { inside = p; found = h.found; stands = record { named = refl; start = refl; size = refl } }));
  within = omega (arith, h.within, ap length e, length-append u (colon ∷ w));
}

-- if the password decodes to text, the user is checked
pub user_checked : (text u w : List ℕ) (r : Option Place) → FreeOf colon u → text ≡ u ++ colon ∷ w → IsUtf8 (percent_decode w) → Checks u (Undecodable u) (IsUtf8 (percent_decode u)) r → Checks text (BadUser text) (HoldsUser text) r
user_checked text u w None free e good h = record { found = (_, _, Credentials.with_password u w free e h.found good refl refl); within = h.within }
user_checked text u w (Some p) free e good h = record {
  found = BadUser.with_password u w free e (Then.at_second (after_passes _ _ (decoded_passes w good)) h.found);
  within = omega (arith, h.within, ap length e, length-append u (colon ∷ w));
}

-- nothing is wrong with user information that holds a user and a password
pub user_passes : (text : List ℕ) → HoldsUser text → Passes (BadUser text)
user_passes text (user, password, c) p bad = no_text_refutes text user password (bad_user_kind text p bad).0 c

-- ---- hosts

-- nothing is wrong with a piece that names a host, or is empty
pub named_passes : (syntax : HostSyntax) (piece : List ℕ) → NamesHost syntax piece → Passes (BadHost syntax piece)
named_passes syntax piece (host, port, h) p bad = let flaw = bad_host_flaw syntax piece p bad in flawed_unnamed syntax piece flaw.named flaw.there host port h

-- so nothing is wrong with one that is empty
pub nothing_wrong : (syntax : HostSyntax) (piece : List ℕ) → piece ≡ [] → Passes (BadHost syntax piece)
nothing_wrong syntax piece empty = named_passes syntax piece (None, None, SpellsHostPort.nothing empty refl refl)

-- a piece that isn't empty names a host
pub some_named : (syntax : HostSyntax) (piece : List ℕ) (host : Option (List ℕ)) (port : Option ℕ) → SpellsHostPort syntax piece host port → 0 < length piece → IsSome host
some_named syntax piece None port h some = absurd (omega (arith, ap length (nothing_named syntax piece None port h refl)))
some_named syntax piece (Some host) port h some = refl

-- ---- authorities

-- the text after the user information of a text is text
pub after_utf8 : (text information piece : List ℕ) → text ≡ information ++ at_sign ∷ piece → IsUtf8 text → IsUtf8 piece
after_utf8 text information piece e utf8 = (utf8_parts information piece at_sign (subst IsUtf8 e utf8) (omega arith)).1

-- an authority that names a host, or is empty if none is needed, holds parts
pub alone_held : (syntax : HostSyntax) (needed : Bool) (text : List ℕ) → FreeOf backslash text → FreeOf at_sign text → NamesHost syntax text → (needed ≡ true → 0 < length text) → HoldsParts syntax needed text
alone_held syntax needed text clean free (host, port, h) some = record {
  user = None;
  password = None;
  host = host;
  port = port;
  clean = clean;
  held = record { named = Authority.host_alone free h refl refl; hosted = λ need. some_named syntax text host port h (some need) };
}

-- an empty authority lacks the host that is needed
pub missing_found : (syntax : HostSyntax) (needed : Bool) (text : List ℕ) → FreeOf at_sign text → needed ≡ true → text ≡ [] → Checks text (BadParts syntax needed text) (HoldsParts syntax needed text) (Some (record { reason = reason.HostMissing; at = 0; len = 0 }))
missing_found syntax needed text free need empty = record {
  found =
      BadParts.alone free (Then.at_second (nothing_wrong syntax text empty)
      (record { wanted = need; empty = empty; stands = record { named = refl; start = refl; size = refl } }));
  within = omega arith;
}

-- an authority holds parts if its user information does and a host is after that
pub after_held : (syntax : HostSyntax) (needed : Bool) (text information piece : List ℕ) → FreeOf backslash text → FreeOf at_sign piece → text ≡ information ++ at_sign ∷ piece → HoldsUser information → NamesHost syntax piece → 0 < length piece → HoldsParts syntax needed text
after_held syntax needed text information piece clean free e (user, password, c) (host, port, h) some =
    let has = some_named syntax piece host port h some in
    record {
      user = user;
      password = password;
      host = host;
      port = port;
      clean = clean;
      held = record { named = Authority.with_user information piece free e c h has; hosted = λ need. has };
    }

-- a flaw of the user information is one of the authority
pub user_found : (syntax : HostSyntax) (needed : Bool) (text information piece : List ℕ) (p : Place) → FreeOf at_sign piece → text ≡ information ++ at_sign ∷ piece → Checks information (BadUser information) (HoldsUser information) (Some p) → Checks text (BadParts syntax needed text) (HoldsParts syntax needed text) (Some p)
user_found syntax needed text information piece p free e h = record {
  found = BadParts.with_user information piece free e (Then.at_first h.found);
  within = omega (arith, h.within, ap length e, length-append information (at_sign ∷ piece));
}

-- and if that has none, a flaw of the host after it
pub host_found : (syntax : HostSyntax) (needed : Bool) (text information piece : List ℕ) (p : Place) → FreeOf at_sign piece → text ≡ information ++ at_sign ∷ piece → HoldsUser information → Checks piece (BadHost syntax piece) (NamesHost syntax piece) (Some p) → Checks text (BadParts syntax needed text) (HoldsParts syntax needed text) (Some (record { reason = p.reason; at = length information + 1 + p.at; len = p.len }))
host_found syntax needed text information piece p free e user h = record {
  found =
      BadParts.with_user information piece free e (Then.at_second (user_passes information user)
      (Then.at_first (record { inside = p; found = h.found; stands = record { named = refl; start = refl; size = refl } })));
  within = omega (arith, h.within, ap length e, length-append information (at_sign ∷ piece));
}

-- if nothing follows the user information, that is the flaw
pub no_host_found : (syntax : HostSyntax) (needed : Bool) (text information piece : List ℕ) → FreeOf at_sign piece → text ≡ information ++ at_sign ∷ piece → HoldsUser information → piece ≡ [] → Checks text (BadParts syntax needed text) (HoldsParts syntax needed text) (Some (record { reason = reason.HostBehindUser; at = length text; len = 0 }))
no_host_found syntax needed text information piece free e user empty = record {
  found =
      BadParts.with_user information piece free e (Then.at_second (user_passes information user)
      (Then.at_second (after_passes _ _ (nothing_wrong syntax piece empty))
      (record { empty = empty; stands = record { named = refl; start = refl; size = refl } })));
  within = omega arith;
}

-- an authority without a backslash is checked by its parts
pub parts_checked : (syntax : HostSyntax) (needed : Bool) (text : List ℕ) (r : Option Place) → FreeOf backslash text → Checks text (BadParts syntax needed text) (HoldsParts syntax needed text) r → Checks text (BadAuthority syntax needed text) (HoldsParts syntax needed text) r
parts_checked syntax needed text r clean h =
    found_second text (HasBackslash reason.Backslash text) (BadParts syntax needed text) (HoldsParts syntax needed text) (HoldsParts syntax needed text) r (backslash_passes reason.Backslash text clean) (λ held. held) h

-- nothing is wrong with an authority that holds parts
pub parts_pass : (syntax : HostSyntax) (needed : Bool) (authority : List ℕ) → HoldsParts syntax needed authority → Passes (BadAuthority syntax needed authority)
parts_pass syntax needed authority h p bad =
    let flaw = bad_authority_flaw syntax needed authority p bad in
    flawed_authority syntax needed authority flaw.named h.clean flaw.there h.user h.password h.host h.port h.held
