-- Decisions on URLs: each has a meaning, or a flaw is in it.
use Rattle.std.proofs.Common.{◌≡◌, ℕ, Bool, true, false, ◌⊎◌, inl, inr, List, ◌∷◌, ◌++◌, length, take, drop, Option, Some, None, refl, sym, ap, subst, ◌∙◌, codes, bytes_eq, IsUtf8}
use Rattle.std.specs.List.{position_or_len}
use Rattle.std.proofs.lemmas.Bool.{both_ways, false≢true, cases_Bool}
use Rattle.std.proofs.lemmas.Slice.Eq.{bytes_eq-Decides}
use Rattle.percent_encoding.specs.Percent.{percent_decode}
use Rattle.git_syntax.specs.declared.refusal.UrlKind.TheVariants as kind
use Rattle.git_syntax.specs.declared.refusal.UrlFault.{UrlFault}
use Rattle.git_syntax.specs.declared.refusal.UrlFault.TheVariants as fault
use Rattle.git_syntax.specs.declared.refusal.Refusal.TheVariants as refusal
use Rattle.git_syntax.specs.Location.{Location, path_alone}
use Rattle.git_syntax.specs.Location.Scheme.{file}
use Rattle.git_syntax.specs.Bytes.{slash, colon, at_sign, backslash, FreeOf, LacksWhiteSpace, is_scheme_text, is_path_start}
use Rattle.git_syntax.specs.Escapes.{is_sound}
use Rattle.git_syntax.specs.Hosts.{HostSyntax, SpellsHostPort}
use Rattle.git_syntax.specs.Schemes.{is_web_scheme, scheme_of, host_syntax_of, requires_host, requires_path}
use Rattle.git_syntax.specs.Authority.{unless_empty, Credentials, Authority, Fits}
use Rattle.git_syntax.specs.Grammar.{UrlSyntax, HasUrlSyntax, Spells}
use Rattle.git_syntax.specs.Flaws.{UrlForm, OtherUrlForm, UrlCut, PieceOf, AuthorityFlaw, UrlFlaw}
use Rattle.git_syntax.specs.Internal.UrlPieces.{CutsRest, HasNoText, HoldsHosted}
use Rattle.git_syntax.specs.Refusals.{HasFlaw}
use Rattle.git_syntax.proofs.Texts.CutLemmas.{cut_at_first, free_or_cut}
use Rattle.git_syntax.proofs.Parsing.ClassifierLemmas.{file_found, file_misses_path}
use Rattle.git_syntax.proofs.Parsing.UrlLemmas.{nothing_named, bad_user_flaw, url_cut, spelled}
use Rattle.git_syntax.proofs.Parsing.UrlLocationLemmas.{path_missed}
use Rattle.git_refusals.proofs.Refusing.UrlLemmas.{meaning}
use Rattle.git_laws.proofs.Errors.TextDecisions.{nil_or_some, free_or_not, white_or_not, utf8_or_not, fits_or_not, free_or_last_cut}
use Rattle.git_laws.proofs.Errors.HostDecisions.{named_or_flawed}

-- ---- authorities

-- user information holds a user and a password, or isn't text
credentials_or_not : (text : List ℕ) → ((user : Option (List ℕ)) × (password : Option (List ℕ)) × Credentials text user password) ⊎ HasNoText text
credentials_or_not text =
    elim (free_or_cut colon text) [
      | inl free ↦
          elim (utf8_or_not (percent_decode text)) [ inl u ↦ inl (_, _, Credentials.user_alone free u refl refl) | inr bad ↦ inr (HasNoText.user free bad) ]
      | inr (u, w, free, e) ↦
          elim (utf8_or_not (percent_decode u)) [
            | inr bad ↦ inr (HasNoText.user_before_password u w free e bad)
            | inl first ↦
                elim (utf8_or_not (percent_decode w)) [
                  | inl second ↦ inl (_, _, Credentials.with_password u w free e first second refl refl)
                  | inr bad ↦ inr (HasNoText.password u w free e bad)
                ]
          ]
    ]

-- an authority holds these, and a host if one is needed, or is flawed
abbrev pub HeldOrFlawed : HostSyntax → Bool → List ℕ → Type 0
HeldOrFlawed syntax needed authority =
    ((user : Option (List ℕ)) × (password : Option (List ℕ)) × (host : Option (List ℕ)) × (port : Option ℕ) × HoldsHosted syntax needed authority user password host port)
    ⊎ ((named : UrlFault) × AuthorityFlaw syntax needed authority named)

-- an authority without user information
alone_held : (syntax : HostSyntax) (needed : Bool) (authority : List ℕ) (host : Option (List ℕ)) (port : Option ℕ) → FreeOf at_sign authority → SpellsHostPort syntax authority host port → HeldOrFlawed syntax needed authority
alone_held syntax needed authority (Some host) port free n = inl (_, _, _, _, record { named = Authority.host_alone free n refl refl; hosted = λ e. refl })
alone_held syntax true authority None port free n = inr (fault.HostRequired, AuthorityFlaw.host_required refl (nothing_named syntax authority None port n refl))
alone_held syntax false authority None port free n =
    inl (_, _, _, _, record { named = Authority.host_alone free n refl refl; hosted = λ e. absurd (false≢true e) })

-- an authority with user information
after_held : (syntax : HostSyntax) (needed : Bool) (authority information piece : List ℕ) (host : Option (List ℕ)) (port : Option ℕ) → FreeOf at_sign piece → authority ≡ information ++ at_sign ∷ piece → SpellsHostPort syntax piece host port → HeldOrFlawed syntax needed authority
after_held syntax needed authority information piece None port free e n =
    inr (fault.BadCharacter, AuthorityFlaw.no_host information (e ∙ ap (λ p. information ++ at_sign ∷ p) (nothing_named syntax piece None port n refl)))
after_held syntax needed authority information piece (Some host) port free e n =
    elim (credentials_or_not information) [
      | inr bad ↦ inr (fault.BadCharacter, bad_user_flaw syntax needed authority information piece free e bad)
      | inl (user, password, c) ↦ inl (_, _, _, _, record { named = Authority.with_user information piece free e c n refl; hosted = λ e. refl })
    ]

-- an authority has the host that is needed, or is flawed
held_or_flawed : (syntax : HostSyntax) (needed : Bool) (authority : List ℕ) → HeldOrFlawed syntax needed authority
held_or_flawed syntax needed authority =
    elim (free_or_last_cut at_sign authority) [
      | inl free ↦
          elim (named_or_flawed syntax authority) [
            | inl (host, port, n) ↦ alone_held syntax needed authority host port free n
            | inr (named, flaw) ↦ inr (named, AuthorityFlaw.bad_name authority named (PieceOf.whole free refl) flaw)
          ]
      | inr (information, piece, free, e) ↦
          elim (named_or_flawed syntax piece) [
            | inl (host, port, n) ↦ after_held syntax needed authority information piece host port free e n
            | inr (named, flaw) ↦ inr (named, AuthorityFlaw.bad_name piece named (PieceOf.suffix information free e) flaw)
          ]
    ]

-- ---- parts

-- the text has the parts of a URL, or a flaw
abbrev pub PartsOrFlawed : List ℕ → Type 0
PartsOrFlawed b = ((parts : UrlSyntax) × HasUrlSyntax b parts) ⊎ ((named : UrlFault) × UrlFlaw b named)

-- a URL that was cut
cut_or_flawed : (b scheme authority path : List ℕ) → UrlCut b scheme authority path → Fits scheme (authority ++ path) → IsUtf8 b → LacksWhiteSpace b → is_sound b ≡ true → PartsOrFlawed b
cut_or_flawed b scheme authority path cut fits text white sound =
    elim (free_or_not backslash authority) [
      | inr held ↦ inr (fault.BadCharacter, UrlFlaw.bad_authority scheme authority path fault.BadCharacter cut (AuthorityFlaw.holds_backslash held))
      | inl free ↦
          elim (held_or_flawed (host_syntax_of scheme) (requires_host scheme) authority) [
            | inr (named, flaw) ↦ inr (named, UrlFlaw.bad_authority scheme authority path named cut flaw)
            | inl (user, password, host, port, held) ↦
                elim (utf8_or_not (percent_decode path)) [
                  | inr bad ↦ inr (fault.BadCharacter, UrlFlaw.bad_path scheme authority path cut bad)
                  | inl good ↦ inl (_, spelled cut text white (sym sound) free fits held good)
                ]
          ]
    ]

-- a URL that is short enough, and text
parts_or_flawed : (b front rest : List ℕ) → OtherUrlForm b front rest → Fits front rest → IsUtf8 b → PartsOrFlawed b
parts_or_flawed b front rest form fits text =
    elim (white_or_not b) [
      | inr held ↦ inr (fault.BadCharacter, UrlFlaw.white_space front rest form text held)
      | inl white ↦
          elim (cases_Bool (is_sound b)) [
            | inr broken ↦ inr (fault.BadCharacter, UrlFlaw.unsound front rest form broken)
            | inl sound ↦
                elim (cases_Bool (is_scheme_text front)) [
                  | inr none ↦ inr (fault.NoScheme, UrlFlaw.no_scheme front rest form none)
                  | inl named ↦
                      let (joined, before, starts) = cut_at_first (is_path_start (is_web_scheme front)) rest in
                      let place = position_or_len (is_path_start (is_web_scheme front)) rest in
                      let cut : CutsRest front rest (take place rest) (drop place rest) = record { joined = joined; before_path = before; path_starts = starts } in
                      cut_or_flawed b front (take place rest) (drop place rest) (url_cut form (sym named) cut) (subst (λ t. Fits front t) joined fits) text white sound
                ]
          ]
    ]

-- ---- URLs

-- the text spells a location, or a flaw is in it
abbrev pub SpelledOrFlawed : List ℕ → Type 0
SpelledOrFlawed b = ((v : Location) × Spells b v) ⊎ HasFlaw b

-- a text with the parts of a URL
parts_spelled : (b : List ℕ) (parts : UrlSyntax) → HasUrlSyntax b parts → SpelledOrFlawed b
parts_spelled b parts h =
    elim (nil_or_some parts.path) [
      | inr some ↦ let (v, m) = meaning (scheme_of parts.scheme) b parts (λ need. some) in inl (v, Spells.url (record { parts = parts; spelled = h; means = m }))
      | inl none ↦
          elim (cases_Bool (requires_path (scheme_of parts.scheme))) [
            | inl need ↦ inr (refusal.MissingPath kind.Url, path_missed h need none)
            | inr other ↦
                let (v, m) = meaning (scheme_of parts.scheme) b parts (λ need. absurd (both_ways _ other need)) in
                inl (v, Spells.url (record { parts = parts; spelled = h; means = m }))
          ]
    ]

-- a URL that isn't a file URL
other_decided : (b front rest : List ℕ) → OtherUrlForm b front rest → SpelledOrFlawed b
other_decided b front rest form =
    elim (fits_or_not front rest) [
      | inr unfit ↦ inr (refusal.TooLong, record { front = front; rest = rest; form = form; unfit = unfit })
      | inl fits ↦
          elim (utf8_or_not b) [
            | inr bad ↦ inr (refusal.NotUtf8 kind.Url, (bad, (front, rest, form.form)))
            | inl text ↦
                elim (parts_or_flawed b front rest form fits text) [
                  | inl (parts, h) ↦ parts_spelled b parts h
                  | inr (named, flaw) ↦ inr (refusal.BadUrl kind.Url named, flaw)
                ]
          ]
    ]

-- a file URL
file_decided : (b rest : List ℕ) → UrlForm b (codes "file") rest → SpelledOrFlawed b
file_decided b rest form =
    elim (utf8_or_not b) [
      | inr bad ↦ inr (refusal.NotUtf8 kind.Url, (bad, (codes "file", rest, form)))
      | inl text ↦
          elim (free_or_cut slash rest) [
            | inl free ↦ inr (refusal.MissingPath kind.Url, file_misses_path b rest form free)
            | inr (host, suffix, free, e) ↦
                let path = slash ∷ suffix in
                let v = record (path_alone file false path) { host = unless_empty host } in
                inl (v, Spells.file_url (file_found b rest host path v form text free e refl refl))
          ]
    ]

-- a URL
pub url_decided : (b front rest : List ℕ) → UrlForm b front rest → SpelledOrFlawed b
url_decided b front rest form =
    elim (cases_Bool (bytes_eq front (codes "file"))) [
      | inr other ↦ other_decided b front rest (record { form = form; not_file = other })
      | inl same ↦ file_decided b rest (subst (λ t. UrlForm b t rest) ((bytes_eq-Decides front (codes "file")).0 same) form)
    ]
