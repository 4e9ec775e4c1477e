-- Git reads the same place: in the text of each location of the class it reads the location's own parts.
use Rattle.std.proofs.Common.{◌≡◌, ◌∙◌, ℕ, ◌<◌, true, false, ◌⊎◌, inl, inr, List, [], ◌∷◌, ◌++◌, length, ◌==◌, Option, Some, None, Ok, IfSome, IsUtf8, codes, refl, sym, ap, subst, arith, append_assoc}
use Rattle.std.proofs.lemmas.Bool.Decides.{nat_tests}
use Rattle.git_syntax.specs.Location.{Scheme, Location}
use Rattle.git_syntax.specs.Location.Scheme.{file, git, http, https, ssh}
use Rattle.git_syntax.specs.Addresses.{IsIpv6Text}
use Rattle.git_syntax.specs.Bytes.{percent_sign, slash, colon, at_sign, left_bracket, right_bracket, tilde, FreeOf, Lacks, begins_with, is_option_like}
use Rattle.git_syntax.specs.Internal.HostPieces.{in_brackets}
use Rattle.git_syntax.specs.Grammar.{ScpFront, IsNeither, HasScpForm}
use Rattle.git_location.specs.Text.{raw_host, canonical_text, text}
use Rattle.git_location.specs.Settled.{IsValue, IsWeb, IsNormalAddress, IsScpName, IsSettledLocal, IsSettledFile, IsSettledScp, IsSettledBy, LooksLikeHelper}
use Rattle.std.proofs.lemmas.Option.{IfSome_then}
use Rattle.git_reads.specs.Git.{HostAndPort, on_this_machine, IsNoUrl, IsLocal, ReachesSecure, ReadsInput}
use Rattle.git_class.specs.GitClass.{is_contested, HasPlainParts, is_tilde_second, IsRsync, SuitsTransport, AgreesByTransport, AgreesBy}
use Rattle.git_class.specs.WebClass.{AgreesOverWeb}
use Rattle.git_laws.specs.GitWeb.{ReadsOwnOverWeb}
use Rattle.git_laws.specs.GitClass.{HostForGit, own_reading, ReadsOwnBy, ReadAlike}
use Rattle.git_syntax.proofs.Texts.CutLemmas.{begins_cut, cut_unique, free-append, free-cons, free_of_lacked, free_or_cut, free_parts, not_free}
use Rattle.git_syntax.proofs.Addresses.AddressLemmas.{address_free, address_two_colons, is_address_byte}
use Rattle.git_laws.proofs.Writing.FileLemmas.{hostless_text}
use Rattle.git_laws.proofs.Writing.KeptLemmas.{flagged_text}
use Rattle.git_laws.proofs.Writing.WrittenScpLemmas.{address_raw, scp_value_of, scp_written, scp_spelled}
use Rattle.git_laws.proofs.GitReadings.GitCutLemmas.{bracket_first, bracketed_cut, bracketed_place, git_decode_kept, lacks_brackets, nothing_passed, place_cut, place_in_brackets, portless_coloned, portless_free, some_after}
use Rattle.git_laws.proofs.GitReadings.GitPieceLemmas.{from_tilde_kept, scp_host_raw}
use Rattle.git_laws.proofs.GitReadings.GitTransportLemmas.{IsReadBy, own_read, secure_host, secure_reading, word_of, secure_reached, host_safe, own_url, secure_url_alike, git_url_alike}
use Rattle.git_laws.proofs.GitReadings.WebCredentialLemmas.{credential_own}
use Rattle.git_laws.proofs.GitReadings.WebTextLemmas.{web_text}
use Rattle.git_laws.proofs.GitReadings.WebUriLemmas.{uri_own}
use Rattle.git_location.proofs.Writing.WrittenAsUrlLemmas.{one_text}
use Rattle.git_syntax.proofs.Parsing.FormLemmas.{scp_neither}
use Rattle.git_syntax.specs.Hosts.{raw_user}

-- ---- this machine

-- the path is free of a byte by which Git cuts a text
path_free : (v : Location) → HasPlainParts v → (c : ℕ) → is_contested c ≡ true → FreeOf c v.path
path_free v plain c contested = free_of_lacked is_contested c v.path plain.path contested

-- a location without a user, a host and a port is one of this machine
machine_reading : (v : Location) → v.scheme ≡ file → v.user ≡ None → v.port ≡ None → own_reading v None ≡ on_this_machine v.path
machine_reading v scheme user port = λ i. record { protocol = scheme i; user = user i; host = None; port = port i; path = v.path }

-- nor has Git a host of it
machine_host : (v : Location) → v.scheme ≡ file → v.host ≡ None → HostForGit v.scheme v.host None
machine_host v scheme none = subst (λ p. HostForGit p v.host None) (sym scheme) (sym none)

-- only the path follows `file://`
file_url_reads : (path rest : List ℕ) → path ≡ slash ∷ rest → FreeOf percent_sign path → FreeOf left_bracket path → ReadsInput (codes "file://" ++ path) (on_this_machine path)
file_url_reads path rest e plain left =
    ReadsInput.file_url path [] rest (own_url file (codes "file") path path refl (git_decode_kept path plain)) (place_cut slash path [] rest left refl e) (ap on_this_machine e)

-- a settled file URL without a host
file_url_alike : (v : Location) → v.scheme ≡ file → AgreesByTransport v → v.host ≡ None → FreeOf percent_sign v.path → IsSettledFile v → IsReadBy file v
file_url_alike v e a none plain h =
    let (rest, rooted) = begins_cut slash v.path h.rooted in
    own_read v None (codes "file://" ++ v.path) (on_this_machine v.path) (machine_host v e none) (machine_reading v e h.alone.0 h.alone.2) (hostless_text v e h none) (free-append 0 (codes "file://") v.path refl (path_free v a.plain 0 refl)) refl (file_url_reads v.path rest rooted plain (path_free v a.plain left_bracket refl))

-- without brackets a colon before any `/` would make it the scp form
lacks_form : (t front rest : List ℕ) → FreeOf right_bracket t → IsNeither t → ¬ HasScpForm t → FreeOf colon front → t ≡ front ++ colon ∷ rest → ¬ FreeOf slash front
lacks_form t front rest plain neither no_scp first e free =
    no_scp (inl (front, rest, record { joined = e; neither = neither; no_slash = free; form = ScpFront.plain first (inr plain) }))

-- so it has no colon, or a `/` before it
local_text : (t : List ℕ) → FreeOf right_bracket t → IsNeither t → ¬ HasScpForm t → IsLocal t
local_text t plain neither no_scp =
    elim (free_or_cut colon t) [
      | inl free ↦ inl free
      | inr (x, y, first, e) ↦
          elim (free_or_cut slash x) [
            | inl free ↦ absurd (lacks_form t x y plain neither no_scp first e free)
            | inr (p, q, before, cut) ↦
                inr (p, q ++ colon ∷ y, (free_parts colon p (slash ∷ q) (subst (λ s. FreeOf colon s) cut first)).0, e ∙ ap (λ s. s ++ colon ∷ y) cut ∙ append_assoc p (slash ∷ q) (colon ∷ y))
          ]
    ]

-- such a text is neither a URL nor for a remote helper nor for `rsync`
local_no_url : (t : List ℕ) → FreeOf right_bracket t → IsNeither t → ¬ HasScpForm t → IsNoUrl t
local_no_url t plain neither no_scp = record {
  no_mark = neither.no_mark;
  no_helper = neither.no_helper;
  no_empty_helper = λ rest e. lacks_form t [] (colon ∷ rest) plain neither no_scp refl e refl;
  no_rsync = λ rest e. lacks_form t (codes "rsync") rest plain neither no_scp refl e refl;
}

-- a settled local path
local_alike : (v : Location) → v.scheme ≡ file → AgreesByTransport v → begins_with tilde v.path ≡ false → IsSettledLocal v → IsReadBy file v
local_alike v e a homeless h =
    let plain = path_free v a.plain right_bracket refl in
    own_read v None v.path (on_this_machine v.path) (machine_host v e h.bare.2) (machine_reading v e h.bare.1.0 h.bare.1.2) (flagged_text v e h) (path_free v a.plain 0 refl) a.no_option.path (ReadsInput.local_path [] v.path (local_no_url v.path plain h.form.neither h.form.no_scp) (local_text v.path plain h.form.neither h.form.no_scp) (nothing_passed v.path (path_free v a.plain left_bracket refl)) h.form.nonempty a.no_option.path homeless refl)

-- ---- the scp form

-- the pieces of a settled location in the scp form whose host is a name
record IsScpText (v : Location) (host : List ℕ) : Type 0 where
  there : v.host ≡ Some host
  name : IsScpName host
  no_colon : FreeOf colon (word_of v.user host)
  no_slash : FreeOf slash (word_of v.user host)
  neither : IsNeither (word_of v.user host ++ colon ∷ v.path)
  written : text v ≡ Ok (word_of v.user host ++ colon ∷ v.path)

-- a settled user is free of `:` and `/`, and so is the user with its `@`
user_free : (c : ℕ) (user : Option (List ℕ)) → FreeOf c (at_sign ∷ []) → IfSome user (λ u. FreeOf c u) → FreeOf c (raw_user user)
user_free c None mark free = refl
user_free c (Some u) mark free = free-append c u (at_sign ∷ []) free mark

-- a settled location in the scp form has a text with this host,
-- which is neither a URL nor for a remote helper
record IsScpWritten (v : Location) (spelled : List ℕ) : Type 0 where
  neither : IsNeither (raw_user v.user ++ (spelled ++ colon ∷ v.path))
  written : text v ≡ Ok (raw_user v.user ++ (spelled ++ colon ∷ v.path))

-- the host as it is written there
scp_has : (v : Location) (host : List ℕ) → v.scheme ≡ ssh → IsValue v → IsSettledScp v → v.host ≡ Some host → IsScpName host ⊎ IsNormalAddress host → ¬ LooksLikeHelper v host → IsScpWritten v (raw_host (Some host))
scp_has v host e is h there kind other = record {
  neither = scp_neither (scp_spelled v.user host v.path is.user (subst (λ o. IfSome o IsUtf8) there is.host) h.user kind h.path other);
  written = ap (λ l. text l) (scp_value_of v host e h there) ∙ scp_written v.user host v.path v.spelling;
}

-- a name is written as it is
scp_text : (v : Location) (host : List ℕ) → IsSettledScp v → v.host ≡ Some host → IsScpName host → IsScpWritten v (raw_host (Some host)) → IsScpText v host
scp_text v host h2 h3 h4 h5 = grind (arith, nat_tests, scp_host_raw, append_assoc, free-append, user_free, IfSome_then)

-- its user is free of a byte by which Git cuts it otherwise
scp_user_free : (v : Location) → v.flag ≡ true → HasPlainParts v → (c : ℕ) → is_contested c ≡ true → (at_sign == c) ≡ false → FreeOf c (raw_user v.user)
scp_user_free v h1 h2 c h4 h5 = grind (arith, nat_tests, IfSome, user_free, free-cons, IfSome_then, free_of_lacked)

-- its host is plain
scp_plain_host : (v : Location) (host : List ℕ) → v.flag ≡ true → v.scheme ≡ ssh → HasPlainParts v → v.host ≡ Some host → Lacks is_contested host
scp_plain_host v host h2 h3 h4 h5 = grind (arith, nat_tests, IfSome)

-- the text is free of such a byte, if the host is a name
scp_free : (v : Location) (host : List ℕ) → v.flag ≡ true → HasPlainParts v → v.scheme ≡ ssh → v.host ≡ Some host → (c : ℕ) → is_contested c ≡ true → (at_sign == c) ≡ false → (colon == c) ≡ false → FreeOf c (word_of v.user host ++ colon ∷ v.path)
scp_free v host h2 h3 h4 h5 c h7 h8 h9 = grind (arith, nat_tests, scp_plain_host, free-append, word_of, scp_user_free, free_of_lacked, free-cons, path_free)

-- a word with a host isn't empty
word_nonempty : (user : Option (List ℕ)) (host : List ℕ) → 0 < length host → 0 < length (word_of user host)
word_nonempty None host some = some
word_nonempty (Some []) host some = omega arith
word_nonempty (Some (b ∷ u)) host some = omega arith

-- `rsync` is a host alone
rsync_word : (user : Option (List ℕ)) (host : List ℕ) → word_of user host ≡ codes "rsync" → (user ≡ None) × (host ≡ codes "rsync")
rsync_word None host e = (refl, e)
rsync_word (Some u) host e =
    absurd (not_free at_sign u host (subst (λ t. FreeOf at_sign t) (sym (sym (append_assoc u (at_sign ∷ []) host) ∙ e)) refl))

-- so the text is neither a URL nor for a remote helper nor for `rsync`
scp_no_url : (v : Location) (host : List ℕ) → IsSettledScp v → IsScpText v host → ¬ IsRsync v → IsNoUrl (word_of v.user host ++ colon ∷ v.path)
scp_no_url v host h t other = record {
  no_mark = t.neither.no_mark;
  no_helper = t.neither.no_helper;
  no_empty_helper = λ rest e.
      let empty = (cut_unique colon (word_of v.user host) [] v.path (colon ∷ rest) t.no_colon refl e).0 in
      omega (arith, ap length empty, word_nonempty v.user host t.name.normal.unbracketed.nonempty);
  no_rsync = λ rest e.
      let (none, same) = rsync_word v.user host (cut_unique colon (word_of v.user host) (codes "rsync") v.path rest t.no_colon refl e).0 in
      other record { scp = h.flagged; no_user = none; host = t.there ∙ ap Some same };
}

-- Git reads in it the location's own fields
scp_reads : (v : Location) (host : List ℕ) → IsSettledScp v → (t : IsScpText v host) → AgreesByTransport v → is_tilde_second v.path ≡ false → ¬ IsRsync v → ¬ (v.user ≡ Some []) → FreeOf left_bracket (word_of v.user host ++ colon ∷ v.path) → ReadsInput (word_of v.user host ++ colon ∷ v.path) (secure_reading v.user (Some host) None v.path)
scp_reads v host h t a second other named free =
    let word = word_of v.user host in
    let portless = portless_free word t.no_colon in
    let front = (free_parts left_bracket word (colon ∷ v.path) free).0 in
    let reached = secure_reached v.user host None word v.path (HostAndPort.none (lacks_brackets word front) portless.before) portless.secure t.no_slash t.name.no_at t.name.normal.unbracketed.nonempty named a.no_option.user (host_safe v host t.there a.no_option) a.no_option.path in
    ReadsInput.scp_form word v.path (scp_no_url v host h t other) record { front = word; rest = v.path; joined = refl; no_slash = t.no_slash } (place_cut colon (word ++ colon ∷ v.path) word v.path free t.no_colon refl) (subst (λ p. ReachesSecure word p (secure_reading v.user (Some host) None v.path)) (sym (from_tilde_kept v.path second)) reached)

-- with a path after it a word isn't an option if it isn't one itself
word_option : (user : Option (List ℕ)) (host path : List ℕ) → 0 < length host → IfSome user (λ u. is_option_like u ≡ false) → is_option_like host ≡ false → is_option_like (word_of user host ++ colon ∷ path) ≡ false
word_option user host path h3 h4 h5 = grind (arith, nat_tests)

-- the location's own fields, as Git reads them
scp_reading : (v : Location) (host : List ℕ) → v.scheme ≡ ssh → IsSettledScp v → own_reading v (Some host) ≡ secure_reading v.user (Some host) None v.path
scp_reading v host e h = λ i. record { protocol = e i; user = v.user; host = Some host; port = h.no_port i; path = v.path }

-- a settled location in the scp form whose host is a name
scp_name_alike : (v : Location) (host : List ℕ) → v.scheme ≡ ssh → AgreesByTransport v → SuitsTransport ssh v → IsSettledScp v → v.host ≡ Some host → IsScpName host → IsScpWritten v (raw_host (Some host)) → IsReadBy ssh v
scp_name_alike v host e a suits h there name has =
    let found = scp_text v host h there name has in
    let free = scp_free v host h.flagged a.plain e there in
    own_read v (Some host) (word_of v.user host ++ colon ∷ v.path) (secure_reading v.user (Some host) None v.path) (secure_host v (Some host) e there) (scp_reading v host e h) found.written (free 0 refl refl refl) (word_option v.user host v.path name.normal.unbracketed.nonempty a.no_option.user (host_safe v host there a.no_option)) (scp_reads v host h found a suits.0 suits.1 suits.2 (free left_bracket refl refl refl))

-- ---- the scp form with an address

-- the pieces of a settled location in the scp form whose host is an address
record IsAddressedText (v : Location) (host : List ℕ) : Type 0 where
  there : v.host ≡ Some host
  address : IsIpv6Text host
  no_colon : FreeOf colon (raw_user v.user)
  no_slash : FreeOf slash (raw_user v.user)
  no_left : FreeOf left_bracket (raw_user v.user)
  no_zero : FreeOf 0 (raw_user v.user)
  neither : IsNeither (bracketed_place v.user host [] ++ colon ∷ v.path)
  written : text v ≡ Ok (bracketed_place v.user host [] ++ colon ∷ v.path)

-- an address is written in brackets
addressed_text : (v : Location) (host : List ℕ) → AgreesByTransport v → IsSettledScp v → v.host ≡ Some host → IsNormalAddress host → IsScpWritten v (raw_host (Some host)) → IsAddressedText v host
addressed_text v host a h there address has =
    let joined = ap (λ x. raw_user v.user ++ (x ++ colon ∷ v.path)) (address_raw host address) ∙ sym (append_assoc (raw_user v.user) (in_brackets host) (colon ∷ v.path)) in
    let free = scp_user_free v h.flagged a.plain in
    record {
      there = there;
      address = address.address;
      no_colon = user_free colon v.user refl (IfSome_then v.user h.user (λ u parts. parts.no_colon));
      no_slash = user_free slash v.user refl (IfSome_then v.user h.user (λ u parts. parts.no_slash));
      no_left = free left_bracket refl refl;
      no_zero = free 0 refl refl;
      neither = subst IsNeither joined has.neither;
      written = has.written ∙ ap Ok joined;
    }

-- its place is free of each byte that neither user nor address holds
addressed_free : (v : Location) (host : List ℕ) → IsAddressedText v host → (c : ℕ) → is_address_byte c ≡ false → (left_bracket == c) ≡ false → (right_bracket == c) ≡ false → FreeOf c (raw_user v.user) → FreeOf c (bracketed_place v.user host [])
addressed_free v host t c other left right free =
    free-append c (raw_user v.user) (left_bracket ∷ (host ++ right_bracket ∷ [])) free (free-cons c left_bracket (host ++ right_bracket ∷ []) left (free-append c host (right_bracket ∷ []) (address_free c host other t.address) (free-cons c right_bracket [] right refl)))

-- no word without a bracket comes before its first colon
addressed_word : (v : Location) (host word rest : List ℕ) → IsAddressedText v host → FreeOf left_bracket word → ¬ (bracketed_place v.user host [] ++ colon ∷ v.path ≡ word ++ colon ∷ rest)
addressed_word v host word rest t plain e =
    bracket_first (raw_user v.user) ((host ++ right_bracket ∷ []) ++ colon ∷ v.path) word rest t.no_colon plain (sym (append_assoc (raw_user v.user) (in_brackets host) (colon ∷ v.path)) ∙ e)

-- so the text is neither a URL nor for a remote helper nor for `rsync`
addressed_no_url : (v : Location) (host : List ℕ) → IsAddressedText v host → IsNoUrl (bracketed_place v.user host [] ++ colon ∷ v.path)
addressed_no_url v host t = record {
  no_mark = t.neither.no_mark;
  no_helper = t.neither.no_helper;
  no_empty_helper = λ rest e. addressed_word v host [] (colon ∷ rest) t refl e;
  no_rsync = λ rest e. addressed_word v host (codes "rsync") rest t refl e;
}

-- an address isn't empty
address_nonempty : (host : List ℕ) → IsIpv6Text host → 0 < length host
address_nonempty host address =
    let (x, y, z, e) = address_two_colons host address in
    subst (λ t. 0 < length t) (sym e) (some_after x (y ++ colon ∷ z))

-- Git reads in it the location's own fields
addressed_reads : (v : Location) (host : List ℕ) → IsAddressedText v host → AgreesByTransport v → is_tilde_second v.path ≡ false → ¬ (v.user ≡ Some []) → ReadsInput (bracketed_place v.user host [] ++ colon ∷ v.path) (secure_reading v.user (Some host) None v.path)
addressed_reads v host t a second named =
    let place = bracketed_place v.user host [] in
    let free : (c : ℕ) → is_address_byte c ≡ false → FreeOf c host = λ c other. address_free c host other t.address in
    let closed : (suffix : List ℕ) → FreeOf left_bracket suffix → FreeOf left_bracket (host ++ right_bracket ∷ suffix) = λ suffix plain. free-append left_bracket host (right_bracket ∷ suffix) (free left_bracket refl) (free-cons left_bracket right_bracket suffix refl plain) in
    let read = place_in_brackets v.user host None tt t.no_left (closed [] refl) (free right_bracket refl) (portless_coloned (raw_user v.user) host t.no_colon (address_two_colons host t.address)) in
    let reached = secure_reached v.user host None place v.path read.cut read.secure (free-append slash (raw_user v.user) host t.no_slash (free slash refl)) (free at_sign refl) (address_nonempty host t.address) named a.no_option.user (host_safe v host t.there a.no_option) a.no_option.path in
    ReadsInput.scp_form place v.path (addressed_no_url v host t) record { front = place; rest = v.path; joined = refl; no_slash = addressed_free v host t slash refl refl refl t.no_slash } (bracketed_cut colon v.user host [] v.path t.no_left (closed (colon ∷ v.path) (path_free v a.plain left_bracket refl)) (free right_bracket refl) refl) (subst (λ p. ReachesSecure place p (secure_reading v.user (Some host) None v.path)) (sym (from_tilde_kept v.path second)) reached)

-- a bracket or a user comes first, so the text isn't an option if the user isn't
addressed_option : (user : Option (List ℕ)) (inside path : List ℕ) → IfSome user (λ u. is_option_like u ≡ false) → is_option_like (bracketed_place user inside [] ++ colon ∷ path) ≡ false
addressed_option user inside path h3 = grind (arith, nat_tests)

-- a settled location in the scp form whose host is an address
addressed_alike : (v : Location) (host : List ℕ) → v.scheme ≡ ssh → AgreesByTransport v → SuitsTransport ssh v → IsSettledScp v → v.host ≡ Some host → IsNormalAddress host → IsScpWritten v (raw_host (Some host)) → IsReadBy ssh v
addressed_alike v host e a suits h there address has =
    let found = addressed_text v host a h there address has in
    let place = bracketed_place v.user host [] in
    let zero = free-append 0 place (colon ∷ v.path) (addressed_free v host found 0 refl refl refl found.no_zero) (free-cons 0 colon v.path refl (path_free v a.plain 0 refl)) in
    own_read v (Some host) (place ++ colon ∷ v.path) (secure_reading v.user (Some host) None v.path) (secure_host v (Some host) e there) (scp_reading v host e h) found.written zero (addressed_option v.user host v.path a.no_option.user) (addressed_reads v host found a suits.0 suits.2)

-- a settled location in the scp form, by its host
scp_alike_by : (v : Location) (host : List ℕ) → v.scheme ≡ ssh → AgreesByTransport v → SuitsTransport ssh v → IsSettledScp v → v.host ≡ Some host → IsScpWritten v (raw_host (Some host)) → IsScpName host ⊎ IsNormalAddress host → IsReadBy ssh v
scp_alike_by v host e a suits h there has (inl name) = scp_name_alike v host e a suits h there name has
scp_alike_by v host e a suits h there has (inr address) = addressed_alike v host e a suits h there address has

-- a settled location in the scp form
scp_alike : (v : Location) → v.scheme ≡ ssh → IsValue v → AgreesByTransport v → SuitsTransport ssh v → IsSettledScp v → IsReadBy ssh v
scp_alike v e is a suits h =
    let (host, there, kind, other) = h.host in
    scp_alike_by v host e a suits h there (scp_has v host e is h there kind other) kind

-- ---- all kinds

-- of Git's own transports, by scheme
transport_read : (p : Scheme) (v : Location) → v.scheme ≡ p → IsValue v → AgreesByTransport v → SuitsTransport p v → IsSettledBy p v → IsReadBy p v
transport_read file v e is a suits (inl h) = local_alike v e a suits.1 h
transport_read file v e is a suits (inr h) = file_url_alike v e a suits.0 (suits.2 h.unflagged) h
transport_read ssh v e is a suits (inl h) = scp_alike v e is a suits h
transport_read ssh v e is a suits (inr h) = secure_url_alike v e is a suits.2 h
transport_read git v e is a suits h = git_url_alike v e is a suits.0 suits.1 h
transport_read _ v e is a suits h = absurd suits

-- of HTTP both readers read the location's own
web_read : (v : Location) → IsWeb v → IsValue v → AgreesOverWeb v → (t : List ℕ) × (text v ≡ Ok t) × ReadsOwnOverWeb t v
web_read v web is a =
    let (host, there, kind) = a.host in
    let (uri, reads, own, normal) = uri_own v web is a host there in
    (canonical_text v, web_text v web a, record { host = host; there = there; credential = credential_own v web is a host there; uri = uri; reads = reads; own = own; normal = normal })

-- by scheme
read_by : (p : Scheme) (v : Location) → v.scheme ≡ p → IsValue v → AgreesBy p v → IsReadBy p v
read_by http v e is a = web_read v (inl e) is a
read_by https v e is a = web_read v (inr e) is a
read_by p v e is a = transport_read p v e is a (subst (λ q. SuitsTransport q v) e a.suits) (subst (λ q. IsSettledBy q v) e a.settled)

-- Git reads in the text of each location of the class the location's own parts
pub read_same : ReadAlike
read_same v is a =
    let (whole, has, own) = read_by v.scheme v refl is a in record {
      written = whole;
      has_text = has;
      read = λ t written. subst (λ x. ReadsOwnBy v.scheme x v) (one_text has written) own;
    }
