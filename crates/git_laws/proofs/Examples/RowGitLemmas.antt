-- Rows on texts that Git reads, by their cuts, and on texts that it doesn't read.
use Rattle.std.proofs.Common.{◌≡◌, ◌∙◌, ◌==◌, ◌&&◌, ◌<◌, ℕ, true, false, inl, inr, List, [], ◌∷◌, ◌++◌, Option, Some, None, length, codes, refl, sym, ap, subst, arith, lit<}
use Rattle.std.proofs.lemmas.Bool.Decides.{nat_tests}
use Rattle.std.proofs.lemmas.Bool.{false≢true, true≢false}
use Rattle.git_syntax.specs.Location.{Scheme}
use Rattle.git_syntax.specs.Location.Scheme.{file, git, ssh}
use Rattle.git_syntax.specs.Bytes.{tab, newline, slash, colon, at_sign, left_bracket, right_bracket, tilde, FreeOf, Holds, Lacks, StartsPath, begins_with, is_helper_name, is_path_start, is_option_like}
use Rattle.git_syntax.specs.Schemes.{scheme_of}
use Rattle.git_syntax.specs.Authority.{unless_empty}
use Rattle.git_reads.specs.Git.{GitReading, on_this_machine, from_tilde, git_decode, host_mark, OpensHost, BracketCut, LacksHostBrackets, HostEnd, CutsPlace, BeforePort, HostAndPort, SecurePort, UserCut, ReachesSecure, ReachesGit, OwnUrl, IsNoUrl, ReadsInput, GitReads}
use Rattle.git_laws.specs.Examples.GitRows.{asked, by_ssh, by_git, CredentialRows, GitUrlRows, GitTextRows, NoGitRows}
use Rattle.git_reads.specs.Credentials.{are_slashes, AreOneLine, CredentialCut, CredentialDecodes, CredentialReads, trimmed_path}
use Rattle.git_syntax.proofs.Texts.CutLemmas.{cut_unique, different_bytes, free-cons, held_free, last_cut_unique, not_free}
use Rattle.git_laws.proofs.Examples.RowFormLemmas.{holds, not_held, no_helper_at}
use Rattle.git_laws.proofs.GitReadings.GitCutLemmas.{git_decode_kept, lacks_brackets, nothing_passed, place_cut, portless_free}
use Rattle.git_reads.proofs.Reading.UniqueLemmas.{host_unique, is_own, own_free, own_unique, place_unique, remote_not_local, secure_unique}
use Rattle.git_reads.proofs.Texts.PlaceLemmas.{host_end_unique}

-- ---- cuts

-- a bracket at the front opens the host
at_front : (inside suffix : List ℕ) → ¬ Holds host_mark (left_bracket ∷ (inside ++ right_bracket ∷ suffix)) → FreeOf right_bracket inside → BracketCut (left_bracket ∷ (inside ++ right_bracket ∷ suffix)) [] inside suffix
at_front inside suffix none next = record { opened = OpensHost.at_front none refl refl; next = next }

-- or the first one after an `@`
after_at : (user inside suffix : List ℕ) → ¬ Holds host_mark user → FreeOf right_bracket inside → BracketCut (user ++ (host_mark ++ (inside ++ right_bracket ∷ suffix))) (user ++ at_sign ∷ []) inside suffix
after_at user inside suffix none next = record { opened = OpensHost.after_at user none refl refl; next = next }

-- the place goes to the first c after the brackets
bracket_cut : (c : ℕ) (t front inside between rest : List ℕ) → BracketCut t front inside (between ++ c ∷ rest) → (right_bracket == c) ≡ false → FreeOf c between → CutsPlace c t ((front ++ left_bracket ∷ inside) ++ right_bracket ∷ between) rest
bracket_cut c t front inside between rest h other first = record {
  passed = front ++ left_bracket ∷ inside;
  between = right_bracket ∷ between;
  end = HostEnd.brackets front inside (between ++ c ∷ rest) h refl refl;
  first = free-cons c right_bracket between other first;
  joined = refl;
}

-- ---- transports

-- a URL whose rest is decoded to this
url : (p : Scheme) (scheme spelled rest : List ℕ) → scheme_of scheme ≡ p → rest ≡ git_decode spelled → OwnUrl p (scheme ++ (codes "://" ++ spelled)) rest
url p scheme spelled rest own decoded = record { scheme = scheme; spelled = spelled; own = own; joined = refl; decoded = decoded }

-- the word that Secure Shell gets
reached : (place path named word host : List ℕ) (found port : Option ℕ) (user : Option (List ℕ)) → HostAndPort place named found → SecurePort named found word port → UserCut word user host → is_option_like word ≡ false → is_option_like path ≡ false → holds (codes "ssh://") word ≡ false → ReachesSecure place path (by_ssh user (unless_empty host) port path)
reached place path named word host found port user cut secure split first second other = record {
  named = named;
  found = found;
  word = word;
  host = host;
  user = user;
  port = port;
  cut = cut;
  secure = secure;
  word_safe = first;
  path_safe = second;
  no_url = λ rest e. not_held (codes "ssh://") word other ([], rest, e);
  split = split;
  value = refl;
}

-- a word without colons and brackets, and no port
plain_word : (word host path : List ℕ) (user : Option (List ℕ)) → FreeOf left_bracket word → FreeOf colon word → UserCut word user host → is_option_like word ≡ false → is_option_like path ≡ false → holds (codes "ssh://") word ≡ false → ReachesSecure word path (by_ssh user (unless_empty host) None path)
plain_word word host path user unbracketed free split first second other =
    let portless = portless_free word free in
    reached word path word word host None None user (HostAndPort.none (lacks_brackets word unbracketed) portless.before) portless.secure split first second other

-- a place in brackets, with only the place's own rest after them
enclosed : (place front inside suffix dropped : List ℕ) (found : Option ℕ) → BracketCut place front inside suffix → BeforePort suffix dropped found → HostAndPort place (front ++ inside) found
enclosed place front inside suffix dropped found h port = HostAndPort.brackets front inside suffix dropped h refl port

-- ---- URLs

-- a URL of Secure Shell without brackets and escapes, without a user, and with a port or none
secure_row : (place path named : List ℕ) (port : Option ℕ) → FreeOf 37 (place ++ slash ∷ path) → FreeOf left_bracket (place ++ slash ∷ path) → FreeOf slash place → FreeOf left_bracket place → BeforePort place named port → SecurePort named port named port → FreeOf at_sign named → is_option_like named ≡ false → is_option_like (from_tilde (slash ∷ path)) ≡ false → FreeOf 0 (codes "ssh://" ++ (place ++ slash ∷ path)) → holds (codes "ssh://") named ≡ false → GitReads (codes "ssh://" ++ (place ++ slash ∷ path)) (by_ssh None (unless_empty named) port (from_tilde (slash ∷ path)))
secure_row place path named port raw unbracketed free inside before secure userless first second whole other =
    let rest = place ++ slash ∷ path in
    let word = reached place (from_tilde (slash ∷ path)) named named named port port None (HostAndPort.none (lacks_brackets place inside) before) secure (UserCut.host_alone userless refl refl) first second other in
    record { whole = whole; no_option = refl; reads = ReadsInput.secure_url rest place path (url ssh (codes "ssh") rest rest refl (sym (git_decode_kept rest raw))) (place_cut slash rest place path unbracketed free refl) word }

-- a place of Git's own protocol without brackets
git_row : (spelled rest place path host : List ℕ) (port : Option ℕ) → rest ≡ git_decode spelled → FreeOf left_bracket rest → FreeOf slash place → rest ≡ place ++ slash ∷ path → FreeOf left_bracket place → BeforePort place host port → unless_empty host ≡ Some host → FreeOf 10 place → FreeOf 10 (from_tilde (slash ∷ path)) → FreeOf 0 (codes "git://" ++ spelled) → GitReads (codes "git://" ++ spelled) (by_git host port (from_tilde (slash ∷ path)))
git_row spelled rest place path host port decoded unbracketed free cut inside before some line ended whole = record {
  whole = whole;
  no_option = refl;
  reads = ReadsInput.git_url rest place path (url git (codes "git") spelled rest refl decoded) (place_cut slash rest place path unbracketed free cut) record {
    host = host;
    port = port;
    cut = HostAndPort.none (lacks_brackets place inside) before;
    place_line = line;
    path_line = ended;
    value = ap (λ h. record { protocol = git; user = None; host = h; port = port; path = from_tilde (slash ∷ path) }) (sym some);
  };
}

-- the host of a file URL is passed over
file_row : (place path : List ℕ) → FreeOf 37 (place ++ slash ∷ path) → FreeOf left_bracket (place ++ slash ∷ path) → FreeOf slash place → FreeOf 0 (codes "file://" ++ (place ++ slash ∷ path)) → GitReads (codes "file://" ++ (place ++ slash ∷ path)) (on_this_machine (slash ∷ path))
file_row place path raw unbracketed free whole =
    let rest = place ++ slash ∷ path in
    record { whole = whole; no_option = refl; reads = ReadsInput.file_url rest place path (url file (codes "file") rest rest refl (sym (git_decode_kept rest raw))) (place_cut slash rest place path unbracketed free refl) refl }

-- URLs
pub git_url_rows : GitUrlRows
git_url_rows = (
  -- a password belongs to the user, and the port to the host
  let place = codes "u:p@h:22" in
      let word = reached place (codes "/p") place place (codes "h:22") None None (Some (codes "u:p")) (HostAndPort.none (lacks_brackets place refl) (BeforePort.unmarked (codes "u") (codes "p@h:22") refl refl (lit< tt) refl refl refl)) (SecurePort.unmarked (codes "u") (codes "p@h:22") refl refl refl refl refl refl) (UserCut.with_user (codes "u:p") (lit< tt) refl refl refl) refl refl refl in
      record { whole = refl; no_option = refl; reads = ReadsInput.secure_url (codes "u:p@h:22/p") place (codes "p") (url ssh (codes "ssh") (codes "u:p@h:22/p") (codes "u:p@h:22/p") refl refl) (place_cut slash (codes "u:p@h:22/p") place (codes "p") refl refl refl) word },
  -- white space, a sign and zeros before a port
  let place = codes "h: +022" in
      let word = reached place (codes "/p") (codes "h") (codes "h") (codes "h") (Some 22) (Some 22) None (HostAndPort.none (lacks_brackets place refl) (BeforePort.marked (codes " +022") 22 refl refl refl refl)) (SecurePort.outside 22 refl refl refl) (UserCut.host_alone refl refl refl) refl refl refl in
      record { whole = refl; no_option = refl; reads = ReadsInput.secure_url (codes "h: +022/p") place (codes "p") (url ssh (codes "ssh") (codes "h: +022/p") (codes "h: +022/p") refl refl) (place_cut slash (codes "h: +022/p") place (codes "p") refl refl refl) word },
  -- a tab before a port
  secure_row (codes "h:" ++ tab ∷ codes "22") (codes "p") (codes "h") (Some 22) refl refl refl refl (BeforePort.marked (tab ∷ codes "22") 22 refl refl refl refl) (SecurePort.outside 22 refl refl refl) refl refl refl refl refl,
  -- no number below zero is a port, but `-0` is 0
  secure_row (codes "h:-0") (codes "p") (codes "h") (Some 0) refl refl refl refl (BeforePort.marked (codes "-0") 0 refl refl refl refl) (SecurePort.outside 0 refl refl refl) refl refl refl refl refl,
  -- so any other belongs to the host
  secure_row (codes "h:-5") (codes "p") (codes "h:-5") None refl refl refl refl (BeforePort.unmarked (codes "h") (codes "-5") refl refl (lit< tt) refl refl refl) (SecurePort.unmarked (codes "h") (codes "-5") refl refl refl refl refl refl) refl refl refl refl refl,
  -- the largest port
  secure_row (codes "h:65535") (codes "p") (codes "h") (Some 65535) refl refl refl refl (BeforePort.marked (codes "65535") 65535 refl refl refl refl) (SecurePort.outside 65535 refl refl refl) refl refl refl refl refl,
  -- and a number past it, which belongs to the host
  secure_row (codes "h:65536") (codes "p") (codes "h:65536") None refl refl refl refl (BeforePort.unmarked (codes "h") (codes "65536") refl refl (lit< tt) refl refl refl) (SecurePort.unmarked (codes "h") (codes "65536") refl refl refl refl refl refl) refl refl refl refl refl,
  -- a colon without a port is passed over
  secure_row (codes "h:") (codes "p") (codes "h") None refl refl refl refl (BeforePort.colon_alone refl refl refl) (SecurePort.no_colon refl refl refl refl) refl refl refl refl refl,
  -- a bracket that isn't closed belongs to the host
  let place = codes "[h" in
      let open_place = LacksHostBrackets.unclosed [] (codes "h") (OpensHost.at_front (not_held host_mark place refl) refl refl) refl in
      let open_rest = LacksHostBrackets.unclosed [] (codes "h/p") (OpensHost.at_front (not_held host_mark (codes "[h/p") refl) refl refl) refl in
      let word = reached place (codes "/p") place place place None None None (HostAndPort.none open_place (BeforePort.no_colon refl refl refl)) (SecurePort.no_colon refl refl refl refl) (UserCut.host_alone refl refl refl) refl refl refl in
      let cut : CutsPlace slash (codes "[h/p") place (codes "p") = record { passed = []; between = place; end = HostEnd.none open_rest refl refl; first = refl; joined = refl } in
      record { whole = refl; no_option = refl; reads = ReadsInput.secure_url (codes "[h/p") place (codes "p") (url ssh (codes "ssh") (codes "[h/p") (codes "[h/p") refl refl) cut word },
  -- a bracket in the path opens the host
  let place = codes "h/@[x]" in
      let opened = after_at (codes "h/") (codes "x") (codes "/p") (not_held host_mark (codes "h/") refl) refl in
      let inner = after_at (codes "h/") (codes "x") [] (not_held host_mark (codes "h/") refl) refl in
      let word = reached place (codes "/p") (codes "h/@x") (codes "h/@x") (codes "x") None None (Some (codes "h/")) (enclosed place (codes "h/@") (codes "x") [] [] None inner (BeforePort.no_colon refl refl refl)) (SecurePort.no_colon refl refl refl refl) (UserCut.with_user (codes "h/") (lit< tt) refl refl refl) refl refl refl in
      record { whole = refl; no_option = refl; reads = ReadsInput.secure_url (codes "h/@[x]/p") place (codes "p") (url ssh (codes "ssh") (codes "h/@[x]/p") (codes "h/@[x]/p") refl refl) (bracket_cut slash (codes "h/@[x]/p") (codes "h/@") (codes "x") [] (codes "p") opened refl refl) word },
  -- a port in brackets
  let place = codes "[h:22]" in
      let opened = at_front (codes "h:22") (codes "/p") (not_held host_mark (codes "[h:22]/p") refl) refl in
      let inner = at_front (codes "h:22") [] (not_held host_mark place refl) refl in
      let word = reached place (codes "/p") (codes "h:22") (codes "h") (codes "h") None (Some 22) None (enclosed place [] (codes "h:22") [] [] None inner (BeforePort.no_colon refl refl refl)) (SecurePort.inside (codes "22") 22 refl refl refl refl refl) (UserCut.host_alone refl refl refl) refl refl refl in
      record { whole = refl; no_option = refl; reads = ReadsInput.secure_url (codes "[h:22]/p") place (codes "p") (url ssh (codes "ssh") (codes "[h:22]/p") (codes "[h:22]/p") refl refl) (bracket_cut slash (codes "[h:22]/p") [] (codes "h:22") [] (codes "p") opened refl refl) word },
  -- a port after an address in brackets
  let place = codes "[::1]:22" in
      let opened = at_front (codes "::1") (codes ":22/p") (not_held host_mark (codes "[::1]:22/p") refl) refl in
      let inner = at_front (codes "::1") (codes ":22") (not_held host_mark place refl) refl in
      let word = reached place (codes "/p") (codes "::1") (codes "::1") (codes "::1") (Some 22) (Some 22) None (enclosed place [] (codes "::1") (codes ":22") [] (Some 22) inner (BeforePort.marked (codes "22") 22 refl refl refl refl)) (SecurePort.outside 22 refl refl refl) (UserCut.host_alone refl refl refl) refl refl refl in
      record { whole = refl; no_option = refl; reads = ReadsInput.secure_url (codes "[::1]:22/p") place (codes "p") (url ssh (codes "ssh") (codes "[::1]:22/p") (codes "[::1]:22/p") refl refl) (bracket_cut slash (codes "[::1]:22/p") [] (codes "::1") (codes ":22") (codes "p") opened refl refl) word },
  -- the text after a bracket is dropped
  let place = codes "[x]u@h" in
      let opened = at_front (codes "x") (codes "u@h/p") (not_held host_mark (codes "[x]u@h/p") refl) refl in
      let inner = at_front (codes "x") (codes "u@h") (not_held host_mark place refl) refl in
      let word = reached place (codes "/p") (codes "x") (codes "x") (codes "x") None None None (enclosed place [] (codes "x") (codes "u@h") (codes "u@h") None inner (BeforePort.no_colon refl refl refl)) (SecurePort.no_colon refl refl refl refl) (UserCut.host_alone refl refl refl) refl refl refl in
      record { whole = refl; no_option = refl; reads = ReadsInput.secure_url (codes "[x]u@h/p") place (codes "p") (url ssh (codes "ssh") (codes "[x]u@h/p") (codes "[x]u@h/p") refl refl) (bracket_cut slash (codes "[x]u@h/p") [] (codes "x") (codes "u@h") (codes "p") opened refl refl) word },
  -- no host, and a home folder
  record {
    whole = refl;
    no_option = refl;
    reads = ReadsInput.secure_url (codes "/~") [] (codes "~") (url ssh (codes "ssh") (codes "/~") (codes "/~") refl refl) (place_cut slash (codes "/~") [] (codes "~") refl refl refl) (plain_word [] [] (codes "~") None refl refl (UserCut.host_alone refl refl refl) refl refl refl);
  },
  git_row (codes "h%2Fx/p") (codes "h/x/p") (codes "h") (codes "x/p") (codes "h") None refl refl refl refl refl (BeforePort.no_colon refl refl refl) refl refl refl refl,
  git_row (codes "h/p%00q") (codes "h/p%00q") (codes "h") (codes "p%00q") (codes "h") None refl refl refl refl refl (BeforePort.no_colon refl refl refl) refl refl refl refl,
  git_row (codes "u@h:22/p") (codes "u@h:22/p") (codes "u@h:22") (codes "p") (codes "u@h") (Some 22) refl refl refl refl refl (BeforePort.marked (codes "22") 22 refl refl refl refl) refl refl refl refl,
  -- brackets that are written as escapes
  let place = codes "[::1]:22" in
      let opened = at_front (codes "::1") (codes ":22/p") (not_held host_mark (codes "[::1]:22/p") refl) refl in
      let inner = at_front (codes "::1") (codes ":22") (not_held host_mark place refl) refl in
      let word : ReachesGit place (codes "/p") (by_git (codes "::1") (Some 22) (codes "/p")) = record { host = codes "::1"; port = Some 22; cut = enclosed place [] (codes "::1") (codes ":22") [] (Some 22) inner (BeforePort.marked (codes "22") 22 refl refl refl refl); place_line = refl; path_line = refl; value = refl } in
      record { whole = refl; no_option = refl; reads = ReadsInput.git_url (codes "[::1]:22/p") place (codes "p") (url git (codes "git") (codes "%5B%3A%3A1%5D:22/p") (codes "[::1]:22/p") refl refl) (bracket_cut slash (codes "[::1]:22/p") [] (codes "::1") (codes ":22") (codes "p") opened refl refl) word },
  file_row (codes "h") (codes "p") refl refl refl refl,
  file_row (codes "~") (codes "x") refl refl refl refl,
  file_row [] (codes "~/x") refl refl refl refl,
)

-- ---- other texts

-- a text with a colon after neither a helper's name nor `rsync`
no_url : (t front rest : List ℕ) → t ≡ front ++ colon ∷ rest → FreeOf colon front → ¬ Holds (codes "://") t → (is_helper_name front && begins_with colon rest) ≡ false → ¬ (front ≡ []) → ¬ (front ≡ codes "rsync") → IsNoUrl t
no_url t front rest e free none other some apart = record {
  no_mark = none;
  no_helper = no_helper_at t front rest e free other;
  no_empty_helper = λ more is. some (cut_unique colon front [] rest (colon ∷ more) free refl (sym e ∙ is)).0;
  no_rsync = λ more is. apart (cut_unique colon front (codes "rsync") rest more free refl (sym e ∙ is)).0;
}

-- a text without a colon
no_url_free : (t : List ℕ) → FreeOf colon t → IsNoUrl t
no_url_free t free = record {
  no_mark = held_free t free;
  no_helper = λ (name, address, parts). not_free colon name (colon ∷ address) (subst (λ s. FreeOf colon s) parts.joined free);
  no_empty_helper = λ more is. not_free colon [] (colon ∷ more) (subst (λ s. FreeOf colon s) is free);
  no_rsync = λ more is. not_free colon (codes "rsync") more (subst (λ s. FreeOf colon s) is free);
}

-- a local path without colons and brackets, that begins with neither `-` nor `~`
plain_local_row : (t : List ℕ) → FreeOf colon t → FreeOf left_bracket t → 0 < length t → is_option_like t ≡ false → begins_with tilde t ≡ false → FreeOf 0 t → GitReads t (on_this_machine t)
plain_local_row t free unbracketed some safe homeless whole = record {
  whole = whole;
  no_option = safe;
  reads = ReadsInput.local_path [] t (no_url_free t free) (inl free) (nothing_passed t unbracketed) some safe homeless refl;
}

-- other texts
pub git_text_rows : GitTextRows
git_text_rows = (
  let place = codes "[u@h]" in
      let none = not_held host_mark (codes "[u@h]:p") refl in
      let word = reached place (codes "p") (codes "u@h") (codes "u@h") (codes "h") None None (Some (codes "u")) (enclosed place [] (codes "u@h") [] [] None (at_front (codes "u@h") [] (not_held host_mark place refl) refl) (BeforePort.no_colon refl refl refl)) (SecurePort.no_colon refl refl refl refl) (UserCut.with_user (codes "u") (lit< tt) refl refl refl) refl refl refl in
      record { whole = refl; no_option = refl; reads = ReadsInput.scp_form place (codes "p") (no_url (codes "[u@h]:p") place (codes "p") refl refl (not_held (codes "://") (codes "[u@h]:p") refl) refl (λ e. cc) (λ e. different_bytes 91 114 refl e)) record { front = place; rest = codes "p"; joined = refl; no_slash = refl } (bracket_cut colon (codes "[u@h]:p") [] (codes "u@h") [] (codes "p") (at_front (codes "u@h") (codes ":p") none refl) refl refl) word },
  -- brackets after a colon
  let place = codes "u:p@[h]" in
      let none = not_held host_mark (codes "u:p") refl in
      let word = reached place (codes "q") (codes "u:p@h") (codes "u:p@h") (codes "h") None None (Some (codes "u:p")) (enclosed place (codes "u:p@") (codes "h") [] [] None (after_at (codes "u:p") (codes "h") [] none refl) (BeforePort.no_colon refl refl refl)) (SecurePort.unmarked (codes "u") (codes "p@h") refl refl refl refl refl refl) (UserCut.with_user (codes "u:p") (lit< tt) refl refl refl) refl refl refl in
      record { whole = refl; no_option = refl; reads = ReadsInput.scp_form place (codes "q") (no_url (codes "u:p@[h]:q") (codes "u") (codes "p@[h]:q") refl refl (not_held (codes "://") (codes "u:p@[h]:q") refl) refl (λ e. cc) (λ e. different_bytes 117 114 refl e)) record { front = codes "u"; rest = codes "p@[h]:q"; joined = refl; no_slash = refl } (bracket_cut colon (codes "u:p@[h]:q") (codes "u:p@") (codes "h") [] (codes "q") (after_at (codes "u:p") (codes "h") (codes ":q") none refl) refl refl) word },
  -- an address in brackets, of whose colons none marks a port
  let place = codes "u@[::1]" in
      let none = not_held host_mark (codes "u") refl in
      let word = reached place (codes "p") (codes "u@::1") (codes "u@::1") (codes "::1") None None (Some (codes "u")) (enclosed place (codes "u@") (codes "::1") [] [] None (after_at (codes "u") (codes "::1") [] none refl) (BeforePort.no_colon refl refl refl)) (SecurePort.unmarked (codes "u@") (codes ":1") refl refl refl refl refl refl) (UserCut.with_user (codes "u") (lit< tt) refl refl refl) refl refl refl in
      record { whole = refl; no_option = refl; reads = ReadsInput.scp_form place (codes "p") (no_url (codes "u@[::1]:p") (codes "u@[") (codes ":1]:p") refl refl (not_held (codes "://") (codes "u@[::1]:p") refl) refl (λ e. cc) (λ e. different_bytes 117 114 refl e)) record { front = codes "u@["; rest = codes ":1]:p"; joined = refl; no_slash = refl } (bracket_cut colon (codes "u@[::1]:p") (codes "u@") (codes "::1") [] (codes "p") (after_at (codes "u") (codes "::1") (codes ":p") none refl) refl refl) word },
  -- a byte before `~` is lost
  record {
    whole = refl;
    no_option = refl;
    reads = ReadsInput.scp_form (codes "h") (codes "a~u/p") (no_url (codes "h:a~u/p") (codes "h") (codes "a~u/p") refl refl (not_held (codes "://") (codes "h:a~u/p") refl) refl (λ e. cc) (λ e. different_bytes 104 114 refl e)) record { front = codes "h"; rest = codes "a~u/p"; joined = refl; no_slash = refl } (place_cut colon (codes "h:a~u/p") (codes "h") (codes "a~u/p") refl refl refl) (plain_word (codes "h") (codes "h") (codes "~u/p") None refl refl (UserCut.host_alone refl refl refl) refl refl refl);
  },
  -- a local path with brackets
  record {
    whole = refl;
    no_option = refl;
    reads = ReadsInput.local_path (codes "/srv/a@[b") (codes "]/c") (no_url_free (codes "/srv/a@[b]/c") refl) (inl refl) (HostEnd.brackets (codes "/srv/a@") (codes "b") (codes "/c") (after_at (codes "/srv/a") (codes "b") (codes "/c") (not_held host_mark (codes "/srv/a") refl) refl) refl refl) (lit< tt) refl refl refl;
  },
  -- a local path with a colon
  record {
    whole = refl;
    no_option = refl;
    reads = ReadsInput.local_path [] (codes "./a:b") (no_url (codes "./a:b") (codes "./a") (codes "b") refl refl (not_held (codes "://") (codes "./a:b") refl) refl (λ e. cc) (λ e. different_bytes 46 114 refl e)) (inr (codes ".", codes "a:b", refl, refl)) (nothing_passed (codes "./a:b") refl) (lit< tt) refl refl refl;
  },
  plain_local_row (codes "./~/x") refl refl (lit< tt) refl refl refl,
  plain_local_row (codes "/~root/x") refl refl (lit< tt) refl refl refl,
)

-- ---- texts without a reading

-- a text without `://` isn't a URL
not_own : {A : Type 0} (p : Scheme) (t rest : List ℕ) → ¬ Holds (codes "://") t → OwnUrl p t rest → A
not_own p t rest none h = absurd (none (h.scheme, h.spelled, h.joined))

-- a text that is neither a URL nor another text that Git reads itself
neither_read : (t : List ℕ) (reading : GitReading) → ¬ Holds (codes "://") t → ¬ IsNoUrl t → ReadsInput t reading → ⊥
neither_read t reading h2 h3 h4 = grind (arith, nat_tests, not_own)

-- a URL of a transport is cut as it is here
own_cut : (p : Scheme) (scheme spelled x place path name more : List ℕ) → is_own p ≡ true → scheme_of scheme ≡ p → OwnUrl p (scheme ++ (codes "://" ++ spelled)) x → CutsPlace slash x place path → CutsPlace slash (git_decode spelled) name more → (place ≡ name) × (path ≡ more)
own_cut p scheme spelled x place path name more own is u c d =
    let rests = (own_unique p p (scheme ++ (codes "://" ++ spelled)) x (git_decode spelled) own own u (url p scheme spelled (git_decode spelled) is refl)).1 in
    place_unique slash (git_decode spelled) place path name more (subst (λ r. CutsPlace slash r place path) rests c) d

-- and is one of no other
other_own : {A : Type 0} (p q : Scheme) (scheme spelled x : List ℕ) → is_own p ≡ true → is_own q ≡ true → scheme_of scheme ≡ p → ¬ (p ≡ q) → OwnUrl q (scheme ++ (codes "://" ++ spelled)) x → A
other_own p q scheme spelled x first second is differ u =
    absurd (differ (own_unique p q (scheme ++ (codes "://" ++ spelled)) (git_decode spelled) x first second (url p scheme spelled (git_decode spelled) is refl) u).0)

-- a URL of HTTP is none of a transport
no_own : {A : Type 0} (p : Scheme) (rest : List ℕ) → is_own p ≡ true → OwnUrl p (codes "http://h/p") rest → A
no_own p rest own h =
    let same = (cut_unique colon h.scheme (codes "http") (slash ∷ slash ∷ h.spelled) (codes "//h/p") (own_free p h.scheme h.own own) refl (sym h.joined)).0 in
    absurd (false≢true (ap (λ s. is_own (scheme_of s)) (sym same) ∙ ap is_own h.own ∙ own))

-- nor is it another text that Git reads itself
web_row : (reading : GitReading) → ReadsInput (codes "http://h/p") reading → ⊥
web_row r (ReadsInput.secure_url x place path u c h) = no_own ssh x refl u
web_row r (ReadsInput.git_url x place path u c h) = no_own git x refl u
web_row r (ReadsInput.file_url x place path u c h) = no_own file x refl u
web_row r (ReadsInput.scp_form place path n m c h) = n.no_mark (codes "http", codes "h/p", refl)
web_row r (ReadsInput.local_path p path n l e some safe low is) = n.no_mark (codes "http", codes "h/p", refl)

-- a path that begins with `-`
dash_row : (reading : GitReading) → ReadsInput (codes "u@h:-p") reading → ⊥
dash_row r (ReadsInput.secure_url x place path u c h) = not_own ssh (codes "u@h:-p") x (not_held (codes "://") (codes "u@h:-p") refl) u
dash_row r (ReadsInput.git_url x place path u c h) = not_own git (codes "u@h:-p") x (not_held (codes "://") (codes "u@h:-p") refl) u
dash_row r (ReadsInput.file_url x place path u c h) = not_own file (codes "u@h:-p") x (not_held (codes "://") (codes "u@h:-p") refl) u
dash_row r (ReadsInput.scp_form place path n m c h) =
    let same = (place_unique colon (codes "u@h:-p") place path (codes "u@h") (codes "-p") c (place_cut colon (codes "u@h:-p") (codes "u@h") (codes "-p") refl refl refl)).1 in
    true≢false (subst (λ p. is_option_like (from_tilde p) ≡ false) same h.path_safe)
dash_row r (ReadsInput.local_path p path n l e some safe low is) =
    remote_not_local (codes "u@h:-p") record { front = codes "u@h"; rest = codes "-p"; joined = refl; no_slash = refl } l

-- a place without brackets and colons is the word
whole_word : (whole place path : List ℕ) (reading : GitReading) → FreeOf left_bracket whole → FreeOf colon whole → place ≡ whole → (h : ReachesSecure place path reading) → h.word ≡ whole
whole_word whole place path r unbracketed free same h =
    let portless = portless_free whole free in
    let named = host_unique whole h.named whole h.found None (subst (λ p. HostAndPort p h.named h.found) same h.cut) (HostAndPort.none (lacks_brackets whole unbracketed) portless.before) in
    let secure = subst (λ f. SecurePort whole f h.word h.port) named.1 (subst (λ n. SecurePort n h.found h.word h.port) named.0 h.secure) in
    (secure_unique whole None h.word whole h.port None secure portless.secure).0

-- a word that begins with `-`
dash_word : (reading : GitReading) (place path : List ℕ) → place ≡ codes "-h" → ReachesSecure place path reading → ⊥
dash_word r place path same h = true≢false (subst (λ w. is_option_like w ≡ false) (whole_word (codes "-h") place path r refl refl same h) h.word_safe)

-- a word that begins with its last `@`
unnamed_cut : (user : Option (List ℕ)) (host : List ℕ) → UserCut (codes "@h") user host → ⊥
unnamed_cut user host (UserCut.host_alone free none is) = true≢false free
unnamed_cut user host (UserCut.with_user u named free e some) =
    let empty = (last_cut_unique at_sign [] u (codes "h") host refl free e).0 in
    omega (arith, ap length empty, named)

unnamed_row : (reading : GitReading) → ReadsInput (codes "@h:p") reading → ⊥
unnamed_row r (ReadsInput.secure_url x place path u c h) = not_own ssh (codes "@h:p") x (not_held (codes "://") (codes "@h:p") refl) u
unnamed_row r (ReadsInput.git_url x place path u c h) = not_own git (codes "@h:p") x (not_held (codes "://") (codes "@h:p") refl) u
unnamed_row r (ReadsInput.file_url x place path u c h) = not_own file (codes "@h:p") x (not_held (codes "://") (codes "@h:p") refl) u
unnamed_row r (ReadsInput.scp_form place path n m c h) =
    let same = (place_unique colon (codes "@h:p") place path (codes "@h") (codes "p") c (place_cut colon (codes "@h:p") (codes "@h") (codes "p") refl refl refl)).0 in
    unnamed_cut h.user h.host (subst (λ w. UserCut w h.user h.host) (whole_word (codes "@h") place (from_tilde path) r refl refl same h) h.split)
unnamed_row r (ReadsInput.local_path p path n l e some safe low is) =
    remote_not_local (codes "@h:p") record { front = codes "@h"; rest = codes "p"; joined = refl; no_slash = refl } l

dash_host_row : (reading : GitReading) → ReadsInput (codes "ssh://-h/p") reading → ⊥
dash_host_row r (ReadsInput.secure_url x place path u c h) = dash_word r place (from_tilde (slash ∷ path)) (own_cut ssh (codes "ssh") (codes "-h/p") x place path (codes "-h") (codes "p") refl refl u c (place_cut slash (codes "-h/p") (codes "-h") (codes "p") refl refl refl)).0 h
dash_host_row r (ReadsInput.git_url x place path u c h) = other_own ssh git (codes "ssh") (codes "-h/p") x refl refl refl (λ e. cc) u
dash_host_row r (ReadsInput.file_url x place path u c h) = other_own ssh file (codes "ssh") (codes "-h/p") x refl refl refl (λ e. cc) u
dash_host_row r (ReadsInput.scp_form place path n m c h) = n.no_mark (codes "ssh", codes "-h/p", refl)
dash_host_row r (ReadsInput.local_path p path n l e some safe low is) = n.no_mark (codes "ssh", codes "-h/p", refl)

-- a word that is a URL of Secure Shell
inner_url_row : (reading : GitReading) → ReadsInput (codes "ssh://[ssh://u@x:22]/p") reading → ⊥
inner_url_row r (ReadsInput.secure_url x place path u c h) =
    let spelled = codes "[ssh://u@x:22]/p" in
    let inside = codes "ssh://u@x:22" in
    let whole = codes "[ssh://u@x:22]" in
    let outer = at_front inside (codes "/p") (not_held host_mark spelled refl) refl in
    let inner = at_front inside [] (not_held host_mark whole refl) refl in
    let same = (own_cut ssh (codes "ssh") spelled x place path whole (codes "p") refl refl u c (bracket_cut slash spelled [] inside [] (codes "p") outer refl refl)).0 in
    let named = host_unique whole h.named inside h.found None (subst (λ p. HostAndPort p h.named h.found) same h.cut) (enclosed whole [] inside [] [] None inner (BeforePort.no_colon refl refl refl)) in
    let secure = subst (λ f. SecurePort inside f h.word h.port) named.1 (subst (λ n. SecurePort n h.found h.word h.port) named.0 h.secure) in
    h.no_url (codes "u@x:22") (secure_unique inside None h.word inside h.port None secure (SecurePort.unmarked (codes "ssh") (codes "//u@x:22") refl refl refl refl refl refl)).0
inner_url_row r (ReadsInput.git_url x place path u c h) = other_own ssh git (codes "ssh") (codes "[ssh://u@x:22]/p") x refl refl refl (λ e. cc) u
inner_url_row r (ReadsInput.file_url x place path u c h) = other_own ssh file (codes "ssh") (codes "[ssh://u@x:22]/p") x refl refl refl (λ e. cc) u
inner_url_row r (ReadsInput.scp_form place path n m c h) = n.no_mark (codes "ssh", codes "[ssh://u@x:22]/p", refl)
inner_url_row r (ReadsInput.local_path p path n l e some safe low is) = n.no_mark (codes "ssh", codes "[ssh://u@x:22]/p", refl)

-- a local path that begins with `~`
home_row : (t : List ℕ) → FreeOf colon t → FreeOf left_bracket t → begins_with tilde t ≡ true → (reading : GitReading) → ReadsInput t reading → ⊥
home_row t free unbracketed begins r (ReadsInput.secure_url x place path u c h) = not_own ssh t x (held_free t free) u
home_row t free unbracketed begins r (ReadsInput.git_url x place path u c h) = not_own git t x (held_free t free) u
home_row t free unbracketed begins r (ReadsInput.file_url x place path u c h) = not_own file t x (held_free t free) u
home_row t free unbracketed begins r (ReadsInput.scp_form place path n m c h) = not_free colon m.front m.rest (subst (λ s. FreeOf colon s) m.joined free)
home_row t free unbracketed begins r (ReadsInput.local_path p path n l e some safe low is) =
    let same = (host_end_unique t p path [] t e (nothing_passed t unbracketed)).1 in
    true≢false (sym begins ∙ subst (λ s. begins_with tilde s ≡ false) same low)

-- an end of a line in the place or in the path of Git's own protocol
line_row : (spelled place path : List ℕ) → FreeOf left_bracket (git_decode spelled) → FreeOf slash place → git_decode spelled ≡ place ++ slash ∷ path → ¬ (FreeOf newline place × FreeOf newline (from_tilde (slash ∷ path))) → (reading : GitReading) → ReadsInput (codes "git://" ++ spelled) reading → ⊥
line_row spelled place path unbracketed free e held r (ReadsInput.secure_url x name more u c h) = other_own git ssh (codes "git") spelled x refl refl refl (λ e. cc) u
line_row spelled place path unbracketed free e held r (ReadsInput.git_url x name more u c h) =
    let same = own_cut git (codes "git") spelled x name more place path refl refl u c (place_cut slash (git_decode spelled) place path unbracketed free e) in
    held (subst (λ p. FreeOf newline p) same.0 h.place_line, subst (λ p. FreeOf newline (from_tilde (slash ∷ p))) same.1 h.path_line)
line_row spelled place path unbracketed free e held r (ReadsInput.file_url x name more u c h) = other_own git file (codes "git") spelled x refl refl refl (λ e. cc) u
line_row spelled place path unbracketed free e held r (ReadsInput.scp_form name more n m c h) = n.no_mark (codes "git", spelled, refl)
line_row spelled place path unbracketed free e held r (ReadsInput.local_path p more n l cut some safe low is) = n.no_mark (codes "git", spelled, refl)

-- texts without a reading
pub no_git_rows : NoGitRows
no_git_rows = (
  λ reading h. true≢false h.no_option,
  λ reading h. true≢false h.no_option,
  λ reading h. dash_host_row reading h.reads,
  λ reading h. dash_row reading h.reads,
  λ reading h. unnamed_row reading h.reads,
  λ reading h. inner_url_row reading h.reads,
  λ reading h. home_row (codes "~/x") refl refl refl reading h.reads,
  λ reading h. home_row (codes "~root/x") refl refl refl reading h.reads,
  λ reading h. neither_read (codes "rsync:p") reading (not_held (codes "://") (codes "rsync:p") refl) (λ n. n.no_rsync (codes "p") refl) h.reads,
  λ reading h. neither_read (codes "h::p") reading (not_held (codes "://") (codes "h::p") refl) (λ n. n.no_helper (codes "h", codes "p", record { named = refl; joined = refl })) h.reads,
  λ reading h. neither_read (codes "::p") reading (not_held (codes "://") (codes "::p") refl) (λ n. n.no_empty_helper (codes "p") refl) h.reads,
  λ reading h. web_row reading h.reads,
  λ reading h. line_row (codes "h%0Ax/p") (codes "h" ++ newline ∷ codes "x") (codes "p") refl refl refl (λ lines. true≢false lines.0) reading h.reads,
  λ reading h. line_row (codes "h/p%0Aq") (codes "h") (codes "p" ++ newline ∷ codes "q") refl refl refl (λ lines. true≢false lines.1) reading h.reads,
  λ reading h. true≢false h.whole,
)

-- ---- Git's credential code

-- a piece without a colon
free_piece : (piece : List ℕ) → FreeOf colon piece → CredentialDecodes piece (git_decode piece)
free_piece piece free = CredentialDecodes.whole free refl

-- a piece with one
marked_piece : (front rest : List ℕ) → FreeOf colon front → CredentialDecodes (front ++ colon ∷ rest) (front ++ colon ∷ git_decode rest)
marked_piece front rest free = CredentialDecodes.suffix front rest free refl refl

-- a text with a user and a password, by its cuts
asked_row : (scheme u w named place slashes rest below : List ℕ) → 0 < length scheme → FreeOf colon scheme → FreeOf colon u → FreeOf at_sign u → FreeOf at_sign w → FreeOf colon w → CredentialDecodes named place → are_slashes slashes ≡ true → begins_with slash rest ≡ false → CredentialDecodes rest below
    → FreeOf 0 (scheme ++ (codes "://" ++ ((u ++ colon ∷ (w ++ at_sign ∷ named)) ++ (slashes ++ rest)))) → Lacks (is_path_start true) (u ++ colon ∷ (w ++ at_sign ∷ named)) → StartsPath true (slashes ++ rest) → AreOneLine (asked scheme (git_decode u) (git_decode w) place (trimmed_path below))
    → CredentialReads (scheme ++ (codes "://" ++ ((u ++ colon ∷ (w ++ at_sign ∷ named)) ++ (slashes ++ rest)))) (asked scheme (git_decode u) (git_decode w) place (trimmed_path below))
asked_row scheme u w named place slashes rest below some no_colon plain first second free host all begins path whole before starts lines = record {
  found = record {
    authority = u ++ colon ∷ (w ++ at_sign ∷ named);
    suffix = slashes ++ rest;
    cut = record {
      whole = whole;
      some = some;
      no_mark = held_free scheme no_colon;
      joined = refl;
      before_path = before;
      path_start = starts;
    };
    pieces = record {
      named = named;
      cut = CredentialCut.with_password u w (git_decode u) (git_decode w) first second plain refl (free_piece u plain) (free_piece w free) refl refl;
      host = host;
      path = record { slashes = slashes; rest = rest; decoded = below; joined = refl; front = all; begins = begins; decodes = path; value = refl };
    };
  };
  lines = lines;
}

-- texts of HTTP
pub credential_rows : CredentialRows
credential_rows = (
  asked_row (codes "http") (codes "u") (codes "p") (codes "h:8080") (codes "h:8080") (codes "/") (codes "a/b") (codes "a/b") (omega arith) refl refl refl refl refl (marked_piece (codes "h") (codes "8080") refl) refl refl (free_piece (codes "a/b") refl) refl refl (inr refl) record { protocol = refl; user = refl; password = refl; host = refl; path = refl },
  asked_row (codes "https") (codes "u") (codes "p") (codes "h") (codes "h") (codes "/") [] [] (omega arith) refl refl refl refl refl (free_piece (codes "h") refl) refl refl (free_piece [] refl) refl refl (inr refl) record { protocol = refl; user = refl; password = refl; host = refl; path = tt },
  asked_row (codes "http") (codes "u") (codes "p") (codes "h") (codes "h") (codes "//") (codes "a//") (codes "a//") (omega arith) refl refl refl refl refl (free_piece (codes "h") refl) refl refl (free_piece (codes "a//") refl) refl refl (inr refl) record { protocol = refl; user = refl; password = refl; host = refl; path = refl },
  asked_row (codes "http") (codes "a") (codes "b") (codes "c@h") (codes "c@h") (codes "/") (codes "x") (codes "x") (omega arith) refl refl refl refl refl (free_piece (codes "c@h") refl) refl refl (free_piece (codes "x") refl) refl refl (inr refl) record { protocol = refl; user = refl; password = refl; host = refl; path = refl },
  asked_row (codes "http") (codes "u%3Av") (codes "p") (codes "h") (codes "h") (codes "/") (codes "%2Fa:%2Fb") (codes "%2Fa:/b") (omega arith) refl refl refl refl refl (free_piece (codes "h") refl) refl refl (marked_piece (codes "%2Fa") (codes "%2Fb") refl) refl refl (inr refl) record { protocol = refl; user = refl; password = refl; host = refl; path = refl },
  asked_row (codes "http") (codes "u") (codes "p%00") (codes "[::1]:80") (codes "[::1]:80") [] (codes "?q#f") (codes "?q#f") (omega arith) refl refl refl refl refl (marked_piece (codes "[") (codes ":1]:80") refl) refl refl (free_piece (codes "?q#f") refl) refl refl (inr refl) record { protocol = refl; user = refl; password = refl; host = refl; path = refl },
  asked_row (codes "http") [] (codes "p") (codes "h") (codes "h") [] [] [] (omega arith) refl refl refl refl refl (free_piece (codes "h") refl) refl refl (free_piece [] refl) refl refl (inl refl) record { protocol = refl; user = refl; password = refl; host = refl; path = tt },
)
