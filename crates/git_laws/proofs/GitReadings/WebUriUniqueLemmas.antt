-- A text is a URI in one way: its cuts are unique.
use Rattle.std.proofs.Common.{◌≡◌, ◌∙◌, ℕ, true, false, ◌==◌, ◌⊎◌, List, [], ◌∷◌, ◌++◌, Option, refl, sym, ap, subst, append_assoc, arith}
use Rattle.std.proofs.lemmas.Bool.Decides.{nat_tests}
use Rattle.git_syntax.specs.Bytes.{slash, colon, left_bracket, right_bracket, begins_by, begins_with}
use Rattle.git_laws.specs.Components.{CutsPath}
use Rattle.git_laws.specs.GitWeb.{UriAuthority, UriPort, UriHost, OneUriReading}
use Rattle.git_syntax.proofs.Texts.CutLemmas.{tails, class_cut_unique, cut_unique, not_free, path_cut_unique, scheme_text_free}
use Rattle.git_syntax.proofs.Addresses.AddressLemmas.{address_free}
use Rattle.git_laws.proofs.ComponentCuts.CutComponentLemmas.{path_unique}

-- an authority is cut at its only `@`
authority_unique : (t : List ℕ) (i j : Option (List ℕ)) (named other : List ℕ) → UriAuthority t i named → UriAuthority t j other → (i ≡ j) × (named ≡ other)
authority_unique t i j named other h k = grind (arith, nat_tests, cut_unique, not_free)

-- nothing or a colon follows a host
port_begins : (suffix : List ℕ) (port : Option (List ℕ)) → UriPort suffix port → (suffix ≡ []) ⊎ (begins_by (λ b. b == colon) suffix ≡ true)
port_begins suffix port h = grind arith

-- only one port does
port_unique : (suffix beyond : List ℕ) (port other : Option (List ℕ)) → suffix ≡ beyond → UriPort suffix port → UriPort beyond other → port ≡ other
port_unique suffix beyond port other same h k = grind arith

-- the text after `[` if a host is in brackets
after_bracket : (named host inside suffix : List ℕ) → host ≡ left_bracket ∷ (inside ++ right_bracket ∷ []) → named ≡ host ++ suffix → named ≡ left_bracket ∷ (inside ++ right_bracket ∷ suffix)
after_bracket named host inside suffix is e = e ∙ ap (λ h. h ++ suffix) is ∙ ap (λ t. left_bracket ∷ t) (append_assoc inside (right_bracket ∷ []) suffix)

-- only one host does
open_apart : (rest host suffix : List ℕ) (port : Option (List ℕ)) → begins_with left_bracket host ≡ false → UriPort suffix port → left_bracket ∷ rest ≡ host ++ suffix → ⊥
open_apart rest host suffix port other p is = grind arith

-- one host comes before a port
host_unique : (t host other suffix beyond : List ℕ) (port more : Option (List ℕ)) → UriPort suffix port → UriPort beyond more → UriHost t host suffix → UriHost t other beyond → (host ≡ other) × (suffix ≡ beyond)
host_unique t host other suffix beyond port more p q (UriHost.bracketed x address is e) (UriHost.bracketed y address' is' e') =
    let same = cut_unique right_bracket x y suffix beyond (address_free right_bracket x refl address) (address_free right_bracket y refl address') (tails (sym (after_bracket t host x suffix is e) ∙ after_bracket t other y beyond is' e')) in
    (is ∙ ap (λ i. left_bracket ∷ (i ++ right_bracket ∷ [])) same.0 ∙ sym is', same.1)
host_unique t host other suffix beyond port more p q (UriHost.bracketed x address is e) (UriHost.unbracketed free begins e') =
    absurd (open_apart (x ++ right_bracket ∷ suffix) other beyond more begins q (sym (after_bracket t host x suffix is e) ∙ e'))
host_unique t host other suffix beyond port more p q (UriHost.unbracketed free begins e) (UriHost.bracketed y address' is' e') =
    absurd (open_apart (y ++ right_bracket ∷ beyond) host suffix port begins p (sym (after_bracket t other y beyond is' e') ∙ e))
host_unique t host other suffix beyond port more p q (UriHost.unbracketed free begins e) (UriHost.unbracketed free' begins' e') =
    class_cut_unique (λ b. b == colon) host other suffix beyond free free' (port_begins suffix port p) (port_begins beyond more q) (sym e ∙ e')

-- a text is a URI in one way
pub one_uri : OneUriReading
one_uri t r o h k =
    let (scheme, rest) = cut_unique colon r.scheme o.scheme (slash ∷ slash ∷ (h.authority ++ h.suffix)) (slash ∷ slash ∷ (k.authority ++ k.suffix)) (scheme_text_free r.scheme colon h.bytes.scheme refl) (scheme_text_free o.scheme colon k.bytes.scheme refl) (sym h.joined ∙ k.joined) in
    let (authority, suffix) = path_cut_unique true h.authority k.authority h.suffix k.suffix h.before_path k.before_path h.path_start k.path_start (tails (tails rest)) in
    let (information, named) = authority_unique k.authority r.information o.information h.named k.named (subst (λ a. UriAuthority a r.information h.named) authority h.cut) k.cut in
    let (host, after) = host_unique k.named r.host o.host h.after_host k.after_host r.port o.port h.port k.port (subst (λ n. UriHost n r.host h.after_host) named h.host) k.host in
    let port = port_unique h.after_host k.after_host r.port o.port after h.port k.port in
    let (path, query, fragment) = path_unique k.suffix r.path o.path r.query o.query r.fragment o.fragment (subst (λ b. CutsPath b r.path r.query r.fragment) suffix h.path) k.path in
    λ i. record {
      scheme = scheme i;
      information = information i;
      host = host i;
      port = port i;
      path = path i;
      query = query i;
      fragment = fragment i;
    }
