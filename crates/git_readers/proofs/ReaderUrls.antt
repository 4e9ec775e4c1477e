-- The fields that a reader of URLs finds in an authority of plain parts, and in a URL with it.
use Rattle.std.proofs.Common.{◌≡◌, ◌∙◌, ◌<◌, ℕ, true, false, ◌==◌, List, [], ◌∷◌, ◌++◌, Option, Some, None, IfSome, IsSome, option_map, unwrap_or, decimal, refl, ap, append_assoc, append-nil}
use Rattle.std.specs.List.{list_all}
use Rattle.std.proofs.lemmas.Bool.{false≢true}
use Rattle.git_syntax.specs.Bytes.{colon, at_sign, FreeOf}
use Rattle.git_syntax.specs.Authority.{unless_empty}
use Rattle.git_syntax.proofs.Texts.CutLemmas.{free-append, free-cons, free_of_all, lacks_of_all}
use Rattle.git_readers.specs.Unambiguous.{HasDots, IsCommonHost, IsPlainWord, is_path_byte, is_unreserved}
use Rattle.git_readers.specs.Readers.{LeavesPlain, Parts, UrlReader, cut, front_of, front_or, information, named, parts_of, password_in, rest_of, rest_or, until, user_in}
use Rattle.git_readers.proofs.ReaderCuts.{cut_at, cut_none, until_whole}
use Rattle.git_readers.proofs.PlainBytes.{host_plain, no_empty_host, port_plain}

-- ---- plain parts

-- user information of plain parts, without its `@`
abbrev pub plain_information : Option (List ℕ) → Option (List ℕ) → Option (List ℕ)
plain_information None password = None
plain_information (Some u) None = Some u
plain_information (Some u) (Some p) = Some (u ++ colon ∷ p)

-- the information with its `@`
abbrev pub with_at : Option (List ℕ) → List ℕ
with_at None = []
with_at (Some t) = t ++ at_sign ∷ []

-- the port after its colon
abbrev pub port_text : Option ℕ → List ℕ
port_text None = []
port_text (Some n) = colon ∷ decimal n

-- the host with its port
abbrev pub place_text : Option (List ℕ) → Option ℕ → List ℕ
place_text host port = unwrap_or host [] ++ port_text port

-- an authority of plain parts: a password comes with a user, and a user or a port with a host
pub record ArePlain (u w h : Option (List ℕ)) (n : Option ℕ) : Type 0 where
  pub user : IfSome u IsPlainWord
  pub password : IfSome w IsPlainWord
  pub host : IfSome h IsCommonHost
  pub port : IfSome n (λ p. p < 65536)
  pub with_user : IsSome w → IsSome u
  pub port_hosted : IsSome n → IsSome h

-- ---- bytes of the parts

word_free : (c : ℕ) → is_unreserved c ≡ false → (t : List ℕ) → IsPlainWord t → FreeOf c t
word_free c other t plain = free_of_all is_unreserved c t plain.bytes other

host_free : (c : ℕ) → is_unreserved c ≡ false → (host : Option (List ℕ)) → IfSome host IsCommonHost → FreeOf c (unwrap_or host [])
host_free c other None plain = refl
host_free c other (Some h) plain = free_of_all is_unreserved c h (host_plain h plain) other

port_free : (c : ℕ) → is_unreserved c ≡ false → (colon == c) ≡ false → (port : Option ℕ) → IfSome port (λ p. p < 65536) → FreeOf c (port_text port)
port_free c other no_colon None small = refl
port_free c other no_colon (Some n) small = free-cons c colon (decimal n) no_colon (free_of_all is_unreserved c (decimal n) (port_plain n small) other)

place_free : (c : ℕ) → is_unreserved c ≡ false → (colon == c) ≡ false → (host : Option (List ℕ)) (port : Option ℕ) → IfSome host IsCommonHost → IfSome port (λ p. p < 65536) → FreeOf c (place_text host port)
place_free c other no_colon host port plain small = free-append c (unwrap_or host []) (port_text port) (host_free c other host plain) (port_free c other no_colon port small)

-- the `@` of plain user information is its end
information_free : (user password : Option (List ℕ)) → IfSome user IsPlainWord → IfSome password IsPlainWord → IfSome (plain_information user password) (λ t. FreeOf at_sign t)
information_free None password plain hidden = tt
information_free (Some u) None plain hidden = word_free at_sign refl u plain
information_free (Some u) (Some p) plain hidden = free-append at_sign u (colon ∷ p) (word_free at_sign refl u plain) (free-cons at_sign colon p refl (word_free at_sign refl p hidden))

-- ---- user information

information_cut : (r : UrlReader) (i : Option (List ℕ)) (place : List ℕ) → IfSome i (λ t. FreeOf at_sign t) → FreeOf at_sign place → (information r (with_at i ++ place) ≡ i) × (named r (with_at i ++ place) ≡ place)
information_cut r None place free none = (
  ap (λ x. front_of x) (cut_none r.user_cut at_sign place none),
  ap (λ x. rest_or place x) (cut_none r.user_cut at_sign place none),
)
information_cut r (Some t) place free none =
    let whole = append_assoc t (at_sign ∷ []) place in
    let at = ap (λ x. cut r.user_cut at_sign x) whole ∙ cut_at r.user_cut at_sign t place free none in (
      ap (λ x. front_of x) at,
      ap (λ x. rest_or (with_at (Some t) ++ place) x) at,
    )

user_found : (r : UrlReader) → LeavesPlain r → (user password : Option (List ℕ)) → IfSome user IsPlainWord → IfSome password IsPlainWord → option_map (user_in r) (plain_information user password) ≡ user
user_found r leaves None password plain hidden = refl
user_found r leaves (Some u) None plain hidden =
    ap (λ x. Some (r.word (front_or u x))) (cut_none r.password_cut colon u (word_free colon refl u plain)) ∙ ap Some (leaves.word u plain.bytes)
user_found r leaves (Some u) (Some p) plain hidden =
    ap (λ x. Some (r.word (front_or (u ++ colon ∷ p) x))) (cut_at r.password_cut colon u p (word_free colon refl u plain) (word_free colon refl p hidden)) ∙ ap Some (leaves.word u plain.bytes)

password_found : (r : UrlReader) → LeavesPlain r → (user password : Option (List ℕ)) → IfSome user IsPlainWord → IfSome password IsPlainWord → (IsSome password → IsSome user) → password_in r (plain_information user password) ≡ password
password_found r leaves None None plain hidden with_user = refl
password_found r leaves None (Some p) plain hidden with_user = absurd (false≢true (with_user refl))
password_found r leaves (Some u) None plain hidden with_user =
    ap (λ x. option_map r.word (rest_of x)) (cut_none r.password_cut colon u (word_free colon refl u plain))
password_found r leaves (Some u) (Some p) plain hidden with_user =
    ap (λ x. option_map r.word (rest_of x)) (cut_at r.password_cut colon u p (word_free colon refl u plain) (word_free colon refl p hidden)) ∙ ap Some (leaves.word p hidden.bytes)

-- ---- host and port

-- a plain host isn't empty
host_there : (h : List ℕ) → IsCommonHost h → unless_empty h ≡ Some h
host_there [] plain = absurd (no_empty_host plain)
host_there (b ∷ h) plain = refl

host_found : (r : UrlReader) → LeavesPlain r → (host : Option (List ℕ)) (port : Option ℕ) → IfSome host IsCommonHost → IfSome port (λ p. p < 65536) → (IsSome port → IsSome host) → option_map r.host (unless_empty (front_or (place_text host port) (cut r.port_cut colon (place_text host port)))) ≡ host
host_found r leaves None None plain small hosted = ap (λ x. option_map r.host (unless_empty (front_or [] x))) (cut_none r.port_cut colon [] refl)
host_found r leaves None (Some n) plain small hosted = absurd (false≢true (hosted refl))
host_found r leaves (Some h) None plain small hosted =
    let whole : h ++ [] ≡ h = append-nil h in
    ap (λ t. option_map r.host (unless_empty (front_or t (cut r.port_cut colon t)))) whole ∙ ap (λ x. option_map r.host (unless_empty (front_or h x))) (cut_none r.port_cut colon h (host_free colon refl (Some h) plain)) ∙ ap (λ x. option_map r.host x) (host_there h plain) ∙ ap Some (leaves.host h plain)
host_found r leaves (Some h) (Some n) plain small hosted =
    ap (λ x. option_map r.host (unless_empty (front_or (h ++ colon ∷ decimal n) x))) (cut_at r.port_cut colon h (decimal n) (host_free colon refl (Some h) plain) (free_of_all is_unreserved colon (decimal n) (port_plain n small) refl)) ∙ ap (λ x. option_map r.host x) (host_there h plain) ∙ ap Some (leaves.host h plain)

port_found : (r : UrlReader) (host : Option (List ℕ)) (port : Option ℕ) → IfSome host IsCommonHost → IfSome port (λ p. p < 65536) → rest_of (cut r.port_cut colon (place_text host port)) ≡ option_map decimal port
port_found r host None plain small =
    let whole : place_text host None ≡ unwrap_or host [] = append-nil (unwrap_or host []) in
    ap (λ t. rest_of (cut r.port_cut colon t)) whole ∙ ap (λ x. rest_of x) (cut_none r.port_cut colon (unwrap_or host []) (host_free colon refl host plain))
port_found r host (Some n) plain small =
    ap (λ x. rest_of x) (cut_at r.port_cut colon (unwrap_or host []) (decimal n) (host_free colon refl host plain) (free_of_all is_unreserved colon (decimal n) (port_plain n small) refl))

-- ---- the authority and the path

-- the plain parts, as a reader finds them
abbrev pub plain_parts : List ℕ → Option (List ℕ) → Option (List ℕ) → Option (List ℕ) → Option ℕ → List ℕ → Parts
plain_parts scheme u w h p rest = record {
  scheme = scheme;
  user = u;
  password = w;
  host = h;
  port = option_map decimal p;
  path = rest;
}

-- an authority of plain parts
abbrev pub authority_of : Option (List ℕ) → Option (List ℕ) → Option (List ℕ) → Option ℕ → List ℕ
authority_of user password host port = with_at (plain_information user password) ++ place_text host port

-- a path of plain bytes without segments of dots
pub record IsPlainPath (path : List ℕ) : Type 0 where
  pub bytes : list_all is_path_byte path ≡ true
  pub no_dots : ¬ HasDots path

-- the reader leaves it alone
path_found : (r : UrlReader) → LeavesPlain r → (path : List ℕ) → IsPlainPath path → r.path (until r.ends_path path) ≡ path
path_found r leaves path plain =
    ap r.path (until_whole r.ends_path path (lacks_of_all is_path_byte r.ends_path leaves.path_end path plain.bytes)) ∙ leaves.path path plain.bytes plain.no_dots

pub parts_found : (r : UrlReader) → LeavesPlain r → (scheme : List ℕ) (user password host : Option (List ℕ)) (port : Option ℕ) (path : List ℕ) → ArePlain user password host port → IsPlainPath path → parts_of r scheme (authority_of user password host port) path ≡ plain_parts scheme user password host port path
parts_found r leaves scheme u w h p rest plain path =
    let (informed, placed) = information_cut r (plain_information u w) (place_text h p) (information_free u w plain.user plain.password) (place_free at_sign refl refl h p plain.host plain.port) in
    let user = ap (λ x. option_map (user_in r) x) informed ∙ user_found r leaves u w plain.user plain.password in
    let password = ap (λ x. password_in r x) informed ∙ password_found r leaves u w plain.user plain.password plain.with_user in
    let host = ap (λ x. option_map r.host (unless_empty (front_or x (cut r.port_cut colon x)))) placed ∙ host_found r leaves h p plain.host plain.port plain.port_hosted in
    let port = ap (λ x. rest_of (cut r.port_cut colon x)) placed ∙ port_found r h p plain.host plain.port in
    let end = path_found r leaves rest path in
    λ i. record { scheme = scheme; user = user i; password = password i; host = host i; port = port i; path = end i }
