-- The host that Git's credential code finds in a text, if there is one, and that it has no line feed.
use Rattle.std.proofs.Common.{◌≡◌, ◌∙◌, ℕ, ◌<◌, Bool, true, false, not, ◌==◌, ◌||◌, ◌&&◌, inl, inr, List, [], ◌∷◌, ◌++◌, length, Option, Some, None, refl, sym, ap, subst, arith, append_assoc}
use Rattle.std.proofs.Math.Bool.{or-false}
use Rattle.std.proofs.lemmas.Bool.{cases_Bool, cond-false, cond-true, eqb-true, and_parts, and_from, not-true}
use Rattle.std.proofs.lemmas.Bool.Decides.{nat_tests}
use Rattle.std.proofs.lemmas.List.{append-nil}
use Rattle.git_syntax.specs.Bytes.{newline, colon, slash, at_sign, FreeOf}
use Rattle.git_reads.specs.Git.{escaped_byte, git_decode, is_git_escape}
use Rattle.git_reads.specs.Credentials.{CredentialCut, CredentialDecodes, CredentialPath, CredentialReading, are_slashes, trimmed_path, without_last_slashes, CutsText, FindsParts}
use Rattle.git_reads.specs.Internal.{StripsSlashes}
use Rattle.git_syntax.proofs.Texts.CutLemmas.{cut_unique, free-append, free_head_tail, free_of_all, free_or_cut, free_parts, not_free}
use Rattle.git_reads.proofs.Reading.CredentialUniqueLemmas.{one_of_parts}
use Rattle.git_modules.specs.SubmoduleUrls.{FindsHost, IsForCurl, LacksHost, has_feed, part_has_feed, parts_have_feed}
use Rattle.git_modules.specs.SubmoduleInternal.{TestsAuthority, TestsFeed, TestsHost, TestsInformation, TestsPieces}
use Rattle.git_modules.proofs.Urls.CurlLemmas.{curl_unique}
use Rattle.git_modules.proofs.Urls.FeedLemmas.{clash, kept_plain}

-- ---- truths

-- a truth beside one that holds
and_true : (b : Bool) → (b && true) ≡ b
and_true true = refl
and_true false = refl

-- no part has a line feed, and the host has bytes: the order in which this is asked doesn't matter
ordered : (p z h u w f : Bool) → (((not p && ((not z && not h) && not (u || w))) && not f) ≡ (not (p || (u || (w || (h || f)))) && not z))
ordered true true h u w f = refl
ordered true false h u w f = refl
ordered false true h true w f = refl
ordered false true h false true f = refl
ordered false true true false false f = refl
ordered false true false false false true = refl
ordered false true false false false false = refl
ordered false false true true w f = refl
ordered false false true false true f = refl
ordered false false true false false f = refl
ordered false false false true w f = refl
ordered false false false false true f = refl
ordered false false false false false true = refl
ordered false false false false false false = refl

-- ---- hosts

-- a text with a first byte isn't empty
not_empty : (b : ℕ) (x : List ℕ) → (length (b ∷ x) == 0) ≡ false
not_empty b x =
    elim (cases_Bool (length (b ∷ x) == 0)) [
      | inl is ↦ absurd (omega (arith, eqb-true (length (b ∷ x)) 0 is))
      | inr other ↦ other
    ]

-- a text is empty if it is empty when decoded
decode_empty : (t : List ℕ) → (length (git_decode t) == 0) ≡ (length t == 0)
decode_empty [] = refl
decode_empty (b ∷ []) = refl
decode_empty (b ∷ c ∷ []) = refl
decode_empty (b ∷ high ∷ low ∷ rest) =
    elim (cases_Bool (is_git_escape b high low)) [
      | inl so_it_is ↦ ap (λ x. length x == 0) (cond-true _ _ _ so_it_is) ∙ not_empty (escaped_byte high low) (git_decode rest) ∙ sym (not_empty b (high ∷ low ∷ rest))
      | inr it_isnt ↦ ap (λ x. length x == 0) (cond-false _ _ _ it_isnt) ∙ not_empty b (git_decode (high ∷ low ∷ rest)) ∙ sym (not_empty b (high ∷ low ∷ rest))
    ]

-- so is a piece
piece_empty : (piece decoded : List ℕ) → CredentialDecodes piece decoded → (length decoded == 0) ≡ (length piece == 0)
piece_empty piece decoded (CredentialDecodes.whole free e) = ap (λ x. length x == 0) e ∙ decode_empty piece
piece_empty piece decoded (CredentialDecodes.suffix [] rest free e e') = ap (λ x. length x == 0) e' ∙ not_empty colon (git_decode rest) ∙ sym (ap (λ x. length x == 0) e ∙ not_empty colon rest)
piece_empty piece decoded (CredentialDecodes.suffix (b ∷ front) rest free e e') = ap (λ x. length x == 0) e' ∙ not_empty b (front ++ colon ∷ git_decode rest) ∙ sym (ap (λ x. length x == 0) e ∙ not_empty b (front ++ colon ∷ rest))

-- the host and the line feeds in it
pub host_tells : (named : List ℕ) (feed : Bool) → TestsFeed named feed → TestsHost named (not (length named == 0) && not feed)
host_tells named feed h =
    (h.0, h.1, ap (λ x. not x && not feed) (sym (piece_empty named h.0 h.1)) ∙ ap (λ x. not (length h.0 == 0) && not x) h.2)

-- ---- paths

-- a text without the slashes at its front
strip : (t : List ℕ) → (rest : List ℕ) × StripsSlashes t rest
strip [] = ([], record { slashes = []; joined = refl; front = refl; begins = refl })
strip (b ∷ bs) =
    let others = strip bs in
    elim (cases_Bool (b == slash)) [
      | inl so_it_is ↦ (others.0, record { slashes = b ∷ others.1.slashes; joined = ap (λ x. b ∷ x) others.1.joined; front = and_from _ _ so_it_is others.1.front; begins = others.1.begins })
      | inr it_isnt ↦ (b ∷ bs, record { slashes = []; joined = refl; front = refl; begins = it_isnt })
    ]

-- slashes decode to themselves
slashes_decode : (slashes rest : List ℕ) → are_slashes slashes ≡ true → git_decode (slashes ++ rest) ≡ slashes ++ git_decode rest
slashes_decode [] rest h = refl
slashes_decode (b ∷ bs) rest h =
    let parts = and_parts (b == slash) (are_slashes bs) h in
    kept_plain b (bs ++ rest) (subst (λ x. (x == 37) ≡ false) (sym (eqb-true b slash parts.0)) refl) ∙ ap (λ x. b ∷ x) (slashes_decode bs rest parts.1)

-- and have no line feed
slashes_feed : (slashes rest : List ℕ) → are_slashes slashes ≡ true → has_feed (slashes ++ rest) ≡ has_feed rest
slashes_feed [] rest h = refl
slashes_feed (b ∷ bs) rest h =
    let parts = and_parts (b == slash) (are_slashes bs) h in
    ap (λ x. x || has_feed (bs ++ rest)) (subst (λ x. (x == newline) ≡ false) (sym (eqb-true b slash parts.0)) refl) ∙ slashes_feed bs rest parts.1

-- the text after the slashes decodes to the text after them in the decoding
after_decodes : (t rest decoded : List ℕ) (h : StripsSlashes t rest) → CredentialDecodes t decoded → (other : List ℕ) × CredentialDecodes rest other × (decoded ≡ h.slashes ++ other)
after_decodes t rest decoded h (CredentialDecodes.whole free e) =
    let parts = free_parts colon h.slashes rest (subst (λ x. FreeOf colon x) h.joined free) in
    (git_decode rest, CredentialDecodes.whole parts.1 refl, e ∙ ap git_decode h.joined ∙ slashes_decode h.slashes rest h.front)
after_decodes t rest decoded h (CredentialDecodes.suffix front more free e e') =
    elim (free_or_cut colon rest) [
      | inl none ↦
          let plain = free-append colon h.slashes rest (free_of_all (λ b. b == slash) colon h.slashes h.front refl) none in
          absurd (not_free colon front more (subst (λ x. FreeOf colon x) (sym h.joined ∙ e) plain))
      | inr (x, y, none, whole) ↦
          let plain = free-append colon h.slashes x (free_of_all (λ b. b == slash) colon h.slashes h.front refl) none in
          let same = cut_unique colon front (h.slashes ++ x) more y free plain (sym e ∙ h.joined ∙ ap (λ z. h.slashes ++ z) whole ∙ sym (append_assoc h.slashes x (colon ∷ y))) in
          (x ++ colon ∷ git_decode y, CredentialDecodes.suffix x y none whole refl, e' ∙ ap (λ z. z ++ colon ∷ git_decode more) same.0 ∙ ap (λ z. (h.slashes ++ x) ++ colon ∷ git_decode z) same.1 ∙ append_assoc h.slashes x (colon ∷ git_decode y))
    ]

-- slashes at the end have no line feed
last_feed : (t : List ℕ) → has_feed (without_last_slashes t) ≡ has_feed t
last_feed [] = refl
last_feed (b ∷ bs) =
    let others = last_feed bs in
    elim (cases_Bool (are_slashes (b ∷ bs))) [
      | inl all ↦ ap has_feed (cond-true _ _ _ all) ∙ sym (slashes_feed (b ∷ bs) [] all) ∙ ap has_feed (append-nil (b ∷ bs))
      | inr other ↦ ap has_feed (cond-false _ _ _ other) ∙ ap (λ x. (b == newline) || x) others
    ]

-- nor does the rest out of a path
trimmed_feed : (path : List ℕ) → part_has_feed (trimmed_path path) ≡ has_feed path
trimmed_feed [] = refl
trimmed_feed (b ∷ bs) = ap (λ x. (b == newline) || x) (last_feed bs)

-- the path, and the line feeds in it
path_tells : (suffix : List ℕ) (feed : Bool) → TestsFeed suffix feed → (path : Option (List ℕ)) × CredentialPath suffix path × (feed ≡ part_has_feed path)
path_tells suffix feed h =
    let stripped = strip suffix in
    let rest = after_decodes suffix stripped.0 h.0 stripped.1 h.1 in (
      trimmed_path rest.0,
      record {
        slashes = stripped.1.slashes;
        rest = stripped.0;
        decoded = rest.0;
        joined = stripped.1.joined;
        front = stripped.1.front;
        begins = stripped.1.begins;
        decodes = rest.1;
        value = refl;
      },
      h.2 ∙ ap has_feed rest.2 ∙ slashes_feed stripped.1.slashes rest.0 stripped.1.front ∙ sym (trimmed_feed rest.0),
    )

-- ---- authorities

-- a host alone
pub alone_tells : (authority : List ℕ) (taken : Bool) → FreeOf at_sign authority → TestsHost authority taken → TestsAuthority authority taken
alone_tells authority taken free h = record {
  user = None;
  password = None;
  named = authority;
  host = h.0;
  cut = CredentialCut.host_alone free refl refl refl;
  decodes = h.1;
  tests = h.2 ∙ sym (and_true _);
}

-- a host after a user, or after a user and a password
pub cut_tells : (authority information named : List ℕ) (feed taken : Bool) → FreeOf at_sign information → authority ≡ information ++ at_sign ∷ named → TestsInformation information feed → TestsHost named taken → TestsAuthority authority (taken && not feed)
cut_tells authority information named feed taken free e (TestsInformation.user_alone plain u) h = record {
  user = Some u.0;
  password = None;
  named = named;
  host = h.0;
  cut = CredentialCut.user_alone information u.0 free plain e u.1 refl refl;
  decodes = h.1;
  tests = ap (λ x. x && not feed) h.2 ∙ ap (λ x. (not (length h.0 == 0) && not (has_feed h.0)) && not x) (u.2 ∙ sym (or-false _));
}
cut_tells authority information named feed taken free e (TestsInformation.with_password u w first second plain joined d c both) h =
    let parts = free_parts at_sign u (colon ∷ w) (subst (λ t. FreeOf at_sign t) joined free) in
    let rest = free_head_tail at_sign colon w parts.1 in
    record {
      user = Some d.0;
      password = Some c.0;
      named = named;
      host = h.0;
      cut = CredentialCut.with_password u w d.0 c.0 parts.0 rest.1 plain (e ∙ ap (λ t. t ++ at_sign ∷ named) joined ∙ append_assoc u (colon ∷ w) (at_sign ∷ named)) d.1 c.1 refl refl;
      decodes = h.1;
      tests = ap (λ x. x && not feed) h.2 ∙ ap (λ x. (not (length h.0 == 0) && not (has_feed h.0)) && not x) (both ∙ ap (λ x. x || second) d.2 ∙ ap (λ x. has_feed d.0 || x) c.2);
    }

-- ---- texts

-- the pieces of a text
pub pieces_tell : (protocol authority suffix : List ℕ) (line taken feed : Bool) → line ≡ not (has_feed protocol) → TestsAuthority authority taken → TestsFeed suffix feed → TestsPieces protocol authority suffix ((line && taken) && not feed)
pieces_tell protocol authority suffix line taken feed e a h =
    let path = path_tells suffix feed h in
    record {
      parts = record { protocol = protocol; user = a.user; password = a.password; host = a.host; path = path.0 };
      same = refl;
      reads = record { named = a.named; cut = a.cut; host = a.decodes; path = path.1 };
      tests = ap (λ x. (x && taken) && not feed) e
          ∙ ap (λ x. (not (has_feed protocol) && x) && not feed) a.tests
          ∙ ap (λ x. (not (has_feed protocol) && ((not (length a.host == 0) && not (has_feed a.host)) && not (part_has_feed a.user || part_has_feed a.password))) && not x) path.2
          ∙ ordered (has_feed protocol) (length a.host == 0) (has_feed a.host) (part_has_feed a.user) (part_has_feed a.password) (part_has_feed path.0);
    }

-- a host that has bytes isn't empty
some_bytes : (host : List ℕ) → not (length host == 0) ≡ true → 0 < length host
some_bytes host h = grind (arith, nat_tests)

no_bytes : (host : List ℕ) → 0 < length host → not (length host == 0) ≡ true
no_bytes host h = grind (arith, nat_tests)

-- a host is found if the pieces have one
pub finds_host : (t protocol authority suffix : List ℕ) (taken : Bool) → CutsText t protocol authority suffix → TestsPieces protocol authority suffix taken → (taken ≡ true → FindsHost t) × (FindsHost t → taken ≡ true)
finds_host t protocol authority suffix taken cut h =
    let own : CutsText t h.parts.protocol authority suffix = subst (λ p. CutsText t p authority suffix) (sym h.same) cut in
    let found : FindsParts t h.parts = record { authority = authority; suffix = suffix; cut = own; pieces = h.reads } in (
      λ e.
          let both = and_parts (not (parts_have_feed h.parts)) (not (length h.parts.host == 0)) (sym h.tests ∙ e) in
          record {
            parts = h.parts;
            found = found;
            lines = not-true (parts_have_feed h.parts) both.0;
            host = some_bytes h.parts.host both.1;
          },
      λ k.
          let one = one_of_parts t k.parts h.parts k.found found in
          let good : (not (parts_have_feed k.parts) && not (length k.parts.host == 0)) ≡ true = and_from _ _ (ap not k.lines) (no_bytes k.parts.host k.host) in
          h.tests ∙ ap (λ (r : CredentialReading). not (parts_have_feed r) && not (length r.host == 0)) (sym one) ∙ good,
    )

-- ---- URLs for curl

-- there is a host, or none, in the URL that curl would get
pub lacks_host : (t text : List ℕ) (found : Bool) → IsForCurl t text → (found ≡ true → FindsHost text) × (FindsHost text → found ≡ true) → (not found ≡ true → LacksHost t) × (LacksHost t → not found ≡ true)
lacks_host t text found given tests = (
  λ e. (text, given, λ h. clash found (tests.1 h) (not-true found e)),
  λ h. elim (cases_Bool found) [
    | inl so_it_is ↦ absurd (h.2 (subst FindsHost (curl_unique t text h.0 given h.1) (tests.0 so_it_is)))
    | inr it_isnt ↦ ap not it_isnt
  ],
)
