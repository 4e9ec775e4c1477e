-- Decisions on whole texts: each spells a location, or a flaw is in it.
use Rattle.std.proofs.Common.{◌≡◌, ℕ, ◌<◌, ◌==◌, true, false, ◌⊎◌, inl, inr, List, ◌∷◌, ◌++◌, ◌+◌, length, drop, Option, Some, None, refl, sym, ap, subst, ◌∙◌, IsUtf8}
use Rattle.std.proofs.lemmas.Bool.{cases_Bool}
use Rattle.git_syntax.specs.declared.refusal.UrlKind.TheVariants as kind
use Rattle.git_syntax.specs.declared.refusal.UrlFault.{UrlFault}
use Rattle.git_syntax.specs.declared.refusal.UrlFault.TheVariants as fault
use Rattle.git_syntax.specs.declared.refusal.Refusal.TheVariants as refusal
use Rattle.git_syntax.specs.Location.{path_alone}
use Rattle.git_syntax.specs.Location.Scheme.{file}
use Rattle.git_syntax.specs.Bytes.{slash, colon, at_sign, left_bracket, backslash, right_bracket, FreeOf, begins_with, lowercase, is_helper_name}
use Rattle.git_syntax.specs.Escapes.{escaped_percents}
use Rattle.git_syntax.specs.Grammar.{HasHelperForm, helper_scheme, IsNeither, ScpFront, ScpForm, AddressedForm, ScpUser, ScpHost, scp_location, Spells}
use Rattle.git_syntax.specs.Flaws.{ScpNameFlaw, ScpHostFlaw, MissesPath}
use Rattle.git_syntax.specs.Internal.Forms.{ColonCut, HasFrontCut, LacksBrackets, HasScpCut, HasAddressedCut, AddressedFront, PlainScp}
use Rattle.git_syntax.specs.Internal.ScpPieces.{ColonsInside, SpellsHost}
use Rattle.git_syntax.specs.Refusals.{Decided}
use Rattle.git_syntax.proofs.Texts.CutLemmas.{free-cons, begins_cut, free_or_cut, not_free}
use Rattle.git_syntax.proofs.Parsing.ClassifierLemmas.{no_helper_free, no_helper_alone, no_helper_unnamed, front_unbracketed, front_taken, no_scp_cut, no_scp_uncut, addressed_free, addressed_at, addressed_unbracketed, addressed_bracketed, addressed_no_path, addressed_other, plain_scp, local_form, unbracketed_front}
use Rattle.git_syntax.proofs.Parsing.ScpLemmas.{colons_found, colons_inside_front, colons_inside_host, inner_kept, literal_found, name_found, no_port_found, open_found, rest_found, scp_host_found, scp_host_utf8}
use Rattle.git_laws.proofs.Errors.TextDecisions.{Decides, nil_or_some, free_or_not, white_or_not, utf8_or_not, address_or_not, literal_or_not, free_or_last_cut, mark_or_cut}
use Rattle.git_laws.proofs.Errors.UrlDecisions.{SpelledOrFlawed, url_decided}

-- ---- remote helpers

-- a text has the form of a remote helper, or not
helper_or_not : (b : List ℕ) → Decides (HasHelperForm b)
helper_or_not b =
    elim (free_or_cut colon b) [
      | inl free ↦ inr (no_helper_free b free)
      | inr (name, rest, free, e) ↦
          elim (cases_Bool (begins_with colon rest)) [
            | inr other ↦ inr (no_helper_alone b name rest free e other)
            | inl begins ↦
                elim (cases_Bool (is_helper_name name)) [
                  | inr other ↦ inr (no_helper_unnamed b name rest free e other)
                  | inl named ↦
                      let (address, k) = begins_cut colon rest begins in
                      inl (name, address, record { named = named; joined = e ∙ ap (λ t. name ++ colon ∷ t) k })
                ]
          ]
    ]

-- ---- the host of the scp form

-- a host of the scp form denotes one, or is flawed
abbrev HostOrFlawed : List ℕ → Type 0
HostOrFlawed host = ((denoted : List ℕ) × ScpHost host denoted) ⊎ ((named : UrlFault) × ScpHostFlaw host named)

-- a host is read if each `%` is its own escape, or is flawed
abbrev PieceOrFlawed : List ℕ → Type 0
PieceOrFlawed host = ((denoted : List ℕ) × SpellsHost (escaped_percents host) denoted) ⊎ ((named : UrlFault) × ScpNameFlaw host named)

-- a text between brackets
inner_decided : (suffix inner rest : List ℕ) → IsUtf8 (left_bracket ∷ suffix) → FreeOf right_bracket inner → suffix ≡ inner ++ right_bracket ∷ rest → true ≡ (length rest == 0) → PieceOrFlawed (left_bracket ∷ suffix)
inner_decided suffix inner rest text closed e none =
    elim (literal_or_not (escaped_percents inner)) [
      | inl h ↦ inl (_, literal_found suffix inner rest closed e none h)
      | inr other ↦ inl (_, inner_kept suffix inner rest text closed e none other)
    ]

-- a bracket in front
brackets_decided : (suffix : List ℕ) → IsUtf8 (left_bracket ∷ suffix) → ColonsInside (left_bracket ∷ suffix) → PieceOrFlawed (left_bracket ∷ suffix)
brackets_decided suffix text inside =
    elim (free_or_cut right_bracket suffix) [
      | inl free ↦ inr (fault.BadCharacter, open_found suffix free)
      | inr (inner, rest, closed, e) ↦
          elim (cases_Bool (length rest == 0)) [
            | inl none ↦ inner_decided suffix inner rest text closed e (sym none)
            | inr some ↦ inr (fault.BadCharacter, rest_found suffix inner rest inside closed e (sym some))
          ]
    ]

-- no bracket in front
open_decided : (host : List ℕ) → 0 < length host → begins_with left_bracket host ≡ false → IsUtf8 host → ColonsInside host → PieceOrFlawed host
open_decided host some open_front text inside =
    elim (free_or_cut colon host) [
      | inl free ↦ inl (_, name_found host some open_front text free)
      | inr (front, suffix, free, e) ↦
          elim (cases_Bool (length front == 0)) [
            | inl none ↦ inl (_, colons_found host front suffix open_front text inside e (inl (sym none)))
            | inr some ↦
                elim (free_or_not colon suffix) [
                  | inr held ↦ inl (_, colons_found host front suffix open_front text inside e (inr held))
                  | inl last ↦ inr (fault.BadPort, no_port_found host front suffix open_front inside free e (sym some) last)
                ]
          ]
    ]

-- a text that isn't empty, with a bracket in front or without
piece_decided : (host : List ℕ) → 0 < length host → IsUtf8 host → ColonsInside host → PieceOrFlawed host
piece_decided host some text inside =
    elim (cases_Bool (begins_with left_bracket host)) [
      | inr open_front ↦ open_decided host some open_front text inside
      | inl front ↦
          let (suffix, e) = begins_cut left_bracket host front in
          subst PieceOrFlawed (sym e) (brackets_decided suffix (subst IsUtf8 e text) (subst ColonsInside e inside))
    ]

-- by its bytes
host_decided : (host : List ℕ) → IsUtf8 host → FreeOf at_sign host → ColonsInside host → HostOrFlawed host
host_decided host text lone inside =
    elim (white_or_not host) [
      | inr held ↦ inr (fault.BadCharacter, ScpHostFlaw.white_space text held)
      | inl white ↦
          elim (free_or_not backslash host) [
            | inr held ↦ inr (fault.BadCharacter, ScpHostFlaw.holds_backslash held)
            | inl free ↦
                elim (nil_or_some host) [
                  | inl none ↦ inr (fault.HostRequired, ScpHostFlaw.empty none)
                  | inr some ↦
                      elim (piece_decided host some text inside) [
                        | inl (denoted, n) ↦ inl (denoted, scp_host_found host (escaped_percents host) denoted lone free white refl n)
                        | inr (named, flaw) ↦ inr (named, ScpHostFlaw.bad_name named flaw)
                      ]
                ]
          ]
    ]

-- ---- the scp form

-- a front is a user and a host
cut_front_user : (front : List ℕ) → (user : Option (List ℕ)) × (host : List ℕ) × ScpUser front user host × FreeOf at_sign host
cut_front_user front =
    elim (free_or_last_cut at_sign front) [
      | inl free ↦ (None, front, ScpUser.host_alone refl refl, free)
      | inr (user, host, free, e) ↦ (Some user, host, ScpUser.with_user user e refl, free)
    ]

-- a text in the scp form without the form `user@[address]:path`
plain_decided : (b front path : List ℕ) → PlainScp b front path → SpelledOrFlawed b
plain_decided b front path h =
    elim (utf8_or_not b) [
      | inr bad ↦ inr (refusal.NotUtf8 kind.Scp, (bad, inl (front, path, h.form)))
      | inl text ↦
          elim (nil_or_some path) [
            | inl none ↦ inr (refusal.MissingPath kind.Scp, MissesPath.in_scp front (subst (λ p. ScpForm b front p) none h.form))
            | inr some ↦
                let (user, host, split, lone) = cut_front_user front in
                let inside = colons_inside_host front user host split (colons_inside_front b front h.form.form) in
                elim (host_decided host (scp_host_utf8 b front path user host h.form text split) lone inside) [
                  | inl (denoted, hosted) ↦
                      inl (scp_location user denoted path, Spells.scp_form (inl (record { front = front; path = path; user = user; host = host; denoted = denoted; form = h.form; text = text; pathed = some; split = split; hosted = hosted; value = refl })))
                  | inr (named, flaw) ↦
                      inr (refusal.BadUrl kind.Scp named, record { not_addressed = h.not_addressed; front = front; path = path; user = user; host = host; form = h.form; split = split; no_at = lone; flaw = flaw })
                ]
          ]
    ]

-- a text with that shape
addressed_decided : (b user address path : List ℕ) → AddressedForm b user address path → SpelledOrFlawed b
addressed_decided b user address path h =
    elim (utf8_or_not b) [
      | inr bad ↦ inr (refusal.NotUtf8 kind.Scp, (bad, inr (user, address, path, h)))
      | inl text ↦
          elim (nil_or_some path) [
            | inl none ↦ inr (refusal.MissingPath kind.Scp, MissesPath.after_address user address (subst (λ p. AddressedForm b user address p) none h))
            | inr some ↦
                inl (scp_location (Some user) (lowercase address) path, Spells.scp_form (inr (record { user = user; address = address; path = path; form = h; text = text; pathed = some; value = refl })))
          ]
    ]

-- ---- the shapes of the scp form

-- the user and the bracket of `user@[address]:path` are there, or not
user_or_not : (b : List ℕ) → ((user : List ℕ) × (suffix : List ℕ) × AddressedFront b user suffix) ⊎ ¬ HasAddressedCut b
user_or_not b =
    elim (free_or_cut colon b) [
      | inl free ↦ inr (addressed_free b free)
      | inr (front, rest, free, e) ↦
          elim (free_or_last_cut at_sign front) [
            | inl lone ↦ inr (addressed_at b front rest free e lone)
            | inr (user, last, lone, k) ↦
                let cut : ColonCut b front rest = record { joined = e; no_colon = free } in
                elim (cases_Bool (begins_with left_bracket last)) [
                  | inr other ↦ inr (addressed_unbracketed b front rest user last cut lone k other)
                  | inl begins ↦ inl (user, drop (length user + 2) b, addressed_bracketed b front rest user last cut lone k begins)
                ]
          ]
    ]

-- the pieces of `user@[address]:path` are there, or not
addressed_or_not : (b : List ℕ) → Decides (HasAddressedCut b)
addressed_or_not b =
    elim (user_or_not b) [
      | inr none ↦ inr none
      | inl (user, suffix, s) ↦
          elim (free_or_cut right_bracket suffix) [
            | inl free ↦ inr (λ (u, a, p, h). not_free right_bracket a (colon ∷ p) (subst (λ t. FreeOf right_bracket t) (s.only u a p h).1 free))
            | inr (address, rest, free, e) ↦
                elim (cases_Bool (begins_with colon rest)) [
                  | inr other ↦ inr (addressed_no_path b user suffix address rest s free e other)
                  | inl begins ↦
                      elim (free_or_not slash user) [
                        | inr held ↦ inr (addressed_other b user suffix address rest s free e (λ none. absurd (held none)))
                        | inl none ↦
                            elim (address_or_not address) [
                              | inr other ↦ inr (addressed_other b user suffix address rest s free e (λ lacks. other))
                              | inl is ↦
                                  let (path, k) = begins_cut colon rest begins in
                                  inl (user, address, path, record { joined = s.joined ∙ ap (λ t. user ++ at_sign ∷ (left_bracket ∷ t)) (e ∙ ap (λ t. address ++ right_bracket ∷ t) k); no_slash = none; no_colon = s.no_colon; addressed = is })
                            ]
                      ]
                ]
          ]
    ]

-- the first colon cuts such a text
open_cut : (b : List ℕ) → LacksBrackets b → Decides (HasFrontCut b)
open_cut b lacks =
    elim (free_or_cut colon b) [
      | inl free ↦ inr (λ (front, path, h). not_free colon front path (subst (λ t. FreeOf colon t) h.joined free))
      | inr (front, path, free, e) ↦ inl (front, path, record { joined = e; form = ScpFront.plain free (unbracketed_front b front path e lacks) })
    ]

-- the first colon after brackets cuts a text with brackets at its front
closed_cut : (b inside suffix : List ℕ) → FreeOf right_bracket inside → b ≡ left_bracket ∷ (inside ++ right_bracket ∷ suffix) → Decides (HasFrontCut b)
closed_cut b inside suffix free e =
    elim (free_or_cut colon suffix) [
      | inl none ↦ inr (front_unbracketed b inside suffix free e none)
      | inr (rest, path, none, k) ↦ inl (_, path, front_taken b inside suffix rest path free none e k)
    ]

-- the colon of the scp form is there, or not
front_or_not : (b : List ℕ) → Decides (HasFrontCut b)
front_or_not b =
    elim (cases_Bool (begins_with left_bracket b)) [
      | inr other ↦ open_cut b (inl other)
      | inl begins ↦
          let (tail, e) = begins_cut left_bracket b begins in
          elim (free_or_cut right_bracket tail) [
            | inl free ↦ open_cut b (inr (subst (λ t. FreeOf right_bracket t) (sym e) (free-cons right_bracket left_bracket tail refl free)))
            | inr (inside, suffix, free, k) ↦ closed_cut b inside suffix free (e ∙ ap (λ t. left_bracket ∷ t) k)
          ]
    ]

-- such a colon comes before any `/`, or not
scp_or_not : (b : List ℕ) → Decides (HasScpCut b)
scp_or_not b =
    elim (front_or_not b) [
      | inr none ↦ inr (no_scp_uncut b none)
      | inl (front, path, h) ↦
          elim (free_or_not slash front) [
            | inl free ↦ inl (front, path, record { around = h; no_slash = free })
            | inr held ↦ inr (no_scp_cut b front path h held)
          ]
    ]

-- ---- all forms

-- a text that is neither a remote helper nor a URL
neither_decided : (b : List ℕ) → IsNeither b → SpelledOrFlawed b
neither_decided b neither =
    elim (nil_or_some b) [
      | inl none ↦ inr (refusal.EmptyLocal, none)
      | inr some ↦
          elim (addressed_or_not b) [
            | inl (user, address, path, h) ↦
                addressed_decided b user address path (record { cut = h; neither = neither })
            | inr none ↦
                elim (scp_or_not b) [
                  | inl (front, path, h) ↦ plain_decided b front path (plain_scp b front path neither none h)
                  | inr uncut ↦
                      let h = local_form b some neither none uncut in
                      inl (path_alone file true b, Spells.local_path (record { nonempty = h.nonempty; neither = h.neither; no_scp = h.no_scp; value = refl }))
                ]
          ]
    ]

-- each text spells a location, or a flaw is in it
pub decided : Decided
decided b =
    elim (helper_or_not b) [
      | inl (name, address, parts) ↦ inl (path_alone (helper_scheme name) true address, Spells.remote_helper (record { name = name; address = address; parts = parts; value = refl }))
      | inr no_helper ↦
          elim (mark_or_cut b) [
            | inl no_mark ↦ neither_decided b (record { no_helper = no_helper; no_mark = no_mark })
            | inr (front, rest, first, e) ↦ url_decided b front rest (record { no_helper = no_helper; first = first; joined = e })
          ]
    ]
