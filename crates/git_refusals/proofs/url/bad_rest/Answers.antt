-- The text after the mark is cut before its path, and each check that finds something has its place there.
use Rattle.std.proofs.Common.{subst, sym, ◌∙◌, arith, IsUtf8}
use Rattle.std.proofs.lemmas.Bool.{both_ways}
use Rattle.std.proofs.lemmas.Bool.Decides.{nat_tests}
use Rattle.git_syntax.proofs.Parsing.ClassifierLemmas.{nil_tested}
use Rattle.git_syntax.proofs.Parsing.UrlLemmas.{rest_cut}
use Rattle.git_refusals.proofs.Refusing.UrlLemmas.{url_pieces_utf8, authority_utf8, by_rules, bad_path, bad_authority, no_path, rest_held}
use Rattle.git_refusals.proofs.url.bad_rest.Goals as goal
use Rattle.git_refusals.proofs.url.bad_rest.Goals.{else-rules-via-then-rules+else-is_empty, else-rules-via-else-rules}

pub returns-in-Some : goal.returns-in-Some
returns-in-Some c =
    let cut = rest_cut c.requires.rules.web c.cut_before_path.ensures.joined c.cut_before_path.ensures.front c.cut_before_path.ensures.rest in
    bad_path c.args.text.now c.args.scheme.now c.args.rest.now _ _ c.in-Some.place c.requires.form cut c.in-Some.ensures

pub bad_authority-requires : goal.bad_authority-requires
bad_authority-requires c =
    let rest = (url_pieces_utf8 c.args.text.now c.args.scheme.now c.args.rest.now c.requires.form.form.joined c.requires.utf8).1 in
    authority_utf8 c.args.rules.web c.cut_before_path.result.0.now c.cut_before_path.result.1.now c.cut_before_path.ensures.rest (subst IsUtf8 c.cut_before_path.ensures.joined rest)

pub returns-in-Some-bad_authority : goal.returns-in-Some-bad_authority
returns-in-Some-bad_authority c =
    let cut = rest_cut c.requires.rules.web c.cut_before_path.ensures.joined c.cut_before_path.ensures.front c.cut_before_path.ensures.rest in
    bad_authority c.args.text.now c.args.scheme.now c.args.rest.now _ _ c.in-Some-bad_authority.place c.requires.form cut c.in_default.ensures.found
    (by_rules c.requires.rules c.in-Some-bad_authority.ensures)

pub returns-then-is_empty : goal.returns-then-is_empty
returns-then-is_empty c =
    let cut = rest_cut c.requires.rules.web c.cut_before_path.ensures.joined c.cut_before_path.ensures.front c.cut_before_path.ensures.rest in
    let held = by_rules c.requires.rules c.in_default-bad_authority.ensures in
    no_path c.args.text.now c.args.scheme.now c.args.rest.now _ _ cut c.in_default.ensures.found held.found
    (sym c.requires.rules.path ∙ c.if-rules.true) (nil_tested c.cut_before_path.result.1.now c.if-is_empty.ensures)

pub returns : goal.returns
returns c =
    let cut = rest_cut c.requires.rules.web c.cut_before_path.ensures.joined c.cut_before_path.ensures.front c.cut_before_path.ensures.rest in
    let held = by_rules c.requires.rules c.in_default-bad_authority.ensures in
    record {
      found = rest_held c.args.scheme.now c.args.rest.now _ _ cut c.in_default.ensures.found held.found (λ need. elim c.else-rules.branch [
        | else-rules-via-then-rules+else-is_empty w ↦ let h = w.if-is_empty.ensures in grind (arith, nat_tests)
        | else-rules-via-else-rules w ↦ absurd (both_ways _ (sym c.requires.rules.path ∙ w.if-rules.false) need)
      ]);
      within = tt;
    }
