-- The URL is cut before its path, and each check that fails has its flaw.
use Rattle.std.proofs.Common.{sym}
use Rattle.std.proofs.lemmas.Bool.{false≢true}
use Rattle.std.proofs.lemmas.Result.{err_from_is_err_and}
use Rattle.git_syntax.specs.Flaws.{UrlFlaw}
use Rattle.git_syntax.proofs.Texts.LookLemmas.{known_path}
use Rattle.git_syntax.proofs.Parsing.UrlLemmas.{rest_cut, url_cut, no_scheme_refutes, bad_path_refutes, authority_refutes}
use Rattle.git_syntax.proofs.url_syntax.read_url_syntax.Goals as goal

pub returns-then-not-has_no_white_space-clause-flaw : goal.returns-then-not-has_no_white_space-clause-flaw
returns-then-not-has_no_white_space-clause-flaw c =
    UrlFlaw.white_space c.args.scheme.now c.args.rest.now c.requires.form c.utf8.text (λ h. false≢true (c.if-not-has_no_white_space.ensures.1 h))

pub returns-then-not-has_sound_escapes-clause-flaw : goal.returns-then-not-has_sound_escapes-clause-flaw
returns-then-not-has_sound_escapes-clause-flaw c =
    UrlFlaw.unsound c.args.scheme.now c.args.rest.now c.requires.form (sym c.if-not-has_sound_escapes.ensures)

pub returns-then-not-is_scheme-clause-refused : goal.returns-then-not-is_scheme-clause-refused
returns-then-not-is_scheme-clause-refused c =
    λ parts. no_scheme_refutes _ c.args.scheme.now c.args.rest.now parts c.requires.form (sym c.if-not-is_scheme.ensures)

pub returns-then-not-is_scheme-clause-flaw : goal.returns-then-not-is_scheme-clause-flaw
returns-then-not-is_scheme-clause-flaw c =
    UrlFlaw.no_scheme c.args.scheme.now c.args.rest.now c.requires.form (sym c.if-not-is_scheme.ensures)

pub means_text-requires : goal.means_text-requires
means_text-requires c =
    known_path c.args.rules.web c.args.byte_class c.args.text.now c.args.scheme.now c.args.rest.now c.cut_before_path.result.0.now c.cut_before_path.result.1.now c.requires.form.form.joined c.cut_before_path.ensures.joined c.cut_before_path.ensures.rest c.requires.byte_class

pub returns-then-not-means_text-clause-refused : goal.returns-then-not-means_text-clause-refused
returns-then-not-means_text-clause-refused c =
    let cut = url_cut c.requires.form c.if-not-is_scheme.ensures (rest_cut c.requires.rules.web c.cut_before_path.ensures.joined c.cut_before_path.ensures.front c.cut_before_path.ensures.rest) in
    λ parts. bad_path_refutes _ _ _ _ parts cut (λ h. false≢true (c.if-not-means_text.ensures.1 h))

pub returns-then-not-means_text-clause-flaw : goal.returns-then-not-means_text-clause-flaw
returns-then-not-means_text-clause-flaw c =
    let cut = url_cut c.requires.form c.if-not-is_scheme.ensures (rest_cut c.requires.rules.web c.cut_before_path.ensures.joined c.cut_before_path.ensures.front c.cut_before_path.ensures.rest) in
    UrlFlaw.bad_path _ _ _ cut (λ h. false≢true (c.if-not-means_text.ensures.1 h))

pub returns-in_err-parts-clause-refused : goal.returns-in_err-parts-clause-refused
returns-in_err-parts-clause-refused c =
    let p = err_from_is_err_and c.from_residual.result c.from_residual.ensures.1 in
    let cut = url_cut c.requires.form c.if-not-is_scheme.ensures (rest_cut c.requires.rules.web c.cut_before_path.ensures.joined c.cut_before_path.ensures.front c.cut_before_path.ensures.rest) in
    rw p.1 (λ parts. authority_refutes _ _ _ _ parts cut (rw (c.requires.rules.syntax, c.requires.rules.host) at c.in_err-parts.ensures.refused))

pub returns-in_err-parts-clause-flaw : goal.returns-in_err-parts-clause-flaw
returns-in_err-parts-clause-flaw c =
    let p = err_from_is_err_and c.from_residual.result c.from_residual.ensures.1 in
    let cut = url_cut c.requires.form c.if-not-is_scheme.ensures (rest_cut c.requires.rules.web c.cut_before_path.ensures.joined c.cut_before_path.ensures.front c.cut_before_path.ensures.rest) in
    rw (p.1, p.2) (UrlFlaw.bad_authority _ _ _ _ cut (rw (c.requires.rules.syntax, c.requires.rules.host) at c.in_err-parts.ensures.flaw))

pub holds_escape-requires : goal.holds_escape-requires
holds_escape-requires c =
    known_path c.args.rules.web c.args.byte_class c.args.text.now c.args.scheme.now c.args.rest.now c.cut_before_path.result.0.now c.cut_before_path.result.1.now c.requires.form.form.joined c.cut_before_path.ensures.joined c.cut_before_path.ensures.rest c.requires.byte_class
