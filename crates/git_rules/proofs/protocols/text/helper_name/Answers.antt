-- The first colon of the text ends the name, and another one follows it.
use Rattle.std.proofs.Common.{◌∙◌, ◌++◌, ◌∷◌, ◌==◌, length, ap, sym, subst}
use Rattle.std.proofs.lemmas.Bool.{false≢true}
use Rattle.git_syntax.specs.Bytes.{colon}
use Rattle.git_syntax.proofs.Parsing.ClassifierLemmas.{helper_name_utf8, nil_tested}
use Rattle.git_reads.proofs.Reading.TransportLemmas.{helper_single}
use Rattle.git_rules.specs.TextTransports.{UsesTransport}
use Rattle.git_rules.proofs.Allowed.TransportLemmas.{names_none, uses_empty, uses_helper}
use Rattle.git_rules.proofs.protocols.text.helper_name.Goals as goal

pub returns-then-not-starts_with_byte : goal.returns-then-not-starts_with_byte
returns-then-not-starts_with_byte c = helper_single c.args.text.now c.in_ok-name.name.now c.in_ok-name.address.now c.in_ok-name.ensures.0 c.in_ok-name.ensures.1 (sym c.if-not-starts_with_byte.ensures)

pub returns-then-is_empty : goal.returns-then-is_empty
returns-then-is_empty c =
    let none = nil_tested c.in_ok-name.name.now c.if-is_empty.ensures in
    uses_empty c.args.text.now c.in_ok-name.address.now (c.in_ok-name.ensures.1 ∙ ap (λ s. s ++ colon ∷ c.in_ok-name.address.now) none) (sym c.if-not-starts_with_byte.ensures)

pub returns-then-not-is_helper_name : goal.returns-then-not-is_helper_name
returns-then-not-is_helper_name c = names_none c.args.text.now c.in_ok-name.name.now c.in_ok-name.address.now c.in_ok-name.ensures.0 c.in_ok-name.ensures.1 (λ none. false≢true (c.if-is_empty.ensures ∙ ap (λ s. length s == 0) none)) (sym c.if-not-is_helper_name.ensures)

pub as_text-requires : goal.as_text-requires
as_text-requires c = helper_name_utf8 c.in_ok-name.name.now (sym c.if-not-is_helper_name.ensures)

pub returns : goal.returns
returns c = subst (UsesTransport c.args.text.now) (sym c.as_text.ensures) (uses_helper c.args.text.now c.in_ok-name.name.now c.in_ok-name.address.now c.in_ok-name.ensures.1 (sym c.if-not-starts_with_byte.ensures) (sym c.if-not-is_helper_name.ensures))
