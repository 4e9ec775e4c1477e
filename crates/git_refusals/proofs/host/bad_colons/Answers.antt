-- Colons that mark no port, in each syntax.
use Rattle.std.proofs.Common.{refl, ap, inl, inr, sym, ◌∙◌, Some, None}
use Rattle.std.proofs.lemmas.Bool.{false≢true}
use Rattle.git_syntax.specs.Bytes.{lowercase}
use Rattle.git_syntax.specs.Hosts.{SpellsHostPort}
use Rattle.git_syntax.specs.Internal.HostPieces.{host_syntax}
use Rattle.git_syntax.proofs.Parsing.HostLemmas.{loose_not_bare}
use Rattle.git_refusals.proofs.Refusing.HostLemmas.{lax_many, lax_syntax, web_many}
use Rattle.git_refusals.proofs.host.bad_colons.Goals as goal

pub returns-in-Http : goal.returns-in-Http
returns-in-Http c =
    web_many (host_syntax c.args.syntax) c.args.piece.now c.web_colons.result (ap host_syntax c.in-Http.is) c.requires.no_bracket c.requires.colons c.web_colons.ensures

pub returns-then-is_address_piece : goal.returns-then-is_address_piece
returns-then-is_address_piece c = record {
  found = (Some (lowercase c.args.piece.now), None, SpellsHostPort.unbracketed (ap host_syntax c.in-Git.is, c.if-is_address_piece.ensures.0 refl) refl refl);
  within = tt;
}

pub returns-else-is_address_piece : goal.returns-else-is_address_piece
returns-else-is_address_piece c =
    lax_many (host_syntax c.args.syntax) c.args.piece.now c.undecodable.result (lax_syntax c.args.syntax (inl c.in-Git.is))
    (λ reads. false≢true (c.if-is_address_piece.ensures.1 reads.1)) c.requires.no_bracket c.requires.colons c.undecodable.ensures

pub returns-in-Other : goal.returns-in-Other
returns-in-Other c =
    lax_many (host_syntax c.args.syntax) c.args.piece.now c.undecodable-in-Other.result (lax_syntax c.args.syntax (inr c.in-Other.is))
    (λ reads. loose_not_bare (sym (ap host_syntax c.in-Other.is) ∙ reads.0)) c.requires.no_bracket c.requires.colons c.undecodable-in-Other.ensures
