-- The host that Secure Shell takes is text.
use Rattle.std.proofs.Common.{sym, subst, ap, [], IsUtf8, ◌∙◌}
use Rattle.std.specs.Prelude.{IfSome}
use Rattle.git_syntax.specs.Internal.FoundPieces.{host_for}
use Rattle.git_syntax.specs.Internal.HostPieces.{host_of}
use Rattle.git_syntax.specs.Internal.SchemeRules.{scheme_named}
use Rattle.git_syntax.proofs.Parsing.FoundLemmas.{host_utf8}
use Rattle.git_location.proofs.to_url_ref.url_location.Goals as goal

pub text_of-requires-3 : goal.text_of-requires-3
text_of-requires-3 c =
    let scheme = scheme_named c.args.rules.known [] in
    subst (λ host. IfSome host IsUtf8) (sym (c.host_for.ensures [] ∙ ap (host_for scheme) c.host_in-buffer.ensures.text)) (host_utf8 scheme (host_of c.args.url.host) c.requires.ready.texts.host)
