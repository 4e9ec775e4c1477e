-- The host that Secure Shell takes from a text is text, and the only host that it takes.
use Rattle.std.proofs.Common.{sym, subst, ap, ◌∙◌}
use Rattle.std.specs.Str.{IsUtf8}
use Rattle.std.proofs.lemmas.Str.{IsUtf8-string_bytes}
use Rattle.git_syntax.specs.Internal.FoundPieces.{ssh_host}
use Rattle.git_syntax.proofs.Parsing.FoundLemmas.{peels}
use Rattle.git_syntax.proofs.Parsing.UrlLocationLemmas.{ssh_host_utf8}
use Rattle.git_syntax.proofs.Unique.UniqueLemmas.{ssh_host_unique}
use Rattle.git_syntax.proofs.ssh_host.ssh_host.Goals as goal

pub into_text-requires : goal.into_text-requires
into_text-requires c =
    let host = subst (λ v. IsUtf8 v.items) (sym c.into_bytes.ensures.value) (IsUtf8-string_bytes c.args.host) in
    ssh_host_utf8 c.ssh_host_bytes.ensures host

pub returns : goal.returns
returns c = c.into_text.ensures ∙ ssh_host_unique _ _ _ c.ssh_host_bytes.ensures (peels _) ∙ ap (λ v. ssh_host v.items) c.into_bytes.ensures.value
