-- The words are those of a command for the location, which is safe.
use Rattle.std.proofs.Common.{◌∙◌, ℕ, List, [], ◌∷◌, Some, refl, ap, map, subst}
use Rattle.bstr.specs.Owned.{bstring_bytes}
use Rattle.gix_url.specs.Git.{UserCut}
use Rattle.gix_url.specs.Location.{Location}
use Rattle.git_rules.specs.declared.ssh.Service.TheVariants.{UploadPack}
use Rattle.git_rules.specs.declared.ssh.SshVariant.TheVariants.{Ssh}
use Rattle.git_rules.specs.declared.ssh.ProtocolVersion.TheVariants.{V2}
use Rattle.git_rules.specs.SecureShell.{AreWordsFor, Request, destination, run_there, service_alone, service_name}
use Rattle.user_proofs.specs.Commands.{FetchesFrom}
use Rattle.user_proofs.proofs.commands.words_to_fetch.Goals as goal

fetches : (v : Location) (words : List (List ℕ)) → AreWordsFor v (service_alone UploadPack Ssh V2) words → FetchesFrom v words
fetches v words are =
    let c = are.command in
    record {
      destination = destination c.user c.host;
      remote = run_there c;
      joined = are.words ∙ rw are.asked (rw are.own.port refl);
      no_option = are.safe.no_options.destination;
      host = c.host;
      there = are.own.host;
      cut = subst (λ u. UserCut (destination c.user c.host) u c.host) are.own.user are.safe.cut.cut;
      read = are.safe.words.service (ap (λ (r : Request). r.program) are.asked) ∙ ap (λ (r : Request). Some (service_name r.service ∷ c.path ∷ [])) are.asked ∙ ap (λ p. Some (service_name UploadPack ∷ p ∷ [])) are.own.path;
    }

pub returns-clause-words : goal.returns-clause-words
returns-clause-words c = fetches c.args.url.now _ (subst (λ v. AreWordsFor v (service_alone UploadPack Ssh V2) (map bstring_bytes c.in_ok-words.words.items)) c.as_ref.ensures c.in_ok-words.ensures.words)
