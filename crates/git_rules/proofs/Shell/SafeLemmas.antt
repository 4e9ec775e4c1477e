-- A command that can be made is safe.
use Rattle.std.proofs.Common.{◌≡◌, ℕ, ◌<◌, Bool, true, false, ◌==◌, List, [], ◌∷◌, ◌++◌, length, Option, Some, None, IfSome, codes, decimal, refl, sym, subst, arith}
use Rattle.std.specs.Prelude.{is_none, unwrap_or, if◌then◌else◌}
use Rattle.std.specs.List.{list_any}
use Rattle.std.specs.Char.{is_ascii_digit}
use Rattle.std.proofs.lemmas.Bool.{both_ways, eq-eqb}
use Rattle.std.proofs.lemmas.Option.{IfSome_then}
use Rattle.git_syntax.specs.Bytes.{hyphen, at_sign, FreeOf, is_option_like}
use Rattle.git_syntax.proofs.Texts.CutLemmas.{heads, tails, free_begins, free_head_tail, free_of_all}
use Rattle.git_syntax.proofs.Parsing.HostLemmas.{decimal_digits}
use Rattle.git_reads.specs.Git.{UserCut}
use Rattle.git_rules.specs.ShellWords.{shell_words}
use Rattle.git_rules.specs.declared.ssh.Service.{Service}
use Rattle.git_rules.specs.declared.ssh.Service.TheVariants.{UploadPack, ReceivePack, UploadArchive}
use Rattle.git_rules.specs.declared.ssh.SshRefusal.{SshRefusal}
use Rattle.git_rules.specs.declared.ssh.SshRefusal.TheVariants as refusal
use Rattle.git_rules.specs.SecureShell.{Command, IsSafe, IsSafeCommand, destination, has_zero, is_url_like, or_refusal, program_refusal, program_text, remote_command, service_name, user_refusal, host_refusal, url_refusal, path_refusal}
use Rattle.git_rules.proofs.Shell.QuoteLemmas.{path_read, program_read, two_words}

-- ---- refusals

-- if there is no refusal, there is none of both
pub both_none : (a b : Option SshRefusal) → or_refusal a b ≡ None → (a ≡ None) × (b ≡ None)
both_none None b h = (refl, h)
both_none (Some r) b h = absurd (cc)

-- and none of the test
pub test_false : (t : Bool) (r : SshRefusal) (rest : Option SshRefusal) → (if t then Some r else rest) ≡ None → (t ≡ false) × (rest ≡ None)
test_false true r rest h = absurd (cc)
test_false false r rest h = (refl, h)

none_from_test : (a : Option SshRefusal) → is_none a ≡ true → a ≡ None
none_from_test None h = refl
none_from_test (Some r) h = absurd (cc)

-- ---- users and hosts

-- the conditions on a user
record IsGoodUser (user : List ℕ) : Type 0 where
  some : 0 < length user
  no_option : is_option_like user ≡ false

good_user : (user : List ℕ) → user_refusal (Some user) ≡ None → IsGoodUser user
good_user [] h = absurd (cc)
good_user (b ∷ bs) h = record {
  some = omega arith;
  no_option = (test_false _ _ _ (test_false _ _ _ h).1).0;
}

-- the conditions on a host
record IsGoodHost (host : List ℕ) : Type 0 where
  no_option : is_option_like host ≡ false
  no_at : FreeOf at_sign host

good_host : (host : List ℕ) → host_refusal (Some host) ≡ None → IsGoodHost host
good_host [] h = absurd (cc)
good_host (b ∷ bs) h =
    let past_zero = test_false (has_zero (b ∷ bs)) refusal.ByteZero _ h in
    let past_option = test_false (is_option_like (b ∷ bs)) refusal.OptionLikeHost _ past_zero.1 in
    let past_at = test_false (list_any (λ c. c == at_sign) (b ∷ bs)) refusal.AtSignInHost None past_option.1 in
    record { no_option = past_option.0; no_at = past_at.0 }

-- ---- destinations

-- a text before an `@` begins with the bytes with which the whole begins, if no `@` is in those
mark_before : (mark user host rest : List ℕ) → FreeOf at_sign mark → user ++ at_sign ∷ host ≡ mark ++ rest → (r : List ℕ) × (user ≡ mark ++ r)
mark_before [] user host rest free e = (user, refl)
mark_before (m ∷ mark) [] host rest free e = absurd (both_ways (m == at_sign) (free_head_tail at_sign m mark free).0 (eq-eqb m at_sign (sym (heads e))))
mark_before (m ∷ mark) (a ∷ user) host rest free e =
    let (r, is) = mark_before mark user host rest (free_head_tail at_sign m mark free).1 (tails e) in
    let first : a ≡ m = heads e in
    (r, cc)

-- a text that begins with `ssh://` is found to
url_found : (text rest : List ℕ) → text ≡ codes "ssh://" ++ rest → is_url_like text ≡ true
url_found text rest e = subst (λ t. is_url_like t ≡ true) (sym e) refl

-- the destination isn't a URL
destination_no_url : (user : Option (List ℕ)) (host : List ℕ) → url_refusal user (Some host) ≡ None → (rest : List ℕ) → ¬ (destination user host ≡ codes "ssh://" ++ rest)
destination_no_url None host h rest e = both_ways (is_url_like host) (test_false _ _ _ h).0 (url_found host rest e)
destination_no_url (Some user) host h rest e =
    let (r, is) = mark_before (codes "ssh://") user host rest refl e in
    both_ways (is_url_like user) (test_false _ _ _ h).0 (url_found user r is)

-- it isn't an option
destination_no_option : (user : Option (List ℕ)) (host : List ℕ) → user_refusal user ≡ None → IsGoodHost host → is_option_like (destination user host) ≡ false
destination_no_option None host h good = good.no_option
destination_no_option (Some []) host h good = refl
destination_no_option (Some (b ∷ u)) host h good = (good_user (b ∷ u) h).no_option

-- and is cut if it was joined
destination_cut : (user : Option (List ℕ)) (host : List ℕ) → user_refusal user ≡ None → IsGoodHost host → UserCut (destination user host) user host
destination_cut None host h good = UserCut.host_alone good.no_at refl refl
destination_cut (Some user) host h good = UserCut.with_user user (good_user user h).some good.no_at refl refl

-- a path that is not refused isn't an option
path_no_option : (path : List ℕ) → path_refusal path ≡ None → is_option_like path ≡ false
path_no_option [] h = refl
path_no_option (b ∷ bs) h = (test_false _ _ _ (test_false _ _ _ h).1).0

-- the digits of a port aren't an option
digits_no_option : (port : ℕ) → port < 65536 → is_option_like (decimal port) ≡ false
digits_no_option port small = free_begins hyphen (decimal port) (free_of_all is_ascii_digit hyphen (decimal port) (decimal_digits port small).1 refl)

-- nor is the remote command, if the program isn't refused
remote_no_option : (service : Service) (program : Option (List ℕ)) (path : List ℕ) → program_refusal program ≡ None → is_option_like (remote_command (unwrap_or program (service_name service)) path) ≡ false
remote_no_option UploadPack None path h = refl
remote_no_option ReceivePack None path h = refl
remote_no_option UploadArchive None path h = refl
remote_no_option service (Some []) path h = absurd (cc)
remote_no_option service (Some (b ∷ bs)) path h = (test_false _ _ _ (test_false _ _ _ h).1).0

-- the words that a shell reads if the request has no program
service_read : (service : Service) (program : Option (List ℕ)) (path : List ℕ) → program ≡ None → shell_words (remote_command (unwrap_or program (service_name service)) path) ≡ Some (service_name service ∷ path ∷ [])
service_read service None path h = two_words service path
service_read service (Some program) path h = absurd (cc)

-- no word but the options is one, Secure Shell cuts its word
-- if it was joined, and a shell reads the path
pub safe_command : (c : Command) → IsSafe c → IfSome c.port (λ p. p < 65536) → IsSafeCommand c
safe_command c safe small =
    let all = both_none _ _ (none_from_test _ safe) in
    let ends = both_none _ _ all.0 in
    let past_user = both_none _ _ ends.1 in
    let past_path = both_none _ _ all.1 in
    let good = good_host c.host past_user.0 in
    record {
      no_options = record {
        destination = destination_no_option c.user c.host ends.0 good;
        host = good.no_option;
        path = path_no_option c.path past_path.0;
        digits = IfSome_then c.port small digits_no_option;
        remote = remote_no_option c.request.service c.request.program c.path (both_none _ _ past_path.1).0;
      };
      cut = record {
        no_url = destination_no_url c.user c.host past_user.1;
        cut = destination_cut c.user c.host ends.0 good;
      };
      words = record {
        service = service_read c.request.service c.request.program c.path;
        joined = refl;
        path = path_read c.path;
        program = program_read (program_text c.request) c.path;
      };
    }
