-- The hints that apply to a line. A refused line has no reading.
use Rattle.std.specs.Prelude.{ℕ, Bool, false, not, ◌&&◌, ◌||◌, ◌==◌, if◌then◌else◌, List, [], ◌∷◌, codes, Option, Some, None, option_map}
use Rattle.std.specs.Option.{is_none, is_some}
use Rattle.std.specs.Borrow.{Bor}
use Rattle.git_syntax.specs.Bytes.{begins_with, slash, space, tab, tilde}
use Rattle.git_audit.specs.Dangers.{has_front}
use Rattle.explain_report.specs.declared.form.Form.{Form}
use Rattle.explain_report.specs.declared.form.Form.TheVariants as form
use Rattle.explain_report.specs.declared.advice.reading.Reading.{Reading}
use Rattle.explain_report.specs.declared.advice.hint.Hint.{Hint}
use Rattle.explain_report.specs.declared.advice.hint.Hint.TheVariants as hint
use Rattle.explain_report.specs.Hints.{is_remote_name}
use Rattle.explain_report.specs.HostNames.{is_host_name, is_name_of_service, is_user_and_host}
use Rattle.explain_report.specs.Marks.{has_end, holds, is_among, is_empty, is_word, some_passes}
use Rattle.explain_report.specs.Pasted as pasted
use Rattle.explain_report.specs.Scripts.{is_mixed}
use Rattle.explain_report.specs.Secrets.{has_secret}
use Rattle.explain_report.specs.Slips as slip
use Rattle.explain_report.specs.WebPages.{is_page}

-- ---- readings

-- the scheme is one of HTTP
abbrev pub is_of_web : Reading → Bool
is_of_web r = is_among (codes "http" ∷ codes "https" ∷ []) r.scheme.now

-- the scheme is that of Secure Shell or of `git://`
abbrev pub is_of_shell_or_git : Reading → Bool
is_of_shell_or_git r = is_among (codes "ssh" ∷ codes "git" ∷ []) r.scheme.now

-- the scheme is this one
abbrev pub is_of : List ℕ → Reading → Bool
is_of scheme r = is_word r.scheme.now scheme

-- the part is present, and passes the test
abbrev pub part_passes : (List ℕ → Bool) → Option (Bor (List ℕ)) → Bool
part_passes test part = some_passes test (option_map (λ it. it.now) part)

-- there is a password that another hint is about
abbrev pub has_password_with_hint : Reading → Bool
has_password_with_hint r = r.has_password && (is_of_web r || is_of (codes "ssh") r)

-- it is a file, and has a host
abbrev pub is_of_file_with_host : Reading → Bool
is_of_file_with_host r = is_of (codes "file") r && part_passes (λ host. not (is_empty host)) r.host

-- a revision is named in a place that Git doesn't read one from
abbrev pub names_revision : Reading → Bool
names_revision r = if is_of_shell_or_git r then holds (codes ".git#") r.path.now || holds (codes ".git?") r.path.now
    else is_of_web r && r.has_revision

-- the short names of forges
abbrev pub short_names : List (List ℕ)
short_names = codes "github" ∷ codes "gitlab" ∷ codes "bitbucket" ∷ codes "gist" ∷ codes "codeberg" ∷ codes "sourcehut" ∷ []

-- the host is the short name of a forge, without a user, and the path is that of a repository there
abbrev pub has_short_name : Reading → Bool
has_short_name r = part_passes (is_among short_names) r.host && (is_none r.user && not (begins_with slash r.path.now))

-- ---- hints

-- a space or a tab
abbrev pub is_blank : ℕ → Bool
is_blank b = b == space || b == tab

-- the first byte or the last one is a blank
abbrev pub has_outer_blank : List ℕ → Bool
has_outer_blank line = has_front line (codes " ") || (has_front line (tab ∷ []) || (has_end line (codes " ") || has_end line (tab ∷ [])))

-- hints about the bytes of a line, however they are read
abbrev pub is_in_bytes : Hint → List ℕ → Bool
is_in_bytes hint.CapitalScheme line = slip.has_capital_scheme line
is_in_bytes hint.CarriageReturn line = has_end line (13 ∷ [])
is_in_bytes hint.ByteOrderMark line = has_front line (0xEF ∷ 0xBB ∷ 0xBF ∷ [])
is_in_bytes hint.OuterBlank line = has_outer_blank line
is_in_bytes hint.PastedCommand line = pasted.begins_with_command line
is_in_bytes hint.MarkdownLink line = pasted.is_markdown_link line
is_in_bytes hint.PastedSetting line = pasted.is_setting line
is_in_bytes hint.PastedRemote line = pasted.is_listed_remote line
is_in_bytes hint.Quotes line = pasted.is_quoted line
is_in_bytes hint.PortInBrackets line = slip.has_port_in_brackets line
is_in_bytes hint.OneSlash line = slip.has_one_slash line
is_in_bytes hint.NearScheme line = slip.has_near_scheme line
is_in_bytes hint.PackageScheme line = slip.begins_with_package_scheme line && not (slip.has_two_colons line)
is_in_bytes hint.SchemeAfterUser line = slip.has_scheme_after_user line
is_in_bytes hint.EscapedAt line = slip.has_escaped_at line
is_in_bytes hint.TwoColons line = slip.has_two_colons line
is_in_bytes hint.SchemeTwice line = slip.has_scheme_twice line
is_in_bytes _ line = false

-- hints about refused lines
abbrev pub is_in_refused : Hint → List ℕ → Bool
is_in_refused hint.ColonForSlash line = slip.has_colon_for_slash line
    && (not (slip.has_slash_in_password line) && not (slip.has_escaped_at line))
is_in_refused hint.SlashInPassword line = slip.has_slash_in_password line
is_in_refused hint.Punycode line = slip.has_wide_host_of_web line
is_in_refused hint.MixedScripts line = some_passes is_mixed (slip.host_of_refused line)
is_in_refused hint.HiddenSecret line = has_secret line
is_in_refused _ line = false

-- hints about local paths
abbrev pub is_in_path : Hint → List ℕ → Bool
is_in_path hint.NoScheme path = some_passes is_host_name (slip.first_element path)
is_in_path hint.HomeHere path = begins_with tilde path
is_in_path hint.SlashForColon path = some_passes is_user_and_host (slip.first_element path)
is_in_path hint.Relative path = is_word path (codes "..") || has_front path (codes "../")
is_in_path hint.RemoteName path = is_remote_name path
is_in_path hint.MissingColon path = slip.lacks_colon path
is_in_path hint.WindowsShare path = has_front path (codes "\\\\")
is_in_path _ path = false

-- hints about the scp form
abbrev pub is_in_scp : Hint → List ℕ → Reading → Bool
is_in_scp hint.WindowsPath line r = slip.begins_with_drive line
is_in_scp hint.ScpPort line r = slip.begins_with_port r.path.now
is_in_scp hint.ShortName line r = has_short_name r
is_in_scp _ line r = false

-- hints about URLs
abbrev pub is_in_url : Hint → Reading → Bool
is_in_url hint.StoredPassword r = is_of_web r && r.has_password
is_in_url hint.Unencrypted r = is_of (codes "http") r && (is_some r.user || r.has_password)
is_in_url hint.WebPage r = is_of_web r && is_page (option_map (λ host. host.now) r.host) r.path.now
is_in_url hint.SshPassword r = is_of (codes "ssh") r && r.has_password
is_in_url hint.FileHost r = is_of_file_with_host r && not (part_passes slip.is_drive r.host)
is_in_url hint.FileDrive r = is_of (codes "file") r && part_passes slip.is_drive r.host
is_in_url _ r = false

-- hints about URLs and the scp form
abbrev pub is_in_remote : Hint → List ℕ → Reading → Bool
is_in_remote hint.EndOfSentence line r = pasted.ends_like_sentence line
is_in_remote hint.HomeThere line r = is_of_shell_or_git r && begins_with tilde r.path.now
is_in_remote hint.Revision line r = names_revision r
is_in_remote hint.HostAsUser line r = part_passes is_name_of_service r.user
is_in_remote hint.MixedScripts line r = part_passes is_mixed r.host
is_in_remote _ line r = false

-- the hint about the remote helper `ext`
abbrev pub is_in_helper : Hint → Reading → Bool
is_in_helper hint.RunsCommand r = is_of (codes "ext") r
is_in_helper _ r = false

-- hints about the reading of a line, by its form
abbrev pub is_in_form : Form → Hint → List ℕ → Reading → Bool
is_in_form form.Local h line r = is_in_path h line
is_in_form form.Scp h line r = is_in_scp h line r || is_in_remote h line r
is_in_form form.Url h line r = is_in_url h r || is_in_remote h line r
is_in_form form.RemoteHelper h line r = is_in_helper h r

-- hints about another text, or about a hidden part
abbrev pub is_beside : Hint → Reading → Bool
is_beside hint.WriteInstead r = r.has_instead
is_beside hint.HiddenSecret r = r.has_hidden && not (has_password_with_hint r)
is_beside _ r = false

-- the hint applies to the line
abbrev pub applies : List ℕ → Option Reading → Hint → Bool
applies line None h = is_in_refused h line || is_in_bytes h line
applies line (Some r) h = is_beside h r || (is_in_form r.form h line r || is_in_bytes h line)

-- all hints, in the order in which they are listed
abbrev pub every_hint : List Hint
every_hint = hint.ColonForSlash ∷ hint.NoScheme ∷ hint.WindowsPath ∷ hint.CapitalScheme ∷ hint.CarriageReturn
    ∷ hint.ByteOrderMark ∷ hint.OuterBlank ∷ hint.RunsCommand ∷ hint.HomeHere ∷ hint.HomeThere ∷ hint.StoredPassword
    ∷ hint.Unencrypted ∷ hint.PastedCommand ∷ hint.WebPage ∷ hint.SlashForColon ∷ hint.Quotes ∷ hint.ScpPort
    ∷ hint.PortInBrackets ∷ hint.OneSlash ∷ hint.NearScheme ∷ hint.PackageScheme ∷ hint.ShortName
    ∷ hint.SchemeAfterUser ∷ hint.Revision ∷ hint.HostAsUser ∷ hint.MixedScripts ∷ hint.Relative ∷ hint.RemoteName
    ∷ hint.SlashInPassword ∷ hint.Punycode ∷ hint.SshPassword ∷ hint.FileHost ∷ hint.EscapedAt ∷ hint.MissingColon
    ∷ hint.TwoColons ∷ hint.SchemeTwice ∷ hint.EndOfSentence ∷ hint.MarkdownLink ∷ hint.PastedSetting
    ∷ hint.PastedRemote ∷ hint.WindowsShare ∷ hint.FileDrive ∷ hint.HiddenSecret ∷ hint.WriteInstead ∷ []
