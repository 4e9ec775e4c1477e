-- The URL that Git's credential code writes for a request, to compare it with the URLs of a configuration.
use Rattle.std.specs.Prelude.{ℕ, not, ◌||◌, List, [], ◌∷◌, ◌++◌, codes, Option, Some, None}
use Rattle.std.specs.Char.{is_ascii_alphanumeric}
use Rattle.percent_encoding.specs.declared.ascii_set.AsciiSet.{AsciiSet}
use Rattle.percent_encoding.specs.Percent.{percent_encode}
use Rattle.git_syntax.specs.Bytes.{at_sign, is_one_of, slash}
use Rattle.git_syntax.specs.Escapes.{set_of}
use Rattle.git_reads.specs.Credentials.{CredentialReading}

-- every byte except letters, digits and these marks
abbrev pub all_but : List ℕ → AsciiSet
all_but marks = set_of (λ b. not (is_ascii_alphanumeric b || is_one_of marks b))

-- the bytes that are escaped in a user: all except the unreserved ones (RFC 3986)
abbrev pub user_escapes : AsciiSet
user_escapes = all_but (codes "-._~")

-- the bytes that are escaped in a path: all except the unreserved ones and `/`
abbrev pub path_escapes : AsciiSet
path_escapes = all_but (codes "-._~/")

-- the bytes that are escaped in a host with its port
abbrev pub host_escapes : AsciiSet
host_escapes = all_but (codes ".:[]-")

-- a user and the `@` that ends it; nothing if the user is missing or empty
abbrev pub user_text : Option (List ℕ) → List ℕ
user_text None = []
user_text (Some []) = []
user_text (Some (b ∷ bs)) = percent_encode user_escapes (b ∷ bs) ++ at_sign ∷ []

-- a `/` and the path, if there is a path
abbrev pub path_text : Option (List ℕ) → List ℕ
path_text None = []
path_text (Some path) = slash ∷ percent_encode path_escapes path

-- the URL for a request: its parts, with each byte escaped that could be a delimiter
abbrev pub credential_url : CredentialReading → List ℕ
credential_url r = r.protocol ++ (codes "://"
    ++ (user_text r.user ++ (percent_encode host_escapes r.host ++ path_text r.path)))
