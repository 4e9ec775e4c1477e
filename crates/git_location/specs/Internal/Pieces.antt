-- The pieces of a text, and the text that they make up.
use Rattle.std.specs.Prelude.{◌≡◌, ℕ, List, [], ◌∷◌, ◌++◌, length, Option, Some, None, IfSome, Result, Ok, Err}
use Rattle.std.specs.Option.{option_copied}
use Rattle.std.specs.Borrow.{Bor}
use Rattle.percent_encoding.specs.Percent.{percent_encode}
use Rattle.git_syntax.specs.declared.escape.TheConstants.{PATH, PASSWORD, USER}
use Rattle.git_location.specs.declared.writer.piece.Piece.{Piece}
use Rattle.git_location.specs.declared.writer.piece.Piece.TheVariants as piece
use Rattle.git_location.specs.declared.writer.piece.SchemePieces.{SchemePieces}
use Rattle.git_location.specs.declared.writer.piece.SchemePieces.TheVariants as scheme
use Rattle.git_location.specs.declared.writer.piece.UserPieces.{UserPieces}
use Rattle.git_location.specs.declared.writer.piece.UserPieces.TheVariants as user
use Rattle.git_location.specs.declared.writer.piece.HostPieces.{HostPieces}
use Rattle.git_location.specs.declared.writer.piece.HostPieces.TheVariants as host
use Rattle.git_location.specs.declared.writer.piece.PathPieces.{PathPieces}
use Rattle.git_location.specs.declared.writer.piece.PathPieces.TheVariants as path
use Rattle.git_location.specs.declared.writer.piece.Pieces.{Pieces}
use Rattle.git_location.specs.declared.writer.form.Form.{Form as Code}
use Rattle.git_location.specs.declared.writer.form.Form.TheVariants as code
use Rattle.git_location.specs.declared.write_error.WriteFault.{WriteFault}
use Rattle.git_syntax.specs.Bytes.{colon, at_sign, left_bracket, right_bracket}
use Rattle.git_syntax.specs.Escapes.{escaped_percents}
use Rattle.git_syntax.specs.Location.{Location}
use Rattle.git_location.specs.Text.{Form, text}
use Rattle.git_location.specs.Text.Form.{helper_form, path_form, scp_form, canonical_form}

-- the text of a piece: unescaped, with the escapes of a user or of a password, or with each `%` escaped
abbrev pub piece_text : Piece → List ℕ
piece_text (piece.Raw text) = text.now
piece_text (piece.User text) = percent_encode USER text.now
piece_text (piece.Password text) = percent_encode PASSWORD text.now
piece_text (piece.Percents text) = escaped_percents text.now

-- the scheme and its mark
abbrev pub scheme_piece_text : SchemePieces → List ℕ
scheme_piece_text scheme.None = []
scheme_piece_text (scheme.Marked name mark) = name.now ++ mark.now

-- the user information
abbrev pub user_text : UserPieces → List ℕ
user_text user.None = []
user_text (user.User name) = piece_text name ++ at_sign ∷ []
user_text (user.Both name password) = piece_text name
    ++ (colon ∷ (piece_text password ++ at_sign ∷ []))

-- the host
abbrev pub host_text : HostPieces → List ℕ
host_text host.None = []
host_text (host.Open name) = piece_text name
host_text (host.Bracketed name) = left_bracket ∷ (piece_text name ++ right_bracket ∷ [])

-- the port after its colon
abbrev pub port_text : Option (Bor (List ℕ)) → List ℕ
port_text None = []
port_text (Some digits) = colon ∷ digits.now

-- the path after its mark
abbrev pub path_end_text : PathPieces → List ℕ
path_end_text (path.Raw mark bytes) = mark.now ++ bytes.now
path_end_text (path.Escaped mark bytes) = mark.now ++ percent_encode PATH bytes.now

-- the text of all pieces
abbrev pub pieces_text : Pieces → List ℕ
pieces_text p = scheme_piece_text p.scheme
    ++ (user_text p.user ++ (host_text p.host ++ (port_text p.port ++ path_end_text p.path)))

-- ---- forms

-- the form that a `Form` represents
abbrev pub form_of : Code → Form
form_of code.Helper = helper_form
form_of code.Path = path_form
form_of code.Scp = scp_form
form_of code.Canonical = canonical_form

-- the form that a `Form` represents, or the fault
abbrev pub form_chosen : Result Code WriteFault → Result Form WriteFault
form_chosen (Ok form) = Ok (form_of form)
form_chosen (Err fault) = Err fault

-- the location with this password
abbrev pub with_password : Location → Option (Bor (List ℕ)) → Location
with_password v other = record v { password = option_copied other }

-- ---- the pieces of a location

-- the text that pieces make up, or the fault
abbrev pub text_of_pieces : Result Pieces WriteFault → Result (List ℕ) WriteFault
text_of_pieces (Ok p) = Ok (pieces_text p)
text_of_pieces (Err fault) = Err fault

-- the pieces, if there are any, make up the location's text
abbrev pub AreOwn : Option (Bor Pieces) → Location → Type 0
AreOwn laid v = IfSome laid (λ p. text v ≡ Ok (pieces_text p.now))

-- the length of a text, or the fault
abbrev pub text_length : Result (List ℕ) WriteFault → Result ℕ WriteFault
text_length (Ok t) = Ok (length t)
text_length (Err fault) = Err fault
