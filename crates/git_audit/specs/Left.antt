-- The rest of a text that is split into pieces.
use Rattle.std.specs.Prelude.{List, ◌++◌}
use Rattle.git_audit.specs.declared.secret.left.Left.{Left}
use Rattle.git_audit.specs.declared.secret.Pieces.TheInside.{Inside}
use Rattle.git_audit.specs.Secrets.{Part, hidden_part, plain_parts, tokens, wide_parts}

-- the pieces of the rest
abbrev pub left : Left → List Part
left l = tokens l.words.now ++ (hidden_part l.secret.now ++ (tokens l.more.now ++ (plain_parts l.web l.plain.now
    ++ (wide_parts l.web l.wide.now ++ tokens l.end.now))))

-- the remaining pieces of an iterator
abbrev pub pieces_left : Inside → List Part
pieces_left s = left s.left
