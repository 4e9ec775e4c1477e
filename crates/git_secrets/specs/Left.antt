-- The rest of a text that is split into pieces.
use Rattle.std.specs.Prelude.{List, ◌++◌}
use Rattle.git_secrets.specs.declared.Secret.TheVariants as secret
use Rattle.git_secrets.specs.declared.left.Left.{Left}
use Rattle.git_secrets.specs.declared.left.Run.{Run}
use Rattle.git_secrets.specs.declared.Pieces.TheInside.{Inside}
use Rattle.git_secrets.specs.Secrets.{Part, hidden_part, plain_parts, tokens, wide_parts}

-- the pieces of the rest of a run
abbrev pub run_left : Run → List Part
run_left r = tokens r.words.now ++ (hidden_part secret.Password r.password.now ++ tokens r.more.now)

-- the pieces of the rest after its first run
abbrev pub after_run : Left → List Part
after_run l = plain_parts l.web l.front.now ++ (hidden_part secret.Token l.token.now ++ (tokens l.scp.now
    ++ (plain_parts l.web l.plain.now ++ (wide_parts l.web l.wide.now ++ tokens l.end.now))))

-- the pieces of the rest
abbrev pub left : Left → List Part
left l = run_left l.run ++ after_run l

-- the remaining pieces of an iterator
abbrev pub pieces_left : Inside → List Part
pieces_left s = left s.left
