use Rattle.git_rules.proofs.Programs.NameLemmas.{write_first, write_more, write_over}
use Rattle.git_rules.proofs.ssh.program.name.BaseName.put.Goals as goal

pub returns-then-self : goal.returns-then-self
returns-then-self c = λ path h. write_first c.args.self.now path c.args.byte c.if-self.true c.if-byte-eq47.false h

pub returns-then-self-lt-MOST_KEPT : goal.returns-then-self-lt-MOST_KEPT
returns-then-self-lt-MOST_KEPT c =
    λ path h. write_more c.args.self.now path c.args.byte c.if-self.false c.if-byte-eq47.false c.if-self-lt-MOST_KEPT.true h

pub returns-else-self-lt-MOST_KEPT : goal.returns-else-self-lt-MOST_KEPT
returns-else-self-lt-MOST_KEPT c =
    λ path h. write_over c.args.self.now path c.args.byte c.if-self.false c.if-byte-eq47.false c.if-self-lt-MOST_KEPT.false h
