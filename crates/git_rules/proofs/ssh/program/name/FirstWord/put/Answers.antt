use Rattle.std.proofs.Common.{◌∙◌, [], ◌∷◌, ◌++◌, ap, sym}
use Rattle.git_rules.specs.CommandLines.{line_words_from}
use Rattle.git_rules.specs.BaseNames.{spot_of, word_by}
use Rattle.git_rules.proofs.Programs.WordLemmas.{gap_read, part_going}
use Rattle.git_rules.proofs.ssh.program.name.FirstWord.put.Goals as goal

pub returns-in-Gap : goal.returns-in-Gap
returns-in-Gap c =
    λ rest whole h. record {
      read = h.read;
      name = h.name;
      is = sym (gap_read c.args.self.now.is_first h.read rest) ∙ ap (λ ws. word_by c.args.self.now.is_first h.read ws) (sym (c.in-Gap.ensures rest)) ∙ h.is;
    }

pub returns-else-not-self : goal.returns-else-not-self
returns-else-not-self c =
    λ rest whole h.
    let words = line_words_from (spot_of c.in-Part.spot) rest in
    record {
      read = h.read ++ c.args.byte ∷ [];
      name = c.put.ensures h.read h.name;
      is = part_going c.args.self.now.is_first h.read c.args.byte words c.if-not-self.false ∙ ap (λ ws. word_by c.args.self.now.is_first h.read ws) (sym (c.in-Part.ensures rest)) ∙ h.is;
    }
