-- A location is a value: each field by its type.
use Rattle.std.proofs.Common.{subst}
use Rattle.git_location.specs.Settled.{IsValue}
use Rattle.git_location.proofs.value.law_borrowed_value.Goals as goal

pub returns : goal.returns
returns c =
    record {
      value = subst IsValue c.url.view_is record {
        user = c.law_text.ensures;
        password = c.law_text-2.ensures;
        host = c.law_text-3.ensures;
        port = c.law_port.ensures;
        path = c.law_bytes.ensures;
        spelling = c.law_spelling.ensures;
      };
    }
