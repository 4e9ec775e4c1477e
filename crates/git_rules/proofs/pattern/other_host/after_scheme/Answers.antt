-- The scheme is `https` or `http`.
use Rattle.std.proofs.Common.{◌∙◌, ◌++◌, codes, refl, ap}
use Rattle.git_rules.proofs.pattern.other_host.after_scheme.Goals as goal

pub returns-in_ok-after_mark-in-Some : goal.returns-in_ok-after_mark-in-Some
returns-in_ok-after_mark-in-Some c =
    record {
      scheme = codes "https";
      scheme_text = refl;
      joined = c.in_ok-rest.ensures ∙ ap (λ t. codes "http" ++ t) c.in-Some.ensures ∙ ap (λ t. codes "https" ++ t) c.in_ok-after_mark-in-Some.ensures;
    }

pub returns-in_ok-after_mark-in-None : goal.returns-in_ok-after_mark-in-None
returns-in_ok-after_mark-in-None c =
    record {
      scheme = codes "http";
      scheme_text = refl;
      joined = c.in_ok-rest.ensures ∙ ap (λ t. codes "http" ++ t) c.in_ok-after_mark-in-None.ensures;
    }
