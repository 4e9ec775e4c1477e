-- The rules are those of the entries of the configuration.
use Rattle.std.proofs.Common.{◌∙◌, ap, subst}
use Rattle.git_rules.specs.RewriteEntries.{rules_of}
use Rattle.git_rules.specs.Rewrites.{IsRewritten, Rules}
use Rattle.call_bench.proofs.call_bench_rewrite_fetch.Goals as goal

pub returns-in-Ok-from_entries : goal.returns-in-Ok-from_entries
returns-in-Ok-from_entries c = λ more.
    let h = c.rewrite_fetch.ensures more in
    let same = c.in-Ok-from_entries.ensures.1 ∙ ap rules_of c.deref.ensures.value in (
      c.in-Ok.entries.items,
      c.in-Ok.ensures,
      (h.0, subst (λ (r : Rules). IsRewritten r.fetching c.args.bytes.now h.0) same h.1, h.2),
    )
