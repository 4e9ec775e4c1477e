-- The copy is the location, and is treated as it would be.
use Rattle.std.proofs.Common.{◌≡◌, inr, subst, Ok, Err}
use Rattle.std.specs.Fn.{FnOnceReturnsAt}
use Rattle.std.specs.Str.{IsUtf8}
use Rattle.std.proofs.lemmas.Result.{err_from_is_err_and}
use Rattle.gix_url.specs.HomeReadings.{IsUnresolved}
use Rattle.git_syntax.specs.Location.Scheme.{file}
use Rattle.gix_url.proofs.Homes.CanonicalLemmas.{Resolves, resolved_text, resolved_none}
use Rattle.gix_url.proofs.location.Url.canonicalized.Goals as goal

pub returns-in_err-canonicalize-clause-resolved : goal.returns-in_err-canonicalize-clause-resolved
returns-in_err-canonicalize-clause-resolved g c = λ is_file is_text.
    let reported = err_from_is_err_and c.from_residual-in_err-canonicalize.result c.from_residual-in_err-canonicalize.ensures.1 in
    let all = subst (λ v. v.scheme ≡ file → IsUtf8 v.path → Resolves (FnOnceReturnsAt g.F.FnOnce c.args.resolve v.path) v c.canonicalize.new.self (Err c.in_err-canonicalize.field-0.0)) c.in_ok-copy.ensures.equal c.in_err-canonicalize.ensures.resolved in
    rw (reported.1, reported.2) (resolved_none (FnOnceReturnsAt g.F.FnOnce c.args.resolve c.args.self.now.path) c.args.self.now c.canonicalize.new.self c.in_err-canonicalize.field-0.0 (all is_file is_text))

pub returns-clause-resolved : goal.returns-clause-resolved
returns-clause-resolved g c = λ is_file is_text.
    let all = subst (λ v. v.scheme ≡ file → IsUtf8 v.path → Resolves (FnOnceReturnsAt g.F.FnOnce c.args.resolve v.path) v c.canonicalize.new.self (Ok tt)) c.in_ok-copy.ensures.equal c.in_ok-canonicalize.ensures.resolved in
    resolved_text (FnOnceReturnsAt g.F.FnOnce c.args.resolve c.args.self.now.path) c.args.self.now c.canonicalize.new.self tt (all is_file is_text)

pub returns-in_err-canonicalize-clause-refused : goal.returns-in_err-canonicalize-clause-refused
returns-in_err-canonicalize-clause-refused g c =
    let reported = err_from_is_err_and c.from_residual-in_err-canonicalize.result c.from_residual-in_err-canonicalize.ensures.1 in
    rw (reported.1, reported.2) (inr (subst (λ v. IsUnresolved v c.in_err-canonicalize.field-0.0) c.in_ok-copy.ensures.equal c.in_err-canonicalize.ensures.refused))
