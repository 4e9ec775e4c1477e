-- The target of the place that Git reads, or none that is known.
use Rattle.std.proofs.Common.{◌≡◌, ◌≢◌, ℕ, List, IfOk, MatchResult, Result, Ok, Err, inl, inr}
use Rattle.std.proofs.lemmas.Result.{IfOk-weaker}
use Rattle.std.specs.declared.alloc.AllocError.{AllocError}
use Rattle.git_reads.specs.declared.transport.Unread.{Unread}
use Rattle.git_reads.specs.declared.transport.Unread.TheVariants as why
use Rattle.git_reads.specs.Unread.{LacksReading}
use Rattle.explain_report.specs.declared.readers.git_host.GitHost.{GitHost}
use Rattle.explain_report.specs.GitHosts as spec
use Rattle.explain_report.proofs.readers.git_host.GitHost.read_in.Goals as goal

-- if Git reads no place, the target isn't known
untold : (line : List ℕ) (unread : Unread) (found : Result GitHost AllocError) → (unread ≢ why.Memory → LacksReading line) → MatchResult found (λ host. (unread ≢ why.Memory) × (spec.target host ≡ spec.unknown)) (λ _. unread ≡ why.Memory) → IfOk found (λ host. spec.IsTargetOf line (spec.target host))
untold line unread (Ok host) lacks h = inr (lacks h.0, h.1)
untold line unread (Err e) lacks h = tt

pub returns-in-Ok : goal.returns-in-Ok
returns-in-Ok c =
    IfOk-weaker c.of_place.result _ _ (λ host h. inl (c.in-Ok.place, c.in-Ok.ensures.read, h)) c.of_place.ensures

pub returns-in-Err : goal.returns-in-Err
returns-in-Err c =
    untold c.args.line.now c.in-Err.why c.of_unread.result c.in-Err.ensures.none c.of_unread.ensures
