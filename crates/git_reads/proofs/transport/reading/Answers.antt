-- The text names no helper, and is a URL or none.
use Rattle.std.proofs.Common.{◌≡◌, refl, subst, sym}
use Rattle.std.proofs.lemmas.Result.{IfErr-weaker, IfOk-weaker}
use Rattle.git_reads.specs.declared.transport.Unread.TheVariants as why
use Rattle.git_reads.specs.Git.{GitReads, ReadsInput}
use Rattle.git_reads.specs.Unread.{LacksReading, Unreads}
use Rattle.git_reads.specs.Views.{git_reading}
use Rattle.git_reads.specs.Transports.{Fails, url_text}
use Rattle.git_reads.proofs.Reading.UnreadLemmas.{fails_lacks, fails_why, named_for}
use Rattle.git_reads.proofs.transport.reading.Goals as goal

pub returns-then-names_helper-clause-none : goal.returns-then-names_helper-clause-none
returns-then-names_helper-clause-none c = fails_lacks c.args.text.now why.RemoteHelper (named_for c.args.text.now (c.if-names_helper.ensures.0 refl))

pub returns-then-names_helper-clause-why : goal.returns-then-names_helper-clause-why
returns-then-names_helper-clause-why c = (
  record { whole = c.if-not-is_free_of.ensures.0 refl; no_option = sym c.if-starts_with_byte.ensures },
  named_for c.args.text.now (c.if-names_helper.ensures.0 refl),
)

pub returns-in-Some-clause-read : goal.returns-in-Some-clause-read
returns-in-Some-clause-read c =
    IfOk-weaker c.url.result (λ it. ReadsInput (url_text c.in-Some.scheme.now c.in-Some.spelled.now) (git_reading it)) (λ it. GitReads c.args.text.now (git_reading it)) (λ it h. record { whole = c.if-not-is_free_of.ensures.0 refl; no_option = sym c.if-starts_with_byte.ensures; reads = subst (λ t. ReadsInput t (git_reading it)) (sym c.in-Some.ensures.1) h }) c.url.ensures.read

pub returns-in-Some-clause-none : goal.returns-in-Some-clause-none
returns-in-Some-clause-none c =
    IfErr-weaker c.url.result (Fails (url_text c.in-Some.scheme.now c.in-Some.spelled.now)) (λ w. ¬ (w ≡ why.Memory) → LacksReading c.args.text.now) (λ w h. fails_lacks c.args.text.now w (subst (λ t. Fails t w) (sym c.in-Some.ensures.1) h)) c.url.ensures.why

pub returns-in-Some-clause-why : goal.returns-in-Some-clause-why
returns-in-Some-clause-why c =
    IfErr-weaker c.url.result (Fails (url_text c.in-Some.scheme.now c.in-Some.spelled.now)) (Unreads c.args.text.now) (λ w h. fails_why c.args.text.now w record { whole = c.if-not-is_free_of.ensures.0 refl; no_option = sym c.if-starts_with_byte.ensures } (subst (λ t. Fails t w) (sym c.in-Some.ensures.1) h)) c.url.ensures.why

pub returns-in-None-clause-read : goal.returns-in-None-clause-read
returns-in-None-clause-read c =
    IfOk-weaker c.no_url.result (λ it. ReadsInput c.args.text.now (git_reading it)) (λ it. GitReads c.args.text.now (git_reading it)) (λ it h. record { whole = c.if-not-is_free_of.ensures.0 refl; no_option = sym c.if-starts_with_byte.ensures; reads = h }) c.no_url.ensures.read

pub returns-in-None-clause-none : goal.returns-in-None-clause-none
returns-in-None-clause-none c =
    IfErr-weaker c.no_url.result (Fails c.args.text.now) (λ w. ¬ (w ≡ why.Memory) → LacksReading c.args.text.now) (λ w h. fails_lacks c.args.text.now w h) c.no_url.ensures.why

pub returns-in-None-clause-why : goal.returns-in-None-clause-why
returns-in-None-clause-why c = IfErr-weaker c.no_url.result (Fails c.args.text.now) (Unreads c.args.text.now) (λ w h. fails_why c.args.text.now w record { whole = c.if-not-is_free_of.ensures.0 refl; no_option = sym c.if-starts_with_byte.ensures } h) c.no_url.ensures.why
