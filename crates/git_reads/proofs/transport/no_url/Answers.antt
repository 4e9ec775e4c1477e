-- A text that isn't a URL has the scp form or is a local path, by its first colon.
use Rattle.std.proofs.Common.{◌∙◌, ap, drop, refl, subst}
use Rattle.std.proofs.lemmas.Bool.{false≢true}
use Rattle.std.proofs.lemmas.Result.{IfErr-weaker, IfOk-weaker}
use Rattle.git_reads.specs.Git.{ReachesSecure, ReadsInput, from_tilde}
use Rattle.git_reads.specs.Unread.{GetsUrl}
use Rattle.git_reads.specs.Views.{git_reading}
use Rattle.git_reads.specs.Transports.{Fails, FailsToReach, IsUnreadPath}
use Rattle.git_reads.proofs.Reading.TransportLemmas.{local_decided}
use Rattle.git_reads.proofs.Reading.UnreadLemmas.{is_no_url, local_fails, local_reads, scp_fails, scp_reads, scp_uncut}
use Rattle.git_reads.proofs.transport.no_url.Goals as goal

pub returns-then-not-is_remote-clause-read : goal.returns-then-not-is_remote-clause-read
returns-then-not-is_remote-clause-read c =
    let place = local_decided c.args.text.now (λ h. false≢true (c.if-not-is_remote.ensures.1 h)) in
    IfOk-weaker c.local_path.result _ (λ it. ReadsInput c.args.text.now (git_reading it)) (λ it h. local_reads c.args.text.now c.past_brackets.result.0.now c.past_brackets.result.1.now (git_reading it) c.requires.no_mark c.requires.no_helper (λ k. false≢true (c.if-begins_by.ensures.1 k)) place c.past_brackets.ensures.end h.0 h.1) c.local_path.ensures.read

pub returns-then-not-is_remote-clause-why : goal.returns-then-not-is_remote-clause-why
returns-then-not-is_remote-clause-why c =
    let place = local_decided c.args.text.now (λ h. false≢true (c.if-not-is_remote.ensures.1 h)) in
    IfErr-weaker c.local_path.result (IsUnreadPath c.past_brackets.result.1.now) (Fails c.args.text.now) (λ w h. local_fails c.args.text.now c.past_brackets.result.0.now c.past_brackets.result.1.now w c.requires.no_mark c.requires.no_helper (λ k. false≢true (c.if-begins_by.ensures.1 k)) place c.past_brackets.ensures.end h) c.local_path.ensures.why

pub returns-in-Some-clause-read : goal.returns-in-Some-clause-read
returns-in-Some-clause-read c =
    let (suffix, is, cut) = c.in-Some.ensures in
    let path = c.from_tilde.ensures ∙ ap from_tilde (c.split_at.ensures.back ∙ ap (drop 1) is) in
    IfOk-weaker c.secure.result (λ it. ReachesSecure c.in-Some.place.now c.from_tilde.result.now (git_reading it)) (λ it. ReadsInput c.args.text.now (git_reading it)) (λ it h. scp_reads c.args.text.now c.in-Some.place.now suffix c.from_tilde.result.now (git_reading it) (is_no_url c.args.text.now c.requires.no_mark c.requires.no_helper (λ k. false≢true (c.if-begins_by.ensures.1 k))) (c.if-not-is_remote.ensures.0 refl) cut path h) c.secure.ensures.read

pub returns-in-Some-clause-why : goal.returns-in-Some-clause-why
returns-in-Some-clause-why c =
    let (suffix, is, cut) = c.in-Some.ensures in
    let path = c.from_tilde.ensures ∙ ap from_tilde (c.split_at.ensures.back ∙ ap (drop 1) is) in
    IfErr-weaker c.secure.result (FailsToReach c.in-Some.place.now (ReachesSecure c.in-Some.place.now c.from_tilde.result.now) (GetsUrl c.in-Some.place.now c.from_tilde.result.now)) (Fails c.args.text.now) (λ w h. scp_fails c.args.text.now c.in-Some.place.now suffix w c.requires.no_mark c.requires.no_helper (λ k. false≢true (c.if-begins_by.ensures.1 k)) (c.if-not-is_remote.ensures.0 refl) cut (subst (λ p. FailsToReach c.in-Some.place.now (ReachesSecure c.in-Some.place.now p) (GetsUrl c.in-Some.place.now p) w) path h)) c.secure.ensures.why

pub returns-in-None-clause-why : goal.returns-in-None-clause-why
returns-in-None-clause-why c = scp_uncut c.args.text.now c.requires.no_mark c.requires.no_helper (c.if-not-is_remote.ensures.0 refl) c.in-None.ensures
