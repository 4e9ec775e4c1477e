-- The scheme names the transport, and the text after the mark is decoded.
use Rattle.std.proofs.Common.{◌∙◌, ◌++◌, ap, subst}
use Rattle.std.proofs.lemmas.Result.{IfErr-weaker, IfOk-weaker, err_from_is_err_and}
use Rattle.git_reads.specs.Git.{ReadsInput, git_decode}
use Rattle.git_reads.specs.Views.{git_reading, scheme_of_protocol}
use Rattle.git_reads.specs.Transports.{Fails, FailsToReach, GetsUrlBy, ReachesBy, url_text}
use Rattle.git_reads.proofs.Reading.UnreadLemmas.{foreign_fails, own_fails, own_reads, own_rewritten, own_uncut, own_url, protocol_own}
use Rattle.git_reads.proofs.transport.url.Goals as goal

pub returns-in_default-clause-why : goal.returns-in_default-clause-why
returns-in_default-clause-why c = foreign_fails c.args.scheme.now c.args.spelled.now c.without_transport.result c.requires.no_mark c.requires.no_helper c.in_default.ensures c.without_transport.ensures

pub returns-in_err-append_decoded-clause-why : goal.returns-in_err-append_decoded-clause-why
returns-in_err-append_decoded-clause-why c =
    let (e, is, memory) = err_from_is_err_and c.from_residual.result c.from_residual.ensures.1 in
    rw (is, memory) (own_rewritten c.args.scheme.now c.args.spelled.now (scheme_of_protocol c.in-Some.protocol) (protocol_own c.in-Some.protocol) c.in-Some.ensures c.in_err-append_decoded.ensures.memory)

pub returns-in-Some-cut_place-clause-read : goal.returns-in-Some-cut_place-clause-read
returns-in-Some-cut_place-clause-read c =
    let decoded = c.as_slice.ensures.value ∙ c.in_ok-append_decoded.ensures.value ∙ ap (λ s. s ++ git_decode c.args.spelled.now) c.clear.ensures.items in
    let url = own_url c.args.scheme.now c.args.spelled.now c.as_slice.result.now (scheme_of_protocol c.in-Some.protocol) c.in-Some.ensures decoded in
    let (suffix, is, cut) = c.in-Some-cut_place.ensures in
    IfOk-weaker c.reach.result (λ it. ReachesBy (scheme_of_protocol c.in-Some.protocol) c.in-Some-cut_place.place.now c.in-Some-cut_place.path.now (git_reading it)) (λ it. ReadsInput (url_text c.args.scheme.now c.args.spelled.now) (git_reading it)) (λ it h. own_reads (scheme_of_protocol c.in-Some.protocol) (url_text c.args.scheme.now c.args.spelled.now) c.as_slice.result.now c.in-Some-cut_place.place.now suffix (git_reading it) url cut (subst (λ s. ReachesBy (scheme_of_protocol c.in-Some.protocol) c.in-Some-cut_place.place.now s (git_reading it)) is h)) c.reach.ensures.read

pub returns-in-Some-cut_place-clause-why : goal.returns-in-Some-cut_place-clause-why
returns-in-Some-cut_place-clause-why c =
    let decoded = c.as_slice.ensures.value ∙ c.in_ok-append_decoded.ensures.value ∙ ap (λ s. s ++ git_decode c.args.spelled.now) c.clear.ensures.items in
    let url = own_url c.args.scheme.now c.args.spelled.now c.as_slice.result.now (scheme_of_protocol c.in-Some.protocol) c.in-Some.ensures decoded in
    let (suffix, is, cut) = c.in-Some-cut_place.ensures in
    IfErr-weaker c.reach.result (FailsToReach c.in-Some-cut_place.place.now (ReachesBy (scheme_of_protocol c.in-Some.protocol) c.in-Some-cut_place.place.now c.in-Some-cut_place.path.now) (GetsUrlBy (scheme_of_protocol c.in-Some.protocol) c.in-Some-cut_place.place.now c.in-Some-cut_place.path.now)) (Fails (url_text c.args.scheme.now c.args.spelled.now)) (λ w h. own_fails (scheme_of_protocol c.in-Some.protocol) (url_text c.args.scheme.now c.args.spelled.now) c.as_slice.result.now c.in-Some-cut_place.place.now suffix w (protocol_own c.in-Some.protocol) url cut (subst (λ s. FailsToReach c.in-Some-cut_place.place.now (ReachesBy (scheme_of_protocol c.in-Some.protocol) c.in-Some-cut_place.place.now s) (GetsUrlBy (scheme_of_protocol c.in-Some.protocol) c.in-Some-cut_place.place.now s) w) is h)) c.reach.ensures.why

pub returns-in-None-clause-why : goal.returns-in-None-clause-why
returns-in-None-clause-why c =
    let decoded = c.as_slice.ensures.value ∙ c.in_ok-append_decoded.ensures.value ∙ ap (λ s. s ++ git_decode c.args.spelled.now) c.clear.ensures.items in
    own_uncut (scheme_of_protocol c.in-Some.protocol) (url_text c.args.scheme.now c.args.spelled.now) c.as_slice.result.now (protocol_own c.in-Some.protocol) (own_url c.args.scheme.now c.args.spelled.now c.as_slice.result.now (scheme_of_protocol c.in-Some.protocol) c.in-Some.ensures decoded) c.in-None.ensures
