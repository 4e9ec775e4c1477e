-- The URL that curl would get is decided by the text after the first colon.
use Rattle.git_modules.proofs.Urls.CurlLemmas.{curl_named, curl_other, curl_whole}
use Rattle.git_modules.proofs.submodules.url.text_for_curl.Goals as goal

pub returns-then-not-is_curl_scheme : goal.returns-then-not-is_curl_scheme
returns-then-not-is_curl_scheme c =
    curl_other c.args.url.now c.in_ok-scheme.scheme.now c.in_ok-scheme.suffix.now c.in_ok-scheme.ensures.0 c.in_ok-scheme.ensures.1 (cc)

pub returns-in-Some : goal.returns-in-Some
returns-in-Some c =
    curl_named c.args.url.now c.in_ok-scheme.scheme.now c.in_ok-scheme.suffix.now c.in-Some.text.now c.in_ok-scheme.ensures.1 (cc) c.in-Some.ensures

pub returns-then-starts_with_byte : goal.returns-then-starts_with_byte
returns-then-starts_with_byte c =
    curl_whole c.args.url.now c.in_ok-scheme.scheme.now c.in_ok-scheme.suffix.now c.in_ok-rest.rest.now c.in_ok-scheme.ensures.1 (cc) c.in_ok-rest.ensures (cc)
