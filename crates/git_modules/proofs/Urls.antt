-- URLs of submodules: line feeds in their decoding, their steps, and the URL that curl would get.
pub mod FeedLemmas
pub mod StepLemmas
pub mod CurlLemmas
pub mod HostLemmas
