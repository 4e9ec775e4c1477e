-- IPv6 texts: their bytes, std's reader, the test that decides them.
pub mod AddressLemmas
pub mod AddressReader
pub mod AddressTestLemmas
