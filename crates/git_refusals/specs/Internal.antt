-- The results of checks that find no flaw.
pub mod Readable
pub mod Wrong
pub mod Hosts
