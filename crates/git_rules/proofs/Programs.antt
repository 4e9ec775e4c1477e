-- Which program Git runs for Secure Shell: the last name of a path, the first word of a command line, and the last
-- entry of a key.
pub mod NameLemmas
pub mod WordLemmas
pub mod SettingLemmas
