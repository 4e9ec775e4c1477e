-- The words of write faults in error messages.
use Rattle.std.specs.Prelude.{ℕ, List, codes}
use Rattle.git_location.specs.declared.write_error.WriteFault.{WriteFault}
use Rattle.git_location.specs.declared.write_error.WriteFault.TheVariants as write
pub use Rattle.git_syntax.specs.ErrorText.{kind_words, url_fault_words}

-- the words for why a location has no text
abbrev pub write_fault_words : WriteFault → List ℕ
write_fault_words write.HelperName = codes "the remote helper has no valid name"
write_fault_words write.HelperParts = codes "a remote helper comes with a user, a password, a host or a port"
write_fault_words write.RelativeSsh = codes "a relative path of Secure Shell comes without a host, or with a password or a port"
write_fault_words write.UserWithoutHost = codes "a user comes without a host"
