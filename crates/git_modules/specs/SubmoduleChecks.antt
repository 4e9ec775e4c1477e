-- The entries of a `.gitmodules` file that Git's fsck refuses (`fsck_gitmodules_fn` in `fsck.c` of Git 2.39.5).
use Rattle.std.specs.Prelude.{◌≡◌, ℕ, Bool, true, codes, IsSomeAnd, List}
use Rattle.git_syntax.specs.Bytes.{begins_with, is_option_like}
use Rattle.git_rules.specs.Config.{ConfigEntry}
use Rattle.git_modules.specs.declared.submodules.refusal.Refused.{Refused}
use Rattle.git_modules.specs.declared.submodules.refusal.Refused.TheVariants as refused
use Rattle.git_modules.specs.Submodules.{is_refused_name, submodule_of, value_by}
use Rattle.git_modules.specs.SubmoduleUrls.{IsRefusedUrl}

-- a command begins with `!`
abbrev pub is_command : List ℕ → Bool
is_command value = begins_with 33 value

-- fsck refuses the entry for this reason
abbrev pub IsRefused : ConfigEntry → Refused → Type 0
IsRefused e refused.Name = IsSomeAnd (submodule_of e) (λ name. is_refused_name name ≡ true)
IsRefused e refused.Url = IsSomeAnd (value_by (codes "url") e) IsRefusedUrl
IsRefused e refused.Path = IsSomeAnd (value_by (codes "path") e) (λ path. is_option_like path ≡ true)
IsRefused e refused.Update = IsSomeAnd (value_by (codes "update") e) (λ update. is_command update ≡ true)

-- Git's name of the reason
abbrev pub git_name : Refused → List ℕ
git_name refused.Name = codes "gitmodulesName"
git_name refused.Url = codes "gitmodulesUrl"
git_name refused.Path = codes "gitmodulesPath"
git_name refused.Update = codes "gitmodulesUpdate"
