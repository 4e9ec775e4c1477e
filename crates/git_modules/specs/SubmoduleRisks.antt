-- The dangers and errors in an entry of a `.gitmodules` file beyond those that Git's fsck refuses.
use Rattle.std.specs.Prelude.{ℕ, Bool, false, ◌&&◌, ◌||◌, codes, List, is_none, is_some}
use Rattle.std.specs.Option.{option_map_or}
use Rattle.std.specs.List.{list_any, slice_split}
use Rattle.git_syntax.specs.Bytes.{begins_by, is_option_like, is_any_slash}
use Rattle.git_rules.specs.Words.{is_word}
use Rattle.git_rules.specs.Config.{ConfigEntry, has_name}
use Rattle.git_modules.specs.declared.submodules.risk.Risk.{Risk}
use Rattle.git_modules.specs.declared.submodules.risk.Risk.TheVariants as risk
use Rattle.git_modules.specs.Submodules.{has_component, submodule_of, value_by}
use Rattle.git_class.specs.WebClass.{is_control}

-- a component of the text is the word, ignoring letter case
abbrev pub has_component_word : List ℕ → List ℕ → Bool
has_component_word word t = list_any (λ part. is_word part word) (slice_split is_any_slash t)

-- the folder of a repository
abbrev pub git_folder : List ℕ
git_folder = codes ".git"

-- the entry has one of the names for which Git needs a value
abbrev pub has_valued_name : ConfigEntry → Bool
has_valued_name e = has_name (codes "path") e || (has_name (codes "url") e || (has_name (codes "update") e
    || (has_name (codes "branch") e || has_name (codes "ignore") e)))

-- the value that the entry sets for this key passes the test
abbrev pub gives : List ℕ → (List ℕ → Bool) → ConfigEntry → Bool
gives key test e = option_map_or test (value_by key e) false

-- the entry of a submodule has this risk
abbrev pub has_risk : Risk → ConfigEntry → Bool
has_risk risk.AbsolutePath e = gives (codes "path") (begins_by is_any_slash) e
has_risk risk.PathUpwards e = gives (codes "path") (has_component (codes "..")) e
has_risk risk.PathIntoGit e = gives (codes "path") (has_component_word git_folder) e
has_risk risk.OptionAsBranch e = gives (codes "branch") is_option_like e
has_risk risk.OptionAsUpdate e = gives (codes "update") is_option_like e
has_risk risk.ControlCharacter e =
    is_some (submodule_of e) && option_map_or (list_any is_control) e.value false
has_risk risk.NoValue e = is_some (submodule_of e) && (is_none e.value && has_valued_name e)
