-- A remote as C gets it: numbers, and its texts one after the other.
use Rattle.std.specs.Prelude.{◌≡◌, ℕ, ◌⊎◌, List, ◌++◌, length, map}
use Rattle.std.specs.List.{concat}
use Rattle.git_rules.specs.Config.{ConfigEntry}
use Rattle.git_rules.specs.Rewrites.{Rules, outcome_text}
use Rattle.git_rules.specs.RewriteEntries.{rules_of}
use Rattle.git_rules.specs.Remotes.{ArePushUrls, AreUrls, GitRemote, HaveValues, LacksFirst, first_of, last_of, proxy_key, receivepack_key, uploadpack_key, values_of, vcs_key}
use Rattle.c_values.specs.declared.rules.remotes.RemoteNumbers.{RemoteNumbers}
use Rattle.c_values.specs.declared.rules.stops.Stop.{Stop}
use Rattle.c_values.specs.Output.{PutsBoth, is_there, or_nothing}
use Rattle.c_values.specs.Rewriting.{FillsRules}
use Rattle.c_values.specs.Stops.{StopsAt, no_stop, no_value}

-- the bytes of its texts: URLs to fetch from, URLs to push to, and the four values
abbrev pub remote_bytes : GitRemote → List ℕ
remote_bytes r = ((((concat (map outcome_text r.urls) ++ concat (map outcome_text r.push_urls)) ++ or_nothing r.vcs)
    ++ or_nothing r.proxy) ++ or_nothing r.uploadpack) ++ or_nothing r.receivepack

-- the lengths of its URLs
abbrev pub remote_lengths : GitRemote → List ℕ
remote_lengths r = map length (map outcome_text r.urls) ++ map length (map outcome_text r.push_urls)

-- its numbers
abbrev pub remote_numbers : GitRemote → RemoteNumbers
remote_numbers r = record {
  has_vcs = is_there r.vcs;
  has_proxy = is_there r.proxy;
  has_uploadpack = is_there r.uploadpack;
  has_receivepack = is_there r.receivepack;
  urls = length r.urls;
  push_urls = length r.push_urls;
  vcs = length (or_nothing r.vcs);
  proxy = length (or_nothing r.proxy);
  uploadpack = length (or_nothing r.uploadpack);
  receivepack = length (or_nothing r.receivepack);
  bytes = length (remote_bytes r);
}

-- a remote is copied
abbrev pub PutsRemote : GitRemote → RemoteNumbers → List ℕ → List ℕ → List ℕ → List ℕ → ℕ → Type 0
PutsRemote r built old new old_lengths new_lengths code = (built ≡ remote_numbers r)
    × PutsBoth (remote_bytes r) (remote_lengths r) old new old_lengths new_lengths code

-- this is the remote with this name that Git takes from the entries
pub record IsRemoteOf (rules : Rules) (entries : List ConfigEntry) (name : List ℕ) (r : GitRemote) : Type 0 where
  pub urls : AreUrls rules name entries r.urls
  pub push_urls : ArePushUrls rules name entries r.push_urls
  pub vcs : r.vcs ≡ last_of (values_of name vcs_key entries)
  pub proxy : r.proxy ≡ last_of (values_of name proxy_key entries)
  pub uploadpack : r.uploadpack ≡ first_of (values_of name uploadpack_key entries)
  pub receivepack : r.receivepack ≡ first_of (values_of name receivepack_key entries)

-- by these rules Git stops at the first entry of a remote that lacks a value, or the remote is put
abbrev pub FindsRemote : Rules → List ConfigEntry → List ℕ → RemoteNumbers → List ℕ → List ℕ → List ℕ → List ℕ → Stop → ℕ → Type 0
FindsRemote rules entries name built old new old_lengths new_lengths stop code =
    ((at : ℕ) × LacksFirst entries at × StopsAt no_value at stop code)
    ⊎ (HaveValues entries × ((r : GitRemote) × IsRemoteOf rules entries name r × (stop ≡ no_stop)
    × PutsRemote r built old new old_lengths new_lengths code))

-- the remote of this name is reported, or the first entry at which Git stops
abbrev pub ReportsRemote : List ConfigEntry → List ℕ → RemoteNumbers → List ℕ → List ℕ → List ℕ → List ℕ → Stop → ℕ → Type 0
ReportsRemote entries name built old new old_lengths new_lengths stop code = FillsRules entries stop code
    (FindsRemote (rules_of entries) entries name built old new old_lengths new_lengths stop code)
