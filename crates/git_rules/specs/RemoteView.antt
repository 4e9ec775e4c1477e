-- The plain values of a `Remote`.
use Rattle.std.specs.Prelude.{option_map}
use Rattle.git_rules.specs.declared.remote.Remote.TheInside.{Inside}
use Rattle.git_rules.specs.Remotes.{GitRemote}

-- the view of a `Remote`
abbrev pub git_remote : Inside → GitRemote
git_remote r = record {
  urls = r.urls.items;
  push_urls = r.push_urls.items;
  vcs = option_map (λ t. t.now) r.vcs;
  proxy = option_map (λ t. t.now) r.proxy;
  uploadpack = option_map (λ t. t.now) r.uploadpack;
  receivepack = option_map (λ t. t.now) r.receivepack;
}
