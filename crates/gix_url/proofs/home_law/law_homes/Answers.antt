-- Each law is a lemma on there being one, and one on there being no other.
use Rattle.gix_url.proofs.Homes.PathUniqueLemmas.{some_rest, rest_unique, some_joined, joins_unique, some_parent, parent_unique}
use Rattle.gix_url.proofs.Homes.HomeUniqueLemmas.{some_split, split_unique, some_reading, reading_unique, some_folder, folder_unique, some_expansion, expansion_unique}
use Rattle.gix_url.proofs.home_law.law_homes.Goals as goal

pub returns : goal.returns
returns c = record {
  split = λ path. (some_split path, split_unique path);
  shell = λ path. (some_reading path, reading_unique path);
  rest = λ text. (some_rest text, rest_unique text);
  joined = λ folder path. (some_joined folder path, joins_unique folder path);
  parent = λ text. (some_parent text, parent_unique text);
  folder = λ home user. (some_folder home user, folder_unique home user);
  expansion = λ home user path. (some_expansion home user path, expansion_unique home user path);
}
