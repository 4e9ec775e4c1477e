-- Hosts that Git takes from a text, beside that of the location.
use Rattle.std.proofs.Common.{◌≡◌, ◌∙◌, ◌↔◌, ℕ, Bool, true, false, not, IsTrue, List, ◌∷◌, ◌++◌, Option, Some, None, MatchOption, Result, Ok, Err, IfOk, refl, sym, subst}
use Rattle.std.proofs.lemmas.Bool.{false≢true}
use Rattle.std.specs.List.{list_all}
use Rattle.std.specs.Char.{is_ascii_digit}
use Rattle.git_syntax.specs.Bytes.{colon, FreeOf}
use Rattle.git_syntax.specs.Location.{Location}
use Rattle.git_syntax.proofs.Texts.CutLemmas.{free_of_all, last_cut_unique, not_free}
use Rattle.git_reads.specs.Git.{GitReading, GitReads}
use Rattle.git_reads.specs.Credentials.{CredentialReading, CredentialReads}
use Rattle.git_reads.specs.Unread.{LacksReading}
use Rattle.git_reads.specs.declared.transport.Unread.{Unread}
use Rattle.git_reads.specs.declared.transport.Unread.TheVariants.{Memory}
use Rattle.git_reads.proofs.Reading.UniqueLemmas.{one_reading}
use Rattle.git_reads.proofs.Reading.CredentialUniqueLemmas.{one_credential}
use Rattle.git_audit.specs.Dangers.{AsksForOtherHost, IsOtherHost, NamesHost, NamesOwnHost, NamesOwnPort, ReachesOtherHost, ReadsOtherHost, is_of_http}

-- a property of the item that an option has
pub some_of : {X : Type 0} (N : Type 0) (P : X → Type 0) (o : Option X) (x : X) → o ≡ Some x → MatchOption o N P → P x
some_of N P o x is found = subst (λ p. MatchOption p N P) is found

-- the property if it has none
pub none_of : {X : Type 0} (N : Type 0) (P : X → Type 0) (o : Option X) → o ≡ None → MatchOption o N P → N
none_of N P o is found = subst (λ p. MatchOption p N P) is found

-- the consequence for the value of a result
pub if_ok : {A E : Type 0} {P Q : A → Type 0} (found : Result A E) → ((a : A) → P a → Q a) → IfOk found P → IfOk found Q
if_ok (Ok a) follows given = follows a given
if_ok (Err e) follows given = tt

-- before the last colon is the host, and after it the port
pub port_after : (v : Location) (named host suffix : List ℕ) (own : Bool) → FreeOf colon suffix → named ≡ host ++ colon ∷ suffix → IsTrue own ↔ ((list_all is_ascii_digit suffix ≡ true) × NamesHost v host) → IsTrue own ↔ NamesOwnPort v named
port_after v named host suffix own free joined decided = (
  (λ is. (host, suffix, joined, (decided.0 is).0, (decided.0 is).1)),
  (λ found.
      let same = last_cut_unique colon found.0 host found.1 suffix (free_of_all is_ascii_digit colon found.1 found.3 refl) free (sym found.2 ∙ joined) in
      decided.1 (subst (λ t. list_all is_ascii_digit t ≡ true) same.1 found.3, subst (λ t. NamesHost v t) same.0 found.4)),
)

-- without a colon there is no port
pub no_port : (v : Location) (named : List ℕ) → FreeOf colon named → IsTrue false ↔ NamesOwnPort v named
no_port v named free = (
  (λ wrong. absurd (false≢true wrong)),
  (λ found. absurd (not_free colon found.0 found.1 (subst (FreeOf colon) found.2 free))),
)

-- a text in which Git's credential code reads something: whether it asks for another host is decided by that
pub asked : (t : List ℕ) (v : Location) (r : CredentialReading) (own : Bool) → CredentialReads t r → IsTrue own ↔ NamesOwnHost v r.host → IsTrue (not own) ↔ AsksForOtherHost t v
asked t v r true reads decided = ((λ wrong. absurd (false≢true wrong)), (λ found. absurd (found.2 (subst (λ s. NamesOwnHost v s.host) (one_credential t r found.0 reads found.1) (decided.0 refl)))))
asked t v r false reads decided = ((λ _. (r, reads, λ own. false≢true (decided.1 own))), (λ _. refl))

-- it asks for none in a text in which it reads nothing
pub not_asked : (t : List ℕ) (v : Location) → ((r : CredentialReading) → ¬ CredentialReads t r) → IsTrue false ↔ AsksForOtherHost t v
not_asked t v none = ((λ wrong. absurd (false≢true wrong)), (λ found. absurd (none found.0 found.1)))

-- a text in which a transport reads something
pub reached : (t : List ℕ) (v : Location) (r : GitReading) (other : Bool) → GitReads t r → IsTrue other ↔ IsOtherHost v r.host → IsTrue other ↔ ReachesOtherHost t v
reached t v r other reads decided = ((λ is. (r, reads, decided.0 is)), (λ found. decided.1 (subst (λ s. IsOtherHost v s.host) (sym (one_reading t r found.0 reads found.1)) found.2)))

-- and one in which none reads anything
pub not_reached : (t : List ℕ) (v : Location) → LacksReading t → IsTrue false ↔ ReachesOtherHost t v
not_reached t v none = ((λ wrong. absurd (false≢true wrong)), (λ found. absurd (none found.0 found.1)))

-- the same of the result that says so, unless memory was refused
pub not_reached_by : {E : Type 0} (t : List ℕ) (v : Location) (why : Unread) (found : Result Bool E) → (¬ (why ≡ Memory) → LacksReading t) → IfOk found (λ other. (other ≡ false) × ¬ (why ≡ Memory)) → IfOk found (λ other. IsTrue other ↔ ReachesOtherHost t v)
not_reached_by t v why found none given =
    if_ok found (λ other is. subst (λ b. IsTrue b ↔ ReachesOtherHost t v) (sym is.0) (not_reached t v (none is.1))) given

-- which reading counts
pub by_reading : {E : Type 0} (t : List ℕ) (v : Location) (web : Bool) (found : Result Bool E) → web ≡ is_of_http v.scheme → IfOk found (λ other. IsTrue other ↔ ReadsOtherHost web t v) → IfOk found (λ other. IsTrue other ↔ ReadsOtherHost (is_of_http v.scheme) t v)
by_reading t v web found is given = subst (λ b. IfOk found (λ other. IsTrue other ↔ ReadsOtherHost b t v)) is given
