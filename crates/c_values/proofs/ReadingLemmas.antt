-- A location that is read with a longer buffer than the bytes is read with one that is just as long.
use Rattle.std.proofs.Common.{◌≡◌, ◌≤◌, ℕ, List, length, Result, Ok, Err, arith, subst}
use Rattle.git_refusals.specs.declared.refusal.Refusal.{Refusal}
use Rattle.std.specs.Prelude.{IfErr, IfOk}
use Rattle.git_location.specs.declared.parse_error.ParseError.{ParseError}
use Rattle.git_location.specs.declared.parse_error.ParseError.TheVariants as unread
use Rattle.gix_url.specs.Location.{Location}
use Rattle.gix_url.specs.Readings.{ReadsIn, RefusesIn}

still_refused : (b : List ℕ) (buffer : ℕ) (r : Result Location ParseError) → length b ≤ buffer → IfErr r (RefusesIn b buffer) → IfErr r (RefusesIn b (length b))
still_refused b buffer (Ok v) enough h = tt
still_refused b buffer (Err unread.NoRoom) enough h = absurd (omega (arith, h.1, enough))
still_refused b buffer (Err (unread.Refused why)) enough h = h

still_fits : (b : List ℕ) (r : Result Location ParseError) → IfOk r (λ v. length b ≤ length b)
still_fits b (Ok v) = omega arith
still_fits b (Err e) = tt

pub read_with_buffer : (b : List ℕ) (buffer : ℕ) (r : Result Location ParseError) → length b ≤ buffer → ReadsIn b buffer r → ReadsIn b (length b) r
read_with_buffer b buffer r enough h = record {
  found = h.found;
  refused = still_refused b buffer r enough h.refused;
  fits = still_fits b r;
  empty = h.empty;
  exact = λ _ v. h.exact enough v;
}

-- a text that is refused with this error is refused so
pub refused_so : (b : List ℕ) (buffer : ℕ) (e : ParseError) (why : Refusal) → e ≡ unread.Refused why → ReadsIn b buffer (Err e) → ReadsIn b buffer (Err (unread.Refused why))
refused_so b buffer e why is h = subst (λ f. ReadsIn b buffer (Err f)) is h
