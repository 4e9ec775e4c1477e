-- The place gives Secure Shell one word, so a word that is refused refutes every reading.
use Rattle.std.proofs.Common.{refl, sym, option_map}
use Rattle.std.proofs.lemmas.Bool.{false≢true}
use Rattle.git_reads.proofs.Reading.TransportLemmas.{gets_url, secure_reached, split_refused, word_refused}
use Rattle.git_reads.proofs.transport.secure.Goals as goal

pub returns-then-starts_with_byte-clause-why : goal.returns-then-starts_with_byte-clause-why
returns-then-starts_with_byte-clause-why c =
    word_refused c.args.place.now c.args.path.now c.secure_port-port.result.0.now c.secure_port-port.result.1 record { named = c.in_ok-host.host.now; found = c.in_ok-host.found; cut = c.in_ok-host.ensures.found; secure = c.secure_port-port.ensures } (sym c.if-starts_with_byte.ensures)

pub returns-then-begins_by-clause-why : goal.returns-then-begins_by-clause-why
returns-then-begins_by-clause-why c =
    gets_url c.args.place.now c.args.path.now c.secure_port-port.result.0.now c.secure_port-port.result.1 record { named = c.in_ok-host.host.now; found = c.in_ok-host.found; cut = c.in_ok-host.ensures.found; secure = c.secure_port-port.ensures } (sym c.if-starts_with_byte-2.ensures) (c.if-begins_by.ensures.0 refl)

pub returns-in-Some-clause-read : goal.returns-in-Some-clause-read
returns-in-Some-clause-read c =
    secure_reached c.args.place.now c.args.path.now c.secure_port-port.result.0.now c.in-Some.host.now c.secure_port-port.result.1 (option_map (λ t. t.now) c.in-Some.user) (option_map (λ t. t.now) c.unless_empty.result) record { named = c.in_ok-host.host.now; found = c.in_ok-host.found; cut = c.in_ok-host.ensures.found; secure = c.secure_port-port.ensures } (sym c.if-starts_with_byte.ensures) (sym c.if-starts_with_byte-2.ensures) (λ h. false≢true (c.if-begins_by.ensures.1 h)) c.in-Some.ensures c.unless_empty.ensures

pub returns-in-None-clause-why : goal.returns-in-None-clause-why
returns-in-None-clause-why c =
    split_refused c.args.place.now c.args.path.now c.secure_port-port.result.0.now c.secure_port-port.result.1 record { named = c.in_ok-host.host.now; found = c.in_ok-host.found; cut = c.in_ok-host.ensures.found; secure = c.secure_port-port.ensures } (λ h. false≢true (c.if-begins_by.ensures.1 h)) c.in-None.ensures
