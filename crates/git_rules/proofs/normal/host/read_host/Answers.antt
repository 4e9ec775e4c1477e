-- The host is one of the pieces that the text is cut into, or missing.
use Rattle.std.proofs.Common.{refl, sym, ap, inl, ◌≡◌, rules, [], codes, length, arith}
use Rattle.git_rules.proofs.NormalForms.NormalHostLemmas.{name_fits}
use Rattle.std.proofs.lemmas.List.{nil_from_length}
use Rattle.git_syntax.specs.Bytes.{lowercase}
use Rattle.git_rules.specs.Normal.{HostFor}
use Rattle.git_rules.proofs.normal.host.read_host.Goals as goal

pub returns-then-not-are_host_bytes : goal.returns-then-not-are_host_bytes
returns-then-not-are_host_bytes c = (c.cut_port.result.0.now, c.cut_port.result.1.now, c.cut_port.ensures, sym c.if-not-are_host_bytes.ensures)

pub returns-then-ne : goal.returns-then-ne
returns-then-ne c = (
  (c.cut_port.result.0.now, c.cut_port.result.1.now, c.cut_port.ensures, sym c.if-not-are_host_bytes.ensures),
  sym c.if-lacks_host.ensures,
  search rules,
)

pub returns-then-lacks_host : goal.returns-then-lacks_host
returns-then-lacks_host c =
    let file : c.args.scheme.now ≡ codes "file" = search rules in
    let zero : length c.cut_port.result.1.now ≡ 0 = search rules in
    let none : c.cut_port.result.1.now ≡ [] = nil_from_length c.cut_port.result.1.now zero in
    record {
      form = record {
        name = c.cut_port.result.0.now;
        digits = c.cut_port.result.1.now;
        cut = c.cut_port.ensures;
        bytes = sym c.if-not-are_host_bytes.ensures;
        host_form = HostFor.missing (sym c.if-lacks_host.ensures) file none (ap lowercase c.as_slice-then-lacks_host.ensures);
        port_form = inl (none, refl);
      };
      fits = omega (arith, ap length c.as_slice-then-lacks_host.ensures);
    }

pub returns-in-Some : goal.returns-in-Some
returns-in-Some c = record {
  form = record {
    name = c.cut_port.result.0.now;
    digits = c.cut_port.result.1.now;
    cut = c.cut_port.ensures;
    bytes = sym c.if-not-are_host_bytes.ensures;
    host_form = HostFor.named (sym c.if-lacks_host.ensures) refl;
    port_form = c.in-Some.ensures;
  };
  fits = name_fits c.args.text.now c.cut_port.result.0.now c.cut_port.result.1.now c.cut_port.ensures;
}
