-- The transports of two texts that Git uses.
use Rattle.std.specs.Prelude.{ℕ, Bool, false, bytes_eq, List, Option, Some, None, option_map, string_bytes}
use Rattle.std.specs.Option.{option_eq}
use Rattle.explain_report.specs.declared.rules.route.Route.{Route}

-- the name of the transport, if Git has one
abbrev pub transport_name : Route → Option (List ℕ)
transport_name route = option_map (λ transport. string_bytes transport.name) route.transport

-- the name of the reason why Git has no transport, if there is one
abbrev pub reason_name : Route → Option (List ℕ)
reason_name route = option_map (λ lack. lack.reason.now) route.no_transport

-- both have transports of the same name, or both have none, for the same reason
abbrev pub have_same_names : Option (List ℕ) → Option (List ℕ) → Option (List ℕ) → Option (List ℕ) → Bool
have_same_names (Some name) (Some other) reason other_reason = bytes_eq name other
have_same_names None None reason other_reason = option_eq bytes_eq reason other_reason
have_same_names (Some name) None reason other_reason = false
have_same_names None (Some other) reason other_reason = false

-- both texts have the same transport, or both have none, for the same reason
abbrev pub have_same_transport : Route → Route → Bool
have_same_transport fetch push =
    have_same_names (transport_name fetch) (transport_name push) (reason_name fetch) (reason_name push)
