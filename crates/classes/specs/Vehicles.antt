-- Vehicle rules: which usages a rule covers.
use Rattle.std.specs.Prelude.{ℕ, Bool, ◌&&◌, nat_le}
use Rattle.classes.specs.declared.usage.Usage.{Usage}
use Rattle.classes.specs.declared.vehicles.Band.{Band}
use Rattle.classes.specs.declared.vehicles.Rule.{Rule}

abbrev pub rule_class : Rule → ℕ
rule_class r = r.class

-- from low to high, both included
abbrev pub in_band : Band ℕ → ℕ → Bool
in_band b n = nat_le b.low n && nat_le n b.high

abbrev pub rule_covers : Rule → Usage → Bool
rule_covers r u = in_band r.axles u.axles && in_band r.mass u.mass && in_band r.emission u.emission
