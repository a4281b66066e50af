-- The records of a tariff sheet: a kind byte, and a body of fixed length.
use Rattle.std.specs.Prelude.{ℕ, cond, List, [], ◌∷◌, ◌++◌, Some, None, Option, ◌==◌}
use Rattle.tariff.specs.declared.terms.Terms.{Terms}
use Rattle.lines.specs.declared.sets.Counts.{Counts}
use Rattle.lines.specs.declared.states.Line.{Line}
use Rattle.sheet.specs.declared.records.Kind.{Kind}
use Rattle.sheet.specs.declared.records.Kind.TheVariants.{Opening, Tariff, Line as LineKind, End}
use Rattle.sheet.specs.Fields.{high_first, field_at}

abbrev pub kind_coded : ℕ → Option Kind
kind_coded n = cond (n == 1) (Some Opening) (cond (n == 2) (Some Tariff) (cond (n == 3) (Some LineKind) (cond (n == 4) (Some End) None)))

-- the length of a record without its kind byte
abbrev pub body_length : Kind → ℕ
body_length Opening = 5
body_length Tariff = 30
body_length LineKind = 35
body_length End = 0

-- the version, then how many classes each determinant has
abbrev pub opening_record : ℕ → Counts → List ℕ
opening_record v c = 1 ∷ v ∷ c.vehicles ∷ c.times ∷ c.locations ∷ c.users ∷ []

-- a tariff's number, then its numbers
unfoldable pub tariff_record : ℕ → Terms → List ℕ
tariff_record n p =
    (2 ∷ n ∷ p.measure ∷ []) ++ (high_first 4 p.unit ++ (high_first 4 p.rate ++ ((p.rounding ∷ []) ++ (high_first 4 p.threshold
    ++ (high_first 4 p.offset ++ (high_first 4 p.minimum ++ (high_first 4 p.«cap» ++ (high_first 2 p.vat
    ++ (p.vat_rounding ∷ [])))))))))

-- a line's number, its tariff, then its class sets
unfoldable pub line_record : ℕ → Line → List ℕ
line_record n l =
    (3 ∷ []) ++ (high_first 2 n ++ ((l.tariff ∷ []) ++ (high_first 8 l.vehicles.0 ++ (high_first 8 l.times.0
    ++ (high_first 8 l.locations.0 ++ high_first 8 l.users.0)))))

abbrev pub end_record : List ℕ
end_record = 4 ∷ []

-- what bodies hold
abbrev pub opening_version : List ℕ → ℕ
opening_version body = field_at body 0 1

abbrev pub opening_counts : List ℕ → Counts
opening_counts body = record {
  vehicles = field_at body 1 1;
  times = field_at body 2 1;
  locations = field_at body 3 1;
  users = field_at body 4 1;
}

abbrev pub body_tariff : List ℕ → ℕ
body_tariff body = field_at body 0 1

abbrev pub body_terms : List ℕ → Terms
body_terms body = record {
  measure = field_at body 1 1;
  unit = field_at body 2 4;
  rate = field_at body 6 4;
  rounding = field_at body 10 1;
  threshold = field_at body 11 4;
  offset = field_at body 15 4;
  minimum = field_at body 19 4;
  «cap» = field_at body 23 4;
  vat = field_at body 27 2;
  vat_rounding = field_at body 29 1;
}

abbrev pub body_number : List ℕ → ℕ
body_number body = field_at body 0 2

abbrev pub body_line : List ℕ → Line
body_line body = record {
  tariff = field_at body 2 1;
  vehicles = record { 0 = field_at body 3 8 };
  times = record { 0 = field_at body 11 8 };
  locations = record { 0 = field_at body 19 8 };
  users = record { 0 = field_at body 27 8 };
}
