-- Fields of a command. A field is read from the first of the words that are left, and leaves those behind it.
use Rattle.std.specs.Prelude.{ℕ, List, [], ◌∷◌, Some, None, Option}
use Rattle.classes.specs.declared.usage.Usage.{Usage}
use Rattle.lines.specs.declared.sets.ClassSet.{ClassSet}
use Rattle.lines.specs.declared.sets.Counts.{Counts}
use Rattle.lines.specs.declared.states.Line.{Line}
use Rattle.tariff.specs.declared.terms.Terms.{Terms}
use Rattle.script.specs.Padding.{contract_of}
use Rattle.script.specs.Numbers.{number_of}
use Rattle.script.specs.Sets.{set_of}

-- the bytes of a word
abbrev pub Word : Type 0
Word = List ℕ

-- what was read, with the words that it left
abbrev pub with_rest : {X : Type 0} → Option X → List Word → Option (X × List Word)
with_rest None ws = None
with_rest (Some x) ws = Some (x, ws)

-- what was read, and what is read behind it
abbrev pub then : {X Y : Type 0} → Option (X × List Word) → (X → List Word → Option Y) → Option Y
then None k = None
then (Some p) k = k p.0 p.1

-- the first word, if it can be read
abbrev pub first_by : {X : Type 0} → (Word → Option X) → List Word → Option (X × List Word)
first_by read [] = None
first_by read (w ∷ ws) = with_rest (read w) ws

-- a number of 8 bits
abbrev pub u8_field : List Word → Option (ℕ × List Word)
u8_field = first_by (number_of 255)

-- a number of 16 bits
abbrev pub u16_field : List Word → Option (ℕ × List Word)
u16_field = first_by (number_of 65535)

-- a number of 32 bits
abbrev pub u32_field : List Word → Option (ℕ × List Word)
u32_field = first_by (number_of 4294967295)

-- open: V T L U
abbrev pub counts_fields : List Word → Option (Counts × List Word)
counts_fields ws =
    then (u8_field ws) λ v ws.
    then (u8_field ws) λ t ws.
    then (u8_field ws) λ l ws.
    then (u8_field ws) λ u ws.
    Some (record { vehicles = v; times = t; locations = l; users = u }, ws)

-- a class set
abbrev pub set_field : List Word → Option (ClassSet × List Word)
set_field = first_by set_of

-- a contract
abbrev pub contract_field : List Word → Option (List ℕ × List Word)
contract_field = first_by contract_of

-- put, behind the tariff's number: MEASURE UNIT RATE ROUNDING THRESHOLD OFFSET MINIMUM CAP VAT VATROUNDING
abbrev pub terms_fields : List Word → Option (Terms × List Word)
terms_fields ws =
    then (u8_field ws) λ measure ws.
    then (u32_field ws) λ unit ws.
    then (u32_field ws) λ rate ws.
    then (u8_field ws) λ rounding ws.
    then (u32_field ws) λ threshold ws.
    then (u32_field ws) λ offset ws.
    then (u32_field ws) λ minimum ws.
    then (u32_field ws) λ highest ws.
    then (u16_field ws) λ vat ws.
    then (u8_field ws) λ vat_rounding ws.
    Some (
      record {
        measure = measure;
        unit = unit;
        rate = rate;
        rounding = rounding;
        threshold = threshold;
        offset = offset;
        minimum = minimum;
        «cap» = highest;
        vat = vat;
        vat_rounding = vat_rounding;
      },
      ws,
    )

-- add, behind the line's number: TARIFF VEHICLES TIMES LOCATIONS USERS
abbrev pub line_fields : List Word → Option (Line × List Word)
line_fields ws =
    then (u8_field ws) λ tariff ws.
    then (set_field ws) λ vehicles ws.
    then (set_field ws) λ times ws.
    then (set_field ws) λ locations ws.
    then (set_field ws) λ users ws.
    Some (record { tariff = tariff; vehicles = vehicles; times = times; locations = locations; users = users }, ws)

-- price: PARTITION OBJECT CONTRACT INSTANT AXLES MASS EMISSION METRES MINUTES EVENTS
abbrev pub usage_fields : List Word → Option (Usage × List Word)
usage_fields ws =
    then (u8_field ws) λ partition ws.
    then (u32_field ws) λ object ws.
    then (contract_field ws) λ contract ws.
    then (u32_field ws) λ instant ws.
    then (u8_field ws) λ axles ws.
    then (u16_field ws) λ mass ws.
    then (u8_field ws) λ emission ws.
    then (u32_field ws) λ metres ws.
    then (u32_field ws) λ minutes ws.
    then (u32_field ws) λ events ws.
    Some (
      record {
        partition = partition;
        object = object;
        contract = contract;
        instant = record { 0 = instant };
        axles = axles;
        mass = mass;
        emission = emission;
        metres = metres;
        minutes = minutes;
        events = events;
      },
      ws,
    )
