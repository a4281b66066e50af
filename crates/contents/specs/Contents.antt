-- What a book holds, and how one part of it is read or replaced.
use Rattle.std.specs.Prelude.{ℕ, ◌-◌, Bool, cond, ◌&&◌, replicate, Some, None, Option, ◌==◌, nat_le, slice_index_or, slice_set}
use Rattle.tariff.specs.declared.terms.Tariff.{Tariff}
use Rattle.lines.specs.declared.sets.Counts.{Counts}
use Rattle.lines.specs.declared.states.LineState.{LineState}
use Rattle.lines.specs.declared.states.LineState.TheVariants.{Free}
use Rattle.lines.specs.Tables.{state_at}
use Rattle.contents.specs.declared.contents.Contents.{Contents}
use Rattle.contents.specs.declared.contents.Phase.{Phase}
use Rattle.contents.specs.declared.contents.Phase.TheVariants.{Blank, Draft, Issued}

abbrev pub phase_number : Phase → ℕ
phase_number Blank = 0
phase_number Draft = 1
phase_number Issued = 2

abbrev pub in_phase : Phase → Contents → Bool
in_phase p b = phase_number b.phase == phase_number p

-- a new book is blank, of version 0, and empty
abbrev pub new_contents : Contents
new_contents = record {
  phase = Blank;
  version = 0;
  counts = record { vehicles = 0; times = 0; locations = 0; users = 0 };
  tariffs = replicate 64 None;
  lines = record { states = replicate 256 Free };
}

abbrev pub tariff_number : ℕ → Bool
tariff_number n = nat_le 1 n && nat_le n 64

abbrev pub line_number : ℕ → Bool
line_number n = nat_le 1 n && nat_le n 256

-- the tariff that was put under a number, if one was
abbrev pub tariff_at : Contents → ℕ → Option Tariff
tariff_at b n = cond (n == 0) None (slice_index_or b.tariffs (n - 1) None)

-- what stands at a line number
abbrev pub line_at : Contents → ℕ → LineState
line_at b n = state_at b.lines.states n

abbrev pub with_phase : Phase → Contents → Contents
with_phase p b = record { phase = p; version = b.version; counts = b.counts; tariffs = b.tariffs; lines = b.lines }

abbrev pub with_version : ℕ → Contents → Contents
with_version v b = record { phase = b.phase; version = v; counts = b.counts; tariffs = b.tariffs; lines = b.lines }

abbrev pub with_counts : Counts → Contents → Contents
with_counts c b = record { phase = b.phase; version = b.version; counts = c; tariffs = b.tariffs; lines = b.lines }

abbrev pub with_tariff : ℕ → Tariff → Contents → Contents
with_tariff n t b = record { phase = b.phase; version = b.version; counts = b.counts; tariffs = slice_set b.tariffs (n - 1) (Some t); lines = b.lines }

-- one line changes and no other
abbrev pub with_line : ℕ → LineState → Contents → Contents
with_line n s b = record { phase = b.phase; version = b.version; counts = b.counts; tariffs = b.tariffs; lines = record { states = slice_set b.lines.states (n - 1) s } }
