-- What stays lent from case to case.
use Rattle.std.specs.Prelude.{ℕ, ◌+◌, ◌-◌, ◌/◌, ◌%◌, ◌≡◌, ◌≢◌, MatchResult, Result, List, ◌++◌, ◌&&◌, cond, leb, length, take, drop, map, min}
use Rattle.std.specs.Int.{from_le_bytes, w16}
use Rattle.std.specs.List.{range_with_len}
use Rattle.std.specs.Simd.{first_chunks}
use Rattle.replay_cases.specs.declared.fixture.UnknownSetup.{UnknownSetup}
use Rattle.replay_cases.specs.declared.fixture.MadeTable.{MadeTable}
use Rattle.replay_cases.specs.declared.fixture.MadeTable.TheVariants.{T, Identity}
use Rattle.replay_cases.specs.declared.fixture.Setup.{Setup}
use Rattle.replay_cases.specs.declared.fixture.Setup.TheVariants.{Memory, Made, LowerHalf, UpperHalf}

-- the new items over the old ones from a place on, as many as there is room for
abbrev pub overwritten : List ℕ → ℕ → List ℕ → List ℕ
overwritten old from new = let count = min (length new) (length old - from) in take from old ++ take count new ++ drop (from + count) old

abbrev pub units_in : List ℕ → List ℕ
units_in bytes = map (from_le_bytes w16) (first_chunks 2 (length bytes / 2) bytes)

-- T takes 32 from 0x61 to 0x7A
abbrev pub unit_of : MadeTable → ℕ → ℕ
unit_of T unit = cond (leb 0x61 unit && leb unit 0x7A) (unit - 32) unit
unit_of Identity unit = unit

-- a table of so many units; after 65,536 of them it begins anew
abbrev pub made : MadeTable → ℕ → List ℕ
made table count = map (λ i. unit_of table (i % 65536)) (range_with_len 0 count)

abbrev pub number_of : Setup → ℕ
number_of Memory = 1
number_of (Made T) = 2
number_of (Made Identity) = 3
number_of LowerHalf = 4
number_of UpperHalf = 5

-- the setup of that number, or an error that carries a number which no setup has
abbrev pub IsSetupNumbered : ℕ → Result Setup UnknownSetup → Type 0
IsSetupNumbered number r = MatchResult r
    (λ setup. number_of setup ≡ number)
    (λ e. (e ≡ record { 0 = number }) × ((setup : Setup) → number_of setup ≢ number))

abbrev pub memory_after : Setup → List ℕ → List ℕ → List ℕ
memory_after Memory bytes memory = overwritten memory 0 bytes
memory_after _ bytes memory = memory

abbrev pub table_after : Setup → List ℕ → List ℕ → List ℕ
table_after Memory bytes table = table
table_after (Made rule) bytes table = made rule (length table)
table_after LowerHalf bytes table = overwritten table 0 (units_in bytes)
table_after UpperHalf bytes table = overwritten table 32768 (units_in bytes)
