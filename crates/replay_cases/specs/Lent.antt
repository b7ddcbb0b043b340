-- The directory that a case lends.
use Rattle.std.specs.Prelude.{ℕ, List, take, drop}
use Rattle.replay_cases.specs.Numbers.{number_in, part_in}

-- the sizes are those of a cluster, of the root and of the pool
abbrev pub root_in : List ℕ → List ℕ → List ℕ
root_in sizes contents = part_in contents 0 (number_in sizes 4)

abbrev pub pool_in : List ℕ → List ℕ → List ℕ
pool_in sizes contents = part_in contents (number_in sizes 4) (number_in sizes 8)

-- a memory begins with them
abbrev pub sizes_in : List ℕ → List ℕ
sizes_in memory = take 12 memory

abbrev pub contents_in : List ℕ → List ℕ
contents_in memory = drop 12 memory
