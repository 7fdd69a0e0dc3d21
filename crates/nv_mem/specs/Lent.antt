-- A memory that is lent to a call as a slice of hosts, of which there is one (profile).
use Rattle.std.specs.Prelude.{ℕ, List, [], ◌∷◌}

-- the bytes of the first; there are none where there is no host
abbrev pub bytes_of_hosts : List (List ℕ) → List ℕ
bytes_of_hosts [] = []
bytes_of_hosts (host ∷ hosts) = host
