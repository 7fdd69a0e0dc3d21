-- The limit that only scripts have; the others are those of `nv_model` (profile)
use Rattle.std.specs.Prelude.{ℕ}
use Rattle.nv_model.specs.Limits.{most_bytes}

-- the most bytes that one `fill` line writes: as many as one command transfers at most
abbrev pub longest_fill : ℕ
longest_fill = most_bytes
