-- What bytes that are kept as a value of their own mean: a list, wherever they are stored (profile).
use Rattle.std.specs.Prelude.{ℕ, List, take}
use Rattle.nv_mem.specs.declared.bytes.Kept.{Kept}
use Rattle.nv_mem.specs.declared.bytes.Kept.TheVariants as kept

abbrev pub kept_bytes : Kept → List ℕ
kept_bytes (kept.Few few) = take few.len few.bytes
kept_bytes (kept.Many bytes) = bytes
