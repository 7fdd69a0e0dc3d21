-- The page, the unit of memory maps. Its size is the one that a controller's memory pages may have (Base Specification 2.0, "Controller
-- Configuration", MPS); the limits of `nv_model`, which is above this crate, name this number too.
use Rattle.std.specs.Prelude.{ℕ}

-- the bytes of a memory page
abbrev pub page_size : ℕ
page_size = 4096
