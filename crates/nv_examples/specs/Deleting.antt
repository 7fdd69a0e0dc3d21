-- A controller with a deletion that waits (Base Specification 2.0, "Delete I/O Submission Queue"; that it waits is the profile's).
use Rattle.std.specs.Prelude.{Bool, Some}
use Rattle.nv_model.specs.Controller.{Controller, opening}

-- it is enabled, and ready or not; the command with identifier 4 deletes queue 1
abbrev pub deleting : (is : Bool) → Controller
deleting is = record opening { cc = 0x00460001; ready = is; deletion = Some (record { cid = 4; queue = 1 }) }
