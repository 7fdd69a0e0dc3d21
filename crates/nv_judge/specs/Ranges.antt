-- The verdict on the ranges of Dataset Management: NVM Command Set Specification 1.0, "Dataset Management command" (range
-- definition) and "Status Values" (LBA Out of Range). That every range is checked, whatever is done with it, and DNR are the
-- project's own (profile).
use Rattle.std.specs.Prelude.{ℕ, ◌/◌, if◌then◌else◌, List, length, Result, Ok, Err}
use Rattle.std.specs.List.{list_all}
use Rattle.nv_entry.specs.Status.{StatusField}
use Rattle.nv_entry.specs.StatusCode.{refused_with}
use Rattle.nv_entry.specs.declared.status_code.StatusCode.TheVariants.{LbaOutOfRange}
use Rattle.nv_model.specs.Judge.{range_fits, ranges_in}
use Rattle.nv_model.specs.Limits.{range_size}

-- the ranges in these bytes must lie in a namespace of `blocks` blocks
abbrev pub ranges_verdict : (blocks : ℕ) → List ℕ → Result (Unit {0}) StatusField
ranges_verdict blocks bytes =
    if list_all (range_fits blocks) (ranges_in (length bytes / range_size) bytes) then Ok tt else Err (refused_with LbaOutOfRange)
