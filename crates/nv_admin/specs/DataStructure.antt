-- The data structures of Identify as fields: Base Specification 2.0, "Identify command". What they report is the project's own (profile).
use Rattle.std.specs.Prelude.{ℕ, ◌+◌, Bool, ◌&&◌, nat_le, List}
use Rattle.nv_entry.specs.Layout.{number_bytes}
use Rattle.nv_model.specs.Admin.{active_structure, controller_structure, namespace_structure}
use Rattle.nv_model.specs.Limits.{page}
use Rattle.nv_admin.specs.declared.data_structure.DataStructure.{DataStructure}
use Rattle.nv_admin.specs.declared.data_structure.DataStructure.TheVariants as shown
use Rattle.nv_admin.specs.declared.data_structure.Field.{Field}

-- where a field begins, and its bytes
abbrev pub field_bytes : Field → ℕ × List ℕ
field_bytes f = (f.offset, number_bytes f.len f.value)

-- a field has at most eight bytes, and they lie in the structure
abbrev pub is_field : Field → Bool
is_field f = nat_le f.len 8 && nat_le (f.offset + f.len) page

-- the bytes of a data structure
abbrev pub content : DataStructure → List ℕ
content (shown.Namespace blocks) = namespace_structure blocks
content shown.Controller = controller_structure
content (shown.ActiveNamespaces above) = active_structure above
