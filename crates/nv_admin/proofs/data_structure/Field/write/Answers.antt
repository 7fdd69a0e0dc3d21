use Rattle.std.proofs.Common.{◌≡◌, ◌∙◌}
use Rattle.byteorder.proofs.Bytes.{take-bytes_low_first}
use Rattle.byteorder.specs.Numbers.{length-bytes_low_first}
use Rattle.nv_entry.specs.Layout.{number_bytes}
use Rattle.nv_admin.proofs.Written.{field-fits, stored-at}
use Rattle.nv_admin.proofs.data_structure.Field.write.Goals as goal

pub returns : goal.returns
returns c =
    let fits = field-fits c.args.self.now c.requires.field in
    let bytes : c.copy_from_slice.new.self ≡ number_bytes c.args.self.now.len c.args.self.now.value =
    rw c.to_le_bytes.ensures at c.copy_from_slice.ensures.after
    ∙ take-bytes_low_first 0 8 c.args.self.now.len c.args.self.now.value fits.0 in
    stored-at c.args.bytes.now c.args.self.now.offset c.args.self.now.len c.copy_from_slice.new.self (number_bytes c.args.self.now.len c.args.self.now.value)
    bytes (length-bytes_low_first 0 c.args.self.now.len c.args.self.now.value)
