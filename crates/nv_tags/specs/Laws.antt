-- Words of the laws about groups of tags
use Rattle.std.specs.Prelude.{◌≡◌, ℕ, false, List}
use Rattle.nv_tags.specs.Tags.{Point, Slot, Used, is_free, slot_at}
use Rattle.nv_world_model.specs.World.{Command}

-- no tag's command goes by a tag that is nobody's
abbrev pub AreLed : List Slot → Type 0
AreLed slots =
    (tag : ℕ) (command : Command) (point : Point) → slot_at slots tag ≡ Used command point → is_free (slot_at slots command.leader) ≡ false
