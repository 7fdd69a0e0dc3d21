use Rattle.nv_host.proofs.Room.{room-is_work}
use Rattle.nv_host.proofs.laws.a_share_with_room_has_its_command_taken.Goals as goal

pub returns : goal.returns
returns c = λ h memory guest queue lane is within room. room-is_work h memory guest queue lane is within room
