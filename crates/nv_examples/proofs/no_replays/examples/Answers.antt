use Rattle.std.proofs.Common.{◌≡◌, ℕ, [], ◌∷◌, List, ap, arith}
use Rattle.nv_mem.specs.GuestMap.{everywhere}
use Rattle.nv_model.specs.Memory.{bytes_from, image, put_image, stored}
use Rattle.nv_model.specs.Controller.{opening, register}
use Rattle.nv_model.specs.Private.{start}
use Rattle.nv_model.specs.declared.reply.Reply.{Reply}
use Rattle.nv_model.specs.declared.reply.Reply.TheVariants as reply
use Rattle.nv_world_model.specs.Seat.{members, seat, put_back}
use Rattle.nv_world_model.specs.Step.{acted_in, step, replay, replies}
use Rattle.nv_world_model.specs.World.{World, opening_world}
use Rattle.nv_examples.proofs.no_replays.examples.Goals as goal

pub returns-clause-another_reply : goal.returns-clause-another_reply
unfolding opening register start everywhere image put_image bytes_from stored seat members put_back acted_in step replay replies opening_world
returns-clause-another_reply c h =
    (let bad : ◌≡◌ {A = List Reply} (reply.Bytes (0 ∷ 0 ∷ 0 ∷ 0 ∷ []) ∷ []) (reply.Done ∷ []) = h.told in absurd (cc))

pub returns-clause-another_byte : goal.returns-clause-another_byte
unfolding opening register start everywhere image put_image bytes_from stored seat members put_back acted_in step replay replies opening_world
returns-clause-another_byte c h =
    (let told : ◌≡◌ {A = List Reply} (reply.Bytes (0 ∷ 0 ∷ 0 ∷ 0 ∷ []) ∷ []) (reply.Bytes (0 ∷ 0 ∷ 0 ∷ 1 ∷ []) ∷ []) = h.told in
    let bad : ◌≡◌ {A = ℕ} 0 1 = cc in absurd (omega arith))

-- any byte
pub returns-clause-another_end : goal.returns-clause-another_end
unfolding opening register start everywhere image put_image bytes_from stored seat members put_back acted_in step replay replies opening_world
returns-clause-another_end c h = (let bad : ◌≡◌ {A = ℕ} 0 1 = ap (λ (z : World). z.host 0) h.end in absurd (omega arith))
