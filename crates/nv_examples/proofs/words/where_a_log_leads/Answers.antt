use Rattle.std.proofs.Common.{◌≡◌, ℕ, ap, arith}
use Rattle.nv_world_model.specs.Step.{replay}
use Rattle.nv_world_model.specs.World.{World, opening_world}
use Rattle.nv_examples.proofs.words.where_a_log_leads.Goals as goal

pub returns : goal.returns
unfolding replay opening_world
returns c promise = (let bad : ◌≡◌ {A = ℕ} 0 7 = ap (λ (z : World). z.host 0) promise.replay.end in absurd (omega arith))
