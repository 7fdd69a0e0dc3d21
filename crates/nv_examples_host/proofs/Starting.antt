-- The mediator of the set-up is reached at its start
use Rattle.std.proofs.Common.{[], refl}
use Rattle.std.proofs.lemmas.List.Elements.{All-nil}
use Rattle.nv_examples_host.specs.Scenes.{given, start}
use Rattle.nv_host.specs.Served.{LeadsTo, opened}
use Rattle.nv_laws.specs.Alike.{HasFittingStatus}
use Rattle.nv_laws_sound.specs.Phased.{AreRingsClear}
use Rattle.nv_model.specs.Memory.{byte_in}
use Rattle.nv_world_model.specs.Step.{replay, replies}
use Rattle.nv_world_model.specs.World.{opening_world}

zeros : AreRingsClear given (byte_in [])
unfolding byte_in
zeros lane at there within = refl

pub start-led : LeadsTo (opened given) start [] [] start
unfolding opening_world replay replies
start-led =
    record {
      starts = record { world = refl; clear = zeros };
      replayed = record { end = refl; told = refl };
      fitting = All-nil (λ l. HasFittingStatus l.event);
      beside = record { host = refl; lanes = refl; controllers = refl; tails = refl };
    }
