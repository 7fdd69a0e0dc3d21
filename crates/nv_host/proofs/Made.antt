-- What the fields of the code's mediator make.
use Rattle.std.proofs.Common.{ℕ, Bool, List}
use Rattle.nv_laws_sound.specs.Side.{Side}
use Rattle.nv_host.specs.Served.{Served}
use Rattle.nv_world_model.specs.Geometry.{Geometry}

abbrev pub made : (host_bytes lanes : ℕ) → Geometry → Side → (closed : List Bool) → (spare : List ℕ) → Served
made host_bytes lanes geometry side closed spare =
    record {
      setup = record { host_bytes = host_bytes; lanes = lanes; geometry = geometry };
      side = side;
      closed = closed;
      spare = spare;
    }
