-- The refusals of a set-up as the code names them (profile).
use Rattle.std.specs.Prelude.{Option, Some, None}
use Rattle.nv_mediator.specs.declared.refusal.Refusal.{Refusal as Named}
use Rattle.nv_mediator.specs.declared.refusal.Refusal.TheVariants as named
use Rattle.nv_world_model.specs.SetUp.{BadSize, MapsMeet, ExtentsMeet, Refusal, TooManyGuests}

abbrev pub name_of : Refusal → Named
name_of TooManyGuests = named.TooManyGuests
name_of ExtentsMeet = named.ExtentsMeet
name_of MapsMeet = named.MapsMeet
name_of BadSize = named.BadSize

abbrev pub refused : Option Refusal → Option Named
refused None = None
refused (Some r) = Some (name_of r)
