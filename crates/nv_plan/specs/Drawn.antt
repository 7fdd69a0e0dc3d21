-- Words of private functions: what a guest was given, as a plan is drawn from it.
use Rattle.nv_world_model.specs.Geometry.{Guest}
use Rattle.nv_plan.specs.declared.given.GrantRef.{GrantRef}

-- what a guest was given
abbrev pub given_of : GrantRef → Guest
given_of given = record { memory_map = given.map.now; namespace = given.ns.now; limit = given.limit }
