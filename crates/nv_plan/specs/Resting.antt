-- Words of private functions: a plan under way that is put aside, without the guest's map.
use Rattle.std.specs.Prelude.{◌≡◌, []}
use Rattle.nv_world_model.specs.Geometry.{Guest, regions_of}
use Rattle.nv_plan.specs.Drafted.{IsUnderWay}
use Rattle.nv_plan.specs.Drawn.{given_of}
use Rattle.nv_plan.specs.declared.aside.Rest.{Rest}
use Rattle.nv_plan.specs.declared.aside.Rest.TheVariants as rest
use Rattle.nv_plan.specs.declared.draft.Draft.{Draft}
use Rattle.nv_plan.specs.declared.draft.Stage.{Stage}
use Rattle.nv_plan.specs.declared.draft.Stage.TheVariants as stage
use Rattle.nv_plan.specs.declared.job.Job.{Job}

-- this is a stage without the map of its parse, which is the guest's
abbrev pub IsRest : {A : Type 0} → Guest → Rest A → Stage A → Type 0
IsRest given (rest.Pages b r) (stage.Pages c parse) =
    (b ≡ c) × (r ≡ record parse.value { regions = [] }) × (parse.value.regions ≡ regions_of given)
IsRest given (rest.Descriptors b r) (stage.Descriptors c parse) =
    (b ≡ c) × (r ≡ record parse { regions = [] }) × (parse.regions ≡ regions_of given)
IsRest given (rest.Ranges s) (stage.Ranges t) = s ≡ t
IsRest given _ _ = ⊥

-- this is that stage with the guest's map
abbrev pub IsOn : {A : Type 0} → Guest → Rest A → Stage A → Type 0
IsOn given (rest.Pages b r) (stage.Pages c parse) = (c ≡ b) × (parse.value ≡ record r { regions = regions_of given })
IsOn given (rest.Descriptors b r) (stage.Descriptors c parse) = (c ≡ b) × (parse ≡ record r { regions = regions_of given })
IsOn given (rest.Ranges s) (stage.Ranges t) = t ≡ s
IsOn given _ _ = ⊥

-- it is what is left of a plan under way
pub record IsAside {A : Type 0} (given : Guest) (r : Rest A) (job : Job) : Type 0 where
  pub draft : Draft A
  pub own : given_of draft.given ≡ given
  pub under_way : IsUnderWay draft job
  pub rest : IsRest given r draft.stage
