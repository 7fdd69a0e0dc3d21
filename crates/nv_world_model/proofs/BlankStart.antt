-- Beside a world of zeros a private controller starts with zeros.
use Rattle.std.proofs.Common.{◌≡◌, ℕ, List, Option, Some, None, refl, ap}
use mathlib.Core.Path.{fun_ext}
use Rattle.nv_mem.specs.GuestMap.{host_of}
use Rattle.nv_mem.specs.declared.region.Region.{Region}
use Rattle.nv_model.specs.Memory.{byte_at_host, image}
use Rattle.nv_model.specs.Private.{start, start_with}
use Rattle.nv_world_model.specs.Geometry.{Geometry, Guest, regions_of}
use Rattle.nv_world_model.specs.Headline.{start_in}
use Rattle.nv_world_model.specs.World.{opening_world}

-- zeros have an image of zeros
no-byte : (o : Option ℕ) → byte_at_host (λ _. 0) o ≡ 0
no-byte None = refl
no-byte (Some at) = refl

image-blank : (regions : List Region) → image regions (λ _. 0) ≡ (λ _. 0)
unfolding image
image-blank regions = fun_ext (λ addr. no-byte (host_of regions addr))

pub start-blank : (guest : Guest) (geometry : Geometry) (lanes : ℕ) → start_in guest (opening_world (λ _. 0) (λ _ _. 0) geometry lanes) ≡ start
unfolding opening_world start
start-blank guest geometry lanes = ap (λ (m : ℕ → ℕ). start_with m (λ _ _. 0)) (image-blank (regions_of guest))
