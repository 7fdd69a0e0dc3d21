-- The world at its start, on lists: what lists of one value are as functions.
use Rattle.std.proofs.Common.{◌≡◌, ℕ, zero, suc, ◌+◌, ◌≤◌, ◌∷◌, inl, inr, Bool, false, List, [], get_or, length, replicate, slice_index, arith, refl, sym, subst, ap, ◌∙◌}
use mathlib.Core.Path.{fun_ext}
use Rattle.std.proofs.lemmas.Bool.{cases_lt}
use Rattle.std.proofs.lemmas.List.{get_or-replicate, get_or_past, length-replicate}
use Rattle.nv_core.specs.Places.{place_of, placed_lanes, placed_tags}
use Rattle.nv_core.specs.State.{IsOpening, State}
use Rattle.nv_device.specs.Physical.{opening_physical}
use Rattle.nv_device.specs.State.{Physical}
use Rattle.nv_model.specs.Controller.{Controller, opening}
use Rattle.nv_model.specs.Limits.{block}
use Rattle.nv_model.specs.Memory.{byte_in}
use Rattle.nv_disk.specs.Flat.{byte_of_block}
use Rattle.nv_disk.specs.Marks.{mark_of}
use Rattle.nv_world_model.specs.Area.{tag_count}
use Rattle.nv_world_model.specs.Device.{DeviceLane}
use Rattle.nv_world_model.specs.Geometry.{Geometry}
use Rattle.nv_world_model.specs.World.{Free, Lane, Standing, Tag, World, opening_lane, opening_world}

-- a list of one value, read where what stands beyond it is that value, too
reads-one : {X : Type 0} (n i : ℕ) (x : X) → get_or (replicate n x) i x ≡ x
reads-one n i x = elim (cases_lt i n) [
  | inl within ↦ get_or-replicate n i x x within
  | inr past ↦ get_or_past (replicate n x) i x (let l = length-replicate n x in omega (arith, l))
]

pub bytes-zero : (n : ℕ) → byte_in (replicate n 0) ≡ (λ at. 0)
unfolding byte_in
bytes-zero n = fun_ext (λ at. reads-one n at 0)

-- a block that is there is zeros, and one that is not reads as such
block-zero : (n at offset : ℕ) → byte_of_block (replicate n (replicate block 0)) at offset ≡ 0
block-zero n at offset = elim (cases_lt at n) [
  | inl within ↦
      ap (λ (b : List ℕ). slice_index b offset) (get_or-replicate n at (replicate block 0) [] within) ∙ reads-one block offset 0
  | inr past ↦
      ap (λ (b : List ℕ). slice_index b offset)
      (get_or_past (replicate n (replicate block 0)) at [] (subst (λ m. m ≤ at) (sym (length-replicate n zeros)) past))
]
  where
    zeros : List ℕ
    zeros = replicate block 0

blocks-zero : (n : ℕ) → byte_of_block (replicate n (replicate block 0)) ≡ (λ at offset. 0)
blocks-zero n = fun_ext (λ at. fun_ext (λ offset. block-zero n at offset))

marks-clear : (n : ℕ) → mark_of (replicate n false) ≡ (λ at. false)
marks-clear n = fun_ext (λ at. reads-one n at false)

-- the lists of the start are its world
pub opening-is : (geometry : Geometry) (host_bytes lanes : ℕ) → IsOpening geometry host_bytes lanes (record {
  host = replicate host_bytes 0;
  device = opening_physical geometry.mediator lanes geometry.disk_blocks;
  lanes = replicate lanes opening_lane;
  controllers = replicate (length geometry.guests) opening;
})
unfolding opening_world
opening-is geometry host_bytes lanes =
    let device = opening_physical geometry.mediator lanes geometry.disk_blocks in
    let rest : (ℕ → ℕ) → (ℕ → ℕ → ℕ) → (ℕ → Bool) → World = (λ host disk kept. record {
      host = host;
      disk = disk;
      kept = kept;
      device = device.lanes;
      lanes = replicate lanes opening_lane;
      controllers = replicate (length geometry.guests) opening;
    }) in
    record {
      world =
          ap (λ (h : ℕ → ℕ). rest h (byte_of_block device.disk) (mark_of device.kept)) (bytes-zero host_bytes)
          ∙ ap (λ (d : ℕ → ℕ → ℕ). rest (λ at. 0) d (mark_of device.kept)) (blocks-zero geometry.disk_blocks)
          ∙ ap (λ (k : ℕ → Bool). rest (λ at. 0) (λ at offset. 0) k) (marks-clear geometry.disk_blocks);
      host = length-replicate host_bytes 0;
      mediator = refl;
      blocks = length-replicate geometry.disk_blocks (replicate block 0);
    }

pub opening-of : (geometry g : Geometry) (host_bytes lanes n : ℕ) (s : State) → g ≡ geometry → s.host ≡ replicate host_bytes 0
    → s.device ≡ opening_physical g.mediator lanes g.disk_blocks → s.lanes ≡ replicate lanes opening_lane
    → s.controllers ≡ replicate n opening → n ≡ length g.guests → IsOpening geometry host_bytes lanes s
opening-of geometry g host_bytes lanes n s same h d l c many =
    subst (λ (x : Geometry). IsOpening x host_bytes lanes s) same
    (subst (IsOpening g host_bytes lanes) (sym (parts ∙ ap (λ (k : ℕ). all (replicate k opening)) many)) (opening-is g host_bytes lanes))
  where
    all : List Controller → State
    all cs = record {
      host = replicate host_bytes 0;
      device = opening_physical g.mediator lanes g.disk_blocks;
      lanes = replicate lanes opening_lane;
      controllers = cs;
    }

    parts : s ≡ all (replicate n opening)
    parts =
        ap (λ (x : List ℕ). let t : State = record { host = x; device = s.device; lanes = s.lanes; controllers = s.controllers } in t) h
        ∙ ap (λ (x : Physical). let t : State = record { host = replicate host_bytes 0; device = x; lanes = s.lanes; controllers = s.controllers } in t) d
        ∙ ap (λ (x : List Lane). let t : State = record {
          host = replicate host_bytes 0;
          device = opening_physical g.mediator lanes g.disk_blocks;
          lanes = x;
          controllers = s.controllers;
        } in t) l
        ∙ ap all c

-- ---- no part has a place

free-placed : (place : ℕ → Standing) (from n : ℕ) → placed_tags place from (replicate n Free) ≡ replicate n Free
free-placed place from zero = refl
free-placed place from (suc n) = ap (λ (ts : List Tag). Free ∷ ts) (free-placed place (from + 1) n)

pub opening-placed : (mediator from : ℕ) (host : ℕ → ℕ) (ds : List DeviceLane) (n : ℕ)
    → placed_lanes mediator from host ds (replicate n opening_lane) ≡ replicate n opening_lane
opening-placed mediator from host ds zero = refl
opening-placed mediator from host [] (suc n) = refl
opening-placed mediator from host (d ∷ ds) (suc n) =
    ap (λ (ts : List Tag). (let l : Lane = record opening_lane { tags = ts } in l) ∷ placed_lanes mediator (from + 1) host ds (replicate n opening_lane))
    (free-placed (λ tag. place_of mediator from tag host 0 d) 0 tag_count)
    ∙ ap (λ (ls : List Lane). opening_lane ∷ ls) (opening-placed mediator (from + 1) host ds n)
