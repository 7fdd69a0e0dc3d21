-- The order of what a call that may post a completion does in memory: data first, then the completion, and of the completion the dword with its phase tag
-- last (Base Specification 2.0, "Completion Queue Entry": a new entry is there once its phase tag is inverted).
use Rattle.std.specs.Prelude.{◌≡◌, ℕ, ◌+◌, List, [], ◌∷◌, ◌++◌, All, drop, length, take, Option, Some}
use Rattle.std.specs.List.{Contains}
use Rattle.nv_entry.specs.Status.{StatusField}
use Rattle.nv_laws_sound.specs.Side.{Side}
use Rattle.nv_machine.specs.Doing.{tag_at}
use Rattle.nv_machine.specs.Effects.{Effect, Store}
use Rattle.nv_machine.specs.Machine.{admin_stores, delivered_by}
use Rattle.nv_mem.specs.GuestMap.{host_of}
use Rattle.nv_mem.specs.declared.region.Region.{Region}
use Rattle.nv_model.specs.Controller.{Controller, Posted, post}
use Rattle.nv_model.specs.Queue.{cqe_size}
use Rattle.nv_world_model.specs.Area.{bounce_page}
use Rattle.nv_world_model.specs.Geometry.{Geometry, Guest, regions_of}
use Rattle.nv_world_model.specs.Share.{Share}
use Rattle.nv_world_model.specs.World.{Command, Ended}

-- ---- data

-- of a Post: a byte of a tag's bounce pages is copied to a place of the share that has ended there (profile)
pub data IsDelivered (geometry : Geometry) (s : Side) (lane : ℕ) (given : Guest) (effect : Effect) : Type 0 where
  Delivered : (tag : ℕ) (command : Command) (st : StatusField) (share : Share) → tag_at s lane tag ≡ Some (Ended command st (Some share))
      → Contains (delivered_by share.plan (bounce_page geometry.mediator lane tag) given) effect → IsDelivered geometry s lane given effect

-- of an Admin: a byte of the structure that an Identify stores (Base Specification 2.0, "Identify command")
abbrev pub IsStructure : Guest → (entry : List ℕ) → Effect → Type 0
IsStructure given entry effect = Contains (admin_stores entry given) effect

-- ---- order

-- effects are data, then the first 12 bytes of a completion at its host address, and then its dword with the phase tag
pub record EndsWith (IsData : Effect → Type 0) (regions : List Region) (p : Posted) (effects : List Effect) : Type 0 where
  pub before : List Effect
  pub to : ℕ
  pub there : host_of regions p.addr ≡ Some to
  pub size : length p.entry ≡ cqe_size
  pub are : effects ≡ before ++ Store to (take 12 p.entry) ∷ Store (to + 12) (drop 12 p.entry) ∷ []
  pub is_data : All IsData before

-- a completion is posted so, and the guest's controller is the one after it; or none is, there is data at most, and its completion queues are as they were
pub data IsInOrder (IsData : Effect → Type 0) (given : Guest) (c : Controller) (after : Option Controller) (effects : List Effect) : Type 0 where
  Posts : (from : Controller) (queue dw0 cid : ℕ) (st : StatusField) (p : Posted) → post from queue dw0 cid st ≡ Some p
      → EndsWith IsData (regions_of given) p effects → after ≡ Some p.controller → IsInOrder IsData given c after effects
  PostsNone : All IsData effects → ((d : Controller) → after ≡ Some d → d.completion_queues ≡ c.completion_queues) → IsInOrder IsData given c after effects
