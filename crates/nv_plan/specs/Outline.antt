-- What a plan says: what is done with the command, and of each physical command where its bytes are in the guest's memory and the ranges that go
-- into the bounce page (profile). It is a plan of nv_world_model and its shares without what the command's 64 bytes give.
use Rattle.std.specs.Prelude.{ℕ, List, map}
use Rattle.nv_mem.specs.declared.piece.Piece.{Piece}
use Rattle.nv_model.specs.Transcript.{Outcome, Settled, Wanted}
use Rattle.nv_ns.specs.Extents.{Namespace}
use Rattle.nv_world_model.specs.Plan.{Answer, Bounced, Direct, NoData, Plan}
use Rattle.nv_world_model.specs.Share.{Share, shares_of}
use Rattle.nv_plan.specs.Parts.{places_in, ranges_of}
use Rattle.nv_plan.specs.declared.kind.PlanKind.{PlanKind}
use Rattle.nv_plan.specs.declared.kind.PlanKind.TheVariants as kind

-- of one physical command: where the bytes of a transfer lie, and the ranges of a Dataset Management as the disk has them, 16 bytes each
pub record Portion : Type 0 where
  pub places : List Piece
  pub ranges : List (List ℕ)

-- what is done, and what each physical command has of it
pub record Outline : Type 0 where
  pub kind : PlanKind
  pub portions : List Portion

-- what is done
abbrev pub kind_of : Plan → PlanKind
kind_of (Answer st) = kind.Answer st
kind_of (NoData work) = kind.NoData
kind_of (Direct work) = kind.Direct
kind_of (Bounced work) = kind.Bounced

-- what a share's physical command has
abbrev pub portion_of : Namespace → Share → Portion
portion_of ns share = record { places = places_in share.plan; ranges = ranges_of ns share.plan }

-- what the plan of that entry says in that namespace
abbrev pub outline_of : Namespace → (entry : List ℕ) → Plan → Outline
outline_of ns entry plan = record { kind = kind_of plan; portions = map (portion_of ns) (shares_of ns entry plan) }

-- more is wanted, or this is what the plan says
abbrev pub outlined : Namespace → (entry : List ℕ) → Outcome Plan → Outcome Outline
outlined ns entry (Wanted addr len) = Wanted addr len
outlined ns entry (Settled plan) = Settled (outline_of ns entry plan)
