-- Words of the laws of a command that is carried out on the private controller: it is judged, and its units move; and words for what
-- moves units one after another
use Rattle.std.specs.Prelude.{◌≡◌, ℕ, zero, suc, ◌+◌, Bool, true, false, ◌==◌, List, [], ◌∷◌, map, replicate, Option, Some, None}
use Rattle.std.specs.List.{list_all, range_with_len}
use Rattle.nv_entry.specs.Status.{StatusField}
use Rattle.nv_model.specs.Judge.{WorkUnit, MoveBlock, Work}
use Rattle.nv_model.specs.Limits.{block}
use Rattle.nv_model.specs.Private.{AtWork, JudgeStep, MoveStep, Moved, Private}
use Rattle.nv_model.specs.Private.{Progress, Shape, Step, Taken, Unjudged, block_written, ending, marked, run_of, with_progress}
use Rattle.nv_model.specs.Carried.{units_moved}

-- ---- units in order

-- before the first unit
abbrev pub unmoved : Private → Moved
unmoved p = record { memory = p.memory; disk = p.disk; kept = p.kept; differed = false }

-- ---- words for what moves units one after another

-- n units that move blocks, from that index of a transfer and that LBA on
unfoldable pub units_from : (index lba n : ℕ) → List WorkUnit
units_from index lba zero = []
units_from index lba (suc n) = MoveBlock index lba ∷ units_from (index + 1) (lba + 1) n

-- a block is zeros and has this mark
abbrev pub cleared_one : (lba : ℕ) → (mark : Bool) → Moved → Moved
cleared_one lba mark m =
    record m { disk = block_written m.disk lba (replicate block 0); kept = marked m.kept lba mark }

-- these blocks are, one after another
unfoldable pub cleared : (lbas : List ℕ) → (mark : Bool) → Moved → Moved
cleared [] mark m = m
cleared (lba ∷ lbas) mark m = cleared lbas mark (cleared_one lba mark m)

-- ---- a command that goes on

-- the state with the command of a name this far
abbrev pub this_far : (name : ℕ) → Taken → Progress → Private → Private
this_far name t progress p = record p { bag = with_progress p.bag name t progress }

-- the state with this memory, disk and marks, and the command of a name at work with these units left
abbrev pub at_work : (name : ℕ) → Taken → Work → (left : List ℕ) → Moved → Private → Private
at_work name t work left m p =
    record p {
      memory = m.memory;
      disk = m.disk;
      kept = m.kept;
      bag = with_progress p.bag name t (AtWork work left m.differed);
    }

-- the state after all units of a command in order
abbrev pub all_moved : (name : ℕ) → Taken → Work → Private → Private
all_moved name t work p = at_work name t work [] (units_moved work.units work (unmoved p)) p

-- the command of that name is judged, and then this many units move in order of their numbers
abbrev pub judged_then_moved : (name units : ℕ) → List Step
judged_then_moved name units = JudgeStep name ∷ map (MoveStep name) (range_with_len 0 units)

-- ---- carried out

-- whether a step judges the command of that name, or moves one of its units
abbrev pub is_own_step : (name : ℕ) → Step → Bool
is_own_step name (JudgeStep other) = other == name
is_own_step name (MoveStep other number) = other == name
is_own_step name _ = false

-- the status with which a command has ended, where it is there
abbrev pub ending_of : Option Taken → Option StatusField
ending_of None = None
ending_of (Some t) = ending t.progress

-- some run of steps that judge the command t of that name, which is not judged in p, or move its units, leads from p to q, where it
-- has ended with this status
pub record IsCarriedOut (shape : Shape) (p : Private) (name : ℕ) (t : Taken) (st : StatusField) (q : Private) : Type 0 where
  pub there : p.bag name ≡ Some t
  pub unjudged : t.progress ≡ Unjudged
  pub steps : List Step
  pub own : list_all (is_own_step name) steps ≡ true
  pub runs : run_of shape steps p ≡ Some (record { state = q; seen = [] })
  pub ended : ending_of (q.bag name) ≡ Some st
