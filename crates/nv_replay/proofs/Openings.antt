-- What a script and a text come to, step by step
use Rattle.std.proofs.Common.{◌≡◌, ◌⊎◌, ℕ, List, Option, Some, None, Result, Ok, Err, refl, ap, ◌∙◌, inl, inr}
use Rattle.nv_replay_script.specs.ReplayScript.{ScriptValue, script_of}
use Rattle.nv_once_script.specs.declared.once.fault.ScriptFault.{ScriptFault}
use Rattle.nv_once_script.specs.declared.once.fault.ScriptFault.TheVariants as script
use Rattle.nv_world.specs.Refused.{refused}
use Rattle.nv_mediator.specs.declared.refusal.Refusal.{Refusal}
use Rattle.nv_mediator.specs.declared.refusal.Refusal.TheVariants as world
use Rattle.nv_world_model.specs.Geometry.{Guest}
use Rattle.nv_world_model.specs.SetUp.{SetUp, refusal_of}
use Rattle.nv_world_model.specs.SetUp as model
use Rattle.nv_replay_script.specs.ReplaySetUp.{GuestValue}
use Rattle.nv_replay_script.specs.declared.sizes.Sizes.{Sizes}
use Rattle.nv_replay.specs.Opening.{IsFaultOf, IsRefusalOf, accepted, accepted_by, guests_from, opened_by, replay_of, set_up_of, set_up_with}
use Rattle.nv_replay.specs.Refused.{of_refusal, of_script}
use Rattle.nv_replay.specs.declared.fault.ReplayFault.{ReplayFault}

-- a script a map of whose guests is refused
pub set_up_of-refused : (sizes : Sizes) (guests : List GuestValue) (fault : ReplayFault) → IsRefusalOf (guests_from sizes.host 0 guests) fault
    → IsFaultOf (set_up_of sizes guests) fault
unfolding set_up_of
set_up_of-refused sizes guests fault (inl no_memory) = inl no_memory
set_up_of-refused sizes guests fault (inr refused) = inr (rw refused refl)

-- a script whose guests have maps
pub set_up_of-mapped : (sizes : Sizes) (guests : List GuestValue) (mapped : List Guest) → guests_from sizes.host 0 guests ≡ Ok mapped
    → set_up_of sizes guests ≡ accepted (set_up_with sizes mapped)
unfolding set_up_of
set_up_of-mapped sizes guests mapped is = rw is refl

-- a script whose set-up is refused
pub opened_by-refused : (s : ScriptValue) (fault : ReplayFault) → IsFaultOf (set_up_of s.sizes s.guests) fault → IsFaultOf (opened_by s) fault
unfolding opened_by
opened_by-refused s fault (inl no_memory) = inl no_memory
opened_by-refused s fault (inr refused) = inr (rw refused refl)

-- a script whose world opens
pub opened_by-accepted : (s : ScriptValue) (set_up : SetUp) → set_up_of s.sizes s.guests ≡ Ok set_up
    → opened_by s ≡ Ok (record { set_up = set_up; events = s.events })
unfolding opened_by
opened_by-accepted s set_up is = rw is refl

-- a text that is no script
pub replay_of-faulty : (text : List ℕ) (read : ScriptFault) (fault : ReplayFault)
    → (read ≡ script.NoMemory) ⊎ (script_of text ≡ Err read) → fault ≡ of_script read → IsFaultOf (replay_of text) fault
unfolding replay_of
replay_of-faulty text read fault (inl no_memory) is = inl (is ∙ ap of_script no_memory)
replay_of-faulty text read fault (inr faulty) is = inr (rw (faulty, is) refl)

-- a text that is a script
pub replay_of-read : (text : List ℕ) (s : ScriptValue) → script_of text ≡ Ok s → replay_of text ≡ opened_by s
unfolding replay_of
replay_of-read text s read = rw read refl

-- a set-up that is refused
accepted_by-refused : (answer : Option model.Refusal) (set_up : SetUp) (refusal : Refusal)
    → refused answer ≡ Some refusal → accepted_by answer set_up ≡ Err (of_refusal refusal)
accepted_by-refused None set_up refusal is = cc
accepted_by-refused (Some model.TooManyGuests) set_up refusal is = let same : refusal ≡ world.TooManyGuests = cc in rw same refl
accepted_by-refused (Some model.ExtentsMeet) set_up refusal is = let same : refusal ≡ world.ExtentsMeet = cc in rw same refl
accepted_by-refused (Some model.MapsMeet) set_up refusal is = let same : refusal ≡ world.MapsMeet = cc in rw same refl
accepted_by-refused (Some model.BadSize) set_up refusal is = let same : refusal ≡ world.BadSize = cc in rw same refl

-- a set-up whose world is not opened
pub accepted-refused : (set_up : SetUp) (refusal : Refusal)
    → (refused (refusal_of set_up) ≡ Some refusal) ⊎ ((refusal ≡ world.NoMemory) × (refusal_of set_up ≡ None))
    → IsFaultOf (accepted set_up) (of_refusal refusal)
accepted-refused set_up refusal (inl is) = inr (accepted_by-refused (refusal_of set_up) set_up refusal is)
accepted-refused set_up refusal (inr (no_memory, none)) = inl (ap of_refusal no_memory)

-- and one whose world is
pub accepted-opened : (set_up opened : SetUp) → refusal_of set_up ≡ None → opened ≡ set_up → accepted set_up ≡ Ok opened
accepted-opened set_up opened none same = rw (none, same) refl

-- a set-up that was opened, by another name
pub opened-as : (wanted : Result SetUp ReplayFault) (s t : SetUp) → wanted ≡ Ok s → t ≡ s → wanted ≡ Ok t
opened-as wanted s t is same = rw same is
