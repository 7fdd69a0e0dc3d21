-- What a text comes to, step by step, and the lanes of a world that opens
use Rattle.std.proofs.Common.{◌≡◌, ◌⊎◌, ℕ, ◌<◌, List, Option, Some, None, Result, Ok, Err, refl, sym, ap, ◌∙◌, inl, inr, arith}
use Rattle.std.specs.Prelude.{IfOk, MatchResult}
use Rattle.std.specs.Result.{is_ok, result_map_both}
use Rattle.nv_laws_sound.proofs.LaidOuts.{accepted as is-accepted, sizes-of}
use Rattle.nv_replay.specs.Opening.{IsFaultOf, accepted, accepted_by, guests_from, set_up_of, set_up_with}
use Rattle.nv_replay.specs.Refused.{of_script}
use Rattle.nv_replay.specs.declared.fault.ReplayFault.{ReplayFault}
use Rattle.nv_replay.specs.declared.fault.ReplayFault.TheVariants.{Refused}
use Rattle.nv_replay.specs.declared.refusal.SetUpRefusal.{SetUpRefusal}
use Rattle.nv_replay_script.specs.ReplaySetUp.{GuestValue}
use Rattle.nv_replay_script.specs.declared.sizes.Sizes.{Sizes}
use Rattle.nv_run.specs.Opening.{run_of}
use Rattle.nv_run.specs.Parts.{AreParted}
use Rattle.nv_run.specs.Played.{ArePartsOf}
use Rattle.nv_run.specs.declared.opening.Run.{Run}
use Rattle.nv_run_script.specs.RunScript.{ScriptValue, script_of}
use Rattle.nv_once_script.specs.OnceFault.{◌>>=◌}
use Rattle.nv_once_script.specs.declared.once.fault.ScriptFault.{ScriptFault}
use Rattle.nv_once_script.specs.declared.once.fault.ScriptFault.TheVariants as script
use Rattle.nv_world.specs.Mediated.{mediated}
use Rattle.nv_world_model.specs.Geometry.{Guest}
use Rattle.nv_world_model.specs.SetUp.{Refusal, SetUp, refusal_of, script_limits}

-- a text that is no script
pub run_of-faulty : (text : List ℕ) (read : ScriptFault) (fault : ReplayFault)
    → (read ≡ script.NoMemory) ⊎ (script_of text ≡ Err read) → fault ≡ of_script read → IsFaultOf (run_of text) fault
unfolding run_of
run_of-faulty text read fault (inl no_memory) is = inl (is ∙ ap of_script no_memory)
run_of-faulty text read fault (inr faulty) is = inr (rw (faulty, is) refl)

-- a text that is a script
pub run_of-read : (text : List ℕ) (s : ScriptValue) → script_of text ≡ Ok s → run_of text ≡ set_up_of s.sizes s.guests
unfolding run_of
run_of-read text s read = rw read refl

-- what the guests of a world are to do that a text opens
pub parts-opened : (text : List ℕ) (script : ScriptValue) (opened : Result Run ReplayFault) → script_of text ≡ Ok script
    → MatchResult opened (λ run. run_of text ≡ Ok (mediated run.world).setup) (IsFaultOf (run_of text))
    → IfOk opened (λ run. AreParted script.lines run.parts.items)
    → IfOk opened (λ run. ArePartsOf text run.parts.items)
parts-opened text script (Ok run) read opens parted = record { script = script; read = read; opens = ap is_ok opens; parted = parted }
parts-opened text script (Err fault) read opens parted = tt

-- ---- lanes

lanes-by : (sizes : Sizes) (mapped : List Guest) (answer : Option Refusal) (s : SetUp)
    → accepted_by answer (set_up_with sizes mapped) ≡ Ok s → s.lanes ≡ sizes.lanes
lanes-by sizes mapped None s is =
    let same : set_up_with sizes mapped ≡ s = cc in
    ap (λ (t : SetUp). t.lanes) (sym same)
lanes-by sizes mapped (Some refusal) s is = cc

lanes-of : (sizes : Sizes) (guests : Result (List Guest) SetUpRefusal) (s : SetUp)
    → (result_map_both (λ g. g) (λ r. Refused r) guests >>= λ mapped. accepted (set_up_with sizes mapped)) ≡ Ok s → s.lanes ≡ sizes.lanes
lanes-of sizes (Ok mapped) s is = lanes-by sizes mapped (refusal_of (set_up_with sizes mapped)) s is
lanes-of sizes (Err refusal) s is = cc

set_up_of-lanes : (sizes : Sizes) (guests : List GuestValue) (s : SetUp) → set_up_of sizes guests ≡ Ok s → s.lanes ≡ sizes.lanes
unfolding set_up_of
set_up_of-lanes sizes guests s is = lanes-of sizes (guests_from sizes.host 0 guests) s is

-- a world that opens has some lanes, and few
pub lanes-some : (sizes : Sizes) (guests : List GuestValue) (s : SetUp) → set_up_of sizes guests ≡ Ok s → refusal_of s ≡ None → 0 < sizes.lanes
lanes-some sizes guests s is none =
    let some = (sizes-of script_limits s (is-accepted s none).sizes).some_lanes in
    let same = set_up_of-lanes sizes guests s is in
    omega (arith, some, same)

pub lanes-few : (sizes : Sizes) (guests : List GuestValue) (s : SetUp) → set_up_of sizes guests ≡ Ok s → refusal_of s ≡ None → sizes.lanes < 256
lanes-few sizes guests s is none =
    let few = (sizes-of script_limits s (is-accepted s none).sizes).few_lanes in
    let same = set_up_of-lanes sizes guests s is in
    omega (arith, few, same)
