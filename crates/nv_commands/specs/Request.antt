-- Requests: what the words of the program ask for
use Rattle.std.specs.Prelude.{ℕ, Bool, List, Option, ⊤}
use Rattle.nv_commands.specs.Command.{IsFaultOf, LeavesInput, Prints}
use Rattle.nv_run.specs.Played as played
use Rattle.nv_commands.specs.Run.{IsRunFault}
use Rattle.nv_commands.specs.declared.fault.Fault.{Fault}
use Rattle.nv_commands.specs.declared.request.Request.{Request}
use Rattle.nv_commands.specs.declared.request.Request.TheVariants.{Alone, Run}

-- an output has grown by what is asked for
abbrev pub PrintsRequest : (built : List ℕ → Bool) → Request → (text before after : Option (List ℕ)) → Type 0
PrintsRequest built (Alone command) text before after = Prints built command text before after
PrintsRequest built Run text before after = played.PrintsText text before after

-- how what is asked for can end that ends not well
abbrev pub IsFaultOfRequest : Request → (text : Option (List ℕ)) → Fault → Type 0
IsFaultOfRequest (Alone command) text fault = IsFaultOf command text fault
IsFaultOfRequest Run text fault = IsRunFault text fault

-- what is asked for leaves its input as it is, if it reads nothing
abbrev pub RequestLeavesInput : {R : Type 0} → Request → (before after : R) → Type 0
RequestLeavesInput (Alone command) before after = LeavesInput command before after
RequestLeavesInput Run before after = ⊤
