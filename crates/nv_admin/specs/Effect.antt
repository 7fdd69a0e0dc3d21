-- What a command's outcome says of its effect.
use Rattle.std.specs.Prelude.{◌≡◌, ℕ, Bool, Option, Some, None, IfSome, Result, Ok, Err}
use Rattle.nv_entry.specs.declared.status_code.StatusCode.{StatusCode}
use Rattle.nv_model.specs.Admin.{AdminEffect, Hidden, Shown, Structure, answered, refused, unanswered}
use Rattle.nv_model.specs.Controller.{Controller, completion_queue, is_ready}
use Rattle.nv_admin.specs.DataStructure.{content}
use Rattle.nv_admin.specs.Identify.{Stored, memory_behind}
use Rattle.nv_admin.specs.PageBuffer.{IsInMap, pieces}
use Rattle.nv_admin.specs.declared.carried.Carried.{Carried}
use Rattle.nv_admin.specs.declared.data_structure.DataStructure.{DataStructure}
use Rattle.nv_admin.specs.declared.outcome.Outcome.{Outcome}
use Rattle.nv_admin.specs.declared.outcome.Outcome.TheVariants as outcome
use Rattle.nv_admin.specs.declared.shown_page.ShownPage.{ShownPage}

-- the effect of a command with this outcome, or of one that was refused, after which controller and memory are these
abbrev pub effect : Result Outcome StatusCode → Controller → (ℕ → ℕ) → AdminEffect
effect (Ok (outcome.Done dw0)) c memory = answered dw0 c memory
effect (Ok outcome.Pending) c memory = unanswered c memory
effect (Err why) c memory = refused why c memory

-- the page that a command stores
abbrev pub stored_by : Option ShownPage → Option Stored
stored_by None = None
stored_by (Some page) = Some (record { pieces = pieces page.buffer; bytes = content page.structure })

-- a command that stores nothing but its completion
abbrev pub quiet : Result Outcome StatusCode → Carried
quiet outcome = record { outcome = outcome; page = None }

-- the effect of a command that came to this, after which the controller is that one, in a memory
abbrev pub carried_effect : Carried → Controller → (memory : ℕ → ℕ) → AdminEffect
carried_effect carried c memory = effect carried.outcome c (memory_behind (stored_by carried.page) memory)

-- the page that is stored, if one is, lies in the guest's memory
abbrev pub IsPageMapped : (ℕ → Bool) → Option ShownPage → Type 0
IsPageMapped mapped page = IfSome page (λ p. IsInMap mapped p.buffer)

-- what Identify comes to
abbrev pub identified_by : Result ShownPage StatusCode → Carried
identified_by (Ok page) = record { outcome = Ok (outcome.Done 0); page = Some page }
identified_by (Err why) = quiet (Err why)

-- what Identify shows
abbrev pub shown_by : Result DataStructure StatusCode → Shown
shown_by (Ok structure) = Structure (content structure)
shown_by (Err why) = Hidden why

-- what each command keeps of a controller: whether it is ready, and the admin completion queue
pub record Keeps (old new : Controller) : Type 0 where
  pub ready : is_ready new ≡ is_ready old
  pub admin_queue : completion_queue new 0 ≡ completion_queue old 0
