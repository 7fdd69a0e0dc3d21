-- What an Admin without memory is given and answered, and what the host is to do in memory for it (profile).
use Rattle.std.specs.Prelude.{ℕ, List, [], ◌++◌, Option, Some, None, IfSome}
use Rattle.nv_admin.specs.Administering.{AreMapped}
use Rattle.nv_admin.specs.Effect.{stored_by}
use Rattle.nv_admin.specs.Identify.{Stored}
use Rattle.nv_admin.specs.declared.administered.Administered.{Administered}
use Rattle.nv_admin.specs.declared.administered.Administered.TheVariants as done
use Rattle.nv_machine.specs.Effects.{Effect, completion_stores, hosts_from, stores}
use Rattle.nv_mem.specs.GuestMap.{mapped}
use Rattle.nv_mem.specs.Places.{places_of}
use Rattle.nv_mem.specs.declared.region.Region.{Region}
use Rattle.nv_model.specs.Queue.{sqe_size}
use Rattle.nv_model.specs.declared.reply.Reply.{Reply}
use Rattle.nv_model.specs.declared.reply.Reply.TheVariants as reply
use Rattle.nv_vctl.specs.declared.posting.Posting.{Posting}
use Rattle.nv_world_model.specs.Geometry.{Guest, regions_of}

-- the reply; there is nothing where there is no such guest
abbrev pub admin_reply : Option Administered → Reply
admin_reply None = reply.Ignored
admin_reply (Some done.Idle) = reply.Idle
admin_reply (Some done.Held) = reply.Held
admin_reply (Some (done.Done page completion)) = reply.Done

-- what a command stores
abbrev pub page_effects : Option Stored → List Region → List Effect
page_effects None regions = []
page_effects (Some s) regions = stores regions (places_of s.pieces) s.bytes

-- a completion
abbrev pub completion_effects : Option Posting → List Region → List Effect
completion_effects None regions = []
completion_effects (Some p) regions = completion_stores regions p.addr p.entry

-- what comes of an event of that guest
abbrev pub admin_effects : Option Guest → Option Administered → List Effect
admin_effects None told = []
admin_effects (Some given) None = []
admin_effects (Some given) (Some done.Idle) = []
admin_effects (Some given) (Some done.Held) = []
admin_effects (Some given) (Some (done.Done page completion)) =
    page_effects (stored_by page) (regions_of given) ++ completion_effects completion (regions_of given)

-- where the command lies that it is given: the host addresses of its 64 bytes
abbrev pub command_hosts : Option Guest → Option ℕ → List ℕ
command_hosts None at = []
command_hosts (Some given) None = []
command_hosts (Some given) (Some addr) = hosts_from (regions_of given) addr sqe_size

-- all that is stored lies in that guest's memory
abbrev pub AreStoresMapped : Option Guest → Option Administered → Type 0
AreStoresMapped given told = IfSome told (λ a. IfSome given (λ g. AreMapped (mapped (regions_of g)) a))
