-- What a Submit comes to for the host, the physical controller and the lane (profile).
use Rattle.std.specs.Prelude.{◌≡◌, ℕ, ◌+◌, ◌*◌, ◌%◌, ◌^◌, ◌<◌, ◌≤◌, false, if◌then◌else◌, List, [], ◌∷◌, length, slice_get, Option, Some, None}
use Rattle.nv_core.specs.Groups.{AreTaken, all_ended, all_handed}
use Rattle.nv_core.specs.Tags.{IsTaken}
use Rattle.nv_mem.specs.GuestMap.{span_met}
use Rattle.nv_model.specs.Limits.{page}
use Rattle.nv_model.specs.Transcript.{Outcome, ReadDone, Settled, Wanted}
use Rattle.nv_model.specs.declared.reply.Reply.{Reply}
use Rattle.nv_model.specs.declared.reply.Reply.TheVariants as reply
use Rattle.nv_ns.specs.Extents.{Namespace}
use Rattle.nv_plan.specs.Made.{MadePlan}
use Rattle.nv_plan.specs.declared.job.Job.{Job}
use Rattle.nv_model.specs.Queue.{next_slot}
use Rattle.nv_world_model.specs.Area.{lane_start, list_page, ring_size, tag_count}
use Rattle.nv_world_model.specs.Geometry.{Geometry, Guest, regions_of}
use Rattle.nv_world_model.specs.Plan.{Answer, Bounced, Direct, NoData, Plan}
use Rattle.nv_world_model.specs.SetUp.{most_limit}
use Rattle.nv_world_model.specs.Share.{Share, shares_of, tags_of_entry}
use Rattle.nv_world_model.specs.ShareArea.{is_no_command, share_written}
use Rattle.nv_world_model.specs.World.{Command, Ended, Flying, Free, Lane, Tag, Taken, World, group_in, tag_in}

-- a limit on descriptors that may be
pub record IsLimit (limit : ℕ) : Type 0 where
  pub some : 0 < limit
  pub most : limit ≤ most_limit

-- ---- where it is written

-- the area begins at a page, a lane's part of it ends before 2 to the 64, and the lane has the tag
pub record IsPlaced (mediator lane tag : ℕ) : Type 0 where
  pub aligned : mediator % page ≡ 0
  pub ends : lane_start mediator (lane + 1) < 2 ^ 64
  pub below : tag < tag_count

-- the list page and the 32 bounce pages of a tag
abbrev pub tag_bytes : ℕ
tag_bytes = page * 33

-- a tag's pages and its lane's rings lie in the host that the guest's map was made for, and the pages are none of the guest's memory
pub record HasRoom (mediator lane tag : ℕ) (guest : Guest) (host : List ℕ) : Type 0 where
  pub aligned : mediator % page ≡ 0
  pub below : tag < tag_count
  pub area : lane_start mediator (lane + 1) ≤ length host
  pub made_for : guest.memory_map.host_len ≡ length host
  pub apart : span_met (regions_of guest) (list_page mediator lane tag) tag_bytes ≡ false

-- so do the pages of all tags of the lane
abbrev pub HaveRoom : (mediator lane : ℕ) → Guest → (host : List ℕ) → Type 0
HaveRoom mediator lane guest host = (tag : ℕ) → tag < tag_count → HasRoom mediator lane tag guest host

-- ---- what is done

-- the job of a command that was taken under a tag, with what was read of its lists
pub record IsJobOf (lane tag : ℕ) (command : Command) (reads : List ReadDone) (job : Job) : Type 0 where
  pub on : job.lane ≡ lane
  pub under : job.tag ≡ tag
  pub whose : job.guest ≡ command.guest
  pub entry : job.sqe ≡ command.entry
  pub read : job.reads ≡ reads

-- a job is that of a tag as it is, which its command goes by
abbrev pub IsOfTag : Option Tag → Job → Type 0
IsOfTag None job = ⊥
IsOfTag (Some Free) job = ⊥
IsOfTag (Some (Taken command reads)) job = (command.leader ≡ job.tag) × IsJobOf job.lane job.tag command reads job
IsOfTag (Some (Flying command share at)) job = ⊥
IsOfTag (Some (Ended command st share)) job = ⊥

-- a plan was made of the state as it is: its job is that of its tag, and it was made with what the guest was given
pub record IsCurrentIn (geometry : Geometry) (lanes : List Lane) (p : MadePlan) : Type 0 where
  pub of_tag : IsOfTag (tag_in (slice_get lanes p.job.lane) p.job.tag) p.job
  pub made_with : slice_get geometry.guests p.job.guest ≡ Some p.given

abbrev pub IsCurrent : Geometry → World → MadePlan → Type 0
IsCurrent geometry w p = IsCurrentIn geometry w.lanes p

-- a command waits for its plan: it goes by this tag, the first of its tags, all of which were taken, and it has some tags
pub record WaitsForPlan (ns : Namespace) (tag : ℕ) (l : Lane) : Type 0 where
  pub below : tag < tag_count
  pub led : IsTaken tag (slice_get l.tags tag)
  pub together : AreTaken (group_in (Some l) tag) l
  pub others : List ℕ
  pub first : group_in (Some l) tag ≡ tag ∷ others
  pub some : 0 < tags_of_entry ns led.command.entry

-- a plan that is not an answer
abbrev pub IsGoing : Plan → Type 0
IsGoing (Answer st) = ⊥
IsGoing (NoData work) = Unit {0}
IsGoing (Direct work) = Unit {0}
IsGoing (Bounced work) = Unit {0}

-- ---- share by share

-- the host after a share that is carried out in a tag, by the entry in slot `at` of the submission ring, and the slot of the next entry: where the
-- share is no physical command, both are as they were
abbrev pub host_carried : Share → Guest → (entry : List ℕ) → (mediator lane tag at : ℕ) → (host : ℕ → ℕ) → ℕ → ℕ
host_carried share guest entry mediator lane tag at host =
    if is_no_command share then host else share_written share guest entry mediator lane tag at host

abbrev pub slot_after : Share → (at : ℕ) → ℕ
slot_after share at = if is_no_command share then at else next_slot ring_size at

-- the same of all shares in order, each in its tag
abbrev pub host_handed : (tags : List ℕ) → List Share → Guest → (entry : List ℕ) → (mediator lane at : ℕ) → (host : ℕ → ℕ) → ℕ → ℕ
host_handed [] shares guest entry mediator lane at host = host
host_handed (tag ∷ tags) [] guest entry mediator lane at host = host
host_handed (tag ∷ tags) (share ∷ shares) guest entry mediator lane at host =
    host_handed tags shares guest entry mediator lane (slot_after share at) (host_carried share guest entry mediator lane tag at host)

abbrev pub tail_handed : (tags : List ℕ) → List Share → (at : ℕ) → ℕ
tail_handed [] shares at = at
tail_handed (tag ∷ tags) [] at = at
tail_handed (tag ∷ tags) (share ∷ shares) at = tail_handed tags shares (slot_after share at)

-- ---- a plan

-- the host after a plan that was carried out: an answer writes nothing
abbrev pub host_behind : Plan → (tags : List ℕ) → Guest → (entry : List ℕ) → (mediator lane at : ℕ) → (host : ℕ → ℕ) → ℕ → ℕ
host_behind (Answer st) tags guest entry mediator lane at host = host
host_behind (NoData work) tags guest entry mediator lane at host =
    host_handed tags (shares_of guest.namespace entry (NoData work)) guest entry mediator lane at host
host_behind (Direct work) tags guest entry mediator lane at host =
    host_handed tags (shares_of guest.namespace entry (Direct work)) guest entry mediator lane at host
host_behind (Bounced work) tags guest entry mediator lane at host =
    host_handed tags (shares_of guest.namespace entry (Bounced work)) guest entry mediator lane at host

-- the tail of the submission ring after it, which is written to the doorbell: an answer has no entry
abbrev pub tail_behind : Plan → (tags : List ℕ) → Namespace → (entry : List ℕ) → (at : ℕ) → ℕ
tail_behind (Answer st) tags ns entry at = at
tail_behind (NoData work) tags ns entry at = tail_handed tags (shares_of ns entry (NoData work)) at
tail_behind (Direct work) tags ns entry at = tail_handed tags (shares_of ns entry (Direct work)) at
tail_behind (Bounced work) tags ns entry at = tail_handed tags (shares_of ns entry (Bounced work)) at

-- the tags after it
abbrev pub tags_behind : Plan → (tags : List ℕ) → Namespace → Command → Lane → Lane
tags_behind (Answer st) tags ns command l = all_ended tags command st l
tags_behind (NoData work) tags ns command l = all_handed tags (shares_of ns command.entry (NoData work)) command l
tags_behind (Direct work) tags ns command l = all_handed tags (shares_of ns command.entry (Direct work)) command l
tags_behind (Bounced work) tags ns command l = all_handed tags (shares_of ns command.entry (Bounced work)) command l

-- a plan of a command with these tags was carried out: what the host, the tail of the submission ring and the lane are now
pub record IsCarriedOut (plan : Plan) (guest : Guest) (mediator lane : ℕ) (tags : List ℕ) (command : Command) (host host_new : ℕ → ℕ)
    (at at_new : ℕ) (l l_new : Lane) : Type 0 where
  pub memory : host_new ≡ host_behind plan tags guest command.entry mediator lane at host
  pub tail : at_new ≡ tail_behind plan tags guest.namespace command.entry at
  pub tags_are : l_new ≡ tags_behind plan tags guest.namespace command l

-- nothing was done
pub record IsAsBefore (answer r : Reply) (host host_new : ℕ → ℕ) (at at_new : ℕ) (l l_new : Lane) : Type 0 where
  pub answered : r ≡ answer
  pub memory : host_new ≡ host
  pub tail : at_new ≡ at
  pub tags_are : l_new ≡ l

-- what has come of a command was carried out; where more is wanted, nothing was done
abbrev pub IsSubmitted : Outcome Plan → Guest → (mediator lane : ℕ) → (tags : List ℕ) → Command → Reply → (host host_new : ℕ → ℕ)
    → (at at_new : ℕ) → (l l_new : Lane) → Type 0
IsSubmitted (Wanted addr len) guest mediator lane tags command r host host_new at at_new l l_new =
    IsAsBefore reply.Stale r host host_new at at_new l l_new
IsSubmitted (Settled plan) guest mediator lane tags command r host host_new at at_new l l_new =
    (r ≡ reply.Done) × IsCarriedOut plan guest mediator lane tags command host host_new at at_new l l_new
