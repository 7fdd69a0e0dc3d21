-- Where nothing of a scope is left to be done.
use Rattle.std.proofs.Common.{◌≡◌, refl, sym, subst, ap, ◌∙◌, ℕ, ◌+◌, ◌-◌, ◌<◌, ◌≤◌, ◌||◌, Bool, true, false, inl, inr, List, [], ◌∷◌, MatchOption, arith}
use Rattle.std.proofs.Common.{◌&&◌, nat_lt, length, slice_get, Option, Some, None, is_some}
use Rattle.std.proofs.lemmas.Bool.{cases_eq, cases_lt, ne_eqb}
use Rattle.std.proofs.lemmas.Bool.Decides.{nat_tests}
use Rattle.std.proofs.lemmas.Option.{none-some, slice_get_past}
use Rattle.std.specs.Option.{option_map}
use Rattle.nv_c.proofs.Works.{IsUnheld, dev_move-no_slot, dev_post-no_slot, dev_take-no_lane, reap-no_lane}
use Rattle.nv_c.specs.Work.{IsChoice, IsIn, IsNext, IsWaitingAt, IsWanting, NonePosts, NoneTakes, NoneWaits, PartyRests, Rests, SlotRests, guest_served}
use Rattle.nv_c.specs.declared.working.Choice.{Choice}
use Rattle.nv_c.specs.declared.working.Choice.TheVariants as choice
use Rattle.nv_c.specs.declared.working.Scope.{Scope}
use Rattle.nv_c.specs.declared.working.Scope.TheVariants as scope
use Rattle.nv_host.proofs.Marked.{out-fails}
use Rattle.nv_host.proofs.Searches.{none-left}
use Rattle.nv_host.proofs.Rests.{admin-no_guest, own-job, post-no_tag, refused-not, take-no_guest, take-no_lane, true-false}
use Rattle.nv_core.specs.Jobs.{holder_of, job_in, job_of}
use Rattle.nv_core.specs.Tags.{flying_in, is_flying}
use Rattle.nv_core.specs.declared.holding.Holder.{Holder}
use Rattle.nv_laws_sound.proofs.LaidOuts.{accepted, sizes-of}
use Rattle.nv_laws_sound.proofs.Lists.{slice_get-below, slice_get-there, some-same}
use Rattle.nv_laws_sound.proofs.Slots.{device-there}
use Rattle.nv_laws_sound.specs.Consistent.{IsConsistent, IsTag}
use Rattle.nv_mediator.specs.Hosted.{Hosted, hosted_world}
use Rattle.nv_plan.specs.declared.job.Job.{Job}
use Rattle.nv_world_model.specs.Area.{tag_count}
use Rattle.nv_tags.proofs.Rows.{is_among}
use Rattle.nv_world_model.specs.Device.{DeviceLane}
use Rattle.nv_world_model.specs.Due.{due, is_due_kind}
use Rattle.nv_world_model.specs.Geometry.{Geometry, Guest}
use Rattle.nv_world_model.specs.Seat.{owner_by, owner_of}
use Rattle.nv_world_model.specs.SetUp.{SetUp, TooManyGuests, most_guests, refusal_of, script_limits}
use Rattle.nv_world_model.specs.Step.{is_done, step}
use Rattle.nv_world_model.specs.World.{Ended, Flying, Free, Lane, Tag, Taken, World, tag_in, tag_of}
use Rattle.nv_world_model.specs.declared.event.Event.{Event}
use Rattle.nv_world_model.specs.declared.event.Event.TheVariants as event

-- ---- a job

pub some-job : (o : Option Job) → is_some o ≡ true → (job : Job) × (o ≡ Some job)
some-job None is = absurd (true-false false is refl)
some-job (Some job) is = (job, refl)

-- ---- a consistent world

module _ (geometry : Geometry) (w : World) (is : IsConsistent geometry w) where
  -- a tag that is there is one of 64
  pub tag-below : (lane tag : ℕ) (t : Tag) → tag_of w lane tag ≡ Some t → tag < tag_count
  tag-below lane tag t there = by_lane (slice_get w.lanes lane) refl there
    where
      by_lane : (o : Option Lane) → slice_get w.lanes lane ≡ o → tag_in o tag ≡ Some t → tag < tag_count
      by_lane None at found = absurd (none-some t found)
      by_lane (Some l) at found =
          (let side = device-there geometry w lane l is.of_tags at in
          let tags = (is.of_tags.lanes lane l side.0 at side.1).positions.tags in
          let below = slice_get-below l.tags tag t found in
          omega (arith, tags, below))

  -- a slot that is there, too
  pub slot-none : (lane slot : ℕ) → tag_count ≤ slot → (d : DeviceLane) → slice_get w.device lane ≡ Some d → slice_get d.held slot ≡ None
  slot-none lane slot beyond d at =
      let below = slice_get-below w.device lane d at in
      let sides = is.of_tags.sides in
      let side = slice_get-there w.lanes lane (omega (arith, below, sides)) in
      let held = (is.of_tags.lanes lane side.0 d side.1 at).positions.held in
      slice_get_past d.held slot (omega (arith, held, beyond))

  -- nor is a command in a slot whose tag isn't with the physical controller
  pub slot-unheld : (lane slot : ℕ) → is_among (flying_in (slice_get w.lanes lane)) slot ≡ false → IsUnheld w lane slot
  slot-unheld lane slot out d there h held = by_lane (slice_get w.lanes lane) refl out
    where
      by_tag : (l : Lane) → slice_get w.lanes lane ≡ Some l → is_among (flying_in (Some l)) slot ≡ false → (t : Tag) → slice_get l.tags slot ≡ Some t
          → IsTag geometry lane slot w.host l.head d (Some h) t → ⊥
      by_tag l at out Free has is = none-some h (sym is)
      by_tag l at out (Taken command reads) has is = none-some h (sym is.not_held)
      by_tag l at out (Flying command share standing) has is =
          out-fails (λ (t : Tag). is_flying (Some t)) l.tags slot (Flying command share standing) out has refl
      by_tag l at out (Ended command st share) has is = none-some h (sym is.not_held)

      by_lane : (o : Option Lane) → slice_get w.lanes lane ≡ o → is_among (flying_in o) slot ≡ false → ⊥
      by_lane None at out =
          (let below = slice_get-below w.device lane d there in
          let sides = is.of_tags.sides in
          none-some _ (sym at ∙ (slice_get-there w.lanes lane (omega (arith, below, sides))).1))
      by_lane (Some l) at out =
          (let whole = is.of_tags.lanes lane l d at there in
          let below = slice_get-below d.held slot (Some h) held in
          let many = whole.positions.held in
          let tags = whole.positions.tags in
          let tag = slice_get-there l.tags slot (omega (arith, below, many, tags)) in
          by_tag l at out tag.0 tag.1 (whole.tags slot tag.0 (Some h) tag.1 held))

  -- whose command waits for its plan was given something
  pub given-there : (lane tag : ℕ) (job : Job) → job_of w lane tag ≡ Some job → (guest : Guest) × (slice_get geometry.guests job.guest ≡ Some guest)
  given-there lane tag job there = by_lane (slice_get w.lanes lane) refl there
    where
      by_tag : (l : Lane) → slice_get w.lanes lane ≡ Some l → (t : Option Tag) → slice_get l.tags tag ≡ t → job_in lane tag t ≡ Some job
          → (guest : Guest) × (slice_get geometry.guests job.guest ≡ Some guest)
      by_tag l at None has found = absurd (none-some job found)
      by_tag l at (Some Free) has found = absurd (none-some job found)
      by_tag l at (Some (Taken command reads)) has found =
          (let side = device-there geometry w lane l is.of_tags at in
          let whole = is.of_tags.lanes lane l side.0 at side.1 in
          let below = slice_get-below l.tags tag (Taken command reads) has in
          let tags = whole.positions.tags in
          let held = whole.positions.held in
          let under = slice_get-there side.0.held tag (omega (arith, below, tags, held)) in
          let taken = whole.tags tag (Taken command reads) under.0 has under.1 in
          let own = own-job lane tag (Some (Taken command reads)) job found in
          (taken.guest, ap (slice_get geometry.guests) own.current.1.whose ∙ taken.is.given))
      by_tag l at (Some (Flying command share standing)) has found = absurd (none-some job found)
      by_tag l at (Some (Ended command st share)) has found = absurd (none-some job found)

      by_lane : (o : Option Lane) → slice_get w.lanes lane ≡ o → job_in lane tag (tag_in o tag) ≡ Some job
          → (guest : Guest) × (slice_get geometry.guests job.guest ≡ Some guest)
      by_lane None at found = absurd (none-some job found)
      by_lane (Some l) at found = by_tag l at (slice_get l.tags tag) refl found

  -- nor is one behind these, and a job is of one of them
  pub tag-none : (lane tag : ℕ) → tag_count ≤ tag → tag_of w lane tag ≡ None
  tag-none lane tag beyond = by_tag (tag_of w lane tag) refl
    where
      by_tag : (o : Option Tag) → tag_of w lane tag ≡ o → tag_of w lane tag ≡ None
      by_tag None found = found
      by_tag (Some t) found = (let below = tag-below lane tag t found in absurd (omega (arith, below, beyond)))

  pub job-below : (lane tag : ℕ) (job : Job) → job_of w lane tag ≡ Some job → tag < tag_count
  job-below lane tag job there = by_tag (tag_of w lane tag) refl there
    where
      by_tag : (o : Option Tag) → tag_of w lane tag ≡ o → job_in lane tag o ≡ Some job → tag < tag_count
      by_tag None at found = absurd (none-some job found)
      by_tag (Some t) at found = tag-below lane tag t at

  -- the guest of a command that waits for its plan was given something
  pub holder-given : (guest lane tag : ℕ) (job : Job) → holder_of w lane tag ≡ Some (record { guest = guest; leader = tag }) → job_of w lane tag ≡ Some job
      → (g : Guest) × (slice_get geometry.guests guest ≡ Some g)
  holder-given guest lane tag job held there =
      let own = own-job lane tag (tag_of w lane tag) job there in
      let given = given-there lane tag job there in
      let mine : Holder = record { guest = job.guest; leader = tag } in
      let its : Holder = record { guest = guest; leader = tag } in
      let same : mine ≡ its = some-same mine its (sym own.holder ∙ held) in
      (given.0, ap (λ (x : Holder). slice_get geometry.guests x.guest) (sym same) ∙ given.1)

-- ---- tags one after another

-- what holds of each tag that is not among some holds of each that is not among those but the first, where it holds of that
pub popped : (P : ℕ → Type 0) (all rest : List ℕ) (tag : ℕ) → all ≡ tag ∷ rest → ((k : ℕ) → is_among all k ≡ false → P k) → P tag
    → (k : ℕ) → is_among rest k ≡ false → P k
popped P all rest tag are others here k out = elim (cases_eq k tag) [
  | inl same ↦ subst P (sym same) here
  | inr other ↦
      others k (ap (λ (xs : List ℕ). is_among xs k) are ∙ ap (λ (x : Bool). x || is_among rest k) (ne_eqb tag k (λ e. other (sym e))) ∙ out)
]

-- where none is left, it holds of each
pub all-popped : (P : ℕ → Type 0) (first : Option ℕ) (all rest : List ℕ) → first ≡ None → MatchOption first (all ≡ []) (λ t. all ≡ t ∷ rest)
    → ((k : ℕ) → is_among all k ≡ false → P k) → (k : ℕ) → P k
all-popped P first all rest none is others k =
    others k (ap (λ (xs : List ℕ). is_among xs k) (none-left first all rest none is))

-- ---- choices

at_all : (s : Scope) (h : Hosted) (lane tag : ℕ) → IsWaitingAt s h lane tag → IsWaitingAt scope.All h lane tag
at_all s h lane tag is =
    record { job = is.job; given = is.given; there = is.there; waiting = record { waits = is.waiting.waits; own = tt } }

at_any : (s : Scope) (h : Hosted) → IsWanting s h → IsWanting scope.All h
at_any s h is = record { event = is.event; work = record { own = tt; next = is.work.next }; wants = is.wants }

-- what is chosen of a guest or a lane is chosen of all
pub choice_guest : (h : Hosted) (number : ℕ) (c : Choice) → number < 16
    → IsChoice (scope.Guest number) h (Rests (scope.Guest number) h) c → IsChoice scope.All h (PartyRests h number) c
choice_guest h number (choice.Make e) below is = record { own = tt; next = is.next }
choice_guest h number (choice.Submit plan) below is = (is.0, record { own = tt; next = is.1.next })
choice_guest h number (choice.Read job) below is = (is.0, record { waits = is.1.waits; own = tt })
choice_guest h number (choice.Resume lane tag) below is = at_all (scope.Guest number) h lane tag is
choice_guest h number (choice.GiveUp lane tag) below is = record { own = tt; waits = is.waits }
choice_guest h number choice.Nothing below is = record { guest = λ less. is; lane = λ beyond. absurd (omega (arith, below, beyond)) }
choice_guest h number choice.Starved below is = at_any (scope.Guest number) h is

pub choice_lane : (h : Hosted) (number lane : ℕ) (c : Choice) → 16 ≤ number → lane ≡ number - 16
    → IsChoice (scope.Lane lane) h (Rests (scope.Lane lane) h) c → IsChoice scope.All h (PartyRests h number) c
choice_lane h number lane (choice.Make e) beyond same is = record { own = tt; next = is.next }
choice_lane h number lane (choice.Submit plan) beyond same is = (is.0, record { own = tt; next = is.1.next })
choice_lane h number lane (choice.Read job) beyond same is = (is.0, record { waits = is.1.waits; own = tt })
choice_lane h number lane (choice.Resume at tag) beyond same is = at_all (scope.Lane lane) h at tag is
choice_lane h number lane (choice.GiveUp at tag) beyond same is = record { own = tt; waits = is.waits }
choice_lane h number lane choice.Nothing beyond same is =
    record { guest = λ below. absurd (omega (arith, below, beyond)); lane = λ more. subst (λ (n : ℕ). Rests (scope.Lane n) h) same is }
choice_lane h number lane choice.Starved beyond same is = at_any (scope.Lane lane) h is

-- what nothing says may say more
pub choice_more : (s : Scope) (h : Hosted) (nothing more : Type 0) (c : Choice) → (nothing → more) → IsChoice s h nothing c → IsChoice s h more c
choice_more s h nothing more (choice.Make e) so is = is
choice_more s h nothing more (choice.Submit plan) so is = is
choice_more s h nothing more (choice.Read job) so is = is
choice_more s h nothing more (choice.Resume lane tag) so is = is
choice_more s h nothing more (choice.GiveUp lane tag) so is = is
choice_more s h nothing more choice.Nothing so is = so is
choice_more s h nothing more choice.Starved so is = is

-- ---- a guest

module _ (h : Hosted) (guest : ℕ) where
  abbrev w : World
  w = hosted_world h

  module _ (no_admin : due h.geometry (event.Admin guest) w ≡ false)
      (none_waits : (lane : ℕ) → lane < length w.lanes → NoneWaits guest lane h)
      (none_takes : (lane : ℕ) → lane < length w.lanes → NoneTakes guest lane h) where
    takes-not : (queue lane : ℕ) → due h.geometry (event.Take guest queue lane) w ≡ false
    takes-not queue lane = elim (cases_lt lane (length w.lanes)) [
      | inl below ↦ none_takes lane below queue
      | inr beyond ↦ take-no_lane h.geometry w guest queue lane (slice_get_past w.lanes lane beyond)
    ]

    waits-not : (lane tag : ℕ) (job : Job) → option_map (λ (x : Holder). x.guest) (holder_of w lane tag) ≡ Some guest → job_of w lane tag ≡ Some job → ⊥
    waits-not lane tag job whose there = elim (cases_lt lane (length w.lanes)) [
      | inl below ↦
          (let own = own-job lane tag (tag_of w lane tag) job there in
          let same : job.guest ≡ guest =
          some-same job.guest guest (sym (ap (option_map (λ (x : Holder). x.guest)) own.holder) ∙ whose) in
          none_waits lane below tag job there same)
      | inr beyond ↦
          none-some job (sym (ap (λ (o : Option Lane). job_in lane tag (tag_in o tag)) (slice_get_past w.lanes lane beyond)) ∙ there)
    ]

    guest_event : (e : Event) → IsIn (scope.Guest guest) w e → IsNext h e → ⊥
    guest_event (event.Guest g a) own next = none-some guest own
    guest_event (event.Admin g) own next =
        true-false (due h.geometry (event.Admin g) w) next (ap (λ (n : ℕ). due h.geometry (event.Admin n) w) (some-same g guest own) ∙ no_admin)
    guest_event (event.Take g queue lane) own next =
        true-false (due h.geometry (event.Take g queue lane) w) next
        (ap (λ (n : ℕ). due h.geometry (event.Take n queue lane) w) (some-same g guest own) ∙ takes-not queue lane)
    guest_event (event.List lane tag addr len) own next = waits-not lane tag next.0 own next.2.taken
    guest_event (event.Submit lane tag) own next = waits-not lane tag next.0 own next.3.taken
    guest_event (event.GiveUp lane tag) own next = next
    guest_event (event.DevTake lane) own next = none-some guest own
    guest_event (event.DevMove lane slot number) own next = none-some guest own
    guest_event (event.DevPost lane slot) own next = none-some guest own
    guest_event (event.DevFail lane slot st) own next = none-some guest own
    guest_event (event.Keep block) own next = none-some guest own
    guest_event (event.Reap lane) own next = none-some guest own
    guest_event (event.Post lane tag) own next = none-some guest own

    pub guest-rests : Rests (scope.Guest guest) h
    guest-rests = λ e work. guest_event e work.own work.next

-- ---- a lane

module _ (h : Hosted) (lane : ℕ) (no_take : due h.geometry (event.DevTake lane) (hosted_world h) ≡ false)
    (no_reap : due h.geometry (event.Reap lane) (hosted_world h) ≡ false) (none_posts : NonePosts lane h)
    (slots_rest : (slot : ℕ) → SlotRests lane h slot) where
  here : (of : ℕ → Event) (n : ℕ) → n ≡ lane → due h.geometry (of n) (hosted_world h) ≡ true → due h.geometry (of lane) (hosted_world h) ≡ false → ⊥
  here of n is there gone = true-false (due h.geometry (of lane) (hosted_world h)) (sym (ap (λ (k : ℕ). due h.geometry (of k) (hosted_world h)) is) ∙ there) gone

  lane_event : (e : Event) → IsIn (scope.Lane lane) (hosted_world h) e → IsNext h e → ⊥
  lane_event (event.Guest g a) own next = none-some lane own
  lane_event (event.Admin g) own next = none-some lane own
  lane_event (event.Take g queue n) own next = none-some lane own
  lane_event (event.List n tag addr len) own next = none-some lane own
  lane_event (event.Submit n tag) own next = none-some lane own
  lane_event (event.GiveUp n tag) own next = none-some lane own
  lane_event (event.DevTake n) own next = here (λ k. event.DevTake k) n (some-same n lane own) next no_take
  lane_event (event.DevMove n slot number) own next =
      here (λ k. event.DevMove k slot number) n (some-same n lane own) next ((slots_rest slot).moves number)
  lane_event (event.DevPost n slot) own next = here (λ k. event.DevPost k slot) n (some-same n lane own) next (slots_rest slot).posts
  lane_event (event.DevFail n slot st) own next = none-some lane own
  lane_event (event.Keep block) own next = none-some lane own
  lane_event (event.Reap n) own next = here (λ k. event.Reap k) n (some-same n lane own) next no_reap
  lane_event (event.Post n tag) own next = here (λ k. event.Post k tag) n (some-same n lane own) next (none_posts tag)

  pub lane-rests : Rests (scope.Lane lane) h
  lane-rests = λ e work. lane_event e work.own work.next

-- ---- all

act-not_due : (h : Hosted) (e : Event) → is_due_kind e ≡ false → due h.geometry e (hosted_world h) ≡ true → ⊥
unfolding due
act-not_due h e kind is =
    true-false (due h.geometry e (hosted_world h)) is
    (ap (λ (b : Bool). b && is_done (step h.geometry e (hosted_world h)).reply) kind)

module _ (h : Hosted) (is : IsConsistent h.geometry (hosted_world h)) (few_guests : length h.geometry.guests ≤ 16)
    (few_lanes : length (hosted_world h).lanes ≤ 8) (parties : (number : ℕ) → number < 24 → PartyRests h number) where
  abbrev all : World
  all = hosted_world h

  of_guest : (g : ℕ) → g < 16 → Rests (scope.Guest g) h
  of_guest g below = (parties g (omega (arith, below))).guest below

  of_lane : (n : ℕ) → n < 8 → Rests (scope.Lane n) h
  of_lane n below =
      let same : 16 + n - 16 ≡ n = omega arith in
      subst (λ (k : ℕ). Rests (scope.Lane k) h) same ((parties (16 + n) (omega (arith, below))).lane (omega arith))

  no_owner : (g : ℕ) → 16 ≤ g → owner_of h.geometry all g ≡ None
  no_owner g beyond =
      ap (λ (x : Option Guest). owner_by g x (slice_get all.controllers g)) (slice_get_past h.geometry.guests g (omega (arith, few_guests, beyond)))

  past : (n : ℕ) → 8 ≤ n → slice_get all.lanes n ≡ None
  past n beyond = slice_get_past all.lanes n (omega (arith, few_lanes, beyond))

  past-device : (n : ℕ) → 8 ≤ n → slice_get all.device n ≡ None
  past-device n beyond = let sides = is.of_tags.sides in slice_get_past all.device n (omega (arith, few_lanes, beyond, sides))

  in_none : (n slot : ℕ) → 8 ≤ n → (d : DeviceLane) → slice_get all.device n ≡ Some d → slice_get d.held slot ≡ None
  in_none n slot beyond d at = absurd (none-some d (sym (past-device n beyond) ∙ at))

  of_job : (e : Event) (lane tag : ℕ) (job : Job) (given : Guest) → job_of all lane tag ≡ Some job → slice_get h.geometry.guests job.guest ≡ Some given
      → IsNext h e → (guest_served all e ≡ option_map (λ (x : Holder). x.guest) (holder_of all lane tag)) → ⊥
  of_job e lane tag job given there whose next served =
      let below = slice_get-below h.geometry.guests job.guest given whose in
      let own = own-job lane tag (tag_of all lane tag) job there in
      of_guest job.guest (omega (arith, below, few_guests)) e
      (record { own = served ∙ ap (option_map (λ (x : Holder). x.guest)) own.holder; next = next })

  all_event : (e : Event) → IsNext h e → ⊥
  all_event (event.Guest g a) next = act-not_due h (event.Guest g a) refl next
  all_event (event.Admin g) next = elim (cases_lt g 16) [
    | inl below ↦ of_guest g below (event.Admin g) (record { own = refl; next = next })
    | inr beyond ↦ true-false (due h.geometry (event.Admin g) all) next (admin-no_guest h.geometry all g (no_owner g beyond))
  ]
  all_event (event.Take g queue n) next = elim (cases_lt g 16) [
    | inl below ↦ of_guest g below (event.Take g queue n) (record { own = refl; next = next })
    | inr beyond ↦ true-false (due h.geometry (event.Take g queue n) all) next (take-no_guest h.geometry all g queue n (no_owner g beyond))
  ]
  all_event (event.List n tag addr len) next =
      of_job (event.List n tag addr len) n tag next.0 next.1 next.2.taken next.2.whose next refl
  all_event (event.Submit n tag) next = of_job (event.Submit n tag) n tag next.0 next.1 next.3.taken next.3.whose next refl
  all_event (event.GiveUp n tag) next = next
  all_event (event.DevTake n) next = elim (cases_lt n 8) [
    | inl below ↦ of_lane n below (event.DevTake n) (record { own = refl; next = next })
    | inr beyond ↦ true-false (due h.geometry (event.DevTake n) all) next (dev_take-no_lane h.geometry all n (past-device n beyond))
  ]
  all_event (event.DevMove n slot number) next = elim (cases_lt n 8) [
    | inl below ↦ of_lane n below (event.DevMove n slot number) (record { own = refl; next = next })
    | inr beyond ↦
        true-false (due h.geometry (event.DevMove n slot number) all) next (dev_move-no_slot h.geometry all n slot number (in_none n slot beyond))
  ]
  all_event (event.DevPost n slot) next = elim (cases_lt n 8) [
    | inl below ↦ of_lane n below (event.DevPost n slot) (record { own = refl; next = next })
    | inr beyond ↦ true-false (due h.geometry (event.DevPost n slot) all) next (dev_post-no_slot h.geometry all n slot (in_none n slot beyond))
  ]
  all_event (event.DevFail n slot st) next = act-not_due h (event.DevFail n slot st) refl next
  all_event (event.Keep block) next = act-not_due h (event.Keep block) refl next
  all_event (event.Reap n) next = elim (cases_lt n 8) [
    | inl below ↦ of_lane n below (event.Reap n) (record { own = refl; next = next })
    | inr beyond ↦ true-false (due h.geometry (event.Reap n) all) next (reap-no_lane h.geometry all n (past n beyond))
  ]
  all_event (event.Post n tag) next = elim (cases_lt n 8) [
    | inl below ↦ of_lane n below (event.Post n tag) (record { own = refl; next = next })
    | inr beyond ↦
        true-false (due h.geometry (event.Post n tag) all) next
        (post-no_tag h.geometry all n tag (ap (λ (o : Option Lane). tag_in o tag) (past n beyond)))
  ]

  pub all-rests : Rests scope.All h
  all-rests = λ e work. all_event e work.next

few-guests : (s : SetUp) → refusal_of s ≡ None → length s.geometry.guests ≤ 16
unfolding refusal_of
few-guests s none =
    let not_more : nat_lt most_guests (length s.geometry.guests) ≡ false =
    refused-not (nat_lt most_guests (length s.geometry.guests)) TooManyGuests _ none in
    grind (arith, nat_tests, not_more)

-- how many guests and lanes an accepted set-up has at most
pub few_of : (s : SetUp) → refusal_of s ≡ None → (length s.geometry.guests ≤ 16) × (s.lanes ≤ 8)
few_of s none =
    let few = few-guests s none in
    let lanes = (sizes-of script_limits s (accepted s none).sizes).few_lanes in
    (few, omega (arith, lanes))
