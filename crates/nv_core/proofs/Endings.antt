-- A command that has ended and may be completed: what its Post comes to, and what its controller counts.
use Rattle.std.proofs.Common.{◌≡◌, ℕ, ◌<◌, List, [], ◌++◌, slice_get, slice_index, Option, Some, None, IfSome, is_some, true, arith, refl, sym, ap, ◌∙◌, subst}
use Rattle.std.proofs.lemmas.Option.{slice_get_within}
use Rattle.nv_core.proofs.CallPosts.{call-post-done, copies-then, delivery-copies}
use Rattle.nv_core.proofs.GroupWorlds.{IsEndedHere}
use Rattle.nv_core.specs.Completing.{AreCounted, IsCountedIn, IsEnding, completion_for, copies, ended_posting, ended_side, may_end, stores_of}
use Rattle.nv_core.specs.Front.{IsSideOf}
use Rattle.nv_core.specs.declared.completing.Completion.{Completion}
use Rattle.nv_core.specs.declared.completing.Ending.{Ending}
use Rattle.nv_entry.specs.Submission.{cid_of}
use Rattle.nv_laws_sound.proofs.CountedTags.{commands-at, owned-by}
use Rattle.nv_laws_sound.specs.Counted.{IsCounted, commands}
use Rattle.nv_laws_sound.specs.Side.{IsKept, Side}
use Rattle.nv_machine.proofs.SideWorlds.{side-with, world_with}
use Rattle.nv_machine.specs.Doing.{Called, replied}
use Rattle.nv_machine.specs.Effects.{Effect}
use Rattle.nv_machine.specs.Machine.{call, delivery}
use Rattle.nv_model.proofs.CountedBags.{counted-some}
use Rattle.nv_model.specs.Memory.{byte_in}
use Rattle.nv_model.specs.Private.{Unjudged, Taken as Member}
use Rattle.nv_model.specs.Running.{IsConsistent as IsRunningWith, IsOfIoQueue}
use Rattle.nv_model.specs.declared.reply.Reply.TheVariants as reply
use Rattle.nv_world_model.specs.Area.{tag_count}
use Rattle.nv_world_model.specs.Geometry.{Geometry, Guest}
use Rattle.nv_world_model.specs.Seat.{name_of}
use Rattle.nv_world_model.specs.World.{Ended, Lane, World, group_in, tag_in}
use Rattle.nv_world_model.specs.declared.event.Event.TheVariants as event

-- what is there
pub is-there : {X : Type 0} (o : Option X) → is_some o ≡ true → (x : X) × (o ≡ Some x)
is-there None e = cc
is-there (Some x) e = (x, refl)

-- controllers that count their commands in each world of a side and a memory do so whatever is in memory
pub counted-with : (geometry : Geometry) (s : Side) (memory : List ℕ) → ((w : World) → IsSideOf s memory w → IsCounted geometry w) → AreCounted geometry s
unfolding commands
counted-with geometry s memory counted w is =
    let v : World = record w { host = byte_in memory } in
    let on : IsSideOf s memory v = record {
      host = refl;
      lanes = ap (λ (t : Side). t.lanes) is;
      controllers = ap (λ (t : Side). t.controllers) is;
      tails = ap (λ (t : Side). t.tails) is;
    } in
    record { running = (counted v on).running }

module _ (geometry : Geometry) (s : Side) (lane tag : ℕ) (e : Ending) (is : IsEnding lane tag s e) (guest : Guest)
    (given : slice_get geometry.guests e.guest ≡ Some guest) where
  abbrev ended : IsEndedHere s.lanes lane tag
  ended = record { at = is.at; command = is.command; st = is.first; share = is.share; found = is.found; there = is.there; led = is.led }

  abbrev own : Ending
  own = record { guest = is.command.guest; queue = is.command.queue; cid = cid_of is.command.entry; status = e.status }

  own-is : own ≡ e
  own-is =
      ap (λ (n : ℕ). let x : Ending = record { guest = n; queue = is.command.queue; cid = cid_of is.command.entry; status = e.status } in x) (sym is.guest_is)
      ∙ ap (λ (n : ℕ). let x : Ending = record e { queue = n; cid = cid_of is.command.entry } in x) (sym is.queue_is)
      ∙ ap (λ (n : ℕ). let x : Ending = record e { cid = n } in x) (sym is.cid_is)

  own-given : slice_get geometry.guests is.command.guest ≡ Some guest
  own-given = ap (λ (n : ℕ). slice_get geometry.guests n) (sym is.guest_is) ∙ given

  -- ---- its Post

  abbrev pub out : List Effect
  out = delivery e.status geometry.mediator lane (group_in (Some is.at) tag) guest s

  pub ending-done : call geometry (event.Post lane tag) [] s ≡ replied reply.Done (record {
    side = ended_side lane tag e is.at is.controller s;
    effects = out ++ stores_of geometry (completion_for e.guest (ended_posting e.queue e.cid e.status is.controller));
  })
  ending-done =
      subst (λ (x : Ending). call geometry (event.Post lane tag) [] s ≡ replied reply.Done (record {
        side = ended_side lane tag x is.at is.controller s;
        effects = out ++ stores_of geometry (completion_for x.guest (ended_posting x.queue x.cid x.status is.controller));
      })) own-is
      (call-post-done geometry s lane tag ended is.at is.found guest is.controller own-given is.has e.status is.decided
      (ap (λ (x : Ending). may_end x.queue x.cid x.status is.controller) own-is ∙ is.room))

  -- its copies, and then the stores of its completion
  pub ending-effects : (c : Option Completion) → c ≡ completion_for e.guest (ended_posting e.queue e.cid e.status is.controller)
      → (call geometry (event.Post lane tag) [] s).now.effects ≡ copies (call geometry (event.Post lane tag) [] s).now.effects ++ stores_of geometry c
  ending-effects c told =
      copies-then geometry c _ out (delivery-copies e.status geometry.mediator lane (group_in (Some is.at) tag) guest s)
      (ap (λ (x : Called). x.now.effects) ending-done ∙ ap (λ (x : Option Completion). out ++ stores_of geometry x) (sym told))

  -- ---- its controller

  module _ (kept : IsKept geometry s) (counted : AreCounted geometry s) where
    abbrev w : World
    w = world_with (λ at. 0) s

    tag-below : tag < tag_count
    tag-below =
        let within = slice_get_within is.at.tags tag (Ended is.command is.first is.share) is.there in
        let fine = kept.lanes lane is.at is.found in let sized = fine.tags_are in omega (arith, within, sized)

    abbrev member : Member
    member = record { queue = is.command.queue; entry = is.command.entry; progress = Unjudged }

    member-there : commands w is.command.guest (name_of lane tag) ≡ Some member
    member-there =
        commands-at geometry w is.command.guest lane tag (Ended is.command is.first is.share) tag-below
        (ap (λ (x : Option Lane). tag_in x tag) is.found ∙ is.there)
        ∙ owned-by tag is.command.guest is.command is.led refl

    -- counts it
    pub ending-counted : IsCountedIn s e
    ending-counted c has =
        let own_has : slice_get s.controllers is.command.guest ≡ Some c = ap (λ (n : ℕ). slice_get s.controllers n) (sym is.guest_is) ∙ has in
        let runs : IsRunningWith c (commands w is.command.guest) = (counted w (side-with (λ at. 0) s)).running is.command.guest guest c own-given own_has in
        let io = subst (λ (o : Option Member). IfSome o IsOfIoQueue) member-there (runs.of_io_queues (name_of lane tag)) in
        subst (λ (q : ℕ). (0 < q) × (0 < slice_index c.taken q)) (sym is.queue_is)
        (io.0, counted-some c.taken (commands w is.command.guest) (name_of lane tag) member runs.counted member-there)
