use Rattle.std.proofs.Common.{◌≡◌, ◌∙◌, ℕ, List, Some, get_or, length, slice_get, arith, refl, sym, ap, subst}
use Rattle.std.specs.Option.{option_map}
use Rattle.std.proofs.lemmas.Option.{slice_get_within}
use Rattle.nv_core.proofs.CallPosts.{call-post-early, call-post-held, call-post-nobody, call-post-not}
use Rattle.nv_core.proofs.GroupWorlds.{IsEndedHere, ended-below, ended-by, ended-found, ended-is, ended-led, ended-there, looked-up}
use Rattle.nv_core.specs.Completing.{may_end}
use Rattle.nv_core.specs.Groups.{statuses_in}
use Rattle.nv_entry.specs.Submission.{cid_of}
use Rattle.nv_laws_sound.specs.Side.{Side}
use Rattle.nv_mem.specs.GuestMap.{Mapping, mapped}
use Rattle.nv_model.specs.Controller.{Controller}
use Rattle.nv_model.specs.Laws.{QueuesInPlace}
use Rattle.nv_vctl.proofs.Entries.{completions-fit}
use Rattle.nv_world_model.specs.Step.{deciding}
use Rattle.nv_world_model.specs.World.{Command, Lane, group_in}
use Rattle.nv_core.proofs.front.Front.ending.Goals as goal

pub returns-in-Some-clause-ending : goal.returns-in-Some-clause-ending
returns-in-Some-clause-ending c =
    call-post-not c.args.layout.now c.args.self.now c.args.lane c.args.tag c.in-Some.reply (sym c.unended.ensures ∙ c.in-Some.is)

pub index-ring-requires : goal.index-ring-requires
index-ring-requires c =
    let s = c.args.self.now in
    let same : c.self.inside.lanes.items ≡ s.lanes = ap (λ (f : Side). f.lanes) c.self.view_is in
    let t : IsEndedHere s.lanes c.args.lane c.args.tag = ended-by s.lanes c.args.lane c.args.tag (slice_get s.lanes c.args.lane) refl (sym c.unended.ensures ∙ c.in_default.is) in
    let below = ended-below s.lanes c.args.lane c.args.tag t in
    let many : length c.self.inside.lanes.items ≡ length s.lanes = ap (λ (ls : List Lane). length ls) same in
    let number = c.from.ensures in omega arith

pub ended-claim-requires : goal.ended-claim-requires
ended-claim-requires c =
    let s = c.args.self.now in
    let same : c.self.inside.lanes.items ≡ s.lanes = ap (λ (f : Side). f.lanes) c.self.view_is in
    let t : IsEndedHere s.lanes c.args.lane c.args.tag = ended-by s.lanes c.args.lane c.args.tag (slice_get s.lanes c.args.lane) refl (sym c.unended.ensures ∙ c.in_default.is) in
    let l = c.index-ring.result.now in
    let has : l ≡ get_or s.lanes c.from.result l = c.index-ring.ensures ∙ ap (λ (ls : List Lane). get_or ls c.from.result l) same in
    ended-is s.lanes c.args.lane c.args.tag t c.from.result l c.from.ensures has

pub returns-in_default-guest-clause-ending : goal.returns-in_default-guest-clause-ending
returns-in_default-guest-clause-ending c =
    let s = c.args.self.now in
    let same : c.self.inside.lanes.items ≡ s.lanes = ap (λ (f : Side). f.lanes) c.self.view_is in
    let t : IsEndedHere s.lanes c.args.lane c.args.tag = ended-by s.lanes c.args.lane c.args.tag (slice_get s.lanes c.args.lane) refl (sym c.unended.ensures ∙ c.in_default.is) in
    let l = c.index-ring.result.now in
    let has : l ≡ get_or s.lanes c.from.result l = c.index-ring.ensures ∙ ap (λ (ls : List Lane). get_or ls c.from.result l) same in
    let found : slice_get s.lanes c.args.lane ≡ Some l = ended-found s.lanes c.args.lane c.args.tag t c.from.result l c.from.ensures has in
    let there = ended-there s.lanes c.args.lane c.args.tag t c.from.result l c.from.ensures has in
    let claimed = c.ended-claim.ensures t.command t.st t.share there in
    let guest : c.ended-claim.result.now.guest ≡ t.command.guest = ap (λ (d : Command). d.guest) claimed in
    call-post-nobody c.args.layout.now s c.args.lane c.args.tag t l found
    (ap (λ (n : ℕ). slice_get c.args.layout.now.guests n) (sym guest) ∙ c.in_default-guest.ensures)

pub outcome-requires-clause-ended : goal.outcome-requires-clause-ended
outcome-requires-clause-ended c =
    let s = c.args.self.now in
    let same : c.self.inside.lanes.items ≡ s.lanes = ap (λ (f : Side). f.lanes) c.self.view_is in
    let t : IsEndedHere s.lanes c.args.lane c.args.tag = ended-by s.lanes c.args.lane c.args.tag (slice_get s.lanes c.args.lane) refl (sym c.unended.ensures ∙ c.in_default.is) in
    let l = c.index-ring.result.now in
    let has : l ≡ get_or s.lanes c.from.result l = c.index-ring.ensures ∙ ap (λ (ls : List Lane). get_or ls c.from.result l) same in
    ended-is s.lanes c.args.lane c.args.tag t c.from.result l c.from.ensures has

pub outcome-requires-clause-led : goal.outcome-requires-clause-led
outcome-requires-clause-led c =
    let s = c.args.self.now in
    let same : c.self.inside.lanes.items ≡ s.lanes = ap (λ (f : Side). f.lanes) c.self.view_is in
    let t : IsEndedHere s.lanes c.args.lane c.args.tag = ended-by s.lanes c.args.lane c.args.tag (slice_get s.lanes c.args.lane) refl (sym c.unended.ensures ∙ c.in_default.is) in
    let l = c.index-ring.result.now in
    let has : l ≡ get_or s.lanes c.from.result l = c.index-ring.ensures ∙ ap (λ (ls : List Lane). get_or ls c.from.result l) same in
    ended-led s.lanes c.args.lane c.args.tag t c.from.result l c.from.ensures has

pub returns-in_default-outcome-clause-ending : goal.returns-in_default-outcome-clause-ending
returns-in_default-outcome-clause-ending c =
    let s = c.args.self.now in
    let same : c.self.inside.lanes.items ≡ s.lanes = ap (λ (f : Side). f.lanes) c.self.view_is in
    let t : IsEndedHere s.lanes c.args.lane c.args.tag = ended-by s.lanes c.args.lane c.args.tag (slice_get s.lanes c.args.lane) refl (sym c.unended.ensures ∙ c.in_default.is) in
    let l = c.index-ring.result.now in
    let has : l ≡ get_or s.lanes c.from.result l = c.index-ring.ensures ∙ ap (λ (ls : List Lane). get_or ls c.from.result l) same in
    let found : slice_get s.lanes c.args.lane ≡ Some l = ended-found s.lanes c.args.lane c.args.tag t c.from.result l c.from.ensures has in
    call-post-early c.args.layout.now s c.args.lane c.args.tag t l found (sym c.outcome.ensures ∙ c.in_default-outcome.is)

pub index-requires : goal.index-requires
index-requires c =
    let below = slice_get_within c.args.layout.now.guests c.ended-claim.result.now.guest c.in-Some-guest.given.now c.in-Some-guest.ensures in
    let many = c.requires.controllers in
    let same : length c.self.inside.controllers.items ≡ length c.args.self.now.controllers = ap (λ (f : Side). length f.controllers) c.self.view_is in
    let number = c.from-2.ensures in omega arith

pub returns-then-not-may_end-clause-ending : goal.returns-then-not-may_end-clause-ending
returns-then-not-may_end-clause-ending c =
    let s = c.args.self.now in
    let same : c.self.inside.lanes.items ≡ s.lanes = ap (λ (f : Side). f.lanes) c.self.view_is in
    let t : IsEndedHere s.lanes c.args.lane c.args.tag = ended-by s.lanes c.args.lane c.args.tag (slice_get s.lanes c.args.lane) refl (sym c.unended.ensures ∙ c.in_default.is) in
    let l = c.index-ring.result.now in
    let has : l ≡ get_or s.lanes c.from.result l = c.index-ring.ensures ∙ ap (λ (ls : List Lane). get_or ls c.from.result l) same in
    let found : slice_get s.lanes c.args.lane ≡ Some l = ended-found s.lanes c.args.lane c.args.tag t c.from.result l c.from.ensures has in
    let there = ended-there s.lanes c.args.lane c.args.tag t c.from.result l c.from.ensures has in
    let claimed = c.ended-claim.ensures t.command t.st t.share there in
    let guest : c.ended-claim.result.now.guest ≡ t.command.guest = ap (λ (d : Command). d.guest) claimed in
    let given : slice_get c.args.layout.now.guests t.command.guest ≡ Some c.in-Some-guest.given.now =
    ap (λ (n : ℕ). slice_get c.args.layout.now.guests n) (sym guest) ∙ c.in-Some-guest.ensures in
    let v = c.index.result.now in
    let has_v : slice_get s.controllers t.command.guest ≡ Some v =
    looked-up s.controllers t.command.guest c.from-2.result v (c.from-2.ensures ∙ guest)
    (let below = slice_get_within c.args.layout.now.guests t.command.guest c.in-Some-guest.given.now given in
    let many = c.requires.controllers in let at = c.from-2.ensures ∙ guest in omega arith)
    (c.index.ensures ∙ ap (λ (cs : List Controller). get_or cs c.from-2.result v) (ap (λ (f : Side). f.controllers) c.self.view_is)) in
    let decides : option_map deciding (statuses_in (group_in (Some l) c.args.tag) l) ≡ Some c.in-Some-outcome.status = sym c.outcome.ensures ∙ c.in-Some-outcome.is in
    let queue : c.ended-claim.result.now.queue ≡ t.command.queue = ap (λ (d : Command). d.queue) claimed in
    let entry : c.ended-claim.result.now.entry ≡ t.command.entry = ap (λ (d : Command). d.entry) claimed in
    call-post-held c.args.layout.now s c.args.lane c.args.tag t l found c.in-Some-guest.given.now v given has_v c.in-Some-outcome.status decides
    (ap (λ (q : ℕ). may_end q (cid_of t.command.entry) c.in-Some-outcome.status v) (sym queue)
    ∙ sym (c.may_end.ensures (cid_of t.command.entry) c.in-Some-outcome.status) ∙ c.if-not-may_end.true)

pub returns-clause-ending : goal.returns-clause-ending
returns-clause-ending c =
    let s = c.args.self.now in
    let same : c.self.inside.lanes.items ≡ s.lanes = ap (λ (f : Side). f.lanes) c.self.view_is in
    let t : IsEndedHere s.lanes c.args.lane c.args.tag = ended-by s.lanes c.args.lane c.args.tag (slice_get s.lanes c.args.lane) refl (sym c.unended.ensures ∙ c.in_default.is) in
    let l = c.index-ring.result.now in
    let has : l ≡ get_or s.lanes c.from.result l = c.index-ring.ensures ∙ ap (λ (ls : List Lane). get_or ls c.from.result l) same in
    let found : slice_get s.lanes c.args.lane ≡ Some l = ended-found s.lanes c.args.lane c.args.tag t c.from.result l c.from.ensures has in
    let there = ended-there s.lanes c.args.lane c.args.tag t c.from.result l c.from.ensures has in
    let claimed = c.ended-claim.ensures t.command t.st t.share there in
    let guest : c.ended-claim.result.now.guest ≡ t.command.guest = ap (λ (d : Command). d.guest) claimed in
    let given : slice_get c.args.layout.now.guests t.command.guest ≡ Some c.in-Some-guest.given.now =
    ap (λ (n : ℕ). slice_get c.args.layout.now.guests n) (sym guest) ∙ c.in-Some-guest.ensures in
    let v = c.index.result.now in
    let has_v : slice_get s.controllers t.command.guest ≡ Some v =
    looked-up s.controllers t.command.guest c.from-2.result v (c.from-2.ensures ∙ guest)
    (let below = slice_get_within c.args.layout.now.guests t.command.guest c.in-Some-guest.given.now given in
    let many = c.requires.controllers in let at = c.from-2.ensures ∙ guest in omega arith)
    (c.index.ensures ∙ ap (λ (cs : List Controller). get_or cs c.from-2.result v) (ap (λ (f : Side). f.controllers) c.self.view_is)) in
    let decides : option_map deciding (statuses_in (group_in (Some l) c.args.tag) l) ≡ Some c.in-Some-outcome.status = sym c.outcome.ensures ∙ c.in-Some-outcome.is in
    let queue : c.ended-claim.result.now.queue ≡ t.command.queue = ap (λ (d : Command). d.queue) claimed in
    let entry : c.ended-claim.result.now.entry ≡ t.command.entry = ap (λ (d : Command). d.entry) claimed in
    record {
      at = l;
      command = t.command;
      first = t.st;
      share = t.share;
      controller = v;
      found = found;
      there = there;
      led = t.led;
      guest_is = guest;
      queue_is = queue;
      cid_is = c.cid.ensures ∙ ap cid_of entry;
      has = has_v;
      decided = decides;
      room = sym (c.may_end.ensures c.cid.result c.in-Some-outcome.status) ∙ c.if-not-may_end.false;
      fits = completions-fit c.map.result.now v c.host_len-known.ensures.sound
          (subst (λ (k : Mapping). QueuesInPlace (mapped k.regions) v) (sym c.map.ensures)
          (c.requires.queues t.command.guest c.in-Some-guest.given.now v given has_v));
    }
