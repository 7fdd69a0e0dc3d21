use Rattle.std.proofs.Common.{◌≡◌, ◌∙◌, ℕ, Some, get_or, length, set, slice_get, arith, sym, ap, subst}
use Rattle.std.proofs.lemmas.Option.{slice_get_within}
use Rattle.nv_core.proofs.GroupWorlds.{looked-up}
use Rattle.nv_core.proofs.Notes.{noted-set}
use Rattle.nv_core.specs.Completing.{completion_for, ended_controller, ended_posting}
use Rattle.nv_core.specs.Groups.{tags_changed}
use Rattle.nv_core.specs.Noted.{AreNoted}
use Rattle.nv_laws_sound.proofs.Lists.{some-same}
use Rattle.nv_laws_sound.specs.Side.{Side}
use Rattle.nv_model.specs.Controller.{Controller}
use Rattle.nv_vctl.specs.Vctl.{CompletionsFit}
use Rattle.nv_world_model.specs.World.{Command, Ended, Free, Lane, group_in}
use Rattle.nv_core.proofs.front.Front.finish.Goals as goal

pub settle-completion-requires-clause-queue : goal.settle-completion-requires-clause-queue
settle-completion-requires-clause-queue c =
    let e = c.requires.ending in
    let s = c.args.self.now in
    let v = c.index_mut.result.now in
    let has : slice_get s.controllers c.args.ending.guest ≡ Some e.controller = ap (λ (n : ℕ). slice_get s.controllers n) e.guest_is ∙ e.has in
    let many : length c.self.inside.controllers.items ≡ length s.controllers = ap (λ (f : Side). length f.controllers) c.self.view_is in
    let has_v : slice_get s.controllers c.args.ending.guest ≡ Some v =
    looked-up s.controllers c.args.ending.guest c.from.result v c.from.ensures
    (let below = slice_get_within s.controllers c.args.ending.guest e.controller has in let at = c.from.ensures in omega arith)
    (c.index_mut.ensures.value ∙ ap (λ (f : Side). get_or f.controllers c.from.result v) c.self.view_is) in
    (c.requires.counted v has_v).0

pub settle-completion-requires-clause-taken : goal.settle-completion-requires-clause-taken
settle-completion-requires-clause-taken c =
    let e = c.requires.ending in
    let s = c.args.self.now in
    let v = c.index_mut.result.now in
    let has : slice_get s.controllers c.args.ending.guest ≡ Some e.controller = ap (λ (n : ℕ). slice_get s.controllers n) e.guest_is ∙ e.has in
    let many : length c.self.inside.controllers.items ≡ length s.controllers = ap (λ (f : Side). length f.controllers) c.self.view_is in
    let has_v : slice_get s.controllers c.args.ending.guest ≡ Some v =
    looked-up s.controllers c.args.ending.guest c.from.result v c.from.ensures
    (let below = slice_get_within s.controllers c.args.ending.guest e.controller has in let at = c.from.ensures in omega arith)
    (c.index_mut.ensures.value ∙ ap (λ (f : Side). get_or f.controllers c.from.result v) c.self.view_is) in
    (c.requires.counted v has_v).1

pub settle-completion-requires-clause-fits : goal.settle-completion-requires-clause-fits
settle-completion-requires-clause-fits c =
    let e = c.requires.ending in
    let s = c.args.self.now in
    let v = c.index_mut.result.now in
    let has : slice_get s.controllers c.args.ending.guest ≡ Some e.controller = ap (λ (n : ℕ). slice_get s.controllers n) e.guest_is ∙ e.has in
    let many : length c.self.inside.controllers.items ≡ length s.controllers = ap (λ (f : Side). length f.controllers) c.self.view_is in
    let has_v : slice_get s.controllers c.args.ending.guest ≡ Some v =
    looked-up s.controllers c.args.ending.guest c.from.result v c.from.ensures
    (let below = slice_get_within s.controllers c.args.ending.guest e.controller has in let at = c.from.ensures in omega arith)
    (c.index_mut.ensures.value ∙ ap (λ (f : Side). get_or f.controllers c.from.result v) c.self.view_is) in
    subst CompletionsFit (some-same e.controller v (sym has ∙ has_v)) e.fits

pub index_mut-requires-2 : goal.index_mut-requires-2
index_mut-requires-2 c =
    let below = slice_get_within c.args.self.now.lanes c.args.lane c.requires.ending.at c.requires.ending.found in
    let many : length c.self.inside.lanes.items ≡ length c.args.self.now.lanes = ap (λ (f : Side). length f.lanes) c.self.view_is in
    let at = c.from-2.ensures in omega arith

pub release-requires-clause-ended : goal.release-requires-clause-ended
release-requires-clause-ended c =
    let e = c.requires.ending in
    let s = c.args.self.now in
    let l = c.index_mut-2.result.now in
    let found : slice_get s.lanes c.args.lane ≡ Some l =
    looked-up s.lanes c.args.lane c.from-2.result l c.from-2.ensures
    (let below = slice_get_within s.lanes c.args.lane e.at e.found in let at = c.from-2.ensures in omega arith)
    (c.index_mut-2.ensures.value ∙ ap (λ (f : Side). get_or f.lanes c.from-2.result l) c.self.view_is) in
    record {
      command = e.command;
      status = e.first;
      share = e.share;
      is = ap (λ (x : Lane). slice_get x.tags c.args.tag) (some-same l e.at (sym found ∙ e.found)) ∙ e.there;
    }

pub release-requires-clause-led : goal.release-requires-clause-led
release-requires-clause-led c = λ command st share is.
    let e = c.requires.ending in
    let s = c.args.self.now in
    let l = c.index_mut-2.result.now in
    let found : slice_get s.lanes c.args.lane ≡ Some l =
    looked-up s.lanes c.args.lane c.from-2.result l c.from-2.ensures
    (let below = slice_get_within s.lanes c.args.lane e.at e.found in let at = c.from-2.ensures in omega arith)
    (c.index_mut-2.ensures.value ∙ ap (λ (f : Side). get_or f.lanes c.from-2.result l) c.self.view_is) in
    let one = some-same (Ended e.command e.first e.share) (Ended command st share)
    (sym e.there ∙ ap (λ (x : Lane). slice_get x.tags c.args.tag) (some-same e.at l (sym e.found ∙ found)) ∙ is) in
    let same : e.command ≡ command = cc in
    ap (λ (d : Command). d.leader) (sym same) ∙ e.led

pub invariant_of-self : goal.invariant_of-self
invariant_of-self c =
    subst (λ (k : ℕ). AreNoted (set c.self.inside.controllers.items k c.settle-completion.new.vctl) c.noted-self-inside.result) (sym c.from.ensures)
    (noted-set c.self.inside.controllers.items c.self.inside.noted c.args.ending.guest c.noted-self-inside.result c.settle-completion.new.vctl c.self.invariant
    c.noted-self-inside.ensures)

pub returns-clause-side : goal.returns-clause-side
returns-clause-side c = λ e.
    let s = c.args.self.now in
    let v = c.index_mut.result.now in
    let has : slice_get s.controllers c.args.ending.guest ≡ Some e.controller = ap (λ (n : ℕ). slice_get s.controllers n) e.guest_is ∙ e.has in
    let has_v : slice_get s.controllers c.args.ending.guest ≡ Some v =
    looked-up s.controllers c.args.ending.guest c.from.result v c.from.ensures
    (let below = slice_get_within s.controllers c.args.ending.guest e.controller has in let at = c.from.ensures in omega arith)
    (c.index_mut.ensures.value ∙ ap (λ (f : Side). get_or f.controllers c.from.result v) c.self.view_is) in
    let l = c.index_mut-2.result.now in
    let found : slice_get s.lanes c.args.lane ≡ Some l =
    looked-up s.lanes c.args.lane c.from-2.result l c.from-2.ensures
    (let below = slice_get_within s.lanes c.args.lane e.at e.found in let at = c.from-2.ensures in omega arith)
    (c.index_mut-2.ensures.value ∙ ap (λ (f : Side). get_or f.lanes c.from-2.result l) c.self.view_is) in
    let behind : c.settle-completion.new.vctl ≡ ended_controller c.args.ending.queue c.args.ending.cid c.args.ending.status e.controller =
    c.settle-completion.ensures.controller
    ∙ ap (λ (k : Controller). ended_controller c.args.ending.queue c.args.ending.cid c.args.ending.status k) (some-same v e.controller (sym has_v ∙ has)) in
    let freed : c.release.new.self ≡ tags_changed (group_in (Some e.at) c.args.tag) Free e.at =
    c.release.ensures ∙ ap (λ (x : Lane). tags_changed (group_in (Some x) c.args.tag) Free x) (some-same l e.at (sym found ∙ e.found)) in
    ap (λ (f : Side). let n : Side = record {
      lanes = set f.lanes c.from-2.result c.release.new.self;
      tails = f.tails;
      controllers = set f.controllers c.from.result c.settle-completion.new.vctl;
    } in n) c.self.view_is
    ∙ ap (λ (i : ℕ). let n : Side = record s { lanes = set s.lanes i c.release.new.self; controllers = set s.controllers c.from.result c.settle-completion.new.vctl } in n)
    c.from-2.ensures
    ∙ ap (λ (x : Lane). let n : Side = record s { lanes = set s.lanes c.args.lane x; controllers = set s.controllers c.from.result c.settle-completion.new.vctl } in n) freed
    ∙ ap (λ (i : ℕ). let n : Side = record s {
      lanes = set s.lanes c.args.lane (tags_changed (group_in (Some e.at) c.args.tag) Free e.at);
      controllers = set s.controllers i c.settle-completion.new.vctl;
    } in n) c.from.ensures
    ∙ ap (λ (k : Controller). let n : Side = record s {
      lanes = set s.lanes c.args.lane (tags_changed (group_in (Some e.at) c.args.tag) Free e.at);
      controllers = set s.controllers c.args.ending.guest k;
    } in n) behind

pub returns-clause-completion : goal.returns-clause-completion
returns-clause-completion c = λ e.
    let s = c.args.self.now in
    let v = c.index_mut.result.now in
    let has : slice_get s.controllers c.args.ending.guest ≡ Some e.controller = ap (λ (n : ℕ). slice_get s.controllers n) e.guest_is ∙ e.has in
    let has_v : slice_get s.controllers c.args.ending.guest ≡ Some v =
    looked-up s.controllers c.args.ending.guest c.from.result v c.from.ensures
    (let below = slice_get_within s.controllers c.args.ending.guest e.controller has in let at = c.from.ensures in omega arith)
    (c.index_mut.ensures.value ∙ ap (λ (f : Side). get_or f.controllers c.from.result v) c.self.view_is) in
    c.settle-completion.ensures.completion
    ∙ ap (λ (k : Controller). completion_for c.args.ending.guest (ended_posting c.args.ending.queue c.args.ending.cid c.args.ending.status k))
    (some-same v e.controller (sym has_v ∙ has))
