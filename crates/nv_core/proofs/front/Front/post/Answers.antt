use Rattle.std.proofs.Common.{◌∙◌, ◌<◌, ◌^◌, ◌≡◌, ℕ, Option, Some, IfSome, length, get_or, slice_get, true, arith, ap, sym, subst}
use Rattle.std.proofs.lemmas.Option.{slice_get_within}
use Rattle.nv_core.proofs.Endings.{counted-with, ending-counted}
use Rattle.nv_core.proofs.GroupWorlds.{looked-up}
use Rattle.nv_core.proofs.PostSteps.{answered-step}
use Rattle.nv_core.proofs.Posts.{ending-mapped, ending-parts, ending-placed, ending-step}
use Rattle.nv_core.specs.Completing.{completion_stored}
use Rattle.nv_core.specs.Ending.{AreParts, delivered_host}
use Rattle.nv_core.specs.Front.{IsSideStep}
use Rattle.nv_core.specs.declared.completing.Completion.{Completion}
use Rattle.nv_laws_sound.proofs.Lists.{some-same}
use Rattle.nv_laws_sound.specs.Side.{Side}
use Rattle.nv_mem.specs.GuestMap.{Mapping, everywhere, mapped}
use Rattle.nv_model.specs.Memory.{byte_in}
use Rattle.nv_model.specs.declared.reply.Reply.TheVariants as reply
use Rattle.nv_world_model.specs.World.{Command, Ended, Lane, group_in}
use Rattle.nv_world_model.specs.declared.event.Event.TheVariants as event
use Rattle.nv_core.proofs.front.Front.post.Goals as goal

pub returns-in-Err-clause-step : goal.returns-in-Err-clause-step
returns-in-Err-clause-step g c =
    answered-step c.args.layout.now c.args.lane c.args.tag c.args.self.now (g.C.MemoryCell.bytes c.args.host.now) c.in-Err.reply c.in-Err.ensures.ending

pub index-ring-requires : goal.index-ring-requires
index-ring-requires g c =
    let below = slice_get_within c.args.self.now.lanes c.args.lane c.in-Ok.ensures.ending.at c.in-Ok.ensures.ending.found in
    let many : length c.self.inside.lanes.items ≡ length c.args.self.now.lanes = ap (λ (f : Side). length f.lanes) c.self.view_is in
    let at = c.from.ensures in omega arith

pub deliver-requires-clause-placed : goal.deliver-requires-clause-placed
deliver-requires-clause-placed g c =
    let e = c.in-Ok.ending in
    let is = c.in-Ok.ensures.ending in
    let s = c.args.self.now in
    let fits : length (g.C.MemoryCell.bytes c.args.host.now) < 2 ^ 64 = (let size = c.len-known.ensures in let few = c.len-known.type_inv in omega (arith, size, few)) in
    ending-placed c.args.layout.now s c.args.lane c.args.tag e is c.in-Some.given.now c.in-Some.ensures
    (length (g.C.MemoryCell.bytes c.args.host.now)) c.mediator.result c.requires.lent.laid_out c.mediator.ensures fits c.requires.lent.kept

pub deliver-requires-clause-ended : goal.deliver-requires-clause-ended
deliver-requires-clause-ended g c =
    let e = c.in-Ok.ending in
    let is = c.in-Ok.ensures.ending in
    let s = c.args.self.now in
    let l = c.index-ring.result.now in
    let found : slice_get s.lanes c.args.lane ≡ Some l =
    looked-up s.lanes c.args.lane c.from.result l c.from.ensures
    (let below = slice_get_within s.lanes c.args.lane is.at is.found in let at = c.from.ensures in omega arith)
    (c.index-ring.ensures ∙ ap (λ (f : Side). get_or f.lanes c.from.result l) c.self.view_is) in
    let one : l ≡ is.at = some-same l is.at (sym found ∙ is.found) in
    record {
      command = is.command;
      status = is.first;
      share = is.share;
      is = ap (λ (x : Lane). slice_get x.tags c.args.tag) one ∙ is.there;
    }

pub deliver-requires-clause-led : goal.deliver-requires-clause-led
deliver-requires-clause-led g c = λ command st share there.
    let e = c.in-Ok.ending in
    let is = c.in-Ok.ensures.ending in
    let s = c.args.self.now in
    let l = c.index-ring.result.now in
    let found : slice_get s.lanes c.args.lane ≡ Some l =
    looked-up s.lanes c.args.lane c.from.result l c.from.ensures
    (let below = slice_get_within s.lanes c.args.lane is.at is.found in let at = c.from.ensures in omega arith)
    (c.index-ring.ensures ∙ ap (λ (f : Side). get_or f.lanes c.from.result l) c.self.view_is) in
    let one : l ≡ is.at = some-same l is.at (sym found ∙ is.found) in
    let both = some-same (Ended is.command is.first is.share) (Ended command st share) (sym is.there ∙ ap (λ (x : Lane). slice_get x.tags c.args.tag) (sym one) ∙ there) in
    let same : is.command ≡ command = cc in
    ap (λ (d : Command). d.leader) (sym same) ∙ is.led

pub deliver-requires-clause-parts : goal.deliver-requires-clause-parts
deliver-requires-clause-parts g c = λ command st share there went.
    let e = c.in-Ok.ending in
    let is = c.in-Ok.ensures.ending in
    let s = c.args.self.now in
    let l = c.index-ring.result.now in
    let found : slice_get s.lanes c.args.lane ≡ Some l =
    looked-up s.lanes c.args.lane c.from.result l c.from.ensures
    (let below = slice_get_within s.lanes c.args.lane is.at is.found in let at = c.from.ensures in omega arith)
    (c.index-ring.ensures ∙ ap (λ (f : Side). get_or f.lanes c.from.result l) c.self.view_is) in
    let one : l ≡ is.at = some-same l is.at (sym found ∙ is.found) in
    let m = length (g.C.MemoryCell.bytes c.args.host.now) in
    let both = some-same (Ended is.command is.first is.share) (Ended command st share) (sym is.there ∙ ap (λ (x : Lane). slice_get x.tags c.args.tag) (sym one) ∙ there) in
    let same : is.command ≡ command = cc in
    subst (λ (k : Mapping). AreParts command.entry c.mediator.result c.args.lane c.args.tag l m k.regions) (sym c.map-map.ensures)
    (subst (λ (a : ℕ). AreParts command.entry a c.args.lane c.args.tag l m c.in-Some.given.now.memory_map.regions) (sym c.mediator.ensures)
    (subst (λ (x : Lane). AreParts command.entry c.args.layout.now.mediator c.args.lane c.args.tag x m c.in-Some.given.now.memory_map.regions) (sym one)
    (subst (λ (d : Command). AreParts d.entry c.args.layout.now.mediator c.args.lane c.args.tag is.at m c.in-Some.given.now.memory_map.regions) same
    (ending-parts c.args.layout.now s c.args.lane c.args.tag e is c.in-Some.given.now c.in-Some.ensures m c.requires.lent.laid_out c.requires.lent.kept went))))

pub deliver-requires-clause-host : goal.deliver-requires-clause-host
deliver-requires-clause-host g c =
    ap (λ (k : Mapping). k.host_len) c.map-map.ensures ∙ (c.requires.lent.laid_out.given c.in-Ok.ending.guest c.in-Some.given.now c.in-Some.ensures).host

pub finish-completion-requires-clause-counted : goal.finish-completion-requires-clause-counted
finish-completion-requires-clause-counted g c =
    let e = c.in-Ok.ending in
    let is = c.in-Ok.ensures.ending in
    let s = c.args.self.now in
    ending-counted c.args.layout.now s c.args.lane c.args.tag e is c.in-Some.given.now c.in-Some.ensures c.requires.lent.kept
    (counted-with c.args.layout.now s (g.C.MemoryCell.bytes c.args.host.now) c.requires.counted)

pub store-requires-clause-host : goal.store-requires-clause-host
store-requires-clause-host g c =
    ap (λ (k : Mapping). k.host_len) c.map-map.ensures ∙ (c.requires.lent.laid_out.given c.in-Ok.ending.guest c.in-Some.given.now c.in-Some.ensures).host
    ∙ sym c.deliver.ensures.len

pub store-requires-clause-mapped : goal.store-requires-clause-mapped
store-requires-clause-mapped g c =
    let e = c.in-Ok.ending in
    let is = c.in-Ok.ensures.ending in
    let s = c.args.self.now in
    subst (λ (k : Mapping). IfSome c.finish-completion.result (λ x. everywhere (mapped k.regions) x.posting.addr (length x.posting.entry) ≡ true)) (sym c.map-map.ensures)
    (ending-mapped c.args.layout.now s c.args.lane c.args.tag e is c.in-Some.given.now c.in-Some.ensures c.finish-completion.result c.requires.lent.kept
    (c.finish-completion.ensures.completion is))

pub returns-clause-step : goal.returns-clause-step
returns-clause-step g c =
    let e = c.in-Ok.ending in
    let is = c.in-Ok.ensures.ending in
    let s = c.args.self.now in
    let l = c.index-ring.result.now in
    let found : slice_get s.lanes c.args.lane ≡ Some l =
    looked-up s.lanes c.args.lane c.from.result l c.from.ensures
    (let below = slice_get_within s.lanes c.args.lane is.at is.found in let at = c.from.ensures in omega arith)
    (c.index-ring.ensures ∙ ap (λ (f : Side). get_or f.lanes c.from.result l) c.self.view_is) in
    let one : l ≡ is.at = some-same l is.at (sym found ∙ is.found) in
    let before = g.C.MemoryCell.bytes c.args.host.now in
    let after = g.C.MemoryCell.bytes c.store.new.host in
    let regions = c.in-Some.given.now.memory_map.regions in
    subst (λ (n : Side). IsSideStep c.args.layout.now (event.Post c.args.lane c.args.tag) s before reply.Done n after) (sym (c.finish-completion.ensures.side is))
    (ending-step c.args.layout.now s c.args.lane c.args.tag e is c.in-Some.given.now c.in-Some.ensures before after
    (c.store.ensures.bytes
    ∙ ap (completion_stored c.finish-completion.result c.map-map.result.now.regions) c.deliver.ensures.bytes
    ∙ ap (λ (k : Mapping). completion_stored c.finish-completion.result k.regions
    (delivered_host e.status c.mediator.result c.args.lane (group_in (Some l) c.args.tag) l k.regions (byte_in before))) c.map-map.ensures
    ∙ ap (λ (a : ℕ). completion_stored c.finish-completion.result regions
    (delivered_host e.status a c.args.lane (group_in (Some l) c.args.tag) l regions (byte_in before))) c.mediator.ensures
    ∙ ap (λ (x : Lane). completion_stored c.finish-completion.result regions
    (delivered_host e.status c.args.layout.now.mediator c.args.lane (group_in (Some x) c.args.tag) x regions (byte_in before))) one
    ∙ ap (λ (o : Option Completion). completion_stored o regions
    (delivered_host e.status c.args.layout.now.mediator c.args.lane (group_in (Some is.at) c.args.tag) is.at regions (byte_in before)))
    (c.finish-completion.ensures.completion is)))
