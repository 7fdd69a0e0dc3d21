use Rattle.std.proofs.Common.{◌≡◌, ◌∙◌, ap, sym, subst, List, [], ◌∷◌, ◌++◌, ℕ, Some, length, slice_get, append_assoc}
use Rattle.nv_mem.specs.GuestMap.{IsSound}
use Rattle.nv_mediator.proofs.Starts.{holds-more, there-behind}
use Rattle.nv_world_model.specs.Geometry.{Guest}
use Rattle.nv_mediator.proofs.opening.all_given.Goals as goal

pub loop-guest-preserved : goal.loop-guest-preserved
loop-guest-preserved c =
    let given : List Guest = c.loop-guest.given.items in
    let rest : List Guest = c.next.new.self.rest.items in
    let more : c.push.new.self.items ≡ given ++ c.in-Some.guest ∷ [] = c.in_ok-push.ensures.items ∙ ap (λ (g : Guest). given ++ g ∷ []) c.given_of.ensures.value in
    record {
      all = c.loop-guest.invariant.all ∙ ap (λ (r : List Guest). given ++ r) c.in-Some.ensures.steps.0
          ∙ sym (append_assoc given (c.in-Some.guest ∷ []) rest) ∙ ap (λ (g : List Guest). g ++ rest) (sym more);
      sound = subst (λ (g : List Guest). (i : ℕ) (x : Guest) → slice_get g i ≡ Some x → IsSound x.memory_map) (sym c.in_ok-push.ensures.items)
          (holds-more (λ (g : Guest). IsSound g.memory_map) given c.given_of.result c.loop-guest.invariant.sound c.given_of.ensures.sound);
    }

pub given_of-requires : goal.given_of-requires
given_of-requires c =
    c.requires (length c.loop-guest.given.items) c.in-Some.guest
    (there-behind c.args.guests.items c.loop-guest.given.items c.loop-guest.guest-iterator.rest.items c.next.new.self.rest.items c.in-Some.guest
    c.loop-guest.invariant.all c.in-Some.ensures.steps.0)
