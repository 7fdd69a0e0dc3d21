use Rattle.std.proofs.Common.{◌≡◌, ℕ, ap, refl, slice_index, slice_index_or, subst, sym, ◌∙◌, arith}
use Rattle.nv_tags.specs.Kept.{AreWithout, IsWith, IsWithout, is_ended_state, is_taken_state}
use Rattle.nv_tags.specs.Numbers.{ByGuest, ByQueue}
use Rattle.nv_tags.specs.Tags.{is_free_state}
use Rattle.nv_tags.specs.declared.state.TagState.TheVariants as state
use Rattle.nv_tags.proofs.Marks.{mask-with, mask-without}
use Rattle.nv_tags.proofs.Groups.{AreKept-released}
use Rattle.nv_tags.proofs.Owners.{numbered-free}
use Rattle.nv_tags.proofs.Slots.{inside, released-seen, there}
use Rattle.nv_tags.proofs.tags.Tags.release.Goals as goal

pub bounds-self-inside-from : goal.bounds-self-inside-from
bounds-self-inside-from c =
    there c.self.inside.states c.self.inside.claims c.self.inside.leaders c.self.inside.groups c.self.invariant.0 c.args.self.now c.self.view_is
    c.args.tag c.from.result c.from.ensures c.requires.used

pub without-requires : goal.without-requires
without-requires c =
    let below = there c.self.inside.states c.self.inside.claims c.self.inside.leaders c.self.inside.groups c.self.invariant.0 c.args.self.now c.self.view_is
    c.args.tag c.from.result c.from.ensures c.requires.used in
    let same = c.from.ensures in
    omega arith

pub listed : goal.listed
listed c =
    let below = there c.self.inside.states c.self.inside.claims c.self.inside.leaders c.self.inside.groups c.self.invariant.0 c.args.self.now c.self.view_is
    c.args.tag c.from-2.result c.from-2.ensures c.requires.used in
    let all = c.self.invariant.0.states_are in
    omega arith

pub bounds-self-inside-from-2 : goal.bounds-self-inside-from-2
bounds-self-inside-from-2 c =
    there c.self.inside.states c.self.inside.claims c.self.inside.leaders c.self.inside.groups c.self.invariant.0 c.args.self.now c.self.view_is
    c.args.tag c.from-2.result c.from-2.ensures c.requires.used

pub invariant_of-self : goal.invariant_of-self
invariant_of-self c =
    let same : c.from-2.result ≡ c.from.result = c.from-2.ensures ∙ sym c.from.ensures in
    let below = there c.self.inside.states c.self.inside.claims c.self.inside.leaders c.self.inside.groups c.self.invariant.0 c.args.self.now c.self.view_is
    c.args.tag c.from-2.result c.from-2.ensures c.requires.used in
    let all = c.self.invariant.0.states_are in (
      AreKept-released c.self.inside.states c.self.inside.claims c.self.inside.leaders c.self.inside.groups c.self.invariant.0 c.from-2.result below
          c.from-leader.result c.without.result (c.from-leader.ensures ∙ ap (slice_index c.self.inside.leaders) (sym same))
          (subst (λ (n : ℕ). IsWithout (slice_index c.self.inside.groups c.from-leader.result) n c.without.result) (sym c.from-2.ensures) c.without.ensures),
      record {
        free_are = mask-with is_free_state c.self.inside.states c.self.inside.free c.from-2.result state.Free c.self.invariant.1.free_are (omega (arith, below, all))
            c.with-self-inside.result refl
            (subst (λ (n : ℕ). IsWith c.self.inside.free n c.with-self-inside.result) (sym c.from-2.ensures) c.with-self-inside.ensures);
        taken_are = mask-without is_taken_state c.self.inside.states c.self.inside.taken c.from-2.result state.Free c.self.invariant.1.taken_are (omega (arith, below, all))
            c.without-self-inside.result refl
            (subst (λ (n : ℕ). IsWithout c.self.inside.taken n c.without-self-inside.result) (sym c.from-2.ensures) c.without-self-inside.ensures);
        ended_are = mask-without is_ended_state c.self.inside.states c.self.inside.ended c.from-2.result state.Free c.self.invariant.1.ended_are (omega (arith, below, all))
            c.without-self-inside-2.result refl
            (subst (λ (n : ℕ). IsWithout c.self.inside.ended n c.without-self-inside-2.result) (sym c.from-2.ensures) c.without-self-inside-2.ensures);
      },
      numbered-free ByGuest c.self.inside.states c.self.inside.claims c.self.inside.leaders c.self.inside.groups c.self.invariant.0 c.self.inside.owned
          c.disown.new.masks c.self.invariant.2 c.from-2.result below _ c.index-self-from-2.result
          (inside c.self.inside.states c.self.inside.claims c.self.inside.leaders c.self.inside.groups c.self.invariant.0 c.args.self.now c.self.view_is c.args.tag c.from-2.result c.from-2.ensures c.requires.used)
          c.disown.ensures.size
          (c.from-guest.ensures
          ∙ ap (λ (n : ℕ). (slice_index_or c.self.inside.claims n c.index-self-from-2.result).guest) (c.from-3.ensures ∙ sym c.from-2.ensures))
          (subst (λ (n : ℕ). AreWithout c.self.inside.owned c.from-guest.result n c.disown.new.masks) (sym c.from-2.ensures) c.disown.ensures.bits),
      numbered-free ByQueue c.self.inside.states c.self.inside.claims c.self.inside.leaders c.self.inside.groups c.self.invariant.0 c.self.inside.queued
          c.disown-2.new.masks c.self.invariant.3 c.from-2.result below _ c.index-self-from-2.result
          (inside c.self.inside.states c.self.inside.claims c.self.inside.leaders c.self.inside.groups c.self.invariant.0 c.args.self.now c.self.view_is c.args.tag c.from-2.result c.from-2.ensures c.requires.used)
          c.disown-2.ensures.size
          (ap (λ (n : ℕ). (slice_index_or c.self.inside.claims n c.index-self-from-2.result).queue) (c.from-3.ensures ∙ sym c.from-2.ensures))
          (subst (λ (n : ℕ).
          AreWithout c.self.inside.queued (slice_index_or c.self.inside.claims c.from-3.result c.index-self-from-2.result).queue n c.disown-2.new.masks) (sym c.from-2.ensures) c.disown-2.ensures.bits),
    )

pub without-self-inside-requires : goal.without-self-inside-requires
without-self-inside-requires c =
    let below = there c.self.inside.states c.self.inside.claims c.self.inside.leaders c.self.inside.groups c.self.invariant.0 c.args.self.now c.self.view_is
    c.args.tag c.from-2.result c.from-2.ensures c.requires.used in
    let same = c.from-2.ensures in
    omega (arith, below, same)

pub without-self-inside-requires-2 : goal.without-self-inside-requires-2
without-self-inside-requires-2 c =
    let below = there c.self.inside.states c.self.inside.claims c.self.inside.leaders c.self.inside.groups c.self.invariant.0 c.args.self.now c.self.view_is
    c.args.tag c.from-2.result c.from-2.ensures c.requires.used in
    let same = c.from-2.ensures in
    omega (arith, below, same)

pub returns : goal.returns
returns c = released-seen c.self.inside.states c.self.inside.claims c.self.inside.leaders c.self.inside.groups c.self.invariant.0 c.args.self.now c.self.view_is
    c.args.tag c.from-2.result c.from-2.ensures

pub listed-2 : goal.listed-2
listed-2 c =
    let below = there c.self.inside.states c.self.inside.claims c.self.inside.leaders c.self.inside.groups c.self.invariant.0 c.args.self.now c.self.view_is
    c.args.tag c.from-3.result c.from-3.ensures c.requires.used in
    let all = c.self.invariant.0.claims_are in
    omega arith

pub bounds-self-inside-from-3 : goal.bounds-self-inside-from-3
bounds-self-inside-from-3 c =
    there c.self.inside.states c.self.inside.claims c.self.inside.leaders c.self.inside.groups c.self.invariant.0 c.args.self.now c.self.view_is
    c.args.tag c.from-3.result c.from-3.ensures c.requires.used

pub disown-requires : goal.disown-requires
disown-requires c =
    let below = there c.self.inside.states c.self.inside.claims c.self.inside.leaders c.self.inside.groups c.self.invariant.0 c.args.self.now c.self.view_is
    c.args.tag c.from-3.result c.from-3.ensures c.requires.used in
    let same = c.from-3.ensures in
    omega (arith, below, same)

pub with-self-inside-requires : goal.with-self-inside-requires
with-self-inside-requires c =
    let below = there c.self.inside.states c.self.inside.claims c.self.inside.leaders c.self.inside.groups c.self.invariant.0 c.args.self.now c.self.view_is
    c.args.tag c.from-2.result c.from-2.ensures c.requires.used in
    let same = c.from-2.ensures in
    omega (arith, below, same)

pub disown-requires-2 : goal.disown-requires-2
disown-requires-2 c =
    let below = there c.self.inside.states c.self.inside.claims c.self.inside.leaders c.self.inside.groups c.self.invariant.0 c.args.self.now c.self.view_is
    c.args.tag c.from-3.result c.from-3.ensures c.requires.used in
    let same = c.from-3.ensures in
    omega (arith, below, same)
