use Rattle.std.proofs.Common.{ℕ, refl, arith, sym, subst, ◌∙◌, slice_index_or}
use Rattle.nv_tags.specs.Tags.{Flying}
use Rattle.nv_tags.specs.declared.state.TagState.TheVariants as state
use Rattle.nv_tags.specs.Numbers.{ByGuest, ByQueue}
use Rattle.nv_tags.specs.Tags.{is_free_state}
use Rattle.nv_tags.specs.Kept.{IsWithout, is_ended_state, is_taken_state}
use Rattle.nv_tags.proofs.Groups.{AreKept-moved}
use Rattle.nv_tags.proofs.Marks.{mask-same, mask-without, unended-taken}
use Rattle.nv_tags.proofs.Owners.{numbered-point}
use Rattle.nv_tags.proofs.Slots.{busy-seen, taken-used, moved-seen, state-seen, there}
use Rattle.nv_tags.proofs.tags.Tags.fly.Goals as goal

pub listed : goal.listed
listed c =
    let below = there c.self.inside.states c.self.inside.claims c.self.inside.leaders c.self.inside.groups c.self.invariant.0 c.args.self.now c.self.view_is
    c.args.tag c.from.result c.from.ensures (taken-used c.args.self.now c.args.tag c.requires.taken) in
    let all = c.self.invariant.0.states_are in
    omega arith

pub bounds-self-inside-from : goal.bounds-self-inside-from
bounds-self-inside-from c =
    there c.self.inside.states c.self.inside.claims c.self.inside.leaders c.self.inside.groups c.self.invariant.0 c.args.self.now c.self.view_is
    c.args.tag c.from.result c.from.ensures (taken-used c.args.self.now c.args.tag c.requires.taken)

pub invariant_of-self : goal.invariant_of-self
invariant_of-self c =
    let below = there c.self.inside.states c.self.inside.claims c.self.inside.leaders c.self.inside.groups c.self.invariant.0 c.args.self.now c.self.view_is
    c.args.tag c.from.result c.from.ensures (taken-used c.args.self.now c.args.tag c.requires.taken) in
    let all = c.self.invariant.0.states_are in (
      AreKept-moved c.self.inside.states c.self.inside.claims c.self.inside.leaders c.self.inside.groups c.self.invariant.0 c.from.result
          (there c.self.inside.states c.self.inside.claims c.self.inside.leaders c.self.inside.groups c.self.invariant.0 c.args.self.now c.self.view_is
          c.args.tag c.from.result c.from.ensures (taken-used c.args.self.now c.args.tag c.requires.taken))
          state.Flying (busy-seen c.self.inside.states c.self.inside.claims c.self.inside.leaders c.self.inside.groups c.self.invariant.0 c.args.self.now c.self.view_is
          c.args.tag c.from.result c.from.ensures (taken-used c.args.self.now c.args.tag c.requires.taken)) refl,
      record {
        free_are = mask-same is_free_state c.self.inside.states c.self.inside.free c.from.result state.Flying c.self.invariant.1.free_are (omega (arith, below, all)) refl
            (busy-seen c.self.inside.states c.self.inside.claims c.self.inside.leaders c.self.inside.groups c.self.invariant.0 c.args.self.now c.self.view_is
            c.args.tag c.from.result c.from.ensures (taken-used c.args.self.now c.args.tag c.requires.taken));
        taken_are = mask-without is_taken_state c.self.inside.states c.self.inside.taken c.from.result state.Flying c.self.invariant.1.taken_are (omega (arith, below, all))
            c.without-self-inside.result refl (subst (λ (n : ℕ). IsWithout c.self.inside.taken n c.without-self-inside.result) (sym c.from.ensures) c.without-self-inside.ensures);
        ended_are = mask-same is_ended_state c.self.inside.states c.self.inside.ended c.from.result state.Flying c.self.invariant.1.ended_are (omega (arith, below, all)) refl
            (unended-taken (slice_index_or c.self.inside.states c.from.result state.Free)
            (state-seen c.self.inside.states c.self.inside.claims c.self.inside.leaders c.self.inside.groups c.self.invariant.0 c.args.self.now c.self.view_is c.args.tag c.from.result c.from.ensures state.Free below ∙ c.requires.taken));
      },
      numbered-point ByGuest c.self.inside.states c.self.inside.claims c.self.inside.leaders c.self.inside.groups c.self.invariant.0
          c.self.inside.owned c.self.inside.owned c.self.invariant.2 c.from.result below c.args.self.now c.args.tag c.self.view_is c.from.ensures Flying state.Flying
          (moved-seen c.self.inside.states c.self.inside.claims c.self.inside.leaders c.self.inside.groups c.self.invariant.0 c.args.self.now c.self.view_is
          c.args.tag c.from.result c.from.ensures Flying state.Flying (λ command. refl) (taken-used c.args.self.now c.args.tag c.requires.taken)),
      numbered-point ByQueue c.self.inside.states c.self.inside.claims c.self.inside.leaders c.self.inside.groups c.self.invariant.0
          c.self.inside.queued c.self.inside.queued c.self.invariant.3 c.from.result below c.args.self.now c.args.tag c.self.view_is c.from.ensures Flying state.Flying
          (moved-seen c.self.inside.states c.self.inside.claims c.self.inside.leaders c.self.inside.groups c.self.invariant.0 c.args.self.now c.self.view_is
          c.args.tag c.from.result c.from.ensures Flying state.Flying (λ command. refl) (taken-used c.args.self.now c.args.tag c.requires.taken)),
    )

pub without-self-inside-requires : goal.without-self-inside-requires
without-self-inside-requires c =
    let below = there c.self.inside.states c.self.inside.claims c.self.inside.leaders c.self.inside.groups c.self.invariant.0 c.args.self.now c.self.view_is
    c.args.tag c.from.result c.from.ensures (taken-used c.args.self.now c.args.tag c.requires.taken) in
    let same = c.from.ensures in
    omega (arith, below, same)

pub returns : goal.returns
returns c =
    moved-seen c.self.inside.states c.self.inside.claims c.self.inside.leaders c.self.inside.groups c.self.invariant.0 c.args.self.now c.self.view_is
    c.args.tag c.from.result c.from.ensures
    Flying state.Flying (λ command. refl) (taken-used c.args.self.now c.args.tag c.requires.taken)
