use Rattle.std.proofs.Common.{ℕ, refl, arith, sym, subst}
use Rattle.nv_tags.specs.Tags.{Ended}
use Rattle.nv_tags.specs.declared.state.TagState.TheVariants as state
use Rattle.nv_tags.specs.Numbers.{ByGuest, ByQueue}
use Rattle.nv_tags.specs.Tags.{is_free_state}
use Rattle.nv_tags.specs.Kept.{IsWith, IsWithout, is_ended_state, is_taken_state}
use Rattle.nv_tags.proofs.Groups.{AreKept-moved}
use Rattle.nv_tags.proofs.Marks.{mask-same, mask-with, mask-without}
use Rattle.nv_tags.proofs.Owners.{numbered-point}
use Rattle.nv_tags.proofs.Slots.{busy-seen, going-used, moved-seen, there}
use Rattle.nv_tags.proofs.tags.Tags.end.Goals as goal

pub listed : goal.listed
listed c =
    let below = there c.self.inside.states c.self.inside.claims c.self.inside.leaders c.self.inside.groups c.self.invariant.0 c.args.self.now c.self.view_is
    c.args.tag c.from.result c.from.ensures (going-used c.args.self.now c.args.tag c.requires.going) in
    let all = c.self.invariant.0.states_are in
    omega arith

pub bounds-self-inside-from : goal.bounds-self-inside-from
bounds-self-inside-from c =
    there c.self.inside.states c.self.inside.claims c.self.inside.leaders c.self.inside.groups c.self.invariant.0 c.args.self.now c.self.view_is
    c.args.tag c.from.result c.from.ensures (going-used c.args.self.now c.args.tag c.requires.going)

pub invariant_of-self : goal.invariant_of-self
invariant_of-self c =
    let below = there c.self.inside.states c.self.inside.claims c.self.inside.leaders c.self.inside.groups c.self.invariant.0 c.args.self.now c.self.view_is
    c.args.tag c.from.result c.from.ensures (going-used c.args.self.now c.args.tag c.requires.going) in
    let all = c.self.invariant.0.states_are in (
      AreKept-moved c.self.inside.states c.self.inside.claims c.self.inside.leaders c.self.inside.groups c.self.invariant.0 c.from.result
          (there c.self.inside.states c.self.inside.claims c.self.inside.leaders c.self.inside.groups c.self.invariant.0 c.args.self.now c.self.view_is
          c.args.tag c.from.result c.from.ensures (going-used c.args.self.now c.args.tag c.requires.going))
          (state.Ended c.args.status) (busy-seen c.self.inside.states c.self.inside.claims c.self.inside.leaders c.self.inside.groups c.self.invariant.0 c.args.self.now c.self.view_is
          c.args.tag c.from.result c.from.ensures (going-used c.args.self.now c.args.tag c.requires.going)) refl,
      record {
        free_are = mask-same is_free_state c.self.inside.states c.self.inside.free c.from.result (state.Ended c.args.status) c.self.invariant.1.free_are (omega (arith, below, all)) refl
            (busy-seen c.self.inside.states c.self.inside.claims c.self.inside.leaders c.self.inside.groups c.self.invariant.0 c.args.self.now c.self.view_is
            c.args.tag c.from.result c.from.ensures (going-used c.args.self.now c.args.tag c.requires.going));
        taken_are = mask-without is_taken_state c.self.inside.states c.self.inside.taken c.from.result (state.Ended c.args.status) c.self.invariant.1.taken_are (omega (arith, below, all))
            c.without-self-inside.result refl (subst (λ (n : ℕ). IsWithout c.self.inside.taken n c.without-self-inside.result) (sym c.from.ensures) c.without-self-inside.ensures);
        ended_are = mask-with is_ended_state c.self.inside.states c.self.inside.ended c.from.result (state.Ended c.args.status) c.self.invariant.1.ended_are (omega (arith, below, all))
            c.with-self-inside.result refl (subst (λ (n : ℕ). IsWith c.self.inside.ended n c.with-self-inside.result) (sym c.from.ensures) c.with-self-inside.ensures);
      },
      numbered-point ByGuest c.self.inside.states c.self.inside.claims c.self.inside.leaders c.self.inside.groups c.self.invariant.0
          c.self.inside.owned c.self.inside.owned c.self.invariant.2 c.from.result below c.args.self.now c.args.tag c.self.view_is c.from.ensures (Ended c.args.status) (state.Ended c.args.status)
          (moved-seen c.self.inside.states c.self.inside.claims c.self.inside.leaders c.self.inside.groups c.self.invariant.0 c.args.self.now c.self.view_is
          c.args.tag c.from.result c.from.ensures (Ended c.args.status) (state.Ended c.args.status) (λ command. refl) (going-used c.args.self.now c.args.tag c.requires.going)),
      numbered-point ByQueue c.self.inside.states c.self.inside.claims c.self.inside.leaders c.self.inside.groups c.self.invariant.0
          c.self.inside.queued c.self.inside.queued c.self.invariant.3 c.from.result below c.args.self.now c.args.tag c.self.view_is c.from.ensures (Ended c.args.status) (state.Ended c.args.status)
          (moved-seen c.self.inside.states c.self.inside.claims c.self.inside.leaders c.self.inside.groups c.self.invariant.0 c.args.self.now c.self.view_is
          c.args.tag c.from.result c.from.ensures (Ended c.args.status) (state.Ended c.args.status) (λ command. refl) (going-used c.args.self.now c.args.tag c.requires.going)),
    )

pub without-self-inside-requires : goal.without-self-inside-requires
without-self-inside-requires c =
    let below = there c.self.inside.states c.self.inside.claims c.self.inside.leaders c.self.inside.groups c.self.invariant.0 c.args.self.now c.self.view_is
    c.args.tag c.from.result c.from.ensures (going-used c.args.self.now c.args.tag c.requires.going) in
    let same = c.from.ensures in
    omega (arith, below, same)

pub with-self-inside-requires : goal.with-self-inside-requires
with-self-inside-requires c =
    let below = there c.self.inside.states c.self.inside.claims c.self.inside.leaders c.self.inside.groups c.self.invariant.0 c.args.self.now c.self.view_is
    c.args.tag c.from.result c.from.ensures (going-used c.args.self.now c.args.tag c.requires.going) in
    let same = c.from.ensures in
    omega (arith, below, same)

pub returns : goal.returns
returns c =
    moved-seen c.self.inside.states c.self.inside.claims c.self.inside.leaders c.self.inside.groups c.self.invariant.0 c.args.self.now c.self.view_is
    c.args.tag c.from.result c.from.ensures
    (Ended c.args.status) (state.Ended c.args.status) (λ command. refl) (going-used c.args.self.now c.args.tag c.requires.going)
