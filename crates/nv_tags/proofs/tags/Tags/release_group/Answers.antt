use Rattle.std.proofs.Common.{List, ◌∷◌, ℕ, ap, refl, sym, slice_index, slice_index_or, subst, ◌∙◌, ◌-◌, arith, set}
use Rattle.std.specs.Prelude.{bit_and, bit_or}
use Rattle.nv_tags.specs.Kept.{AreKept, AreNumbered, AreWithout, IsMask, is_ended_state, is_taken_state, slots_of}
use Rattle.nv_tags.specs.Numbers.{ByGuest, ByQueue}
use Rattle.nv_tags.specs.Tags.{is_free_state, released}
use Rattle.nv_tags.specs.declared.state.TagState.{TagState}
use Rattle.nv_tags.specs.declared.state.TagState.TheVariants as state
use Rattle.nv_tags.proofs.Marks.{among-freed, mask-joined, mask-parted}
use Rattle.nv_tags.proofs.Owners.{numbered-freed}
use Rattle.nv_tags.proofs.Together.{AreKept-freed, leads-own, leads-there, slots-freed}
use Rattle.nv_tags.proofs.tags.Tags.release_group.Goals as goal

pub listed : goal.listed
listed c =
    let below = leads-there c.self.inside.states c.self.inside.claims c.self.inside.leaders c.self.inside.groups c.self.invariant.0 c.args.self.now c.self.view_is
    c.args.leader c.from-at.result c.from-at.ensures c.requires.leads in
    let all = c.self.invariant.0.states_are in
    omega arith

pub bounds-self-inside-at : goal.bounds-self-inside-at
bounds-self-inside-at c =
    leads-there c.self.inside.states c.self.inside.claims c.self.inside.leaders c.self.inside.groups c.self.invariant.0 c.args.self.now c.self.view_is
    c.args.leader c.from-at.result c.from-at.ensures c.requires.leads

pub bounds-self-inside-at-2 : goal.bounds-self-inside-at-2
bounds-self-inside-at-2 c =
    leads-there c.self.inside.states c.self.inside.claims c.self.inside.leaders c.self.inside.groups c.self.invariant.0 c.args.self.now c.self.view_is
    c.args.leader c.from-at.result c.from-at.ensures c.requires.leads

pub bounds-self-inside-at-3 : goal.bounds-self-inside-at-3
bounds-self-inside-at-3 c =
    leads-there c.self.inside.states c.self.inside.claims c.self.inside.leaders c.self.inside.groups c.self.invariant.0 c.args.self.now c.self.view_is
    c.args.leader c.from-at.result c.from-at.ensures c.requires.leads

pub bounds-self-inside-at-4 : goal.bounds-self-inside-at-4
bounds-self-inside-at-4 c =
    leads-there c.self.inside.states c.self.inside.claims c.self.inside.leaders c.self.inside.groups c.self.invariant.0 c.args.self.now c.self.view_is
    c.args.leader c.from-at.result c.from-at.ensures c.requires.leads

pub with-freed-requires : goal.with-freed-requires
with-freed-requires c =
    let below = leads-there c.self.inside.states c.self.inside.claims c.self.inside.leaders c.self.inside.groups c.self.invariant.0 c.args.self.now c.self.view_is
    c.args.leader c.from-at.result c.from-at.ensures c.requires.leads in
    let same = c.from-at.ensures in
    omega (arith, below, same)

pub invariant_of-self : goal.invariant_of-self
invariant_of-self c = (
  subst
      (λ (states : List TagState). AreKept states c.self.inside.claims c.self.inside.leaders (set c.self.inside.groups c.from-at.result 0))
      (sym c.free_each.ensures.states)
      (AreKept-freed c.self.inside.states c.self.inside.claims c.self.inside.leaders c.self.inside.groups c.self.invariant.0 c.from-at.result
      (leads-there c.self.inside.states c.self.inside.claims c.self.inside.leaders c.self.inside.groups c.self.invariant.0 c.args.self.now c.self.view_is
      c.args.leader c.from-at.result c.from-at.ensures c.requires.leads)
      (leads-own c.self.inside.states c.self.inside.claims c.self.inside.leaders c.self.inside.groups c.self.invariant.0 c.args.self.now c.self.view_is
      c.args.leader c.from-at.result c.from-at.ensures c.requires.leads)
      c.of.result c.of.ensures),
  record {
    free_are = subst (λ (states : List TagState). IsMask is_free_state states (bit_or c.self.inside.free c.with-freed.result)) (sym c.free_each.ensures.states)
        (mask-joined is_free_state c.self.inside.states c.self.inside.free c.self.invariant.1.free_are (c.from-at.result ∷ c.of.result) c.with-freed.result
        c.self.invariant.0.states_are
        (among-freed c.of.result (slice_index c.self.inside.groups c.from-at.result) c.with-freed.result c.from-at.result c.args.leader c.of.ensures
        c.from-at.ensures c.with-freed.ensures) state.Free refl);
    taken_are = subst (λ (states : List TagState). IsMask is_taken_state states (bit_and c.self.inside.taken (18446744073709551615 - c.with-freed.result))) (sym c.free_each.ensures.states)
        (mask-parted is_taken_state c.self.inside.states c.self.inside.taken c.self.invariant.1.taken_are (c.from-at.result ∷ c.of.result) c.with-freed.result
        c.self.invariant.0.states_are
        (among-freed c.of.result (slice_index c.self.inside.groups c.from-at.result) c.with-freed.result c.from-at.result c.args.leader c.of.ensures
        c.from-at.ensures c.with-freed.ensures) state.Free refl (omega arith));
    ended_are = subst (λ (states : List TagState). IsMask is_ended_state states (bit_and c.self.inside.ended (18446744073709551615 - c.with-freed.result))) (sym c.free_each.ensures.states)
        (mask-parted is_ended_state c.self.inside.states c.self.inside.ended c.self.invariant.1.ended_are (c.from-at.result ∷ c.of.result) c.with-freed.result
        c.self.invariant.0.states_are
        (among-freed c.of.result (slice_index c.self.inside.groups c.from-at.result) c.with-freed.result c.from-at.result c.args.leader c.of.ensures
        c.from-at.ensures c.with-freed.ensures) state.Free refl (omega arith));
  },
  subst (λ (states : List TagState). AreNumbered ByGuest (slots_of states c.self.inside.claims c.self.inside.leaders) c.free_each.new.owned)
      (sym c.free_each.ensures.states)
      (numbered-freed ByGuest c.self.inside.states c.self.inside.claims c.self.inside.leaders c.self.inside.groups c.self.invariant.0 c.self.inside.owned c.free_each.new.owned
      c.self.invariant.2 c.from-at.result
      (leads-there c.self.inside.states c.self.inside.claims c.self.inside.leaders c.self.inside.groups c.self.invariant.0 c.args.self.now c.self.view_is
      c.args.leader c.from-at.result c.from-at.ensures c.requires.leads)
      (leads-own c.self.inside.states c.self.inside.claims c.self.inside.leaders c.self.inside.groups c.self.invariant.0 c.args.self.now c.self.view_is
      c.args.leader c.from-at.result c.from-at.ensures c.requires.leads)
      c.of.result c.of.ensures c.disown.new.masks _ c.index-self-at-2.result c.from-guest.ensures
      (subst (λ (n : ℕ).
      AreWithout c.self.inside.owned c.from-guest.result n c.disown.new.masks) (sym c.from-at.ensures) c.disown.ensures.bits)
      c.free_each.ensures.size c.free_each.ensures.owned),
  subst (λ (states : List TagState). AreNumbered ByQueue (slots_of states c.self.inside.claims c.self.inside.leaders) c.free_each.new.queued)
      (sym c.free_each.ensures.states)
      (numbered-freed ByQueue c.self.inside.states c.self.inside.claims c.self.inside.leaders c.self.inside.groups c.self.invariant.0 c.self.inside.queued c.free_each.new.queued
      c.self.invariant.3 c.from-at.result
      (leads-there c.self.inside.states c.self.inside.claims c.self.inside.leaders c.self.inside.groups c.self.invariant.0 c.args.self.now c.self.view_is
      c.args.leader c.from-at.result c.from-at.ensures c.requires.leads)
      (leads-own c.self.inside.states c.self.inside.claims c.self.inside.leaders c.self.inside.groups c.self.invariant.0 c.args.self.now c.self.view_is
      c.args.leader c.from-at.result c.from-at.ensures c.requires.leads)
      c.of.result c.of.ensures c.disown-2.new.masks _ c.index-self-at-2.result refl
      (subst (λ (n : ℕ).
      AreWithout c.self.inside.queued (slice_index_or c.self.inside.claims c.from-at.result c.index-self-at-2.result).queue n c.disown-2.new.masks) (sym c.from-at.ensures) c.disown-2.ensures.bits)
      c.free_each.ensures.queues c.free_each.ensures.queued),
)

pub returns : goal.returns
returns c =
    ap (λ (states : List TagState). slots_of states c.self.inside.claims c.self.inside.leaders) c.free_each.ensures.states
    ∙ slots-freed c.self.inside.states c.self.inside.claims c.self.inside.leaders c.self.inside.groups c.self.invariant.0 c.from-at.result
    (leads-there c.self.inside.states c.self.inside.claims c.self.inside.leaders c.self.inside.groups c.self.invariant.0 c.args.self.now c.self.view_is
    c.args.leader c.from-at.result c.from-at.ensures c.requires.leads)
    (leads-own c.self.inside.states c.self.inside.claims c.self.inside.leaders c.self.inside.groups c.self.invariant.0 c.args.self.now c.self.view_is
    c.args.leader c.from-at.result c.from-at.ensures c.requires.leads)
    c.of.result c.of.ensures
    ∙ ap (released c.from-at.result) c.self.view_is ∙ ap (λ n. released n c.args.self.now) c.from-at.ensures

pub listed-2 : goal.listed-2
listed-2 c =
    let below = leads-there c.self.inside.states c.self.inside.claims c.self.inside.leaders c.self.inside.groups c.self.invariant.0 c.args.self.now c.self.view_is
    c.args.leader c.from-at.result c.from-at.ensures c.requires.leads in
    let all = c.self.invariant.0.claims_are in
    omega arith

pub bounds-self-inside-at-5 : goal.bounds-self-inside-at-5
bounds-self-inside-at-5 c =
    leads-there c.self.inside.states c.self.inside.claims c.self.inside.leaders c.self.inside.groups c.self.invariant.0 c.args.self.now c.self.view_is
    c.args.leader c.from-at.result c.from-at.ensures c.requires.leads

pub disown-requires : goal.disown-requires
disown-requires c =
    let below = leads-there c.self.inside.states c.self.inside.claims c.self.inside.leaders c.self.inside.groups c.self.invariant.0 c.args.self.now c.self.view_is
    c.args.leader c.from-at.result c.from-at.ensures c.requires.leads in
    let same = c.from-at.ensures in
    omega (arith, below, same)

pub disown-requires-2 : goal.disown-requires-2
disown-requires-2 c =
    let below = leads-there c.self.inside.states c.self.inside.claims c.self.inside.leaders c.self.inside.groups c.self.invariant.0 c.args.self.now c.self.view_is
    c.args.leader c.from-at.result c.from-at.ensures c.requires.leads in
    let same = c.from-at.ensures in
    omega (arith, below, same)
