use Rattle.std.proofs.Common.{◌≡◌, ℕ, List, Some, slice_index_or, arith, refl, sym, subst, ap, ◌∙◌}
use Rattle.nv_tags.specs.Numbers.{ByGuest, ByQueue}
use Rattle.nv_tags.specs.Kept.{AreWith, is_ended_state, is_taken_state, tags_in}
use Rattle.nv_tags.specs.Tags.{command_of, is_free_state, leader_in, taken_by}
use Rattle.nv_tags.specs.declared.state.TagState.TheVariants as state
use Rattle.nv_tags.proofs.Lowest.{found-idle, lowest-seen}
use Rattle.nv_tags.proofs.Marks.{among-mask, free-not, mask-joined, mask-none, mask-parted}
use Rattle.nv_tags.proofs.Owners.{numbered-grouped}
use Rattle.nv_tags.proofs.Together.{AreKept-taken, its-leader, leader-one, same-some, slots-taken, taken-one}
use Rattle.nv_tags.proofs.tags.Tags.claim_group.Goals as goal

pub returns-then-count-eq1-clause-leader : goal.returns-then-count-eq1-clause-leader
returns-then-count-eq1-clause-leader c = leader-one c.args.self.now c.args.count c.claim.result c.if-count-eq1.true c.claim.ensures.tag

pub returns-then-count-eq1-clause-some : goal.returns-then-count-eq1-clause-some
returns-then-count-eq1-clause-some c =
    taken-one c.args.self.now c.claim.new.self c.args.claim c.args.count c.claim.result c.if-count-eq1.true c.claim.ensures.tag c.claim.ensures.some

pub returns-in_err-mask-clause-leader : goal.returns-in_err-mask-clause-leader
returns-in_err-mask-clause-leader c =
    c.from_residual.ensures
    ∙ ap leader_in (c.in_err-mask.ensures
    ∙ lowest-seen c.self.inside.states c.self.inside.claims c.self.inside.leaders c.self.inside.groups c.self.invariant.0 c.args.self.now c.self.view_is
    c.self.inside.free c.self.invariant.1.free_are c.args.count)

pub invariant_of-self : goal.invariant_of-self
invariant_of-self c =
    rw (c.take_each.ensures.states, c.take_each.ensures.claims, c.take_each.ensures.leaders, c.from.ensures) (
      (AreKept-taken c.self.inside.states c.self.inside.claims c.self.inside.leaders c.self.inside.groups c.self.invariant.0
          c.in-Some.leader c.in_ok-mask.mask c.without.result c.in-Some.ensures.there
          (its-leader c.in_ok-mask.mask c.in-Some.leader c.of.result c.pop.new.self c.of.ensures c.in-Some.ensures.lowest c.in-Some.ensures.there)
          c.without.ensures
          (found-idle c.self.inside.states c.self.inside.free c.in_ok-mask.mask c.args.count c.self.invariant.0.states_are c.self.invariant.1.free_are
          c.in_ok-mask.ensures)
          c.of-2.result c.of-2.ensures c.args.claim),
      record {
        free_are = mask-parted is_free_state c.self.inside.states c.self.inside.free c.self.invariant.1.free_are
            c.of-2.result c.in_ok-mask.mask c.self.invariant.0.states_are (among-mask c.of-2.result c.in_ok-mask.mask c.of-2.ensures) state.Taken refl (omega arith);
        taken_are = mask-joined is_taken_state c.self.inside.states c.self.inside.taken c.self.invariant.1.taken_are
            c.of-2.result c.in_ok-mask.mask c.self.invariant.0.states_are (among-mask c.of-2.result c.in_ok-mask.mask c.of-2.ensures) state.Taken refl;
        ended_are = mask-none is_ended_state c.self.inside.states c.self.inside.ended c.self.invariant.1.ended_are
            c.of-2.result c.in_ok-mask.mask c.self.invariant.0.states_are (among-mask c.of-2.result c.in_ok-mask.mask c.of-2.ensures) state.Taken refl
            (λ t below its. (free-not (slice_index_or c.self.inside.states t state.Free)
            (found-idle c.self.inside.states c.self.inside.free c.in_ok-mask.mask c.args.count c.self.invariant.0.states_are c.self.invariant.1.free_are
            c.in_ok-mask.ensures t below its)).1);
      },
      numbered-grouped ByGuest c.self.inside.states c.self.inside.claims c.self.inside.leaders c.self.inside.groups c.self.invariant.0 c.self.inside.owned c.own.new.masks
          c.self.invariant.2 _ c.args.claim c.in-Some.leader c.in_ok-mask.mask c.of-2.result c.of-2.ensures
          (found-idle c.self.inside.states c.self.inside.free c.in_ok-mask.mask c.args.count c.self.invariant.0.states_are c.self.invariant.1.free_are
          c.in_ok-mask.ensures) c.own.ensures.size
          (subst (λ (n : ℕ). AreWith c.self.inside.owned n c.in_ok-mask.mask c.own.new.masks) c.from-2.ensures c.own.ensures.bits)
          (slots-taken c.self.inside.states c.self.inside.claims c.self.inside.leaders c.self.inside.groups c.self.invariant.0
          c.in-Some.leader c.in_ok-mask.mask c.without.result c.in-Some.ensures.there
          (its-leader c.in_ok-mask.mask c.in-Some.leader c.of.result c.pop.new.self c.of.ensures c.in-Some.ensures.lowest c.in-Some.ensures.there)
          c.without.ensures
          (found-idle c.self.inside.states c.self.inside.free c.in_ok-mask.mask c.args.count c.self.invariant.0.states_are c.self.invariant.1.free_are
          c.in_ok-mask.ensures)
          c.of-2.result c.of-2.ensures c.args.claim),
      numbered-grouped ByQueue c.self.inside.states c.self.inside.claims c.self.inside.leaders c.self.inside.groups c.self.invariant.0 c.self.inside.queued c.own-2.new.masks
          c.self.invariant.3 _ c.args.claim c.in-Some.leader c.in_ok-mask.mask c.of-2.result c.of-2.ensures
          (found-idle c.self.inside.states c.self.inside.free c.in_ok-mask.mask c.args.count c.self.invariant.0.states_are c.self.invariant.1.free_are
          c.in_ok-mask.ensures) c.own-2.ensures.size c.own-2.ensures.bits
          (slots-taken c.self.inside.states c.self.inside.claims c.self.inside.leaders c.self.inside.groups c.self.invariant.0
          c.in-Some.leader c.in_ok-mask.mask c.without.result c.in-Some.ensures.there
          (its-leader c.in_ok-mask.mask c.in-Some.leader c.of.result c.pop.new.self c.of.ensures c.in-Some.ensures.lowest c.in-Some.ensures.there)
          c.without.ensures
          (found-idle c.self.inside.states c.self.inside.free c.in_ok-mask.mask c.args.count c.self.invariant.0.states_are c.self.invariant.1.free_are
          c.in_ok-mask.ensures)
          c.of-2.result c.of-2.ensures c.args.claim),
    )

pub returns-clause-leader : goal.returns-clause-leader
returns-clause-leader c =
    ap leader_in (ap (λ (ts : List ℕ). Some ts) (sym c.in-Some.ensures.lowest ∙ c.of.ensures) ∙ c.in_ok-mask.ensures
    ∙ lowest-seen c.self.inside.states c.self.inside.claims c.self.inside.leaders c.self.inside.groups c.self.invariant.0 c.args.self.now c.self.view_is
    c.self.inside.free c.self.invariant.1.free_are c.args.count)

pub returns-clause-some : goal.returns-clause-some
returns-clause-some c = λ tags are.
    (let same : tags_in c.in_ok-mask.mask ≡ tags =
    same-some (tags_in c.in_ok-mask.mask) tags (c.in_ok-mask.ensures
    ∙ lowest-seen c.self.inside.states c.self.inside.claims c.self.inside.leaders c.self.inside.groups c.self.invariant.0 c.args.self.now c.self.view_is
    c.self.inside.free c.self.invariant.1.free_are c.args.count ∙ are) in
    rw (c.take_each.ensures.states, c.take_each.ensures.claims, c.take_each.ensures.leaders)
    (slots-taken c.self.inside.states c.self.inside.claims c.self.inside.leaders c.self.inside.groups c.self.invariant.0
    c.in-Some.leader c.in_ok-mask.mask c.without.result c.in-Some.ensures.there
    (its-leader c.in_ok-mask.mask c.in-Some.leader c.of.result c.pop.new.self c.of.ensures c.in-Some.ensures.lowest c.in-Some.ensures.there)
    c.without.ensures
    (found-idle c.self.inside.states c.self.inside.free c.in_ok-mask.mask c.args.count c.self.invariant.0.states_are c.self.invariant.1.free_are
    c.in_ok-mask.ensures)
    c.of-2.result c.of-2.ensures c.args.claim
    ∙ ap (taken_by (command_of c.args.claim c.in-Some.leader) c.of-2.result) c.self.view_is
    ∙ ap (λ (ts : List ℕ). taken_by (command_of c.args.claim c.in-Some.leader) ts c.args.self.now) (c.of-2.ensures ∙ same)))
