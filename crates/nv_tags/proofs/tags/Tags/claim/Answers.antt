use Rattle.std.proofs.Common.{◌≡◌, ◌<◌, ℕ, [], ◌∷◌, length, true, ap, arith, refl, slice_index_or, subst, sym, ◌∙◌}
use Rattle.nv_tags.specs.Numbers.{ByGuest, ByQueue}
use Rattle.nv_tags.specs.Kept.{AreWith, IsWith, IsWithout, is_ended_state, is_free_at, is_taken_state}
use Rattle.nv_tags.specs.Tags.{is_free_state}
use Rattle.nv_tags.specs.declared.state.TagState.TheVariants as state
use Rattle.nv_tags.proofs.Groups.{AreKept-claimed}
use Rattle.nv_tags.proofs.Lowest.{first-seen}
use Rattle.nv_tags.proofs.Marks.{free-not, mask-holds, mask-same, mask-with, mask-without}
use Rattle.nv_tags.proofs.Masks.{is_set}
use Rattle.nv_tags.proofs.Owners.{numbered-claimed}
use Rattle.nv_tags.proofs.Slots.{claimed-seen}
use Rattle.nv_tags.proofs.Together.{its-leader}
use Rattle.nv_tags.proofs.tags.Tags.claim.Goals as goal

pub returns-in_err-tag-clause-tag : goal.returns-in_err-tag-clause-tag
returns-in_err-tag-clause-tag c =
    c.from_residual.ensures
    ∙ first-seen c.self.inside.states c.self.inside.claims c.self.inside.leaders c.self.inside.groups c.self.invariant.0 c.args.self.now c.self.view_is
    c.self.inside.free c.self.invariant.1.free_are [] (sym c.in_err-tag.ensures.lowest ∙ c.of.ensures)

pub returns-clause-tag : goal.returns-clause-tag
returns-clause-tag c =
    first-seen c.self.inside.states c.self.inside.claims c.self.inside.leaders c.self.inside.groups c.self.invariant.0 c.args.self.now c.self.view_is
    c.self.inside.free c.self.invariant.1.free_are (c.in_ok-tag.tag ∷ c.pop.new.self) (sym c.in_ok-tag.ensures.lowest ∙ c.of.ensures)

pub invariant_of-self : goal.invariant_of-self
invariant_of-self c =
    let same = c.from-at.ensures in
    let low = c.in_ok-tag.ensures.there in
    let below : c.from-at.result < 64 = omega (arith, same, low) in
    let all = c.self.invariant.0.states_are in
    let within : c.from-at.result < length c.self.inside.states = omega (arith, below, all) in
    let its : is_set c.self.inside.free c.from-at.result ≡ true =
    ap (is_set c.self.inside.free) same
    ∙ its-leader c.self.inside.free c.in_ok-tag.tag c.of.result c.pop.new.self c.of.ensures c.in_ok-tag.ensures.lowest low in
    let idle : is_free_at c.self.inside.states c.from-at.result ≡ true =
    mask-holds is_free_state c.self.inside.states c.self.inside.free c.self.invariant.1.free_are c.from-at.result below its in (
      AreKept-claimed c.self.inside.states c.self.inside.claims c.self.inside.leaders c.self.inside.groups c.self.invariant.0 c.from-at.result below
          c.args.claim c.in_ok-tag.tag idle (sym same),
      record {
        free_are = mask-without is_free_state c.self.inside.states c.self.inside.free c.from-at.result state.Taken c.self.invariant.1.free_are within
            c.without-self-inside.result refl
            (subst (λ (n : ℕ). IsWithout c.self.inside.free n c.without-self-inside.result) (sym same) c.without-self-inside.ensures);
        taken_are = mask-with is_taken_state c.self.inside.states c.self.inside.taken c.from-at.result state.Taken c.self.invariant.1.taken_are within
            c.with-self-inside.result refl
            (subst (λ (n : ℕ). IsWith c.self.inside.taken n c.with-self-inside.result) (sym same) c.with-self-inside.ensures);
        ended_are = mask-same is_ended_state c.self.inside.states c.self.inside.ended c.from-at.result state.Taken c.self.invariant.1.ended_are within refl
            (free-not (slice_index_or c.self.inside.states c.from-at.result state.Free) idle).1;
      },
      numbered-claimed ByGuest c.self.inside.states c.self.inside.claims c.self.inside.leaders c.self.inside.groups c.self.invariant.0 c.self.inside.owned
          c.own.new.masks c.self.invariant.2 c.args.claim c.in_ok-tag.tag c.from-at.result c.with-only.result below idle
          (subst (λ (n : ℕ). IsWith 0 n c.with-only.result) (sym same) c.with-only.ensures) c.own.ensures.size
          (subst (λ (n : ℕ). AreWith c.self.inside.owned n c.with-only.result c.own.new.masks) c.from-guest.ensures c.own.ensures.bits),
      numbered-claimed ByQueue c.self.inside.states c.self.inside.claims c.self.inside.leaders c.self.inside.groups c.self.invariant.0 c.self.inside.queued
          c.own-2.new.masks c.self.invariant.3 c.args.claim c.in_ok-tag.tag c.from-at.result c.with-only.result below idle
          (subst (λ (n : ℕ). IsWith 0 n c.with-only.result) (sym same) c.with-only.ensures) c.own-2.ensures.size c.own-2.ensures.bits,
    )

pub returns-clause-some : goal.returns-clause-some
returns-clause-some c =
    claimed-seen c.self.inside.states c.self.inside.claims c.self.inside.leaders c.self.inside.groups c.self.invariant.0 c.args.self.now c.self.view_is
    c.in_ok-tag.tag c.from-at.result c.from-at.ensures c.args.claim c.in_ok-tag.tag
