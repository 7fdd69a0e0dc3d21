-- The part of a plan that a tag had that has ended.
use Rattle.std.proofs.Common.{◌≡◌, ℕ, ◌<◌, List, MatchOption, Option, Some, None, get_or, length, refl, slice_get, sym, ap, ◌∙◌, subst, arith}
use Rattle.std.proofs.lemmas.Option.{slice_get_read}
use Rattle.nv_core.specs.Tags.{ended_as, ended_tag, part_in, plan_in, plan_kept}
use Rattle.nv_core.specs.declared.progress.Progress.{Progress}
use Rattle.nv_core.specs.declared.progress.Progress.TheVariants as progress
use Rattle.nv_entry.specs.Status.{StatusField}
use Rattle.nv_laws_sound.proofs.Lists.{slice_get-below}
use Rattle.nv_plan.specs.Made.{MadePlan, share_made, shares_made}
use Rattle.nv_world_model.specs.Share.{Share}
use Rattle.nv_world_model.specs.World.{Command, Ended}

ended-share : (command : Command) (st : StatusField) (o share : Option Share) → ended_as command st o ≡ Ended command st share → share ≡ o
ended-share command st None share e = cc
ended-share command st (Some s) share e = cc

-- the plan that is kept in a tag, as it is read
pub plan-read : (ps : List Progress) (leader i : ℕ) (p : Progress) → leader < length ps → i ≡ leader → p ≡ get_or ps i p
    → plan_in (slice_get ps leader) ≡ plan_kept p
plan-read ps leader i p below number has =
    ap plan_in (subst (λ (k : ℕ). slice_get ps k ≡ Some p) number (slice_get_read ps (length ps) i p refl (omega arith) has))

-- a first part
pub over-part : (led : Option MadePlan) (command : Command) (st : StatusField) (share : Option Share) (p : Progress) (plan : MadePlan)
    → ended_tag led command st p ≡ Ended command st share → p ≡ progress.Over plan → share ≡ share_made 0 plan
over-part led command st share p plan made is =
    ended-share command st (share_made 0 plan) share (sym (ap (ended_tag led command st) is) ∙ made)

-- a further part
pub further-part : (led : Option MadePlan) (command : Command) (st : StatusField) (share : Option Share) (p : Progress) (part : ℕ) (plan : MadePlan)
    → ended_tag led command st p ≡ Ended command st share → p ≡ progress.PartOver part → led ≡ Some plan → share ≡ share_made part plan
further-part led command st share p part plan made is kept =
    ended-share command st (share_made part plan) share
    (sym (ap (λ (o : Option MadePlan). ended_as command st (part_in part o)) kept) ∙ sym (ap (ended_tag led command st) is) ∙ made)

-- its plan is kept
pub further-kept : (led : Option MadePlan) (command : Command) (st : StatusField) (share : Option Share) (p : Progress) (part : ℕ)
    → ended_tag led command st p ≡ Ended command st share → p ≡ progress.PartOver part → led ≡ None → ⊥
further-kept led command st share p part made is none = never
    (sym (ap (λ (o : Option MadePlan). ended_as command st (part_in part o)) none) ∙ sym (ap (ended_tag led command st) is) ∙ made)
  where
    never : ended_as command st (part_in part None) ≡ Ended command st share → ⊥
    never e = cc

-- one that was not handed on
pub no-part : (led : Option MadePlan) (command : Command) (st : StatusField) (share : Option Share) (p : Progress)
    → ended_tag led command st p ≡ Ended command st share → ((plan : MadePlan) → p ≡ progress.Over plan → ⊥)
    → ((part : ℕ) → p ≡ progress.PartOver part → ⊥) → share ≡ None
no-part led command st share progress.Nothing made first further = cc
no-part led command st share (progress.Reading reads) made first further = cc
no-part led command st share (progress.Going plan) made first further = cc
no-part led command st share (progress.Over plan) made first further = absurd (first plan refl)
no-part led command st share (progress.Part part) made first further = cc
no-part led command st share (progress.PartOver part) made first further = absurd (further part refl)

-- a part is one of the plan's
pub part-below : (plan : MadePlan) (part : ℕ) (share : Share) → Some share ≡ share_made part plan → part < length (shares_made plan)
part-below plan part share is = slice_get-below (shares_made plan) part share (sym is)

pub match-none : {X : Type 0} (o : Option X) (P : Type 0) (Q : X → Type 0) → o ≡ None → MatchOption o P Q → P
match-none None P Q is holds = holds
match-none (Some x) P Q is holds = cc
