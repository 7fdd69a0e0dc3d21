-- A plan under way that was put aside, and goes on.
use Rattle.std.proofs.Common.{◌≡◌, ℕ, List, [], ◌++◌, sym, ap, subst, ◌∙◌}
use Rattle.std.specs.Global.{Box}
use Rattle.nv_mem.specs.GuestMap.{mapped}
use Rattle.nv_model.specs.Judge.{judge}
use Rattle.nv_model.specs.Transcript.{in_transcript}
use Rattle.nv_ns.specs.Extents.{blocks_in}
use Rattle.nv_prp.specs.Parse.{Parse as Pages, dialogue_of as pages_of}
use Rattle.nv_sgl.specs.Parse.{Parse as Descriptors, dialogue_of as descriptors_of}
use Rattle.nv_world_model.specs.Geometry.{Guest, regions_of}
use Rattle.nv_plan.specs.Drafted.{IsListed, IsSoundStage, IsSource, IsUnderWay, IsUnmet, ahead_at, left_to_read, next_at}
use Rattle.nv_plan.specs.Drawn.{given_of}
use Rattle.nv_plan.specs.Resting.{IsAside, IsOn, IsRest}
use Rattle.nv_plan.specs.declared.aside.Rest.{Rest}
use Rattle.nv_plan.specs.declared.aside.Rest.TheVariants as rest
use Rattle.nv_plan.specs.declared.draft.Buffered.{Buffered}
use Rattle.nv_plan.specs.declared.draft.Draft.{Draft}
use Rattle.nv_plan.specs.declared.draft.Stage.{Stage}
use Rattle.nv_plan.specs.declared.draft.Stage.TheVariants as stage
use Rattle.nv_plan.specs.declared.job.Job.{Job}
use Rattle.nv_plan.specs.declared.source.Source.{Source}

-- ---- stages with the same facts

-- what is known of one stage is known of another
pub record IsAlike {A : Type 0} (given : Guest) (entry : List ℕ) (s t : Stage A) : Type 0 where
  pub sound : IsSoundStage given entry s → IsSoundStage given entry t
  pub left : ahead_at (blocks_in given.namespace) entry t ≡ ahead_at (blocks_in given.namespace) entry s
  pub next : next_at t ≡ next_at s

alike-pages : {A : Type 0} (given : Guest) (entry : List ℕ) (b c : Buffered) (p q : Box Pages) → c ≡ b → q.value ≡ p.value
    → IsAlike {A = A} given entry (stage.Pages b p) (stage.Pages c q)
alike-pages given entry b c p q same is =
    record {
      sound = λ sound. subst (λ v. IsListed given entry c (pages_of v)) (sym is) (subst (λ x. IsListed given entry x (pages_of p.value)) (sym same) sound);
      left = cc;
      next = cc;
    }

alike-descriptors : {A : Type 0} (given : Guest) (entry : List ℕ) (b c : Buffered) (p q : Descriptors) → c ≡ b → q ≡ p
    → IsAlike {A = A} given entry (stage.Descriptors b p) (stage.Descriptors c q)
alike-descriptors given entry b c p q same is =
    record {
      sound = λ sound. subst (λ v. IsListed given entry c (descriptors_of v)) (sym is) (subst (λ x. IsListed given entry x (descriptors_of p)) (sym same) sound);
      left = cc;
      next = cc;
    }

alike-ranges : {A : Type 0} (given : Guest) (entry : List ℕ) (p q : Source) → q ≡ p
    → IsAlike {A = A} given entry (stage.Ranges p) (stage.Ranges q)
alike-ranges {A} given entry p q is =
    record {
      sound = λ sound. subst (λ (v : Source). IsSource given entry v) (sym is) sound;
      left = ap (λ (v : Source). ahead_at {A = A} (blocks_in given.namespace) entry (stage.Ranges v)) is;
      next = ap (λ (v : Source). next_at {A = A} (stage.Ranges v)) is;
    }

-- a parse that has its map again
pages-again : (regions : _) (r p q : Pages) → r ≡ record p { regions = [] } → p.regions ≡ regions → q ≡ record r { regions = regions } → q ≡ p
pages-again regions r p q rest own on =
    on ∙ ap (λ (x : Pages). record x { regions = regions }) rest ∙ ap (λ rs. record p { regions = rs }) (sym own)

descriptors-again : (regions : _) (r p q : Descriptors) → r ≡ record p { regions = [] } → p.regions ≡ regions → q ≡ record r { regions = regions } → q ≡ p
descriptors-again regions r p q rest own on =
    on ∙ ap (λ (x : Descriptors). record x { regions = regions }) rest ∙ ap (λ rs. record p { regions = rs }) (sym own)

-- a stage that was put aside and goes on is as it was
pub alike-again : {A : Type 0} (given : Guest) (entry : List ℕ) (r : Rest A) (s t : Stage A) → IsRest given r s → IsOn given r t → IsAlike given entry s t
alike-again given entry (rest.Pages b r) (stage.Pages c p) (stage.Pages d q) is on =
    alike-pages given entry c d p q (on.0 ∙ is.0) (pages-again (regions_of given) r p.value q.value is.1 is.2 on.1)
alike-again given entry (rest.Descriptors b r) (stage.Descriptors c p) (stage.Descriptors d q) is on =
    alike-descriptors given entry c d p q (on.0 ∙ is.0) (descriptors-again (regions_of given) r p q is.1 is.2 on.1)
alike-again given entry (rest.Ranges r) (stage.Ranges p) (stage.Ranges q) is on = alike-ranges given entry p q (on ∙ is)
alike-again given entry (rest.Pages b r) (stage.Refused _) t is on = elim is [ ]
alike-again given entry (rest.Pages b r) (stage.Bare _) t is on = elim is [ ]
alike-again given entry (rest.Pages b r) (stage.Named _ _) t is on = elim is [ ]
alike-again given entry (rest.Pages b r) (stage.Pages c p) (stage.Refused _) is on = elim on [ ]
alike-again given entry (rest.Pages b r) (stage.Pages c p) (stage.Bare _) is on = elim on [ ]
alike-again given entry (rest.Pages b r) (stage.Pages c p) (stage.Named _ _) is on = elim on [ ]
alike-again given entry (rest.Pages b r) (stage.Pages c p) (stage.Descriptors d q) is on = elim on [ ]
alike-again given entry (rest.Pages b r) (stage.Pages c p) (stage.Ranges q) is on = elim on [ ]
alike-again given entry (rest.Pages b r) (stage.Descriptors c p) t is on = elim is [ ]
alike-again given entry (rest.Pages b r) (stage.Ranges p) t is on = elim is [ ]
alike-again given entry (rest.Descriptors b r) (stage.Refused _) t is on = elim is [ ]
alike-again given entry (rest.Descriptors b r) (stage.Bare _) t is on = elim is [ ]
alike-again given entry (rest.Descriptors b r) (stage.Named _ _) t is on = elim is [ ]
alike-again given entry (rest.Descriptors b r) (stage.Pages c p) t is on = elim is [ ]
alike-again given entry (rest.Descriptors b r) (stage.Descriptors c p) (stage.Refused _) is on = elim on [ ]
alike-again given entry (rest.Descriptors b r) (stage.Descriptors c p) (stage.Bare _) is on = elim on [ ]
alike-again given entry (rest.Descriptors b r) (stage.Descriptors c p) (stage.Named _ _) is on = elim on [ ]
alike-again given entry (rest.Descriptors b r) (stage.Descriptors c p) (stage.Pages d q) is on = elim on [ ]
alike-again given entry (rest.Descriptors b r) (stage.Descriptors c p) (stage.Ranges q) is on = elim on [ ]
alike-again given entry (rest.Descriptors b r) (stage.Ranges p) t is on = elim is [ ]
alike-again given entry (rest.Ranges r) (stage.Refused _) t is on = elim is [ ]
alike-again given entry (rest.Ranges r) (stage.Bare _) t is on = elim is [ ]
alike-again given entry (rest.Ranges r) (stage.Named _ _) t is on = elim is [ ]
alike-again given entry (rest.Ranges r) (stage.Pages c p) t is on = elim is [ ]
alike-again given entry (rest.Ranges r) (stage.Descriptors c p) t is on = elim is [ ]
alike-again given entry (rest.Ranges r) (stage.Ranges p) (stage.Refused _) is on = elim on [ ]
alike-again given entry (rest.Ranges r) (stage.Ranges p) (stage.Bare _) is on = elim on [ ]
alike-again given entry (rest.Ranges r) (stage.Ranges p) (stage.Named _ _) is on = elim on [ ]
alike-again given entry (rest.Ranges r) (stage.Ranges p) (stage.Pages d q) is on = elim on [ ]
alike-again given entry (rest.Ranges r) (stage.Ranges p) (stage.Descriptors d q) is on = elim on [ ]

-- ---- the plan under way

-- what a plan was that was put aside it is again
pub under_way-again : {A : Type 0} (given : Guest) (r : Rest A) (job : Job) (e : Draft A) → IsAside given r job → given_of e.given ≡ given → e.sqe ≡ job.sqe
    → IsOn given r e.stage → IsUnderWay e job
under_way-again {A} given r job e aside own entry on =
    let d = aside.draft in
    let u = aside.under_way in
    let same : given_of e.given ≡ given_of d.given = own ∙ sym aside.own in
    let like = alike-again given e.sqe r d.stage e.stage aside.rest on in
    let sound : IsSoundStage given e.sqe d.stage =
    subst (λ (g : Guest). IsSoundStage g e.sqe d.stage) aside.own (subst (λ (x : List ℕ). IsSoundStage (given_of d.given) x d.stage) (u.same ∙ sym entry) u.sound) in
    let left : left_to_read e ≡ left_to_read d =
    ap (λ (g : Guest). ahead_at (blocks_in g.namespace) e.sqe e.stage) own ∙ like.left
    ∙ ap (λ (g : Guest). ahead_at (blocks_in g.namespace) e.sqe d.stage) (sym aside.own)
    ∙ ap (λ (x : List ℕ). ahead_at (blocks_in (given_of d.given).namespace) x d.stage) (entry ∙ sym u.same) in
    record {
      same = entry;
      sound = subst (λ (g : Guest). IsSoundStage g e.sqe e.stage) (sym own) (like.sound sound);
      left = u.left;
      comes = λ more.
          ap (λ x. in_transcript x [] (u.left ++ more)) left ∙ u.comes more
          ∙ ap (λ (g : Guest). in_transcript (judge (mapped (regions_of g)) g.limit (blocks_in g.namespace) job.sqe) [] (job.reads ++ more)) (sym same);
      unmet = subst (λ a. IsUnmet a u.left) (sym like.next) u.unmet;
    }
