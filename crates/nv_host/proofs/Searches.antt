-- Passes over the tags of a group, one after another.
use Rattle.std.proofs.Common.{◌≡◌, refl, sym, subst, ap, ◌∙◌, ℕ, ◌+◌, ◌-◌, ◌<◌, ◌≤◌, ◌||◌, ◌&&◌, ◌==◌, not, Bool, false, true, inl, inr, List, [], ◌∷◌, length, Option, None, Some, MatchOption, eqb-true, arith}
use Rattle.std.specs.List.{filter}
use Rattle.std.proofs.lemmas.List.Filters.{length-filter_both}
use Rattle.std.proofs.lemmas.Map.Views.{any-filter_same}
use Rattle.std.proofs.lemmas.Bool.{cases_eq, ne_eqb}
use Rattle.nv_host.proofs.Rounds.{IsRound, behind, far, pass-far, round-stop}
use Rattle.nv_host.proofs.Works.{ended-after, ended-enough, leads_more, leads_none, leads_zero}
use Rattle.nv_host.specs.Passes.{IsPass}
use Rattle.nv_host.specs.Work.{HasEnded, Leads, Scene}
use Rattle.nv_host.specs.declared.worked.Scope.{Scope}
use Rattle.nv_host.specs.declared.worked.Why.TheVariants as why
use Rattle.nv_host.specs.declared.worked.Worked.{Worked}
use Rattle.nv_tags.proofs.Rows.{is_among}

-- what is known while some tags are left: where nothing was done, nothing was found in the others
pub record IsSearch (sc : Scope) (most done : ℕ) (left : List ℕ) (P : Scene → ℕ → Type 0) (a b : Scene) : Type 0 where
  pub leads : Leads sc done a b
  pub few : done ≤ most
  pub rests : done ≡ 0 → (k : ℕ) → is_among left k ≡ false → P a k

-- none is left where none is taken
pub none-left : (first : Option ℕ) (all left : List ℕ) → first ≡ None → MatchOption first (all ≡ []) (λ t. all ≡ t ∷ left) → all ≡ []
none-left None all left is none = none
none-left (Some t) all left is some = cc

pub search-none : (sc : Scope) (most : ℕ) (left : List ℕ) (P : Scene → ℕ → Type 0) (a : Scene) → ((k : ℕ) → is_among left k ≡ false → P a k)
    → IsSearch sc most 0 left P a a
search-none sc most left P a none = record { leads = leads_none sc a a refl; few = omega arith; rests = λ zero. none }

module _ (sc : Scope) (most done tag : ℕ) (left rest : List ℕ) (P : Scene → ℕ → Type 0) (a b c : Scene) (so_far : IsSearch sc most done left P a b)
    (popped : left ≡ tag ∷ rest) where
  rests-more : (more : ℕ) → (more ≡ 0 → P b tag) → done + more ≡ 0 → (k : ℕ) → is_among rest k ≡ false → P a k
  rests-more more here zero k out =
      (elim (cases_eq k tag) [
        | inl same ↦
            subst (P a) (sym same)
            (subst (λ (x : Scene). P x tag) (leads_zero sc a b done so_far.leads (omega (arith, zero))) (here (omega (arith, zero))))
        | inr other ↦
            so_far.rests (omega (arith, zero)) k
            (ap (λ (xs : List ℕ). is_among xs k) popped ∙ ap (λ (x : Bool). x || is_among rest k) (ne_eqb tag k (λ e. other (sym e))) ∙ out)
      ])

  -- one tag more
  pub search-on : (w whole : Worked) → whole ≡ behind done w → HasEnded sc (most - done) w.done (w.done ≡ 0 → P b tag) w.why b c → w.why ≡ why.Enough
      → IsSearch sc most whole.done rest P a c
  search-on w whole e ended on =
      let few = so_far.few in
      let all = ended-after sc most done w.done (w.done ≡ 0 → P b tag) (w.done ≡ 0 → P b tag) w.why a b c so_far.leads few ended (λ is x. x) in
      let enough = ended-enough sc most (done + w.done) (w.done ≡ 0 → P b tag) w.why a c all on in
      subst (λ (x : Worked). IsSearch sc most x.done rest P a c) (sym e)
      (record { leads = enough.0; few = enough.1; rests = rests-more w.done enough.2 })

  -- so many events more
  pub search-count : (more : ℕ) → Leads sc more b c → done + more ≤ most → (more ≡ 0 → P b tag) → IsSearch sc most (done + more) rest P a c
  search-count more leads few here =
      record { leads = leads_more sc done more a b c so_far.leads leads; few = few; rests = rests-more more here }

  -- a tag of which nothing is due
  pub search-same : c ≡ b → P b tag → IsSearch sc most done rest P a c
  search-same same here =
      record {
        leads = subst (λ (x : Scene). Leads sc done a x) (sym same) so_far.leads;
        few = so_far.few;
        rests = λ zero. rests-more 0 (λ none. here) (omega (arith, zero));
      }

  -- one that ended the call
  pub search-stop : (nothing : Type 0) (w whole : Worked) → whole ≡ behind done w → HasEnded sc (most - done) w.done (w.done ≡ 0 → P b tag) w.why b c
      → (w.why ≡ why.Enough → ⊥) → IsPass sc nothing most whole a c
  search-stop nothing w whole e ended stops =
      (let round : IsRound sc most done 0 (λ (s : Scene) (k : ℕ). P s tag) a b =
      record { leads = so_far.leads; few = so_far.few; rests = λ zero k below. absurd (omega (arith, below)) } in
      round-stop sc most done 0 (λ (s : Scene) (k : ℕ). P s tag) a b c round nothing w whole e ended stops)

module _ (sc : Scope) (most done : ℕ) (left : List ℕ) (P : Scene → ℕ → Type 0) (a b : Scene) (so_far : IsSearch sc most done left P a b) where
  -- some were made
  pub search-full : (nothing : Type 0) (turn : ℕ) (w : Worked) → w ≡ far done → turn ≤ done → 0 < turn → IsPass sc nothing most w a b
  search-full nothing turn w e full some =
      pass-far sc nothing most done w a b e so_far.leads so_far.few (λ zero. absurd (omega (arith, zero, full, some)))

  -- all tags
  pub search-end : left ≡ [] → (nothing : Type 0) (w : Worked) → w ≡ far done → (((k : ℕ) → P a k) → nothing) → IsPass sc nothing most w a b
  search-end none nothing w e so =
      pass-far sc nothing most done w a b e so_far.leads so_far.few
      (λ zero. so (λ k. so_far.rests zero k (ap (λ (xs : List ℕ). is_among xs k) none)))

-- tags that are passed by, since nothing is found in them either
pub search-drop : (sc : Scope) (most done : ℕ) (left others rest : List ℕ) (P : Scene → ℕ → Type 0) (a b : Scene) → IsSearch sc most done left P a b
    → rest ≡ filter (λ t. not (is_among others t)) left → ((k : ℕ) → is_among others k ≡ true → P b k) → IsSearch sc most done rest P a b
search-drop sc most done left others rest P a b so_far are none =
    record { leads = so_far.leads; few = so_far.few; rests = λ zero k out. by zero k out (is_among others k) refl }
  where
    among : (k : ℕ) → is_among rest k ≡ (not (is_among others k) && is_among left k)
    among k =
        ap (λ (xs : List ℕ). is_among xs k) are
        ∙ any-filter_same (λ x. x == k) (λ t. not (is_among others t)) (not (is_among others k))
        (λ x same. ap (λ (n : ℕ). not (is_among others n)) (eqb-true x k same)) left

    by : done ≡ 0 → (k : ℕ) → is_among rest k ≡ false → (x : Bool) → is_among others k ≡ x → P a k
    by zero k out true is = subst (λ (x : Scene). P x k) (leads_zero sc a b done so_far.leads zero) (none k is)
    by zero k out false is =
        so_far.rests zero k (sym (among k ∙ ap (λ (x : Bool). not x && is_among left k) is) ∙ out)

pub fewer : (others left rest : List ℕ) → rest ≡ filter (λ t. not (is_among others t)) left → length rest ≤ length left
fewer others left rest are =
    let all = length-filter_both (λ t. not (is_among others t)) (is_among others) (λ t. twice (is_among others t)) left in
    let same : length rest ≡ length (filter (λ t. not (is_among others t)) left) = ap (λ (xs : List ℕ). length xs) are in
    omega (arith, all, same)
  where
    twice : (x : Bool) → x ≡ not (not x)
    twice true = refl
    twice false = refl
