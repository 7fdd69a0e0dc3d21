-- Passes one after another: over many parts, and over two.
use Rattle.std.proofs.Common.{◌≡◌, refl, sym, subst, ℕ, ◌+◌, ◌-◌, ◌^◌, ◌<◌, ◌≤◌, ◌⊎◌, false, true, arith, below_more, inl, inr}
use Rattle.std.proofs.lemmas.Bool.{cases_eq, cases_lt}
use Rattle.std.specs.Bool.{⊤}
use Rattle.nv_host.proofs.Works.{ended-after, ended-enough, ended-few, ended-so, leads_more, leads_none, leads_zero}
use Rattle.nv_host.specs.Passes.{IsPass, IsRoundOf}
use Rattle.nv_host.specs.Work.{HasEnded, IsWorked, Leads, Rests, Scene}
use Rattle.nv_host.specs.declared.worked.Round.{Round}
use Rattle.nv_host.specs.declared.worked.Scope.{Scope}
use Rattle.nv_host.specs.declared.worked.Why.{Why}
use Rattle.nv_host.specs.declared.worked.Why.TheVariants as why
use Rattle.nv_host.specs.declared.worked.Worked.{Worked}

-- what is known after some parts: where nothing was done, nothing was found in those below
pub record IsRound (sc : Scope) (most done i : ℕ) (P : Scene → ℕ → Type 0) (a b : Scene) : Type 0 where
  pub leads : Leads sc done a b
  pub few : done ≤ most
  pub rests : done ≡ 0 → (k : ℕ) → k < i → P a k

-- so many events, and nothing that stopped them
abbrev pub far : ℕ → Worked
far done = record { done = done; why = why.Enough }

-- these after so many
abbrev pub behind : ℕ → Worked → Worked
behind done w = record { done = done + w.done; why = w.why }

-- ---- one part

pub pass-far : (sc : Scope) (nothing : Type 0) (most done : ℕ) (w : Worked) (a b : Scene) → w ≡ far done → Leads sc done a b → done ≤ most
    → (done ≡ 0 → nothing) → IsPass sc nothing most w a b
pass-far sc nothing most done w a b e leads few none = subst (λ (x : Worked). IsPass sc nothing most x a b) (sym e) (leads, few, none)

-- nothing was there to do
pub pass-none : (sc : Scope) (nothing : Type 0) (most : ℕ) (w : Worked) (a b : Scene) → w ≡ far 0 → b ≡ a → nothing → IsPass sc nothing most w a b
pass-none sc nothing most w a b e same none = pass-far sc nothing most 0 w a b e (leads_none sc a b same) (omega arith) (λ zero. none)

-- some events were made, so nothing is said of none
pub pass-some : (sc : Scope) (nothing : Type 0) (most : ℕ) (w : Worked) (a b : Scene) → IsPass sc ⊥ most w a b → IsPass sc nothing most w a b
pass-some sc nothing most w a b pass =
    ended-so sc most w.done (w.done ≡ 0 → nothing) (w.done ≡ 0 → ⊥) w.why a b pass (λ some zero. absurd (some zero))

-- after some events
pub pass-after : (sc : Scope) (nothing rest : Type 0) (most done : ℕ) (w whole : Worked) (a b c : Scene) → whole ≡ behind done w → Leads sc done a b → done ≤ most
    → HasEnded sc (most - done) w.done rest w.why b c → (w.why ≡ why.Enough → rest → done + w.done ≡ 0 → nothing) → IsPass sc nothing most whole a c
pass-after sc nothing rest most done w whole a b c e leads few ended so =
    subst (λ (x : Worked). IsPass sc nothing most x a c) (sym e)
    (ended-after sc most done w.done (done + w.done ≡ 0 → nothing) rest w.why a b c leads few ended so)

pub after-fits : (sc : Scope) (most done : ℕ) (rest : Type 0) (w : Worked) (b c : Scene) → HasEnded sc (most - done) w.done rest w.why b c → done ≤ most
    → most < 2 ^ 64 → done + w.done < 2 ^ 64
after-fits sc most done rest w b c ended few small =
    let within = ended-few sc (most - done) w.done rest w.why b c ended in
    omega (arith, within, few, small)

-- ---- many parts

pub round-none : (sc : Scope) (most : ℕ) (P : Scene → ℕ → Type 0) (a : Scene) → IsRound sc most 0 0 P a a
round-none sc most P a = record { leads = leads_none sc a a refl; few = omega arith; rests = λ zero k below. absurd (omega (arith, below)) }

module _ (sc : Scope) (most done i : ℕ) (P : Scene → ℕ → Type 0) (a b c : Scene) (so_far : IsRound sc most done i P a b) where
  rests-more : (more : ℕ) → (more ≡ 0 → P b i) → done + more ≡ 0 → (k : ℕ) → k < i + 1 → P a k
  rests-more more here zero =
      below_more (P a) i (so_far.rests (omega (arith, zero)))
      (subst (λ (x : Scene). P x i) (leads_zero sc a b done so_far.leads (omega (arith, zero))) (here (omega (arith, zero))))

  -- one part more
  pub round-on : (w whole : Worked) → whole ≡ behind done w → HasEnded sc (most - done) w.done (w.done ≡ 0 → P b i) w.why b c → w.why ≡ why.Enough
      → IsRound sc most whole.done (i + 1) P a c
  round-on w whole e ended on =
      let few = so_far.few in
      let all = ended-after sc most done w.done (w.done ≡ 0 → P b i) (w.done ≡ 0 → P b i) w.why a b c so_far.leads few ended (λ is x. x) in
      let enough = ended-enough sc most (done + w.done) (w.done ≡ 0 → P b i) w.why a c all on in
      subst (λ (x : Worked). IsRound sc most x.done (i + 1) P a c) (sym e)
      (record { leads = enough.0; few = enough.1; rests = rests-more w.done enough.2 })

  -- so many events more
  pub round-count : (more : ℕ) → Leads sc more b c → done + more ≤ most → (more ≡ 0 → P b i) → IsRound sc most (done + more) (i + 1) P a c
  round-count more leads few here =
      record { leads = leads_more sc done more a b c so_far.leads leads; few = few; rests = rests-more more here }

  -- one that ended the call
  pub round-stop : (nothing : Type 0) (w whole : Worked) → whole ≡ behind done w → HasEnded sc (most - done) w.done (w.done ≡ 0 → P b i) w.why b c
      → (w.why ≡ why.Enough → ⊥) → IsPass sc nothing most whole a c
  round-stop nothing w whole e ended stops =
      pass-after sc nothing (w.done ≡ 0 → P b i) most done w whole a b c e so_far.leads so_far.few ended (λ is x zero. absurd (stops is))

module _ (sc : Scope) (most done i : ℕ) (P : Scene → ℕ → Type 0) (a b : Scene) (so_far : IsRound sc most done i P a b) where
  -- some were made
  pub round-full : (nothing : Type 0) (turn : ℕ) (w : Worked) → w ≡ far done → turn ≤ done → 0 < turn → IsPass sc nothing most w a b
  round-full nothing turn w e full some =
      pass-far sc nothing most done w a b e so_far.leads so_far.few (λ zero. absurd (omega (arith, zero, full, some)))

  -- all parts
  pub round-end : (nothing : Type 0) (w : Worked) → w ≡ far done → (((k : ℕ) → k < i → P a k) → nothing) → IsPass sc nothing most w a b
  round-end nothing w e so = pass-far sc nothing most done w a b e so_far.leads so_far.few (λ zero. so (so_far.rests zero))

  -- parts that are passed by, since nothing is found in them
  pub round-skip : (j : ℕ) → ((k : ℕ) → i ≤ k → k < j → P b k) → IsRound sc most done j P a b
  round-skip j none =
      record {
        leads = so_far.leads;
        few = so_far.few;
        rests = λ zero k below.
            elim (cases_lt k i) [
              | inl low ↦ so_far.rests zero k low
              | inr high ↦ subst (λ (x : Scene). P x k) (leads_zero sc a b done so_far.leads zero) (none k high below)
            ];
      }

  -- a part with nothing, or with one event
  pub round-same : (c : Scene) → c ≡ b → P b i → IsRound sc most done (i + 1) P a c
  round-same c same here =
      record {
        leads = subst (λ (x : Scene). Leads sc done a x) (sym same) so_far.leads;
        few = so_far.few;
        rests = λ zero. below_more (P a) i (so_far.rests zero) (subst (λ (x : Scene). P x i) (leads_zero sc a b done so_far.leads zero) here);
      }

-- ---- two parts

module _ (sc : Scope) (nothing first : Type 0) (most : ℕ) (w : Worked) (a b : Scene) (one : HasEnded sc most w.done (w.done ≡ 0 → first) w.why a b) where
  -- nothing comes after the first
  pub two-first : (turn : ℕ) → (w.why ≡ why.Enough → turn ≤ w.done) → 0 < turn → IsPass sc nothing most w a b
  two-first turn ends some = by w.why refl one
    where
      by : (y : Why) → w.why ≡ y → HasEnded sc most w.done (w.done ≡ 0 → first) y a b → HasEnded sc most w.done (w.done ≡ 0 → nothing) y a b
      by why.Enough is ended = (ended.0, ended.1, λ zero. (let full = ends is in absurd (omega (arith, zero, full, some))))
      by why.Starved is ended = ended
      by why.GaveUp is ended = ended
      by (why.Stray lane) is ended = ended

  pub first-leads : w.why ≡ why.Enough → Leads sc w.done a b × (w.done ≤ most) × (w.done ≡ 0 → first)
  first-leads on = ended-enough sc most w.done (w.done ≡ 0 → first) w.why a b one on

  -- the second
  pub two-both : (second : Scene → Type 0) (v whole : Worked) (c : Scene) → w.why ≡ why.Enough → whole ≡ behind w.done v
      → HasEnded sc (most - w.done) v.done (v.done ≡ 0 → second b) v.why b c → (first → second a → nothing) → IsPass sc nothing most whole a c
  two-both second v whole c on e two so =
      let enough = first-leads on in
      pass-after sc nothing (v.done ≡ 0 → second b) most w.done v whole a b c e enough.0 enough.1 two
      (λ is rest zero.
      so (enough.2 (omega (arith, zero)))
      (subst second (leads_zero sc a b w.done enough.0 (omega (arith, zero))) (rest (omega (arith, zero)))))

-- ---- parts of which nothing is due after a round

-- one more, of which nothing was due
pub late-none : (P : Scene → ℕ → Type 0) (b c : Scene) (from i next : ℕ) → ((k : ℕ) → from ≤ k → k < i → P b k) → P b i → c ≡ b
    → ((k : ℕ) → i + 1 ≤ k → k < next → P c k) → (k : ℕ) → from ≤ k → k < next → P c k
late-none P b c from i next before here same after k low below = (elim (cases_lt k i) [
  | inl less ↦ subst (λ (x : Scene). P x k) (sym same) (before k low less)
  | inr high ↦
      (elim (cases_eq k i) [
        | inl is ↦ subst (λ (x : Scene). P x k) (sym same) (subst (P b) (sym is) here)
        | inr other ↦ after k (omega (arith, high, other)) below
      ])
])

-- a round of which it isn't known whether anything is left
pub round-of : (sc : Scope) (most : ℕ) (w : Worked) (round : Round) (a b : Scene) → round ≡ (let r : Round = record { worked = w; rests = false } in r)
    → IsPass sc (Rests sc a) most w a b → IsRoundOf sc most round a b
round-of sc most w round a b e pass =
    subst (λ (x : Round). IsRoundOf sc most x a b) (sym e) (record { pass = pass; rest = λ rests. cc })

-- ---- the whole

-- no round follows what came first, where something ended the call
pub first-stops : (sc : Scope) (part most : ℕ) (w : Worked) (a b : Scene) → IsPass sc ⊤ part w a b → part ≤ most → (w.why ≡ why.Enough → ⊥)
    → IsWorked sc most w a b
first-stops sc part most w a b pass within stops = by w.why stops pass
  where
    by : (y : Why) → (y ≡ why.Enough → ⊥) → HasEnded sc part w.done (w.done ≡ 0 → ⊤) y a b → HasEnded sc most w.done (w.done < most → Rests sc b) y a b
    by why.Enough on ended = absurd (on refl)
    by why.Starved on ended = (ended.0, (let few = ended.1 in omega (arith, few, within)), ended.2)
    by why.GaveUp on ended = (ended.0, (let few = ended.1 in omega (arith, few, within)))
    by (why.Stray lane) on ended = (ended.0, (let few = ended.1 in omega (arith, few, within)), ended.2)

-- no round follows one that found nothing or was ended
pub worked-end : (sc : Scope) (most done : ℕ) (w whole : Worked) (a b c : Scene) → whole ≡ behind done w → Leads sc done a b → done ≤ most
    → HasEnded sc (most - done) w.done (w.done ≡ 0 → Rests sc b) w.why b c → (w.why ≡ why.Enough → w.done ≡ 0) → IsWorked sc most whole a c
worked-end sc most done w whole a b c e leads few ended none =
    subst (λ (x : Worked). IsWorked sc most x a c) (sym e)
    (ended-after sc most done w.done (done + w.done < most → Rests sc c) (w.done ≡ 0 → Rests sc b) w.why a b c leads few ended
    (λ is rest less.
    (let zero = none is in
    let here = ended-enough sc (most - done) w.done (w.done ≡ 0 → Rests sc b) w.why b c ended is in
    subst (λ (x : Scene). Rests sc x) (sym (leads_zero sc b c w.done here.0 zero)) (rest zero))))

-- nor one after which nothing is left
pub round-last : (sc : Scope) (most done : ℕ) (round : Round) (whole : Worked) (a b c : Scene) → whole ≡ behind done round.worked → Leads sc done a b
    → done ≤ most → IsRoundOf sc (most - done) round b c → (round.rests ≡ true) ⊎ (round.worked.why ≡ why.Enough → round.worked.done ≡ 0)
    → IsWorked sc most whole a c
round-last sc most done round whole a b c e leads few is (inl rests) =
    let w : Worked = round.worked in
    subst (λ (x : Worked). IsWorked sc most x a c) (sym e)
    (ended-after sc most done w.done (done + w.done < most → Rests sc c) (w.done ≡ 0 → Rests sc b) w.why a b c leads few is.pass
    (λ on rest less. (is.rest rests).1))
round-last sc most done round whole a b c e leads few is (inr none) = worked-end sc most done round.worked whole a b c e leads few is.pass none

-- another may
pub worked-on : (sc : Scope) (most done : ℕ) (w whole : Worked) (a b c : Scene) → whole ≡ behind done w → Leads sc done a b → done ≤ most
    → HasEnded sc (most - done) w.done (w.done ≡ 0 → Rests sc b) w.why b c → w.why ≡ why.Enough → Leads sc whole.done a c × (whole.done ≤ most)
worked-on sc most done w whole a b c e leads few ended on =
    let rest : Type 0 = w.done ≡ 0 → Rests sc b in
    let all = ended-after sc most done w.done rest rest w.why a b c leads few ended (λ is x. x) in
    let enough = ended-enough sc most (done + w.done) rest w.why a c all on in
    subst (λ (x : Worked). Leads sc x.done a c × (x.done ≤ most)) (sym e) (enough.0, enough.1)

-- as many as were asked for
pub worked-all : (sc : Scope) (most done : ℕ) (w : Worked) (a b : Scene) → w ≡ far done → Leads sc done a b → done ≤ most → most ≤ done → IsWorked sc most w a b
worked-all sc most done w a b e leads few all =
    subst (λ (x : Worked). IsWorked sc most x a b) (sym e) (leads, few, λ less. absurd (omega (arith, less, all)))
