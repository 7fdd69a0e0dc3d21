-- Worlds of which several tags of a lane have become the same: those, and all others.
use Rattle.std.proofs.Common.{◌≡◌, ℕ, ◌⊎◌, inl, inr, Bool, true, false, ◌||◌, ◌==◌, List, [], ◌∷◌, All, slice_get, Option}
use Rattle.std.proofs.Common.{Some, None, refl, sym, ap, ◌∙◌, eq-eqb, eqb-true, subst}
use Rattle.std.specs.List.{list_any}
use Rattle.std.proofs.lemmas.Bool.{cases_eq, ne_eqb}
use Rattle.std.proofs.lemmas.List.Elements.{All-head, All-tail}
use Rattle.nv_world_model.specs.World.{Lane, Tag, World, changed_at, tag_changed, tag_in, tag_of, with_tag, with_tags}
use Rattle.nv_world_model.proofs.Seats.{slice_get-set-other}
use Rattle.nv_laws_sound.proofs.Commands.{tag-here}
use Rattle.nv_laws_sound.proofs.CountedActs.{HasLane, lane-of}
use Rattle.nv_laws_sound.proofs.Folds.{tag_of-other}
use Rattle.nv_laws_sound.proofs.Retags.{with_tag-is}

-- whether a tag is one of these
abbrev pub touched : List ℕ → (b : ℕ) → Bool
touched ns b = list_any (λ n. n == b) ns

pub all-touched : (P : ℕ → Type 0) (ns : List ℕ) (b : ℕ) → All P ns → touched ns b ≡ true → P b
all-touched P [] b each is = cc
all-touched P (n ∷ ns) b each is =
    (elim (n == b) as (λ c. (n == b) ≡ c → (c || touched ns b) ≡ true → P b) [
      | true ↦ λ same any. subst P (eqb-true n b same) (All-head P n ns each)
      | false ↦ λ other any. all-touched P ns b (All-tail P n ns each) any
    ]) refl is

pub first-touched : (n : ℕ) (ns : List ℕ) → touched (n ∷ ns) n ≡ true
first-touched n ns = ap (λ c. c || touched ns n) (eq-eqb n n refl)

or-later : (c d : Bool) → d ≡ true → (c || d) ≡ true
or-later true d e = refl
or-later false d e = e

-- none of them is one that they all differ from
pub none-touched : (n : ℕ) (ns : List ℕ) → All (λ m. (m == n) ≡ false) ns → touched ns n ≡ false
none-touched n [] each = refl
none-touched n (m ∷ ms) each =
    ap (λ c. c || touched ms n) (All-head (λ m. (m == n) ≡ false) m ms each) ∙ none-touched n ms (All-tail (λ m. (m == n) ≡ false) m ms each)

-- ---- one tag

lane-away : (o : Option Lane) (lanes : List Lane) (lane a : ℕ) (change : Lane → Lane) → (a == lane) ≡ false
    → slice_get (changed_at o lane change lanes) a ≡ slice_get lanes a
lane-away None lanes lane a change apart = refl
lane-away (Some l) lanes lane a change apart = slice_get-set-other lanes lane a (change l) apart

pub with_tag-away : (w : World) (lane tag : ℕ) (now : Tag) (a b : ℕ) → ((a ≡ lane) → (b ≡ tag) → ⊥) → tag_of (with_tag lane tag now w) a b ≡ tag_of w a b
with_tag-away w lane tag now a b apart =
    elim (cases_eq a lane) [
      | inl same ↦
          subst (λ x. tag_of (with_tag lane tag now w) x b ≡ tag_of w x b) (sym same) (tag_of-other w lane tag b now (ne_eqb b tag (apart same)))
      | inr other ↦ ap (λ o. tag_in o b) (lane-away (slice_get w.lanes lane) w.lanes lane a (tag_changed tag now) (ne_eqb a lane other))
    ]

pub with_tag-here : (w : World) (lane tag : ℕ) (t now : Tag) → tag_of w lane tag ≡ Some t → tag_of (with_tag lane tag now w) lane tag ≡ Some now
with_tag-here w lane tag t now there =
    let l : HasLane w lane tag t = lane-of w lane tag t there in
    ap (λ (z : World). tag_of z lane tag) (with_tag-is lane tag now w l.l l.at)
    ∙ tag-here w.lanes lane tag l.l (tag_changed tag now l.l) t now l.at l.found refl

-- ---- several

pub with_tags-rest : (lane : ℕ) (ns : List ℕ) (now : Tag) (w : World) → with_tags lane ns now w ≡ record w { lanes = (with_tags lane ns now w).lanes }
unfolding with_tags
with_tags-rest lane [] now w = refl
with_tags-rest lane (n ∷ ns) now w = with_tags-rest lane ns now (with_tag lane n now w)

pub with_tags-away : (lane : ℕ) (ns : List ℕ) (now : Tag) (w : World) (a b : ℕ) → ((a ≡ lane) → touched ns b ≡ true → ⊥)
    → tag_of (with_tags lane ns now w) a b ≡ tag_of w a b
unfolding with_tags
with_tags-away lane [] now w a b apart = refl
with_tags-away lane (n ∷ ns) now w a b apart =
    with_tags-away lane ns now (with_tag lane n now w) a b (λ same is. apart same (or-later (n == b) (touched ns b) is))
    ∙ with_tag-away w lane n now a b (λ same also. apart same (ap (λ c. c || touched ns b) (eq-eqb n b (sym also))))

pub with_tags-here : (lane : ℕ) (ns : List ℕ) (now : Tag) (w : World) (b : ℕ) (t : Tag) → touched ns b ≡ true → tag_of w lane b ≡ Some t
    → tag_of (with_tags lane ns now w) lane b ≡ Some now
unfolding with_tags
with_tags-here lane [] now w b t is there = cc
with_tags-here lane (n ∷ ns) now w b t is there =
    (elim (touched ns b) as (λ c. touched ns b ≡ c → tag_of (with_tags lane ns now (with_tag lane n now w)) lane b ≡ Some now) [
      | true ↦ λ later. (let u = still (cases_eq b n) in with_tags-here lane ns now (with_tag lane n now w) b u.0 later u.1)
      | false ↦ λ never. last never
    ]) refl
  where
    still : (b ≡ n) ⊎ (b ≡ n → ⊥) → (u : Tag) × (tag_of (with_tag lane n now w) lane b ≡ Some u)
    still (inl same) =
        (now, subst (λ m. tag_of (with_tag lane m now w) lane b ≡ Some now) same (with_tag-here w lane b t now there))
    still (inr other) = (t, with_tag-away w lane n now lane b (λ same also. other also) ∙ there)

    first : (c : Bool) → (c || false) ≡ true → c ≡ true
    first true e = refl
    first false e = e

    last : touched ns b ≡ false → tag_of (with_tags lane ns now (with_tag lane n now w)) lane b ≡ Some now
    last never =
        let same : n ≡ b = eqb-true n b (first (n == b) (ap (λ d. (n == b) || d) (sym never) ∙ is)) in
        with_tags-away lane ns now (with_tag lane n now w) lane b (λ here any. (let bad : true ≡ false = sym any ∙ never in cc))
        ∙ subst (λ m. tag_of (with_tag lane m now w) lane b ≡ Some now) (sym same) (with_tag-here w lane b t now there)
