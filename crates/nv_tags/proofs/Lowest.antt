-- The lowest tags of a mask, one after another
use Rattle.std.proofs.Common.{◌≡◌, ℕ, zero, suc, ◌+◌, ◌^◌, ◌<◌, ◌≤◌, ◌==◌, ◌||◌, not, nat_le, cond, Bool, true, false, inl, inr, List, [], ◌∷◌}
use Rattle.std.proofs.Common.{Option, Some, None, is_some, count_ones, drop, length, take, arith, refl, sym, ap, ◌∙◌}
use Rattle.std.specs.Int.{bit_at, trailing_zeros, w64}
use Rattle.std.proofs.lemmas.Bool.{cases_eq, eq-eqb, eqb-true, le-leb, lt-leb, ne_eqb}
use Rattle.std.proofs.lemmas.List.{length-drop}
use Rattle.std.proofs.lemmas.Nat.Bits.{bit_at-trailing_zeros, bit_at-zero}
use Rattle.nv_tags.specs.Kept.{AreKept, IsMask, IsWith, is_free_at, slots_of, tags_in}
use Rattle.nv_tags.specs.Tags.{Slot, claimed, free_slot, free_slots, is_free, is_free_state, leader_in, lowest}
use Rattle.nv_tags.specs.declared.claim.Claim.{Claim}
use Rattle.nv_tags.specs.declared.state.TagState.{TagState}
use Rattle.nv_tags.proofs.Masks.{among-tags_in, is_set, ones-tags_in, tags_in-lowest, tags_in-zero, without-is}
use Rattle.nv_tags.proofs.Marks.{free-masked, marked-seen}
use Rattle.nv_tags.proofs.Rows.{holding-same, is_among, take-holding}
use Rattle.nv_tags.proofs.Slots.{slot-free}
use Rattle.nv_tags.proofs.Together.{claimed-one, found-free, single}

-- what a loop keeps: so many of the lowest tags of the mask are found, and those that are left are the others
pub record IsLowest (mask at found count : ℕ) (left : List ℕ) : Type 0 where
  pub most : at ≤ count
  pub enough : at ≤ length (tags_in mask)
  pub rest : left ≡ drop at (tags_in mask)
  pub bits : (t : ℕ) → t < 64 → is_set found t ≡ is_among (take at (tags_in mask)) t

pub IsLowest-none : (mask found count : ℕ) → found ≡ 0 → IsLowest mask 0 found count (tags_in mask)
IsLowest-none mask found count none =
    record {
      most = omega arith;
      enough = omega arith;
      rest = refl;
      bits = λ t below. ap (λ (n : ℕ). is_set n t) none ∙ ap (λ (n : ℕ). n == 1) (bit_at-zero t);
    }

-- one number more
drop-next : (at : ℕ) (xs : List ℕ) (x : ℕ) (rest : List ℕ) → drop at xs ≡ x ∷ rest → drop (suc at) xs ≡ rest
drop-next zero [] x rest is = (cc)
drop-next zero (y ∷ xs) x rest is = (cc)
drop-next (suc at) [] x rest is = (cc)
drop-next (suc at) (y ∷ xs) x rest is = drop-next at xs x rest is

take-next : (at : ℕ) (xs : List ℕ) (x : ℕ) (rest : List ℕ) (i : ℕ) → drop at xs ≡ x ∷ rest
    → is_among (take (suc at) xs) i ≡ (is_among (take at xs) i || x == i)
take-next zero [] x rest i is = (cc)
take-next zero (y ∷ xs) x rest i is = (let same : y ≡ x = (cc) in ap (λ (n : ℕ). n == i || false) same ∙ right_none (x == i))
  where
    right_none : (b : Bool) → (b || false) ≡ b
    right_none true = refl
    right_none false = refl
take-next (suc at) [] x rest i is = (cc)
take-next (suc at) (y ∷ xs) x rest i is = ap (λ (b : Bool). y == i || b) (take-next at xs x rest i is) ∙ joined (y == i) (is_among (take at xs) i) (x == i)
  where
    joined : (a b c : Bool) → (a || (b || c)) ≡ ((a || b) || c)
    joined true b c = refl
    joined false b c = refl

pub IsLowest-more : (mask at found count : ℕ) (left rest : List ℕ) (tag now next : ℕ) → IsLowest mask at found count left → at < count
    → left ≡ tag ∷ rest → IsWith found tag now → next ≡ at + 1 → IsLowest mask next now count rest
IsLowest-more mask at found count left rest tag now next so_far below front with one =
    let here : drop at (tags_in mask) ≡ tag ∷ rest = sym so_far.rest ∙ front in
    let long = length-drop at (tags_in mask) in
    let size = ap (λ (xs : List ℕ). length xs) here in
    let step : suc at ≡ next = omega arith in
    record {
      most = omega arith;
      enough = omega arith;
      rest = sym (drop-next at (tags_in mask) tag rest here) ∙ ap (λ (n : ℕ). drop n (tags_in mask)) step;
      bits = λ t low.
          ap (λ (n : ℕ). n == 1) (with t low)
          ∙ by_tag t (t == tag) refl
          ∙ ap (λ (b : Bool). b || tag == t) (so_far.bits t low)
          ∙ sym (take-next at (tags_in mask) tag rest t here)
          ∙ ap (λ (n : ℕ). is_among (take n (tags_in mask)) t) step;
    }
  where
    never : true ≡ false → ⊥
    never e = (cc)

    right_all : (b : Bool) → true ≡ (b || true)
    right_all true = refl
    right_all false = refl

    right_none : (b : Bool) → b ≡ (b || false)
    right_none true = refl
    right_none false = refl

    by_tag : (t : ℕ) (b : Bool) → t == tag ≡ b → cond b 1 (bit_at found t) == 1 ≡ (is_set found t || tag == t)
    by_tag t true same = right_all (is_set found t) ∙ ap (λ (b : Bool). is_set found t || b) (sym (eq-eqb tag t (sym (eqb-true t tag same))))
    by_tag t false other =
        right_none (is_set found t) ∙ ap (λ (b : Bool). is_set found t || b) (sym (ne_eqb tag t (λ e. never (sym (eq-eqb t tag (sym e)) ∙ other))))

-- as many as were asked for
pub IsLowest-all : (mask at found count : ℕ) (left : List ℕ) → IsLowest mask at found count left → count ≤ at
    → Some (tags_in found) ≡ lowest count (tags_in mask)
unfolding tags_in
IsLowest-all mask at found count left so_far all =
    let most = so_far.most in
    let enough = so_far.enough in
    let same : at ≡ count = omega arith in
    ap (λ (xs : List ℕ). Some xs)
    (holding-same (is_set found) (is_among (take at (tags_in mask))) 0 64 (λ t low below. so_far.bits t below)
    ∙ sym (take-holding (is_set mask) 0 64 at) ∙ ap (λ (n : ℕ). take n (tags_in mask)) same)
    ∙ sym (ap (λ (b : Bool). cond b (Some (take count (tags_in mask))) None) (le-leb count (length (tags_in mask)) (omega arith)))

-- fewer are there
pub IsLowest-few : (mask at found count : ℕ) (left : List ℕ) → IsLowest mask at found count left → at < count → left ≡ []
    → None ≡ lowest count (tags_in mask)
IsLowest-few mask at found count left so_far below over =
    let long = length-drop at (tags_in mask) in
    let size = ap (λ (xs : List ℕ). length xs) (sym so_far.rest ∙ over) in
    sym (ap (λ (b : Bool). cond b (Some (take count (tags_in mask))) None) (lt-leb count (length (tags_in mask)) (omega arith)))

-- ---- the lowest of a lane

-- tags of a mask that are the lowest free ones are free
pub found-idle : (states : List TagState) (free mask count : ℕ) → length states ≡ 64 → IsMask is_free_state states free
    → Some (tags_in mask) ≡ lowest count (tags_in free) → (t : ℕ) → t < 64 → is_set mask t ≡ true → is_free_at states t ≡ true
found-idle states free mask count many is found t below its =
    found-free states count (tags_in mask) t (found ∙ ap (lowest count) (free-masked states free many is)) (among-tags_in mask t below ∙ its)

-- the first free tag is the first of the free tags
lowest-one : (xs : List ℕ) → leader_in (lowest 1 xs) ≡ leader_in (Some xs)
lowest-one [] = refl
lowest-one (x ∷ xs) = ap (λ (b : Bool). leader_in (cond b (Some (x ∷ [])) None)) (le-leb 1 (suc (length xs)) (omega arith))

first-free : (slots : List Slot) (tags : List ℕ) → tags ≡ free_slots slots → leader_in (Some tags) ≡ free_slot slots
first-free slots tags are =
    ap (λ (xs : List ℕ). leader_in (Some xs)) are ∙ sym (lowest-one (free_slots slots)) ∙ ap leader_in (claimed-one slots) ∙ sym (single (free_slot slots))

module _ (states : List TagState) (claims : List Claim) (leaders groups : List ℕ) (kept : AreKept states claims leaders groups)
    (slots : List Slot) (seen : slots_of states claims leaders ≡ slots) (free : ℕ) (is : IsMask is_free_state states free) where
  free-seen : tags_in free ≡ free_slots slots
  free-seen = marked-seen states claims leaders groups kept slots seen is_free_state is_free free slot-free is

  -- those that are claimed
  pub lowest-seen : (count : ℕ) → lowest count (tags_in free) ≡ claimed count slots
  lowest-seen count = ap (lowest count) free-seen

  pub first-seen : (tags : List ℕ) → tags ≡ tags_in free → leader_in (Some tags) ≡ free_slot slots
  first-seen tags are = first-free slots tags (are ∙ free-seen)

  -- some tag is free
  pub any-seen : free < 2 ^ 64 → not (free == 0) ≡ is_some (free_slot slots)
  any-seen fits =
      (elim (cases_eq free 0) [
        | inl none ↦
            ap (λ (b : Bool). not b) (eq-eqb free 0 none)
            ∙ ap (λ (o : Option ℕ). is_some o) (first-seen [] (tags_in-zero free none))
        | inr some ↦
            (let lowest_at = bit_at-trailing_zeros w64 free (omega arith) fits in
            ap (λ (b : Bool). not b) (ne_eqb free 0 some)
            ∙ ap (λ (o : Option ℕ). is_some o)
            (first-seen _ (sym (tags_in-lowest free _ (omega arith) fits (without-is free (trailing_zeros w64 free) lowest_at.0)))))
      ])

  -- so many are free
  pub many-seen : (count : ℕ) → free < 2 ^ 64 → nat_le count (count_ones free) ≡ is_some (claimed count slots)
  many-seen count fits =
      ap (nat_le count) (ones-tags_in free fits ∙ ap (λ (xs : List ℕ). length xs) free-seen)
      ∙ told (nat_le count (length (free_slots slots)))
    where
      told : (b : Bool) → b ≡ is_some (cond b (Some (take count (free_slots slots))) None)
      told true = refl
      told false = refl
