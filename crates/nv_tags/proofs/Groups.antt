-- What is kept of the groups of a lane, as tags are claimed and released
use Rattle.std.proofs.Common.{◌≡◌, ℕ, zero, suc, ◌<◌, ◌==◌, ◌&&◌, ◌||◌, not, cond, Bool, true, false, ◌⊎◌, inl, inr, List, [], ◌∷◌}
use Rattle.std.proofs.Common.{length, length-set, map, replicate, set, slice_index, slice_index_or, arith, refl, sym, ap, ◌∙◌, subst}
use Rattle.std.specs.Int.{bit_at}
use Rattle.std.proofs.lemmas.Bool.{cases_eq, eq-eqb, ne_eqb}
use Rattle.std.proofs.lemmas.List.{get_or-replicate, get_or-set_other, get_or-set_same}
use Rattle.std.proofs.lemmas.Nat.Bits.{bit_at-lt, bit_at-zero}
use Rattle.nv_entry.specs.Status.{bit}
use Rattle.nv_tags.specs.Kept.{AreKept, IsWithout, is_behind, is_free_at, slots_of}
use Rattle.nv_tags.specs.Tags.{Free, Slot, command_of, is_free_state, set_each, slot_at}
use Rattle.nv_tags.specs.Tags.{slot_of}
use Rattle.nv_tags.specs.declared.claim.Claim.{Claim}
use Rattle.nv_tags.specs.declared.state.TagState.{TagState}
use Rattle.nv_tags.specs.declared.state.TagState.TheVariants as state
use Rattle.nv_tags.proofs.Masks.{is_set}
use Rattle.nv_tags.proofs.Rows.{is_among}
use Rattle.nv_tags.proofs.Slots.{slots_of-set}

-- ---- what is read after a write

pub read-set : {X : Type 0} (xs : List X) (at i : ℕ) (x d : X) → at < length xs
    → slice_index_or (set xs at x) i d ≡ cond (i == at) x (slice_index_or xs i d)
read-set xs at i x d within =
    (elim (cases_eq i at) [
      | inl same ↦
          ap (λ (n : ℕ). slice_index_or (set xs at x) n d) same ∙ get_or-set_same xs at x d within
          ∙ sym (ap (λ (b : Bool). cond b x (slice_index_or xs i d)) (eq-eqb i at same))
      | inr other ↦
          get_or-set_other xs at i x d other ∙ sym (ap (λ (b : Bool). cond b x (slice_index_or xs i d)) (ne_eqb i at other))
    ])

free-set : (states : List TagState) (at i : ℕ) (s : TagState) → at < length states
    → is_free_at (set states at s) i ≡ cond (i == at) (is_free_state s) (is_free_at states i)
free-set states at i s within =
    ap is_free_state (read-set states at i s state.Free within)
    ∙ inside (i == at) s (slice_index_or states i state.Free)
  where
    inside : (b : Bool) (x y : TagState) → is_free_state (cond b x y) ≡ cond b (is_free_state x) (is_free_state y)
    inside true x y = refl
    inside false x y = refl

pub length-set_each : {X : Type 0} (places : List ℕ) (x : X) (xs : List X) → length (set_each places x xs) ≡ length xs
length-set_each [] x xs = refl
length-set_each (at ∷ places) x xs = length-set_each places x (set xs at x) ∙ length-set xs at x

-- of several places
pub read-set_each : {X : Type 0} (places : List ℕ) (x : X) (xs : List X) (i : ℕ) (d : X) → i < length xs
    → slice_index_or (set_each places x xs) i d ≡ cond (is_among places i) x (slice_index_or xs i d)
read-set_each [] x xs i d within = refl
read-set_each {X = X} (at ∷ places) x xs i d within =
    (let size = length-set xs at x in
    let behind = read-set_each places x (set xs at x) i d (omega arith) in
    elim (cases_eq at i) [
      | inl same ↦
          behind
          ∙ ap (λ (y : X). cond (is_among places i) x y)
          (ap (λ (n : ℕ). slice_index_or (set xs n x) i d) same ∙ get_or-set_same xs i x d within)
          ∙ either (is_among places i) x
          ∙ sym (ap (λ (b : Bool). cond (b || is_among places i) x (slice_index_or xs i d)) (eq-eqb at i same))
      | inr other ↦
          behind
          ∙ ap (λ (y : X). cond (is_among places i) x y) (get_or-set_other xs at i x d (λ e. other (sym e)))
          ∙ sym (ap (λ (b : Bool). cond (b || is_among places i) x (slice_index_or xs i d)) (ne_eqb at i other))
    ])
  where
    either : {Y : Type 0} (b : Bool) (y : Y) → cond b y y ≡ y
    either true y = refl
    either false y = refl

-- tags whose state, claim and leader are set, each to one
pub slots_of-set_each : (tags : List ℕ) (s : TagState) (c : Claim) (l : ℕ) (states : List TagState) (claims : List Claim) (leaders : List ℕ)
    → length states ≡ length claims → length states ≡ length leaders
    → slots_of (set_each tags s states) (set_each tags c claims) (set_each tags l leaders)
    ≡ set_each tags (slot_of s (command_of c l)) (slots_of states claims leaders)
slots_of-set_each [] s c l states claims leaders same too = refl
slots_of-set_each (tag ∷ tags) s c l states claims leaders same too =
    let a = length-set states tag s in
    let b = length-set claims tag c in
    let d = length-set leaders tag l in
    slots_of-set_each tags s c l (set states tag s) (set claims tag c) (set leaders tag l) (omega arith) (omega arith)
    ∙ ap (set_each tags (slot_of s (command_of c l))) (slots_of-set states claims leaders tag s c l same too)

-- slots that are alike at each place
pub same-slots : (xs ys : List Slot) → length xs ≡ length ys → ((i : ℕ) → i < length xs → slot_at xs i ≡ slot_at ys i) → xs ≡ ys
same-slots [] [] long same = refl
same-slots [] (y ∷ ys) long same = absurd (omega arith)
same-slots (x ∷ xs) [] long same = absurd (omega arith)
same-slots (x ∷ xs) (y ∷ ys) long same =
    let first : x ≡ y = same 0 (omega arith) in
    let rest = same-slots xs ys (omega arith) (λ i below. same (suc i) (omega arith)) in
    cc

pub slot_at-map : (f : Slot → Slot) (xs : List Slot) (i : ℕ) → f Free ≡ Free → slot_at (map f xs) i ≡ f (slot_at xs i)
slot_at-map f [] i none = sym none
slot_at-map f (x ∷ xs) zero none = refl
slot_at-map f (x ∷ xs) (suc i) none = slot_at-map f xs i none

-- a tag, as it is read
slot_at-read : (slots : List Slot) (tag : ℕ) → slot_at slots tag ≡ slice_index_or slots tag Free
slot_at-read [] tag = refl
slot_at-read (s ∷ slots) zero = refl
slot_at-read (s ∷ slots) (suc tag) = slot_at-read slots tag

-- after a write, and after several
pub slot_at-set : (slots : List Slot) (at t : ℕ) (s : Slot) → at < length slots
    → slot_at (set slots at s) t ≡ cond (t == at) s (slot_at slots t)
slot_at-set slots at t s within =
    slot_at-read (set slots at s) t ∙ read-set slots at t s Free within ∙ ap (λ (x : Slot). cond (t == at) s x) (sym (slot_at-read slots t))

pub slot_at-set_each : (tags : List ℕ) (s : Slot) (slots : List Slot) (t : ℕ) → t < length slots
    → slot_at (set_each tags s slots) t ≡ cond (is_among tags t) s (slot_at slots t)
slot_at-set_each tags s slots t within =
    slot_at-read (set_each tags s slots) t ∙ read-set_each tags s slots t Free within
    ∙ ap (λ (x : Slot). cond (is_among tags t) s x) (sym (slot_at-read slots t))

pub slot_at-free : (count t : ℕ) → t < count → slot_at (replicate count Free) t ≡ Free
slot_at-free count t below = slot_at-read (replicate count Free) t ∙ get_or-replicate count t Free Free below

-- ---- tests

pub test_bit : (b : Bool) → bit b == 1 ≡ b
test_bit true = refl
test_bit false = refl

pub bit_test : (m t : ℕ) → bit_at m t ≡ bit (is_set m t)
bit_test m t = by_value (bit_at m t) (bit_at-lt m t)
  where
    by_value : (n : ℕ) → n < 2 → n ≡ bit (n == 1)
    by_value zero low = refl
    by_value (suc zero) low = refl
    by_value (suc (suc n)) low = absurd (omega arith)

-- ---- one tag

module _ (states : List TagState) (claims : List Claim) (leaders groups : List ℕ) (kept : AreKept states claims leaders groups) (at : ℕ) (there : at < 64) where
  within : at < length states
  within = (let size = kept.states_are in omega arith)

  -- a tag that is used is at another point
  pub AreKept-moved : (now : TagState) → is_free_at states at ≡ false → is_free_state now ≡ false
      → AreKept (set states at now) claims leaders groups
  AreKept-moved now busy too =
      record {
        states_are = length-set states at now ∙ kept.states_are;
        claims_are = kept.claims_are;
        leaders_are = kept.leaders_are;
        groups_are = kept.groups_are;
        led = kept.led;
        behind = λ leader tag low below.
            kept.behind leader tag low below
            ∙ ap (λ (b : Bool). bit (not b && (slice_index leaders tag == leader && not (tag == leader))))
            (alike tag ∙ sym (free-set states at tag now within));
      }
    where
      alike : (tag : ℕ) → is_free_at states tag ≡ cond (tag == at) (is_free_state now) (is_free_at states tag)
      alike tag =
          (elim (cases_eq tag at) [
            | inl same ↦
                ap (is_free_at states) same ∙ busy ∙ sym too
                ∙ sym (ap (λ (b : Bool). cond b (is_free_state now) (is_free_at states tag)) (eq-eqb tag at same))
            | inr other ↦ sym (ap (λ (b : Bool). cond b (is_free_state now) (is_free_at states tag)) (ne_eqb tag at other))
          ])

  -- a free tag is a command's that goes by it
  pub AreKept-claimed : (claim : Claim) (leader : ℕ) → is_free_at states at ≡ true → leader ≡ at
      → AreKept (set states at state.Taken) (set claims at claim) (set leaders at leader) groups
  AreKept-claimed claim leader idle own =
      record {
        states_are = length-set states at state.Taken ∙ kept.states_are;
        claims_are = length-set claims at claim ∙ kept.claims_are;
        leaders_are = length-set leaders at leader ∙ kept.leaders_are;
        groups_are = kept.groups_are;
        led = λ tag below. subst (λ (n : ℕ). n < 64) (sym (leads tag)) (low tag below);
        behind = λ l tag low_l below. kept.behind l tag low_l below ∙ ap bit (by_tag l tag (cases_eq tag at));
      }
    where
      leads : (tag : ℕ) → slice_index (set leaders at leader) tag ≡ cond (tag == at) leader (slice_index leaders tag)
      leads tag = (let size = kept.leaders_are in read-set leaders at tag leader 0 (omega arith))

      low : (tag : ℕ) → tag < 64 → cond (tag == at) leader (slice_index leaders tag) < 64
      low tag below = by_test (tag == at) (kept.led tag below)
        where
          by_test : (b : Bool) → slice_index leaders tag < 64 → cond b leader (slice_index leaders tag) < 64
          by_test true less = omega arith
          by_test false less = less

      never : (a b : Bool) → (a && (b && not b)) ≡ false
      never true true = refl
      never true false = refl
      never false true = refl
      never false false = refl

      by_tag : (l tag : ℕ) → (tag ≡ at) ⊎ (tag ≡ at → ⊥)
          → is_behind states leaders l tag ≡ is_behind (set states at state.Taken) (set leaders at leader) l tag
      by_tag l tag (inl same) =
          (let old : is_behind states leaders l tag ≡ false =
          ap (λ (b : Bool). not b && (slice_index leaders tag == l && not (tag == l))) (ap (is_free_at states) same ∙ idle) in
          let now : slice_index (set leaders at leader) tag ≡ tag =
          leads tag ∙ ap (λ (b : Bool). cond b leader (slice_index leaders tag)) (eq-eqb tag at same) ∙ own ∙ sym same in
          old
          ∙ sym (ap (λ (n : ℕ). not (is_free_at (set states at state.Taken) tag) && (n == l && not (tag == l))) now
          ∙ never (not (is_free_at (set states at state.Taken) tag)) (tag == l)))
      by_tag l tag (inr other) =
          (let free : is_free_at states tag ≡ is_free_at (set states at state.Taken) tag =
          sym (free-set states at tag state.Taken within ∙ ap (λ (b : Bool). cond b false (is_free_at states tag)) (ne_eqb tag at other)) in
          let lead : slice_index leaders tag ≡ slice_index (set leaders at leader) tag =
          sym (leads tag ∙ ap (λ (b : Bool). cond b leader (slice_index leaders tag)) (ne_eqb tag at other)) in
          ap (λ (b : Bool). not b && (slice_index leaders tag == l && not (tag == l))) free
          ∙ ap (λ (n : ℕ). not (is_free_at (set states at state.Taken) tag) && (n == l && not (tag == l))) lead)

  -- a tag is free, and no more behind its leader
  pub AreKept-released : (leader mask : ℕ) → leader ≡ slice_index leaders at → IsWithout (slice_index groups leader) at mask
      → AreKept (set states at state.Free) claims leaders (set groups leader mask)
  AreKept-released leader mask led without =
      record {
        states_are = length-set states at state.Free ∙ kept.states_are;
        claims_are = kept.claims_are;
        leaders_are = kept.leaders_are;
        groups_are = length-set groups leader mask ∙ kept.groups_are;
        led = kept.led;
        behind = λ l tag low below.
            ap (λ (m : ℕ). bit_at m tag) (masks l) ∙ by_leader l tag low below (cases_eq l leader) (cases_eq tag at);
      }
    where
      masks : (l : ℕ) → slice_index (set groups leader mask) l ≡ cond (l == leader) mask (slice_index groups l)
      masks l =
          (let size = kept.groups_are in
          let low = kept.led at there in
          read-set groups leader l mask 0 (omega arith))

      gone : (tag : ℕ) → tag ≡ at → is_free_at (set states at state.Free) tag ≡ true
      gone tag same = free-set states at tag state.Free within ∙ ap (λ (b : Bool). cond b true (is_free_at states tag)) (eq-eqb tag at same)

      stays : (tag : ℕ) → (tag ≡ at → ⊥) → is_free_at (set states at state.Free) tag ≡ is_free_at states tag
      stays tag other =
          free-set states at tag state.Free within ∙ ap (λ (b : Bool). cond b true (is_free_at states tag)) (ne_eqb tag at other)

      now_none : (l tag : ℕ) → tag ≡ at → is_behind (set states at state.Free) leaders l tag ≡ false
      now_none l tag same = ap (λ (b : Bool). not b && (slice_index leaders tag == l && not (tag == l))) (gone tag same)

      now_same : (l tag : ℕ) → (tag ≡ at → ⊥) → is_behind states leaders l tag ≡ is_behind (set states at state.Free) leaders l tag
      now_same l tag other = ap (λ (b : Bool). not b && (slice_index leaders tag == l && not (tag == l))) (sym (stays tag other))

      right_none : (a b : Bool) → (a && (false && b)) ≡ false
      right_none true b = refl
      right_none false b = refl

      by_leader : (l tag : ℕ) → l < 64 → tag < 64 → (l ≡ leader) ⊎ (l ≡ leader → ⊥) → (tag ≡ at) ⊎ (tag ≡ at → ⊥)
          → bit_at (cond (l == leader) mask (slice_index groups l)) tag ≡ bit (is_behind (set states at state.Free) leaders l tag)
      by_leader l tag low below (inl own) (inl same) =
          ap (λ (b : Bool). bit_at (cond b mask (slice_index groups l)) tag) (eq-eqb l leader own)
          ∙ without tag below ∙ ap (λ (b : Bool). cond b 0 (bit_at (slice_index groups leader) tag)) (eq-eqb tag at same)
          ∙ sym (ap bit (now_none l tag same))
      by_leader l tag low below (inl own) (inr other) =
          ap (λ (b : Bool). bit_at (cond b mask (slice_index groups l)) tag) (eq-eqb l leader own)
          ∙ without tag below ∙ ap (λ (b : Bool). cond b 0 (bit_at (slice_index groups leader) tag)) (ne_eqb tag at other)
          ∙ ap (λ (n : ℕ). bit_at (slice_index groups n) tag) (sym own)
          ∙ kept.behind l tag low below ∙ ap bit (now_same l tag other)
      by_leader l tag low below (inr apart) (inl same) =
          (let not_its : slice_index leaders tag == l ≡ false =
          ne_eqb (slice_index leaders tag) l (λ e. apart (sym e ∙ ap (slice_index leaders) same ∙ sym led)) in
          ap (λ (b : Bool). bit_at (cond b mask (slice_index groups l)) tag) (ne_eqb l leader apart)
          ∙ kept.behind l tag low below
          ∙ ap bit (ap (λ (b : Bool). not (is_free_at states tag) && (b && not (tag == l))) not_its
          ∙ right_none (not (is_free_at states tag)) (not (tag == l)))
          ∙ sym (ap bit (now_none l tag same)))
      by_leader l tag low below (inr apart) (inr other) =
          ap (λ (b : Bool). bit_at (cond b mask (slice_index groups l)) tag) (ne_eqb l leader apart)
          ∙ kept.behind l tag low below ∙ ap bit (now_same l tag other)

-- all tags are free
pub AreKept-new : (claim : Claim) → AreKept (replicate 64 state.Free) (replicate 64 claim) (replicate 64 0) (replicate 64 0)
AreKept-new claim =
    record {
      states_are = refl;
      claims_are = refl;
      leaders_are = refl;
      groups_are = refl;
      led = λ tag below. subst (λ (n : ℕ). n < 64) (sym (get_or-replicate 64 tag 0 0 below)) (omega arith);
      behind = λ leader tag low below.
          ap (λ (m : ℕ). bit_at m tag) (get_or-replicate 64 leader 0 0 low) ∙ bit_at-zero tag
          ∙ sym (ap (λ (s : TagState). bit (not (is_free_state s) && (slice_index (replicate 64 0) tag == leader && not (tag == leader))))
          (get_or-replicate 64 tag state.Free state.Free below));
    }
