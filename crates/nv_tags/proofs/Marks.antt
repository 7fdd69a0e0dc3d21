-- The masks of the tags that are at a point, as tags move on
use Rattle.std.proofs.Common.{◌≡◌, ℕ, ◌-◌, ◌^◌, ◌<◌, ◌==◌, ◌||◌, cond, max, Bool, true, false, inl, inr, List, ◌∷◌, length, replicate, set}
use Rattle.std.proofs.Common.{slice_index_or, arith, refl, sym, ap, ◌∙◌}
use Rattle.std.specs.Int.{bit_at, w64}
use Rattle.std.specs.Prelude.{bit_and, bit_or, min}
use Rattle.std.proofs.lemmas.Bool.{cases_eq, eq-eqb, ne_eqb}
use Rattle.std.proofs.lemmas.List.{get_or-replicate}
use Rattle.std.proofs.lemmas.Nat.Bits.{bit_at-zero, bit_at_and, bit_at_not, bit_at_ones, bit_at_or}
use Rattle.nv_entry.specs.Status.{bit}
use Rattle.nv_world_model.specs.World.{Command}
use Rattle.nv_tags.specs.Kept.{AreKept, AreMarked, IsMask, IsWith, IsWithout, free_states, is_ended_state, is_flying_state, is_free_at, is_taken_state, slots_of, tags_in}
use Rattle.nv_tags.specs.Tags.{Slot, command_of, is_ended, is_flying, is_free_state, is_taken, set_each, slot_at, slot_of, tags_where}
use Rattle.nv_tags.specs.declared.claim.Claim.{Claim}
use Rattle.nv_tags.specs.declared.state.TagState.{TagState}
use Rattle.nv_tags.specs.declared.state.TagState.TheVariants as state
use Rattle.nv_tags.proofs.Groups.{bit_test, read-set, read-set_each, test_bit}
use Rattle.nv_tags.proofs.Masks.{among-tags_in, is_set}
use Rattle.nv_tags.proofs.Rows.{holding, holding-same, is_among}
use Rattle.nv_tags.proofs.Slots.{slot-is, some_claim}
use Rattle.nv_tags.proofs.Together.{lane_length}

-- a tag that is free is at no point
pub free-not : (s : TagState) → is_free_state s ≡ true → (is_taken_state s ≡ false) × (is_ended_state s ≡ false)
free-not state.Free free = (refl, refl)
free-not state.Taken free = cc
free-not state.Flying free = cc
free-not (state.Ended st) free = cc

-- nor has one that was taken, and no more, ended
pub unended-taken : (s : TagState) → s ≡ state.Taken → is_ended_state s ≡ false
unended-taken s is = ap is_ended_state is

-- ---- one tag moves

module _ (test : TagState → Bool) (states : List TagState) (mask at : ℕ) (s : TagState) (is : IsMask test states mask) (within : at < length states) where
  now-read : (t : ℕ) → bit (test (slice_index_or (set states at s) t state.Free)) ≡ bit (test (cond (t == at) s (slice_index_or states t state.Free)))
  now-read t = ap (λ (x : TagState). bit (test x)) (read-set states at t s state.Free within)

  -- it is one of them now
  pub mask-with : (now : ℕ) → test s ≡ true → IsWith mask at now → IsMask test (set states at s) now
  mask-with now holds with t below =
      with t below ∙ ap (λ (n : ℕ). cond (t == at) 1 n) (is t below) ∙ join (t == at) (slice_index_or states t state.Free) ∙ sym (now-read t)
    where
      join : (b : Bool) (x : TagState) → cond b 1 (bit (test x)) ≡ bit (test (cond b s x))
      join true x = sym (ap bit holds)
      join false x = refl

  -- it is none of them now
  pub mask-without : (now : ℕ) → test s ≡ false → IsWithout mask at now → IsMask test (set states at s) now
  mask-without now fails without t below =
      without t below ∙ ap (λ (n : ℕ). cond (t == at) 0 n) (is t below) ∙ join (t == at) (slice_index_or states t state.Free) ∙ sym (now-read t)
    where
      join : (b : Bool) (x : TagState) → cond b 0 (bit (test x)) ≡ bit (test (cond b s x))
      join true x = sym (ap bit fails)
      join false x = refl

  -- it is none of them, as before
  pub mask-same : test s ≡ false → test (slice_index_or states at state.Free) ≡ false → IsMask test (set states at s) mask
  mask-same fails before t below =
      (elim (cases_eq t at) [
        | inl same ↦
            is t below ∙ ap bit (ap (λ (n : ℕ). test (slice_index_or states n state.Free)) same ∙ before ∙ sym fails)
            ∙ sym (ap (λ (b : Bool). bit (test (cond b s (slice_index_or states t state.Free)))) (eq-eqb t at same)) ∙ sym (now-read t)
        | inr other ↦
            is t below
            ∙ sym (ap (λ (b : Bool). bit (test (cond b s (slice_index_or states t state.Free)))) (ne_eqb t at other)) ∙ sym (now-read t)
      ])

-- ---- several tags move

-- those of a mask
pub among-mask : (tags : List ℕ) (mask : ℕ) → tags ≡ tags_in mask → (t : ℕ) → t < 64 → is_among tags t ≡ is_set mask t
among-mask tags mask are t below = ap (λ (xs : List ℕ). is_among xs t) are ∙ among-tags_in mask t below

-- a leader, and those of its group
pub among-freed : (tags : List ℕ) (group freed at leader : ℕ) → tags ≡ tags_in group → at ≡ leader → IsWith group leader freed
    → (t : ℕ) → t < 64 → is_among (at ∷ tags) t ≡ is_set freed t
among-freed tags group freed at leader are same with t below =
    (elim (cases_eq t leader) [
      | inl its ↦
          ap (λ (b : Bool). b || is_among tags t) (eq-eqb at t (same ∙ sym its))
          ∙ sym (ap (λ (n : ℕ). n == 1) (with t below ∙ ap (λ (b : Bool). cond b 1 (bit_at group t)) (eq-eqb t leader its)))
      | inr other ↦
          ap (λ (b : Bool). b || is_among tags t) (ne_eqb at t (λ e. other (sym e ∙ same)))
          ∙ among-mask tags group are t below
          ∙ sym (ap (λ (n : ℕ). n == 1) (with t below ∙ ap (λ (b : Bool). cond b 1 (bit_at group t)) (ne_eqb t leader other)))
    ])

module _ (test : TagState → Bool) (states : List TagState) (mask : ℕ) (is : IsMask test states mask) (tags : List ℕ) (moved : ℕ)
    (many : length states ≡ 64) (are : (t : ℕ) → t < 64 → is_among tags t ≡ is_set moved t) (s : TagState) where
  each-read : (t : ℕ) → t < 64
      → bit (test (slice_index_or (set_each tags s states) t state.Free)) ≡ bit (test (cond (is_set moved t) s (slice_index_or states t state.Free)))
  each-read t below =
      ap (λ (x : TagState). bit (test x))
      (read-set_each tags s states t state.Free (omega arith)
      ∙ ap (λ (b : Bool). cond b s (slice_index_or states t state.Free)) (are t below))

  -- they are all of them now
  pub mask-joined : test s ≡ true → IsMask test (set_each tags s states) (bit_or mask moved)
  mask-joined holds t below =
      bit_at_or mask moved t ∙ ap (λ (n : ℕ). max n (bit_at moved t)) (is t below)
      ∙ ap (max (bit (test (slice_index_or states t state.Free)))) (bit_test moved t)
      ∙ join (is_set moved t) (slice_index_or states t state.Free)
      ∙ sym (each-read t below)
    where
      one : (b : Bool) → max (bit b) 1 ≡ 1
      one true = refl
      one false = refl

      none : (b : Bool) → max (bit b) 0 ≡ bit b
      none true = refl
      none false = refl

      join : (b : Bool) (x : TagState) → max (bit (test x)) (bit b) ≡ bit (test (cond b s x))
      join true x = one (test x) ∙ sym (ap bit holds)
      join false x = none (test x)

  -- they are none of them now
  pub mask-parted : test s ≡ false → moved < 2 ^ 64 → IsMask test (set_each tags s states) (bit_and mask (18446744073709551615 - moved))
  mask-parted fails fits t below =
      bit_at_and mask (18446744073709551615 - moved) t
      ∙ ap (min (bit_at mask t)) (bit_at_not w64 moved t fits below)
      ∙ ap (λ (n : ℕ). min n (1 - bit_at moved t)) (is t below)
      ∙ ap (λ (n : ℕ). min (bit (test (slice_index_or states t state.Free))) (1 - n)) (bit_test moved t)
      ∙ join (is_set moved t) (slice_index_or states t state.Free)
      ∙ sym (each-read t below)
    where
      none : (b : Bool) → min (bit b) 0 ≡ 0
      none true = refl
      none false = refl

      all : (b : Bool) → min (bit b) 1 ≡ bit b
      all true = refl
      all false = refl

      join : (b : Bool) (x : TagState) → min (bit (test x)) (1 - bit b) ≡ bit (test (cond b s x))
      join true x = none (test x) ∙ sym (ap bit fails)
      join false x = all (test x)

  -- they are none of them, as before
  pub mask-none : test s ≡ false → ((t : ℕ) → t < 64 → is_set moved t ≡ true → test (slice_index_or states t state.Free) ≡ false)
      → IsMask test (set_each tags s states) mask
  mask-none fails before t below = is t below ∙ join (is_set moved t) refl ∙ sym (each-read t below)
    where
      join : (b : Bool) → is_set moved t ≡ b
          → bit (test (slice_index_or states t state.Free)) ≡ bit (test (cond b s (slice_index_or states t state.Free)))
      join true set = ap bit (before t below set ∙ sym fails)
      join false set = refl

-- all tags are free
pub marked-new : AreMarked (replicate 64 state.Free) 18446744073709551615 0 0
marked-new =
    record {
      free_are = λ t below. bit_at_ones 64 t below ∙ sym (ap (λ (x : TagState). bit (is_free_state x)) (get_or-replicate 64 t state.Free state.Free below));
      taken_are = λ t below. bit_at-zero t ∙ sym (ap (λ (x : TagState). bit (is_taken_state x)) (get_or-replicate 64 t state.Free state.Free below));
      ended_are = λ t below. bit_at-zero t ∙ sym (ap (λ (x : TagState). bit (is_ended_state x)) (get_or-replicate 64 t state.Free state.Free below));
    }

-- a tag that has none of these marks is with the physical controller
pub flying-marked : (states : List TagState) (free taken ended : ℕ) → AreMarked states free taken ended → bit_or (bit_or free taken) ended < 2 ^ 64
    → IsMask is_flying_state states (18446744073709551615 - bit_or (bit_or free taken) ended)
flying-marked states free taken ended marked fits t below =
    bit_at_not w64 (bit_or (bit_or free taken) ended) t fits below
    ∙ ap (λ (n : ℕ). 1 - n)
    (bit_at_or (bit_or free taken) ended t
    ∙ ap (λ (n : ℕ). max n (bit_at ended t)) (bit_at_or free taken t ∙ ap (λ (n : ℕ). max n (bit_at taken t)) (marked.free_are t below))
    ∙ ap (λ (n : ℕ). max (max (bit (is_free_state (at t))) n) (bit_at ended t)) (marked.taken_are t below)
    ∙ ap (max (max (bit (is_free_state (at t))) (bit (is_taken_state (at t))))) (marked.ended_are t below))
    ∙ unmarked (at t)
  where
    at : ℕ → TagState
    at tag = slice_index_or states tag state.Free

    unmarked : (s : TagState) → 1 - max (max (bit (is_free_state s)) (bit (is_taken_state s))) (bit (is_ended_state s)) ≡ bit (is_flying_state s)
    unmarked state.Free = refl
    unmarked state.Taken = refl
    unmarked state.Flying = refl
    unmarked (state.Ended st) = refl

-- what holds of a tag that is set
pub mask-holds : (test : TagState → Bool) (states : List TagState) (mask : ℕ) → IsMask test states mask → (t : ℕ) → t < 64 → is_set mask t ≡ true
    → test (slice_index_or states t state.Free) ≡ true
mask-holds test states mask is t below set =
    sym (test_bit (test (slice_index_or states t state.Free))) ∙ sym (ap (λ (n : ℕ). n == 1) (is t below)) ∙ set

-- the free tags
pub free-masked : (states : List TagState) (free : ℕ) → length states ≡ 64 → IsMask is_free_state states free → tags_in free ≡ free_states states
unfolding tags_in free_states
free-masked states free many is =
    holding-same (is_set free) (is_free_at states) 0 64 (λ t low below. ap (λ (n : ℕ). n == 1) (is t below) ∙ test_bit (is_free_at states t))
    ∙ sym (ap (holding (is_free_at states) 0) many)

-- ---- as they are seen

-- a tag at a point, by its state
pub slot-taken : (s : TagState) (command : Command) → is_taken (slot_of s command) ≡ is_taken_state s
slot-taken state.Free command = refl
slot-taken state.Taken command = refl
slot-taken state.Flying command = refl
slot-taken (state.Ended st) command = refl

pub slot-flying : (s : TagState) (command : Command) → is_flying (slot_of s command) ≡ is_flying_state s
slot-flying state.Free command = refl
slot-flying state.Taken command = refl
slot-flying state.Flying command = refl
slot-flying (state.Ended st) command = refl

pub slot-ended : (s : TagState) (command : Command) → is_ended (slot_of s command) ≡ is_ended_state s
slot-ended state.Free command = refl
slot-ended state.Taken command = refl
slot-ended state.Flying command = refl
slot-ended (state.Ended st) command = refl

module _ (states : List TagState) (claims : List Claim) (leaders groups : List ℕ) (kept : AreKept states claims leaders groups)
    (slots : List Slot) (seen : slots_of states claims leaders ≡ slots) where
  -- the tags of a mask are those of whose slots the test holds
  pub marked-seen : (test : TagState → Bool) (has : Slot → Bool) (mask : ℕ)
      → ((s : TagState) (command : Command) → has (slot_of s command) ≡ test s) → IsMask test states mask → tags_in mask ≡ tags_where has slots
  unfolding tags_where tags_in
  marked-seen test has mask same is =
      (holding-same (is_set mask) (λ t. has (slot_at (slots_of states claims leaders) t)) 0 64 (λ t low below. by_tag t below)
      ∙ sym (ap (holding (λ t. has (slot_at (slots_of states claims leaders) t)) 0) (lane_length states claims leaders groups kept))
      ∙ ap (λ (xs : List Slot). holding (λ t. has (slot_at xs t)) 0 (length xs)) seen)
    where
      by_tag : (t : ℕ) → t < 64 → is_set mask t ≡ has (slot_at (slots_of states claims leaders) t)
      by_tag t below =
          (let claim : Claim = some_claim claims kept.claims_are in
          ap (λ (n : ℕ). n == 1) (is t below) ∙ test_bit (test (slice_index_or states t state.Free))
          ∙ sym (ap has (slot-is states claims leaders groups kept t state.Free claim below)
          ∙ same (slice_index_or states t state.Free) (command_of (slice_index_or claims t claim) (slice_index_or leaders t 0))))
