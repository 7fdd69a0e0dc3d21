-- Several tags of a lane at once: which are free, which are a group, and what is kept as a group is claimed and released
use Rattle.std.proofs.Common.{◌≡◌, ℕ, zero, suc, ◌+◌, ◌<◌, ◌≤◌, ◌==◌, ◌&&◌, ◌||◌, max, nat_le, not, cond, Bool, true, false, ◌⊎◌, inl, inr}
use Rattle.std.proofs.Common.{List, [], ◌∷◌, Option, Some, None, All, IfSome, length, length-set, set, slice_index, slice_index_or, take}
use Rattle.std.proofs.Common.{arith, refl, sym, ap, ◌∙◌, subst}
use Rattle.std.specs.Int.{bit_at}
use Rattle.std.specs.List.{position_or_len, range_with_len}
use Rattle.std.specs.Option.{option_map}
use Rattle.std.specs.Prelude.{bit_or}
use Rattle.std.proofs.lemmas.Bool.{and_parts, cases_eq, cases_lt, eq-eqb, eqb-true, le-leb, le-ltb, leb-true, lt-ltb, ne_eqb}
use Rattle.std.proofs.lemmas.List.{length-map}
use Rattle.std.proofs.lemmas.List.Elements.{All-take, filter_passes}
use Rattle.std.proofs.lemmas.Nat.Bits.{bit_at-zero, bit_at_or}
use Rattle.nv_entry.specs.Status.{bit}
use Rattle.nv_world_model.specs.World.{Command}
use Rattle.nv_tags.specs.Kept.{AreKept, IsWith, IsWithout, free_states, is_behind, is_free_at, slots_of, tags_in}
use Rattle.nv_tags.specs.Tags.{Free, Leads, Slot, Taken, Used, claimed, command_of, free_slot, free_slots, freed, goes_by, group, is_free, is_free_state}
use Rattle.nv_tags.specs.Tags.{leader_in, lowest, released, set_each, slot_at, slot_of, tags_where, taken_by}
use Rattle.nv_tags.specs.declared.claim.Claim.{Claim}
use Rattle.nv_tags.specs.declared.state.TagState.{TagState}
use Rattle.nv_tags.specs.declared.state.TagState.TheVariants as state
use Rattle.nv_tags.proofs.Groups.{bit_test, length-set_each, read-set, read-set_each, same-slots, slot_at-map, slots_of-set_each, test_bit}
use Rattle.nv_tags.proofs.Masks.{among-tags_in, is_set}
use Rattle.nv_tags.proofs.Rows.{holding, holding-lowest, holding-none, holding-same, is_among}
use Rattle.nv_tags.proofs.Slots.{as_claims, as_leaders, free-is, goes_by-is, slot-goes_by, slot-is, slots_of-length, slots_of-past, some_claim}

-- ---- the lowest

-- before the first free tag none is free
none-before : (slots : List Slot) (i : ℕ) → i < position_or_len is_free slots → is_free (slot_at slots i) ≡ false
none-before [] i before = absurd (omega arith)
none-before (Free ∷ slots) i before = absurd (omega arith)
none-before (Used command point ∷ slots) zero before = refl
none-before (Used command point ∷ slots) (suc i) before = none-before slots i (omega arith)

first-free : (slots : List Slot) → position_or_len is_free slots < length slots
    → is_free (slot_at slots (position_or_len is_free slots)) ≡ true
first-free [] within = absurd (omega arith)
first-free (Free ∷ slots) within = refl
first-free (Used command point ∷ slots) within =
    let next : 1 + position_or_len is_free slots ≡ suc (position_or_len is_free slots) = omega arith in
    ap (λ (i : ℕ). is_free (slot_at (Used command point ∷ slots) i)) next ∙ first-free slots (omega arith)

-- one tag is the first free one
pub claimed-one : (slots : List Slot) → claimed 1 slots ≡ option_map (λ (tag : ℕ). tag ∷ []) (free_slot slots)
unfolding tags_where
claimed-one slots =
    (let at : ℕ = position_or_len is_free slots in
    let test : ℕ → Bool = λ i. is_free (slot_at slots i) in
    elim (cases_lt at (length slots)) [
      | inl within ↦
          (let others : ℕ → Bool = λ i. cond (i == at) false (test i) in
          let is : holding test 0 (length slots) ≡ at ∷ holding others 0 (length slots) =
          holding-lowest test others 0 (length slots) at (omega arith) (omega arith) (first-free slots within)
          (λ i low before. none-before slots i before) (λ i low before. refl) in
          ap (lowest 1) is
          ∙ ap (λ (b : Bool). cond b (Some (at ∷ [])) None) (le-leb 1 (suc (length (holding others 0 (length slots)))) (omega arith))
          ∙ sym (ap (λ (b : Bool). option_map (λ (tag : ℕ). tag ∷ []) (cond b (Some at) None)) (lt-ltb at (length slots) within)))
      | inr past ↦
          ap (lowest 1) (holding-none test 0 (length slots) (λ i low before. none-before slots i (omega arith)))
          ∙ sym (ap (λ (b : Bool). option_map (λ (tag : ℕ). tag ∷ []) (cond b (Some at) None)) (le-ltb at (length slots) past))
    ])

-- what the lowest of some are
pub lowest-some : (count : ℕ) (tags found : List ℕ) → lowest count tags ≡ Some found → (found ≡ take count tags) × (count ≤ length tags)
lowest-some count tags found is = by_test (nat_le count (length tags)) refl is
  where
    by_test : (b : Bool) → nat_le count (length tags) ≡ b → cond b (Some (take count tags)) None ≡ Some found
        → (found ≡ take count tags) × (count ≤ length tags)
    by_test true enough e = ((cc), leb-true count (length tags) enough)
    by_test false few e = (cc)

-- what holds of each of some holds of one of them
pub among-all : (P : ℕ → Type 0) (xs : List ℕ) (i : ℕ) → All P xs → is_among xs i ≡ true → P i
among-all P [] i each among = (cc)
among-all P (x ∷ xs) i each among = by_first (x == i) refl among (among-all P xs i (λ k d within. each (suc k) d (omega arith)))
  where
    by_first : (b : Bool) → x == i ≡ b → (b || is_among xs i) ≡ true → (is_among xs i ≡ true → P i) → P i
    by_first true here either behind = subst P (eqb-true x i here) (each 0 0 (omega arith))
    by_first false there either behind = behind either

-- tags that are the lowest free ones are free
pub found-free : (states : List TagState) (count : ℕ) (tags : List ℕ) (tag : ℕ) → Some tags ≡ lowest count (free_states states)
    → is_among tags tag ≡ true → is_free_at states tag ≡ true
unfolding free_states
found-free states count tags tag found among =
    let front = (lowest-some count (free_states states) tags (sym found)).0 in
    among-all (λ t. is_free_at states t ≡ true) (take count (holding (is_free_at states) 0 (length states))) tag
    (All-take (λ t. is_free_at states t ≡ true) count (holding (is_free_at states) 0 (length states))
    (filter_passes (is_free_at states) (range_with_len 0 (length states))))
    (ap (λ (xs : List ℕ). is_among xs tag) (sym front) ∙ among)

-- ---- of a lane

module _ (states : List TagState) (claims : List Claim) (leaders groups : List ℕ) (kept : AreKept states claims leaders groups) where
  pub lane_length : length (slots_of states claims leaders) ≡ 64
  lane_length =
      slots_of-length states claims leaders (as_claims states claims leaders groups kept 0) (as_leaders states claims leaders groups kept 0)
      ∙ kept.states_are

  -- the free tags
  pub free_slots-is : free_slots (slots_of states claims leaders) ≡ free_states states
  unfolding tags_where free_states
  free_slots-is =
      (let long = lane_length in
      let size = kept.states_are in
      ap (holding (λ t. is_free (slot_at (slots_of states claims leaders) t)) 0) (lane_length ∙ sym kept.states_are)
      ∙ holding-same (λ t. is_free (slot_at (slots_of states claims leaders) t)) (is_free_at states) 0 (length states)
      (λ t low below. free-is states claims leaders groups kept t (some_claim claims kept.claims_are) (omega arith)))

  -- the group of a leader
  pub group-is : (leader mask : ℕ) → leader < 64 → Leads leader (slots_of states claims leaders) → IsWith (slice_index groups leader) leader mask
      → tags_in mask ≡ group leader (slots_of states claims leaders)
  unfolding tags_where tags_in
  group-is leader mask there leads with =
      holding-same (is_set mask) (λ t. goes_by leader (slot_at (slots_of states claims leaders) t)) 0 64
      (λ t low below. by_tag t below (cases_eq t leader))
      ∙ sym (ap (holding (λ t. goes_by leader (slot_at (slots_of states claims leaders) t)) 0) lane_length)
    where
      alone : (a b : Bool) → (a && (b && not false)) ≡ (a && b)
      alone true true = refl
      alone true false = refl
      alone false true = refl
      alone false false = refl

      by_tag : (t : ℕ) → t < 64 → (t ≡ leader) ⊎ (t ≡ leader → ⊥) → is_set mask t ≡ goes_by leader (slot_at (slots_of states claims leaders) t)
      by_tag t below (inl own) =
          ap (λ (n : ℕ). n == 1) (with t below ∙ ap (λ (b : Bool). cond b 1 (bit_at (slice_index groups leader) t)) (eq-eqb t leader own))
          ∙ sym (ap (λ (n : ℕ). goes_by leader (slot_at (slots_of states claims leaders) n)) own ∙ leads)
      by_tag t below (inr other) =
          ap (λ (n : ℕ). n == 1)
          (with t below ∙ ap (λ (b : Bool). cond b 1 (bit_at (slice_index groups leader) t)) (ne_eqb t leader other)
          ∙ kept.behind leader t there below)
          ∙ test_bit (is_behind states leaders leader t)
          ∙ ap (λ (b : Bool). not (is_free_at states t) && (slice_index leaders t == leader && not b)) (ne_eqb t leader other)
          ∙ alone (not (is_free_at states t)) (slice_index leaders t == leader)
          ∙ sym (goes_by-is states claims leaders groups kept t (some_claim claims kept.claims_are) leader below)

  -- who leads is used, and its own leader
  pub leads-kept : (leader : ℕ) → Leads leader (slots_of states claims leaders)
      → (leader < 64) × ((is_free_at states leader ≡ false) × (slice_index leaders leader ≡ leader))
  leads-kept leader leads =
      (let size = kept.states_are in
      elim (cases_lt leader 64) [
        | inl there ↦
            (let both = and_parts (not (is_free_at states leader)) (slice_index leaders leader == leader)
            (sym (goes_by-is states claims leaders groups kept leader (some_claim claims kept.claims_are) leader there) ∙ leads) in
            (there, (busy (is_free_at states leader) both.0, eqb-true (slice_index leaders leader) leader both.1)))
        | inr past ↦ absurd (nobodys (sym (ap (goes_by leader) (slots_of-past states claims leaders leader (omega arith))) ∙ leads))
      ])
    where
      busy : (b : Bool) → not b ≡ true → b ≡ false
      busy true e = (cc)
      busy false e = refl

      nobodys : false ≡ true → ⊥
      nobodys e = (cc)

-- the same, as they are seen
module _ (states : List TagState) (claims : List Claim) (leaders groups : List ℕ) (kept : AreKept states claims leaders groups)
    (slots : List Slot) (seen : slots_of states claims leaders ≡ slots) (leader at : ℕ) (same : at ≡ leader) (leads : Leads leader slots) where
  leads-inside : Leads at (slots_of states claims leaders)
  leads-inside = subst (Leads at) (sym seen) (subst (λ (n : ℕ). Leads n slots) (sym same) leads)

  pub leads-there : at < 64
  leads-there = (leads-kept states claims leaders groups kept at leads-inside).0

  pub leads-own : slice_index leaders at ≡ at
  leads-own = (leads-kept states claims leaders groups kept at leads-inside).1.1

  pub group-seen : (mask : ℕ) → IsWith (slice_index groups at) leader mask → tags_in mask ≡ group leader slots
  group-seen mask with =
      group-is states claims leaders groups kept at mask leads-there leads-inside
      (subst (λ (n : ℕ). IsWith (slice_index groups at) n mask) (sym same) with)
      ∙ ap (group at) seen ∙ ap (λ (n : ℕ). group n slots) same

-- ---- a group becomes free

module _ (states : List TagState) (claims : List Claim) (leaders groups : List ℕ) (kept : AreKept states claims leaders groups) (at : ℕ)
    (there : at < 64) (own : slice_index leaders at ≡ at) (tags : List ℕ) (behind : tags ≡ tags_in (slice_index groups at)) where
  abbrev now : List TagState
  now = set_each tags state.Free (set states at state.Free)

  -- which tags are behind
  pub among-behind : (t : ℕ) → t < 64 → is_among tags t ≡ is_behind states leaders at t
  among-behind t below =
      ap (λ (xs : List ℕ). is_among xs t) behind ∙ among-tags_in (slice_index groups at) t below
      ∙ ap (λ (n : ℕ). n == 1) (kept.behind at t there below) ∙ test_bit (is_behind states leaders at t)

  state-now : (t : ℕ) → t < 64
      → slice_index_or now t state.Free ≡ cond (is_behind states leaders at t) state.Free (cond (t == at) state.Free (slice_index_or states t state.Free))
  state-now t below =
      (let size = kept.states_are in
      let long = length-set states at state.Free in
      read-set_each tags state.Free (set states at state.Free) t state.Free (omega arith)
      ∙ ap (λ (b : Bool). cond b state.Free (slice_index_or (set states at state.Free) t state.Free)) (among-behind t below)
      ∙ ap (λ (s : TagState). cond (is_behind states leaders at t) state.Free s) (read-set states at t state.Free state.Free (omega arith)))

  pub free-now : (t : ℕ) → t < 64
      → is_free_at now t ≡ cond (is_behind states leaders at t) true (cond (t == at) true (is_free_at states t))
  free-now t below = ap is_free_state (state-now t below) ∙ inside (is_behind states leaders at t) (t == at) (slice_index_or states t state.Free)
    where
      inside : (a b : Bool) (s : TagState)
          → is_free_state (cond a state.Free (cond b state.Free s)) ≡ cond a true (cond b true (is_free_state s))
      inside true b s = refl
      inside false true s = refl
      inside false false s = refl

  -- none is behind that leader now
  none_left : (f l e : Bool) → (not (cond (not f && (l && not e)) true (cond e true f)) && (l && not e)) ≡ false
  none_left true true true = refl
  none_left true true false = refl
  none_left true false true = refl
  none_left true false false = refl
  none_left false true true = refl
  none_left false true false = refl
  none_left false false true = refl
  none_left false false false = refl

  -- a tag that goes by another leader is as it was
  not_its : (t l : ℕ) → (l ≡ at → ⊥) → slice_index leaders t == l ≡ true
      → (slice_index leaders t == at ≡ false) × (t == at ≡ false)
  not_its t l apart leads = (
    ne_eqb (slice_index leaders t) at (λ e. apart (sym (eqb-true (slice_index leaders t) l leads) ∙ e)),
    ne_eqb t at (λ e. apart (sym (eqb-true (slice_index leaders t) l leads) ∙ ap (slice_index leaders) e ∙ own)),
  )

  others : (t l : ℕ) → t < 64 → (l ≡ at → ⊥) → (b : Bool) → slice_index leaders t == l ≡ b
      → (not (is_free_at states t) && (b && not (t == l))) ≡ (not (is_free_at now t) && (b && not (t == l)))
  others t l below apart false leads = no_one (not (is_free_at states t)) (not (is_free_at now t))
    where
      no_one : (a b : Bool) → (a && false) ≡ (b && false)
      no_one true true = refl
      no_one true false = refl
      no_one false true = refl
      no_one false false = refl
  others t l below apart true leads =
      (let none = not_its t l apart leads in
      ap (λ (b : Bool). not b && not (t == l))
      (sym (free-now t below
      ∙ ap (λ (b : Bool). cond (not (is_free_at states t) && (b && not (t == at))) true (cond (t == at) true (is_free_at states t))) none.0
      ∙ ap (λ (b : Bool). cond (not (is_free_at states t) && false) true (cond b true (is_free_at states t))) none.1
      ∙ right_none (is_free_at states t))))
    where
      right_none : (b : Bool) → cond (not b && false) true b ≡ b
      right_none true = refl
      right_none false = refl

  pub AreKept-freed : AreKept now claims leaders (set groups at 0)
  AreKept-freed =
      record {
        states_are = length-set_each tags state.Free (set states at state.Free) ∙ length-set states at state.Free ∙ kept.states_are;
        claims_are = kept.claims_are;
        leaders_are = kept.leaders_are;
        groups_are = length-set groups at 0 ∙ kept.groups_are;
        led = kept.led;
        behind = λ l t low below. ap (λ (m : ℕ). bit_at m t) (masks l) ∙ by_leader l t low below (cases_eq l at);
      }
    where
      masks : (l : ℕ) → slice_index (set groups at 0) l ≡ cond (l == at) 0 (slice_index groups l)
      masks l = (let size = kept.groups_are in read-set groups at l 0 0 (omega arith))

      by_leader : (l t : ℕ) → l < 64 → t < 64 → (l ≡ at) ⊎ (l ≡ at → ⊥)
          → bit_at (cond (l == at) 0 (slice_index groups l)) t ≡ bit (is_behind now leaders l t)
      by_leader l t low below (inl same) =
          ap (λ (b : Bool). bit_at (cond b 0 (slice_index groups l)) t) (eq-eqb l at same) ∙ bit_at-zero t
          ∙ sym (ap bit (ap (λ (n : ℕ). is_behind now leaders n t) same
          ∙ ap (λ (b : Bool). not b && (slice_index leaders t == at && not (t == at))) (free-now t below)
          ∙ none_left (is_free_at states t) (slice_index leaders t == at) (t == at)))
      by_leader l t low below (inr apart) =
          ap (λ (b : Bool). bit_at (cond b 0 (slice_index groups l)) t) (ne_eqb l at apart)
          ∙ kept.behind l t low below
          ∙ ap bit (others t l below apart (slice_index leaders t == l) refl)

  -- and the slots are those of the group made free
  pub slots-freed : slots_of now claims leaders ≡ released at (slots_of states claims leaders)
  slots-freed =
      same-slots (slots_of now claims leaders) (released at (slots_of states claims leaders))
      (lane_length now claims leaders (set groups at 0) AreKept-freed
      ∙ sym (length-map (slots_of states claims leaders) (freed at) ∙ lane_length states claims leaders groups kept))
      (λ t within. by_tag t (low t within))
    where
      low : (t : ℕ) → t < length (slots_of now claims leaders) → t < 64
      low t within = (let long = lane_length now claims leaders (set groups at 0) AreKept-freed in omega arith)

      idle : (s : TagState) (command : Command) → is_free_state s ≡ true → slot_of s command ≡ Free
      idle state.Free command free = refl
      idle state.Taken command free = (cc)
      idle state.Flying command free = (cc)
      idle (state.Ended st) command free = (cc)

      by_state : (s : TagState) (command : Command) (f l e : Bool) → is_free_state s ≡ f → (e ≡ true → l ≡ true)
          → slot_of (cond (not f && (l && not e)) state.Free (cond e state.Free s)) command ≡ cond (not f && l) Free (slot_of s command)
      by_state s command true true true free its = sym (idle s command free)
      by_state s command true true false free its = refl
      by_state s command true false true free its = sym (idle s command free)
      by_state s command true false false free its = refl
      by_state s command false true true free its = refl
      by_state s command false true false free its = refl
      by_state s command false false true free its = (let never = its refl in cc)
      by_state s command false false false free its = refl

      its_own : (t : ℕ) → t == at ≡ true → slice_index leaders t == at ≡ true
      its_own t same =
          (let here : t ≡ at = eqb-true t at same in eq-eqb (slice_index leaders t) at (ap (slice_index leaders) here ∙ own))

      by_tag : (t : ℕ) → t < 64 → slot_at (slots_of now claims leaders) t ≡ slot_at (released at (slots_of states claims leaders)) t
      by_tag t below =
          (let claim : Claim = slice_index_or claims t (some_claim claims kept.claims_are) in
          let s : TagState = slice_index_or states t state.Free in
          let command : Command = command_of claim (slice_index leaders t) in
          slot-is now claims leaders (set groups at 0) AreKept-freed t state.Free (some_claim claims kept.claims_are) below
          ∙ ap (λ (x : TagState). slot_of x command) (state-now t below)
          ∙ by_state s command (is_free_state s) (slice_index leaders t == at) (t == at) refl (its_own t)
          ∙ sym (ap (λ (b : Bool). cond b Free (slot_of s command)) (slot-goes_by s command at))
          ∙ sym (ap (freed at) (slot-is states claims leaders groups kept t state.Free (some_claim claims kept.claims_are) below))
          ∙ sym (slot_at-map (freed at) (slots_of states claims leaders) t refl))

-- ---- a group is a command's

module _ (states : List TagState) (claims : List Claim) (leaders groups : List ℕ) (kept : AreKept states claims leaders groups) (leader mask rest : ℕ)
    (there : leader < 64) (its : is_set mask leader ≡ true) (without : IsWithout mask leader rest)
    (idle : (t : ℕ) → t < 64 → is_set mask t ≡ true → is_free_at states t ≡ true)
    (tags : List ℕ) (are : tags ≡ tags_in mask) (claim : Claim) where
  abbrev states_now : List TagState
  states_now = set_each tags state.Taken states

  abbrev claims_now : List Claim
  claims_now = set_each tags claim claims

  abbrev leaders_now : List ℕ
  leaders_now = set_each tags leader leaders

  abbrev groups_now : List ℕ
  groups_now = set groups leader (bit_or (slice_index groups leader) rest)

  among-mask : (t : ℕ) → t < 64 → is_among tags t ≡ is_set mask t
  among-mask t below = ap (λ (xs : List ℕ). is_among xs t) are ∙ among-tags_in mask t below

  free-taken : (t : ℕ) → t < 64 → is_free_at states_now t ≡ cond (is_set mask t) false (is_free_at states t)
  free-taken t below =
      (let size = kept.states_are in
      ap is_free_state (read-set_each tags state.Taken states t state.Free (omega arith)
      ∙ ap (λ (b : Bool). cond b state.Taken (slice_index_or states t state.Free)) (among-mask t below))
      ∙ inside (is_set mask t) (slice_index_or states t state.Free))
    where
      inside : (b : Bool) (s : TagState) → is_free_state (cond b state.Taken s) ≡ cond b false (is_free_state s)
      inside true s = refl
      inside false s = refl

  leader-taken : (t : ℕ) → t < 64 → slice_index leaders_now t ≡ cond (is_set mask t) leader (slice_index leaders t)
  leader-taken t below =
      (let size = kept.leaders_are in
      read-set_each tags leader leaders t 0 (omega arith)
      ∙ ap (λ (b : Bool). cond b leader (slice_index leaders t)) (among-mask t below))

  -- what is behind that leader now, by the mask
  behind-now : (l t : ℕ) → t < 64 → (m : Bool) → is_set mask t ≡ m
      → is_behind states_now leaders_now l t
      ≡ (not (cond m false (is_free_at states t)) && (cond m leader (slice_index leaders t) == l && not (t == l)))
  behind-now l t below m is =
      ap (λ (b : Bool). not b && (slice_index leaders_now t == l && not (t == l)))
      (free-taken t below ∙ ap (λ (b : Bool). cond b false (is_free_at states t)) is)
      ∙ ap (λ (n : ℕ). not (cond m false (is_free_at states t)) && (n == l && not (t == l)))
      (leader-taken t below ∙ ap (λ (b : Bool). cond b leader (slice_index leaders t)) is)

  its_bits : (t : ℕ) → t < 64 → (m : Bool) → is_set mask t ≡ m
      → max (bit (is_behind states leaders leader t)) (cond (t == leader) 0 (bit m))
      ≡ bit (not (cond m false (is_free_at states t)) && (cond m leader (slice_index leaders t) == leader && not (t == leader)))
  its_bits t below true is =
      ap (λ (b : Bool). max (bit (not b && (slice_index leaders t == leader && not (t == leader)))) (cond (t == leader) 0 1)) (idle t below is)
      ∙ own (t == leader)
      ∙ sym (ap (λ (b : Bool). bit (b && not (t == leader))) (eq-eqb leader leader refl))
    where
      own : (e : Bool) → max 0 (cond e 0 1) ≡ bit (not e)
      own true = refl
      own false = refl
  its_bits t below false is = none (is_behind states leaders leader t) (t == leader)
    where
      none : (b e : Bool) → max (bit b) (cond e 0 0) ≡ bit b
      none true true = refl
      none true false = refl
      none false true = refl
      none false false = refl

  other_bits : (l t : ℕ) → t < 64 → (l ≡ leader → ⊥) → (m : Bool) → is_set mask t ≡ m
      → is_behind states leaders l t
      ≡ (not (cond m false (is_free_at states t)) && (cond m leader (slice_index leaders t) == l && not (t == l)))
  other_bits l t below apart true is =
      ap (λ (b : Bool). not b && (slice_index leaders t == l && not (t == l))) (idle t below is)
      ∙ sym (ap (λ (b : Bool). b && not (t == l)) (ne_eqb leader l (λ e. apart (sym e))))
  other_bits l t below apart false is = refl

  pub AreKept-taken : AreKept states_now claims_now leaders_now groups_now
  AreKept-taken =
      record {
        states_are = length-set_each tags state.Taken states ∙ kept.states_are;
        claims_are = length-set_each tags claim claims ∙ kept.claims_are;
        leaders_are = length-set_each tags leader leaders ∙ kept.leaders_are;
        groups_are = length-set groups leader (bit_or (slice_index groups leader) rest) ∙ kept.groups_are;
        led = λ t below. subst (λ (n : ℕ). n < 64) (sym (leader-taken t below)) (low (is_set mask t) t below);
        behind = λ l t low_l below. ap (λ (m : ℕ). bit_at m t) (masks l) ∙ by_leader l t low_l below (cases_eq l leader);
      }
    where
      low : (b : Bool) (t : ℕ) → t < 64 → cond b leader (slice_index leaders t) < 64
      low true t below = there
      low false t below = kept.led t below

      masks : (l : ℕ) → slice_index groups_now l ≡ cond (l == leader) (bit_or (slice_index groups leader) rest) (slice_index groups l)
      masks l =
          (let size = kept.groups_are in
          read-set groups leader l (bit_or (slice_index groups leader) rest) 0 (omega arith))

      by_leader : (l t : ℕ) → l < 64 → t < 64 → (l ≡ leader) ⊎ (l ≡ leader → ⊥)
          → bit_at (cond (l == leader) (bit_or (slice_index groups leader) rest) (slice_index groups l)) t ≡ bit (is_behind states_now leaders_now l t)
      by_leader l t low_l below (inl same) =
          ap (λ (b : Bool). bit_at (cond b (bit_or (slice_index groups leader) rest) (slice_index groups l)) t) (eq-eqb l leader same)
          ∙ bit_at_or (slice_index groups leader) rest t
          ∙ ap (λ (n : ℕ). max n (bit_at rest t)) (kept.behind leader t there below)
          ∙ ap (max (bit (is_behind states leaders leader t)))
          (without t below ∙ ap (λ (n : ℕ). cond (t == leader) 0 n) (bit_test mask t))
          ∙ its_bits t below (is_set mask t) refl
          ∙ sym (ap bit (ap (λ (n : ℕ). is_behind states_now leaders_now n t) same ∙ behind-now leader t below (is_set mask t) refl))
      by_leader l t low_l below (inr apart) =
          ap (λ (b : Bool). bit_at (cond b (bit_or (slice_index groups leader) rest) (slice_index groups l)) t) (ne_eqb l leader apart)
          ∙ kept.behind l t low_l below
          ∙ ap bit (other_bits l t below apart (is_set mask t) refl ∙ sym (behind-now l t below (is_set mask t) refl))

  pub slots-taken : slots_of states_now claims_now leaders_now ≡ taken_by (command_of claim leader) tags (slots_of states claims leaders)
  slots-taken =
      slots_of-set_each tags state.Taken claim leader states claims leaders
      (as_claims states claims leaders groups kept 0) (as_leaders states claims leaders groups kept 0)

-- ---- as they are claimed

-- one tag
pub single : (o : Option ℕ) → o ≡ leader_in (option_map (λ (t : ℕ). t ∷ []) o)
single None = refl
single (Some t) = refl

pub leader-one : (slots : List Slot) (count : ℕ) (tag : Option ℕ) → count ≡ 1 → tag ≡ free_slot slots → tag ≡ leader_in (claimed count slots)
leader-one slots count tag one found =
    found ∙ single (free_slot slots) ∙ sym (ap leader_in (ap (λ (n : ℕ). claimed n slots) one ∙ claimed-one slots))

pub taken-one : (slots now : List Slot) (claim : Claim) (count : ℕ) (tag : Option ℕ) → count ≡ 1 → tag ≡ free_slot slots
    → IfSome tag (λ t. now ≡ set slots t (Used (command_of claim t) Taken))
    → (tags : List ℕ) → claimed count slots ≡ Some tags → IfSome tag (λ t. now ≡ taken_by (command_of claim t) tags slots)
taken-one slots now claim count tag one found taken tags is =
    by_tag tag taken (ap (option_map (λ (t : ℕ). t ∷ [])) found ∙ sym (claimed-one slots) ∙ ap (λ (n : ℕ). claimed n slots) (sym one) ∙ is)
  where
    by_tag : (o : Option ℕ) → IfSome o (λ t. now ≡ set slots t (Used (command_of claim t) Taken))
        → option_map (λ (t : ℕ). t ∷ []) o ≡ Some tags → IfSome o (λ t. now ≡ taken_by (command_of claim t) tags slots)
    by_tag None here e = here
    by_tag (Some t) here e =
        (let are : t ∷ [] ≡ tags = (cc) in here ∙ ap (λ (ts : List ℕ). taken_by (command_of claim t) ts slots) are)

-- the leader's bit is set
pub its-leader : (mask leader : ℕ) (found rest : List ℕ) → found ≡ tags_in mask → found ≡ leader ∷ rest → leader < 64 → is_set mask leader ≡ true
its-leader mask leader found rest are is there =
    sym (among-tags_in mask leader there) ∙ ap (λ (xs : List ℕ). is_among xs leader) (sym are ∙ is)
    ∙ ap (λ (b : Bool). b || is_among rest leader) (eq-eqb leader leader refl)

pub same-some : (a b : List ℕ) → Some a ≡ Some b → a ≡ b
same-some a b e = (cc)
