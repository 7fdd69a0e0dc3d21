-- The masks of tags by a number of their commands, the guest's or the queue's, as tags are claimed, move on and are released
use Rattle.std.proofs.Common.{◌≡◌, ◌≢◌, ℕ, zero, suc, ◌<◌, ◌==◌, ◌&&◌, ◌||◌, max, not, cond, Bool, true, false, inl, inr, List, [], ◌∷◌, length}
use Rattle.std.proofs.Common.{replicate, slice_get, set, slice_index, slice_index_or, Some, arith, refl, sym, ap, ◌∙◌, subst}
use Rattle.std.specs.Int.{bit_at}
use Rattle.std.specs.Prelude.{bit_or}
use Rattle.std.proofs.lemmas.Bool.{cases_eq, eq-eqb, eqb-true, ne_eqb}
use Rattle.std.proofs.lemmas.List.{get_or-replicate}
use Rattle.std.proofs.lemmas.Nat.Bits.{bit_at-zero, bit_at_or}
use Rattle.nv_entry.specs.Status.{bit}
use Rattle.nv_world_model.specs.World.{Command}
use Rattle.nv_tags.specs.Kept.{AreKept, AreNumbered, AreWith, AreWithout, AreWithoutEach, IsWith, is_free_at, slots_of, tags_in}
use Rattle.nv_tags.specs.Numbers.{Key, ByGuest, ByQueue, has_number, is_claim_of, number_in, number_of}
use Rattle.nv_tags.specs.Tags.{Free, Point, Slot, Taken, Used, command_in, command_of, is_free, is_free_state, is_of, leader_of, moved_to, set_each}
use Rattle.nv_tags.specs.Tags.{slot_at, slot_of, state_at, tags_where, taken_by, with_point}
use Rattle.nv_tags.specs.declared.claim.Claim.{Claim}
use Rattle.nv_tags.specs.declared.state.TagState.{TagState}
use Rattle.nv_tags.specs.declared.state.TagState.TheVariants as state
use Rattle.nv_tags.proofs.Groups.{bit_test, read-set, slot_at-free, slot_at-set, slot_at-set_each, test_bit}
use Rattle.nv_tags.proofs.Masks.{among-tags_in, is_set, only-is}
use Rattle.nv_tags.proofs.Rows.{holding, holding-same, is_among}
use Rattle.nv_tags.proofs.Slots.{claim-seen, claimed-seen, free-is, released-seen, slot-is, slots_of-free, some_claim}
use Rattle.nv_tags.proofs.Together.{AreKept-freed, among-behind, free-now, lane_length}

-- whose a tag is
pub of-guest : (guest : ℕ) (s : Slot) → has_number ByGuest guest s ≡ is_of guest s
of-guest guest Free = refl
of-guest guest (Used command point) = refl

-- the number of a claim's command
number-is : (key : Key) (claim : Claim) (leader : ℕ) → number_of key (command_of claim leader) ≡ number_in key claim
number-is ByGuest claim leader = refl
number-is ByQueue claim leader = refl

-- ---- masks, as they are written

-- that of one number, with the tags of a mask
pub with-mask : (owned : List ℕ) (at number mask : ℕ) → at ≡ number → at < length owned
    → AreWith owned number mask (set owned at (bit_or (slice_index owned at) mask))
with-mask owned at number mask is within g t low below =
    (elim (cases_eq g at) [
      | inl same ↦
          read ∙ ap (λ (b : Bool). bit_at (cond b (bit_or (slice_index owned at) mask) (slice_index owned g)) t) (eq-eqb g at same)
          ∙ bit_at_or (slice_index owned at) mask t
          ∙ ap (λ (n : ℕ). max (bit_at (slice_index owned n) t) (bit_at mask t)) (sym same)
          ∙ ap (λ (n : ℕ). max n (bit_at mask t)) (bit_test (slice_index owned g) t)
          ∙ ap (max (bit (is_set (slice_index owned g) t))) (bit_test mask t)
          ∙ join (is_set (slice_index owned g) t) (is_set mask t)
          ∙ ap (λ (n : ℕ). cond (is_set mask t) 1 n) (sym (bit_test (slice_index owned g) t))
          ∙ sym (ap (λ (b : Bool). cond (b && is_set mask t) 1 (bit_at (slice_index owned g) t)) (eq-eqb number g (sym (same ∙ is))))
      | inr other ↦
          read ∙ ap (λ (b : Bool). bit_at (cond b (bit_or (slice_index owned at) mask) (slice_index owned g)) t) (ne_eqb g at other)
          ∙ sym (ap (λ (b : Bool). cond (b && is_set mask t) 1 (bit_at (slice_index owned g) t)) (ne_eqb number g (λ e. other (sym (is ∙ e)))))
    ])
  where
    read : bit_at (slice_index (set owned at (bit_or (slice_index owned at) mask)) g) t
        ≡ bit_at (cond (g == at) (bit_or (slice_index owned at) mask) (slice_index owned g)) t
    read = ap (λ (n : ℕ). bit_at n t) (read-set owned at g (bit_or (slice_index owned at) mask) 0 within)

    join : (a b : Bool) → max (bit a) (bit b) ≡ cond b 1 (bit a)
    join true true = refl
    join true false = refl
    join false true = refl
    join false false = refl

module _ (key : Key) where
  -- ---- of a tag

  -- a claim, as it is read
  pub claim-read : (claims : List Claim) (t : ℕ) (d : Claim) (g : ℕ) → t < length claims
      → is_claim_of key g (slice_get claims t) ≡ (number_in key (slice_index_or claims t d) == g)
  claim-read [] t d g within = absurd (omega arith)
  claim-read (c ∷ claims) zero d g within = refl
  claim-read (c ∷ claims) (suc t) d g within = claim-read claims t d g (omega arith)

  -- whose a tag is, by its state and its claim
  slot-of : (s : TagState) (command : Command) (g : ℕ) → has_number key g (slot_of s command) ≡ (not (is_free_state s) && number_of key command == g)
  slot-of state.Free command g = refl
  slot-of state.Taken command g = refl
  slot-of state.Flying command g = refl
  slot-of (state.Ended st) command g = refl

  pub of-is : (states : List TagState) (claims : List Claim) (leaders groups : List ℕ) → AreKept states claims leaders groups → (g t : ℕ) → t < 64
      → has_number key g (slot_at (slots_of states claims leaders) t) ≡ (not (is_free_at states t) && is_claim_of key g (slice_get claims t))
  of-is states claims leaders groups kept g t below =
      let claim : Claim = some_claim claims kept.claims_are in
      let many = kept.claims_are in
      ap (has_number key g) (slot-is states claims leaders groups kept t state.Free claim below)
      ∙ slot-of (slice_index_or states t state.Free) (command_of (slice_index_or claims t claim) (slice_index leaders t)) g
      ∙ ap (λ (b : Bool). not (is_free_at states t) && b)
      (ap (λ (n : ℕ). n == g) (number-is key (slice_index_or claims t claim) (slice_index leaders t)) ∙ sym (claim-read claims t claim g (omega arith)))

  -- ---- as tags move on

  -- all tags are free
  pub numbered-new : (claim : Claim) → AreNumbered key (slots_of (replicate 64 state.Free) (replicate 64 claim) (replicate 64 0)) (replicate 16 0)
  numbered-new claim =
      record {
        masks_are = refl;
        each = λ g t low below.
            ap (λ (m : ℕ). bit_at m t) (get_or-replicate 16 g 0 0 low) ∙ bit_at-zero t
            ∙ sym (ap (λ (s : Slot). bit (has_number key g s)) (ap (λ (slots : List Slot). slot_at slots t) (slots_of-free 64 claim) ∙ slot_at-free 64 t below));
      }

  -- tags of a mask that were free are a command's
  pub numbered-taken : (old now : List Slot) (before after : List ℕ) (command : Command) (mask : ℕ) → AreNumbered key old before → length after ≡ 16
      → AreWith before (number_of key command) mask after → ((t : ℕ) → t < 64 → is_set mask t ≡ true → is_free (slot_at old t) ≡ true)
      → ((t : ℕ) → t < 64 → slot_at now t ≡ cond (is_set mask t) (Used command Taken) (slot_at old t))
      → AreNumbered key now after
  numbered-taken old now before after command mask owned long with idle taken =
      record {
        masks_are = long;
        each = λ g t low below.
            with g t low below
            ∙ ap (λ (n : ℕ). cond (number_of key command == g && is_set mask t) 1 n) (owned.each g t low below)
            ∙ by_set g (is_set mask t) (slot_at old t) (idle t below)
            ∙ sym (ap (λ (s : Slot). bit (has_number key g s)) (taken t below));
      }
    where
      one : (b : Bool) → cond (b && true) 1 (bit false) ≡ bit b
      one true = refl
      one false = refl

      none : (b : Bool) (n : ℕ) → cond (b && false) 1 n ≡ n
      none true n = refl
      none false n = refl

      free : (g : ℕ) (s : Slot) → is_free s ≡ true → has_number key g s ≡ false
      free g Free is = refl
      free g (Used other point) is = (cc)

      by_set : (g : ℕ) (b : Bool) (s : Slot) → (b ≡ true → is_free s ≡ true)
          → cond (number_of key command == g && b) 1 (bit (has_number key g s)) ≡ bit (has_number key g (cond b (Used command Taken) s))
      by_set g true s was = ap (λ (b : Bool). cond (number_of key command == g && true) 1 (bit b)) (free g s (was refl)) ∙ one (number_of key command == g)
      by_set g false s was = none (number_of key command == g) (bit (has_number key g s))

  -- a command of a tag is at another point
  pub numbered-moved : (old now : List Slot) (owned : List ℕ) (point : Point) (at : ℕ) → AreNumbered key old owned → at < length old
      → now ≡ with_point point at old → AreNumbered key now owned
  numbered-moved old now owned point at are within moved =
      record {
        masks_are = are.masks_are;
        each = λ g t low below.
            are.each g t low below
            ∙ ap bit (sym (ap (λ (slots : List Slot). has_number key g (slot_at slots t)) moved
            ∙ ap (has_number key g) (slot_at-set old at t (moved_to point (slot_at old at)) within)
            ∙ by_tag g t (t == at) refl));
      }
    where
      stays : (g : ℕ) (s : Slot) → has_number key g (moved_to point s) ≡ has_number key g s
      stays g Free = refl
      stays g (Used command before) = refl

      by_tag : (g t : ℕ) (b : Bool) → t == at ≡ b → has_number key g (cond b (moved_to point (slot_at old at)) (slot_at old t)) ≡ has_number key g (slot_at old t)
      by_tag g t true here = stays g (slot_at old at) ∙ ap (λ (n : ℕ). has_number key g (slot_at old n)) (sym (eqb-true t at here))
      by_tag g t false other = refl

  -- a tag is free
  pub numbered-released : (old now : List Slot) (before after : List ℕ) (number at : ℕ) → AreNumbered key old before → at < length old → length after ≡ 16
      → AreWithout before number at after → ((g : ℕ) → has_number key g (slot_at old at) ≡ (number == g)) → now ≡ set old at Free → AreNumbered key now after
  numbered-released old now before after number at owned within long without its freed =
      record {
        masks_are = long;
        each = λ g t low below.
            without g t low below
            ∙ ap (λ (n : ℕ). cond (number == g && t == at) 0 n) (owned.each g t low below)
            ∙ by_tag g t (t == at) refl
            ∙ sym (ap (λ (slots : List Slot). bit (has_number key g (slot_at slots t))) freed
            ∙ ap (λ (s : Slot). bit (has_number key g s)) (slot_at-set old at t Free within));
      }
    where
      own : (b : Bool) → cond (b && true) 0 (bit b) ≡ 0
      own true = refl
      own false = refl

      none : (b : Bool) (n : ℕ) → cond (b && false) 0 n ≡ n
      none true n = refl
      none false n = refl

      by_tag : (g t : ℕ) (b : Bool) → t == at ≡ b
          → cond (number == g && b) 0 (bit (has_number key g (slot_at old t))) ≡ bit (has_number key g (cond b Free (slot_at old t)))
      by_tag g t true here =
          ap (λ (b : Bool). cond (number == g && true) 0 (bit b)) (ap (λ (n : ℕ). has_number key g (slot_at old n)) (eqb-true t at here) ∙ its g)
          ∙ own (number == g)
      by_tag g t false other = none (number == g) (bit (has_number key g (slot_at old t)))

  -- whose a tag is that is used
  pub of-command : (s : Slot) (command : Command) (g : ℕ) → command_in s ≡ Some command → has_number key g s ≡ (number_of key command == g)
  of-command Free command g is = (cc)
  of-command (Used other point) command g is = (let same : other ≡ command = (cc) in ap (λ (c : Command). number_of key c == g) same)

  -- ---- of a lane

  module _ (states : List TagState) (claims : List Claim) (leaders groups : List ℕ) (kept : AreKept states claims leaders groups)
      (before after : List ℕ) (owned : AreNumbered key (slots_of states claims leaders) before) where
    -- the tags of a number
    pub numbered-seen : (slots : List Slot) (test : Slot → Bool) (number at : ℕ) → slots_of states claims leaders ≡ slots → at ≡ number → number < 16
        → ((s : Slot) → has_number key number s ≡ test s) → tags_in (slice_index before at) ≡ tags_where test slots
    unfolding tags_where tags_in
    numbered-seen slots test number at seen same low is =
        ap (λ (n : ℕ). holding (is_set (slice_index before n)) 0 64) same
        ∙ holding-same (is_set (slice_index before number)) (λ t. test (slot_at (slots_of states claims leaders) t)) 0 64
        (λ t from below.
        ap (λ (n : ℕ). n == 1) (owned.each number t low below)
        ∙ test_bit (has_number key number (slot_at (slots_of states claims leaders) t)) ∙ is (slot_at (slots_of states claims leaders) t))
        ∙ sym (ap (holding (λ t. test (slot_at (slots_of states claims leaders) t)) 0) (lane_length states claims leaders groups kept))
        ∙ ap (λ (xs : List Slot). holding (λ t. test (slot_at xs t)) 0 (length xs)) seen

    -- free tags of a mask are a command's
    pub numbered-grouped : (now : List Slot) (claim : Claim) (leader mask : ℕ) (tags : List ℕ) → tags ≡ tags_in mask
        → ((t : ℕ) → t < 64 → is_set mask t ≡ true → is_free_at states t ≡ true) → length after ≡ 16 → AreWith before (number_in key claim) mask after
        → now ≡ taken_by (command_of claim leader) tags (slots_of states claims leaders) → AreNumbered key now after
    numbered-grouped now claim leader mask tags are idle long with taken =
        numbered-taken (slots_of states claims leaders) now before after (command_of claim leader) mask owned long
        (subst (λ (n : ℕ). AreWith before n mask after) (sym (number-is key claim leader)) with)
        (λ t below its. free-is states claims leaders groups kept t (some_claim claims kept.claims_are) below ∙ idle t below its)
        (λ t below.
        (let all = lane_length states claims leaders groups kept in
        ap (λ (slots : List Slot). slot_at slots t) taken
        ∙ slot_at-set_each tags (Used (command_of claim leader) Taken) (slots_of states claims leaders) t (omega arith)
        ∙ ap (λ (b : Bool). cond b (Used (command_of claim leader) Taken) (slot_at (slots_of states claims leaders) t))
        (ap (λ (ts : List ℕ). is_among ts t) are ∙ among-tags_in mask t below)))

    -- a free tag is a command's
    pub numbered-claimed : (claim : Claim) (leader at mask : ℕ) → at < 64 → is_free_at states at ≡ true → IsWith 0 at mask → length after ≡ 16
        → AreWith before (number_in key claim) mask after
        → AreNumbered key (slots_of (set states at state.Taken) (set claims at claim) (set leaders at leader)) after
    numbered-claimed claim leader at mask there idle only long with =
        numbered-taken (slots_of states claims leaders) (slots_of (set states at state.Taken) (set claims at claim) (set leaders at leader)) before after
        (command_of claim leader) mask owned long (subst (λ (n : ℕ). AreWith before n mask after) (sym (number-is key claim leader)) with)
        (λ t below its.
        free-is states claims leaders groups kept t (some_claim claims kept.claims_are) below
        ∙ ap (is_free_at states) (eqb-true t at (sym (only-is at mask t only below) ∙ its)) ∙ idle)
        (λ t below.
        (let all = lane_length states claims leaders groups kept in
        ap (λ (slots : List Slot). slot_at slots t)
        (claimed-seen states claims leaders groups kept (slots_of states claims leaders) refl at at refl claim leader)
        ∙ slot_at-set (slots_of states claims leaders) at t (Used (command_of claim leader) Taken) (omega arith)
        ∙ ap (λ (b : Bool). cond b (Used (command_of claim leader) Taken) (slot_at (slots_of states claims leaders) t))
        (sym (only-is at mask t only below))))

    module _ (at : ℕ) (there : at < 64) where
      within : at < length (slots_of states claims leaders)
      within = (let all = lane_length states claims leaders groups kept in omega arith)

      -- the command of a tag is at another point
      pub numbered-point : (slots : List Slot) (tag : ℕ) (seen : slots_of states claims leaders ≡ slots) (same : at ≡ tag) (point : Point) (now : TagState)
          → slots_of (set states at now) claims leaders ≡ with_point point tag slots
          → AreNumbered key (slots_of (set states at now) claims leaders) before
      numbered-point slots tag seen same point now moved =
          numbered-moved (slots_of states claims leaders) (slots_of (set states at now) claims leaders) before point at owned within
          (moved ∙ sym (ap (with_point point at) seen ∙ ap (λ (n : ℕ). with_point point n slots) same))

      -- a used tag is free
      pub numbered-free : (number : ℕ) (d : Claim) → state_at (slots_of states claims leaders) at ≢ state.Free → length after ≡ 16
          → number ≡ number_in key (slice_index_or claims at d) → AreWithout before number at after
          → AreNumbered key (slots_of (set states at state.Free) claims leaders) after
      numbered-free number d used long by without =
          numbered-released (slots_of states claims leaders) (slots_of (set states at state.Free) claims leaders) before after number at owned within long without
          (λ g.
          of-command (slot_at (slots_of states claims leaders) at)
          (command_of (slice_index_or claims at d) (leader_of (slot_at (slots_of states claims leaders) at))) g
          (claim-seen states claims leaders groups kept (slots_of states claims leaders) refl at at refl d used)
          ∙ ap (λ (n : ℕ). n == g)
          (number-is key (slice_index_or claims at d) (leader_of (slot_at (slots_of states claims leaders) at)) ∙ sym by))
          (released-seen states claims leaders groups kept (slots_of states claims leaders) refl at at refl)

      -- a group is free
      pub numbered-freed : (own : slice_index leaders at ≡ at) (tags : List ℕ) (behind : tags ≡ tags_in (slice_index groups at)) (mid : List ℕ) (number : ℕ)
          (d : Claim) → number ≡ number_in key (slice_index_or claims at d) → AreWithout before number at mid → length after ≡ 16
          → AreWithoutEach key mid claims tags after
          → AreNumbered key (slots_of (set_each tags state.Free (set states at state.Free)) claims leaders) after
      numbered-freed own tags behind mid number d by without long each =
          record {
            masks_are = long;
            each = λ g t low below.
                each g t low below
                ∙ ap (λ (n : ℕ). cond (is_among tags t && is_claim_of key g (slice_get claims t)) 0 n)
                (without g t low below
                ∙ ap (λ (n : ℕ). cond (number == g && t == at) 0 n)
                (owned.each g t low below ∙ ap bit (of-is states claims leaders groups kept g t below)))
                ∙ join (is_among tags t) (t == at) (is_free_at states t) (is_claim_of key g (slice_get claims t)) (number == g) (its g t below)
                ∙ ap (λ (b : Bool). bit (not b && is_claim_of key g (slice_get claims t)))
                (ap (λ (b : Bool). cond b true (cond (t == at) true (is_free_at states t)))
                (among-behind states claims leaders groups kept at there own tags behind t below)
                ∙ sym (free-now states claims leaders groups kept at there own tags behind t below))
                ∙ sym (ap bit (of-is (set_each tags state.Free (set states at state.Free)) claims leaders (set groups at 0)
                (AreKept-freed states claims leaders groups kept at there own tags behind) g t below));
          }
        where
          its : (g t : ℕ) → t < 64 → t == at ≡ true → (number == g) ≡ is_claim_of key g (slice_get claims t)
          its g t below here =
              (let many = kept.claims_are in
              ap (λ (n : ℕ). n == g) (by ∙ ap (λ (n : ℕ). number_in key (slice_index_or claims n d)) (sym (eqb-true t at here)))
              ∙ sym (claim-read claims t d g (omega arith)))

          none : (b f : Bool) → cond b 0 (bit (not f && false)) ≡ 0
          none true f = refl
          none false true = refl
          none false false = refl

          alone : (c f : Bool) → cond (c && true) 0 (bit (not f && c)) ≡ 0
          alone true f = refl
          alone false true = refl
          alone false false = refl

          stays : (b : Bool) (n : ℕ) → cond (b && false) 0 n ≡ n
          stays true n = refl
          stays false n = refl

          join : (a e f c k : Bool) → (e ≡ true → k ≡ c)
              → cond (a && c) 0 (cond (k && e) 0 (bit (not f && c))) ≡ bit (not (cond a true (cond e true f)) && c)
          join true e f true k own_claim = refl
          join true e f false k own_claim = none (k && e) f
          join false true f c k own_claim = ap (λ (b : Bool). cond (b && true) 0 (bit (not f && c))) (own_claim refl) ∙ alone c f
          join false false f c k own_claim = stays k (bit (not f && c))

  -- ---- tag by tag

  -- the tags that are left, taken from the numbers of their claims here, are all tags taken from there
  abbrev pub AreGoing : (left : List ℕ) → List Claim → (now tags start : List ℕ) → Type 0
  AreGoing left claims now tags start = (g t : ℕ) → g < 16 → t < 64
      → cond (is_among left t && is_claim_of key g (slice_get claims t)) 0 (bit_at (slice_index now g) t)
      ≡ cond (is_among tags t && is_claim_of key g (slice_get claims t)) 0 (bit_at (slice_index start g) t)

  pub AreGoing-one : (left rest : List ℕ) (claims : List Claim) (now next tags start : List ℕ) (number tag at : ℕ) (d : Claim) → left ≡ tag ∷ rest
      → length claims ≡ 64 → at ≡ tag → number ≡ number_in key (slice_index_or claims at d) → AreWithout now number tag next
      → AreGoing left claims now tags start → AreGoing rest claims next tags start
  AreGoing-one left rest claims now next tags start number tag at d front many same by without going g t low below =
      ap (λ (n : ℕ). cond (is_among rest t && is_claim_of key g (slice_get claims t)) 0 n) (without g t low below)
      ∙ (elim (cases_eq t tag) [
        | inl here ↦
            (let whose : is_claim_of key g (slice_get claims t) ≡ (number == g) =
            claim-read claims t d g (omega arith) ∙ ap (λ (n : ℕ). number_in key (slice_index_or claims n d) == g) (here ∙ sym same)
            ∙ ap (λ (n : ℕ). n == g) (sym by) in
            ap (λ (b : Bool). cond (is_among rest t && is_claim_of key g (slice_get claims t)) 0 (cond (number == g && b) 0 (bit_at (slice_index now g) t)))
            (eq-eqb t tag here)
            ∙ ap (λ (b : Bool). cond (is_among rest t && b) 0 (cond (number == g && true) 0 (bit_at (slice_index now g) t))) whose
            ∙ its (is_among rest t) (number == g) (bit_at (slice_index now g) t)
            ∙ sym (ap (λ (b : Bool). cond ((b || is_among rest t) && is_claim_of key g (slice_get claims t)) 0 (bit_at (slice_index now g) t))
            (eq-eqb tag t (sym here))
            ∙ ap (λ (b : Bool). cond b 0 (bit_at (slice_index now g) t)) whose))
        | inr other ↦
            ap (λ (b : Bool). cond (is_among rest t && is_claim_of key g (slice_get claims t)) 0 (cond (number == g && b) 0 (bit_at (slice_index now g) t)))
            (ne_eqb t tag other)
            ∙ ap (λ (n : ℕ). cond (is_among rest t && is_claim_of key g (slice_get claims t)) 0 n) (stays (number == g) (bit_at (slice_index now g) t))
            ∙ sym (ap (λ (b : Bool). cond ((b || is_among rest t) && is_claim_of key g (slice_get claims t)) 0 (bit_at (slice_index now g) t))
            (ne_eqb tag t (λ e. other (sym e))))
      ])
      ∙ ap (λ (ts : List ℕ). cond (is_among ts t && is_claim_of key g (slice_get claims t)) 0 (bit_at (slice_index now g) t)) (sym front)
      ∙ going g t low below
    where
      its : (a k : Bool) (n : ℕ) → cond (a && k) 0 (cond (k && true) 0 n) ≡ cond k 0 n
      its true true n = refl
      its true false n = refl
      its false true n = refl
      its false false n = refl

      stays : (b : Bool) (n : ℕ) → cond (b && false) 0 n ≡ n
      stays true n = refl
      stays false n = refl

  pub AreGoing-end : (left : List ℕ) (claims : List Claim) (now tags start : List ℕ) → left ≡ [] → AreGoing left claims now tags start
      → AreWithoutEach key start claims tags now
  AreGoing-end left claims now tags start over going g t low below =
      ap (λ (ts : List ℕ). cond (is_among ts t && is_claim_of key g (slice_get claims t)) 0 (bit_at (slice_index now g) t)) (sym over)
      ∙ going g t low below
