-- Tags by their states, their claims and their leaders, one beside the other.
use Rattle.std.proofs.Common.{◌≡◌, ◌≢◌, ◌⊎◌, ℕ, zero, suc, ◌<◌, ◌≤◌, ◌==◌, not, ◌&&◌, false, true, List, [], ◌∷◌, length, set, slice_index, slice_index_or, replicate}
use Rattle.std.proofs.Common.{Some, arith, refl, sym, ap, ◌∙◌, subst, inl, inr}
use Rattle.std.proofs.lemmas.Bool.{cases_lt, eq-eqb}
use Rattle.nv_world_model.specs.World.{Command}
use Rattle.nv_tags.specs.Kept.{AreKept, is_free_at, slots_of}
use Rattle.nv_tags.specs.Tags.{Free, Point, Slot, Taken, Used, command_in, command_of, goes_by, is_free, is_free_state, leader_of, moved_to}
use Rattle.nv_tags.specs.Tags.{slot_at, slot_of, state_at, state_of, with_point}
use Rattle.nv_tags.specs.declared.claim.Claim.{Claim}
use Rattle.nv_tags.specs.declared.state.TagState.{TagState}
use Rattle.nv_tags.specs.declared.state.TagState.TheVariants as state

-- as many as there are states, where there are as many of the others
pub slots_of-length : (states : List TagState) (claims : List Claim) (leaders : List ℕ)
    → length states ≡ length claims → length states ≡ length leaders → length (slots_of states claims leaders) ≡ length states
unfolding slots_of
slots_of-length [] claims leaders same too = refl
slots_of-length (s ∷ states) [] leaders same too = absurd (omega arith)
slots_of-length (s ∷ states) (c ∷ claims) [] same too = absurd (omega arith)
slots_of-length (s ∷ states) (c ∷ claims) (l ∷ leaders) same too = ap suc (slots_of-length states claims leaders (omega arith) (omega arith))

-- the tag of a number
pub slots_of-at : (states : List TagState) (claims : List Claim) (leaders : List ℕ) (tag : ℕ) (s : TagState) (c : Claim)
    → length states ≡ length claims → length states ≡ length leaders → tag < length states
    → slot_at (slots_of states claims leaders) tag
    ≡ slot_of (slice_index_or states tag s) (command_of (slice_index_or claims tag c) (slice_index leaders tag))
unfolding slots_of
slots_of-at [] claims leaders tag s c same too below = absurd (omega arith)
slots_of-at (x ∷ states) [] leaders tag s c same too below = absurd (omega arith)
slots_of-at (x ∷ states) (y ∷ claims) [] tag s c same too below = absurd (omega arith)
slots_of-at (x ∷ states) (y ∷ claims) (z ∷ leaders) zero s c same too below = refl
slots_of-at (x ∷ states) (y ∷ claims) (z ∷ leaders) (suc tag) s c same too below =
    slots_of-at states claims leaders tag s c (omega arith) (omega arith) (omega arith)

-- a number that no tag has
pub slots_of-past : (states : List TagState) (claims : List Claim) (leaders : List ℕ) (tag : ℕ) → length states ≤ tag
    → slot_at (slots_of states claims leaders) tag ≡ Free
unfolding slots_of
slots_of-past [] claims leaders tag past = refl
slots_of-past (x ∷ states) [] leaders tag past = refl
slots_of-past (x ∷ states) (y ∷ claims) [] tag past = refl
slots_of-past (x ∷ states) (y ∷ claims) (z ∷ leaders) zero past = absurd (omega arith)
slots_of-past (x ∷ states) (y ∷ claims) (z ∷ leaders) (suc tag) past = slots_of-past states claims leaders tag (omega arith)

-- a tag with another state, another claim and another leader
pub slots_of-set : (states : List TagState) (claims : List Claim) (leaders : List ℕ) (tag : ℕ) (s : TagState) (c : Claim) (l : ℕ)
    → length states ≡ length claims → length states ≡ length leaders
    → slots_of (set states tag s) (set claims tag c) (set leaders tag l) ≡ set (slots_of states claims leaders) tag (slot_of s (command_of c l))
unfolding slots_of
slots_of-set [] claims leaders tag s c l same too = refl
slots_of-set (x ∷ states) [] leaders tag s c l same too = absurd (omega arith)
slots_of-set (x ∷ states) (y ∷ claims) [] tag s c l same too = absurd (omega arith)
slots_of-set (x ∷ states) (y ∷ claims) (z ∷ leaders) zero s c l same too = refl
slots_of-set (x ∷ states) (y ∷ claims) (z ∷ leaders) (suc tag) s c l same too =
    ap (λ slots. slot_of x (command_of y z) ∷ slots) (slots_of-set states claims leaders tag s c l (omega arith) (omega arith))

-- a tag with another state
pub slots_of-state : (states : List TagState) (claims : List Claim) (leaders : List ℕ) (tag : ℕ) (s : TagState) (c : Claim)
    → length states ≡ length claims → length states ≡ length leaders
    → slots_of (set states tag s) claims leaders
    ≡ set (slots_of states claims leaders) tag (slot_of s (command_of (slice_index_or claims tag c) (slice_index leaders tag)))
unfolding slots_of
slots_of-state [] claims leaders tag s c same too = refl
slots_of-state (x ∷ states) [] leaders tag s c same too = absurd (omega arith)
slots_of-state (x ∷ states) (y ∷ claims) [] tag s c same too = absurd (omega arith)
slots_of-state (x ∷ states) (y ∷ claims) (z ∷ leaders) zero s c same too = refl
slots_of-state (x ∷ states) (y ∷ claims) (z ∷ leaders) (suc tag) s c same too =
    ap (λ slots. slot_of x (command_of y z) ∷ slots) (slots_of-state states claims leaders tag s c (omega arith) (omega arith))

-- so many tags that are free
pub slots_of-free : (count : ℕ) (c : Claim)
    → slots_of (replicate count state.Free) (replicate count c) (replicate count 0) ≡ replicate count Free
unfolding slots_of
slots_of-free zero c = refl
slots_of-free (suc count) c = ap (λ slots. Free ∷ slots) (slots_of-free count c)

-- a tag is free where its state is
pub slot-free : (s : TagState) (command : Command) → is_free (slot_of s command) ≡ is_free_state s
slot-free state.Free command = refl
slot-free state.Taken command = refl
slot-free state.Flying command = refl
slot-free (state.Ended st) command = refl

-- the state of a tag is its state
pub slot-state : (s : TagState) (command : Command) → state_of (slot_of s command) ≡ s
slot-state state.Free command = refl
slot-state state.Taken command = refl
slot-state state.Flying command = refl
slot-state (state.Ended st) command = refl

-- whose command a tag is of
pub slot-goes_by : (s : TagState) (command : Command) (leader : ℕ)
    → goes_by leader (slot_of s command) ≡ (not (is_free_state s) && command.leader == leader)
slot-goes_by state.Free command leader = refl
slot-goes_by state.Taken command leader = refl
slot-goes_by state.Flying command leader = refl
slot-goes_by (state.Ended st) command leader = refl

-- ---- of a lane

-- a tag whose command is at another point
moved-slot : (point : Point) (s : TagState) (command : Command) → s ≢ state.Free → moved_to point (slot_of s command) ≡ Used command point
moved-slot point state.Free command used = absurd (used refl)
moved-slot point state.Taken command used = refl
moved-slot point state.Flying command used = refl
moved-slot point (state.Ended st) command used = refl

-- the command of a tag that isn't free
command-slot : (s : TagState) (command : Command) → s ≢ state.Free → command_in (slot_of s command) ≡ Some command
command-slot state.Free command used = absurd (used refl)
command-slot state.Taken command used = refl
command-slot state.Flying command used = refl
command-slot (state.Ended st) command used = refl

-- of a tag that is used
leader-slot : (s : TagState) (command : Command) → s ≢ state.Free → leader_of (slot_of s command) ≡ command.leader
leader-slot state.Free command used = absurd (used refl)
leader-slot state.Taken command used = refl
leader-slot state.Flying command used = refl
leader-slot (state.Ended st) command used = refl

-- of one that is its own leader, where it is not nobody's
pub leads-by : (slot : Slot) (tag : ℕ) → state_of slot ≢ state.Free → leader_of slot ≡ tag → goes_by tag slot ≡ true
leads-by Free tag used own = absurd (used refl)
leads-by (Used command point) tag used own = eq-eqb command.leader tag own

free-state : (s : TagState) → s ≢ state.Free → is_free_state s ≡ false
free-state state.Free used = absurd (used refl)
free-state state.Taken used = refl
free-state state.Flying used = refl
free-state (state.Ended st) used = refl

module _ (states : List TagState) (claims : List Claim) (leaders groups : List ℕ) (kept : AreKept states claims leaders groups) (tag : ℕ) where
  -- as many of each
  pub as_claims : length states ≡ length claims
  as_claims = kept.states_are ∙ sym kept.claims_are

  pub as_leaders : length states ≡ length leaders
  as_leaders = kept.states_are ∙ sym kept.leaders_are

  -- a tag that isn't free is one of them
  pub used-there : state_at (slots_of states claims leaders) tag ≢ state.Free → tag < 64
  used-there used =
      let all = kept.states_are in
      elim (cases_lt tag 64) [
        | inl below ↦ below
        | inr past ↦ absurd (used (ap state_of (slots_of-past states claims leaders tag (omega arith))))
      ]

  -- the tag, by what is kept of it
  pub slot-is : (s : TagState) (c : Claim) → tag < 64 → slot_at (slots_of states claims leaders) tag
      ≡ slot_of (slice_index_or states tag s) (command_of (slice_index_or claims tag c) (slice_index leaders tag))
  slot-is s c below = (let all = kept.states_are in slots_of-at states claims leaders tag s c as_claims as_leaders (omega arith))

  pub state-is : (s : TagState) (c : Claim) → tag < 64 → slice_index_or states tag s ≡ state_at (slots_of states claims leaders) tag
  state-is s c below =
      sym (ap state_of (slot-is s c below) ∙ slot-state (slice_index_or states tag s) (command_of (slice_index_or claims tag c) (slice_index leaders tag)))

  -- a used tag is not free as it is kept
  pub used-state : (s : TagState) (c : Claim) → state_at (slots_of states claims leaders) tag ≢ state.Free → slice_index_or states tag s ≢ state.Free
  used-state s c used free = used (sym (state-is s c (used-there used)) ∙ free)

  pub claim-is : (s : TagState) (c : Claim) → state_at (slots_of states claims leaders) tag ≢ state.Free
      → command_in (slot_at (slots_of states claims leaders) tag) ≡ Some (command_of (slice_index_or claims tag c) (slice_index leaders tag))
  claim-is s c used =
      ap command_in (slot-is s c (used-there used))
      ∙ command-slot (slice_index_or states tag s) (command_of (slice_index_or claims tag c) (slice_index leaders tag)) (used-state s c used)

  pub leader-is : (s : TagState) (c : Claim) → state_at (slots_of states claims leaders) tag ≢ state.Free
      → leader_of (slot_at (slots_of states claims leaders) tag) ≡ slice_index leaders tag
  leader-is s c used =
      ap leader_of (slot-is s c (used-there used))
      ∙ leader-slot (slice_index_or states tag s) (command_of (slice_index_or claims tag c) (slice_index leaders tag)) (used-state s c used)

  pub moved-is : (point : Point) (now s : TagState) (c : Claim) → ((command : Command) → slot_of now command ≡ Used command point)
      → state_at (slots_of states claims leaders) tag ≢ state.Free
      → slots_of (set states tag now) claims leaders ≡ with_point point tag (slots_of states claims leaders)
  moved-is point now s c same used =
      (let command : Command = command_of (slice_index_or claims tag c) (slice_index leaders tag) in
      let here : moved_to point (slot_at (slots_of states claims leaders) tag) ≡ slot_of now command =
      ap (moved_to point) (slot-is s c (used-there used))
      ∙ moved-slot point (slice_index_or states tag s) command (used-state s c used) ∙ sym (same command) in
      slots_of-state states claims leaders tag now c as_claims as_leaders ∙ ap (λ slot. set (slots_of states claims leaders) tag slot) (sym here))

  -- whose command it is of
  pub goes_by-is : (c : Claim) (leader : ℕ) → tag < 64
      → goes_by leader (slot_at (slots_of states claims leaders) tag) ≡ (not (is_free_at states tag) && slice_index leaders tag == leader)
  goes_by-is c leader below =
      ap (goes_by leader) (slot-is state.Free c below)
      ∙ slot-goes_by (slice_index_or states tag state.Free) (command_of (slice_index_or claims tag c) (slice_index leaders tag)) leader

  pub free-is : (c : Claim) → tag < 64 → is_free (slot_at (slots_of states claims leaders) tag) ≡ is_free_at states tag
  free-is c below =
      ap is_free (slot-is state.Free c below)
      ∙ slot-free (slice_index_or states tag state.Free) (command_of (slice_index_or claims tag c) (slice_index leaders tag))

-- some claim of them
pub some_claim : (claims : List Claim) → length claims ≡ 64 → Claim
some_claim [] all = absurd (omega arith)
some_claim (c ∷ claims) all = c

-- ---- as they are seen

module _ (states : List TagState) (claims : List Claim) (leaders groups : List ℕ) (kept : AreKept states claims leaders groups)
    (slots : List Slot) (seen : slots_of states claims leaders ≡ slots) (tag at : ℕ) (same : at ≡ tag) where
  abbrev IsUsed : Type 0
  IsUsed = state_at slots tag ≢ state.Free

  pub inside : IsUsed → state_at (slots_of states claims leaders) at ≢ state.Free
  inside used = subst (λ xs. state_at xs at ≢ state.Free) (sym seen) (subst (λ i. state_at slots i ≢ state.Free) (sym same) used)

  pub there : IsUsed → at < 64
  there used = used-there states claims leaders groups kept at (inside used)

  pub state-seen : (s : TagState) → at < 64 → slice_index_or states at s ≡ state_at slots tag
  state-seen s below =
      state-is states claims leaders groups kept at s (some_claim claims kept.claims_are) below
      ∙ ap (λ xs. state_at xs at) seen ∙ ap (state_at slots) same

  -- a used tag is not free as it is kept
  pub busy-seen : IsUsed → is_free_at states at ≡ false
  busy-seen used =
      free-state (slice_index_or states at state.Free)
      (used-state states claims leaders groups kept at state.Free (some_claim claims kept.claims_are) (inside used))

  pub claim-seen : (c : Claim) → IsUsed
      → command_in (slot_at slots tag) ≡ Some (command_of (slice_index_or claims at c) (leader_of (slot_at slots tag)))
  claim-seen c used =
      (let leader : slice_index leaders at ≡ leader_of (slot_at slots tag) =
      sym (leader-is states claims leaders groups kept at state.Free c (inside used))
      ∙ ap (λ xs. leader_of (slot_at xs at)) seen ∙ ap (λ i. leader_of (slot_at slots i)) same in
      ap (λ i. command_in (slot_at slots i)) (sym same) ∙ ap (λ xs. command_in (slot_at xs at)) (sym seen)
      ∙ claim-is states claims leaders groups kept at state.Free c (inside used)
      ∙ ap (λ l. Some (command_of (slice_index_or claims at c) l)) leader)

  pub leader-seen : IsUsed → slice_index leaders at ≡ leader_of (slot_at slots tag)
  leader-seen used =
      sym (leader-is states claims leaders groups kept at state.Free (some_claim claims kept.claims_are) (inside used))
      ∙ ap (λ xs. leader_of (slot_at xs at)) seen ∙ ap (λ i. leader_of (slot_at slots i)) same

  pub moved-seen : (point : Point) (now : TagState) → ((command : Command) → slot_of now command ≡ Used command point) → IsUsed
      → slots_of (set states at now) claims leaders ≡ with_point point tag slots
  moved-seen point now by used =
      moved-is states claims leaders groups kept at point now state.Free (some_claim claims kept.claims_are) by (inside used)
      ∙ ap (λ xs. with_point point at xs) seen ∙ ap (λ i. with_point point i slots) same

  pub released-seen : slots_of (set states at state.Free) claims leaders ≡ set slots tag Free
  released-seen =
      slots_of-state states claims leaders at state.Free (some_claim claims kept.claims_are)
      (as_claims states claims leaders groups kept at) (as_leaders states claims leaders groups kept at)
      ∙ ap (λ xs. set xs at Free) seen ∙ ap (λ i. set slots i Free) same

  pub claimed-seen : (claim : Claim) (leader : ℕ)
      → slots_of (set states at state.Taken) (set claims at claim) (set leaders at leader) ≡ set slots tag (Used (command_of claim leader) Taken)
  claimed-seen claim leader =
      slots_of-set states claims leaders at state.Taken claim leader
      (as_claims states claims leaders groups kept at) (as_leaders states claims leaders groups kept at)
      ∙ ap (λ xs. set xs at (Used (command_of claim leader) Taken)) seen
      ∙ ap (λ i. set slots i (Used (command_of claim leader) Taken)) same

-- a tag that is taken, or flying, is not free
pub taken-used : (slots : List Slot) (tag : ℕ) → state_at slots tag ≡ state.Taken → state_at slots tag ≢ state.Free
taken-used slots tag taken free = let never : state.Taken ≡ state.Free = sym taken ∙ free in cc

pub going-used : (slots : List Slot) (tag : ℕ) → (state_at slots tag ≡ state.Taken) ⊎ (state_at slots tag ≡ state.Flying) → state_at slots tag ≢ state.Free
going-used slots tag (inl taken) free = let never : state.Taken ≡ state.Free = sym taken ∙ free in cc
going-used slots tag (inr flying) free = let never : state.Flying ≡ state.Free = sym flying ∙ free in cc
