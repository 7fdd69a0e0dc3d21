-- Tags as they are kept: states, claims and leaders, side by side; and for each tag that may lead, the tags that follow it, as a number with a bit
-- for each. So are the tags of the commands of each guest, and of each number of a submission queue. No contract of a public function names this.
use Rattle.std.specs.Prelude.{◌≡◌, ℕ, ◌<◌, ◌==◌, ◌&&◌, not, Bool, true, false, if◌then◌else◌, List, [], ◌∷◌, length, slice_get, slice_index}
use Rattle.std.specs.Prelude.{slice_index_or}
use Rattle.std.specs.Int.{bit_at}
use Rattle.std.specs.List.{filter, list_any, range_with_len}
use Rattle.nv_entry.specs.Status.{bit}
use Rattle.nv_world_model.specs.Area.{tag_count}
use Rattle.nv_tags.specs.Numbers.{Key, has_number, is_claim_of, number_count}
use Rattle.nv_tags.specs.Tags.{Slot, command_of, is_free_state, slot_at, slot_of}
use Rattle.nv_tags.specs.declared.claim.Claim.{Claim}
use Rattle.nv_tags.specs.declared.state.TagState.{TagState}
use Rattle.nv_tags.specs.declared.state.TagState.TheVariants as state

-- tags by their states, their claims and the tags that these go by
unfoldable pub slots_of : List TagState → List Claim → (leaders : List ℕ) → List Slot
slots_of [] claims leaders = []
slots_of (s ∷ states) [] leaders = []
slots_of (s ∷ states) (claim ∷ claims) [] = []
slots_of (s ∷ states) (claim ∷ claims) (leader ∷ leaders) = slot_of s (command_of claim leader) ∷ slots_of states claims leaders

-- the tags whose bits are set, in order
unfoldable pub tags_in : (mask : ℕ) → List ℕ
tags_in mask = filter (λ tag. bit_at mask tag == 1) (range_with_len 0 tag_count)

-- whether the tag of that number is free
abbrev pub is_free_at : List TagState → (tag : ℕ) → Bool
is_free_at states tag = is_free_state (slice_index_or states tag state.Free)

-- the free tags, in order
unfoldable pub free_states : List TagState → List ℕ
free_states states = filter (is_free_at states) (range_with_len 0 (length states))

-- whether a tag follows that leader in its group
abbrev pub is_behind : List TagState → (leaders : List ℕ) → (leader tag : ℕ) → Bool
is_behind states leaders leader tag =
    not (is_free_at states tag) && (slice_index leaders tag == leader && not (tag == leader))

-- whether the command of the tag of that number was taken, and no more; whether it is with the physical controller; whether it has ended
abbrev pub is_taken_state : TagState → Bool
is_taken_state state.Free = false
is_taken_state state.Taken = true
is_taken_state state.Flying = false
is_taken_state (state.Ended st) = false

abbrev pub is_flying_state : TagState → Bool
is_flying_state state.Free = false
is_flying_state state.Taken = false
is_flying_state state.Flying = true
is_flying_state (state.Ended st) = false

abbrev pub is_ended_state : TagState → Bool
is_ended_state state.Free = false
is_ended_state state.Taken = false
is_ended_state state.Flying = false
is_ended_state (state.Ended st) = true

-- the bits of a mask are set exactly where a test of the states holds
abbrev pub IsMask : (test : TagState → Bool) → List TagState → (mask : ℕ) → Type 0
IsMask test states mask = (tag : ℕ) → tag < tag_count → bit_at mask tag ≡ bit (test (slice_index_or states tag state.Free))

-- a mask that has that tag, too, or not any more
abbrev pub IsWith : (before tag now : ℕ) → Type 0
IsWith before tag now = (t : ℕ) → t < tag_count → bit_at now t ≡ (if t == tag then 1 else bit_at before t)

abbrev pub IsWithout : (before tag now : ℕ) → Type 0
IsWithout before tag now = (t : ℕ) → t < tag_count → bit_at now t ≡ (if t == tag then 0 else bit_at before t)

-- masks by number, where that number's has the tags of a mask, too
abbrev pub AreWith : (before : List ℕ) (number mask : ℕ) (now : List ℕ) → Type 0
AreWith before number mask now = (g t : ℕ) → g < number_count → t < tag_count
    → bit_at (slice_index now g) t ≡ (if number == g && bit_at mask t == 1 then 1 else bit_at (slice_index before g) t)

-- masks by number, where that number's has that tag not any more
abbrev pub AreWithout : (before : List ℕ) (number tag : ℕ) (now : List ℕ) → Type 0
AreWithout before number tag now = (g t : ℕ) → g < number_count → t < tag_count
    → bit_at (slice_index now g) t ≡ (if number == g && t == tag then 0 else bit_at (slice_index before g) t)

-- masks by number, where each number's has those of these tags whose claims have it not any more
abbrev pub AreWithoutEach : Key → (before : List ℕ) → List Claim → (tags now : List ℕ) → Type 0
AreWithoutEach key before claims tags now = (g t : ℕ) → g < number_count → t < tag_count
    → bit_at (slice_index now g) t
    ≡ (if list_any (λ tag. tag == t) tags && is_claim_of key g (slice_get claims t) then 0 else bit_at (slice_index before g) t)

-- what is kept of 64 tags
pub record AreKept (states : List TagState) (claims : List Claim) (leaders groups : List ℕ) : Type 0 where
  pub states_are : length states ≡ tag_count
  pub claims_are : length claims ≡ tag_count
  pub leaders_are : length leaders ≡ tag_count
  pub groups_are : length groups ≡ tag_count
  -- each goes by a tag that there is
  pub led : (tag : ℕ) → tag < tag_count → slice_index leaders tag < tag_count
  -- a bit is set exactly where the tag follows that leader
  pub behind : (leader tag : ℕ) → leader < tag_count → tag < tag_count
      → bit_at (slice_index groups leader) tag ≡ bit (is_behind states leaders leader tag)

-- the masks of the free tags, of those whose commands were taken, and of those whose commands have ended
pub record AreMarked (states : List TagState) (free taken ended : ℕ) : Type 0 where
  pub free_are : IsMask is_free_state states free
  pub taken_are : IsMask is_taken_state states taken
  pub ended_are : IsMask is_ended_state states ended

-- for each number the mask of the tags whose commands have it
pub record AreNumbered (key : Key) (slots : List Slot) (masks : List ℕ) : Type 0 where
  pub masks_are : length masks ≡ number_count
  pub each : (number tag : ℕ) → number < number_count → tag < tag_count
      → bit_at (slice_index masks number) tag ≡ bit (has_number key number (slot_at slots tag))
