-- What groups of tags come to
use Rattle.std.proofs.Common.{◌≡◌, ℕ, zero, suc, ◌+◌, ◌<◌, ◌≤◌, ◌==◌, ◌||◌, cond, Bool, true, false, inl, inr, List, [], ◌∷◌, Some}
use Rattle.std.proofs.Common.{length, take, arith, refl, sym, ap, ◌∙◌}
use Rattle.std.specs.List.{Contains, range_with_len}
use Rattle.std.proofs.lemmas.Bool.{cases_lt, eq-eqb, eqb-true}
use Rattle.std.proofs.lemmas.List.{length-take-le}
use Rattle.std.proofs.lemmas.List.Elements.{All-contains, All-take, filter_passes}
use Rattle.nv_world_model.specs.World.{Command}
use Rattle.nv_tags.specs.Laws.{AreLed}
use Rattle.nv_tags.specs.Tags.{Free, Slot, Taken, Used, claimed, free_slots, goes_by, group, is_free, leader_in, slot_at, tags_where, taken_by}
use Rattle.nv_tags.proofs.Groups.{length-set_each, slot_at-set_each}
use Rattle.nv_tags.proofs.Rows.{holding, holding-high, holding-same, is_among, take-holding}
use Rattle.nv_tags.proofs.Together.{among-all, lowest-some}

-- as many as were asked for
pub claimed-count : (slots : List Slot) (count : ℕ) (tags : List ℕ) → claimed count slots ≡ Some tags → length tags ≡ count
claimed-count slots count tags found =
    let both = lowest-some count (free_slots slots) tags found in
    ap length both.0 ∙ length-take-le count (free_slots slots) both.1

slot_at-past : (slots : List Slot) (tag : ℕ) → length slots ≤ tag → slot_at slots tag ≡ Free
slot_at-past [] tag past = refl
slot_at-past (s ∷ slots) zero past = absurd (omega arith)
slot_at-past (s ∷ slots) (suc tag) past = slot_at-past slots tag (omega arith)

-- what is claimed
module _ (slots : List Slot) (count leader : ℕ) (tags : List ℕ) (command : Command) (led : AreLed slots) (found : claimed count slots ≡ Some tags)
    (first : leader_in (Some tags) ≡ Some leader) (own : command.leader ≡ leader) where
  are : tags ≡ take count (free_slots slots)
  are = (lowest-some count (free_slots slots) tags found).0

  taken-at : (t : ℕ) → t < length slots
      → slot_at (taken_by command tags slots) t ≡ cond (is_among tags t) (Used command Taken) (slot_at slots t)
  taken-at t within = slot_at-set_each tags (Used command Taken) slots t within

  -- each was free, and there
  was-free : (t : ℕ) → is_among tags t ≡ true → is_free (slot_at slots t) ≡ true
  unfolding tags_where
  was-free t among =
      among-all (λ i. is_free (slot_at slots i) ≡ true) (take count (free_slots slots)) t
      (All-take (λ i. is_free (slot_at slots i) ≡ true) count (free_slots slots)
      (filter_passes (λ i. is_free (slot_at slots i)) (range_with_len 0 (length slots))))
      (ap (λ (xs : List ℕ). is_among xs t) (sym are) ∙ among)

  was-there : (t : ℕ) → is_among tags t ≡ true → t < length slots
  unfolding tags_where
  was-there t among =
      (let below = among-all (λ i. i < 0 + length slots) (take count (free_slots slots)) t
      (All-take (λ i. i < 0 + length slots) count (free_slots slots) (holding-high (λ i. is_free (slot_at slots i)) 0 (length slots)))
      (ap (λ (xs : List ℕ). is_among xs t) (sym are) ∙ among) in
      omega arith)

  leads : is_among tags leader ≡ true
  leads = by_tags tags first
    where
      by_tags : (ts : List ℕ) → leader_in (Some ts) ≡ Some leader → is_among ts leader ≡ true
      by_tags [] e = (cc)
      by_tags (t ∷ ts) e = (let same : t ≡ leader = (cc) in ap (λ (b : Bool). b || is_among ts leader) (eq-eqb t leader same))

  -- no other tag goes by the leader
  none-before : (t : ℕ) (s : Slot) → slot_at slots t ≡ s → goes_by leader s ≡ false
  none-before t Free is = refl
  none-before t (Used other point) is = by_test (other.leader == leader) refl
    where
      by_test : (b : Bool) → other.leader == leader ≡ b → b ≡ false
      by_test false apart = refl
      by_test true same =
          (let busy : is_free (slot_at slots leader) ≡ false =
          sym (ap (λ (n : ℕ). is_free (slot_at slots n)) (eqb-true other.leader leader same)) ∙ led t other point is in
          let idle = was-free leader leads in
          cc)

  pub claimed-group : group leader (taken_by command tags slots) ≡ tags
  unfolding tags_where
  claimed-group =
      ap (holding (λ t. goes_by leader (slot_at (taken_by command tags slots) t)) 0) (length-set_each tags (Used command Taken) slots)
      ∙ holding-same (λ t. goes_by leader (slot_at (taken_by command tags slots) t)) (is_among tags) 0 (length slots)
      (λ t low below. ap (goes_by leader) (taken-at t (omega arith)) ∙ by_among t (is_among tags t))
      ∙ ap (λ (ts : List ℕ). holding (is_among ts) 0 (length slots)) are
      ∙ sym (take-holding (λ t. is_free (slot_at slots t)) 0 (length slots) count)
      ∙ sym are
    where
      by_among : (t : ℕ) (b : Bool) → goes_by leader (cond b (Used command Taken) (slot_at slots t)) ≡ b
      by_among t true = eq-eqb command.leader leader own
      by_among t false = none-before t (slot_at slots t) refl

  pub claimed-led : AreLed (taken_by command tags slots)
  claimed-led tag other point is =
      (elim (cases_lt tag (length slots)) [
        | inl within ↦ by_among (is_among tags tag) refl (sym (taken-at tag within) ∙ is)
        | inr past ↦
            absurd (never (sym (slot_at-past (taken_by command tags slots) tag (omega (arith, length-set_each tags (Used command Taken) slots))) ∙ is))
      ])
    where
      never : Free ≡ Used other point → ⊥
      never e = (cc)

      busy : (b : Bool) (s : Slot) → is_free s ≡ false → is_free (cond b (Used command Taken) s) ≡ false
      busy true s used = refl
      busy false s used = used

      by_among : (b : Bool) → is_among tags tag ≡ b → cond b (Used command Taken) (slot_at slots tag) ≡ Used other point
          → is_free (slot_at (taken_by command tags slots) other.leader) ≡ false
      by_among true among e =
          (let same : command ≡ other = (cc) in
          let there : other.leader ≡ leader = sym (ap (λ (c : Command). c.leader) same) ∙ own in
          ap (λ (n : ℕ). is_free (slot_at (taken_by command tags slots) n)) there
          ∙ ap is_free (taken-at leader (was-there leader leads))
          ∙ ap (λ (b : Bool). is_free (cond b (Used command Taken) (slot_at slots leader))) leads)
      by_among false among e =
          (let used = led tag other point e in
          elim (cases_lt other.leader (length slots)) [
            | inl within ↦ ap is_free (taken-at other.leader within) ∙ busy (is_among tags other.leader) (slot_at slots other.leader) used
            | inr past ↦
                (let idle : is_free (slot_at slots other.leader) ≡ true = ap is_free (slot_at-past slots other.leader past) in cc)
          ])

-- ---- two groups

in-group : (test : Slot → Bool) (slots : List Slot) (tag : ℕ) → Contains (tags_where test slots) tag → test (slot_at slots tag) ≡ true
unfolding tags_where
in-group test slots tag here =
    All-contains (λ t. test (slot_at slots t) ≡ true) (tags_where test slots) tag
    (filter_passes (λ t. test (slot_at slots t)) (range_with_len 0 (length slots))) here

pub one-group : (slots : List Slot) (tag leader other : ℕ) → Contains (group leader slots) tag → Contains (group other slots) tag → leader ≡ other
one-group slots tag leader other here there =
    by_slot (slot_at slots tag) (in-group (goes_by leader) slots tag here) (in-group (goes_by other) slots tag there)
  where
    by_slot : (s : Slot) → goes_by leader s ≡ true → goes_by other s ≡ true → leader ≡ other
    by_slot Free one two = (cc)
    by_slot (Used command point) one two = sym (eqb-true command.leader leader one) ∙ eqb-true command.leader other two
