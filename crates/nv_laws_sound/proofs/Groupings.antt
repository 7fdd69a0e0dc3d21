-- The tags of commands behind a change of one command's tags: they get other parts of it, become free, or are claimed.
use Rattle.std.proofs.Common.{◌≡◌, ℕ, suc, ◌≤◌, ◌⊎◌, inl, inr, Bool, true, false, if◌then◌else◌, List, [], ◌∷◌, filter, length, replicate, slice_get}
use Rattle.std.proofs.Common.{take, Option, Some, None, arith, refl, sym, ap, ◌∙◌, eq-eqb, eqb-true, subst}
use Rattle.std.specs.List.{All}
use Rattle.std.proofs.lemmas.Bool.{ne_eqb}
use Rattle.std.proofs.lemmas.List.Elements.{All-weaker}
use Rattle.nv_world_model.specs.Geometry.{Geometry, Guest}
use Rattle.nv_world_model.specs.Share.{tags_of_entry}
use Rattle.nv_world_model.specs.World.{Command, lowest}
use Rattle.nv_laws_sound.specs.Groups.{AllRead, AreGrouped, AtOnce, Handed, IsGroup, IsMember, NoPart, Part, Reading, command_of, goes_by, group_of}
use Rattle.nv_laws_sound.specs.Groups.{is_led_by}
use Rattle.nv_laws_sound.proofs.Claims.{filled, filled-first, filled-stays, filled-there, filter-filled, filter-filled_other}
use Rattle.nv_laws_sound.proofs.Lists.{slice_get-below, slice_get-there, some-same}
use Rattle.nv_laws_sound.proofs.Numbers.{FailsAt, IsPut, Passes, Replaced, Stayed, all-at, filter-puts, filter-puts_other, length-puts}
use Rattle.nv_laws_sound.proofs.Numbers.{numbers-length, numbers-pass, numbers_where, puts, puts-stays, puts-there}

-- ---- tests

-- what goes by a tag has a command that does
pub record Goes (leader : ℕ) (part : Part) : Type 0 where
  pub command : Command
  pub has : command_of part ≡ Some command
  pub leads : command.leader ≡ leader

pub goes-has : (leader : ℕ) (part : Part) → goes_by leader part ≡ true → Goes leader part
goes-has leader part goes = by (command_of part) refl goes
  where
    by : (o : Option Command) → command_of part ≡ o → is_led_by leader o ≡ true → Goes leader part
    by None has led = cc
    by (Some command) has led = record { command = command; has = has; leads = eqb-true command.leader leader led }

pub goes-of : (leader : ℕ) (part : Part) (command : Command) → command_of part ≡ Some command → command.leader ≡ leader → goes_by leader part ≡ true
goes-of leader part command has leads = ap (is_led_by leader) has ∙ eq-eqb command.leader leader leads

-- and one that has another command does not
pub goes-other : (leader : ℕ) (part : Part) (command : Command) → command_of part ≡ Some command → (command.leader ≡ leader → ⊥) → goes_by leader part ≡ false
goes-other leader part command has other = ap (is_led_by leader) has ∙ ne_eqb command.leader leader other

pub goes-none : (leader : ℕ) (part : Part) → command_of part ≡ None → goes_by leader part ≡ false
goes-none leader part none = ap (is_led_by leader) none

-- ---- the tags of one command change

module _ (geometry : Geometry) (parts : List Part) (is : AreGrouped geometry parts) (leader : ℕ) (command : Command) (first : Part)
    (there : slice_get parts leader ≡ Some first) (same : command_of first ≡ Some command) (leads : command.leader ≡ leader) where
  -- their numbers
  abbrev pub group_numbers : List ℕ
  group_numbers = numbers_where (goes_by leader) parts

  -- each has the command
  pub group-command : (tag : ℕ) (part : Part) → slice_get parts tag ≡ Some part → goes_by leader part ≡ true → command_of part ≡ Some command
  group-command tag part at goes =
      let g = goes-has leader part goes in
      let m = is tag part g.command at g.has in
      let here : Some first ≡ Some m.first = sym there ∙ subst (λ n. slice_get parts n ≡ Some m.first) g.leads m.there in
      let one : first ≡ m.first = some-same first m.first here in
      g.has ∙ sym m.same ∙ ap command_of (sym one) ∙ same

  -- and of another command none has it
  others-fail : (c : Command) → (c.leader ≡ leader → ⊥) → All (FailsAt (goes_by c.leader) parts) group_numbers
  others-fail c other =
      All-weaker (Passes (goes_by leader) parts) (FailsAt (goes_by c.leader) parts)
      (λ n p x at. fails n p x at) group_numbers (numbers-pass (goes_by leader) parts)
    where
      fails : (n : ℕ) → Passes (goes_by leader) parts n → (x : Part) → slice_get parts n ≡ Some x → goes_by c.leader x ≡ false
      fails n p x at =
          let one : p.x ≡ x = some-same p.x x (sym p.is ∙ at) in
          let has = group-command n x at (subst (λ z. goes_by leader z ≡ true) one p.passes) in
          goes-other c.leader x command has (λ bad. other (sym bad ∙ leads))

  -- a tag of another command is as it was, where what comes is not that command's
  stayed-member : (vs : List Part) (tag : ℕ) (part : Part) (c : Command) → slice_get parts tag ≡ Some part → command_of part ≡ Some c
      → goes_by leader part ≡ false → All (λ v. goes_by c.leader v ≡ false) vs → IsMember geometry (puts group_numbers vs parts) tag c
  stayed-member vs tag part c at has fails out =
      let m = is tag part c at has in
      let other : c.leader ≡ leader → ⊥ =
      (λ led. (let bad : true ≡ false = sym (goes-of leader part c has led) ∙ fails in cc)) in
      record {
        low = m.low;
        first = m.first;
        there = puts-stays (goes_by leader) parts vs c.leader m.first m.there (goes-other leader m.first c m.same other);
        same = m.same;
        guest = m.guest;
        given = m.given;
        group =
            subst (IsGroup m.guest.namespace c) (sym (filter-puts_other (goes_by c.leader) group_numbers vs parts (others-fail c other) out)) m.group;
      }

  -- ---- they become free

  pub grouped-freed : (vs : List Part) → length vs ≡ length group_numbers → All (λ v. command_of v ≡ None) vs
      → AreGrouped geometry (puts group_numbers vs parts)
  grouped-freed vs many free tag part c at has = by (puts-there (goes_by leader) parts vs tag part many at)
    where
      by : IsPut (goes_by leader) parts vs tag part → IsMember geometry (puts group_numbers vs parts) tag c
      by (Replaced x was passes k is_v) =
          let bad : Some c ≡ None = sym has ∙ all-at (λ v. command_of v ≡ None) vs k part free is_v in cc
      by (Stayed was fails) =
          stayed-member vs tag part c was has fails
          (All-weaker (λ v. command_of v ≡ None) (λ v. goes_by c.leader v ≡ false) (λ v none. goes-none c.leader v none) vs free)

  -- ---- they get other parts of the same command

  pub grouped-put : (vs : List Part) → length vs ≡ length group_numbers → All (λ v. command_of v ≡ Some command) vs
      → ((guest : Guest) → slice_get geometry.guests command.guest ≡ Some guest → IsGroup guest.namespace command vs)
      → AreGrouped geometry (puts group_numbers vs parts)
  grouped-put vs many of now tag part c at has = by (puts-there (goes_by leader) parts vs tag part many at)
    where
      whole : group_of command.leader (puts group_numbers vs parts) ≡ vs
      whole =
          ap (λ n. group_of n (puts group_numbers vs parts)) leads
          ∙ filter-puts (goes_by leader) (goes_by leader) parts vs many
          (All-weaker (λ v. command_of v ≡ Some command) (λ v. goes_by leader v ≡ true) (λ v h. goes-of leader v command h leads) vs of) (λ x fails. fails)

      leading : (y : Part) → IsPut (goes_by leader) parts vs leader y → command_of y ≡ Some command
      leading y (Replaced x was passes k is_v) = all-at (λ v. command_of v ≡ Some command) vs k y of is_v
      leading y (Stayed was fails) =
          let one : first ≡ y = some-same first y (sym there ∙ was) in
          ap command_of (sym one) ∙ same

      own : (x : Part) → slice_get parts tag ≡ Some x → goes_by leader x ≡ true → IsMember geometry (puts group_numbers vs parts) tag command
      own x was passes =
          let m = is tag x command was (group-command tag x was passes) in
          let long = length-puts group_numbers vs parts in
          let below = slice_get-below parts leader first there in
          let y = slice_get-there (puts group_numbers vs parts) leader (omega (arith, long, below)) in
          record {
            low = m.low;
            first = y.0;
            there = ap (slice_get (puts group_numbers vs parts)) leads ∙ y.1;
            same = leading y.0 (puts-there (goes_by leader) parts vs leader y.0 many y.1);
            guest = m.guest;
            given = m.given;
            group = subst (IsGroup m.guest.namespace command) (sym whole) (now m.guest m.given);
          }

      by : IsPut (goes_by leader) parts vs tag part → IsMember geometry (puts group_numbers vs parts) tag c
      by (Replaced x was passes k is_v) =
          let mine : command ≡ c = some-same command c (sym (all-at (λ v. command_of v ≡ Some command) vs k part of is_v) ∙ has) in
          subst (IsMember geometry (puts group_numbers vs parts) tag) mine (own x was passes)
      by (Stayed was fails) =
          let other : c.leader ≡ leader → ⊥ =
          (λ led. (let bad : true ≡ false = sym (goes-of leader part c has led) ∙ fails in cc)) in
          stayed-member vs tag part c was has fails
          (All-weaker (λ v. command_of v ≡ Some command) (λ v. goes_by c.leader v ≡ false)
          (λ v h. goes-other c.leader v command h (λ bad. other (sym bad ∙ leads))) vs of)

-- ---- free tags are claimed

abbrev pub is_nothing : Part → Bool
is_nothing NoPart = true
is_nothing (Reading command) = false
is_nothing (Handed command share) = false
is_nothing (AtOnce command st) = false

nothing-none : (part : Part) → is_nothing part ≡ true → command_of part ≡ None
nothing-none NoPart is = refl
nothing-none (Reading command) is = cc
nothing-none (Handed command share) is = cc
nothing-none (AtOnce command st) is = cc

some-not_nothing : (part : Part) (command : Command) → command_of part ≡ Some command → is_nothing part ≡ false
some-not_nothing NoPart command has = cc
some-not_nothing (Reading c) command has = refl
some-not_nothing (Handed c share) command has = refl
some-not_nothing (AtOnce c st) command has = refl

module _ (geometry : Geometry) (parts : List Part) (is : AreGrouped geometry parts) (count : ℕ) (command : Command) (guest : Guest)
    (given : slice_get geometry.guests command.guest ≡ Some guest) (many : suc count ≤ length (filter is_nothing parts))
    (leads : command.leader ≡ lowest (take (suc count) (numbers_where is_nothing parts)))
    (wanted : tags_of_entry guest.namespace command.entry ≡ suc count) where
  abbrev claimed_parts : List Part
  claimed_parts = filled is_nothing (suc count) (Reading command) parts

  -- no tag goes by a free one
  pub free-apart : (tag : ℕ) (part : Part) (c : Command) → slice_get parts tag ≡ Some part → command_of part ≡ Some c → c.leader ≡ command.leader → ⊥
  free-apart tag part c at has led = by (numbers_where is_nothing parts) (numbers-pass is_nothing parts) refl (numbers-length is_nothing parts)
    where
      by : (ns : List ℕ) → All (Passes is_nothing parts) ns → numbers_where is_nothing parts ≡ ns → length (numbers_where is_nothing parts) ≡ length (filter is_nothing parts) → ⊥
      by [] each are long = let none = ap length are in absurd (omega (arith, none, long, many))
      by (n ∷ ns) each are long =
          let p = all-at (Passes is_nothing parts) (n ∷ ns) 0 n each refl in
          let m = is tag part c at has in
          let at_first : c.leader ≡ n = led ∙ leads ∙ ap (λ ks. lowest (take (suc count) ks)) are in
          let one : p.x ≡ m.first = some-same p.x m.first (sym p.is ∙ subst (λ k. slice_get parts k ≡ Some m.first) at_first m.there) in
          let bad : None ≡ Some c = sym (nothing-none p.x p.passes) ∙ ap command_of one ∙ m.same in cc

  none-goes : (xs : List Part) → ((tag : ℕ) (part : Part) → slice_get xs tag ≡ Some part → goes_by command.leader part ≡ false)
      → filter (goes_by command.leader) xs ≡ []
  none-goes [] each = refl
  none-goes (x ∷ xs) each =
      ap (λ b. if b then x ∷ filter (goes_by command.leader) xs else filter (goes_by command.leader) xs) (each 0 x refl)
      ∙ none-goes xs (λ tag part at. each (suc tag) part at)

  no-old : (tag : ℕ) (part : Part) → slice_get parts tag ≡ Some part → goes_by command.leader part ≡ false
  no-old tag part at = by (goes_by command.leader part) refl
    where
      by : (b : Bool) → goes_by command.leader part ≡ b → b ≡ false
      by true goes = let g = goes-has command.leader part goes in absurd (free-apart tag part g.command at g.has g.leads)
      by false goes = refl

  pub grouped-claimed : AreGrouped geometry claimed_parts
  grouped-claimed tag part c at has = by (filled-there is_nothing (suc count) (Reading command) parts tag part at)
    where
      whole : group_of command.leader claimed_parts ≡ replicate (suc count) (Reading command)
      whole =
          filter-filled is_nothing (goes_by command.leader) (suc count) (Reading command) parts many (eq-eqb command.leader command.leader refl)
          (none-goes parts no-old)

      own : lowest (take (suc count) (numbers_where is_nothing parts)) ≤ tag → IsMember geometry claimed_parts tag command
      own low =
          record {
            low = subst (λ n. n ≤ tag) (sym leads) low;
            first = Reading command;
            there = ap (slice_get claimed_parts) leads ∙ filled-first is_nothing count (Reading command) parts (omega (arith, many));
            same = refl;
            guest = guest;
            given = given;
            group = AllRead (whole ∙ ap (λ n. replicate n (Reading command)) (sym wanted));
          }

      by : ((Reading command ≡ part) × (lowest (take (suc count) (numbers_where is_nothing parts)) ≤ tag)) ⊎ (slice_get parts tag ≡ Some part)
          → IsMember geometry claimed_parts tag c
      by (inl new) =
          let mine : command ≡ c = some-same command c (ap command_of new.0 ∙ has) in
          subst (IsMember geometry claimed_parts tag) mine (own new.1)
      by (inr was) =
          let m = is tag part c was has in
          record {
            low = m.low;
            first = m.first;
            there = filled-stays is_nothing (suc count) (Reading command) parts c.leader m.first m.there (some-not_nothing m.first c m.same);
            same = m.same;
            guest = m.guest;
            given = m.given;
            group =
                subst (IsGroup m.guest.namespace c)
                (sym (filter-filled_other is_nothing (goes_by c.leader) (suc count) (Reading command) parts
                (λ x free. goes-none c.leader x (nothing-none x free))
                (ne_eqb command.leader c.leader (λ same. absurd (free-apart tag part c was has (sym same)))))) m.group;
          }
