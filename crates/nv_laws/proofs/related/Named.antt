-- Which addresses commands name.
use Rattle.std.proofs.Common.{◌≡◌, ℕ, zero, suc, ◌+◌, ◌*◌, ◌<◌, ◌≤◌, inl, inr, Bool, true, false, cond, ◌&&◌, ◌||◌}
use Rattle.std.proofs.Common.{◌==◌, List, [], ◌∷◌, drop, flat_map, map, replicate}
use Rattle.std.proofs.Common.{slice_get, take, Option, Some, None, arith, refl, sym, ap, ◌∙◌, subst, eq-eqb, eqb-true}
use Rattle.std.specs.List.{enumerate_from, list_any, range_with_len}
use Rattle.std.proofs.lemmas.Bool.{le-leb, lt-ltb}
use Rattle.nv_mem.specs.Places.{At, Bucket, addresses, places_of, places_of_piece}
use Rattle.nv_mem.specs.declared.piece.Piece.{Piece}
use Rattle.nv_mem.specs.declared.piece.Piece.TheVariants as piece
use Rattle.nv_model.specs.Footprint.{Named, Use, buffer_named, named_as, names}
use Rattle.nv_model.specs.Judge.{Work}
use Rattle.nv_model.specs.Limits.{block}
use Rattle.nv_model.specs.Private.{places_of_block}
use Rattle.nv_world_model.specs.Geometry.{Geometry}
use Rattle.nv_world_model.specs.Disciplined.{entry_in, own_entry, taken_entries}
use Rattle.nv_world_model.specs.World.{Command, Ended, Flying, Free, Lane, Tag, Taken, World, tag_of}
use Rattle.nv_laws_sound.specs.Groups.{command_of, part_of}
use Rattle.nv_laws_sound.proofs.CountedActs.{HasLane, lane-of}
use Rattle.nv_laws_sound.proofs.Folds.{part-tag, tag-part}
use Rattle.nv_laws_sound.proofs.GroupsKept.{HasGroups}
use Rattle.nv_laws.proofs.others.Shown.{any-append}
use Rattle.nv_laws.proofs.others.ShownTags.{any-behind, any-front}
use Rattle.nv_laws.specs.Related.{is_place_at}

-- ---- lists

-- one of them passes
pub any-one : {X : Type 0} (p : X → Bool) (xs : List X) → list_any p xs ≡ true → (x : X) × (p x ≡ true)
any-one p [] e = cc
any-one p (x ∷ xs) e =
    (elim (p x) as (λ b. p x ≡ b → (b || list_any p xs) ≡ true → (y : _) × (p y ≡ true)) [
      | true ↦ λ is any. (x, is)
      | false ↦ λ is any. any-one p xs any
    ]) refl e

-- one of a front, or of an end, is one of the whole
pub any-take : {X : Type 0} (p : X → Bool) (n : ℕ) (xs : List X) → list_any p (take n xs) ≡ true → list_any p xs ≡ true
any-take p zero [] e = cc
any-take p (suc n) [] e = cc
any-take p zero (x ∷ xs) e = cc
any-take p (suc n) (x ∷ xs) e =
    (elim (p x) as (λ b. (b || list_any p (take n xs)) ≡ true → (b || list_any p xs) ≡ true) [
      | true ↦ λ any. refl
      | false ↦ λ any. any-take p n xs any
    ]) e

pub any-drop : {X : Type 0} (p : X → Bool) (n : ℕ) (xs : List X) → list_any p (drop n xs) ≡ true → list_any p xs ≡ true
any-drop p zero xs e = e
any-drop p (suc n) [] e = e
any-drop p (suc n) (x ∷ xs) e = any-behind p (x ∷ []) xs (any-drop p n xs e)

-- a member that passes
pub any-at : {X : Type 0} (p : X → Bool) (xs : List X) (i : ℕ) (x : X) → slice_get xs i ≡ Some x → p x ≡ true → list_any p xs ≡ true
any-at p [] i x at is = cc
any-at p (y ∷ ys) zero x at is = let same : y ≡ x = cc in ap (λ b. b || list_any p ys) (ap p same ∙ is)
any-at p (y ∷ ys) (suc i) x at is = any-behind p (y ∷ []) ys (any-at p ys i x at is)

-- ---- buffers

-- an address of a run is named by it
place-in-row : (addr from len : ℕ) → list_any (is_place_at addr) (map At (range_with_len from len)) ≡ true → (from ≤ addr) × (addr < from + len)
place-in-row addr from zero e = cc
place-in-row addr from (suc len) e =
    (elim (from == addr) as (λ b. (from == addr) ≡ b → (b || list_any (is_place_at addr) (map At (range_with_len (from + 1) len))) ≡ true → (from ≤ addr) × (addr < from + suc len)) [
      | true ↦ λ is any. (let same = eqb-true from addr is in (omega (arith, same), omega (arith, same)))
      | false ↦ λ is any. (let rest = place-in-row addr (from + 1) len any in (omega (arith, rest.0), omega (arith, rest.1)))
    ]) refl e

no-bucket : (addr len : ℕ) → list_any (is_place_at addr) (replicate len Bucket) ≡ false
no-bucket addr zero = refl
no-bucket addr (suc len) = no-bucket addr len

-- bytes that are named name their addresses
pub run-names : (addr : ℕ) (used : Use) (from len : ℕ) → from ≤ addr → addr < from + len → names (named_as used from len) addr ≡ true
run-names addr used from len low high = rw (le-leb from addr low, lt-ltb addr (from + len) high) refl

module _ (addr : ℕ) (used : Use) (p : Named → Bool) (each : (from len : ℕ) → from ≤ addr → addr < from + len → p (named_as used from len) ≡ true) where
  piece-passes : (x : Piece) (pieces : List Piece) → list_any (is_place_at addr) (places_of_piece x) ≡ true
      → list_any p (buffer_named used (x ∷ pieces)) ≡ true
  unfolding addresses
  piece-passes (piece.Run from len) pieces e =
      let there = place-in-row addr from len e in
      any-front p (named_as used from len ∷ []) (buffer_named used pieces) (ap (λ b. b || false) (each from len there.0 there.1))
  piece-passes (piece.Bucket len) pieces e = let none = sym (no-bucket addr len) ∙ e in cc

  later-passes : (x : Piece) (pieces : List Piece) → list_any p (buffer_named used pieces) ≡ true → list_any p (buffer_named used (x ∷ pieces)) ≡ true
  later-passes (piece.Run from len) pieces e = any-behind p (named_as used from len ∷ []) (buffer_named used pieces) e
  later-passes (piece.Bucket len) pieces e = e

  -- of a buffer that has a place some run has it
  pub place-passes : (pieces : List Piece) → list_any (is_place_at addr) (places_of pieces) ≡ true → list_any p (buffer_named used pieces) ≡ true
  place-passes [] e = cc
  place-passes (x ∷ pieces) e =
      elim (any-append (is_place_at addr) (places_of_piece x) (places_of pieces) e) [
        | inl here ↦ piece-passes x pieces here
        | inr later ↦ later-passes x pieces (place-passes pieces later)
      ]

-- a place of a block is one of the buffer's
pub block-among : (work : Work) (index i addr : ℕ) → slice_get (places_of_block work index) i ≡ Some (At addr)
    → list_any (is_place_at addr) (places_of work.pieces) ≡ true
block-among work index i addr at =
    any-drop (is_place_at addr) (block * index) (places_of work.pieces)
    (any-take (is_place_at addr) block (drop (block * index) (places_of work.pieces))
    (any-at (is_place_at addr) (places_of_block work index) i (At addr) at (eq-eqb addr addr refl)))

-- ---- commands that are taken

-- one of what one member gives is one of what all give
pub any-of : {X Y : Type 0} (p : Y → Bool) (f : X → List Y) (xs : List X) (i : ℕ) (x : X) → slice_get xs i ≡ Some x → list_any p (f x) ≡ true
    → list_any p (flat_map f xs) ≡ true
any-of p f [] i x at e = cc
any-of p f (y ∷ ys) zero x at e =
    let same : y ≡ x = cc in
    any-front p (f y) (flat_map f ys) (subst (λ z. list_any p (f z) ≡ true) (sym same) e)
any-of p f (y ∷ ys) (suc i) x at e = any-behind p (f y) (flat_map f ys) (any-of p f ys i x at e)

pub any-numbered : {X Y : Type 0} (p : Y → Bool) (f : ℕ × X → List Y) (from : ℕ) (xs : List X) (place : ℕ) (x : X) → slice_get xs place ≡ Some x
    → list_any p (f (from + place, x)) ≡ true → list_any p (flat_map f (enumerate_from from xs)) ≡ true
any-numbered p f from [] place x at lies = cc
any-numbered p f from (y ∷ ys) zero x at lies =
    let same : y ≡ x = cc in
    let here : from + 0 ≡ from = omega arith in
    any-front p (f (from, y)) (flat_map f (enumerate_from (from + 1) ys))
    (subst (λ v. list_any p (f (from, v)) ≡ true) (sym same) (subst (λ n. list_any p (f (n, x)) ≡ true) here lies))
any-numbered p f from (y ∷ ys) (suc place) x at lies =
    let here : from + suc place ≡ from + 1 + place = omega arith in
    any-behind p (f (from, y)) (flat_map f (enumerate_from (from + 1) ys))
    (any-numbered p f (from + 1) ys place x at (subst (λ n. list_any p (f (n, x)) ≡ true) here lies))

-- the entry of a guest's command, by any tag that it has
abbrev entry_by : (number : ℕ) → Option Command → List (List ℕ)
entry_by number None = []
entry_by number (Some command) = cond (command.guest == number) (command.entry ∷ []) []

abbrev pub any_entry : (number : ℕ) → Tag → List (List ℕ)
any_entry number Free = []
any_entry number (Taken command reads) = cond (command.guest == number) (command.entry ∷ []) []
any_entry number (Flying command share standing) = cond (command.guest == number) (command.entry ∷ []) []
any_entry number (Ended command st share) = cond (command.guest == number) (command.entry ∷ []) []

any-by : (number : ℕ) (t : Tag) → any_entry number t ≡ entry_by number (command_of (part_of t))
any-by number Free = refl
any-by number (Taken command reads) = refl
any-by number (Flying command share standing) = refl
any-by number (Ended command st None) = refl
any-by number (Ended command st (Some share)) = refl

abbrev led_entry : (number tag : ℕ) → Option Command → List (List ℕ)
led_entry number tag None = []
led_entry number tag (Some command) = entry_in number tag command

own-by : (number tag : ℕ) (t : Tag) → own_entry number tag t ≡ led_entry number tag (command_of (part_of t))
own-by number tag Free = refl
own-by number tag (Taken command reads) = refl
own-by number tag (Flying command share standing) = refl
own-by number tag (Ended command st None) = refl
own-by number tag (Ended command st (Some share)) = refl

leads-itself : (number : ℕ) (command : Command) → entry_in number command.leader command ≡ entry_by number (Some command)
leads-itself number command = ap (λ b. cond (command.guest == number && b) (command.entry ∷ []) []) (eq-eqb command.leader command.leader refl) ∙ by (command.guest == number)
  where
    by : (b : Bool) → cond (b && true) (command.entry ∷ []) [] ≡ cond b (command.entry ∷ []) []
    by true = refl
    by false = refl

pub any-none : (number : ℕ) (t : Tag) → command_of (part_of t) ≡ None → any_entry number t ≡ []
any-none number t none = any-by number t ∙ ap (entry_by number) none

-- a tag's entry by its command
pub any-same : (number : ℕ) (t u : Tag) → command_of (part_of t) ≡ command_of (part_of u) → any_entry number t ≡ any_entry number u
any-same number t u same = any-by number t ∙ ap (entry_by number) same ∙ sym (any-by number u)

pub own-any : (number tag : ℕ) (t : Tag) (command : Command) → command_of (part_of t) ≡ Some command → command.leader ≡ tag
    → own_entry number tag t ≡ any_entry number t
own-any number tag t command has leads =
    own-by number tag t ∙ ap (led_entry number tag) has ∙ ap (λ n. entry_in number n command) (sym leads) ∙ leads-itself number command
    ∙ ap (entry_by number) (sym has) ∙ sym (any-by number t)

-- a member of a numbered list
numbered-from : {X : Type 0} (from : ℕ) (xs : List X) (place : ℕ) (x : X) → slice_get xs place ≡ Some x
    → slice_get (enumerate_from from xs) place ≡ Some (from + place, x)
numbered-from from [] place x at = cc
numbered-from from (y ∷ ys) zero x at =
    let same : y ≡ x = cc in
    let here : from ≡ from + 0 = omega arith in
    ap (λ v. Some (from, v)) same ∙ ap (λ n. Some (n, x)) here
numbered-from from (y ∷ ys) (suc place) x at =
    let here : from + 1 + place ≡ from + suc place = omega arith in
    numbered-from (from + 1) ys place x at ∙ ap (λ n. Some (n, x)) here

pub numbered-at : {X : Type 0} (xs : List X) (place : ℕ) (x : X) → slice_get xs place ≡ Some x → slice_get (enumerate_from 0 xs) place ≡ Some (place, x)
numbered-at xs place x at =
    let none : 0 + place ≡ place = omega arith in
    numbered-from 0 xs place x at ∙ ap (λ n. Some (n, x)) none

-- a tag that its command goes by is among those that are taken
leader-among : (w : World) (number : ℕ) (p : List ℕ → Bool) (lane tag : ℕ) (l : Lane) (t : Tag) → slice_get w.lanes lane ≡ Some l → slice_get l.tags tag ≡ Some t
    → list_any p (own_entry number tag t) ≡ true → list_any p (taken_entries number w) ≡ true
unfolding taken_entries
leader-among w number p lane tag l t at found e =
    any-of p (λ l. flat_map (λ (t : ℕ × Tag). own_entry number t.0 t.1) (enumerate_from 0 l.tags)) w.lanes lane l at
    (any-numbered p (λ (t : ℕ × Tag). own_entry number t.0 t.1) 0 l.tags tag t found
    (subst (λ n. list_any p (own_entry number n t) ≡ true) from-zero e))
  where
    from-zero : tag ≡ 0 + tag
    from-zero = omega arith

module _ (geometry : Geometry) (w : World) (are : HasGroups geometry w.lanes) (number : ℕ) (p : List ℕ → Bool) where
  led-among : (lane tag : ℕ) (l : Lane) (t : Tag) (o : Option Command) → slice_get w.lanes lane ≡ Some l → slice_get l.tags tag ≡ Some t
      → command_of (part_of t) ≡ o → list_any p (entry_by number o) ≡ true → list_any p (taken_entries number w) ≡ true
  led-among lane tag l t None at found has e = cc
  led-among lane tag l t (Some command) at found has e =
      let m = are lane l at tag (part_of t) command (tag-part l.tags tag t found) has in
      let u = part-tag l.tags command.leader m.first m.there in
      leader-among w number p lane command.leader l u.t at u.is
      (ap (list_any p) (own-by number command.leader u.t ∙ ap (led_entry number command.leader) (ap command_of u.part_is ∙ m.same) ∙ leads-itself number command) ∙ e)

  -- the command of a tag that is there is among those that are taken, whichever of its tags it is
  pub taken-among : (lane tag : ℕ) (t : Tag) → tag_of w lane tag ≡ Some t → list_any p (any_entry number t) ≡ true
      → list_any p (taken_entries number w) ≡ true
  taken-among lane tag t there e =
      let l : HasLane w lane tag t = lane-of w lane tag t there in
      led-among lane tag l.l t (command_of (part_of t)) l.at l.found refl (sym (ap (list_any p) (any-by number t)) ∙ e)
