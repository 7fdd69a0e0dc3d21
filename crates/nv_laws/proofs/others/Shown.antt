-- Where bytes that are shown to a guest lie.
use Rattle.std.proofs.Common.{◌≡◌, ℕ, zero, suc, ◌+◌, ◌*◌, ◌%◌, ◌<◌, ◌≤◌, ◌⊎◌, inl, inr, Bool, true, false, cond, not}
use Rattle.std.proofs.Common.{◌&&◌, ◌||◌, ◌==◌, nat_le, nat_lt, List}
use Rattle.std.proofs.Common.{[], ◌∷◌, ◌++◌, filter, flat_map, length, map, slice_get, Option, Some, None, arith, refl, sym, ap, ◌∙◌}
use Rattle.std.proofs.Common.{eq-eqb, eqb-true}
use Rattle.std.proofs.Common.{leb-true, ltb-true, subst}
use Rattle.std.specs.List.{enumerate_from, list_any, range_with_len}
use Rattle.nv_entry.specs.Completion.{status_of}
use Rattle.nv_entry.specs.Status.{StatusField}
use Rattle.nv_mem.specs.Places.{total_len}
use Rattle.nv_model.specs.Judge.{Clear, Form, Keep, Manage, Transfer, Work, form_is_read, form_of, is_read}
use Rattle.nv_model.specs.Limits.{block, most_bytes, page}
use Rattle.nv_model.specs.Queue.{cqe_size, sqe_size}
use Rattle.nv_model.proofs.Endings.{and-true}
use Rattle.nv_world_model.specs.Area.{addresses_of, bounce_page, completion_slot, list_page, prps_of, submission_slot}
use Rattle.nv_world_model.specs.Device.{DeviceLane, Held}
use Rattle.nv_world_model.specs.Geometry.{Geometry, Guest}
use Rattle.nv_world_model.specs.Share.{Share}
use Rattle.nv_world_model.specs.Seat.{completion_at, held_in}
use Rattle.nv_world_model.specs.Step.{is_success}
use Rattle.nv_world_model.specs.View.{Span, guest_of_tag, is_tag_of, lies_in, list_shown, moved_shown, own_shown, read_shown, result_shown, shown}
use Rattle.nv_world_model.specs.View.{slot_shown, source_shown, tag_shown, units_shown}
use Rattle.nv_world_model.specs.World.{Answered, Command, Ended, Flying, Free, InDevice, Queued, Standing, Tag, Taken, World, tag_in, tag_of}
use Rattle.nv_laws_sound.specs.Consistent.{IsConsistentOfTags, IsPlanned, IsTag}
use Rattle.nv_laws_sound.specs.LaidOut.{IsLaidOut}
use Rattle.nv_laws_sound.proofs.OwnWork.{own-of, own_len}
use Rattle.nv_laws_sound.proofs.PlanSizes.{addresses-nameable, own-few, own_work, planned-kinds, used-few}
use Rattle.nv_laws_sound.proofs.Retags.{is-at, tag-is}
use Rattle.nv_laws_sound.proofs.Lists.{some-same}
use Rattle.nv_laws.specs.Leaving.{InCompletion, InEntry, InPages, IsBytes, IsShownAt}

-- ---- spans of lists

-- an address lies in a span
abbrev pub in_span : (addr : ℕ) → Span → Bool
in_span addr s = nat_le s.0 addr && nat_lt addr (s.0 + s.1)

pub any-append : {X : Type 0} (p : X → Bool) (xs ys : List X) → list_any p (xs ++ ys) ≡ true → (list_any p xs ≡ true) ⊎ (list_any p ys ≡ true)
any-append p [] ys e = inr e
any-append p (x ∷ xs) ys e =
    (elim (p x) as (λ b. p x ≡ b → (b || list_any p (xs ++ ys)) ≡ true → ((b || list_any p xs) ≡ true) ⊎ (list_any p ys ≡ true)) [
      | true ↦ λ is any. inl refl
      | false ↦ λ is any. any-append p xs ys any
    ]) refl e

-- one of numbered members shows it
pub record IsOneOf {X : Type 0} (p : Span → Bool) (f : ℕ × X → List Span) (from : ℕ) (xs : List X) : Type 0 where
  pub place : ℕ
  pub member : X
  pub at : slice_get xs place ≡ Some member
  pub lies : list_any p (f (from + place, member)) ≡ true

pub one-of : {X : Type 0} (p : Span → Bool) (f : ℕ × X → List Span) (from : ℕ) (xs : List X) → list_any p (flat_map f (enumerate_from from xs)) ≡ true
    → IsOneOf p f from xs
one-of p f from [] e = cc
one-of p f from (x ∷ xs) e =
    elim (any-append p (f (from, x)) (flat_map f (enumerate_from (from + 1) xs)) e) [
      | inl here ↦ record { place = 0; member = x; at = refl; lies = (let same : from ≡ from + 0 = omega arith in subst (λ n. list_any p (f (n, x)) ≡ true) same here) }
      | inr later ↦
          (let rest = one-of p f (from + 1) xs later in
          let same : from + 1 + rest.place ≡ from + suc rest.place = omega arith in
          record { place = suc rest.place; member = rest.member; at = rest.at; lies = subst (λ n. list_any p (f (n, rest.member)) ≡ true) same rest.lies })
    ]

-- what a test chooses
pub any-chosen : (p : Span → Bool) (b : Bool) (xs : List Span) → list_any p (cond b xs []) ≡ true → (b ≡ true) × (list_any p xs ≡ true)
any-chosen p true xs e = (refl, e)
any-chosen p false xs e = cc

pub any-not_chosen : (p : Span → Bool) (b : Bool) (xs : List Span) → list_any p (cond b [] xs) ≡ true → (b ≡ false) × (list_any p xs ≡ true)
any-not_chosen p true xs e = cc
any-not_chosen p false xs e = (refl, e)

-- one span
pub in-one : (addr from len : ℕ) → list_any (in_span addr) ((from, len) ∷ []) ≡ true → (from ≤ addr) × (addr < from + len)
in-one addr from len e =
    (elim (nat_le from addr && nat_lt addr (from + len)) as (λ b. (nat_le from addr && nat_lt addr (from + len)) ≡ b → (b || false) ≡ true → (from ≤ addr) × (addr < from + len)) [
      | true ↦ λ is any. (let both = and-true (nat_le from addr) (nat_lt addr (from + len)) is in (leb-true from addr both.0, ltb-true addr (from + len) both.1))
      | false ↦ λ is any. cc
    ]) refl e

-- spans of units below a number
in-units : (addr bounce n from : ℕ) (left : List ℕ)
    → list_any (in_span addr) (map (λ k. (bounce + block * k, block)) (filter (λ k. not (list_any (λ other. other == k) left)) (range_with_len from n))) ≡ true
    → (bounce ≤ addr) × (addr < bounce + block * (from + n))
in-units addr bounce zero from left e = cc
in-units addr bounce (suc n) from left e =
    (elim (not (list_any (λ other. other == from) left)) as (λ b.
    list_any (in_span addr) (map (λ k. (bounce + block * k, block))
    (cond b (from ∷ filter (λ k. not (list_any (λ other. other == k) left)) (range_with_len (from + 1) n))
    (filter (λ k. not (list_any (λ other. other == k) left)) (range_with_len (from + 1) n)))) ≡ true
    → (bounce ≤ addr) × (addr < bounce + block * (from + suc n))) [
      | true ↦ λ any.
          elim (any-append (in_span addr) ((bounce + block * from, block) ∷ [])
          (map (λ k. (bounce + block * k, block)) (filter (λ k. not (list_any (λ other. other == k) left)) (range_with_len (from + 1) n))) any) [
            | inl here ↦ (let both = in-one addr (bounce + block * from) block here in let low = both.0 in let high = both.1 in (omega (arith, low), omega (arith, high)))
            | inr later ↦ (let rest = in-units addr bounce n (from + 1) left later in let high = rest.1 in (rest.0, omega (arith, high)))
          ]
      | false ↦ λ any. (let rest = in-units addr bounce n (from + 1) left any in let high = rest.1 in (rest.0, omega (arith, high)))
    ]) e

-- ---- the spans of a plan

module _ (mediator lane tag : ℕ) (aligned : mediator % page ≡ 0) (addr : ℕ) where
  abbrev list : ℕ
  list = list_page mediator lane tag

  abbrev bounce : ℕ
  bounce = bounce_page mediator lane tag

  -- bytes of the bounce pages are of the tag's pages
  in-bounce : (t : Tag) → bounce ≤ addr → addr < bounce + most_bytes → IsBytes mediator lane tag t addr
  in-bounce t low high = InPages (omega (arith, low)) (omega (arith, high))

  -- a Read's own bytes are those of its units
  pub units-few : (form : Form) (own : Work) → form_is_read form ≡ true → block * length own.units ≡ own_len form own
  units-few (Transfer dest) own reads = refl
  units-few Clear own reads = cc
  units-few Manage own reads = cc
  units-few Keep own reads = cc

  module _ (guest : Guest) (entry : List ℕ) (share : Share) (is : IsPlanned guest entry share) (t : Tag) where
    in-list : list_any (in_span addr) (list_shown share.plan guest list bounce) ≡ true → IsBytes mediator lane tag t addr
    in-list e =
        let named = addresses-nameable guest entry share bounce (omega (arith, aligned)) is in
        let few = used-few list (addresses_of share.plan guest bounce) named.fit named.few in
        let both = in-one addr list (8 * (prps_of share.plan guest list bounce).used) e in
        let high = both.1 in
        InPages both.0 (omega (arith, high, few))

    in-source : list_any (in_span addr) (source_shown share.plan bounce) ≡ true → IsBytes mediator lane tag t addr
    in-source =
        planned-kinds (λ p. list_any (in_span addr) (source_shown p bounce) ≡ true → IsBytes mediator lane tag t addr) guest entry share is
        (λ e. cc) (λ fits e. cc)
        (λ e.
        (let own : Work = own_work guest entry share is in
        let shown = any-not_chosen (in_span addr) (is_read own.opcode) ((bounce, total_len own.pieces) ∷ []) e in
        let both = in-one addr bounce (total_len own.pieces) shown.1 in
        let few = own-few guest entry share is in
        let high = both.1 in
        in-bounce t both.0 (omega (arith, high, few))))

    in-read : (left : List ℕ) → list_any (in_span addr) (units_shown share.plan left bounce) ≡ true → IsBytes mediator lane tag t addr
    in-read left =
        planned-kinds (λ p. list_any (in_span addr) (units_shown p left bounce) ≡ true → IsBytes mediator lane tag t addr) guest entry share is
        (λ e. cc) (λ fits e. cc)
        (λ e.
        (let part = own-of guest entry share is in
        let own : Work = own_work guest entry share is in
        let few = own-few guest entry share is in
        let total = part.total in
        let chosen = any-chosen (in_span addr) (is_read own.opcode) _ e in
        let both = in-units addr bounce (length own.units) 0 left chosen.1 in
        let units = units-few (form_of is.work.opcode) own (sym (ap is_read part.opcode) ∙ chosen.0) in
        let high = both.1 in
        in-bounce t both.0 (omega (arith, high, few, total, units))))

    in-result : (st : StatusField) → list_any (in_span addr) (result_shown st share.plan bounce) ≡ true → IsBytes mediator lane tag t addr
    in-result st e = in-read [] (any-chosen (in_span addr) (is_success st) (units_shown share.plan [] bounce) e).1

    in-moved : (h : Option Held) → list_any (in_span addr) (moved_shown h share.plan bounce) ≡ true → IsBytes mediator lane tag t addr
    in-moved None e = cc
    in-moved (Some h) e = in-read h.left e

    in-read_shown : (standing : Standing) (h : Option Held) (status_at : ℕ → StatusField) → list_any (in_span addr) (read_shown standing share.plan h status_at bounce) ≡ true
        → IsBytes mediator lane tag t addr
    in-read_shown (Queued at) h status_at e = cc
    in-read_shown InDevice h status_at e = in-moved h e
    in-read_shown (Answered at) h status_at e = in-result (status_at at) e

  -- the slot of a command that was handed on
  in-slot : (command : Command) (share : Share) (standing : Standing) → list_any (in_span addr) (slot_shown standing mediator lane) ≡ true
      → IsBytes mediator lane tag (Flying command share standing) addr
  in-slot command share (Queued at) e =
      let both = in-one addr (submission_slot mediator lane at) sqe_size e in
      let high = both.1 in
      InEntry at (eq-eqb at at refl) both.0 (omega (arith, high))
  in-slot command share InDevice e = cc
  in-slot command share (Answered at) e =
      let both = in-one addr (completion_slot mediator lane at) cqe_size e in
      let high = both.1 in
      InCompletion at (eq-eqb at at refl) both.0 (omega (arith, high))

-- ---- a tag

tag-bytes : (geometry : Geometry) (lane tag : ℕ) (host : ℕ → ℕ) (head : ℕ) (d : DeviceLane) (held : Option Held) (t : Tag) (addr : ℕ) (h : Option Held)
    (status_at : ℕ → StatusField) (given : Guest) → geometry.mediator % page ≡ 0 → IsTag geometry lane tag host head d held t
    → ((command : Command) → guest_of_tag t ≡ Some command.guest → slice_get geometry.guests command.guest ≡ Some given)
    → list_any (in_span addr) (tag_shown t given h status_at geometry.mediator lane tag) ≡ true → IsBytes geometry.mediator lane tag t addr
tag-bytes geometry lane tag host head d held Free addr h status_at given aligned is whose e = cc
tag-bytes geometry lane tag host head d held (Taken command reads) addr h status_at given aligned is whose e = cc
tag-bytes geometry lane tag host head d held (Flying command share standing) addr h status_at given aligned is whose e =
    let same : is.guest ≡ given = some-same is.guest given (sym is.is.given ∙ whose command refl) in
    let planned : IsPlanned given command.entry share = subst (λ g. IsPlanned g command.entry share) same is.planned in
    let list = list_page geometry.mediator lane tag in
    let bounce = bounce_page geometry.mediator lane tag in
    let slot = slot_shown standing geometry.mediator lane in
    let listed = list_shown share.plan given list bounce in
    let source = source_shown share.plan bounce in
    elim (any-append (in_span addr) (slot ++ listed ++ source) (read_shown standing share.plan h status_at bounce) e) [
      | inr read ↦ in-read_shown geometry.mediator lane tag aligned addr given command.entry share planned (Flying command share standing) standing h status_at read
      | inl front ↦ elim (any-append (in_span addr) (slot ++ listed) source front) [
        | inr of_source ↦ in-source geometry.mediator lane tag aligned addr given command.entry share planned (Flying command share standing) of_source
        | inl start ↦ elim (any-append (in_span addr) slot listed start) [
          | inl of_slot ↦ in-slot geometry.mediator lane tag aligned addr command share standing of_slot
          | inr of_list ↦ in-list geometry.mediator lane tag aligned addr given command.entry share planned (Flying command share standing) of_list
        ]
      ]
    ]
tag-bytes geometry lane tag host head d held (Ended command st None) addr h status_at given aligned is whose e = cc
tag-bytes geometry lane tag host head d held (Ended command st (Some share)) addr h status_at given aligned is whose e =
    let same : is.guest ≡ given = some-same is.guest given (sym is.is.given ∙ whose command refl) in
    in-result geometry.mediator lane tag aligned addr given command.entry share (subst (λ g. IsPlanned g command.entry share) same is.planned) (Ended command st (Some share)) st e

-- ---- a guest

-- the guest of a tag of its own
pub own-guest : (number : ℕ) (t : Tag) → is_tag_of number (Some t) ≡ true → guest_of_tag t ≡ Some number
own-guest number Free e = cc
own-guest number (Taken command reads) e = ap (λ n. Some n) (eqb-true command.guest number e)
own-guest number (Flying command share standing) e = ap (λ n. Some n) (eqb-true command.guest number e)
own-guest number (Ended command st share) e = ap (λ n. Some n) (eqb-true command.guest number e)

pub shown-at : (host_bytes : ℕ) (geometry : Geometry) (w : World) (number : ℕ) (guest : Guest) (addr : ℕ)
    → IsLaidOut host_bytes (length w.lanes) geometry → IsConsistentOfTags geometry w → slice_get geometry.guests number ≡ Some guest
    → lies_in (shown number guest geometry w) addr ≡ true → IsShownAt number geometry w addr
unfolding shown
shown-at host_bytes geometry w number guest addr laid is given e =
    let in_lane = one-of (in_span addr) (λ l. flat_map (own_shown number guest geometry w l.0) (enumerate_from 0 l.1.tags)) 0 w.lanes e in
    let in_tag = one-of (in_span addr) (own_shown number guest geometry w (0 + in_lane.place)) 0 in_lane.member.tags in_lane.lies in
    let lane = in_lane.place in
    let tag = in_tag.place in
    let t = in_tag.member in
    let there : tag_of w lane tag ≡ Some t = ap (λ o. tag_in o tag) in_lane.at ∙ in_tag.at in
    let a = is-at geometry w lane tag t is there in
    let of_tag = tag-is geometry w lane tag t is a in
    let named_lane : 0 + lane ≡ lane = omega arith in
    let named_tag : 0 + tag ≡ tag = omega arith in
    let lies : list_any (in_span addr) (own_shown number guest geometry w lane (tag, t)) ≡ true =
    subst (λ n. list_any (in_span addr) (own_shown number guest geometry w n (tag, t)) ≡ true) named_lane
    (subst (λ n. list_any (in_span addr) (own_shown number guest geometry w (0 + lane) (n, t)) ≡ true) named_tag in_tag.lies) in
    let mine = any-chosen (in_span addr) (is_tag_of number (Some t)) _ lies in
    record {
      lane = lane;
      tag = tag;
      t = t;
      there = there;
      own = mine.0;
      bytes =
          tag-bytes geometry lane tag w.host a.l.head a.d a.held t addr (held_in (slice_get w.device lane) tag) (λ at. status_of (completion_at geometry w lane at)) guest laid.pages of_tag
          (λ command whose.
          (let same : number ≡ command.guest = some-same number command.guest (sym (own-guest number t mine.0) ∙ whose) in
          subst (λ n. slice_get geometry.guests n ≡ Some guest) same given))
          mine.1;
    }
