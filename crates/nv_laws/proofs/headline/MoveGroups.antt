-- What has come of a command's tags where one of them changes: a list of them around that one, and no unit of its share is another tag's.
use Rattle.std.proofs.Common.{◌≡◌, ℕ, suc, inl, inr, Bool, true, false, ◌||◌, ◌==◌, List, [], ◌∷◌, ◌++◌, All, map, slice_get}
use Rattle.std.proofs.Common.{Option, Some, None, refl, sym, ap, ◌∙◌, eq-eqb, eqb-true, subst}
use Rattle.std.specs.List.{list_any}
use Rattle.std.specs.Option.{option_map}
use Rattle.std.proofs.lemmas.Bool.{cases_eq, ne_eqb}
use Rattle.std.proofs.lemmas.List.Elements.{All-cons, All-head, All-nil, All-tail}
use Rattle.std.proofs.lemmas.Option.{slice_get-map}
use Rattle.nv_entry.specs.Status.{StatusField}
use Rattle.nv_world_model.specs.Device.{Held}
use Rattle.nv_world_model.specs.Geometry.{Geometry, Guest}
use Rattle.nv_world_model.specs.Share.{Share, shares_of}
use Rattle.nv_world_model.specs.Seat.{Rest, member_in, rest_at, tag_rest, work_of, work_progress}
use Rattle.nv_world_model.specs.World.{Answered, Command, Ended, Flying, Free, InDevice, Queued, Standing, Tag, Taken, World, group, tag_in, tag_of}
use Rattle.nv_laws_sound.specs.Consistent.{IsConsistent, IsPlanned}
use Rattle.nv_laws_sound.specs.Groups.{Handed, IsMember, Part, command_of, goes_by, group_of, part_of, parts_of}
use Rattle.nv_laws_sound.proofs.CountedActs.{HasLane, lane-of}
use Rattle.nv_laws_sound.proofs.Folds.{group-distinct, group-numbers, part-tag, tag-part}
use Rattle.nv_laws_sound.proofs.GroupShares.{IsHandedGroup, handed-group, numbers-filter}
use Rattle.nv_laws_sound.proofs.Groupings.{goes-of}
use Rattle.nv_laws_sound.proofs.Lists.{some-same}
use Rattle.nv_laws_sound.proofs.Numbers.{AreDistinct, all-at}
use Rattle.nv_laws_sound.proofs.Planned.{IsOf, shares-whole}
use Rattle.nv_laws.proofs.related.Changing.{touched}
use Rattle.nv_laws.proofs.related.Disciplines.{never-both, not-so}
use Rattle.nv_laws.proofs.related.Rests.{goes-part, group-led, led}
use Rattle.nv_laws.proofs.related.Tags.{member-mine}
use Rattle.nv_laws.proofs.related.Views.{device_of, status_in}
use Rattle.nv_laws.proofs.units.LeftThere.{behind-among}
use Rattle.nv_laws.proofs.units.Progress.{has, in_rests, in_rests-append, numbers-apart}
use Rattle.nv_laws.proofs.headline.Answering.{led-touched}

-- ---- a list around one of its members

-- those before it and those behind it, each another than it
pub record IsAround (ns : List ℕ) (n : ℕ) : Type 0 where
  pub front : List ℕ
  pub back : List ℕ
  pub is : ns ≡ front ++ n ∷ back
  pub before : All (λ m. (m == n) ≡ false) front
  pub behind : All (λ m. (m == n) ≡ false) back

pub around : (n : ℕ) (ns : List ℕ) → AreDistinct ns → touched ns n ≡ true → IsAround ns n
around n [] apart is = cc
around n (m ∷ ms) apart is =
    elim (cases_eq m n) [
      | inl same ↦
          record {
            front = [];
            back = ms;
            is = ap (λ k. k ∷ ms) same;
            before = All-nil (λ k. (k == n) ≡ false);
            behind = subst (λ j. All (λ k. (k == j) ≡ false) ms) same apart.0;
          }
      | inr other ↦
          let differs = ne_eqb m n other in
          let rest = around n ms apart.1 (sym (ap (λ b. b || touched ms n) differs) ∙ is) in
          record {
            front = m ∷ rest.front;
            back = rest.back;
            is = ap (λ ks. m ∷ ks) rest.is;
            before = All-cons (λ k. (k == n) ≡ false) m rest.front differs rest.before;
            behind = rest.behind;
          }
    ]

-- a member stands somewhere
pub place-of : (n : ℕ) (ns : List ℕ) → touched ns n ≡ true → (i : ℕ) × (slice_get ns i ≡ Some n)
place-of n [] is = cc
place-of n (m ∷ ms) is =
    (elim (m == n) as (λ b. (m == n) ≡ b → (b || touched ms n) ≡ true → (i : ℕ) × (slice_get (m ∷ ms) i ≡ Some n)) [
      | true ↦ λ same any. (0, ap (λ k. Some k) (eqb-true m n same))
      | false ↦ λ other any. (let rest = place-of n ms any in (suc rest.0, rest.1))
    ]) refl is

-- ---- what has come of a list of tags

map-amid : (f : ℕ → Rest) (front back : List ℕ) (n : ℕ) → map f (front ++ n ∷ back) ≡ map f front ++ f n ∷ map f back
map-amid f [] back n = refl
map-amid f (m ∷ front) back n = ap (λ rs. f m ∷ rs) (map-amid f front back n)

apart-as : (m n : ℕ) → (m == n) ≡ false → m ≡ n → ⊥
apart-as m n differs same = never-both (m == n) (eq-eqb m n same) differs

map-off : (f g : ℕ → Rest) (n : ℕ) (ns : List ℕ) → ((m : ℕ) → (m ≡ n → ⊥) → f m ≡ g m) → All (λ m. (m == n) ≡ false) ns → map f ns ≡ map g ns
map-off f g n [] same each = refl
map-off f g n (m ∷ ms) same each =
    ap (λ r. r ∷ map f ms) (same m (apart-as m n (All-head (λ k. (k == n) ≡ false) m ms each)))
    ∙ ap (λ rs. g m ∷ rs) (map-off f g n ms same (All-tail (λ k. (k == n) ≡ false) m ms each))

-- with one member changed
pub map-changed : (f g : ℕ → Rest) (ns : List ℕ) (n : ℕ) (a : IsAround ns n) → ((m : ℕ) → (m ≡ n → ⊥) → f m ≡ g m)
    → map g ns ≡ map f a.front ++ g n ∷ map f a.back
map-changed f g ns n a same =
    ap (map g) a.is ∙ map-amid g a.front a.back n
    ∙ ap (λ rs. rs ++ g n ∷ map g a.back) (sym (map-off f g n a.front same a.before))
    ∙ ap (λ rs. map f a.front ++ g n ∷ rs) (sym (map-off f g n a.back same a.behind))

-- some tag's rest tells that a Compare differed
abbrev pub any_differed : List Rest → Bool
any_differed rests = list_any (λ (r : Rest). r.differed) rests

pub differed-amid : (front back : List Rest) (r : Rest) → any_differed (front ++ r ∷ back) ≡ ((any_differed front || any_differed back) || r.differed)
differed-amid [] back r = turned r.differed (any_differed back)
  where
    turned : (a b : Bool) → (a || b) ≡ (b || a)
    turned true true = refl
    turned true false = refl
    turned false true = refl
    turned false false = refl
differed-amid (x ∷ front) back r = ap (λ b. x.differed || b) (differed-amid front back r) ∙ joined x.differed (any_differed front) (any_differed back) r.differed
  where
    joined : (a b c d : Bool) → (a || ((b || c) || d)) ≡ (((a || b) || c) || d)
    joined true b c d = refl
    joined false b c d = refl

-- a number that none of them has left
none-in : (k : ℕ) (f : ℕ → Rest) (P : ℕ → Type 0) (ns : List ℕ) → All P ns → ((m : ℕ) → P m → has k (f m).left ≡ false) → in_rests k (map f ns) ≡ false
none-in k f P [] each out = refl
none-in k f P (m ∷ ms) each out =
    ap (λ b. b || in_rests k (map f ms)) (out m (All-head P m ms each)) ∙ none-in k f P ms (All-tail P m ms each) out

both-all : (P Q : ℕ → Type 0) (ns : List ℕ) → All P ns → All Q ns → All (λ m. P m × Q m) ns
both-all P Q [] one two = All-nil (λ m. P m × Q m)
both-all P Q (m ∷ ms) one two =
    All-cons (λ k. P k × Q k) m ms (All-head P m ms one, All-head Q m ms two) (both-all P Q ms (All-tail P m ms one) (All-tail Q m ms two))

front-all : (P : ℕ → Type 0) (front back : List ℕ) → All P (front ++ back) → All P front
front-all P [] back each = All-nil P
front-all P (m ∷ front) back each = All-cons P m front (All-head P m (front ++ back) each) (front-all P front back (All-tail P m (front ++ back) each))

back-all : (P : ℕ → Type 0) (front back : List ℕ) → All P (front ++ back) → All P back
back-all P [] back each = each
back-all P (m ∷ front) back each = back-all P front back (All-tail P m (front ++ back) each)

-- ---- a tag of a share

-- of a tag with a share no other units are left
tag-among : (t : Tag) (held : Option Held) (status_at : ℕ → StatusField) (command : Command) (share : Share) (k : ℕ) → part_of t ≡ Handed command share
    → has k (tag_rest (Some t) held status_at).left ≡ true → has k share.numbers ≡ true
tag-among Free held status_at command share k is any = cc
tag-among (Taken c reads) held status_at command share k is any = cc
tag-among (Flying c s (Queued at)) held status_at command share k is any =
    let same : s ≡ share = cc in ap (λ (x : Share). has k x.numbers) (sym same) ∙ any
tag-among (Flying c s InDevice) None status_at command share k is any = cc
tag-among (Flying c s InDevice) (Some h) status_at command share k is any =
    let same : s ≡ share = cc in ap (λ (x : Share). has k x.numbers) (sym same) ∙ behind-among s h.left k any
tag-among (Flying c s (Answered at)) held status_at command share k is any = cc
tag-among (Ended c st share_too) held status_at command share k is any = cc

-- the member of a command that was handed on, by the tag that it goes by
pub member-handed : (t : Tag) (tag number : ℕ) (command : Command) (share : Share) (rests : List Rest) → part_of t ≡ Handed command share
    → (command.leader == tag) ≡ true → (command.guest == number) ≡ true
    → member_in (Some t) tag number rests
    ≡ Some (record { queue = command.queue; entry = command.entry; progress = work_progress (work_of share.whole) rests })
member-handed Free tag number command share rests is leads mine = cc
member-handed (Taken c reads) tag number command share rests is leads mine = cc
member-handed (Flying c s standing) tag number command share rests is leads mine =
    let same : Flying c s standing ≡ Flying command share standing = cc in
    ap (λ t. member_in (Some t) tag number rests) same ∙ member-mine tag number command (work_progress (work_of share.whole) rests) leads mine
member-handed (Ended c st None) tag number command share rests is leads mine = cc
member-handed (Ended c st (Some s)) tag number command share rests is leads mine =
    let same : Ended c st (Some s) ≡ Ended command st (Some share) = cc in
    ap (λ t. member_in (Some t) tag number rests) same ∙ member-mine tag number command (work_progress (work_of share.whole) rests) leads mine

-- a tag of a command, by its number among them, and its share
pub record HasPart (w : World) (lane b : ℕ) (command : Command) (numbers : List ℕ) (shares : List Share) : Type 0 where
  pub place : ℕ
  pub at : slice_get numbers place ≡ Some b
  pub t : Tag
  pub there : tag_of w lane b ≡ Some t
  pub share : Share
  pub part_is : part_of t ≡ Handed command share
  pub is : slice_get shares place ≡ Some share

module _ (geometry : Geometry) (number : ℕ) (guest : Guest) (given : slice_get geometry.guests number ≡ Some guest) (w : World)
    (fine : IsConsistent geometry w) (lane tag : ℕ) (command : Command) (share : Share) (standing : Standing)
    (there : tag_of w lane tag ≡ Some (Flying command share standing)) (own : command.guest ≡ number) where
  abbrev l : HasLane w lane tag (Flying command share standing)
  l = lane-of w lane tag (Flying command share standing) there

  abbrev parts : List Part
  parts = parts_of l.l.tags

  -- its tags, and the shares of its plan
  abbrev pub numbers : List ℕ
  numbers = group w lane command.leader

  abbrev pub shares : List Share
  shares = shares_of guest.namespace command.entry share.whole

  handed : IsHandedGroup geometry parts command.leader command share.whole
  handed =
      handed-group geometry parts command.leader tag command share (fine.groups lane l.l l.at)
      (tag-part l.l.tags tag (Flying command share standing) l.found) refl

  all : group_of command.leader parts ≡ map (Handed command) shares
  all =
      let same : handed.guest ≡ guest = some-same handed.guest guest (sym handed.given ∙ ap (slice_get geometry.guests) own ∙ given) in
      handed.all ∙ ap (λ (g : Guest). map (Handed command) (shares_of g.namespace command.entry share.whole)) same

  -- each tag that goes by its leader has a share
  pub part-there : (b : ℕ) → led command.leader (tag_of w lane b) ≡ true → HasPart w lane b command numbers shares
  part-there b goes = by (tag_of w lane b) refl goes
    where
      by_share : (t : Tag) → tag_of w lane b ≡ Some t → (place : ℕ) → slice_get numbers place ≡ Some b → (o : Option Share) → slice_get shares place ≡ o
          → option_map (Handed command) o ≡ Some (part_of t) → HasPart w lane b command numbers shares
      by_share t here place at None is same = cc
      by_share t here place at (Some s) is same =
          record { place = place; at = at; t = t; there = here; share = s; part_is = sym (some-same (Handed command s) (part_of t) same); is = is }

      by : (o : Option Tag) → tag_of w lane b ≡ o → led command.leader o ≡ true → HasPart w lane b command numbers shares
      by None here goes = cc
      by (Some t) here goes =
          let i = place-of b numbers (led-touched w lane command.leader b (ap (led command.leader) here ∙ goes)) in
          let found : slice_get l.l.tags b ≡ Some t = sym (ap (λ o. tag_in o b) l.at) ∙ here in
          let row : slice_get (group_of command.leader parts) i.0 ≡ Some (part_of t) =
          numbers-filter (goes_by command.leader) parts i.0 b (ap (λ ns. slice_get ns i.0) (sym (group-numbers w lane command.leader l.l l.at)) ∙ i.1)
          ∙ tag-part l.l.tags b t found in
          by_share t here i.0 i.1 (slice_get shares i.0) refl (sym (slice_get-map (Handed command) shares i.0) ∙ ap (λ ps. slice_get ps i.0) (sym all) ∙ row)

  pub led-here : led command.leader (tag_of w lane tag) ≡ true
  led-here = ap (led command.leader) there ∙ eq-eqb command.leader command.leader refl

  -- so does the tag that it goes by
  pub leader-part : HasPart w lane command.leader command numbers shares
  leader-part =
      let m : IsMember geometry parts tag command =
      fine.groups lane l.l l.at tag _ command (tag-part l.l.tags tag (Flying command share standing) l.found) refl in
      let x = part-tag l.l.tags command.leader m.first m.there in
      part-there command.leader
      (ap (λ o. led command.leader (tag_in o command.leader)) l.at ∙ ap (led command.leader) x.is ∙ goes-part command.leader x.t
      ∙ goes-of command.leader (part_of x.t) command (ap command_of x.part_is ∙ m.same) refl)

  -- each is of the same plan
  pub whole-same : (b : ℕ) (x : HasPart w lane b command numbers shares) → x.share.whole ≡ share.whole
  whole-same b x = all-at (IsOf share.whole) shares x.place x.share (shares-whole guest.namespace command.entry share.whole) x.is

  -- ---- the units of another tag

  module _ (planned : IsPlanned guest command.entry share) where
    pub apart-left : (k b : ℕ) → has k share.numbers ≡ true → (b ≡ tag → ⊥) → (x : HasPart w lane b command numbers shares) → has k x.share.numbers ≡ true → ⊥
    apart-left k b mine apart x other =
        let y = part-there tag led-here in
        let t_is : y.t ≡ Flying command share standing = some-same y.t (Flying command share standing) (sym y.there ∙ there) in
        let part : Handed command y.share ≡ Handed command share = sym y.part_is ∙ ap part_of t_is in
        let same : y.share ≡ share = cc in
        never-both (has k x.share.numbers) other
        (numbers-apart guest command.entry share planned y.place x.place y.share x.share y.is x.is
        (λ places. apart (some-same b tag (sym x.at ∙ ap (slice_get numbers) (sym places) ∙ y.at))) k
        (ap (λ (s : Share). has k s.numbers) same ∙ mine))

    -- none of this one's is left in it
    pub other-left : (k b : ℕ) → has k share.numbers ≡ true → (b ≡ tag → ⊥) → led command.leader (tag_of w lane b) ≡ true
        → has k (rest_at geometry w lane b).left ≡ false
    unfolding rest_at
    other-left k b mine apart goes =
        not-so (has k (rest_at geometry w lane b).left)
        (λ e.
        (let x = part-there b goes in
        apart-left k b mine apart x
        (tag-among x.t (device_of w lane b) (status_in geometry w lane) command x.share k x.part_is
        (sym (ap (λ o. has k (tag_rest o (device_of w lane b) (status_in geometry w lane)).left) x.there) ∙ e))))

    pub others-left : (a : IsAround numbers tag) (k : ℕ) → has k share.numbers ≡ true
        → in_rests k (map (rest_at geometry w lane) a.front ++ map (rest_at geometry w lane) a.back) ≡ false
    others-left a k mine =
        let each = subst (All (λ b. led command.leader (tag_of w lane b) ≡ true)) a.is (group-led w lane command.leader) in
        let IsLed : ℕ → Type 0 = λ b. led command.leader (tag_of w lane b) ≡ true in
        let IsOther : ℕ → Type 0 = λ b. (b == tag) ≡ false in
        let out : (b : ℕ) → (b == tag) ≡ false → led command.leader (tag_of w lane b) ≡ true → has k (rest_at geometry w lane b).left ≡ false =
        λ b differs goes. other-left k b mine (apart-as b tag differs) goes in
        in_rests-append k (map (rest_at geometry w lane) a.front) (map (rest_at geometry w lane) a.back)
        ∙ ap (λ b. b || in_rests k (map (rest_at geometry w lane) a.back))
        (none-in k (rest_at geometry w lane) (λ b. IsOther b × IsLed b) a.front
        (both-all IsOther IsLed a.front a.before (front-all IsLed a.front (tag ∷ a.back) each)) (λ b p. out b p.0 p.1))
        ∙ none-in k (rest_at geometry w lane) (λ b. IsOther b × IsLed b) a.back
        (both-all IsOther IsLed a.back a.behind (All-tail IsLed tag a.back (back-all IsLed a.front (tag ∷ a.back) each))) (λ b p. out b p.0 p.1)

  -- ---- its tags around this one

  pub around-here : IsAround numbers tag
  around-here = around tag numbers (group-distinct w lane command.leader) (led-touched w lane command.leader tag led-here)
