-- Each guest's controller counts its commands behind a take, and behind a completion: a command counts in the tag that it goes by.
use Rattle.std.proofs.Common.{◌≡◌, ℕ, ◌/◌, ◌%◌, ◌<◌, Bool, true, false, cond, ◌==◌, List, [], ◌∷◌, filter, length, set, slice_get}
use Rattle.std.proofs.Common.{Option, Some, None, arith, refl, sym, ap, ◌∙◌, eq-eqb, subst}
use Rattle.std.specs.List.{All}
use Rattle.std.proofs.lemmas.Bool.{eqb-false, ne_eqb}
use Rattle.std.proofs.lemmas.List.Elements.{All-cons, All-head, All-nil, All-tail}
use Rattle.nv_entry.specs.Status.{StatusField}
use Rattle.nv_model.specs.Controller.{Controller, front, taken_less, took}
use Rattle.nv_model.specs.Private.{Unjudged, put, Taken as Member}
use Rattle.nv_model.specs.Running.{IsConsistent as IsRunningWith, IsTogether}
use Rattle.nv_model.proofs.Running.{left-running, took-running}
use Rattle.nv_world_model.specs.Area.{tag_count}
use Rattle.nv_world_model.specs.Geometry.{Geometry, Guest}
use Rattle.nv_world_model.specs.Share.{Share}
use Rattle.nv_world_model.specs.Seat.{Owner, member_by, member_of, name_of}
use Rattle.nv_world_model.specs.Step.{entry_at, taken_to}
use Rattle.nv_world_model.specs.World.{Command, Ended, Flying, Free, Lane, Tag, Taken, World, changed_at, group, tag_changed, tag_in, tag_of}
use Rattle.nv_world_model.specs.World.{with_controller, with_tag, with_tags}
use Rattle.nv_world_model.proofs.Seats.{IsOwner}
use Rattle.nv_laws_sound.specs.Counted.{IsCounted, command_in, commands}
use Rattle.nv_laws_sound.specs.Groups.{AreGroups, Part, command_of, goes_by, part_of, parts_of}
use Rattle.nv_laws_sound.proofs.Commands.{put-commands, same-commands}
use Rattle.nv_laws_sound.proofs.CountedActs.{retag-counted}
use Rattle.nv_laws_sound.proofs.Folds.{HasTag, group-has, group-numbers, tag-part, tag_of-other}
use Rattle.nv_laws_sound.proofs.Groupings.{goes-has, goes-of}
use Rattle.nv_laws_sound.proofs.GroupShares.{first-leader}
use Rattle.nv_laws_sound.proofs.Lists.{IsThere, Put, Was, set-there, slice_get-below}
use Rattle.nv_laws_sound.proofs.Numbers.{AreDistinct, numbers-length}
use Rattle.nv_laws_sound.proofs.Stages.{filter-at}
use Rattle.nv_laws_sound.proofs.Takes.{IsFree}

-- ---- whose a command is, and in which tag

pub owned-by : (tag number : ℕ) (command : Command) → command.leader ≡ tag → command.guest ≡ number
    → member_by tag number command Unjudged ≡ Some (record { queue = command.queue; entry = command.entry; progress = Unjudged })
owned-by tag number command leads same =
    ap (λ b. cond b (member_of number command Unjudged) None) (eq-eqb command.leader tag leads)
    ∙ ap (λ b. cond b (Some (record { queue = command.queue; entry = command.entry; progress = Unjudged })) None) (eq-eqb command.guest number same)

-- in no other tag
led-elsewhere : (tag number : ℕ) (command : Command) → (command.leader ≡ tag → ⊥) → member_by tag number command Unjudged ≡ None
led-elsewhere tag number command other = ap (λ b. cond b (member_of number command Unjudged) None) (ne_eqb command.leader tag other)

-- and no other guest's
others-command : (tag number : ℕ) (command : Command) → (command.guest ≡ number → ⊥) → member_by tag number command Unjudged ≡ None
others-command tag number command apart = by (command.leader == tag)
  where
    by : (b : Bool) → cond b (member_of number command Unjudged) None ≡ None
    by true = ap (λ b. cond b (Some (record { queue = command.queue; entry = command.entry; progress = Unjudged })) None) (ne_eqb command.guest number apart)
    by false = refl

-- by a tag's part
abbrev led_in : Option Command → (tag number : ℕ) → Option Member
led_in None tag number = None
led_in (Some command) tag number = member_by tag number command Unjudged

in-part : (t : Tag) (tag number : ℕ) → command_in (Some t) tag number ≡ led_in (command_of (part_of t)) tag number
in-part Free tag number = refl
in-part (Taken command reads) tag number = refl
in-part (Flying command share standing) tag number = refl
in-part (Ended command st None) tag number = refl
in-part (Ended command st (Some share)) tag number = refl

-- what goes by a tag counts in no other
goes-elsewhere : (leader tag number : ℕ) (t : Tag) → goes_by leader (part_of t) ≡ true → (tag == leader) ≡ false → command_in (Some t) tag number ≡ None
goes-elsewhere leader tag number t goes apart =
    let g = goes-has leader (part_of t) goes in
    in-part t tag number ∙ ap (λ o. led_in o tag number) g.has
    ∙ led-elsewhere tag number g.command (λ same. eqb-false tag leader apart (sym same ∙ g.leads))

-- ---- the first of a group

-- it is the tag that the command goes by
pub group-first : (geometry : Geometry) (w : World) (lane leader : ℕ) (l : Lane) (t : Tag) (command : Command) (n : ℕ) (rest : List ℕ)
    → slice_get w.lanes lane ≡ Some l → AreGroups geometry l.tags → slice_get l.tags leader ≡ Some t → command_of (part_of t) ≡ Some command
    → command.leader ≡ leader → group w lane leader ≡ n ∷ rest → n ≡ leader
group-first geometry w lane leader l t command n rest at is found has leads same =
    first-leader geometry (parts_of l.tags) leader (part_of t) command n rest is (tag-part l.tags leader t found) has leads
    (sym (group-numbers w lane leader l at) ∙ same)

pub group-some : (w : World) (lane leader : ℕ) (l : Lane) (t : Tag) (command : Command) → slice_get w.lanes lane ≡ Some l
    → slice_get l.tags leader ≡ Some t → command_of (part_of t) ≡ Some command → command.leader ≡ leader → group w lane leader ≡ [] → ⊥
group-some w lane leader l t command at found has leads none =
    let parts : List Part = parts_of l.tags in
    let among = filter-at (goes_by leader) parts leader (part_of t) (tag-part l.tags leader t found) (goes-of leader (part_of t) command has leads) in
    let below = slice_get-below (filter (goes_by leader) parts) among.0 (part_of t) among.1 in
    let many = numbers-length (goes_by leader) parts in
    let empty = ap length (sym (group-numbers w lane leader l at) ∙ none) in
    absurd (omega (arith, below, many, empty))

-- ---- changes

module _ (geometry : Geometry) where
  -- the name of a tag stands for that
  pub commands-at : (w : World) (number lane tag : ℕ) (t : Tag) → tag < tag_count → tag_of w lane tag ≡ Some t
      → commands w number (name_of lane tag) ≡ command_in (Some t) tag number
  unfolding commands
  commands-at w number lane tag t below there =
      let in_lane : name_of lane tag / tag_count ≡ lane = omega (arith, below) in
      let in_tag : name_of lane tag % tag_count ≡ tag = omega (arith, below) in
      ap (λ a. command_in (tag_of w a (name_of lane tag % tag_count)) (name_of lane tag % tag_count) number) in_lane
      ∙ ap (λ b. command_in (tag_of w lane b) b number) in_tag ∙ ap (λ o. command_in o tag number) there

  -- a change of one guest's controller, and of its tag
  one-counted : (w z : World) (number : ℕ) (guest : Guest) (c : Controller) (lane tag : ℕ) (t now : Tag) (l : Lane) → tag < tag_count
      → slice_get w.lanes lane ≡ Some l → slice_get l.tags tag ≡ Some t
      → z.lanes ≡ set w.lanes lane (tag_changed tag now l) → z.controllers ≡ set w.controllers number c
      → slice_get geometry.guests number ≡ Some guest
      → ((other : ℕ) → (other ≡ number → ⊥) → command_in (Some now) tag other ≡ command_in (Some t) tag other)
      → IsRunningWith c (put (commands w number) (name_of lane tag) (command_in (Some now) tag number))
      → IsCounted geometry w → IsCounted geometry z
  one-counted w z number guest c lane tag t now l below at found lanes controllers given others running is =
      record {
        running = (λ other g x has there. one other g x has (set-there w.controllers number c other x (sym (ap (λ cs. slice_get cs other) controllers) ∙ there)));
      }
    where
      one : (other : ℕ) (g : Guest) (x : Controller) → slice_get geometry.guests other ≡ Some g → IsThere w.controllers number c other x
          → IsRunningWith x (commands z other)
      one other g x has (Put same put_there) =
          subst (λ n. IsRunningWith x (commands z n)) (sym same)
          (subst (λ k. IsRunningWith k (commands z number)) put_there
          (subst (IsRunningWith c) (sym (put-commands w.lanes lane tag l (tag_changed tag now l) t now at found refl w z number below refl lanes)) running))
      one other g x has (Was apart there) =
          subst (IsRunningWith x) (sym (same-commands w.lanes lane tag l (tag_changed tag now l) t now at found refl w z other refl lanes (others other (eqb-false other number apart))))
          (is.running other g x has there)

  -- tags in which no command counts, before or behind
  pub record IsQuiet (w : World) (lane : ℕ) (now : Tag) (tag : ℕ) : Type 0 where
    pub t : Tag
    pub is : tag_of w lane tag ≡ Some t
    pub same : (number : ℕ) → command_in (Some now) tag number ≡ command_in (Some t) tag number

  still-quiet : (w z : World) (lane tag : ℕ) (now : Tag) (tags : List ℕ)
      → ((other : ℕ) → (other == tag) ≡ false → tag_of z lane other ≡ tag_of w lane other)
      → All (λ other. (other == tag) ≡ false) tags → All (IsQuiet w lane now) tags → All (IsQuiet z lane now) tags
  still-quiet w z lane tag now [] same apart quiet = All-nil (IsQuiet z lane now)
  still-quiet w z lane tag now (other ∷ tags) same apart quiet =
      let q = All-head (IsQuiet w lane now) other tags quiet in
      All-cons (IsQuiet z lane now) other tags
      (record { t = q.t; is = same other (All-head (λ n. (n == tag) ≡ false) other tags apart) ∙ q.is; same = q.same })
      (still-quiet w z lane tag now tags same (All-tail (λ n. (n == tag) ≡ false) other tags apart) (All-tail (IsQuiet w lane now) other tags quiet))

  quiet-counted : (lane : ℕ) (tags : List ℕ) (now : Tag) (w : World) → All (IsQuiet w lane now) tags → AreDistinct tags → IsCounted geometry w
      → IsCounted geometry (with_tags lane tags now w)
  unfolding with_tags
  quiet-counted lane [] now w quiet apart is = is
  quiet-counted lane (tag ∷ tags) now w quiet apart is =
      let q = All-head (IsQuiet w lane now) tag tags quiet in
      let z : World = with_tag lane tag now w in
      quiet-counted lane tags now z
      (still-quiet w z lane tag now tags (λ other differ. tag_of-other w lane tag other now differ) apart.0 (All-tail (IsQuiet w lane now) tag tags quiet)) apart.1
      (retag-counted geometry w lane tag q.t now q.is q.same is)

  -- ---- takes

  free-quiet : (w : World) (lane leader : ℕ) (command : Command) (tags : List ℕ) → command.leader ≡ leader → All (λ m. (m == leader) ≡ false) tags
      → All (HasTag IsFree w lane) tags → All (IsQuiet w lane (Taken command [])) tags
  free-quiet w lane leader command [] leads apart free = All-nil (IsQuiet w lane (Taken command []))
  free-quiet w lane leader command (tag ∷ tags) leads apart free =
      let h = All-head (HasTag IsFree w lane) tag tags free in
      let differ = All-head (λ m. (m == leader) ≡ false) tag tags apart in
      All-cons (IsQuiet w lane (Taken command [])) tag tags
      (record {
        t = Free;
        is = h.is ∙ ap (λ x. Some x) h.has;
        same = (λ number. led-elsewhere tag number command (λ same. eqb-false tag leader differ (sym same ∙ leads)));
      })
      (free-quiet w lane leader command tags leads (All-tail (λ m. (m == leader) ≡ false) tag tags apart) (All-tail (HasTag IsFree w lane) tag tags free))

  pub taken_to-counted : (w : World) (o : Owner) (addr queue lane n : ℕ) (rest : List ℕ) (l : Lane) → IsOwner geometry w o → IsCounted geometry w
      → slice_get w.lanes lane ≡ Some l → length l.tags ≡ tag_count → All (HasTag IsFree w lane) (n ∷ rest) → AreDistinct (n ∷ rest)
      → 0 < queue → front o.controller queue ≡ Some addr → IsCounted geometry (taken_to addr queue lane (n ∷ rest) o w)
  unfolding taken_to with_tags
  taken_to-counted w o addr queue lane n rest l owns is at sized free apart io front_is =
      let h = All-head (HasTag IsFree w lane) n rest free in
      let first : slice_get l.tags n ≡ Some Free = sym (ap (λ x. tag_in x n) at) ∙ h.is ∙ ap (λ x. Some x) h.has in
      let among = slice_get-below l.tags n Free first in
      let below : n < tag_count = omega (arith, among, sized) in
      let command : Command = record { guest = o.number; queue = queue; entry = entry_at addr o w; leader = n } in
      let none : commands w o.number (name_of lane n) ≡ None = commands-at w o.number lane n Free below (ap (λ x. tag_in x n) at ∙ first) in
      let was = is.running o.number o.given o.controller owns.given owns.controller in
      let zz : World = with_controller o.number (took o.controller queue) w in
      let z : World = with_tag lane n (Taken command []) zz in
      let one : IsCounted geometry z =
      one-counted w z o.number o.given (took o.controller queue) lane n Free (Taken command []) l below at first
      (ap (λ x. changed_at x lane (tag_changed n (Taken command [])) w.lanes) at) refl owns.given
      (λ other differ. others-command n other command (λ same. differ (sym same)))
      (subst (λ m. IsRunningWith (took o.controller queue) (put (commands w o.number) (name_of lane n) m)) (sym (owned-by n o.number command refl refl))
      (took-running o.controller (commands w o.number) queue (name_of lane n) addr (entry_at addr o w) was io none front_is)) is in
      quiet-counted lane rest (Taken command []) z
      (still-quiet w z lane n (Taken command []) rest (λ other differ. tag_of-other zz lane n other (Taken command []) differ) apart.0
      (free-quiet w lane n command rest refl apart.0 (All-tail (HasTag IsFree w lane) n rest free))) apart.1 one

  -- ---- posts

  -- the tag of an ended command becomes free, and its controller counts one less
  left-counted : (w z : World) (lane tag : ℕ) (command : Command) (st : StatusField) (share : Option Share) (o : Owner) (c : Controller) (l : Lane)
      → tag < tag_count → slice_get w.lanes lane ≡ Some l → slice_get l.tags tag ≡ Some (Ended command st share) → command.leader ≡ tag
      → o.number ≡ command.guest → IsOwner geometry w o → IsCounted geometry w
      → z.lanes ≡ set w.lanes lane (tag_changed tag Free l) → z.controllers ≡ set w.controllers o.number c
      → IsTogether c → c.taken ≡ taken_less o.controller command.queue → IsCounted geometry z
  left-counted w z lane tag command st share o c l below at found leads whose owns is lanes controllers together taken =
      let was = is.running o.number o.given o.controller owns.given owns.controller in
      let member : Member = record { queue = command.queue; entry = command.entry; progress = Unjudged } in
      let has : commands w o.number (name_of lane tag) ≡ Some member =
      commands-at w o.number lane tag (Ended command st share) below (ap (λ x. tag_in x tag) at ∙ found) ∙ owned-by tag o.number command leads (sym whose) in
      one-counted w z o.number o.given c lane tag (Ended command st share) Free l below at found lanes controllers owns.given
      (λ other apart. sym (others-command tag other command (λ same. apart (sym same ∙ sym whose))))
      (left-running o.controller c (commands w o.number) (name_of lane tag) member was has together taken) is

  gone-quiet : (w : World) (lane leader : ℕ) (tags : List ℕ) → All (λ m. (m == leader) ≡ false) tags
      → All (HasTag (λ t. goes_by leader (part_of t) ≡ true) w lane) tags → All (IsQuiet w lane Free) tags
  gone-quiet w lane leader [] apart have = All-nil (IsQuiet w lane Free)
  gone-quiet w lane leader (tag ∷ tags) apart have =
      let h = All-head (HasTag (λ t. goes_by leader (part_of t) ≡ true) w lane) tag tags have in
      let differ = All-head (λ m. (m == leader) ≡ false) tag tags apart in
      All-cons (IsQuiet w lane Free) tag tags
      (record { t = h.t; is = h.is; same = (λ number. sym (goes-elsewhere leader tag number h.t h.has differ)) })
      (gone-quiet w lane leader tags (All-tail (λ m. (m == leader) ≡ false) tag tags apart)
      (All-tail (HasTag (λ t. goes_by leader (part_of t) ≡ true) w lane) tag tags have))

  -- all tags of a command become free, in a world with that controller
  pub freed-counted : (w zz : World) (lane leader : ℕ) (command : Command) (st : StatusField) (share : Option Share) (o : Owner) (c : Controller) (l : Lane)
      → leader < tag_count → slice_get w.lanes lane ≡ Some l → AreGroups geometry l.tags → slice_get l.tags leader ≡ Some (Ended command st share)
      → command_of (part_of (Ended command st share)) ≡ Some command → command.leader ≡ leader
      → o.number ≡ command.guest → IsOwner geometry w o → IsCounted geometry w
      → zz.lanes ≡ w.lanes → zz.controllers ≡ set w.controllers o.number c
      → IsTogether c → c.taken ≡ taken_less o.controller command.queue → AreDistinct (group w lane leader)
      → IsCounted geometry (with_tags lane (group w lane leader) Free zz)
  unfolding with_tags
  freed-counted w zz lane leader command st share o c l below at are found has leads whose owns is lanes controllers together taken apart =
      by (group w lane leader) refl apart
      (group-has (λ t. goes_by leader (part_of t) ≡ true) w lane leader l at (λ n t there goes. goes))
    where
      of_first : (n : ℕ) (rest : List ℕ) → n ≡ leader → AreDistinct (n ∷ rest) → All (HasTag (λ t. goes_by leader (part_of t) ≡ true) w lane) (n ∷ rest)
          → IsCounted geometry (with_tags lane rest Free (with_tag lane n Free zz))
      of_first n rest same apart have =
          let z : World = with_tag lane n Free zz in
          let first : slice_get l.tags n ≡ Some (Ended command st share) = subst (λ k. slice_get l.tags k ≡ Some (Ended command st share)) (sym same) found in
          let one : IsCounted geometry z =
          left-counted w z lane n command st share o c l (subst (λ k. k < tag_count) (sym same) below) at first (leads ∙ sym same) whose owns is
          (ap (λ ls. changed_at (slice_get ls lane) lane (tag_changed n Free) ls) lanes ∙ ap (λ x. changed_at x lane (tag_changed n Free) w.lanes) at)
          controllers together taken in
          let quiet : All (IsQuiet w lane Free) rest =
          gone-quiet w lane leader rest (subst (λ k. All (λ m. (m == k) ≡ false) rest) same apart.0)
          (All-tail (HasTag (λ t. goes_by leader (part_of t) ≡ true) w lane) n rest have) in
          quiet-counted lane rest Free z
          (still-quiet w z lane n Free rest
          (λ other differ. tag_of-other zz lane n other Free differ ∙ ap (λ ls. tag_in (slice_get ls lane) other) lanes) apart.0 quiet) apart.1 one

      by : (ns : List ℕ) → group w lane leader ≡ ns → AreDistinct ns → All (HasTag (λ t. goes_by leader (part_of t) ≡ true) w lane) ns
          → IsCounted geometry (with_tags lane ns Free zz)
      by [] same apart have = absurd (group-some w lane leader l (Ended command st share) command at found has leads same)
      by (n ∷ rest) same apart have =
          of_first n rest (group-first geometry w lane leader l (Ended command st share) command n rest at are found has leads same) apart have
