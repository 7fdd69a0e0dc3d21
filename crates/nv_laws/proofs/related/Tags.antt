-- The private controller of a guest goes along where a list of the guest's is read, and where a command of it is given up.
use Rattle.std.proofs.Common.{◌≡◌, ℕ, ◌<◌, Bool, true, false, cond, ◌&&◌, ◌||◌, ◌==◌, nat_le, List, [], ◌∷◌, ◌++◌, All, length, slice_get, Option, Some, None}
use Rattle.std.proofs.Common.{arith, refl, sym, ap, ◌∙◌, eq-eqb, eqb-true, subst}
use Rattle.std.proofs.lemmas.Bool.{ne_eqb}
use Rattle.std.proofs.lemmas.List.Elements.{All-append, All-cons, All-nil}
use mathlib.Core.Path.{fun_ext}
use Rattle.nv_entry.specs.Status.{StatusField}
use Rattle.nv_entry.specs.StatusCode.{done_with}
use Rattle.nv_entry.specs.declared.status_code.StatusCode.TheVariants.{InternalError, Success}
use Rattle.nv_mem.specs.GuestMap.{all_mapped}
use Rattle.nv_model.specs.Dialogue.{asked}
use Rattle.nv_model.specs.Judge.{judge}
use Rattle.nv_model.specs.Limits.{part_size}
use Rattle.nv_model.specs.Memory.{bytes_from, image}
use Rattle.nv_model.specs.Parts.{ShowsOn}
use Rattle.nv_model.specs.Private.{Bag, Ended as EndedWith, GiveUpStep, Private, Progress, Unjudged, given_up_at, put, step as private_step, unseen, with_taken, Taken as Member}
use Rattle.nv_model.specs.Transcript.{ReadDone}
use Rattle.nv_model.specs.declared.reply.Reply.TheVariants as reply
use Rattle.nv_world_model.specs.declared.event.Event.TheVariants as event
use Rattle.nv_world_model.specs.Area.{bounce_page, tag_count}
use Rattle.nv_world_model.specs.Device.{Held}
use Rattle.nv_world_model.specs.Geometry.{Geometry, Guest, regions_of, shape_of}
use Rattle.nv_world_model.specs.Contained.{guest_of_one}
use Rattle.nv_world_model.specs.Seat.{Owner, member_by, member_in, member_of, name_of, owner_of, rests_of}
use Rattle.nv_world_model.specs.Step.{ended_at_once, list_at, listed, replied, step}
use Rattle.nv_world_model.specs.View.{is_tag_of, own_held, own_tag}
use Rattle.nv_world_model.specs.World.{Command, Ended, Tag, Taken, World, group, tag_of, with_tag, with_tags}
use Rattle.nv_model.proofs.Shown.{ShowsOn-whole, length-bytes_from}
use Rattle.nv_world_model.proofs.Seats.{owner_of-is, owner_of-number}
use Rattle.nv_laws_sound.proofs.CountedActs.{HasLane, lane-of}
use Rattle.nv_laws_sound.proofs.CountedTags.{group-first, group-some}
use Rattle.nv_laws_sound.proofs.Folds.{HasTag, group-distinct}
use Rattle.nv_laws_sound.proofs.Lists.{slice_get-below, some-same}
use Rattle.nv_laws_sound.proofs.Numbers.{AreDistinct}
use Rattle.nv_laws_sound.proofs.Retags.{is-at}
use Rattle.nv_laws_sound.proofs.Stages.{taken-tags}
use Rattle.nv_laws_sound.proofs.TagEvents.{IsTakenBy}
use Rattle.nv_laws.specs.Following.{GoesAlong, IsReached}
use Rattle.nv_laws.specs.Related.{IsTagRelated, Related, hides}
use Rattle.nv_laws.proofs.related.Changing.{all-touched, none-touched, touched, with_tag-away, with_tag-here, with_tags-away, with_tags-here, with_tags-rest}
use Rattle.nv_laws.proofs.related.Goings.{dull-goes, none-goes, one-goes}
use Rattle.nv_laws.proofs.related.Rests.{led}
use Rattle.nv_laws.proofs.related.Retold.{IsRetold, members-of, retag-related}
use Rattle.nv_laws.proofs.related.Views.{device_of, status_in}
use Rattle.nv_laws.proofs.related.Ways.{either-way, owner-way, taken-way}

-- ---- tags

-- a guest's own tag, where it is there
pub own-as : (number : ℕ) (o : Option Tag) (t : Tag) (P : Option Tag → Type 0) → o ≡ Some t → is_tag_of number (Some t) ≡ true → P (Some t) → P (own_tag number o)
own-as number o t P there mine one =
    subst P (sym (ap (own_tag number) there ∙ ap (λ b. cond b (Some t) None) mine)) one

-- a tag that shows nothing of what was moved hides nothing
pub hides-nothing : (number : ℕ) (o : Option Tag) (t : Tag) (held : Option Held) (addr : ℕ) → o ≡ Some t → hides (Some t) held addr ≡ false
    → hides (own_tag number o) held addr ≡ false
hides-nothing number o t held addr there none =
    ap (λ x. hides (own_tag number x) held addr) there ∙ by_owner (is_tag_of number (Some t))
  where
    by_owner : (b : Bool) → hides (cond b (Some t) None) held addr ≡ false
    by_owner true = none
    by_owner false = refl

pub put-same : (bag : Bag) (name : ℕ) → put bag name (bag name) ≡ bag
put-same bag name =
    fun_ext (λ at.
    elim (at == name) as (λ b. (at == name) ≡ b → cond b (bag name) (bag at) ≡ bag at) [
      | true ↦ λ is. ap bag (sym (eqb-true at name is))
      | false ↦ λ is. refl
    ] refl)

-- the member of a command by the tag that it goes by
pub member-mine : (tag number : ℕ) (command : Command) (progress : Progress) → (command.leader == tag) ≡ true → (command.guest == number) ≡ true
    → member_by tag number command progress ≡ Some (record { queue = command.queue; entry = command.entry; progress = progress })
member-mine tag number command progress leads mine =
    ap (λ b. cond b (member_of number command progress) None) leads
    ∙ ap (λ b. cond b (Some (record { queue = command.queue; entry = command.entry; progress = progress })) None) mine

module _ (host_bytes : ℕ) (geometry : Geometry) (number : ℕ) (guest : Guest) (given : slice_get geometry.guests number ≡ Some guest)
    (w : World) (reached : IsReached host_bytes geometry w) (p : Private) (related : Related geometry number guest w p) (lane tag : ℕ) where
  -- a tag that is there is one of its lane's
  pub tag-below : (t : Tag) → tag_of w lane tag ≡ Some t → tag < tag_count
  tag-below t there =
      let a = is-at geometry w lane tag t reached.consistent.of_tags there in
      let sized = (reached.consistent.of_tags.lanes lane a.l a.d a.at_lane a.at_device).positions.tags in
      let among = slice_get-below a.l.tags tag t a.at_tag in
      omega (arith, sized, among)

  -- the private controller has the command of a tag
  pub bag-is : (t : Tag) → tag_of w lane tag ≡ Some t
      → p.bag (name_of lane tag) ≡ member_in (Some t) tag number (rests_of geometry w lane tag)
  bag-is t there =
      related.bag (name_of lane tag) ∙ members-of geometry w number lane tag (tag-below t there)
      ∙ ap (λ o. member_in o tag number (rests_of geometry w lane tag)) there

  -- a command that has no plan yet
  module _ (command : Command) (reads : List ReadDone) (there : tag_of w lane tag ≡ Some (Taken command reads)) (leads : (command.leader == tag) ≡ true)
      (mine : (command.guest == number) ≡ true) where
    abbrev name : ℕ
    name = name_of lane tag

    abbrev taken : Progress → Member
    taken progress = record { queue = command.queue; entry = command.entry; progress = progress }

    abbrev l : HasLane w lane tag (Taken command reads)
    l = lane-of w lane tag (Taken command reads) there

    pub taken-is : p.bag name ≡ Some (taken Unjudged)
    taken-is = bag-is (Taken command reads) there ∙ member-mine tag number command Unjudged leads mine

    -- it has these tags
    pub group-taken : (b : ℕ) → touched (group w lane tag) b ≡ true → HasTag (IsTakenBy command) w lane b
    group-taken b is =
        all-touched (HasTag (IsTakenBy command) w lane) (group w lane tag) b
        (taken-tags geometry w lane tag l.l command reads l.at (reached.consistent.groups lane l.l l.at) there (eqb-true command.leader tag leads)) is

    -- of which this is the first
    pub group-begins : (n : ℕ) (rest : List ℕ) → group w lane tag ≡ n ∷ rest → n ≡ tag
    group-begins n rest same =
        group-first geometry w lane tag l.l (Taken command reads) command n rest l.at (reached.consistent.groups lane l.l l.at) l.found refl
        (eqb-true command.leader tag leads) same

    -- ---- a command ends at once

    module _ (status : StatusField) (rest : List ℕ) (is : group w lane tag ≡ tag ∷ rest) where
      abbrev failed : Tag
      failed = Ended command status None

      abbrev others : Tag
      others = Ended command (done_with Success) None

      abbrev first : World
      first = with_tag lane tag failed w

      abbrev behind : World
      behind = with_tags lane rest others first

      distinct : AreDistinct (tag ∷ rest)
      distinct = subst AreDistinct is (group-distinct w lane tag)

      -- each ends, with one status or the other
      each-ends : (b : ℕ) → touched (tag ∷ rest) b ≡ true → (st : StatusField) × (tag_of behind lane b ≡ Some (Ended command st None))
      each-ends b among =
          let was = group-taken b (ap (λ ns. touched ns b) is ∙ among) in
          (elim (touched rest b) as (λ c. touched rest b ≡ c → (st : StatusField) × (tag_of behind lane b ≡ Some (Ended command st None))) [
            | true ↦ λ later. (let u = still b was.t was.is in (done_with Success, with_tags-here lane rest others first b u.0 later u.1))
            | false ↦ λ never. (status, front b among never)
          ]) refl
        where
          still : (b : ℕ) (t : Tag) → tag_of w lane b ≡ Some t → (u : Tag) × (tag_of first lane b ≡ Some u)
          still b t here =
              (elim (b == tag) as (λ c. (b == tag) ≡ c → (u : Tag) × (tag_of first lane b ≡ Some u)) [
                | true ↦ λ same. (failed, subst (λ m. tag_of first lane m ≡ Some failed) (sym (eqb-true b tag same)) (with_tag-here w lane tag (Taken command reads) failed there))
                | false ↦ λ other. (t, with_tag-away w lane tag failed lane b (λ here_too also. (let bad : true ≡ false = sym (eq-eqb b tag also) ∙ other in cc)) ∙ here)
              ]) refl

          plain : (c : Bool) → (c || false) ≡ true → c ≡ true
          plain true e = refl
          plain false e = e

          front : (b : ℕ) → touched (tag ∷ rest) b ≡ true → touched rest b ≡ false → tag_of behind lane b ≡ Some failed
          front b among never =
              let same : tag ≡ b = eqb-true tag b (plain (tag == b) (ap (λ d. (tag == b) || d) (sym never) ∙ among)) in
              with_tags-away lane rest others first lane b (λ here any. (let bad : true ≡ false = sym any ∙ never in cc))
              ∙ subst (λ m. tag_of first lane m ≡ Some failed) same (with_tag-here w lane tag (Taken command reads) failed there)

      leader-ends : tag_of behind lane tag ≡ Some failed
      leader-ends =
          with_tags-away lane rest others first lane tag (λ here any. (let bad : true ≡ false = sym any ∙ none-touched tag rest distinct.0 in cc))
          ∙ with_tag-here w lane tag (Taken command reads) failed there

      led-elsewhere : (other : ℕ) → (other ≡ tag → ⊥) → (command.leader == other) ≡ false
      led-elsewhere other apart = ne_eqb command.leader other (λ same. apart (sym same ∙ eqb-true command.leader tag leads))

      retold : IsRetold geometry number guest lane tag (touched (tag ∷ rest)) w behind
      retold =
          let only = with_tags-rest lane rest others first in
          record {
            tags = (λ a b away.
                with_tags-away lane rest others first a b (λ same any. away same (later b any))
                ∙ with_tag-away w lane tag failed a b (λ same also. away same (ap (λ c. c || touched rest b) (eq-eqb tag b (sym also)))));
            held = (λ a b away. ap (λ (z : World). device_of z a b) only);
            before = (λ b other among apart.
                (let was = group-taken b (ap (λ ns. touched ns b) is ∙ among) in
                ap (led other) (was.is ∙ ap (λ x. Some x) was.has.is) ∙ led-elsewhere other apart));
            behind = (λ b other among apart. (let now = each-ends b among in ap (led other) now.1 ∙ led-elsewhere other apart));
            bytes = (λ a b t addr away own bytes. sym (ap (λ (z : World). z.host addr) only));
            memory = sym (ap (λ (z : World). image (regions_of guest) z.host) only);
            disk = ap (λ (z : World). z.disk) only;
            kept = ap (λ (z : World). z.kept) only;
          }
        where
          later : (b : ℕ) → touched rest b ≡ true → touched (tag ∷ rest) b ≡ true
          later b any = by (tag == b)
            where
              by : (c : Bool) → (c || touched rest b) ≡ true
              by true = refl
              by false = any

      at_once-related : Related geometry number guest behind (record p { bag = put p.bag name (Some (taken (EndedWith status))) })
      at_once-related =
          retag-related geometry number guest w behind reached.consistent lane tag (touched (tag ∷ rest)) (tag-below (Taken command reads) there) retold p related
          (Some (taken (EndedWith status))) p.controller
          (ap (λ (z : World). slice_get z.controllers number) (with_tags-rest lane rest others first) ∙ related.controller)
          (λ b addr among none.
          (let was = group-taken b (ap (λ ns. touched ns b) is ∙ among) in
          hides-nothing number (tag_of w lane b) (Taken command was.has.reads) (own_held number (tag_of w lane b) (device_of w lane b)) addr
          (was.is ∙ ap (λ x. Some x) was.has.is) refl))
          (sym (ap (λ o. member_in o tag number (rests_of geometry behind lane tag)) leader-ends
          ∙ member-mine tag number command (EndedWith status) leads mine))
          (λ b among.
          (let now = each-ends b among in
          own-as number (tag_of behind lane b) (Ended command now.0 None)
          (λ o. IsTagRelated o guest (own_held number (tag_of behind lane b) (device_of behind lane b)) (status_in geometry behind lane) (bounce_page geometry.mediator lane b) behind.host p.memory)
          now.1 mine tt))

    pub ended-related : (status : StatusField) → Related geometry number guest (ended_at_once lane (group w lane tag) command status w)
        (record p { bag = put p.bag name (Some (taken (EndedWith status))) })
    ended-related status = by (group w lane tag) refl
      where
        by : (ns : List ℕ) → group w lane tag ≡ ns
            → Related geometry number guest (ended_at_once lane ns command status w) (record p { bag = put p.bag name (Some (taken (EndedWith status))) })
        by [] same = absurd (group-some w lane tag l.l (Taken command reads) command l.at l.found refl (eqb-true command.leader tag leads) same)
        by (n ∷ rest) same =
            let begins = group-begins n rest same in
            subst (λ m. Related geometry number guest (ended_at_once lane (m ∷ rest) command status w) (record p { bag = put p.bag name (Some (taken (EndedWith status))) }))
            (sym begins) (at_once-related status rest (same ∙ ap (λ m. m ∷ rest) begins))

    -- ---- a command is given up

    given_up-made : private_step (shape_of guest) (GiveUpStep name) p
        ≡ unseen (record p { bag = put p.bag name (Some (taken (EndedWith (done_with InternalError)))) })
    unfolding private_step
    given_up-made = ap (λ o. with_taken o (λ t. given_up_at t.progress name t p)) taken-is

    pub give_up-goes : GoesAlong geometry number guest (event.GiveUp lane tag) w p
        (replied reply.Done (ended_at_once lane (group w lane tag) command (done_with InternalError) w))
    give_up-goes =
        one-goes geometry number guest (event.GiveUp lane tag) w (ended_at_once lane (group w lane tag) command (done_with InternalError) w) p
        (record p { bag = put p.bag name (Some (taken (EndedWith (done_with InternalError)))) }) (GiveUpStep name) refl
        (ap (λ o. cond (is_tag_of number o) (GiveUpStep name ∷ []) []) there ∙ ap (λ b. cond b (GiveUpStep name ∷ []) []) mine) given_up-made
        (ended-related (done_with InternalError))

  -- whose a tag is
  pub taken-mine : (command : Command) (reads : List ReadDone) → guest_of_one (tag_of w lane tag) ≡ Some number → tag_of w lane tag ≡ Some (Taken command reads)
      → (command.guest == number) ≡ true
  taken-mine command reads own there = eq-eqb command.guest number (some-same command.guest number (sym (ap guest_of_one there) ∙ own))

  pub give_ups-go : guest_of_one (tag_of w lane tag) ≡ Some number → GoesAlong geometry number guest (event.GiveUp lane tag) w p (step geometry (event.GiveUp lane tag) w)
  unfolding step
  give_ups-go own =
      taken-way (GoesAlong geometry number guest (event.GiveUp lane tag) w p) w (dull-goes geometry number guest (event.GiveUp lane tag) w p refl related)
      tag (tag_of w lane tag) _ (λ command reads there leads. give_up-goes command reads there leads (taken-mine command reads own there))

  -- ---- a list is read

  module _ (command : Command) (reads : List ReadDone) (there : tag_of w lane tag ≡ Some (Taken command reads)) (leads : (command.leader == tag) ≡ true)
      (mine : (command.guest == number) ≡ true)
      (r : ReadDone) (shown : r.bytes ≡ bytes_from (image (regions_of guest) w.host) r.addr (length r.bytes)) where
    abbrev more : Tag
    more = Taken command (reads ++ r ∷ [])

    abbrev shows : ReadDone → Type 0
    shows =
        ShowsOn (image (regions_of guest) w.host)
        (asked (image (regions_of guest) w.host) (judge (shape_of guest).mapped (shape_of guest).limit (shape_of guest).blocks command.entry))

    was-shown : All shows reads
    was-shown =
        as_shown (own_held number (tag_of w lane tag) (device_of w lane tag))
        (subst (λ o. IsTagRelated o guest (own_held number (tag_of w lane tag) (device_of w lane tag)) (status_in geometry w lane) (bounce_page geometry.mediator lane tag) w.host p.memory)
        (ap (own_tag number) there ∙ ap (λ b. cond b (Some (Taken command reads)) None) mine) (related.tags lane tag))
      where
        as_shown : (held : Option Held)
            → IsTagRelated (Some (Taken command reads)) guest held (status_in geometry w lane) (bounce_page geometry.mediator lane tag) w.host p.memory → All shows reads
        as_shown held e = e

    here : tag_of (with_tag lane tag more w) lane tag ≡ Some more
    here = with_tag-here w lane tag (Taken command reads) more there

    led-only : (other : ℕ) → (other ≡ tag → ⊥) → (command.leader == other) ≡ false
    led-only other apart = ne_eqb command.leader other (λ same. apart (sym same ∙ eqb-true command.leader tag leads))

    listed-told : IsRetold geometry number guest lane tag (λ b. b == tag) w (with_tag lane tag more w)
    listed-told =
        record {
          tags = (λ a b away. with_tag-away w lane tag more a b (λ same also. away same (eq-eqb b tag also)));
          held = (λ a b away. refl);
          before = (λ b other is apart.
              ap (led other) (subst (λ n. tag_of w lane n ≡ Some (Taken command reads)) (sym (eqb-true b tag is)) there) ∙ led-only other apart);
          behind = (λ b other is apart.
              ap (led other) (subst (λ n. tag_of (with_tag lane tag more w) lane n ≡ Some more) (sym (eqb-true b tag is)) here) ∙ led-only other apart);
          bytes = (λ a b t addr away own bytes. refl);
          memory = refl;
          disk = refl;
          kept = refl;
        }

    listed-related : Related geometry number guest (with_tag lane tag more w) p
    listed-related =
        let z = with_tag lane tag more w in
        subst (λ bag. Related geometry number guest z (record p { bag = bag })) (put-same p.bag (name_of lane tag))
        (retag-related geometry number guest w z reached.consistent lane tag (λ b. b == tag) (tag-below (Taken command reads) there) listed-told p related
        (p.bag (name_of lane tag)) p.controller related.controller
        (λ b addr is none.
        hides-nothing number (tag_of w lane b) (Taken command reads) (own_held number (tag_of w lane b) (device_of w lane b)) addr
        (subst (λ n. tag_of w lane n ≡ Some (Taken command reads)) (sym (eqb-true b tag is)) there) refl)
        (bag-is (Taken command reads) there ∙ sym (ap (λ o. member_in o tag number (rests_of geometry z lane tag)) here))
        (λ b is.
        subst (λ n. IsTagRelated (own_tag number (tag_of z lane n)) guest (own_held number (tag_of z lane n) (device_of z lane n)) (status_in geometry z lane)
        (bounce_page geometry.mediator lane n) z.host p.memory)
        (sym (eqb-true b tag is))
        (own-as number (tag_of z lane tag) more
        (λ o. IsTagRelated o guest (own_held number (tag_of z lane tag) (device_of z lane tag)) (status_in geometry z lane) (bounce_page geometry.mediator lane tag) z.host p.memory)
        here mine
        (All-append shows reads (r ∷ []) was-shown
        (All-cons shows r [] (ShowsOn-whole (image (regions_of guest) w.host) _ r shown) (All-nil shows))))))

  -- whose list it is
  pub owner-given : (command : Command) (o : Owner) → (command.guest == number) ≡ true → owner_of geometry w command.guest ≡ Some o → guest ≡ o.given
  owner-given command o mine found =
      let is = owner_of-is geometry w command.guest o found in
      let same = sym (eqb-true command.guest number mine) ∙ owner_of-number geometry w command.guest o found in
      some-same guest o.given (sym given ∙ ap (slice_get geometry.guests) same ∙ is.given)

  listed-goes : (addr len : ℕ) (command : Command) (reads : List ReadDone) (o : Owner) → tag_of w lane tag ≡ Some (Taken command reads)
      → (command.leader == tag) ≡ true → (command.guest == number) ≡ true → owner_of geometry w command.guest ≡ Some o
      → GoesAlong geometry number guest (event.List lane tag addr len) w p (listed addr len lane tag command reads o w)
  unfolding listed
  listed-goes addr len command reads o there leads mine found =
      let bytes = bytes_from (image (regions_of o.given) w.host) addr len in
      let sized : length bytes ≡ len = length-bytes_from (image (regions_of o.given) w.host) addr len in
      none-goes geometry number guest (event.List lane tag addr len) w p refl
      (replied (reply.Bytes bytes) (with_tag lane tag (Taken command (reads ++ record { addr = addr; bytes = bytes } ∷ [])) w)) refl
      (listed-related command reads there leads mine (record { addr = addr; bytes = bytes })
      (ap (λ n. bytes_from (image (regions_of o.given) w.host) addr n) (sym sized)
      ∙ ap (λ (g : Guest). bytes_from (image (regions_of g) w.host) addr (length bytes)) (sym (owner-given command o mine found))))

  pub lists-go : (addr len : ℕ) → guest_of_one (tag_of w lane tag) ≡ Some number
      → GoesAlong geometry number guest (event.List lane tag addr len) w p (step geometry (event.List lane tag addr len) w)
  unfolding step
  lists-go addr len own =
      let P = GoesAlong geometry number guest (event.List lane tag addr len) w p in
      let dull = dull-goes geometry number guest (event.List lane tag addr len) w p refl related in
      taken-way P w dull tag (tag_of w lane tag) _ (λ command reads there leads.
      owner-way P w dull (owner_of geometry w command.guest) (λ o. list_at addr len lane tag command reads o w) (λ o found.
      either-way P w dull (all_mapped (regions_of o.given) addr len) _ _
      (λ within.
      either-way P w dull (nat_le 1 len && nat_le len part_size) _ _
      (λ fits. listed-goes addr len command reads o there leads (taken-mine command reads own there) found) (λ out. dull reply.Ignored refl))
      (λ out. dull reply.Unmapped refl)))
