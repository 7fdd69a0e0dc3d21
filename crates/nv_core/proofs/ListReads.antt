-- A List, from the tag's transcript to the machine's call, and in each world that has its side.
use Rattle.std.proofs.Common.{◌≡◌, ℕ, ◌&&◌, ◌==◌, Bool, true, false, cond, eq-eqb, List, [], ◌∷◌, ◌++◌, get_or, map, set, slice_get, Option, Some, None, refl, sym, ap, ◌∙◌, subst}
use Rattle.std.specs.Prelude.{nat_le}
use Rattle.nv_core.proofs.CallSteps.{side-there}
use Rattle.nv_core.proofs.GroupWorlds.{IsTakenHere, taken-found, taken-there}
use Rattle.nv_core.proofs.Placed.{owner}
use Rattle.nv_core.proofs.SideTags.{call-not-taken, call-taken, changed-lane}
use Rattle.nv_core.specs.Front.{IsSideOf}
use Rattle.nv_core.specs.Listing.{IsListed, IsUnlisted}
use Rattle.nv_core.specs.Seat.{bytes_told}
use Rattle.nv_core.specs.Tags.{unled, untaken}
use Rattle.nv_laws_sound.proofs.Lists.{some-same}
use Rattle.nv_laws_sound.specs.Side.{Side}
use Rattle.nv_machine.proofs.Cases.{tag-lane}
use Rattle.nv_machine.proofs.Hosts.{hosts-read}
use Rattle.nv_machine.proofs.InWorlds.{Is, in-first}
use Rattle.nv_machine.proofs.SideWorlds.{begun}
use Rattle.nv_machine.proofs.TakeCalls.{list-is}
use Rattle.nv_machine.specs.Doing.{Called, Doing, for_owner, owner_in, replied, tag_at, tag_put}
use Rattle.nv_machine.specs.Effects.{hosts_from}
use Rattle.nv_machine.specs.InWorld.{in_world, side_of}
use Rattle.nv_machine.specs.Machine.{call, called, fetch, from_one, list_at, list_fetch}
use Rattle.nv_mem.specs.GuestMap.{all_mapped}
use Rattle.nv_model.specs.Controller.{Controller}
use Rattle.nv_model.specs.Limits.{part_size}
use Rattle.nv_model.specs.Memory.{byte_in, bytes_from, image}
use Rattle.nv_model.specs.Transcript.{ReadDone}
use Rattle.nv_model.specs.declared.reply.Reply.{Reply}
use Rattle.nv_model.specs.declared.reply.Reply.TheVariants as reply
use Rattle.nv_world_model.specs.declared.event.Event.{Event}
use Rattle.nv_world_model.specs.declared.event.Event.TheVariants as event
use Rattle.nv_world_model.specs.Geometry.{Geometry, Guest, regions_of}
use Rattle.nv_world_model.specs.Seat.{Owner, owner_by}
use Rattle.nv_world_model.specs.Step.{step}
use Rattle.nv_world_model.specs.World.{Command, Ended, Flying, Free, Lane, Tag, Taken, World, tag_changed, tag_in}

-- a command that was taken, in its lane
pub taken-at : (lanes : List Lane) (lane tag : ℕ) (command : Command) (reads : List ReadDone)
    → tag_in (slice_get lanes lane) tag ≡ Some (Taken command reads) → command.leader ≡ tag → IsTakenHere lanes lane tag
taken-at lanes lane tag command reads is led =
    (let l = tag-lane (slice_get lanes lane) tag (Taken command reads) is in
    record { at = l.0; command = command; reads = reads; found = l.1.0; there = l.1.1; led = led })

module _ (geometry : Geometry) (lane tag addr len : ℕ) where
  abbrev e : Event
  e = event.List lane tag addr len

  -- where bytes are read
  abbrev may : Command → Owner → Bool
  may command o = command.leader == tag && all_mapped (regions_of o.given) addr len && nat_le 1 len && nat_le len part_size

  abbrev by_owner : Command → Option Owner → List ℕ
  by_owner command x = from_one x (λ o. cond (may command o) (hosts_from (regions_of o.given) addr len) [])

  may-all : (a b c d : Bool) → a ≡ true → b ≡ true → (c && d) ≡ true → (a && b && c && d) ≡ true
  may-all true true c d first second rest = rest
  may-all true false c d first second rest = cc
  may-all false b c d first second rest = cc

  fetch-taken : (s : Side) (command : Command) (reads : List ReadDone) (x : Option Owner) → tag_at s lane tag ≡ Some (Taken command reads)
      → owner_in geometry s command.guest ≡ x → fetch geometry e s ≡ by_owner command x
  unfolding fetch
  fetch-taken s command reads x is owns = ap (λ (t : Option Tag). list_fetch geometry s addr len tag t) is ∙ ap (by_owner command) owns

  fetch-listed : (s : Side) (command : Command) (reads : List ReadDone) (o : Owner) → tag_at s lane tag ≡ Some (Taken command reads) → command.leader ≡ tag
      → owner_in geometry s command.guest ≡ Some o → all_mapped (regions_of o.given) addr len ≡ true → (nat_le 1 len && nat_le len part_size) ≡ true
      → fetch geometry e s ≡ hosts_from (regions_of o.given) addr len
  fetch-listed s command reads o is led owns mapped fits =
      fetch-taken s command reads (Some o) is owns
      ∙ ap (λ (b : Bool). cond b (hosts_from (regions_of o.given) addr len) [])
      (may-all (command.leader == tag) (all_mapped (regions_of o.given) addr len) (nat_le 1 len) (nat_le len part_size)
      (eq-eqb command.leader tag led) mapped fits)

  -- the bytes that lie there
  pub listed-read : (s : Side) (number : ℕ) (given : Guest) (host : ℕ → ℕ) → IsListed geometry s lane tag addr len number
      → slice_get geometry.guests number ≡ Some given
      → bytes_from (image (regions_of given) host) addr len ≡ map host (fetch geometry e s)
  listed-read s number given host x there =
      ap (λ (g : Guest). bytes_from (image (regions_of g) host) addr len) (some-same given x.owner.given (sym there ∙ x.given))
      ∙ sym (hosts-read (regions_of x.owner.given) addr len host x.mapped)
      ∙ ap (map host) (sym (fetch-listed s x.command x.reads x.owner x.is x.led x.owns x.mapped x.fits))

  pub listed-mapped : (s : Side) (number : ℕ) (given : Guest) → IsListed geometry s lane tag addr len number → slice_get geometry.guests number ≡ Some given
      → all_mapped (regions_of given) addr len ≡ true
  listed-mapped s number given x there =
      ap (λ (g : Guest). all_mapped (regions_of g) addr len) (some-same given x.owner.given (sym there ∙ x.given)) ∙ x.mapped

  -- with them it is the event in each world that has the side
  pub list-law : (s : Side) (memory fetched : List ℕ) → fetched ≡ map (byte_in memory) (fetch geometry e s) → (w : World) → IsSideOf s memory w
      → Is w (call geometry e fetched (side_of w)) (step geometry e (in_world w (begun (side_of w))))
  list-law s memory fetched is w on =
      list-is geometry w (begun (side_of w)) lane tag addr len fetched (λ o command reads there leads whose mapped fits.
      is ∙ ap (map (byte_in memory)) (ap (fetch geometry e) (sym (side-there s memory w on))
      ∙ fetch-listed (side_of w) command reads o there leads whose mapped fits)
      ∙ hosts-read (regions_of o.given) addr len (byte_in memory) mapped
      ∙ ap (λ (h : ℕ → ℕ). bytes_from (image (regions_of o.given) h) addr len) (sym on.host ∙ ap (λ (v : World). v.host) (sym (in-first w))))

  -- ---- what is answered without them

  led-not : (command : Command) (r : Reply) (x : Option Owner) (b : Bool) → command.leader == tag ≡ b → cond b None (Some reply.Stale) ≡ Some r
      → by_owner command x ≡ []
  led-not command r None b is none = refl
  led-not command r (Some o) true is none = cc
  led-not command r (Some o) false is none =
      ap (λ (b : Bool). cond (b && all_mapped (regions_of o.given) addr len && nat_le 1 len && nat_le len part_size) (hosts_from (regions_of o.given) addr len) []) is

  fetch-not : (s : Side) (t : Option Tag) (r : Reply) → untaken tag t ≡ Some r → list_fetch geometry s addr len tag t ≡ []
  fetch-not s None r none = refl
  fetch-not s (Some Free) r none = refl
  fetch-not s (Some (Taken command reads)) r none = led-not command r (owner_in geometry s command.guest) (command.leader == tag) refl none
  fetch-not s (Some (Flying command share at)) r none = refl
  fetch-not s (Some (Ended command st share)) r none = refl

  told-led : (b : Bool) (r : Reply) → cond b None (Some reply.Stale) ≡ Some r → bytes_told r ≡ None
  told-led true r none = cc
  told-led false r none = ap bytes_told (some-same r reply.Stale (sym none))

  told-not : (t : Option Tag) (r : Reply) → untaken tag t ≡ Some r → bytes_told r ≡ None
  told-not None r none = ap bytes_told (some-same r reply.Ignored (sym none))
  told-not (Some Free) r none = ap bytes_told (some-same r reply.Stale (sym none))
  told-not (Some (Taken command reads)) r none = told-led (command.leader == tag) r none
  told-not (Some (Flying command share at)) r none = ap bytes_told (some-same r reply.Stale (sym none))
  told-not (Some (Ended command st share)) r none = ap bytes_told (some-same r reply.Stale (sym none))

  pub unlisted-untaken : (s : Side) (u : Option Reply) (r : Reply) → u ≡ untaken tag (tag_at s lane tag) → u ≡ Some r → IsUnlisted geometry s lane tag addr len r
  unfolding called fetch
  unlisted-untaken s u r is none =
      record {
        fetches = fetch-not s (tag_at s lane tag) r (sym is ∙ none);
        calls = (λ fetched. call-not-taken tag (tag_at s lane tag) r (begun s) _ (sym is ∙ none));
        told = told-not (tag_at s lane tag) r (sym is ∙ none);
      }

  module _ (s old : Side) (same : s ≡ old) (t : IsTakenHere s.lanes lane tag) where
    at-tag : tag_at s lane tag ≡ Some (Taken t.command t.reads)
    at-tag = ap (λ (o : Option Lane). tag_in o tag) t.found ∙ t.there

    abbrev after : (fetched : List ℕ) → Option Owner → Called
    after fetched x = for_owner x (begun s) (λ o. list_at addr len lane tag fetched t.command t.reads o (begun s))

    calls-taken : (fetched : List ℕ) (x : Option Owner) → owner_in geometry s t.command.guest ≡ x → call geometry e fetched s ≡ after fetched x
    unfolding called
    calls-taken fetched x owns =
        call-taken (begun s) lane tag t
        (λ command reads. for_owner (owner_in geometry s command.guest) (begun s) (λ o. list_at addr len lane tag fetched command reads o (begun s)))
        ∙ ap (after fetched) owns

    pub unlisted-nobody : (number : ℕ) → number ≡ t.command.guest → slice_get geometry.guests number ≡ None
        → IsUnlisted geometry old lane tag addr len reply.Stale
    unlisted-nobody number whose none =
        let owns : owner_in geometry s t.command.guest ≡ None =
        ap (λ (g : Option Guest). owner_by t.command.guest g (slice_get s.controllers t.command.guest))
        (subst (λ (n : ℕ). slice_get geometry.guests n ≡ None) whose none) in
        subst (λ (o : Side). IsUnlisted geometry o lane tag addr len reply.Stale) same
        (record {
          fetches = fetch-taken s t.command t.reads None at-tag owns;
          calls = (λ fetched. calls-taken fetched None owns);
          told = refl;
        })

    module _ (number : ℕ) (whose : number ≡ t.command.guest) (given : Guest) (there : slice_get geometry.guests number ≡ Some given) (c : Controller)
        (has : slice_get s.controllers number ≡ Some c) where
      abbrev o : Owner
      o = owner t.command.guest given c

      owns : owner_in geometry s t.command.guest ≡ Some o
      owns =
          ap (λ (g : Option Guest). owner_by t.command.guest g (slice_get s.controllers t.command.guest))
          (subst (λ (n : ℕ). slice_get geometry.guests n ≡ Some given) whose there)
          ∙ ap (owner_by t.command.guest (Some given)) (subst (λ (n : ℕ). slice_get s.controllers n ≡ Some c) whose has)

      may-not : (a b c d : Bool) → (b ≡ true → (c && d) ≡ false) → (a && b && c && d) ≡ false
      may-not false b c d none = refl
      may-not true false c d none = refl
      may-not true true c d none = none refl

      fetch-none : (all_mapped (regions_of given) addr len ≡ true → (nat_le 1 len && nat_le len part_size) ≡ false) → fetch geometry e s ≡ []
      fetch-none none =
          fetch-taken s t.command t.reads (Some o) at-tag owns
          ∙ ap (λ (b : Bool). cond b (hosts_from (regions_of given) addr len) [])
          (may-not (t.command.leader == tag) (all_mapped (regions_of given) addr len) (nat_le 1 len) (nat_le len part_size) none)

      -- by whether it is mapped, and by whether it fits
      abbrev joined : (fetched : List ℕ) → Called
      joined fetched = replied (reply.Bytes fetched) (tag_put lane tag (Taken t.command (t.reads ++ record { addr = addr; bytes = fetched } ∷ [])) (begun s))

      abbrev by_mapped : (fetched : List ℕ) → (mapped fits : Bool) → Called
      by_mapped fetched mapped fits = cond mapped (cond fits (joined fetched) (replied reply.Ignored (begun s))) (replied reply.Unmapped (begun s))

      calls-by : (fetched : List ℕ) (mapped fits : Bool) → all_mapped (regions_of given) addr len ≡ mapped
          → (nat_le 1 len && nat_le len part_size) ≡ fits → call geometry e fetched s ≡ by_mapped fetched mapped fits
      calls-by fetched mapped fits is sized =
          calls-taken fetched (Some o) owns
          ∙ ap (λ (b : Bool). by_mapped fetched b (nat_le 1 len && nat_le len part_size)) is ∙ ap (by_mapped fetched mapped) sized

      pub unlisted-unmapped : all_mapped (regions_of given) addr len ≡ false → IsUnlisted geometry old lane tag addr len reply.Unmapped
      unlisted-unmapped none =
          subst (λ (o : Side). IsUnlisted geometry o lane tag addr len reply.Unmapped) same
          (record {
            fetches = fetch-none (λ is. (let bad : true ≡ false = sym is ∙ none in cc));
            calls = (λ fetched. calls-by fetched false (nat_le 1 len && nat_le len part_size) none refl);
            told = refl;
          })

      pub unlisted-unfit : all_mapped (regions_of given) addr len ≡ true → (nat_le 1 len && nat_le len part_size) ≡ false
          → IsUnlisted geometry old lane tag addr len reply.Ignored
      unlisted-unfit is none =
          subst (λ (o : Side). IsUnlisted geometry o lane tag addr len reply.Ignored) same
          (record {
            fetches = fetch-none (λ mapped. none);
            calls = (λ fetched. calls-by fetched true false is none);
            told = refl;
          })

      pub listed-there : all_mapped (regions_of given) addr len ≡ true → (nat_le 1 len && nat_le len part_size) ≡ true
          → IsListed geometry old lane tag addr len number
      listed-there is sized =
          subst (λ (o : Side). IsListed geometry o lane tag addr len number) same
          (record {
            command = t.command;
            reads = t.reads;
            is = at-tag;
            led = t.led;
            owner = o;
            owns = owns;
            given = there;
            mapped = is;
            fits = sized;
          })

  -- the bytes join the transcript
  pub listed-done : (s old : Side) (number i : ℕ) (l l_new : Lane) (bytes : List ℕ) (same : s ≡ old) (x : IsListed geometry old lane tag addr len number) → i ≡ lane
      → l ≡ get_or s.lanes i l
      → ((command : Command) (reads : List ReadDone) → slice_get l.tags tag ≡ Some (Taken command reads)
      → l_new ≡ tag_changed tag (Taken command (reads ++ record { addr = addr; bytes = bytes } ∷ [])) l)
      → call geometry e bytes old ≡ replied (reply.Bytes bytes) (begun (record s { lanes = set s.lanes i l_new }))
  unfolding taken-at
  listed-done s old number i l l_new bytes same x at has new =
      let here = subst (λ (o : Side). IsListed geometry o lane tag addr len number) (sym same) x in
      let t = taken-at s.lanes lane tag here.command here.reads here.is here.led in
      let joined : List ReadDone = here.reads ++ record { addr = addr; bytes = bytes } ∷ [] in
      let put : Lane → Called = λ k. replied (reply.Bytes bytes) (begun (record s { lanes = set s.lanes lane k })) in
      subst (λ (o : Side). call geometry e bytes o ≡ replied (reply.Bytes bytes) (begun (record s { lanes = set s.lanes i l_new }))) same
      (subst (λ (n : ℕ). call geometry e bytes s ≡ replied (reply.Bytes bytes) (begun (record s { lanes = set s.lanes n l_new }))) (sym at)
      (calls-taken s s refl t bytes (Some here.owner) here.owns
      ∙ ap (λ (b : Bool). cond b (cond (nat_le 1 len && nat_le len part_size) (replied (reply.Bytes bytes) (tag_put lane tag (Taken here.command joined) (begun s)))
      (replied reply.Ignored (begun s))) (replied reply.Unmapped (begun s))) here.mapped
      ∙ ap (λ (b : Bool). cond b (replied (reply.Bytes bytes) (tag_put lane tag (Taken here.command joined) (begun s))) (replied reply.Ignored (begun s))) here.fits
      ∙ ap (λ (m : Doing). replied (reply.Bytes bytes) m) (changed-lane lane (tag_changed tag (Taken here.command joined)) (begun s) l (taken-found s.lanes lane tag t i l at has))
      ∙ sym (ap put (new here.command here.reads (taken-there s.lanes lane tag t i l at has)))))
