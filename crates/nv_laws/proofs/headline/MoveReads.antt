-- The private controller of a guest goes along with a unit of a Read of the guest's own, whose bytes go to the guest's memory or to the share's bounce
-- pages. Discipline keeps all else from the unit's block: the command's lists, other commands, and the blocks of the command's other shares.
use Rattle.std.proofs.Common.{◌≡◌, ℕ, ◌+◌, ◌*◌, ◌<◌, ◌≤◌, inl, inr, Bool, true, false, cond, not, ◌&&◌, ◌||◌, [], ◌∷◌, All, drop}
use Rattle.std.proofs.Common.{flat_map, length, slice_get, Option, Some, None, arith, refl, sym, ap, ◌∙◌, eq-eqb, subst}
use Rattle.std.specs.List.{list_any}
use Rattle.std.proofs.lemmas.Bool.{cases_eq}
use Rattle.std.proofs.lemmas.List.{length-drop, length-take-le}
use Rattle.nv_entry.specs.Status.{StatusField}
use Rattle.nv_mem.proofs.PlaceLists.{length-places_of}
use Rattle.nv_mem.specs.Places.{At, places_of, total_len}
use Rattle.nv_model.proofs.Endings.{and-true}
use Rattle.nv_model.proofs.UnitsElsewhere.{scattered-elsewhere}
use Rattle.nv_model.specs.Judge.{Go, Transfer, Work, is_read}
use Rattle.nv_model.specs.Laws.{IsAnother}
use Rattle.nv_model.specs.Limits.{block}
use Rattle.nv_model.specs.Memory.{image}
use Rattle.nv_model.specs.Private.{Moved, Private, numbers_of, places_of_block, verdict_in}
use Rattle.nv_model.specs.declared.reply.Reply.TheVariants as reply
use Rattle.nv_world_model.specs.declared.event.Event.TheVariants as event
use Rattle.nv_world_model.specs.Area.{bounce_page}
use Rattle.nv_world_model.specs.Device.{Held}
use Rattle.nv_world_model.specs.Disciplined.{clash, in_order}
use Rattle.nv_world_model.specs.Geometry.{Geometry, Guest, regions_of, shape_of}
use Rattle.nv_world_model.specs.Plan.{Bounced, Direct}
use Rattle.nv_world_model.specs.Share.{Share}
use Rattle.nv_world_model.specs.Seat.{work_of}
use Rattle.nv_world_model.specs.SetUp.{any_two}
use Rattle.nv_world_model.specs.Step.{device_moved, replied}
use Rattle.nv_world_model.specs.View.{is_tag_of, own_tag}
use Rattle.nv_world_model.specs.World.{Command, Ended, Flying, Free, InDevice, Tag, Taken, World, tag_of}
use Rattle.nv_laws_sound.specs.Consistent.{IsPlanned}
use Rattle.nv_laws_sound.specs.Groups.{command_of, part_of}
use Rattle.nv_laws_sound.proofs.Lists.{some-same}
use Rattle.nv_laws_sound.proofs.Numbers.{all-at}
use Rattle.nv_laws_sound.proofs.Planned.{shares-planned}
use Rattle.nv_laws.specs.Following.{GoesAlong}
use Rattle.nv_laws.specs.Related.{HasBuffer, NoReadDiffers, NoneHides, block_names, form_has_bytes, hides, is_left, is_place_at, left_where, plan_hides}
use Rattle.nv_laws.proofs.related.Apart.{none-clash, pair-never, tags-pair}
use Rattle.nv_laws.proofs.related.Beginning.{entry_awaits}
use Rattle.nv_laws.proofs.related.Disciplines.{any-more, commands_of, never-both, not-so}
use Rattle.nv_laws.proofs.related.Named.{any-drop, any-take, any_entry}
use Rattle.nv_laws.proofs.related.Rests.{led}
use Rattle.nv_laws.proofs.related.Undisturbed.{IsTagUntouched, IsUntouched, entry_names, undisturbed, verdict-by_lists}
use Rattle.nv_laws.proofs.related.Views.{block-place, own-there, status-left, status_in}
use Rattle.nv_laws.proofs.related.Within.{IsFit, planned-fit, there-fit}
use Rattle.nv_laws.specs.Places.{NameNoneTwice}
use Rattle.nv_laws.specs.Units.{SameBlocks, own_units}
use Rattle.nv_laws.proofs.units.Delivery.{transfer-count}
use Rattle.nv_laws.proofs.units.Has.{once-part}
use Rattle.nv_laws.proofs.units.InWorld.{AreParts, parts, world-blocks, world-bounced, world-direct_read, world-direct_same, world-own_elsewhere}
use Rattle.nv_laws.proofs.units.InWorld.{world-page_kept, world-page_moved, world-within}
use Rattle.nv_laws.proofs.units.Moving.{read-form}
use Rattle.nv_laws.proofs.units.SharePlaces.{share-once}
use Rattle.nv_laws.proofs.headline.MoveGroups.{apart-left, part-there, shares, whole-same}
use Rattle.nv_laws.proofs.headline.MoveNames.{lists-apart, named-once, not-among, place-awaits, reads-never}
use Rattle.nv_laws.proofs.headline.MovePages.{gone-left, gone-still, has-page, left-before, page-has, row-some}
use Rattle.nv_laws.proofs.headline.MovePlans.{tag-fit}
use Rattle.nv_laws.proofs.headline.MoveSiblings.{blocks-apart, tag-beside}
use Rattle.nv_laws.proofs.headline.Moves.{AreOthersKept, IsElsewhere, IsMove, IsTagBefore, IsTagBehind, bytes, h_behind, hidden-moved, is_there, it, known, mine, moved}
use Rattle.nv_laws.proofs.headline.Moves.{moved-goes, own, own_behind, page-away, same_before, share-shown, was, z}

-- whose command a tag is of
ended-of : (c : Command) (st : StatusField) (share : Option Share) → command_of (part_of (Ended c st share)) ≡ Some c
ended-of c st None = refl
ended-of c st (Some share) = refl

module _ (host_bytes : ℕ) (geometry : Geometry) (number : ℕ) (guest : Guest) (w : World) (p : Private) (lane tag unit : ℕ)
    (m : IsMove host_bytes geometry number guest w p lane tag unit) (ordered : in_order None number guest w ≡ true)
    (reads : is_read m.whole.opcode ≡ true) where
  abbrev this_was : Tag
  this_was = was host_bytes geometry number guest w p lane tag unit m

  there : tag_of w lane tag ≡ Some this_was
  there = is_there host_bytes geometry number guest w p lane tag unit m

  abbrev pages : ℕ
  pages = bounce_page geometry.mediator lane tag

  abbrev left_behind : Held
  left_behind = h_behind host_bytes geometry number guest w p lane tag unit m

  abbrev mine_behind : Moved
  mine_behind = own_behind host_bytes geometry number guest w p lane tag unit m

  abbrev host_behind : Moved
  host_behind = moved host_bytes geometry number guest w p lane tag unit m

  abbrev world : World
  world = z host_bytes geometry number guest w p lane tag unit m

  abbrev before : ℕ → ℕ
  before = image (regions_of guest) w.host

  abbrev after : ℕ → ℕ
  after = image (regions_of guest) host_behind.memory

  abbrev its : AreParts geometry w guest m.command.entry m.share m.whole m.work lane tag m.h
  its = parts host_bytes geometry w m.reached.laid m.reached.consistent number guest lane tag m.share m.whole m.work m.h
      (it host_bytes geometry number guest w p lane tag unit m)

  reads_own : is_read m.work.opcode ≡ true
  reads_own = ap is_read its.part.opcode ∙ reads

  fit : IsFit m.share
  fit = planned-fit guest m.command.entry m.share its.planned

  clear : any_two clash (flat_map (λ named. named) (commands_of number guest w p.controller)) ≡ false
  clear = none-clash number guest w p.controller m.related.controller ordered

  own-any : any_entry number this_was ≡ m.command.entry ∷ []
  own-any = ap (λ b. cond b (m.command.entry ∷ []) []) (mine host_bytes geometry number guest w p lane tag unit m)

  verdict : verdict_in (shape_of guest) before m.command.entry ≡ Go m.whole
  verdict = (let rel = known host_bytes geometry number guest w p lane tag unit m in rel.0.steady m.whole m.goes)

  within : block * unit + block ≤ total_len m.work.pieces
  within =
      world-within host_bytes geometry w m.reached.laid m.reached.consistent number guest lane tag m.share m.whole m.work m.h
      (it host_bytes geometry number guest w p lane tag unit m) unit m.left (own host_bytes geometry number guest w p lane tag unit m) true
      (read-form m.work.opcode reads_own)

  -- ---- its block

  abbrev IsOut : (addr : ℕ) → Type 0
  IsOut addr = list_any (is_place_at addr) (places_of_block m.work unit) ≡ false

  in-whole : (addr : ℕ) → list_any (is_place_at addr) (places_of_block m.work unit) ≡ true → list_any (is_place_at addr) (places_of m.whole.pieces) ≡ true
  in-whole addr e =
      let part = fit m.work m.part in
      let same : part.whole ≡ m.whole = some-same part.whole m.whole (sym part.is ∙ m.goes) in
      subst (λ (x : Work). list_any (is_place_at addr) (places_of x.pieces) ≡ true) same
      (part.within addr
      (any-drop (is_place_at addr) (block * unit) (places_of m.work.pieces)
      (any-take (is_place_at addr) block (drop (block * unit) (places_of m.work.pieces)) e)))

  once : NameNoneTwice (places_of m.whole.pieces)
  once =
      named-once geometry number guest w m.reached.consistent.groups p.controller clear lane tag this_was m.command.entry there own-any m.whole verdict reads

  once_own : NameNoneTwice (places_of m.work.pieces)
  once_own =
      share-once guest m.command.entry m.share its.planned m.work m.part
      (subst (λ (x : Work). NameNoneTwice (places_of x.pieces)) (sym its.whole_is) once)

  elsewhere-kept : (addr : ℕ) → All (IsAnother (At addr)) (places_of_block m.work unit) → mine_behind.memory addr ≡ p.memory addr
  elsewhere-kept addr apart =
      world-own_elsewhere host_bytes geometry w m.reached.laid m.reached.consistent number guest lane tag m.share m.whole m.work m.h
      (it host_bytes geometry number guest w p lane tag unit m) unit m.left (own host_bytes geometry number guest w p lane tag unit m) reads_own
      (same_before host_bytes geometry number guest w p lane tag unit m) addr apart

  own-elsewhere : (addr : ℕ) → IsOut addr → mine_behind.memory addr ≡ p.memory addr
  own-elsewhere addr out = elsewhere-kept addr (not-among addr (places_of_block m.work unit) out)

  same-behind : SameBlocks guest.namespace mine_behind host_behind
  same-behind =
      world-blocks host_bytes geometry w m.reached.laid m.reached.consistent number guest lane tag m.share m.whole m.work m.h
      (it host_bytes geometry number guest w p lane tag unit m) unit m.left (own host_bytes geometry number guest w p lane tag unit m)
      (same_before host_bytes geometry number guest w p lane tag unit m)
      (λ form. (let bad : Transfer true ≡ Transfer false = sym (read-form m.work.opcode reads_own) ∙ form in cc))

  differs-none : NoReadDiffers m.share.plan m.h.differed → NoReadDiffers m.share.plan left_behind.differed
  differs-none none x is read =
      sym same-behind.compared
      ∙ reads-never (own_units m.whole m.share unit) m.whole (own host_bytes geometry number guest w p lane tag unit m) reads ∙ none x is read

  -- ---- other commands

  -- they name no byte of it
  other-out : (a b : ℕ) (t : Tag) (c : Command) → ((a ≡ lane) → led m.command.leader (Some t) ≡ true → ⊥) → tag_of w a b ≡ Some t
      → command_of (part_of t) ≡ Some c → (c.leader ≡ m.command.leader → led m.command.leader (Some t) ≡ true) → any_entry number t ≡ c.entry ∷ []
      → (addr : ℕ) → entry_names guest w.host addr c.entry ≡ true → IsOut addr
  other-out a b t c apart is has leads one addr named =
      not-so (list_any (is_place_at addr) (places_of_block m.work unit))
      (λ e.
      pair-never number guest w p.controller addr clear
      (tags-pair geometry number w m.reached.consistent (entry_awaits guest w.host addr) (entry_names guest w.host addr) lane tag a b this_was t m.command c
      there is refl has (λ same also. apart (sym same) (leads (sym also)))
      (ap (list_any (entry_awaits guest w.host addr)) own-any
      ∙ ap (λ b. b || false)
      (place-awaits geometry number guest w m.reached.consistent.groups p.controller clear lane tag this_was m.command.entry there own-any m.whole verdict reads
      addr (in-whole addr e)))
      (ap (list_any (entry_names guest w.host addr)) one ∙ ap (λ b. b || false) named)))

  module _ (kept : (addr : ℕ) → IsOut addr → before addr ≡ after addr) where
    by-command : (a b : ℕ) (t : Tag) (c : Command) → ((a ≡ lane) → led m.command.leader (Some t) ≡ true → ⊥) → tag_of w a b ≡ Some t
        → command_of (part_of t) ≡ Some c → (c.leader ≡ m.command.leader → led m.command.leader (Some t) ≡ true) → any_entry number t ≡ c.entry ∷ []
        → IsUntouched guest c.entry w.host host_behind.memory p.memory mine_behind.memory
    by-command a b t c apart is has leads one addr named =
        let out = other-out a b t c apart is has leads one addr named in
        (kept addr out, sym (own-elsewhere addr out))

    untouched : (a b : ℕ) (t : Tag) → ((a ≡ lane) → led m.command.leader (Some t) ≡ true → ⊥) → tag_of w a b ≡ Some t → is_tag_of number (Some t) ≡ true
        → IsTagUntouched t guest w.host host_behind.memory p.memory mine_behind.memory
    untouched a b Free apart is its_own = tt
    untouched a b (Taken c done) apart is its_own =
        by-command a b (Taken c done) c apart is refl (λ same. eq-eqb c.leader m.command.leader same) (ap (λ x. cond x (c.entry ∷ []) []) its_own)
    untouched a b (Flying c x standing) apart is its_own =
        by-command a b (Flying c x standing) c apart is refl (λ same. eq-eqb c.leader m.command.leader same) (ap (λ y. cond y (c.entry ∷ []) []) its_own)
    untouched a b (Ended c st x) apart is its_own =
        by-command a b (Ended c st x) c apart is (ended-of c st x) (λ same. eq-eqb c.leader m.command.leader same) (ap (λ y. cond y (c.entry ∷ []) []) its_own)

    other-kept : (a b : ℕ) (t : Tag) (held : Option Held) → IsElsewhere lane tag a b → ((a ≡ lane) → led m.command.leader (Some t) ≡ true → ⊥)
        → own_tag number (tag_of w a b) ≡ Some t → IsTagBefore host_bytes geometry number guest w p lane tag unit m a b (Some t) held
        → IsTagBehind host_bytes geometry number guest w p lane tag unit m a b (Some t) held
    other-kept a b t held apart away mine_too was_so =
        let here = own-there number (tag_of w a b) t mine_too in
        undisturbed guest (bounce_page geometry.mediator a b) w.host world.host p.memory mine_behind.memory
        (page-away host_bytes geometry number guest w p lane tag unit m a b t apart here.0) (status_in geometry w a) (status_in geometry world a) t held
        (λ at stands.
        status-left geometry w world a b at t (λ addr of_it. bytes host_bytes geometry number guest w p lane tag unit m a b t addr apart here.0 of_it) stands)
        (there-fit geometry w a b t m.reached.consistent.of_tags here.0) (untouched a b t away here.0 here.1) was_so

    -- ---- other shares of the same command

    module _ (steady : verdict_in (shape_of guest) after m.command.entry ≡ verdict_in (shape_of guest) before m.command.entry) where
      beside-kept : (b : ℕ) (t : Tag) (held : Option Held) → (b ≡ tag → ⊥) → led m.command.leader (Some t) ≡ true → own_tag number (tag_of w lane b) ≡ Some t
          → IsTagBefore host_bytes geometry number guest w p lane tag unit m lane b (Some t) held
          → IsTagBehind host_bytes geometry number guest w p lane tag unit m lane b (Some t) held
      beside-kept b t held apart goes mine_too was_so =
          let here = (own-there number (tag_of w lane b) t mine_too).0 in
          let x = part-there geometry number guest m.given w m.reached.consistent lane tag m.command m.share InDevice there m.whose b
          (ap (led m.command.leader) here ∙ goes) in
          let t_is : t ≡ x.t = some-same t x.t (sym here ∙ x.there) in
          let part_is = ap part_of t_is ∙ x.part_is in
          let planned_too : IsPlanned guest m.command.entry x.share =
          all-at (IsPlanned guest m.command.entry)
          (shares geometry number guest m.given w m.reached.consistent lane tag m.command m.share InDevice there m.whose) x.place x.share
          (shares-planned guest m.command.entry m.share.whole (record { work = its.planned.work; verdict = its.planned.verdict; plan_is = its.planned.whole_is })) x.is in
          let whole = whole-same geometry number guest m.given w m.reached.consistent lane tag m.command m.share InDevice there m.whose b x in
          let inside = within in
          tag-beside guest (bounce_page geometry.mediator lane b) w.host world.host p.memory mine_behind.memory
          (page-away host_bytes geometry number guest w p lane tag unit m lane b t (λ _ also. apart also) here) (status_in geometry w lane) (status_in geometry world lane)
          t held m.command x.share part_is
          (λ at stands.
          status-left geometry w world lane b at t
          (λ addr of_it. bytes host_bytes geometry number guest w p lane tag unit m lane b t addr (λ _ also. apart also) here of_it) stands)
          (tag-fit t m.command x.share part_is (there-fit geometry w lane b t m.reached.consistent.of_tags here)) steady
          (λ own_too index i addr same at.
          sym
          (elsewhere-kept addr
          (blocks-apart guest m.command.entry m.share x.share its.planned planned_too m.whole m.work own_too m.goes (ap work_of whole ∙ m.goes) m.part
          (ap work_of same) (read-form m.whole.opcode reads) once
          (λ k own_has its_has.
          apart-left geometry number guest m.given w m.reached.consistent lane tag m.command m.share InDevice there m.whose its.planned k b own_has apart x its_has)
          unit index i addr (omega (arith, inside)) at))) was_so

      others-kept : AreOthersKept host_bytes geometry number guest w p lane tag unit m
      others-kept a b t held apart mine_too was_so =
          elim (cases_eq a lane) [
            | inr away ↦ other-kept a b t held apart (λ same goes. away same) mine_too was_so
            | inl same ↦ (elim (led m.command.leader (Some t)) as (λ c. led m.command.leader (Some t) ≡ c
                → IsTagBehind host_bytes geometry number guest w p lane tag unit m a b (Some t) held) [
                  | true ↦ λ goes.
                      subst (λ n. own_tag number (tag_of w n b) ≡ Some t → IsTagBefore host_bytes geometry number guest w p lane tag unit m n b (Some t) held
                      → IsTagBehind host_bytes geometry number guest w p lane tag unit m n b (Some t) held) (sym same)
                      (λ here so. beside-kept b t held (apart same) goes here so) mine_too was_so
                  | false ↦ λ goes.
                      other-kept a b t held apart (λ _ led_so. (let bad : true ≡ false = sym led_so ∙ goes in cc)) mine_too was_so
                ]) refl
          ]

  -- ---- in the guest's memory

  direct-kept : m.share.plan ≡ Direct m.work → (addr : ℕ) → IsOut addr → before addr ≡ after addr
  direct-kept direct addr out =
      let gives = world-direct_read host_bytes geometry w m.reached.laid m.reached.consistent number guest lane tag m.share m.whole m.work m.h
      (it host_bytes geometry number guest w p lane tag unit m) unit m.left (own host_bytes geometry number guest w p lane tag unit m) direct reads_own
      (same_before host_bytes geometry number guest w p lane tag unit m) in
      sym
      (ap (λ x. x addr) gives.in_host
      ∙ scattered-elsewhere before (places_of_block m.work unit) gives.bytes addr (not-among addr (places_of_block m.work unit) out))

  direct-steady : m.share.plan ≡ Direct m.work → verdict_in (shape_of guest) after m.command.entry ≡ verdict_in (shape_of guest) before m.command.entry
  direct-steady direct =
      verdict-by_lists guest m.command.entry w.host host_behind.memory
      (λ addr named.
      direct-kept direct addr
      (not-so (list_any (is_place_at addr) (places_of_block m.work unit))
      (λ e.
      never-both (list_any (is_place_at addr) (places_of m.whole.pieces)) (in-whole addr e)
      (lists-apart geometry number guest w m.reached.consistent.groups p.controller clear lane tag this_was m.command.entry there own-any m.whole verdict reads
      addr named))))

  pub direct-goes : m.share.plan ≡ Direct m.work
      → GoesAlong geometry number guest (event.DevMove lane tag unit) w p (replied reply.Done (device_moved geometry.disk_blocks lane tag unit m.h w))
  direct-goes direct =
      let rel = known host_bytes geometry number guest w p lane tag unit m in
      moved-goes host_bytes geometry number guest w p lane tag unit m same-behind
      (λ addr inside none.
      world-direct_same host_bytes geometry w m.reached.laid m.reached.consistent number guest lane tag m.share m.whole m.work m.h
      (it host_bytes geometry number guest w p lane tag unit m) unit m.left (own host_bytes geometry number guest w p lane tag unit m) direct reads_own
      (same_before host_bytes geometry number guest w p lane tag unit m) addr
      (m.related.memory addr inside
      (hidden-moved host_bytes geometry number guest w p lane tag unit m addr (λ e. ap (λ x. plan_hides x (left_where InDevice (Some m.h)) addr) direct) none)))
      (others-kept (direct-kept direct) (direct-steady direct)) (
        record {
          steady = (λ x is. direct-steady direct ∙ rel.0.steady x is);
          buffer = subst (λ x. HasBuffer x (left_where InDevice (Some left_behind)) pages host_behind.memory mine_behind.memory) (sym direct) tt;
        },
        differs-none rel.1,
      )

  -- ---- by way of the bounce pages

  abbrev hides_block : Held → (addr k : ℕ) → Bool
  hides_block held addr k = not (is_left (Some held) k) && block_names m.work k addr

  bounced-hides : m.share.plan ≡ Bounced m.work → (held : Held) (addr : ℕ)
      → hides (Some this_was) (Some held) addr ≡ list_any (hides_block held addr) (numbers_of m.work)
  bounced-hides bounced held addr =
      ap (λ x. plan_hides x (left_where InDevice (Some held)) addr) bounced ∙ ap (λ b. b && list_any (hides_block held addr) (numbers_of m.work)) reads_own

  bounced-out : m.share.plan ≡ Bounced m.work → (addr : ℕ) → NoneHides number world addr → IsOut addr
  bounced-out bounced addr none =
      not-so (list_any (is_place_at addr) (places_of_block m.work unit))
      (λ e.
      never-both (hides (Some this_was) (Some left_behind) addr)
      (bounced-hides bounced left_behind addr
      ∙ row-some (hides_block left_behind addr) unit 0 (length m.work.units) (omega arith) unit_below
      (ap (λ b. not b && block_names m.work unit addr) (gone-left unit m.h.left) ∙ e))
      (share-shown host_bytes geometry number guest w p lane tag unit m addr none))
    where
      unit_below : unit < 0 + length m.work.units
      unit_below =
          let inside = within in
          let total = transfer-count guest m.command.entry m.share m.work its.is true (read-form m.work.opcode reads_own) in
          omega (arith, inside, total)

  bounced-shown : m.share.plan ≡ Bounced m.work → (addr : ℕ) → hides (Some this_was) (Some left_behind) addr ≡ false → hides (Some this_was) (Some m.h) addr ≡ false
  bounced-shown bounced addr none =
      not-so (hides (Some this_was) (Some m.h) addr)
      (λ e.
      never-both (hides (Some this_was) (Some left_behind) addr)
      (bounced-hides bounced left_behind addr
      ∙ any-more (hides_block m.h addr) (hides_block left_behind addr) (numbers_of m.work)
      (λ k one.
      (let both = and-true (not (is_left (Some m.h) k)) (block_names m.work k addr) one in
      ap (λ b. b && block_names m.work k addr) (gone-still unit k m.h.left both.0) ∙ both.1)) (sym (bounced-hides bounced m.h addr) ∙ e)) none)

  bounced-page : m.share.plan ≡ Bounced m.work → HasBuffer (Bounced m.work) (left_where InDevice (Some m.h)) pages w.host p.memory
      → HasBuffer (Bounced m.work) (left_where InDevice (Some left_behind)) pages host_behind.memory mine_behind.memory
  bounced-page bounced was_there index has i addr place =
      elim (cases_eq index unit) [
        | inl same ↦
            subst (λ n. (j at : ℕ) → slice_get (places_of_block m.work n) j ≡ Some (At at) → host_behind.memory (pages + block * n + j) ≡ mine_behind.memory at) (sym same)
            (has-page host_behind.memory mine_behind.memory (pages + block * unit) block (places_of_block m.work unit)
            (world-page_moved host_bytes geometry w m.reached.laid m.reached.consistent number guest lane tag m.share m.whole m.work m.h
            (it host_bytes geometry number guest w p lane tag unit m) unit m.left (own host_bytes geometry number guest w p lane tag unit m) bounced reads_own
            (same_before host_bytes geometry number guest w p lane tag unit m) (once-part block (places_of m.work.pieces) (block * unit) once_own))) i addr place
        | inr apart ↦
            has-page host_behind.memory mine_behind.memory (pages + block * index) block (places_of_block m.work index)
            (world-page_kept host_bytes geometry w m.reached.laid m.reached.consistent number guest lane tag m.share m.whole m.work m.h
            (it host_bytes geometry number guest w p lane tag unit m) unit m.left (own host_bytes geometry number guest w p lane tag unit m) index bounced reads_own
            (same_before host_bytes geometry number guest w p lane tag unit m) once_own apart
            (page-has w.host p.memory (pages + block * index) block (places_of_block m.work index) sized
            (was_there index (ap (λ f. form_has_bytes f (is_left (Some m.h) index)) (read-form m.work.opcode reads_own)
            ∙ left-before unit index m.h.left apart
            (sym (ap (λ f. form_has_bytes f (is_left (Some left_behind) index)) (read-form m.work.opcode reads_own)) ∙ has))))) i addr place
      ]
    where
      sized : length (places_of_block m.work index) ≡ block
      sized =
          let total = transfer-count guest m.command.entry m.share m.work its.is true (read-form m.work.opcode reads_own) in
          let inside = block-place m.work index i (At addr) place in
          let all = length-places_of m.work.pieces in
          let dropped = length-drop (block * index) (places_of m.work.pieces) in
          length-take-le block (drop (block * index) (places_of m.work.pieces)) (omega (arith, total, inside, all, dropped))

  pub bounced-goes : m.share.plan ≡ Bounced m.work
      → GoesAlong geometry number guest (event.DevMove lane tag unit) w p (replied reply.Done (device_moved geometry.disk_blocks lane tag unit m.h w))
  bounced-goes bounced =
      let kept = world-bounced host_bytes geometry w m.reached.laid m.reached.consistent number guest lane tag m.share m.whole m.work m.h
      (it host_bytes geometry number guest w p lane tag unit m) unit bounced in
      let rel = known host_bytes geometry number guest w p lane tag unit m in
      moved-goes host_bytes geometry number guest w p lane tag unit m same-behind
      (λ addr inside none.
      own-elsewhere addr (bounced-out bounced addr none)
      ∙ m.related.memory addr inside (hidden-moved host_bytes geometry number guest w p lane tag unit m addr (bounced-shown bounced addr) none)
      ∙ sym (ap (λ x. x addr) kept))
      (others-kept (λ addr out. sym (ap (λ x. x addr) kept)) (ap (λ x. verdict_in (shape_of guest) x m.command.entry) kept)) (
        record {
          steady = (λ x is. ap (λ y. verdict_in (shape_of guest) y m.command.entry) kept ∙ rel.0.steady x is);
          buffer = subst (λ x. HasBuffer x (left_where InDevice (Some left_behind)) pages host_behind.memory mine_behind.memory) (sym bounced)
              (bounced-page bounced (subst (λ x. HasBuffer x (left_where InDevice (Some m.h)) pages w.host p.memory) bounced rel.0.buffer));
        },
        differs-none rel.1,
      )
