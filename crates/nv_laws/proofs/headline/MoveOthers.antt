-- The private controller of a guest goes along with a unit of the guest's own command that is no Read: its source is the same in both.
use Rattle.std.proofs.Common.{◌≡◌, ℕ, ◌+◌, ◌*◌, ◌≤◌, inl, inr, true, false, cond, [], ◌∷◌, All, drop, length}
use Rattle.std.proofs.Common.{Some, None, arith, sym, refl, ap, ◌∙◌, subst}
use Rattle.std.proofs.lemmas.List.{length-drop, length-take-le}
use Rattle.nv_mem.proofs.PlaceLists.{length-places_of}
use Rattle.nv_mem.specs.GuestMap.{mapped}
use Rattle.nv_mem.specs.Places.{places_of, total_len}
use Rattle.nv_model.specs.Judge.{Transfer, Work, form_of, is_read}
use Rattle.nv_model.specs.Limits.{block}
use Rattle.nv_model.specs.Memory.{gathered, image}
use Rattle.nv_model.specs.Private.{Private, places_of_block}
use Rattle.nv_model.specs.declared.reply.Reply.TheVariants as reply
use Rattle.nv_world_model.specs.declared.event.Event.TheVariants as event
use Rattle.nv_world_model.specs.Area.{bounce_page}
use Rattle.nv_world_model.specs.Disciplined.{in_order}
use Rattle.nv_world_model.specs.Geometry.{Geometry, Guest, regions_of, shape_of}
use Rattle.nv_world_model.specs.Plan.{Bounced, Direct}
use Rattle.nv_world_model.specs.Seat.{work_of}
use Rattle.nv_world_model.specs.Step.{device_moved, replied}
use Rattle.nv_world_model.specs.View.{own_held, own_tag}
use Rattle.nv_world_model.specs.World.{InDevice, Tag, World, tag_of}
use Rattle.nv_laws_sound.proofs.Lists.{some-same}
use Rattle.nv_model.proofs.SourceRuns.{source-runs}
use Rattle.nv_laws.specs.Following.{GoesAlong}
use Rattle.nv_laws.specs.Related.{HasBuffer, IsUnderWay, form_has_bytes, hides, is_left, left_where}
use Rattle.nv_laws.proofs.related.Agreed.{place-same}
use Rattle.nv_laws.proofs.related.Disciplines.{tags-untouched}
use Rattle.nv_laws.proofs.related.Named.{any_entry, block-among}
use Rattle.nv_laws.proofs.related.Rests.{led}
use Rattle.nv_laws.proofs.related.Tags.{hides-nothing}
use Rattle.nv_laws.proofs.related.Undisturbed.{undisturbed}
use Rattle.nv_laws.proofs.related.Views.{device_of, own-there, status-left, status_in}
use Rattle.nv_laws.proofs.related.Within.{IsFit, planned-fit, there-fit}
use Rattle.nv_laws.specs.Units.{addresses_of_block}
use Rattle.nv_laws.proofs.units.Imaged.{bounced-source}
use Rattle.nv_laws.proofs.units.InWorld.{parts, world-blocks, world-direct_source, world-others, world-within}
use Rattle.nv_laws.proofs.units.SharePlaces.{share-all}
use Rattle.nv_laws.proofs.headline.MoveGroups.{part-there, whole-same}
use Rattle.nv_laws.proofs.headline.MovePages.{still-left}
use Rattle.nv_laws.proofs.headline.MovePlans.{fewer-form, moves-bytes, no_read-hides, no_read-tag, plan-kind, tag-fit}
use Rattle.nv_laws.proofs.headline.MoveSources.{IsAddress, gathered-same, runs-all, source-page}
use Rattle.nv_laws.proofs.headline.Moves.{AreOthersKept, IsMove, IsTagBehind, bytes, h_behind, hidden-moved, is_there, it, known, mine, moved}
use Rattle.nv_laws.proofs.headline.Moves.{moved-goes, own, own_behind, page-away, planned, same_before, was, whole_is, z}
use Rattle.nv_laws.proofs.headline.Whole.{buffer-fewer}

module _ (host_bytes : ℕ) (geometry : Geometry) (number : ℕ) (guest : Guest) (w : World) (p : Private) (lane tag unit : ℕ)
    (m : IsMove host_bytes geometry number guest w p lane tag unit) (ordered : in_order None number guest w ≡ true)
    (other : is_read m.whole.opcode ≡ false) where
  abbrev this_was : Tag
  this_was = was host_bytes geometry number guest w p lane tag unit m

  there : tag_of w lane tag ≡ Some this_was
  there = is_there host_bytes geometry number guest w p lane tag unit m

  abbrev pages : ℕ
  pages = bounce_page geometry.mediator lane tag

  fit : IsFit m.share
  fit = planned-fit guest m.command.entry m.share (planned host_bytes geometry number guest w p lane tag unit m)

  other_own : is_read m.work.opcode ≡ false
  other_own =
      let its = parts host_bytes geometry w m.reached.laid m.reached.consistent number guest lane tag m.share m.whole m.work m.h
      (it host_bytes geometry number guest w p lane tag unit m) in
      ap is_read its.part.opcode ∙ other

  -- no tag of the command hides a byte
  bare : (b at : ℕ) → led m.command.leader (tag_of w lane b) ≡ true
      → hides (own_tag number (tag_of w lane b)) (own_held number (tag_of w lane b) (device_of w lane b)) at ≡ false
  bare b at goes =
      let x = part-there geometry number guest m.given w m.reached.consistent lane tag m.command m.share InDevice there m.whose b goes in
      let whole = whole-same geometry number guest m.given w m.reached.consistent lane tag m.command m.share InDevice there m.whose b x in
      hides-nothing number (tag_of w lane b) x.t (own_held number (tag_of w lane b) (device_of w lane b)) at x.there
      (no_read-tag x.t (own_held number (tag_of w lane b) (device_of w lane b)) m.command x.share
      (tag-fit x.t m.command x.share x.part_is (there-fit geometry w lane b x.t m.reached.consistent.of_tags x.there)) m.whole at x.part_is
      (ap work_of whole ∙ m.goes) other)

  -- ---- its source

  own-any : any_entry number this_was ≡ m.command.entry ∷ []
  own-any = ap (λ b. cond b (m.command.entry ∷ []) []) (mine host_bytes geometry number guest w p lane tag unit m)

  direct-source : m.share.plan ≡ Direct m.work
      → gathered p.memory (places_of_block m.work unit) ≡ gathered w.host (addresses_of_block m.share.plan guest pages unit)
  direct-source direct =
      let part = fit m.work m.part in
      let before = known host_bytes geometry number guest w p lane tag unit m in
      gathered-same p.memory (image (regions_of guest) w.host) (places_of_block m.work unit)
      (λ i addr place.
      sym
      (place-same host_bytes geometry number guest w m.reached p m.related ordered lane tag this_was m.command m.command.entry there refl own-any bare
      part.whole addr (before.0.steady part.whole part.is) (part.within addr (block-among m.work unit i addr place))))
      ∙ world-direct_source host_bytes geometry w m.reached.laid m.reached.consistent number guest lane tag m.share m.whole m.work m.h
      (it host_bytes geometry number guest w p lane tag unit m) unit direct

  page-source : m.share.plan ≡ Bounced m.work → form_of m.work.opcode ≡ Transfer false
      → gathered p.memory (places_of_block m.work unit) ≡ gathered w.host (addresses_of_block m.share.plan guest pages unit)
  page-source bounced form =
      let within : block * unit + block ≤ total_len m.work.pieces =
      world-within host_bytes geometry w m.reached.laid m.reached.consistent number guest lane tag m.share m.whole m.work m.h
      (it host_bytes geometry number guest w p lane tag unit m) unit m.left (own host_bytes geometry number guest w p lane tag unit m) false form in
      let all = length-places_of m.work.pieces in
      let dropped = length-drop (block * unit) (places_of m.work.pieces) in
      let sized : length (places_of_block m.work unit) ≡ block =
      length-take-le block (drop (block * unit) (places_of m.work.pieces)) (omega (arith, within, all, dropped)) in
      let plan = planned host_bytes geometry number guest w p lane tag unit m in
      let runs : All IsAddress (places_of m.work.pieces) =
      share-all guest m.command.entry m.share plan m.work m.part IsAddress
      (runs-all plan.work.pieces
      (source-runs (mapped (regions_of guest)) guest.limit (shape_of guest).blocks m.command.entry plan.work plan.verdict
      (ap (λ (x : Work). is_read x.opcode) (whole_is host_bytes geometry number guest w p lane tag unit m) ∙ other))) in
      let before = known host_bytes geometry number guest w p lane tag unit m in
      let buffer : HasBuffer (Bounced m.work) (left_where InDevice (Some m.h)) pages w.host p.memory =
      subst (λ x. HasBuffer x (left_where InDevice (Some m.h)) pages w.host p.memory) bounced before.0.buffer in
      source-page m.work unit pages w.host p.memory runs sized (buffer unit (ap (λ f. form_has_bytes f (is_left (Some m.h) unit)) form ∙ m.left))
      ∙ sym (bounced-source guest m.work m.share.plan w.host pages unit bounced within)

  source : form_of m.work.opcode ≡ Transfer false
      → gathered p.memory (places_of_block m.work unit) ≡ gathered w.host (addresses_of_block m.share.plan guest pages unit)
  source form =
      let its = parts host_bytes geometry w m.reached.laid m.reached.consistent number guest lane tag m.share m.whole m.work m.h
      (it host_bytes geometry number guest w p lane tag unit m) in
      elim (plan-kind m.share.plan m.work m.part) [
        | inl none ↦
            absurd (moves-bytes guest m.command.entry m.share its.planned m.work false
            (ap (λ (x : Work). form_of x.opcode) its.whole_is ∙ sym (ap form_of its.part.opcode) ∙ form) none)
        | inr some ↦ elim some [ inl direct ↦ direct-source direct | inr bounced ↦ page-source bounced form ]
      ]

  -- ---- memory stays

  both : ((own_behind host_bytes geometry number guest w p lane tag unit m).memory ≡ p.memory)
      × ((moved host_bytes geometry number guest w p lane tag unit m).memory ≡ w.host)
  both =
      world-others host_bytes geometry w m.reached.laid m.reached.consistent number guest lane tag m.share m.whole m.work m.h
      (it host_bytes geometry number guest w p lane tag unit m) unit m.left (own host_bytes geometry number guest w p lane tag unit m) other_own

  others-kept : AreOthersKept host_bytes geometry number guest w p lane tag unit m
  others-kept a b t held apart mine_too was_so =
      let world = z host_bytes geometry number guest w p lane tag unit m in
      let behind = own_behind host_bytes geometry number guest w p lane tag unit m in
      let here = (own-there number (tag_of w a b) t mine_too).0 in
      undisturbed guest (bounce_page geometry.mediator a b) w.host world.host p.memory behind.memory
      (page-away host_bytes geometry number guest w p lane tag unit m a b t apart here) (status_in geometry w a) (status_in geometry world a) t held
      (λ at stands.
      status-left geometry w world a b at t (λ addr of_it. bytes host_bytes geometry number guest w p lane tag unit m a b t addr apart here of_it) stands)
      (there-fit geometry w a b t m.reached.consistent.of_tags here)
      (tags-untouched geometry number guest w m.reached.consistent.groups world.host p.memory behind.memory
      (λ entry taken x named. (sym (ap (λ y. image (regions_of guest) y x) both.1), sym (ap (λ y. y x) both.0))) a b t mine_too) was_so

  one : IsTagBehind host_bytes geometry number guest w p lane tag unit m lane tag (Some this_was)
      (Some (h_behind host_bytes geometry number guest w p lane tag unit m))
  one =
      let held = h_behind host_bytes geometry number guest w p lane tag unit m in
      let behind = own_behind host_bytes geometry number guest w p lane tag unit m in
      let before = known host_bytes geometry number guest w p lane tag unit m in (
        subst (λ y. IsUnderWay guest m.command.entry m.share (left_where InDevice (Some held)) pages y behind.memory) (sym both.1)
            (subst (λ y. IsUnderWay guest m.command.entry m.share (left_where InDevice (Some held)) pages w.host y) (sym both.0)
            (record {
              steady = before.0.steady;
              buffer = buffer-fewer m.share.plan (left_where InDevice (Some m.h)) (left_where InDevice (Some held)) pages w.host p.memory
                  (λ x index i addr is place has.
                  fewer-form (form_of x.opcode) (is_left (Some held) index) (is_left (Some m.h) index)
                  (ap (λ (y : Work). is_read y.opcode) (sym (some-same m.work x (sym m.part ∙ is))) ∙ other_own) (still-left unit index m.h.left) has) before.0.buffer;
            })),
        (λ x is reads.
            (let bad : true ≡ false = sym reads ∙ ap (λ (y : Work). is_read y.opcode) (sym (some-same m.work x (sym m.part ∙ is))) ∙ other_own in
            cc)),
      )

  pub no_read-goes : GoesAlong geometry number guest (event.DevMove lane tag unit) w p (replied reply.Done (device_moved geometry.disk_blocks lane tag unit m.h w))
  no_read-goes =
      moved-goes host_bytes geometry number guest w p lane tag unit m
      (world-blocks host_bytes geometry w m.reached.laid m.reached.consistent number guest lane tag m.share m.whole m.work m.h
      (it host_bytes geometry number guest w p lane tag unit m) unit m.left (own host_bytes geometry number guest w p lane tag unit m)
      (same_before host_bytes geometry number guest w p lane tag unit m) source)
      (λ addr inside none.
      ap (λ y. y addr) both.0
      ∙ m.related.memory addr inside
      (hidden-moved host_bytes geometry number guest w p lane tag unit m addr
      (λ e. no_read-hides m.share fit m.whole (left_where InDevice (Some m.h)) addr m.goes other) none)
      ∙ sym (ap (λ y. image (regions_of guest) y addr) both.1))
      others-kept one
