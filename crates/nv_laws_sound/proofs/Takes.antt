-- A command is taken: it gets as many tags as it may become physical commands, the lowest that are free.
use Rattle.std.proofs.Common.{◌≡◌, ℕ, zero, suc, ◌%◌, ◌≤◌, Bool, true, false, cond, List, [], length, nat_le, replicate, slice_get}
use Rattle.std.proofs.Common.{take, Option, Some, None, arith, refl, sym, ap, ◌∙◌, leb-true, subst}
use Rattle.std.specs.List.{All}
use Rattle.std.proofs.lemmas.List.{length-take-le}
use Rattle.std.proofs.lemmas.List.Elements.{All-weaker}
use Rattle.nv_mem.specs.GuestMap.{mapped}
use Rattle.nv_model.specs.Controller.{front, took}
use Rattle.nv_model.specs.Laws.{IsCompletionInPlace, IsSubmissionInPlace}
use Rattle.nv_model.specs.Limits.{page}
use Rattle.nv_model.specs.Memory.{image}
use Rattle.nv_model.proofs.QueueOrder.{IsKept-in_place}
use Rattle.nv_model.proofs.QueuesKept.{took-kept}
use Rattle.nv_model.proofs.Shown.{length-bytes_from}
use Rattle.nv_model.specs.Queue.{sqe_size}
use Rattle.nv_world_model.specs.declared.event.Event.TheVariants as event
use Rattle.nv_world_model.specs.Geometry.{Geometry, regions_of}
use Rattle.nv_world_model.specs.Share.{tags_of_entry}
use Rattle.nv_world_model.proofs.TagCounts.{tags_of_entry-some}
use Rattle.nv_world_model.specs.Seat.{Owner, owner_of}
use Rattle.nv_world_model.specs.Step.{entry_at, is_io_queue, step, take_from, take_front, take_tags, taken_to}
use Rattle.nv_world_model.specs.World.{Command, Ended, Flying, Free, Lane, Tag, Taken, World, claimed, first_of, is_free, lowest, tag_in, tag_of}
use Rattle.nv_world_model.specs.World.{with_controller}
use Rattle.nv_world_model.proofs.Seats.{IsOwner, owner_of-is}
use Rattle.nv_laws_sound.specs.Consistent.{IsConsistentOfTags}
use Rattle.nv_laws_sound.specs.Groups.{AreGrouped, Part, Reading, part_of, parts_of}
use Rattle.nv_laws_sound.specs.LaidOut.{IsLaidOut}
use Rattle.nv_laws_sound.proofs.Changes.{controller-consistent}
use Rattle.nv_laws_sound.proofs.Claims.{filled, puts-filled}
use Rattle.nv_laws_sound.proofs.Folds.{HasTag, numbers-same, parts-put_all, put_all, put_all-puts, with_tags-fold, with_tags-is}
use Rattle.nv_laws_sound.proofs.Groupings.{grouped-claimed, is_nothing}
use Rattle.nv_laws_sound.proofs.GroupsKept.{HasGroups, groups-set}
use Rattle.nv_laws_sound.proofs.Numbers.{Passes, numbers-are, numbers-distinct, numbers-length, numbers-map, numbers-pass, numbers_where, puts}
use Rattle.nv_laws_sound.proofs.Numbers.{take-all, take-distinct}
use Rattle.nv_laws_sound.proofs.Retags.{is-at, retagged, tag-is}
use Rattle.nv_laws_sound.proofs.Walks.{either, guest-walk, lane-walk}

-- ---- what is claimed

-- it is that, where enough are free
pub record IsClaimed (count : ℕ) (tags : List Tag) (ns : List ℕ) : Type 0 where
  pub many : count ≤ length (numbers_where is_free tags)
  pub is : ns ≡ take count (numbers_where is_free tags)

claimed-by : (count : ℕ) (free ns : List ℕ) (b : Bool) → nat_le count (length free) ≡ b → cond b (Some (take count free)) None ≡ Some ns
    → (count ≤ length free) × (ns ≡ take count free)
claimed-by count free ns true few e = (leb-true count (length free) few, cc)
claimed-by count free ns false few e = cc

pub claimed-is : (count : ℕ) (tags : List Tag) (ns : List ℕ) → claimed count tags ≡ Some ns → IsClaimed count tags ns
unfolding claimed
claimed-is count tags ns e =
    let free = numbers_where is_free tags in
    let spelled : first_of count free ≡ Some ns = sym (ap (first_of count) (numbers-are is_free tags)) ∙ e in
    let by = claimed-by count free ns (nat_le count (length free)) refl spelled in
    record { many = by.0; is = by.1 }

free-is : (t : Tag) → is_free t ≡ true → t ≡ Free
free-is Free is = refl
free-is (Taken command reads) is = cc
free-is (Flying command share standing) is = cc
free-is (Ended command st share) is = cc

free-part : (t : Tag) → is_free t ≡ is_nothing (part_of t)
free-part Free = refl
free-part (Taken command reads) = refl
free-part (Flying command share standing) = refl
free-part (Ended command st None) = refl
free-part (Ended command st (Some share)) = refl

pub free-numbers : (tags : List Tag) → numbers_where is_free tags ≡ numbers_where is_nothing (parts_of tags)
free-numbers tags =
    numbers-same is_free (λ t. is_nothing (part_of t)) tags free-part ∙ numbers-map is_nothing part_of tags

-- a free tag
abbrev pub IsFree : Tag → Type 0
IsFree t = t ≡ Free

pub claimed-free : (z : World) (lane : ℕ) (l : Lane) (count : ℕ) → slice_get z.lanes lane ≡ Some l
    → All (HasTag IsFree z lane) (take count (numbers_where is_free l.tags))
claimed-free z lane l count at =
    take-all (HasTag IsFree z lane) count (numbers_where is_free l.tags)
    (All-weaker (Passes is_free l.tags) (HasTag IsFree z lane)
    (λ n p. record { t = p.x; is = ap (λ o. tag_in o n) at ∙ p.is; has = free-is p.x p.passes })
    (numbers_where is_free l.tags) (numbers-pass is_free l.tags))

module _ (host_bytes : ℕ) (geometry : Geometry) where
  -- the tags of the command
  abbrev pub command_taken : (addr queue : ℕ) → (tags : List ℕ) → Owner → World → Command
  command_taken addr queue tags o w = record { guest = o.number; queue = queue; entry = entry_at addr o w; leader = lowest tags }

  taken_to-consistent : (w : World) (o : Owner) (addr queue lane count : ℕ) (l : Lane) → geometry.mediator % page ≡ 0
      → IsConsistentOfTags geometry w → IsOwner geometry w o → slice_get w.lanes lane ≡ Some l
      → IsConsistentOfTags geometry (taken_to addr queue lane (take count (numbers_where is_free l.tags)) o w)
  unfolding taken_to
  taken_to-consistent w o addr queue lane count l aligned is owns at =
      let place = is.queues o.number o.given o.controller owns.given owns.controller in
      let taken_place = took-kept (mapped (regions_of o.given)) (IsSubmissionInPlace (mapped (regions_of o.given))) (IsCompletionInPlace (mapped (regions_of o.given)))
      (IsKept-in_place (mapped (regions_of o.given))) o.controller queue place in
      let z = with_controller o.number (took o.controller queue) w in
      let ns = take count (numbers_where is_free l.tags) in
      let command : Command = command_taken addr queue ns o w in
      with_tags-fold (IsConsistentOfTags geometry) IsFree lane (Taken command [])
      (λ v n t holds there free.
      (let here : tag_of v lane n ≡ Some Free = there ∙ ap (λ x. Some x) free in
      let a = is-at geometry v lane n Free holds here in
      retagged geometry lane n v Free (Taken command []) aligned holds a (λ test. refl) (λ test. refl)
      (record {
        guest = o.given;
        is = record { given = owns.given; bytes = length-bytes_from (image (regions_of o.given) w.host) addr sqe_size };
        planned = tt;
        not_held = tag-is geometry v lane n Free holds a;
      })))
      ns z (claimed-free z lane l count at) (take-distinct count (numbers_where is_free l.tags) (numbers-distinct is_free l.tags))
      (controller-consistent geometry w o.number o.given (took o.controller queue) owns.given taken_place is)

  -- and it has the tags that it wants
  pub taken_to-groups : (w : World) (o : Owner) (addr queue lane count : ℕ) (l : Lane) → HasGroups geometry w.lanes → IsOwner geometry w o
      → slice_get w.lanes lane ≡ Some l → suc count ≤ length (numbers_where is_free l.tags)
      → tags_of_entry o.given.namespace (entry_at addr o w) ≡ suc count
      → HasGroups geometry (taken_to addr queue lane (take (suc count) (numbers_where is_free l.tags)) o w).lanes
  unfolding taken_to
  taken_to-groups w o addr queue lane count l are owns at many wanted =
      let z = with_controller o.number (took o.controller queue) w in
      let free = free-numbers l.tags in
      let parts : List Part = parts_of l.tags in
      let ns = take (suc count) (numbers_where is_free l.tags) in
      let command : Command = command_taken addr queue ns o w in
      let length_ns : length ns ≡ suc count = length-take-le (suc count) (numbers_where is_free l.tags) many in
      let x : Lane = record l { tags = put_all ns (Taken command []) l.tags } in
      let behind : parts_of x.tags ≡ filled is_nothing (suc count) (Reading command) parts =
      parts-put_all ns (Taken command []) l.tags ∙ put_all-puts ns (Reading command) parts
      ∙ ap (λ n. puts ns (replicate n (Reading command)) parts) length_ns
      ∙ ap (λ ks. puts (take (suc count) ks) (replicate (suc count) (Reading command)) parts) free
      ∙ puts-filled is_nothing (suc count) (Reading command) parts in
      let size = ap length free ∙ numbers-length is_nothing parts in
      let grouped = grouped-claimed geometry parts (are lane l at) count command o.given owns.given (omega (arith, many, size))
      (ap (λ ks. lowest (take (suc count) ks)) free) wanted in
      subst (HasGroups geometry) (sym (ap (λ (v : World). v.lanes) (with_tags-is lane ns (Taken command []) z l at)))
      (groups-set geometry w.lanes lane x are (subst (AreGrouped geometry) (sym behind) grouped))

  -- ---- by what is claimed

  abbrev Keeps : World → Type 0
  Keeps z = IsConsistentOfTags geometry z × HasGroups geometry z.lanes

  claims : (w : World) (o : Owner) (addr queue lane : ℕ) (l : Lane) → IsLaidOut host_bytes (length w.lanes) geometry → Keeps w
      → IsOwner geometry w o → slice_get w.lanes lane ≡ Some l → (found : Option (List ℕ))
      → claimed (tags_of_entry o.given.namespace (entry_at addr o w)) l.tags ≡ found → Keeps (take_tags found addr queue lane o w).world
  claims w o addr queue lane l laid keeps owns at None e = keeps
  claims w o addr queue lane l laid keeps owns at (Some ns) e =
      let given = laid.given o.number o.given owns.given in
      let some = (tags_of_entry-some o.given.namespace (entry_at addr o w) given.some).0 in
      let wanted : ℕ = tags_of_entry o.given.namespace (entry_at addr o w) in
      let c = claimed-is wanted l.tags ns e in
      subst (λ ks. Keeps (taken_to addr queue lane ks o w)) (sym c.is) (
        taken_to-consistent w o addr queue lane wanted l laid.pages keeps.0 owns at,
        by wanted refl some c.many,
      )
    where
      by : (n : ℕ) → tags_of_entry o.given.namespace (entry_at addr o w) ≡ n → 1 ≤ n → n ≤ length (numbers_where is_free l.tags)
          → HasGroups geometry (taken_to addr queue lane (take n (numbers_where is_free l.tags)) o w).lanes
      by zero wanted some many = absurd (omega (arith, some))
      by (suc n) wanted some many = taken_to-groups w o addr queue lane n l keeps.1 owns at many wanted

  front-claims : (w : World) (o : Owner) (queue lane : ℕ) (l : Lane) → IsLaidOut host_bytes (length w.lanes) geometry → Keeps w
      → IsOwner geometry w o → slice_get w.lanes lane ≡ Some l → (addr : Option ℕ) → Keeps (take_front addr queue lane l o w).world
  front-claims w o queue lane l laid keeps owns at None = keeps
  front-claims w o queue lane l laid keeps owns at (Some addr) =
      claims w o addr queue lane l laid keeps owns at (claimed (tags_of_entry o.given.namespace (entry_at addr o w)) l.tags) refl

  pub takes-kept : (w : World) (number queue lane : ℕ) → IsLaidOut host_bytes (length w.lanes) geometry → Keeps w
      → Keeps (step geometry (event.Take number queue lane) w).world
  unfolding step
  takes-kept w number queue lane laid keeps =
      guest-walk Keeps w keeps (owner_of geometry w number) _ (λ o found.
      lane-walk Keeps w keeps (slice_get w.lanes lane) (λ l. take_from queue lane l o w) (λ l at.
      either Keeps w keeps (is_io_queue queue) _ _
      (λ in_range. front-claims w o queue lane l laid keeps (owner_of-is geometry w number o found) at (front o.controller queue)) (λ out. keeps)))
