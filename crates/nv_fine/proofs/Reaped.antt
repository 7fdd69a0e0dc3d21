-- What a Reap has fetched: a completion that is in the slot which is read next, where it has the phase tag that is wanted.
use Rattle.std.proofs.Common.{◌≡◌, ◌≢◌, ℕ, zero, suc, ◌+◌, ◌<◌, ◌≤◌, Bool, true, false, cond, ◌&&◌, ◌==◌, List, [], ◌∷◌, ◌++◌, drop, length, map, slice_get, take}
use Rattle.std.proofs.Common.{Option, Some, None, arith, eqb-true, refl, sym, ap, ◌∙◌, subst}
use Rattle.std.proofs.lemmas.List.{length-append, length-map}
use Rattle.std.proofs.lemmas.List.FromFn.{length-range_with_len}
use Rattle.std.specs.List.{range_with_len}
use Rattle.nv_entry.specs.Completion.{cid_of as completed_cid}
use Rattle.nv_fine.proofs.Mirrors.{HasRead, is_wanted, reap_addresses}
use Rattle.nv_fine.proofs.Returns.{HowFetched, IsUnread, Quiet, ReadsNone, Shows}
use Rattle.nv_laws_sound.proofs.Lists.{slice_get-below, slice_get-there, some-same}
use Rattle.nv_laws_sound.proofs.ReapEvents.{answered-at}
use Rattle.nv_laws_sound.proofs.Rings.{between-head, far-some}
use Rattle.nv_laws_sound.specs.Consistent.{IsLane}
use Rattle.nv_machine.proofs.SideWorlds.{begun}
use Rattle.nv_machine.specs.Contained.{IsFetched}
use Rattle.nv_machine.specs.Doing.{for_one, replied}
use Rattle.nv_machine.specs.InWorld.{IsLive, side_of}
use Rattle.nv_machine.specs.Machine.{called, fetch, fetch_then, from_one, in_order, is_new, reap, reaped_by}
use Rattle.nv_model.proofs.MemoryLemmas.{bytes_from-append}
use Rattle.nv_model.specs.Memory.{bytes_from}
use Rattle.nv_model.specs.Queue.{cqe_size}
use Rattle.nv_model.specs.declared.reply.Reply.TheVariants as reply
use Rattle.nv_world_model.specs.Area.{completion_slot}
use Rattle.nv_world_model.specs.Device.{DeviceLane}
use Rattle.nv_world_model.specs.Geometry.{Geometry}
use Rattle.nv_world_model.specs.World.{Lane, World, tag_in}
use Rattle.nv_world_model.specs.declared.event.Event.TheVariants as event

-- ---- lists

pub take-all : (n : ℕ) (xs : List ℕ) → length xs ≤ n → take n xs ≡ xs
take-all zero [] few = refl
take-all zero (x ∷ xs) few = absurd (omega (arith, few))
take-all (suc n) [] few = refl
take-all (suc n) (x ∷ xs) few = ap (λ (ys : List ℕ). x ∷ ys) (take-all n xs (omega (arith, few)))

pub take-exact : (n : ℕ) (xs ys : List ℕ) → length xs ≡ n → take n (xs ++ ys) ≡ xs
take-exact zero [] ys is = refl
take-exact zero (x ∷ xs) ys is = absurd (omega (arith, is))
take-exact (suc n) [] ys is = absurd (omega (arith, is))
take-exact (suc n) (x ∷ xs) ys is = ap (λ (zs : List ℕ). x ∷ zs) (take-exact n xs ys (omega (arith, is)))

pub drop-exact : (n : ℕ) (xs ys : List ℕ) → length xs ≡ n → drop n (xs ++ ys) ≡ ys
drop-exact zero [] ys is = refl
drop-exact zero (x ∷ xs) ys is = absurd (omega (arith, is))
drop-exact (suc n) [] ys is = absurd (omega (arith, is))
drop-exact (suc n) (x ∷ xs) ys is = drop-exact n xs ys (omega (arith, is))

pub map-append : (f : ℕ → ℕ) (xs ys : List ℕ) → map f (xs ++ ys) ≡ map f xs ++ map f ys
map-append f [] ys = refl
map-append f (x ∷ xs) ys = ap (λ (zs : List ℕ). f x ∷ zs) (map-append f xs ys)

-- bytes at addresses in a row
pub row-read : (host : ℕ → ℕ) (at len : ℕ) → map host (range_with_len at len) ≡ bytes_from host at len
unfolding bytes_from
row-read host at zero = refl
row-read host at (suc len) =
    let next : at + 1 ≡ suc at = omega arith in
    ap (λ (xs : List ℕ). host at ∷ xs) (row-read host (at + 1) len ∙ ap (λ (a : ℕ). bytes_from host a len) next)

-- ---- the addresses

pub length-reap : (mediator lane head : ℕ) → length (reap_addresses mediator lane head) ≡ 16
length-reap mediator lane head =
    let sum = length-append (range_with_len (completion_slot mediator lane head + 12) 4) (range_with_len (completion_slot mediator lane head) 12) in
    let first = length-range_with_len (completion_slot mediator lane head + 12) 4 in
    let rest = length-range_with_len (completion_slot mediator lane head) 12 in
    omega (arith, sum, first, rest)

module _ (geometry : Geometry) (w : World) (lane : ℕ) (l : Lane) (found : slice_get w.lanes lane ≡ Some l) where
  abbrev slot : ℕ
  slot = completion_slot geometry.mediator lane l.head

  abbrev first : List ℕ
  first = range_with_len (completion_slot geometry.mediator lane l.head + 12) 4

  abbrev rest : List ℕ
  rest = range_with_len (completion_slot geometry.mediator lane l.head) 12

  pub first-is : fetch geometry (event.Reap lane) (side_of w) ≡ first
  unfolding fetch
  first-is = ap (λ (o : Option Lane). from_one o (λ k. range_with_len (completion_slot geometry.mediator lane k.head + 12) 4)) found

  pub then-is : (dword : List ℕ) → fetch_then geometry (event.Reap lane) (side_of w) dword ≡ cond (is_wanted l.phase dword) rest []
  unfolding fetch_then
  then-is dword =
      ap (λ (o : Option Lane). from_one o (λ k. cond (is_new k dword) (range_with_len (completion_slot geometry.mediator lane k.head) 12) [])) found

  -- ---- a completion

  module _ (live : IsLive geometry w) (d : DeviceLane) (there : slice_get w.device lane ≡ Some d) (waits : l.head ≢ d.posted) (fetched : List ℕ)
      (are : fetched ≡ map w.host (reap_addresses geometry.mediator lane l.head)) where
    split : fetched ≡ map w.host first ++ map w.host rest
    split = are ∙ map-append w.host first rest

    front : length (map w.host first) ≡ 4
    front = length-map first w.host ∙ length-range_with_len (completion_slot geometry.mediator lane l.head + 12) 4

    take-is : take 4 fetched ≡ map w.host first
    take-is = ap (λ (xs : List ℕ). take 4 xs) split ∙ take-exact 4 (map w.host first) (map w.host rest) front

    drop-is : drop 4 fetched ≡ map w.host rest
    drop-is = ap (λ (xs : List ℕ). drop 4 xs) split ∙ drop-exact 4 (map w.host first) (map w.host rest) front

    -- in order it is what is in the slot
    order-is : in_order fetched ≡ bytes_from w.host slot cqe_size
    order-is =
        ap (λ (xs : List ℕ). xs ++ take 4 fetched) (drop-is ∙ row-read w.host slot 12)
        ∙ ap (λ (xs : List ℕ). bytes_from w.host slot 12 ++ xs) (take-is ∙ row-read w.host (slot + 12) 4)
        ∙ sym (bytes_from-append w.host slot 12 4)

    -- which names a tag whose completion is there
    reads-none : ReadsNone geometry w (event.Reap lane) fetched
    reads-none number tag t at unread = by (lane == number) refl
      where
        fine : IsLane geometry lane w.host l d
        fine = live.consistent.of_tags.lanes lane l d found there

        named : lane ≡ number → completed_cid (in_order fetched) ≡ tag → ⊥
        named same names =
            let positions = fine.positions in
            let tags = positions.tags in
            let sized = positions.held in
            let next = fine.answered l.head (between-head l.head d.posted positions.read positions.posted (far-some l.head d.posted positions.read positions.posted waits)) in
            let among = slice_get-below l.tags next.tag next.there next.is in
            let held = slice_get-there d.held next.tag (omega (arith, tags, sized, among)) in
            let a = answered-at geometry lane next.tag l.head w.host l.head d held.0 next.there (fine.tags next.tag next.there held.0 next.is held.1) next.stands in
            let one : next.tag ≡ tag = sym a.identifier ∙ ap completed_cid (sym order-is) ∙ names in
            let here : slice_get l.tags tag ≡ Some t =
            ap (λ (o : Option Lane). tag_in o tag) (sym found ∙ ap (λ (n : ℕ). slice_get w.lanes n) same) ∙ at in
            let is : next.there ≡ t = some-same next.there t (sym next.is ∙ ap (λ (n : ℕ). slice_get l.tags n) one ∙ here) in
            subst IsUnread (sym is ∙ a.flies) unread

        by : (b : Bool) → (lane == number) ≡ b → (b && completed_cid (in_order fetched) == tag) ≡ false
        by false apart = refl
        by true same = cid (completed_cid (in_order fetched) == tag) refl
          where
            cid : (b : Bool) → (completed_cid (in_order fetched) == tag) ≡ b → b ≡ false
            cid false other = refl
            cid true names = absurd (named (eqb-true lane number same) (eqb-true (completed_cid (in_order fetched)) tag names))

    shows : is_wanted l.phase (take 4 fetched) ≡ true → HowFetched geometry w (event.Reap lane) fetched
    shows new =
        Shows tt
        (record {
          host = w.host;
          same = λ at low high. refl;
          there =
              ap (λ (xs : List ℕ). map w.host xs ++ map w.host (fetch_then geometry (event.Reap lane) (side_of w) (map w.host xs))) first-is
              ∙ ap (λ (ys : List ℕ). map w.host first ++ map w.host ys)
              (then-is (map w.host first) ∙ ap (λ (xs : List ℕ). cond (is_wanted l.phase xs) rest []) (sym take-is) ∙ ap (λ (b : Bool). cond b rest []) new)
              ∙ sym split;
        }) reads-none

-- ---- the call

module _ (geometry : Geometry) (w : World) (live : IsLive geometry w) (lane : ℕ) (fetched : List ℕ)
    (size : IsFetched geometry (event.Reap lane) (side_of w) fetched) where
  quiet-nowhere : slice_get w.lanes lane ≡ None → HowFetched geometry w (event.Reap lane) fetched
  unfolding called
  quiet-nowhere none = Quiet (ap (λ (o : Option Lane). (for_one o (begun (side_of w)) (λ l. reap lane l fetched (begun (side_of w)))).now) none)

  module _ (l : Lane) (found : slice_get w.lanes lane ≡ Some l) where
    quiet-old : is_wanted l.phase (take 4 fetched) ≡ false → HowFetched geometry w (event.Reap lane) fetched
    unfolding called
    quiet-old old =
        Quiet (ap (λ (o : Option Lane). (for_one o (begun (side_of w)) (λ l. reap lane l fetched (begun (side_of w)))).now) found ∙ by (is_new l (take 4 fetched)) old)
      where
        by : (b : Bool) → b ≡ false
            → (cond b (reaped_by lane l (in_order fetched) (begun (side_of w)))
            (replied reply.Idle (begun (side_of w)))).now ≡ begun (side_of w)
        by false is = refl
        by true is = cc

    -- as many bytes as a completion has
    sixteen : is_wanted l.phase (take 4 fetched) ≡ true → length fetched ≡ 16
    sixteen new =
        let first = ap (λ (xs : List ℕ). length xs) (first-is geometry w lane l found) ∙ length-range_with_len (completion_slot geometry.mediator lane l.head + 12) 4 in
        let then =
        ap (λ (n : ℕ). length (fetch_then geometry (event.Reap lane) (side_of w) (take n fetched))) first
        ∙ ap (λ (xs : List ℕ). length xs) (then-is geometry w lane l found (take 4 fetched))
        ∙ ap (λ (b : Bool). length (cond b (range_with_len (completion_slot geometry.mediator lane l.head) 12) [])) new
        ∙ length-range_with_len (completion_slot geometry.mediator lane l.head) 12 in
        omega (arith, size, first, then)

    some-fetched : 0 < length fetched
    some-fetched =
        let first = ap (λ (xs : List ℕ). length xs) (first-is geometry w lane l found) ∙ length-range_with_len (completion_slot geometry.mediator lane l.head + 12) 4 in
        omega (arith, size, first)

    how-there : (d : DeviceLane) → slice_get w.device lane ≡ Some d → HasRead geometry w.host lane l.head l.phase d.posted fetched
        → HowFetched geometry w (event.Reap lane) fetched
    how-there d there read = by (is_wanted l.phase (take 4 fetched)) refl
      where
        by : (b : Bool) → is_wanted l.phase (take 4 fetched) ≡ b → HowFetched geometry w (event.Reap lane) fetched
        by false old = quiet-old old
        by true new =
            let both = (read some-fetched).1 new in
            let few = length-reap geometry.mediator lane l.head in
            let many = sixteen new in
            shows geometry w lane l found live d there both.0 fetched
            (both.1 ∙ ap (map w.host) (take-all (length fetched) (reap_addresses geometry.mediator lane l.head) (omega (arith, few, many)))) new

  pub reap-how : ((l : Lane) (d : DeviceLane) → slice_get w.lanes lane ≡ Some l → slice_get w.device lane ≡ Some d
      → HasRead geometry w.host lane l.head l.phase d.posted fetched) → HowFetched geometry w (event.Reap lane) fetched
  reap-how read = by (slice_get w.lanes lane) refl
    where
      by : (o : Option Lane) → slice_get w.lanes lane ≡ o → HowFetched geometry w (event.Reap lane) fetched
      by None none = quiet-nowhere none
      by (Some l) found =
          let below = slice_get-below w.lanes lane l found in
          let sides = live.consistent.of_tags.sides in
          let d = slice_get-there w.device lane (omega (arith, below, sides)) in
          how-there l found d.0 d.1 (read l d.0 found d.1)
