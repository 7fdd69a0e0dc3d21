-- Extents that a set-up may have are a namespace, and so are those that come first of them.
use Rattle.std.proofs.Common.{◌≡◌, ℕ, ◌+◌, ◌*◌, ◌^◌, ◌<◌, ◌≤◌, ◌&&◌, ◌++◌, true, [], ◌∷◌, length, refl, ap, sym, ◌∙◌, arith, length-append, leb-true}
use Rattle.std.proofs.Common.{zero, suc, drop, get_or, ltb-true, take, take-append-drop}
use Rattle.std.proofs.lemmas.List.{take_more}
use Rattle.std.specs.Prelude.{◌==◌, nat_le}
use Rattle.std.specs.List.{list_all}
use Rattle.std.proofs.lemmas.Bool.Decides.{nat_tests}
use Rattle.std.proofs.lemmas.Grind.{common_steps}
use Rattle.std.proofs.Math.Nat.{mul-le-mul_right}
use Rattle.std.proofs.lemmas.List.Folds.{list_all-append}
use Rattle.nv_ns.specs.BlockRange.{Extent}
use Rattle.nv_ns.specs.Extents.{Namespace, blocks_in, is_namespace, is_within, most_extents}
use Rattle.nv_model.proofs.Endings.{and-true}
use Rattle.nv_world_model.specs.SetUp.{SetUp, between, extent_fits, guest_fits, host_limits, most_limit, most_regions}
use Rattle.nv_world_model.specs.Geometry.{Guest, regions_of}

-- the tests of a namespace
pub record IsNamespace (ns : Namespace) : Type 0 where
  pub some : 0 < length ns
  pub few : length ns ≤ most_extents
  pub within : list_all (is_within (blocks_in ns)) ns ≡ true

pub namespace-tested : (ns : Namespace) → is_namespace ns ≡ true → IsNamespace ns
namespace-tested ns e = grind (arith, nat_tests, common_steps)

pub namespace-tests : (ns : Namespace) → IsNamespace ns → is_namespace ns ≡ true
namespace-tests ns is = grind (arith, nat_tests, common_steps)

blocks-append : (front rest : Namespace) → blocks_in (front ++ rest) ≡ blocks_in front + blocks_in rest
blocks-append [] rest = omega arith
blocks-append (extent ∷ front) rest = let more = blocks-append front rest in omega (arith, more)

-- fewer blocks are within what more are
within-less : (less more : ℕ) (es : Namespace) → less ≤ more → list_all (is_within more) es ≡ true → list_all (is_within less) es ≡ true
within-less less more [] below e = refl
within-less less more (extent ∷ es) below e =
    let rest = within-less less more es below in
    grind (arith, nat_tests, common_steps)

-- the front of a namespace is one, too
pub namespace-front : (front rest : Namespace) → 0 < length front → is_namespace (front ++ rest) ≡ true → is_namespace front ≡ true
namespace-front front rest some e =
    let all = namespace-tested (front ++ rest) e in
    let few = all.few in
    let long = length-append front rest in
    let blocks = blocks-append front rest in
    let parts = sym (list_all-append (is_within (blocks_in (front ++ rest))) front rest) ∙ all.within in
    namespace-tests front (record {
      some = some;
      few = omega (arith, few, long);
      within = within-less (blocks_in front) (blocks_in (front ++ rest)) front (omega (arith, blocks))
          (grind (arith, common_steps, parts));
    })

-- one extent more behind the first ones is a namespace, too
pub namespace-more : (first : Extent) (rest : Namespace) (i : ℕ) (d : Extent) → i < length rest → is_namespace (first ∷ rest) ≡ true
    → is_namespace ((first ∷ take i rest) ++ get_or rest i d ∷ []) ≡ true
namespace-more first rest i d below e =
    let more : take (i + 1) rest ≡ take i rest ++ get_or rest i d ∷ [] = take_more rest i d below in
    let whole : (first ∷ take (i + 1) rest) ++ drop (i + 1) rest ≡ first ∷ rest = ap (λ (es : Namespace). first ∷ es) (take-append-drop (i + 1) rest) in
    ap is_namespace (ap (λ (es : Namespace). first ∷ es) (sym more))
    ∙ namespace-front (first ∷ take (i + 1) rest) (drop (i + 1) rest) (omega arith) (ap is_namespace whole ∙ e)

-- an extent ends below 2 to the 64
abbrev pub EndsBelow : Extent → Type 0
EndsBelow extent = extent.base + extent.blocks < 2 ^ 64

-- each of its extents does
blocks-some : (es : Namespace) (i : ℕ) (d : Extent) → i < length es → (get_or es i d).blocks ≤ blocks_in es
blocks-some [] i d below = absurd (omega arith)
blocks-some (extent ∷ es) zero d below = omega arith
blocks-some (extent ∷ es) (suc i) d below = let rest = blocks-some es i d (omega arith) in omega (arith, rest)

within-some : (blocks : ℕ) (es : Namespace) (i : ℕ) (d : Extent) → i < length es → list_all (is_within blocks) es ≡ true
    → (get_or es i d).base + blocks < 2 ^ 64
within-some blocks [] i d below e = absurd (omega arith)
within-some blocks (extent ∷ es) zero d below e =
    ltb-true (extent.base + blocks) (2 ^ 64) (and-true (is_within blocks extent) (list_all (is_within blocks) es) e).0
within-some blocks (extent ∷ es) (suc i) d below e =
    within-some blocks es i d (omega arith) (and-true (is_within blocks extent) (list_all (is_within blocks) es) e).1

pub namespace-extent : (es : Namespace) (i : ℕ) (d : Extent) → i < length es → is_namespace es ≡ true
    → EndsBelow (get_or es i d)
namespace-extent es i d below e =
    let within = within-some (blocks_in es) es i d below (namespace-tested es e).within in
    let few = blocks-some es i d below in omega (arith, within, few)

pub namespace-behind : (first : Extent) (rest : Namespace) (i : ℕ) (d : Extent) → i < length rest → is_namespace (first ∷ rest) ≡ true
    → EndsBelow (get_or rest i d)
namespace-behind first rest i d below e = namespace-extent (first ∷ rest) (suc i) d (omega arith) e

-- ---- of a set-up

-- extents on a disk have no more blocks than so many disks
fits-blocks : (s : SetUp) (es : Namespace) → list_all (extent_fits s) es ≡ true → blocks_in es ≤ length es * s.geometry.disk_blocks
fits-blocks s [] e = omega arith
fits-blocks s (extent ∷ es) e =
    let first = and-true (extent_fits s extent) (list_all (extent_fits s) es) e in
    let ends = leb-true (extent.base + extent.blocks) s.geometry.disk_blocks
    (and-true (nat_le 1 extent.blocks) (nat_le (extent.base + extent.blocks) s.geometry.disk_blocks) first.0).1 in
    let rest = fits-blocks s es first.1 in omega (arith, ends, rest)

fits-within : (s : SetUp) (blocks : ℕ) (es : Namespace) → list_all (extent_fits s) es ≡ true → s.geometry.disk_blocks + blocks < 2 ^ 64
    → list_all (is_within blocks) es ≡ true
fits-within s blocks [] e below = refl
fits-within s blocks (extent ∷ es) e below =
    let first = and-true (extent_fits s extent) (list_all (extent_fits s) es) e in
    let ends = leb-true (extent.base + extent.blocks) s.geometry.disk_blocks
    (and-true (nat_le 1 extent.blocks) (nat_le (extent.base + extent.blocks) s.geometry.disk_blocks) first.0).1 in
    let here : extent.base + blocks < 2 ^ 64 = omega (arith, ends, below) in
    let rest = fits-within s blocks es first.1 below in
    grind (arith, nat_tests, common_steps)

-- a guest that a set-up may have has a namespace
pub guest-namespace : (s : SetUp) (g : Guest) → guest_fits s g ≡ true → s.geometry.disk_blocks ≤ host_limits.disk_blocks → is_namespace g.namespace ≡ true
guest-namespace s g fits few =
    let host = g.memory_map.host_len == s.host_bytes in
    let regions = nat_le (length (regions_of g)) most_regions in
    let many = between 1 most_extents (length g.namespace) in
    let each = list_all (extent_fits s) g.namespace in
    let limit = between 1 most_limit g.limit in
    let front = (and-true (host && regions && many && each) limit fits).0 in
    let behind = and-true (host && regions && many) each front in
    let fitting = behind.1 in
    let told = (and-true (host && regions) many behind.0).1 in
    let ends = and-true (nat_le 1 (length g.namespace)) (nat_le (length g.namespace) most_extents) told in
    let some = leb-true 1 (length g.namespace) ends.0 in
    let most = leb-true (length g.namespace) most_extents ends.1 in
    let blocks = fits-blocks s g.namespace fitting in
    let times = mul-le-mul_right s.geometry.disk_blocks most in
    namespace-tests g.namespace (record {
      some = omega (arith, some);
      few = omega (arith, most);
      within = fits-within s (blocks_in g.namespace) g.namespace fitting (omega (arith, blocks, times, few));
    })
