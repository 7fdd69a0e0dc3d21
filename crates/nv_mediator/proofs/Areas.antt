-- An area that reaches behind all of a host's bytes may be cut.
use Rattle.std.proofs.Common.{◌≡◌, ℕ, ◌+◌, ◌*◌, ◌^◌, ◌<◌, ◌≤◌, ◌||◌, inl, inr, Bool, List, [], ◌∷◌, min, max, arith, refl, ap, ◌∙◌}
use Rattle.std.specs.Prelude.{nat_lt}
use Rattle.std.proofs.lemmas.Bool.{cases_lt}
use Rattle.std.proofs.lemmas.List.Elements.{All-head, All-tail}
use Rattle.std.specs.List.{All}
use Rattle.nv_mem.specs.GuestMap.{IsInside, IsSound, span_met, spans_meet}
use Rattle.nv_mem.specs.declared.region.Region.{Region}
use Rattle.nv_world_model.specs.Geometry.{Guest, regions_of}
use Rattle.nv_world_model.specs.SetUp.{SetUp, meets_area}

-- two ends that are both behind the first
ends : (m a b : ℕ) → m ≤ a → m ≤ b → min m a ≡ min m b
ends m a b below above = omega arith

-- a span that ends by `most`
meets-cut : (r : Region) (start len most host_len : ℕ) → r.host + r.len ≤ host_len → host_len ≤ most
    → spans_meet r.host r.len start (min len most) ≡ spans_meet r.host r.len start len
meets-cut r start len most host_len inside below = elim (cases_lt len most) [
  | inl short ↦ ap (λ n. spans_meet r.host r.len start n) (omega arith)
  | inr long ↦ ap (λ n. nat_lt (max r.host start) n) (ends (r.host + r.len) (start + min len most) (start + len) (omega arith) (omega arith))
]

pub span-cut : (rs : List Region) (start len most host_len : ℕ) → All (IsInside host_len) rs → host_len ≤ most
    → span_met rs start (min len most) ≡ span_met rs start len
span-cut [] start len most host_len inside below = refl
span-cut (r ∷ rs) start len most host_len inside below =
    ap (λ b. b || span_met rs start (min len most)) (meets-cut r start len most host_len (All-head (IsInside host_len) r rs inside).host below)
    ∙ ap (λ b. spans_meet r.host r.len start len || b) (span-cut rs start len most host_len (All-tail (IsInside host_len) r rs inside) below)

-- a guest's memory and the area of so many lanes
pub area-cut : (s t : SetUp) (g h : Guest) (area : ℕ) (met : Bool) → t ≡ s → h ≡ g → IsSound h.memory_map → h.memory_map.host_len < 2 ^ 64
    → area ≡ min (8663040 * t.lanes) 18446744073709551615 → met ≡ span_met (regions_of h) t.geometry.mediator area → met ≡ meets_area s g
area-cut s t g h area met same given sound small is e =
    e ∙ ap (span_met (regions_of h) t.geometry.mediator) is
    ∙ span-cut (regions_of h) t.geometry.mediator (8663040 * t.lanes) 18446744073709551615 h.memory_map.host_len sound.inside (omega arith)
    ∙ ap (span_met (regions_of h) t.geometry.mediator) (omega arith)
    ∙ ap (λ (x : SetUp). meets_area x h) same ∙ ap (meets_area s) given
