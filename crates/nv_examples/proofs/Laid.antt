-- Changes of the host as runs of bytes, one after another, and what of them is the first guest's
use Rattle.std.proofs.Common.{◌≡◌, ℕ, ◌+◌, ◌-◌, ◌<◌, ◌≤◌, Bool, true, false, ◌&&◌, ◌||◌, nat_le, nat_lt, if◌then◌else◌, List, [], ◌∷◌}
use Rattle.std.proofs.Common.{◌++◌, flat_map, length, Some, None, refl, arith, ap, sym, ◌∙◌}
use Rattle.std.specs.List.{list_all}
use Rattle.std.proofs.lemmas.Bool.Decides.{nat_tests}
use mathlib.Core.Path.{fun_ext}
use Rattle.nv_mem.specs.GuestMap.{covers, covers_host}
use Rattle.nv_mem.specs.declared.region.Region.{Region}
use Rattle.nv_model.specs.Memory.{byte_at_host, byte_or, image, put_image, stored}
use Rattle.nv_model.proofs.MemoryLemmas.{scattered-addresses}
use Rattle.nv_world_model.specs.Geometry.{Geometry, regions_of}
use Rattle.nv_world_model.specs.Step.{replay}
use Rattle.nv_world_model.specs.World.{World, with_host}
use Rattle.nv_world_model.specs.declared.event.Event.{Event}
use Rattle.nv_examples.specs.Guests.{first}
use Rattle.nv_examples.proofs.Changes.{Area, AreaSpread, Change, Direct, OtherSame, OtherStore, OwnSame, OwnSpread, OwnStore, all_changed, all_fit, all_spans, changed, fits, laid, spans_of}

-- ---- a guest's memory in the host

-- a region of four pages
abbrev pages_at : (host : ℕ) → Region
pages_at host = record { guest = 0; host = host; len = 0x4000 }

-- the byte at an address of it
image-inside : (b : ℕ) (h : ℕ → ℕ) (addr : ℕ) → addr < 0x4000 → image (pages_at b ∷ []) h addr ≡ h (b + addr)
unfolding image
image-inside b h addr within = by (covers (pages_at b) addr) (grind (arith, nat_tests, within))
  where
    by : (c : Bool) → c ≡ true → byte_at_host h (if c then Some (b + (addr - 0)) else None) ≡ h (b + addr)
    by true e = ap h (omega arith)
    by false e = absurd (cc)

-- bytes that are stored there, seen from another start
stored-shift : (m h : ℕ → ℕ) (b a : ℕ) (bs : List ℕ) (k at : ℕ) → m k ≡ h at → at ≡ b + k → stored m a bs k ≡ stored h (b + a) bs at
unfolding stored
stored-shift m h b a bs k at same is = grind (arith, nat_tests, same, is)

-- a byte that isn't stored
stored-away : (h : ℕ → ℕ) (a : ℕ) (bs : List ℕ) (at : ℕ) → (nat_le a at && nat_lt at (a + length bs)) ≡ false → h at ≡ stored h a bs at
unfolding stored
stored-away h a bs at e = rw e refl

-- bytes that are stored in it are stored in the host
put-stored_at : (b : ℕ) (h : ℕ → ℕ) (a : ℕ) (bs : List ℕ) → a + length bs ≤ 0x4000 → (at : ℕ)
    → put_image (pages_at b ∷ []) (stored (image (pages_at b ∷ []) h) a bs) h at ≡ stored h (b + a) bs at
unfolding put_image
put-stored_at b h a bs fit at = by (covers_host (pages_at b) at) refl
  where
    inside : (k : ℕ) → k < 0x4000 → at ≡ b + k → stored (image (pages_at b ∷ []) h) a bs k ≡ stored h (b + a) bs at
    inside k within is =
        stored-shift (image (pages_at b ∷ []) h) h b a bs k at (image-inside b h k within ∙ ap h (sym is)) is

    by : (c : Bool) → covers_host (pages_at b) at ≡ c
        → byte_or (h at) (stored (image (pages_at b ∷ []) h) a bs) (if c then Some (0 + (at - b)) else None) ≡ stored h (b + a) bs at
    by true e = inside (0 + (at - b)) (grind (arith, nat_tests, e)) (grind (arith, nat_tests, e))
    by false e = stored-away h (b + a) bs at (grind (arith, nat_tests, e, fit))

put-stored : (b : ℕ) (h : ℕ → ℕ) (a : ℕ) (bs : List ℕ) → a + length bs ≤ 0x4000
    → put_image (pages_at b ∷ []) (stored (image (pages_at b ∷ []) h) a bs) h ≡ stored h (b + a) bs
put-stored b h a bs fit = fun_ext (put-stored_at b h a bs fit)

-- memory that stays leaves the host as it is
put-same_at : (b : ℕ) (h : ℕ → ℕ) (at : ℕ) → put_image (pages_at b ∷ []) (image (pages_at b ∷ []) h) h at ≡ h at
unfolding put_image
put-same_at b h at = by (covers_host (pages_at b) at) refl
  where
    by : (c : Bool) → covers_host (pages_at b) at ≡ c
        → byte_or (h at) (image (pages_at b ∷ []) h) (if c then Some (0 + (at - b)) else None) ≡ h at
    by true e = image-inside b h (0 + (at - b)) (grind (arith, nat_tests, e)) ∙ ap h (grind (arith, nat_tests, e))
    by false e = refl

put-same : (b : ℕ) (h : ℕ → ℕ) → put_image (pages_at b ∷ []) (image (pages_at b ∷ []) h) h ≡ h
put-same b h = fun_ext (put-same_at b h)

-- ---- changes are runs of bytes

-- a test that holds, as an order
at-most : (n m : ℕ) → nat_le n m ≡ true → n ≤ m
at-most n m e = grind (arith, nat_tests, e)

changed-laid : (c : Change) (h : ℕ → ℕ) → fits c ≡ true → changed c h ≡ laid (spans_of c) h
unfolding changed laid
changed-laid OwnSame h e = put-same 0x10000 h
changed-laid (OwnStore a bs) h e = put-stored 0x10000 h a bs (at-most (a + length bs) 0x4000 e)
changed-laid (OwnSpread a bs) h e =
    ap (λ (m : ℕ → ℕ). put_image (regions_of first) m h) (scattered-addresses (image (regions_of first) h) a bs)
    ∙ put-stored 0x10000 h a bs (at-most (a + length bs) 0x4000 e)
changed-laid OtherSame h e = put-same 0x20000 h
changed-laid (OtherStore a bs) h e = put-stored 0x20000 h a bs (at-most (a + length bs) 0x4000 e)
changed-laid (Area a bs) h e = refl
changed-laid (AreaSpread a bs) h e = scattered-addresses h a bs
changed-laid (Direct a bs) h e = scattered-addresses h (0x10000 + a) bs

-- runs behind others
pub laid-append : (xs ys : List (ℕ × List ℕ)) (h : ℕ → ℕ) → laid (xs ++ ys) h ≡ laid ys (laid xs h)
unfolding laid
laid-append [] ys h = refl
laid-append (x ∷ xs) ys h = laid-append xs ys (stored h x.0 x.1)

and-left : (a b : Bool) → (a && b) ≡ true → a ≡ true
and-left true b e = refl
and-left false b e = absurd (cc)

or-right : (a b : Bool) → a ≡ false → (a || b) ≡ true → b ≡ true
or-right true b e f = absurd (cc)
or-right false b e f = f

and-right : (a b : Bool) → (a && b) ≡ true → b ≡ true
and-right true b e = e
and-right false b e = absurd (cc)

pub all-laid : (cs : List Change) (h : ℕ → ℕ) → all_fit cs ≡ true → all_changed cs h ≡ laid (all_spans cs) h
unfolding all_changed laid
all-laid [] h e = refl
all-laid (c ∷ cs) h e =
    all-laid cs (changed c h) (and-right (fits c) (all_fit cs) e)
    ∙ ap (λ (g : ℕ → ℕ). laid (all_spans cs) g) (changed-laid c h (and-left (fits c) (all_fit cs) e))
    ∙ sym (laid-append (spans_of c) (all_spans cs) h)

-- ---- what of them is the first guest's

-- whether a run lies in its memory, and whether it lies elsewhere
abbrev pub is_own : ℕ × List ℕ → Bool
is_own s = nat_le 0x10000 s.0 && nat_le (s.0 + length s.1) 0x14000

abbrev pub is_apart : ℕ × List ℕ → Bool
is_apart s = nat_le (s.0 + length s.1) 0x10000 || nat_le 0x14000 s.0

abbrev pub all_placed : List (ℕ × List ℕ) → Bool
all_placed spans = list_all (λ s. is_own s || is_apart s) spans

-- its runs, by the guest's addresses
unfoldable pub own_spans : List (ℕ × List ℕ) → List (ℕ × List ℕ)
own_spans [] = []
own_spans (s ∷ spans) = if is_own s then (s.0 - 0x10000, s.1) ∷ own_spans spans else own_spans spans

-- memory that is the image of the host stays so
pub image-laid : (spans : List (ℕ × List ℕ)) (h m : ℕ → ℕ) → all_placed spans ≡ true
    → ((addr : ℕ) → addr < 0x4000 → m addr ≡ image (regions_of first) h addr)
    → (addr : ℕ) → addr < 0x4000 → laid (own_spans spans) m addr ≡ image (regions_of first) (laid spans h) addr
unfolding laid own_spans
image-laid [] h m placed same addr within = same addr within
image-laid (s ∷ spans) h m placed same addr within =
    by (λ g n agree. image-laid spans g n (and-right (is_own s || is_apart s) (all_placed spans) placed) agree addr within) (is_own s) refl
  where
    here : is_own s ≡ true → (at : ℕ) → at < 0x4000 → stored m (s.0 - 0x10000) s.1 at ≡ image (regions_of first) (stored h s.0 s.1) at
    here e at w =
        (let byte : m at ≡ h (0x10000 + at) = same at w ∙ image-inside 0x10000 h at w in
        let start : 0x10000 + (s.0 - 0x10000) ≡ s.0 = grind (arith, nat_tests, e) in
        stored-shift m h 0x10000 (s.0 - 0x10000) s.1 at (0x10000 + at) byte refl
        ∙ ap (λ (n : ℕ). stored h n s.1 (0x10000 + at)) start ∙ sym (image-inside 0x10000 (stored h s.0 s.1) at w))

    apart : is_own s ≡ false → (at : ℕ) → at < 0x4000 → m at ≡ image (regions_of first) (stored h s.0 s.1) at
    apart e at w =
        (let away : is_apart s ≡ true = or-right (is_own s) (is_apart s) e (and-left (is_own s || is_apart s) (all_placed spans) placed) in
        same at w ∙ image-inside 0x10000 h at w ∙ stored-away h s.0 s.1 (0x10000 + at) (grind (arith, nat_tests, away, w))
        ∙ sym (image-inside 0x10000 (stored h s.0 s.1) at w))

    by : ((g n : ℕ → ℕ) → ((at : ℕ) → at < 0x4000 → n at ≡ image (regions_of first) g at)
        → laid (own_spans spans) n addr ≡ image (regions_of first) (laid spans g) addr)
        → (c : Bool) → is_own s ≡ c
        → laid (if c then (s.0 - 0x10000, s.1) ∷ own_spans spans else own_spans spans) m addr ≡ image (regions_of first) (laid spans (stored h s.0 s.1)) addr
    by further true e = further (stored h s.0 s.1) (stored m (s.0 - 0x10000) s.1) (here e)
    by further false e = further (stored h s.0 s.1) m (apart e)

-- ---- runs that are apart may change places

stored-swap_at : (m : ℕ → ℕ) (a : ℕ) (xs : List ℕ) (b : ℕ) (ys : List ℕ) → a + length xs ≤ b → (at : ℕ)
    → stored (stored m a xs) b ys at ≡ stored (stored m b ys) a xs at
unfolding stored
stored-swap_at m a xs b ys apart at = grind (arith, nat_tests, apart)

pub stored-swap : (m : ℕ → ℕ) (a : ℕ) (xs : List ℕ) (b : ℕ) (ys : List ℕ) → a + length xs ≤ b
    → stored (stored m a xs) b ys ≡ stored (stored m b ys) a xs
stored-swap m a xs b ys apart = fun_ext (stored-swap_at m a xs b ys apart)

-- ---- pieces of a log

pub replay-append : (geometry : Geometry) (xs ys : List Event) (w : World) → replay geometry (xs ++ ys) w ≡ replay geometry ys (replay geometry xs w)
unfolding replay
replay-append geometry [] ys w = refl
replay-append geometry (x ∷ xs) ys w = replay-append geometry xs ys _

-- the world behind a piece, and behind the rest of the log
pub further : (geometry : Geometry) (xs ys : List Event) (w v z : World) → replay geometry xs w ≡ v → replay geometry ys v ≡ z
    → replay geometry (xs ++ ys) w ≡ z
further geometry xs ys w v z a b = replay-append geometry xs ys w ∙ ap (λ (u : World). replay geometry ys u) a ∙ b

-- the world behind some events has its host laid out by their changes
pub replay-laid : (geometry : Geometry) (xs : List Event) (cs : List Change) (w : World)
    → (replay geometry xs w).host ≡ all_changed cs w.host → all_fit cs ≡ true
    → replay geometry xs w ≡ with_host (laid (all_spans cs) w.host) (replay geometry xs w)
replay-laid geometry xs cs w e fit = ap (λ (h : ℕ → ℕ). with_host h (replay geometry xs w)) (e ∙ all-laid cs w.host fit)

-- pieces of changes, one after another
unfoldable pub all_laid : List (List Change) → (ℕ → ℕ) → ℕ → ℕ
all_laid [] h = h
all_laid (cs ∷ pieces) h = all_laid pieces (laid (all_spans cs) h)

pub all-laid-spans : (pieces : List (List Change)) (h : ℕ → ℕ) → all_laid pieces h ≡ laid (flat_map all_spans pieces) h
unfolding all_laid laid
all-laid-spans [] h = refl
all-laid-spans (cs ∷ pieces) h =
    all-laid-spans pieces (laid (all_spans cs) h) ∙ sym (laid-append (all_spans cs) (flat_map all_spans pieces) h)
