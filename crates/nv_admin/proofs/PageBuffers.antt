-- A buffer of one page: what PRP1 and PRP2 say of it, and what is stored there.
use Rattle.std.proofs.Common.{◌≡◌, ℕ, ◌-◌, ◌%◌, ◌<◌, min, Bool, true, false, ◌==◌, List, []}
use Rattle.std.proofs.Common.{◌∷◌, ◌++◌, length, Option, Some, None, refl, sym, ap, ◌∙◌, arith, append-nil}
use Rattle.std.proofs.Math.Dec.{eqb-suc-zero}
use Rattle.std.proofs.lemmas.Grind.{flat_map-append}
use Rattle.std.specs.List.{AllPairs}
use Rattle.nv_entry.specs.declared.status_code.StatusCode.{StatusCode}
use Rattle.nv_mem.specs.GuestMap.{IsApart, everywhere}
use Rattle.nv_mem.specs.Places.{Place, places_of, places_of_piece, addresses}
use Rattle.nv_mem.specs.declared.piece.Piece.{Piece}
use Rattle.nv_mem.specs.declared.region.Region.{Region}
use Rattle.nv_mem.proofs.PlaceLists.{length-addresses}
use Rattle.nv_model.specs.Dialogue.{Dialogue, End, in_memory}
use Rattle.nv_model.specs.Limits.{page}
use Rattle.nv_model.specs.Memory.{image, put_image, scattered, stored}
use Rattle.nv_model.specs.Prp.{entry_fault, first_len, pages_of, read_prp, read_prp2}
use Rattle.nv_model.specs.Reading.{Reading, Faulty, Spells, run, unless_faulty}
use Rattle.nv_model.proofs.MemoryAlike.{stored-at}
use Rattle.nv_model.proofs.MemoryLemmas.{scattered-addresses, scattered-append, stored-nil}
use Rattle.nv_model.proofs.PutImages.{image-put_image, put_image-twice}

-- ---- reading PRP1 and PRP2

-- the transfer of a page from an address whose offset in its page is o: the first entry's bytes, and those behind
first-page : (addr : ℕ) → first_len addr page ≡ page - addr % page
first-page addr = omega arith

behind-page : (addr : ℕ) → page - first_len addr page ≡ addr % page
behind-page addr = omega arith

-- the reading of a page by its two parts
prp_by : (mapped : ℕ → Bool) → (prp1 prp2 first rest : ℕ) → Dialogue Reading
prp_by mapped prp1 prp2 first rest = unless_faulty (entry_fault mapped 4 prp1 first) (read_prp2 mapped (pages_of rest) prp2 rest (run prp1 first))

read_prp-parts : (mapped : ℕ → Bool) (prp1 prp2 : ℕ) → read_prp mapped prp1 prp2 page ≡ prp_by mapped prp1 prp2 (page - prp1 % page) (prp1 % page)
unfolding prp_by
read_prp-parts mapped prp1 prp2 =
    ap (λ (rest : ℕ). prp_by mapped prp1 prp2 (first_len prp1 page) rest) (behind-page prp1)
    ∙ ap (λ (first : ℕ). prp_by mapped prp1 prp2 first (prp1 % page)) (first-page prp1)

-- a fault, or what is read else
abbrev unless : Option StatusCode → Reading → Reading
unless (Some why) reading = Faulty why
unless None reading = reading

in_memory-unless : (m : ℕ → ℕ) (fault : Option StatusCode) (more : Dialogue Reading)
    → in_memory m (unless_faulty fault more) ≡ unless fault (in_memory m more)
unfolding in_memory
in_memory-unless m (Some why) more = refl
in_memory-unless m None more = refl

in_memory-end : (m : ℕ → ℕ) (reading : Reading) → in_memory m (End reading) ≡ reading
unfolding in_memory
in_memory-end m reading = refl

-- the bytes behind PRP1's page, of which there are some
second-page : (m : ℕ → ℕ) (mapped : ℕ → Bool) (prp2 rest : ℕ) (front : List Piece) → 0 < rest → rest < page
    → in_memory m (read_prp2 mapped (pages_of rest) prp2 rest front) ≡ unless (entry_fault mapped page prp2 rest) (Spells (front ++ run prp2 rest))
second-page m mapped prp2 rest front some few =
    let one : pages_of rest ≡ 1 = omega arith in
    let all : min rest page ≡ rest = omega arith in
    ap (λ (n : ℕ). in_memory m (read_prp2 mapped n prp2 rest front)) one
    ∙ in_memory-unless m (entry_fault mapped page prp2 (min rest page)) (End (Spells (front ++ run prp2 (min rest page))))
    ∙ ap (λ (r : Reading). unless (entry_fault mapped page prp2 (min rest page)) r) (in_memory-end m (Spells (front ++ run prp2 (min rest page))))
    ∙ ap (λ (n : ℕ). unless (entry_fault mapped page prp2 n) (Spells (front ++ run prp2 n))) all

-- what is read behind PRP1's page
abbrev behind_first : (mapped : ℕ → Bool) → (prp1 prp2 : ℕ) → Dialogue Reading
behind_first mapped prp1 prp2 = read_prp2 mapped (pages_of (prp1 % page)) prp2 (prp1 % page) (run prp1 (page - prp1 % page))

-- PRP1 and, where it has an offset, PRP2
page-parts : (m : ℕ → ℕ) (mapped : ℕ → Bool) (prp1 prp2 : ℕ)
    → in_memory m (read_prp mapped prp1 prp2 page)
    ≡ unless (entry_fault mapped 4 prp1 (page - prp1 % page)) (in_memory m (behind_first mapped prp1 prp2))
unfolding prp_by
page-parts m mapped prp1 prp2 =
    ap (in_memory m) (read_prp-parts mapped prp1 prp2)
    ∙ in_memory-unless m (entry_fault mapped 4 prp1 (page - prp1 % page)) (behind_first mapped prp1 prp2)

-- PRP1 is at fault
pub page-faulty_first : (m : ℕ → ℕ) (mapped : ℕ → Bool) (prp1 prp2 : ℕ) (why : StatusCode) → Some why ≡ entry_fault mapped 4 prp1 (page - prp1 % page)
    → in_memory m (read_prp mapped prp1 prp2 page) ≡ Faulty why
page-faulty_first m mapped prp1 prp2 why is =
    page-parts m mapped prp1 prp2
    ∙ ap (λ (f : Option StatusCode). unless f (in_memory m (behind_first mapped prp1 prp2))) (sym is)

-- what PRP2 says where PRP1 is not
page-second : (m : ℕ → ℕ) (mapped : ℕ → Bool) (prp1 prp2 : ℕ) → None ≡ entry_fault mapped 4 prp1 (page - prp1 % page)
    → in_memory m (read_prp mapped prp1 prp2 page)
    ≡ in_memory m (behind_first mapped prp1 prp2)
page-second m mapped prp1 prp2 is =
    page-parts m mapped prp1 prp2
    ∙ ap (λ (f : Option StatusCode). unless f (in_memory m (behind_first mapped prp1 prp2))) (sym is)

pub page-faulty_second : (m : ℕ → ℕ) (mapped : ℕ → Bool) (prp1 prp2 : ℕ) (why : StatusCode) → None ≡ entry_fault mapped 4 prp1 (page - prp1 % page)
    → 0 < prp1 % page → Some why ≡ entry_fault mapped page prp2 (prp1 % page)
    → in_memory m (read_prp mapped prp1 prp2 page) ≡ Faulty why
page-faulty_second m mapped prp1 prp2 why fine some is =
    page-second m mapped prp1 prp2 fine
    ∙ second-page m mapped prp2 (prp1 % page) (run prp1 (page - prp1 % page)) some (omega arith)
    ∙ ap (λ (f : Option StatusCode). unless f (Spells (run prp1 (page - prp1 % page) ++ run prp2 (prp1 % page)))) (sym is)

pub page-spells_two : (m : ℕ → ℕ) (mapped : ℕ → Bool) (prp1 prp2 : ℕ) → None ≡ entry_fault mapped 4 prp1 (page - prp1 % page)
    → 0 < prp1 % page → None ≡ entry_fault mapped page prp2 (prp1 % page)
    → in_memory m (read_prp mapped prp1 prp2 page) ≡ Spells (run prp1 (page - prp1 % page) ++ run prp2 (page - (page - prp1 % page)))
page-spells_two m mapped prp1 prp2 fine some is =
    let rest : prp1 % page ≡ page - (page - prp1 % page) = omega arith in
    page-second m mapped prp1 prp2 fine
    ∙ second-page m mapped prp2 (prp1 % page) (run prp1 (page - prp1 % page)) some (omega arith)
    ∙ ap (λ (f : Option StatusCode). unless f (Spells (run prp1 (page - prp1 % page) ++ run prp2 (prp1 % page)))) (sym is)
    ∙ ap (λ (n : ℕ). Spells (run prp1 (page - prp1 % page) ++ run prp2 n)) rest

pub page-spells_one : (m : ℕ → ℕ) (mapped : ℕ → Bool) (prp1 prp2 : ℕ) → None ≡ entry_fault mapped 4 prp1 (page - prp1 % page)
    → prp1 % page ≡ 0
    → in_memory m (read_prp mapped prp1 prp2 page) ≡ Spells (run prp1 (page - prp1 % page) ++ run prp2 (page - (page - prp1 % page)))
page-spells_one m mapped prp1 prp2 fine none =
    let rest : 0 ≡ page - (page - prp1 % page) = omega arith in
    page-second m mapped prp1 prp2 fine
    ∙ ap (λ (n : ℕ). in_memory m (read_prp2 mapped (pages_of n) prp2 n (run prp1 (page - prp1 % page)))) none
    ∙ in_memory-end m (Spells (run prp1 (page - prp1 % page)))
    ∙ ap Spells (sym (append-nil (run prp1 (page - prp1 % page))))
    ∙ ap (λ (n : ℕ). Spells (run prp1 (page - prp1 % page) ++ run prp2 n)) rest

-- ---- storing there

-- bytes that are scattered to a run are stored
scattered-run : (m : ℕ → ℕ) (addr : ℕ) (bytes : List ℕ) → scattered m (places_of (run addr (length bytes))) bytes ≡ stored m addr bytes
unfolding scattered
scattered-run m addr [] = sym (stored-nil m addr)
scattered-run m addr (b ∷ bs) =
    let some : (length (b ∷ bs) == 0) ≡ false = eqb-suc-zero (length bs) in
    rw some (ap (λ (places : List Place). scattered m places (b ∷ bs)) (append-nil (addresses addr (length (b ∷ bs))))
    ∙ scattered-addresses m addr (b ∷ bs))

-- the places of two runs
places_of-runs : (ps qs : List Piece) → places_of (ps ++ qs) ≡ places_of ps ++ places_of qs
places_of-runs ps qs = flat_map-append places_of_piece ps qs

length-run : (addr : ℕ) (bytes : List ℕ) → length (places_of (run addr (length bytes))) ≡ length bytes
length-run addr [] = refl
length-run addr (b ∷ bs) =
    let some : (length (b ∷ bs) == 0) ≡ false = eqb-suc-zero (length bs) in
    rw some (ap (λ (places : List Place). length places) (append-nil (addresses addr (length (b ∷ bs)))) ∙ length-addresses addr (length (b ∷ bs)))

-- bytes that are scattered to two runs are stored in two parts
scattered-runs : (m : ℕ → ℕ) (a b : ℕ) (xs ys : List ℕ)
    → scattered m (places_of (run a (length xs) ++ run b (length ys))) (xs ++ ys) ≡ stored (stored m a xs) b ys
scattered-runs m a b xs ys =
    ap (λ (places : List Place). scattered m places (xs ++ ys)) (places_of-runs (run a (length xs)) (run b (length ys)))
    ∙ scattered-append m (places_of (run a (length xs))) (places_of (run b (length ys))) xs ys (length-run a xs)
    ∙ ap (λ (h : ℕ → ℕ). scattered h (places_of (run b (length ys))) ys) (scattered-run m a xs)
    ∙ scattered-run (stored m a xs) b ys

-- and so behind the first part
pub put-runs : (rs : List Region) (m mid : ℕ → ℕ) (a b n k : ℕ) (xs ys bytes : List ℕ) → AllPairs IsApart rs
    → bytes ≡ xs ++ ys → length xs ≡ n → length ys ≡ k → mid ≡ put_image rs (stored (image rs m) a xs) m
    → put_image rs (stored (image rs mid) b ys) mid
    ≡ put_image rs (scattered (image rs m) (places_of (run a n ++ run b k)) bytes) m
put-runs rs m mid a b n k xs ys bytes apart parts first second is =
    let one : ℕ → ℕ = stored (image rs m) a xs in
    ap (λ (h : ℕ → ℕ). put_image rs (stored (image rs h) b ys) h) is
    ∙ put_image-twice rs one (stored (image rs (put_image rs one m)) b ys) (stored one b ys) m apart
    (λ at there. stored-at (image rs (put_image rs one m)) one b ys at (image-put_image rs one m at apart there))
    ∙ ap (λ (g : ℕ → ℕ). put_image rs g m)
    (sym (scattered-runs (image rs m) a b xs ys)
    ∙ ap (λ (bs : List ℕ). scattered (image rs m) (places_of (run a (length xs) ++ run b (length ys))) bs) (sym parts)
    ∙ ap (λ (l : ℕ). scattered (image rs m) (places_of (run a l ++ run b (length ys))) bytes) first
    ∙ ap (λ (l : ℕ). scattered (image rs m) (places_of (run a n ++ run b l)) bytes) second)

-- no bytes are mapped
pub everywhere-none : (mapped : ℕ → Bool) (addr n : ℕ) → n ≡ 0 → everywhere mapped addr n ≡ true
unfolding everywhere
everywhere-none mapped addr n none = ap (everywhere mapped addr) none
