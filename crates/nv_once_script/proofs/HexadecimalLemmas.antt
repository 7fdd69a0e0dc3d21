-- Sixteen digits as the lanes of a vector, and what they spell
use Rattle.std.proofs.Common.{zero, suc, take, drop, ◌≤◌, append_assoc, length-drop, take_all, Option, Some, None, is_some, unwrap_or, Result, Ok, Err, ◌≡◌, ℕ}
use Rattle.std.proofs.Common.{◌+◌, ◌-◌, ◌*◌, ◌%◌, ◌^◌, ◌<◌, Bool, true, false, not, cond, eqb, leb, ltb, ◌||◌, List, [], ◌∷◌, ◌++◌, map, length, replicate}
use Rattle.std.proofs.Common.{Fits, w8, refl, sym, ap, ap₂, ◌∙◌, arith}
use Rattle.std.proofs.lemmas.Bool.{agree_below, agree_below_at, eqb-true, ltb-true}
use Rattle.std.proofs.lemmas.List.Elements.{All-cons, All-head, All-nil, All-tail}
use Rattle.std.specs.List.{AllPass}
use Rattle.std.specs.Option.{option_map}
use Rattle.std.specs.Prelude.{MatchResult}
use Rattle.std.specs.Result.{result_ok}
use Rattle.std.proofs.lemmas.List.{drop_all, length-map}
use Rattle.std.proofs.lemmas.Simd.{chunk-drop, length-chunk, map-map, mask_l-mod, splat_is_map, take_more_put_chunk, zip2_of_maps, zip2_splat}
use Rattle.hex.specs.Hex.{◌>>=◌, decode_of, decode_pairs, decode_sized, digit_or_error, hex_digit_value, pair_value}
use Rattle.hex.specs.declared.error.FromHexError.{FromHexError}
use Rattle.hex.proofs.HexLemmas.{decode_of-even, decode_sized-twice}
use Rattle.hex.proofs.Pairs.{cons_byte, decode_pairs-ok_pair}
use lib.Lanes.{Each1, chunk, mask_l, put_chunk, sel_l, pick_l, top, zip2}
use Rattle.hex.specs.Hex.{is_hex_digit}
use Rattle.nv_once_script.specs.OnceHexadecimal.{behind, digit_value, paired}

-- ---- what is done in each lane

-- a difference and a sum that wrap
abbrev pub less : ℕ → ℕ → ℕ
less a b = (a + (256 - b)) % 256

abbrev pub plus : ℕ → ℕ → ℕ
plus a b = (a + b) % 256

-- comparisons, whose lanes are all ones or 0
abbrev pub is_at_most : ℕ → ℕ → ℕ
is_at_most a b = cond (leb a b) 255 0

abbrev pub is_below : ℕ → ℕ → ℕ
is_below a b = cond (ltb a b) 255 0

-- ---- vectors that were computed lane by lane from v

pub lane_by_lane : (h : ℕ → ℕ → ℕ) (f g : ℕ → ℕ) (v : List ℕ) {a b : List ℕ} → a ≡ map f v → b ≡ map g v → zip2 h a b ≡ map (λ x. h (f x) (g x)) v
lane_by_lane h f g v p q = zip2_of_maps h f g v p q

pub with_splat : (h : ℕ → ℕ → ℕ) (v : List ℕ) (y : ℕ) → length v ≡ 16 → zip2 h v (replicate 16 y) ≡ map (λ x. h x y) v
with_splat h v y long = zip2_splat h v 16 y long

pub splat : (v : List ℕ) (y : ℕ) → length v ≡ 16 → replicate 16 y ≡ map (λ _. y) v
splat v y long = splat_is_map v 16 y long

-- ---- which lanes are digits

-- a mask with no lane set
clear_head : (b : Bool) (n : ℕ) → cond b 1 0 + 2 * n ≡ 0 → (b ≡ false) × (n ≡ 0)
clear_head true n e = absurd (omega arith)
clear_head false n e = (refl, omega arith)

or_else : (a b : Bool) → a || b ≡ true → a ≡ false → b ≡ true
or_else true b e none = cc none
or_else false b e none = e

-- where p stops at no lane, and stops at all bytes that fail q, each lane passes q
pub all_clear : (p q : ℕ → Bool) (xs : List ℕ) → agree_below (λ x. p x || q x) (λ _. true) 256 ≡ true
    → Each1 (Fits w8) xs → mask_l (map p xs) ≡ 0 → AllPass q xs
all_clear p q [] all fits none = All-nil (λ x. q x ≡ true)
all_clear p q (x ∷ xs) all fits none =
    let parts = clear_head (p x) (mask_l (map p xs)) none in
    All-cons (λ y. q y ≡ true) x xs
    (or_else (p x) (q x) (agree_below_at (λ y. p y || q y) (λ _. true) 256 x all fits.0.fits) parts.0)
    (all_clear p q xs all fits.1 parts.1)

-- the same, of a comparison that was computed lane by lane
pub none_fails : (q : ℕ → Bool) (v z : List ℕ) (f : ℕ → ℕ) → length v ≡ 16 → Each1 (Fits w8) v
    → eqb (mask_l (map (top 7) z) % 2 ^ 64) 0 ≡ true → z ≡ map f v
    → agree_below (λ x. top 7 (f x) || q x) (λ _. true) 256 ≡ true → AllPass q v
none_fails q v z f long fits none lanes all =
    let stops = λ (x : ℕ). top 7 (f x) in
    let mask : mask_l (map (top 7) z) % 2 ^ 64 ≡ mask_l (map stops v) =
    ap (λ l. mask_l l % 2 ^ 64) (ap (map (top 7)) lanes ∙ map-map (top 7) f v)
    ∙ mask_l-mod (map stops v) 64 (omega (arith, length-map v stops, long)) in
    all_clear stops q v all fits (sym mask ∙ eqb-true _ _ none)

-- ---- their values

-- one of two values, lane by lane
pub sel-maps : (m : ℕ → Bool) (f g : ℕ → ℕ) (xs : List ℕ) → sel_l (map m xs) (map f xs) (map g xs) ≡ map (λ x. cond (m x) (f x) (g x)) xs
sel-maps m f g [] = refl
sel-maps m f g (x ∷ xs) = ap (λ r. cond (m x) (f x) (g x) ∷ r) (sel-maps m f g xs)

implied : (a b : Bool) → not a || b ≡ true → a ≡ true → b ≡ true
implied true b e h = e
implied false b e h = cc h

-- lanes that agree where a byte passes q
pub maps_agree : (f g : ℕ → ℕ) (q : ℕ → Bool) (xs : List ℕ) → agree_below (λ x. not (q x) || eqb (f x) (g x)) (λ _. true) 256 ≡ true
    → Each1 (Fits w8) xs → AllPass q xs → map f xs ≡ map g xs
maps_agree f g q [] all fits passed = refl
maps_agree f g q (x ∷ xs) all fits passed =
    let here = agree_below_at (λ y. not (q y) || eqb (f y) (g y)) (λ _. true) 256 x all fits.0.fits in
    let head = All-head (λ y. q y ≡ true) x xs passed in
    ap₂ (λ y ys. y ∷ ys) (eqb-true (f x) (g x) (implied (q x) (eqb (f x) (g x)) here head))
    (maps_agree f g q xs all fits.1 (All-tail (λ y. q y ≡ true) x xs passed))

-- the lesser of two values, lane by lane
pub lesser : (f g : ℕ → ℕ) (v : List ℕ) {a b : List ℕ} → a ≡ map f v → b ≡ map g v
    → sel_l (map (top 7) (zip2 is_below a b)) a b ≡ map (λ x. cond (top 7 (is_below (f x) (g x))) (f x) (g x)) v
lesser f g v p q =
    let tests = ap (map (top 7)) (lane_by_lane is_below f g v p q) ∙ map-map (top 7) (λ x. is_below (f x) (g x)) v in
    (λ i. sel_l (tests i) (p i) (q i)) ∙ sel-maps (λ x. top 7 (is_below (f x) (g x))) f g v

-- ---- bytes of two values each

byte_of : (a b : ℕ) → a < 16 → b < 16 → (a * 16 % 256 + b) % 256 ≡ a * 16 + b
byte_of a b ha hb = omega arith

-- the even lanes of sixteen, times 16, and the odd ones
abbrev pub pairs_of : List ℕ → List ℕ
pairs_of z =
    zip2 plus
    (zip2 (λ a b. a * b % 256) (pick_l 0 (z ++ z) (0 ∷ 2 ∷ 4 ∷ 6 ∷ 8 ∷ 10 ∷ 12 ∷ 14 ∷ [])) (replicate 8 16))
    (pick_l 0 (z ++ z) (1 ∷ 3 ∷ 5 ∷ 7 ∷ 9 ∷ 11 ∷ 13 ∷ 15 ∷ []))

pub pairs_of-values : (z : List ℕ) → length z ≡ 16 → Each1 (λ x. x < 16) z → pairs_of z ≡ paired z
unfolding paired
pairs_of-values (x0 ∷ x1 ∷ x2 ∷ x3 ∷ x4 ∷ x5 ∷ x6 ∷ x7 ∷ x8 ∷ x9 ∷ x10 ∷ x11 ∷ x12 ∷ x13 ∷ x14 ∷ x15 ∷ []) long small =
    ap₂ (λ y ys. y ∷ ys) (byte_of x0 x1 small.0 small.1.0)
    (ap₂ (λ y ys. y ∷ ys) (byte_of x2 x3 small.1.1.0 small.1.1.1.0)
    (ap₂ (λ y ys. y ∷ ys) (byte_of x4 x5 small.1.1.1.1.0 small.1.1.1.1.1.0)
    (ap₂ (λ y ys. y ∷ ys) (byte_of x6 x7 small.1.1.1.1.1.1.0 small.1.1.1.1.1.1.1.0)
    (ap₂ (λ y ys. y ∷ ys) (byte_of x8 x9 small.1.1.1.1.1.1.1.1.0 small.1.1.1.1.1.1.1.1.1.0)
    (ap₂ (λ y ys. y ∷ ys) (byte_of x10 x11 small.1.1.1.1.1.1.1.1.1.1.0 small.1.1.1.1.1.1.1.1.1.1.1.0)
    (ap₂ (λ y ys. y ∷ ys) (byte_of x12 x13 small.1.1.1.1.1.1.1.1.1.1.1.1.0 small.1.1.1.1.1.1.1.1.1.1.1.1.1.0)
    (ap₂ (λ y ys. y ∷ ys) (byte_of x14 x15 small.1.1.1.1.1.1.1.1.1.1.1.1.1.1.0 small.1.1.1.1.1.1.1.1.1.1.1.1.1.1.1.0)
    (refl))))))))
pairs_of-values z long small = absurd (omega arith)

values_fit : (xs : List ℕ) → Each1 (Fits w8) xs → Each1 (λ x. x < 16) (map digit_value xs)
values_fit [] fits = tt
values_fit (x ∷ xs) fits =
    (ltb-true (digit_value x) 16 (agree_below_at (λ y. ltb (digit_value y) 16) (λ _. true) 256 x refl fits.0.fits), values_fit xs fits.1)

-- what sixteen digits spell, by the values of lanes that agree with theirs
pub pairs_of-digits : (v z : List ℕ) (f : ℕ → ℕ) → length v ≡ 16 → Each1 (Fits w8) v → AllPass is_hex_digit v → z ≡ map f v
    → agree_below (λ x. not (is_hex_digit x) || eqb (f x) (digit_value x)) (λ _. true) 256 ≡ true
    → pairs_of z ≡ paired (map digit_value v)
pairs_of-digits v z f long fits digits lanes all =
    let values = lanes ∙ maps_agree f digit_value is_hex_digit v all fits digits in
    ap pairs_of values ∙ pairs_of-values (map digit_value v) (length-map v digit_value ∙ long) (values_fit v fits)

-- ---- what a text spells, in parts

abbrev IsDigit : ℕ → Type 0
IsDigit c = is_hex_digit c ≡ true

-- nothing was spelled yet
pub behind-nothing : (r : Result (List ℕ) FromHexError) → r ≡ behind [] r
behind-nothing (Ok more) = refl
behind-nothing (Err error) = refl

behind-behind : (xs ys : List ℕ) (r : Result (List ℕ) FromHexError) → behind xs (behind ys r) ≡ behind (xs ++ ys) r
behind-behind xs ys (Ok more) = ap Ok (sym (append_assoc xs ys more))
behind-behind xs ys (Err error) = refl

cons-behind : (x : ℕ) (xs : List ℕ) (r : Result (List ℕ) FromHexError) → cons_byte x (behind xs r) ≡ behind (x ∷ xs) r
cons-behind x xs (Ok more) = refl
cons-behind x xs (Err error) = refl

some_value : (o : Option ℕ) → is_some o ≡ true → o ≡ Some (unwrap_or o 0)
some_value (Some x) h = refl
some_value None h = cc h

pair_of : (a b place : ℕ) → is_hex_digit a ≡ true → is_hex_digit b ≡ true → pair_value a b place ≡ Ok (digit_value a * 16 + digit_value b)
pair_of a b place ha hb = rw (some_value (hex_digit_value a) ha, some_value (hex_digit_value b) hb) refl

-- digits in pairs spell their values, whatever stands behind them
pub decode_pairs-front : (place : ℕ) (xs ys : List ℕ) → length xs % 2 ≡ 0 → AllPass is_hex_digit xs
    → decode_pairs place (xs ++ ys) ≡ behind (paired (map digit_value xs)) (decode_pairs (place + length xs) ys)
unfolding paired
decode_pairs-front place [] ys even digits =
    let here : place ≡ place + 0 = omega arith in
    behind-nothing (decode_pairs place ys) ∙ ap (λ n. behind [] (decode_pairs n ys)) here
decode_pairs-front place (a ∷ []) ys even digits = absurd (omega arith)
decode_pairs-front place (a ∷ b ∷ xs) ys even digits =
    let rest = All-tail IsDigit a (b ∷ xs) digits in
    let pair = pair_of a b place (All-head IsDigit a (b ∷ xs) digits) (All-head IsDigit b xs rest) in
    let further : place + 2 + length xs ≡ place + suc (suc (length xs)) = omega arith in
    let more = decode_pairs-front (place + 2) xs ys (omega arith) (All-tail IsDigit b xs rest) in
    decode_pairs-ok_pair place a b _ (xs ++ ys) pair
    ∙ ap (cons_byte (digit_value a * 16 + digit_value b)) more
    ∙ cons-behind (digit_value a * 16 + digit_value b) (paired (map digit_value xs)) (decode_pairs (place + 2 + length xs) ys)
    ∙ ap (λ n. behind ((digit_value a * 16 + digit_value b) ∷ paired (map digit_value xs)) (decode_pairs n ys)) further

length-paired : (n : ℕ) (values : List ℕ) → length values ≡ 2 * n → length (paired values) ≡ n
unfolding paired
length-paired n [] long = omega arith
length-paired n (a ∷ []) long = absurd (omega arith)
length-paired zero (a ∷ b ∷ values) long = absurd (omega arith)
length-paired (suc n) (a ∷ b ∷ values) long = ap suc (length-paired n values (omega arith))

-- one block more is spelled
pub block_more : (text bytes : List ℕ) (done : ℕ) → 2 * done + 16 ≤ length text → done + 8 ≤ length bytes
    → AllPass is_hex_digit (chunk (2 * done) 16 text)
    → decode_pairs 0 text ≡ behind (take done bytes) (decode_pairs (2 * done) (drop (2 * done) text))
    → decode_pairs 0 text
    ≡ behind (take (done + 8) (put_chunk done bytes (paired (map digit_value (chunk (2 * done) 16 text)))))
    (decode_pairs (2 * (done + 8)) (drop (2 * (done + 8)) text))
block_more text bytes done room place digits before =
    let block = chunk (2 * done) 16 text in
    let spelled = paired (map digit_value block) in
    let rest = drop (2 * done + 16) text in
    let long : length block ≡ 16 = length-chunk (2 * done) 16 text room in
    let eight : length spelled ≡ 8 = length-paired 8 (map digit_value block) (length-map block digit_value ∙ long) in
    let split = chunk-drop (2 * done) 16 text in
    let next : 2 * done + length block ≡ 2 * done + 16 = ap (λ n. 2 * done + n) long in
    let same : 2 * done + 16 ≡ 2 * (done + 8) = omega arith in
    let front = decode_pairs-front (2 * done) block rest (omega (arith, long)) digits in
    before
    ∙ ap (λ t. behind (take done bytes) (decode_pairs (2 * done) t)) split
    ∙ ap (behind (take done bytes)) front
    ∙ behind-behind (take done bytes) spelled (decode_pairs (2 * done + length block) rest)
    ∙ ap (λ n. behind (take done bytes ++ spelled) (decode_pairs n rest)) next
    ∙ ap (λ t. behind t (decode_pairs (2 * done + 16) rest)) (sym (take_more_put_chunk done bytes spelled (done + 8) (omega (arith, eight)) place))
    ∙ ap (λ n. behind (take (done + 8) (put_chunk done bytes spelled)) (decode_pairs n (drop n text))) same

-- ---- the rest of a text, as `hex` tells it

-- where digits stand is no matter, but for a fault
pair_by-place : (a b i j : ℕ) (o p : Option ℕ)
    → result_ok (digit_or_error a i o >>= (λ h. digit_or_error b (i + 1) p >>= (λ l. Ok (h * 16 + l))))
    ≡ result_ok (digit_or_error a j o >>= (λ h. digit_or_error b (j + 1) p >>= (λ l. Ok (h * 16 + l))))
pair_by-place a b i j (Some h) (Some l) = refl
pair_by-place a b i j (Some h) None = refl
pair_by-place a b i j None p = refl

cons_both : (x y : ℕ) (r s : Result (List ℕ) FromHexError) → Some x ≡ Some y → result_ok r ≡ result_ok s → result_ok (cons_byte x r) ≡ result_ok (cons_byte y s)
cons_both x y (Ok xs) (Ok ys) e f = cc
cons_both x y (Ok xs) (Err d) e f = cc f
cons_both x y (Err d) (Ok ys) e f = cc f
cons_both x y (Err c) (Err d) e f = refl

step-place : (u v : Result ℕ FromHexError) (r s : Result (List ℕ) FromHexError) → result_ok u ≡ result_ok v → result_ok r ≡ result_ok s
    → result_ok (u >>= (λ byte. cons_byte byte r)) ≡ result_ok (v >>= (λ byte. cons_byte byte s))
step-place (Ok x) (Ok y) r s e f = cons_both x y r s e f
step-place (Ok x) (Err d) r s e f = cc e
step-place (Err c) (Ok y) r s e f = cc e
step-place (Err c) (Err d) r s e f = refl

decode_pairs-place : (i j : ℕ) (text : List ℕ) → result_ok (decode_pairs i text) ≡ result_ok (decode_pairs j text)
unfolding decode_pairs
decode_pairs-place i j [] = refl
decode_pairs-place i j (a ∷ []) = refl
decode_pairs-place i j (a ∷ b ∷ rest) =
    step-place (pair_value a b i) (pair_value a b j) (decode_pairs (i + 2) rest) (decode_pairs (j + 2) rest)
    (pair_by-place a b i j (hex_digit_value a) (hex_digit_value b))
    (decode_pairs-place (i + 2) (j + 2) rest)

result_ok-behind : (bytes : List ℕ) (r : Result (List ℕ) FromHexError) → result_ok (behind bytes r) ≡ option_map (λ more. bytes ++ more) (result_ok r)
result_ok-behind bytes (Ok more) = refl
result_ok-behind bytes (Err error) = refl

pub told_ok : (d : Result (List ℕ) FromHexError) (r : Result (Unit {0}) FromHexError) (x : Unit {0}) (out : List ℕ) → r ≡ Ok x
    → MatchResult d (λ bytes. (r ≡ Ok tt) × (out ≡ bytes)) (λ e. r ≡ Err e) → result_ok d ≡ Some out
told_ok (Ok bytes) r x out is told = ap Some (sym told.1)
told_ok (Err e) r x out is told = cc (is, told)

pub told_err : (d : Result (List ℕ) FromHexError) (r : Result (Unit {0}) FromHexError) (e : FromHexError) (out : List ℕ) → r ≡ Err e
    → MatchResult d (λ bytes. (r ≡ Ok tt) × (out ≡ bytes)) (λ f. r ≡ Err f) → result_ok d ≡ None
told_err (Ok bytes) r e out is told = cc (is, told.0)
told_err (Err f) r e out is told = refl

-- what a text spells, where so many bytes are spelled and the rest is told
pub spelled_by_parts : (text bytes rest : List ℕ) (done room : ℕ) → length text ≡ 2 * length bytes → done ≤ length bytes
    → rest ≡ drop (2 * done) text → room ≡ length bytes - done
    → decode_pairs 0 text ≡ behind (take done bytes) (decode_pairs (2 * done) (drop (2 * done) text))
    → result_ok (decode_of text) ≡ option_map (λ more. take done bytes ++ more) (result_ok (decode_sized rest room))
spelled_by_parts text bytes rest done room long within is_rest is_room blocks =
    let left : length rest ≡ 2 * room = omega (arith, ap length is_rest, length-drop (2 * done) text) in
    let told = decode_sized-twice rest room left ∙ decode_of-even rest (omega (arith, left)) in
    ap result_ok (decode_of-even text (omega (arith, long)) ∙ blocks)
    ∙ result_ok-behind (take done bytes) (decode_pairs (2 * done) (drop (2 * done) text))
    ∙ ap (λ t. option_map (λ more. take done bytes ++ more) (result_ok (decode_pairs (2 * done) t))) (sym is_rest)
    ∙ ap (option_map (λ more. take done bytes ++ more)) (decode_pairs-place (2 * done) 0 rest ∙ ap result_ok (sym told))

-- the parts of a list that go to its end
pub to_end : (k : ℕ) (xs : List ℕ) → take (length xs - k) (drop k xs) ≡ drop k xs
to_end k xs = take_all (length xs - k) (drop k xs) (omega (arith, length-drop k xs))

pub none_behind : (k : ℕ) (xs : List ℕ) → drop (length xs - k) (drop k xs) ≡ []
none_behind k xs = drop_all (length xs - k) (drop k xs) (omega (arith, length-drop k xs))
