-- Places that are cut: the pieces that have bytes, piece by piece, and part by part.
use Rattle.std.proofs.Common.{◌≡◌, ℕ, ◌+◌, ◌-◌, ◌*◌, ◌<◌, ◌≤◌, min, Bool, true, false, cond, All, List, [], ◌∷◌, ◌++◌, append-nil, append_assoc}
use Rattle.std.proofs.Common.{◌^◌, Some, length, map, slice_get, take, refl, ap, sym, subst, ◌∙◌, arith}
use Rattle.std.specs.List.{filter, sum_by}
use Rattle.std.proofs.lemmas.Bool.Decides.{nat_tests}
use Rattle.std.proofs.lemmas.Grind.{common_steps}
use Rattle.std.proofs.lemmas.List.{length-append, map-append}
use Rattle.std.proofs.lemmas.List.Elements.{All-cons, All-head, All-nil, All-tail, All-weaker}
use Rattle.nv_mem.specs.GuestMap.{Mapping, IsSound, mapped}
use Rattle.nv_mem.specs.Places.{piece_len, total_len}
use Rattle.nv_mem.specs.declared.piece.Piece.{Piece}
use Rattle.nv_mem.specs.declared.piece.Piece.TheVariants as piece
use Rattle.nv_mem.proofs.MappedRuns.{mapped-below}
use Rattle.nv_model.specs.Laws.{IsMappedPiece}
use Rattle.nv_ns.specs.BlockRange.{in_namespace}
use Rattle.nv_ns.specs.Extents.{Cut, Namespace, blocks_in, cuts}
use Rattle.nv_ns.specs.Laws.{NamesBlocks}
use Rattle.nv_ns.proofs.CutWalk.{cuts-walk}
use Rattle.nv_ns.proofs.Ranges.{InNamespace-tested}
use Rattle.nv_ns.proofs.Spelled.{walk-few, walk-firsts, walk-names, walk-sums}
use Rattle.nv_world_model.specs.Share.{cut_piece}
use Rattle.nv_world_model.proofs.CutPieces.{cut_pieces-all}
use Rattle.nv_plan.specs.Outline.{Portion}
use Rattle.nv_plan.specs.Parts.{HasBytes, has_bytes}
use Rattle.nv_plan.specs.Runs.{AreEnds, runs}
use Rattle.nv_plan.specs.Told.{IsAddressed, cut_places, of_places, portion_cut}
use Rattle.nv_plan.proofs.CutRuns.{AreEnds-more, runs-more, take-next}

-- a piece with bytes, and one with none
pub has_bytes-true : (p : Piece) → HasBytes p → has_bytes p ≡ true
has_bytes-true p some = grind (arith, common_steps)

pub has_bytes-false : (p : Piece) → piece_len p ≡ 0 → has_bytes p ≡ false
has_bytes-false p none = grind (arith, common_steps)

has_bytes-some : (p : Piece) → has_bytes p ≡ true → HasBytes p
has_bytes-some p is = grind (arith, nat_tests)

-- pieces that all have bytes are kept as they are
pub filter-all : (pieces : List Piece) → All HasBytes pieces → filter has_bytes pieces ≡ pieces
filter-all [] each = refl
filter-all (p ∷ ps) each =
    let first = has_bytes-true p (All-head HasBytes p ps each) in
    ap (λ (b : Bool). cond b (p ∷ filter has_bytes ps) (filter has_bytes ps)) first
    ∙ ap (λ (rest : List Piece). p ∷ rest) (filter-all ps (All-tail HasBytes p ps each))

-- ---- piece by piece

len-cut_piece : (skip len : ℕ) (p : Piece) → piece_len (cut_piece skip len p) ≡ min len (piece_len p - skip)
len-cut_piece skip len (piece.Run addr bytes) = refl
len-cut_piece skip len (piece.Bucket bytes) = refl

cut_piece-fits : (skip len here : ℕ) (p : Piece) → here ≡ min (piece_len p - skip) len → cut_piece skip here p ≡ cut_piece skip len p
cut_piece-fits skip len here (piece.Run addr bytes) is =
    let same : min here (bytes - skip) ≡ min len (bytes - skip) = omega arith in ap (piece.Run (addr + skip)) same
cut_piece-fits skip len here (piece.Bucket bytes) is =
    let same : min here (bytes - skip) ≡ min len (bytes - skip) = omega arith in ap piece.Bucket same

-- what is kept of nothing
cut_places-none : (skip : ℕ) (pieces : List Piece) → cut_places skip 0 pieces ≡ []
cut_places-none skip [] = refl
cut_places-none skip (p ∷ ps) =
    let len = len-cut_piece skip 0 p in
    let none = has_bytes-false (cut_piece skip 0 p) (omega arith) in
    let left : 0 - (piece_len p - skip) ≡ 0 = omega arith in
    ap (λ (b : Bool). cond b (cut_piece skip 0 p ∷ cut_places (skip - piece_len p) (0 - (piece_len p - skip)) ps)
    (cut_places (skip - piece_len p) (0 - (piece_len p - skip)) ps)) none
    ∙ ap (λ (n : ℕ). cut_places (skip - piece_len p) n ps) left ∙ cut_places-none (skip - piece_len p) ps

-- no more pieces are kept than bytes
pub few-places : (skip len : ℕ) (pieces : List Piece) → length (cut_places skip len pieces) ≤ len
few-places skip len [] = omega arith
few-places skip len (p ∷ ps) =
    let size = len-cut_piece skip len p in
    let on = few-places (skip - piece_len p) (len - (piece_len p - skip)) ps in
    by_bytes (has_bytes (cut_piece skip len p)) refl size on
  where
    by_bytes : (b : Bool) → has_bytes (cut_piece skip len p) ≡ b → piece_len (cut_piece skip len p) ≡ min len (piece_len p - skip)
        → length (cut_places (skip - piece_len p) (len - (piece_len p - skip)) ps) ≤ len - (piece_len p - skip)
        → length (cond b (cut_piece skip len p ∷ cut_places (skip - piece_len p) (len - (piece_len p - skip)) ps)
        (cut_places (skip - piece_len p) (len - (piece_len p - skip)) ps)) ≤ len
    by_bytes true has size on = let some = has_bytes-some (cut_piece skip len p) has in omega arith
    by_bytes false has size on = omega arith

-- what a loop over the pieces keeps: with these places, and what is still cut of the rest, there is all
pub record IsCutting (all places : List Piece) (ahead left : ℕ) (rest : List Piece) : Type 0 where
  pub addressed : All IsAddressed rest
  pub goes : places ++ cut_places ahead left rest ≡ all

pub IsCutting-end : (all places : List Piece) (ahead left : ℕ) (rest : List Piece) → IsCutting all places ahead left rest
    → left ≡ 0 → places ≡ all
IsCutting-end all places ahead left rest so_far none =
    sym (append-nil places)
    ∙ ap (λ (ps : List Piece). places ++ ps) (sym (ap (λ (n : ℕ). cut_places ahead n rest) none ∙ cut_places-none ahead rest)) ∙ so_far.goes

pub IsCutting-out : (all places : List Piece) (ahead left : ℕ) (rest : List Piece) → IsCutting all places ahead left rest
    → length rest ≡ 0 → places ≡ all
IsCutting-out all places ahead left [] so_far none = sym (append-nil places) ∙ so_far.goes
IsCutting-out all places ahead left (p ∷ rest) so_far none = absurd (omega arith)

pub IsCutting-next : (all places : List Piece) (ahead left : ℕ) (rest : List Piece) (p : Piece) (behind : List Piece)
    → IsCutting all places ahead left rest → rest ≡ p ∷ behind → IsAddressed p
IsCutting-next all places ahead left rest p behind so_far split =
    All-head IsAddressed p behind (subst (All IsAddressed) split so_far.addressed)

-- one more piece, of which there are bytes
pub IsCutting-more : (all places : List Piece) (ahead left : ℕ) (rest : List Piece) (p : Piece) (behind : List Piece)
    (here : ℕ) (next : List Piece) (past after : ℕ)
    → IsCutting all places ahead left rest → rest ≡ p ∷ behind → here ≡ min (piece_len p - ahead) left → 0 < here
    → next ≡ places ++ cut_piece ahead here p ∷ [] → past ≡ ahead - piece_len p → after ≡ left - here
    → IsCutting all next past after behind
IsCutting-more all places ahead left rest p behind here next past after so_far split is some grown beyond remains =
    let size = len-cut_piece ahead left p in
    let has = has_bytes-true (cut_piece ahead left p) (omega arith) in
    let kept : List Piece = cut_places (ahead - piece_len p) (left - (piece_len p - ahead)) behind in
    let fewer : after ≡ left - (piece_len p - ahead) = omega arith in
    let one : cut_places ahead left (p ∷ behind) ≡ cut_piece ahead left p ∷ kept = ap (λ (b : Bool). cond b (cut_piece ahead left p ∷ kept) kept) has in
    record {
      addressed = All-tail IsAddressed p behind (subst (All IsAddressed) split so_far.addressed);
      goes =
          ap (λ (ps : List Piece). ps ++ cut_places past after behind) grown
          ∙ append_assoc places (cut_piece ahead here p ∷ []) (cut_places past after behind)
          ∙ ap (λ (q : Piece). places ++ q ∷ cut_places past after behind) (cut_piece-fits ahead left here p is)
          ∙ ap (λ (n : ℕ). places ++ cut_piece ahead left p ∷ cut_places n after behind) beyond
          ∙ ap (λ (n : ℕ). places ++ cut_piece ahead left p ∷ cut_places (ahead - piece_len p) n behind) fewer
          ∙ ap (λ (ps : List Piece). places ++ ps) (sym one)
          ∙ ap (λ (ps : List Piece). places ++ cut_places ahead left ps) (sym split) ∙ so_far.goes;
    }

-- and one of which there are none
pub IsCutting-past : (all places : List Piece) (ahead left : ℕ) (rest : List Piece) (p : Piece) (behind : List Piece)
    (here past after : ℕ)
    → IsCutting all places ahead left rest → rest ≡ p ∷ behind → here ≡ min (piece_len p - ahead) left → here ≡ 0
    → past ≡ ahead - piece_len p → after ≡ left - here
    → IsCutting all places past after behind
IsCutting-past all places ahead left rest p behind here past after so_far split is none beyond remains =
    let size = len-cut_piece ahead left p in
    let has = has_bytes-false (cut_piece ahead left p) (omega arith) in
    let kept : List Piece = cut_places (ahead - piece_len p) (left - (piece_len p - ahead)) behind in
    let fewer : after ≡ left - (piece_len p - ahead) = omega arith in
    let one : cut_places ahead left (p ∷ behind) ≡ kept = ap (λ (b : Bool). cond b (cut_piece ahead left p ∷ kept) kept) has in
    record {
      addressed = All-tail IsAddressed p behind (subst (All IsAddressed) split so_far.addressed);
      goes =
          ap (λ (n : ℕ). places ++ cut_places n after behind) beyond
          ∙ ap (λ (n : ℕ). places ++ cut_places (ahead - piece_len p) n behind) fewer
          ∙ ap (λ (ps : List Piece). places ++ ps) (sym one)
          ∙ ap (λ (ps : List Piece). places ++ cut_places ahead left ps) (sym split) ∙ so_far.goes;
    }

-- ---- addresses

addressed : (m : Mapping) (p : Piece) → IsSound m → IsMappedPiece (mapped m.regions) p → IsAddressed p
addressed m (piece.Run addr len) sound there = λ i below. mapped-below m addr len i sound there below
addressed m (piece.Bucket len) sound there = tt

-- those of mapped pieces fit in 64 bits
pub all-addressed : (m : Mapping) (pieces : List Piece) → IsSound m → All (IsMappedPiece (mapped m.regions)) pieces → All IsAddressed pieces
all-addressed m [] sound each = All-nil IsAddressed
all-addressed m (p ∷ ps) sound each =
    All-cons IsAddressed p ps (addressed m p sound (All-head (IsMappedPiece (mapped m.regions)) p ps each))
    (all-addressed m ps sound (All-tail (IsMappedPiece (mapped m.regions)) p ps each))

-- so the sum is a number of 64 bits
pub address-fits : (p : Piece) (addr len skip : ℕ) → IsAddressed p → p ≡ piece.Run addr len → skip < piece_len p → addr + skip < 18446744073709551616
address-fits p addr len skip fits is below =
    let there = subst IsAddressed is fits in
    let size = ap piece_len is in
    there skip (omega arith)

-- ---- a run in one extent

pub one-cut : (ns : Namespace) (slba count : ℕ) (pieces : List Piece) → in_namespace slba count (blocks_in ns) ≡ true → 0 < count
    → length (cuts ns slba count) ≤ 1 → total_len pieces ≡ 512 * count → All HasBytes pieces
    → map (portion_cut pieces) (cuts ns slba count) ≡ of_places pieces ∷ []
one-cut ns slba count pieces fits some few bytes each =
    let inside = InNamespace-tested slba count (blocks_in ns) fits in
    let walked = cuts-walk ns slba count in
    let sums = ap (λ (parts : List Cut). sum_by (λ (c : Cut). c.count) parts) walked ∙ walk-sums 0 ns slba count (omega (arith, inside.0, inside.1)) in
    by_parts (cuts ns slba count) few sums
    (λ cut is. walk-firsts 0 ns slba count 0 cut (sym (ap (λ (parts : List Cut). slice_get parts 0) walked) ∙ is))
  where
    by_parts : (parts : List Cut) → length parts ≤ 1 → sum_by (λ (c : Cut). c.count) parts ≡ count
        → ((cut : Cut) → slice_get parts 0 ≡ Some cut → cut.first ≡ 0) → map (portion_cut pieces) parts ≡ of_places pieces ∷ []
    by_parts [] most sums firsts = absurd (omega arith)
    by_parts (cut ∷ []) most sums firsts =
        let first = firsts cut refl in
        let skip : 512 * cut.first ≡ 0 = omega arith in
        let len : 512 * cut.count ≡ total_len pieces = omega arith in
        ap (λ (ps : List Piece). of_places ps ∷ [])
        (ap (λ (n : ℕ). cut_places n (512 * cut.count) pieces) skip
        ∙ ap (filter has_bytes) (cut_pieces-all (512 * cut.count) pieces (omega arith)) ∙ filter-all pieces each)
    by_parts (cut ∷ next ∷ rest) most sums firsts = absurd (omega arith)

-- ---- cuts of a transfer

-- they are short
pub small-cuts : (ns : Namespace) (slba count : ℕ) (parts : List Cut) → parts ≡ cuts ns slba count → count ≤ 2 ^ 16
    → All (λ (cut : Cut). cut.first + cut.count ≤ 2 ^ 16) parts
small-cuts ns slba count parts are short =
    All-weaker (NamesBlocks ns slba count) (λ (cut : Cut). cut.first + cut.count ≤ 2 ^ 16)
    (λ cut names. (let within = names.0 in omega arith)) parts
    (subst (All (NamesBlocks ns slba count)) (sym (are ∙ cuts-walk ns slba count)) (walk-names ns slba count))

-- no more than there are extents
pub few-cuts : (ns : Namespace) (slba count : ℕ) → length (cuts ns slba count) ≤ length ns
few-cuts ns slba count =
    let few = walk-few 0 ns slba count in
    let same = ap (λ (parts : List Cut). length parts) (cuts-walk ns slba count) in omega arith

-- ---- part by part

-- what a loop over the parts keeps: there are the places of the first parts, and where those of each end
pub record AreCut (pieces : List Piece) (parts : List Cut) (k : ℕ) (places : List Piece) (ends : List ℕ) : Type 0 where
  pub count : length ends ≡ k
  pub short : length places ≤ k * 33554432
  pub parted : AreEnds 0 ends (length places)
  pub goes : map of_places (runs places 0 ends) ≡ map (portion_cut pieces) (take k parts)

pub AreCut-start : (pieces : List Piece) (parts : List Cut) → AreCut pieces parts 0 [] []
AreCut-start pieces parts = record { count = refl; short = omega arith; parted = refl; goes = refl }

pub AreCut-short : (pieces : List Piece) (parts : List Cut) (k : ℕ) (places : List Piece) (ends : List ℕ) (part : Cut) (next : List Piece)
    → AreCut pieces parts k places ends → part.count ≤ 65536 → next ≡ places ++ cut_places (512 * part.first) (512 * part.count) pieces
    → length next ≤ (k + 1) * 33554432
AreCut-short pieces parts k places ends part next so_far small grown =
    let len = ap (λ (ps : List Piece). length ps) grown ∙ length-append places (cut_places (512 * part.first) (512 * part.count) pieces) in
    let more = few-places (512 * part.first) (512 * part.count) pieces in
    let short = so_far.short in omega arith

pub AreCut-more : (pieces : List Piece) (parts : List Cut) (k : ℕ) (places : List Piece) (ends : List ℕ) (part : Cut) (next : List Piece) (others : List ℕ)
    → AreCut pieces parts k places ends → part.count ≤ 65536 → slice_get parts k ≡ Some part
    → next ≡ places ++ cut_places (512 * part.first) (512 * part.count) pieces → others ≡ ends ++ length next ∷ []
    → AreCut pieces parts (k + 1) next others
AreCut-more pieces parts k places ends part next others so_far small there grown ended =
    let more : List Piece = cut_places (512 * part.first) (512 * part.count) pieces in
    let len = ap (λ (ps : List Piece). length ps) grown ∙ length-append places more in
    let ends_len = ap (λ (es : List ℕ). length es) ended ∙ length-append ends (length next ∷ []) in
    let count = so_far.count in
    record {
      count = omega arith;
      short = AreCut-short pieces parts k places ends part next so_far small grown;
      parted = subst (λ (es : List ℕ). AreEnds 0 es (length next)) (sym ended) (AreEnds-more 0 ends (length places) (length next) so_far.parted (omega arith));
      goes =
          ap (λ (es : List ℕ). map of_places (runs next 0 es)) ended
          ∙ ap (λ (ps : List Piece). map of_places (runs ps 0 (ends ++ length ps ∷ []))) grown
          ∙ ap (λ (pss : List (List Piece)). map of_places pss) (runs-more places more 0 ends so_far.parted)
          ∙ map-append of_places (runs places 0 ends) (more ∷ [])
          ∙ ap (λ (ps : List Portion). ps ++ of_places more ∷ []) so_far.goes
          ∙ sym (map-append (portion_cut pieces) (take k parts) (part ∷ []))
          ∙ sym (ap (λ (cs : List Cut). map (portion_cut pieces) cs) (take-next parts k part there));
    }
