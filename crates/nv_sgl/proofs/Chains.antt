-- Lemmas on a chain that grows, and on the pieces that it names.
use Rattle.std.proofs.Common.{◌≡◌, ℕ, ◌+◌, ◌<◌, Bool, true, false, List, [], ◌∷◌, ◌++◌}
use Rattle.std.proofs.Common.{length, get_or, take, arith, refl, sym, ◌∙◌, ap, subst, append_assoc, append-nil}
use Rattle.std.proofs.lemmas.List.Sums.{sum_by-append}
use Rattle.std.proofs.lemmas.List.{flat_map_more, take_more}
use Rattle.nv_entry.specs.Descriptor.{kind_of}
use Rattle.nv_mem.specs.Places.{piece_len, total_len}
use Rattle.nv_mem.specs.declared.piece.Piece.{Piece}
use Rattle.nv_model.specs.Sgl.{pieces_by}
use Rattle.nv_sgl.specs.Chain.{begins_array, grown_by, pieces_in, pieces_of}
use Rattle.nv_sgl.specs.Cursor.{reading_from, ExtendsChain, ReadsPart}
use Rattle.nv_model.specs.Transcript.{fed, units_fed}
use Rattle.nv_sgl.specs.declared.cursor.Cursor.{Cursor}

-- the newest array's pieces come last
pub pieces_in-cons : (dest : Bool) (array : List (List ℕ)) (older : List (List (List ℕ)))
    → pieces_in dest (array ∷ older) ≡ pieces_in dest older ++ pieces_of dest array
unfolding pieces_in
pieces_in-cons dest array older = refl

-- and so do their bytes
pub total_len-cons : (dest : Bool) (array : List (List ℕ)) (older : List (List (List ℕ)))
    → total_len (pieces_in dest (array ∷ older)) ≡ total_len (pieces_in dest older) + total_len (pieces_of dest array)
unfolding pieces_in
total_len-cons dest array older = sum_by-append piece_len (pieces_in dest older) (pieces_of dest array)

-- no descriptors name nothing
pub pieces_of-nil : (dest : Bool) → pieces_of dest [] ≡ []
unfolding pieces_of
pieces_of-nil dest = refl

-- the newest array goes on
pub ExtendsChain-more : (mapped : ℕ → Bool) (dest : Bool) (from : Cursor) (bytes : List ℕ) (array : List (List ℕ)) (older : List (List (List ℕ))) (to : Cursor) (these : List (List ℕ))
    → begins_array (array ∷ older) ≡ false → ReadsPart mapped dest from bytes array to these
    → ExtendsChain mapped dest from bytes (array ∷ older) to (these ∷ older)
unfolding pieces_in
ExtendsChain-more mapped dest from bytes array older to these more reads = record {
  dialogue = reads.dialogue (pieces_in dest older);
  chain =
      ap (λ (ds : List (List ℕ)). ds ∷ older) (reads.blocks (pieces_in dest older))
      ∙ ap (λ (b : Bool). grown_by b (array ∷ older) (units_fed (reading_from mapped dest from (pieces_in dest (array ∷ older))) bytes)) (sym more);
  total =
      let those_all = total_len-cons dest array older in
      let these_all = total_len-cons dest these older in
      let total = reads.total in
      omega arith;
  in_range = reads.in_range;
}

-- an array begins
pub ExtendsChain-first : (mapped : ℕ → Bool) (dest : Bool) (from : Cursor) (bytes : List ℕ) (old : List (List (List ℕ))) (to : Cursor) (these : List (List ℕ))
    → begins_array old ≡ true → ReadsPart mapped dest from bytes [] to these
    → ExtendsChain mapped dest from bytes old to (these ∷ old)
unfolding pieces_in
ExtendsChain-first mapped dest from bytes old to these first reads =
    let before : pieces_in dest old ++ pieces_of dest [] ≡ pieces_in dest old = ap (λ (ps : List Piece). pieces_in dest old ++ ps) (pieces_of-nil dest) ∙ append-nil (pieces_in dest old) in
    record {
      dialogue =
          reads.dialogue (pieces_in dest old)
          ∙ ap (λ (ps : List Piece). fed (reading_from mapped dest from ps) bytes) before;
      chain =
          ap (λ (ds : List (List ℕ)). ds ∷ old) (reads.blocks (pieces_in dest old) ∙ ap (λ (ps : List Piece). units_fed (reading_from mapped dest from ps) bytes) before)
          ∙ ap (λ (b : Bool). grown_by b old (units_fed (reading_from mapped dest from (pieces_in dest old)) bytes)) (sym first);
      total =
          let none : total_len (pieces_of dest []) ≡ 0 = ap total_len (pieces_of-nil dest) in
          let these_all = total_len-cons dest these old in
          let total = reads.total in
          omega arith;
      in_range = reads.in_range;
    }

-- one more descriptor's pieces
pub pieces_of-next : (dest : Bool) (blocks : List (List ℕ)) (i : ℕ) (d : List ℕ) (start now new : List Piece)
    → i < length blocks → d ≡ get_or blocks i d → now ≡ start ++ pieces_of dest (take i blocks)
    → new ≡ now ++ pieces_by (kind_of d) dest d → new ≡ start ++ pieces_of dest (take (i + 1) blocks)
unfolding pieces_of
pieces_of-next dest blocks i d start now new below is so_far more =
    more
    ∙ ap (λ (ps : List Piece). ps ++ pieces_by (kind_of d) dest d) so_far
    ∙ flat_map_more (λ e. pieces_by (kind_of e) dest e) start (take i blocks) d
    ∙ ap (λ (ds : List (List ℕ)). start ++ pieces_of dest ds) (ap (λ (e : List ℕ). take i blocks ++ e ∷ []) is ∙ sym (take_more blocks i d below))

-- the newest array goes on, in the names of the code
pub ExtendsChain-more_at : (mapped : ℕ → Bool) (dest : Bool) (from : Cursor) (bytes : List ℕ) (array : List (List ℕ))
    (older old : List (List (List ℕ))) (to : Cursor) (these : List (List ℕ))
    → array ∷ older ≡ old → begins_array old ≡ false → ReadsPart mapped dest from bytes array to these
    → ExtendsChain mapped dest from bytes old to (these ∷ older)
ExtendsChain-more_at mapped dest from bytes array older old to these is more reads =
    let P : List (List (List ℕ)) → Type 0 = λ c. ExtendsChain mapped dest from bytes c to (these ∷ older) in
    subst P is (ExtendsChain-more mapped dest from bytes array older to these (ap begins_array is ∙ more) reads)

-- an array begins, in the names of the code
pub ExtendsChain-first_at : (mapped : ℕ → Bool) (dest : Bool) (from : Cursor) (bytes : List ℕ) (none : List (List ℕ)) (old new : List (List (List ℕ))) (to : Cursor) (these : List (List ℕ))
    → none ≡ [] → new ≡ these ∷ old → begins_array old ≡ true → ReadsPart mapped dest from bytes none to these
    → ExtendsChain mapped dest from bytes old to new
ExtendsChain-first_at mapped dest from bytes none old new to these is_none is first reads =
    let P : List (List (List ℕ)) → Type 0 = λ c. ExtendsChain mapped dest from bytes old to c in
    let Q : List (List ℕ) → Type 0 = λ ds. ReadsPart mapped dest from bytes ds to these in
    subst P (sym is) (ExtendsChain-first mapped dest from bytes old to these first (subst Q is_none reads))

-- the pieces of an array behind those of the older ones
pub pieces_in-pushed : (dest : Bool) (start mid new : List Piece) (array read : List (List ℕ)) (older chain : List (List (List ℕ)))
    → array ∷ older ≡ chain → read ≡ array → mid ≡ start ++ pieces_in dest older → new ≡ mid ++ pieces_of dest read
    → new ≡ start ++ pieces_in dest chain
pieces_in-pushed dest start mid new array read older chain is is_read so_far more =
    more
    ∙ ap (λ (ds : List (List ℕ)). mid ++ pieces_of dest ds) is_read
    ∙ ap (λ (ps : List Piece). ps ++ pieces_of dest array) so_far
    ∙ append_assoc start (pieces_in dest older) (pieces_of dest array)
    ∙ ap (λ (ps : List Piece). start ++ ps) (sym (pieces_in-cons dest array older) ∙ ap (pieces_in dest) is)

-- no array names nothing
pub pieces_in-nil : (dest : Bool) (start : List Piece) → start ≡ start ++ pieces_in dest []
unfolding pieces_in
pieces_in-nil dest start = sym (append-nil start)
