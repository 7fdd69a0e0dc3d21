-- The fields of a data structure, written from the last to the first.
use Rattle.std.proofs.Common.{◌≡◌, ℕ, ◌+◌, ◌-◌, ◌≤◌, true, ◌&&◌, nat_le, List, [], ◌∷◌, ◌++◌}
use Rattle.std.proofs.Common.{length, map, take, drop, replicate, append_assoc, refl, sym, ap, ◌∙◌, arith, leb-true}
use Rattle.std.proofs.lemmas.List.{drop-drop, length-replicate}
use Rattle.std.proofs.lemmas.List.Folds.{list_all-append}
use Rattle.std.specs.List.{list_all}
use Rattle.nv_entry.specs.Layout.{number_bytes}
use borrow.Rule.Slice.PartMut.{put_mid}
use Rattle.nv_mem.specs.Bytes.{after_store}
use Rattle.nv_model.specs.Admin.{structure}
use Rattle.nv_model.specs.Limits.{page}
use Rattle.nv_model.proofs.Endings.{and-true}
use Rattle.nv_admin.specs.DataStructure.{field_bytes, is_field}
use Rattle.nv_admin.specs.declared.data_structure.Field.{Field}

-- bytes with these fields written, the last first
pub written : List Field → List ℕ → List ℕ
written [] bytes = bytes
written (f ∷ fs) bytes = after_store (written fs bytes) f.offset (number_bytes f.len f.value)

-- over zeros that is the structure
written-zeros : (fs : List Field) → written fs (structure []) ≡ structure (map field_bytes fs)
unfolding written structure
written-zeros [] = refl
written-zeros (f ∷ fs) = ap (λ (bytes : List ℕ). after_store bytes f.offset (number_bytes f.len f.value)) (written-zeros fs)

-- the last field is written first
written-append : (fs : List Field) (f : Field) (bytes : List ℕ)
    → written (fs ++ f ∷ []) bytes ≡ written fs (after_store bytes f.offset (number_bytes f.len f.value))
unfolding written
written-append [] f bytes = refl
written-append (g ∷ fs) f bytes = ap (λ (bs : List ℕ). after_store bs g.offset (number_bytes g.len g.value)) (written-append fs f bytes)

-- zeros are the empty structure
pub zeros : replicate page 0 ≡ structure []
unfolding structure
zeros = refl

-- zeros are a page
length-zeros : length (structure []) ≡ page
unfolding structure
length-zeros = length-replicate {A = ℕ} page 0

-- what a loop over the fields keeps: those that are left, written, give the whole
pub record IsWrittenTo (fields : List Field) (bytes : List ℕ) (left : List Field) : Type 0 where
  pub whole : written left bytes ≡ structure (map field_bytes fields)
  pub size : length bytes ≡ page
  pub fit : list_all is_field left ≡ true

pub IsWrittenTo-first : (fields : List Field) (bytes : List ℕ)
    → bytes ≡ structure [] → list_all is_field fields ≡ true → IsWrittenTo fields bytes fields
IsWrittenTo-first fields bytes zeros fit = record {
  whole = ap (written fields) zeros ∙ written-zeros fields;
  size = ap (λ (bs : List ℕ). length bs) zeros ∙ length-zeros;
  fit = fit;
}

-- the last of the fields that are left, and those before it
pub IsWrittenTo-last : (fields : List Field) (bytes : List ℕ) (left before : List Field) (f : Field)
    → IsWrittenTo fields bytes left → left ≡ before ++ f ∷ [] → (is_field f ≡ true) × (list_all is_field before ≡ true)
IsWrittenTo-last fields bytes left before f so_far is =
    let all : (list_all is_field before && (is_field f && true)) ≡ true =
    sym (list_all-append is_field before (f ∷ [])) ∙ ap (list_all is_field) (sym is) ∙ so_far.fit in
    let parts = and-true (list_all is_field before) (is_field f && true) all in
    ((and-true (is_field f) true parts.1).0, parts.0)

-- one more field
pub IsWrittenTo-next : (fields : List Field) (bytes new : List ℕ) (left before : List Field) (f : Field)
    → IsWrittenTo fields bytes left → left ≡ before ++ f ∷ []
    → new ≡ after_store bytes f.offset (number_bytes f.len f.value) → length new ≡ length bytes → IsWrittenTo fields new before
IsWrittenTo-next fields bytes new left before f so_far is stored same = record {
  whole = ap (written before) stored ∙ sym (written-append before f bytes) ∙ ap (λ (fs : List Field). written fs bytes) (sym is)
      ∙ so_far.whole;
  size = same ∙ so_far.size;
  fit = (IsWrittenTo-last fields bytes left before f so_far is).1;
}

-- no field is left
pub IsWrittenTo-end : (fields : List Field) (bytes : List ℕ) (left : List Field) → length left ≡ 0 → IsWrittenTo fields bytes left
    → bytes ≡ structure (map field_bytes fields)
unfolding written
IsWrittenTo-end fields bytes [] none so_far = so_far.whole
IsWrittenTo-end fields bytes (f ∷ left) none so_far = absurd (omega arith)

-- ---- a field

-- what the test of a field says
pub field-fits : (f : Field) → is_field f ≡ true → (f.len ≤ 8) × (f.offset + f.len ≤ page)
field-fits f is =
    let parts = and-true (nat_le f.len 8) (nat_le (f.offset + f.len) page) is in
    (leb-true f.len 8 parts.0, leb-true (f.offset + f.len) page parts.1)

-- bytes in the place of others
pub stored-at : (bytes : List ℕ) (addr len : ℕ) (new piece : List ℕ) → new ≡ piece → length piece ≡ len
    → put_mid addr (addr + len - addr) bytes new ≡ after_store bytes addr piece
stored-at bytes addr len new piece is size =
    let behind : addr + len - addr ≡ length piece = omega arith in
    rw (is, behind, drop-drop)
    (sym (append_assoc (take addr bytes) piece (drop (addr + length piece) bytes)))
