-- A guest's memory that is read and written by its addresses, run by run.
use Rattle.std.proofs.Common.{◌≡◌, ℕ, ◌+◌, ◌-◌, ◌<◌, ◌≤◌, List, ◌++◌, length, take, drop, arith, refl, sym, ap, subst, ◌∙◌}
use borrow.Rule.Slice.PartMut.{put_mid, same_len_mid}
use Rattle.std.proofs.lemmas.Slice.{take-put_mid}
use Rattle.std.proofs.lemmas.List.{length-drop, length-take-le, take_all}
use Rattle.std.proofs.Math.Seq.{take-add}
use Rattle.nv_mem.proofs.Memory.{length-bytes_at}
use Rattle.std.specs.List.{AllPairs}
use mathlib.Core.Path.{fun_ext}
use Rattle.nv_mem.specs.Bytes.{after_store, bytes_at}
use Rattle.nv_mem.specs.declared.region.Region.{Region}
use Rattle.nv_mem.specs.GuestMap.{IsApart}
use Rattle.nv_mem.specs.MapRuns.{IsContiguous}
use Rattle.nv_model.specs.Memory.{byte_in, bytes_from, image, put_image, stored}
use Rattle.nv_model.proofs.MemoryAlike.{stored-at}
use Rattle.nv_model.proofs.MemoryLemmas.{bytes_from-append, bytes_from-list, bytes_from-same, stored-append, stored-list, stored-nil}
use Rattle.nv_model.proofs.PutImages.{image-mapped, image-put_image, put_image-own, put_image-twice}
use Rattle.nv_bounce.proofs.Scattered.{stored-row_at}

-- ---- reading

-- the front of what is read
pub record IsReadTo (memory : ℕ → ℕ) (addr len : ℕ) (out : List ℕ) (done : ℕ) : Type 0 where
  pub front : take done out ≡ bytes_from memory addr done
  pub size : length out ≡ len
  pub within : done ≤ len

-- nothing is read
pub IsReadTo-first : (memory : ℕ → ℕ) (addr : ℕ) (out : List ℕ) → IsReadTo memory addr (length out) out 0
unfolding bytes_from
IsReadTo-first memory addr out = record { front = refl; size = refl; within = omega arith }

-- the bytes of a row of the host are those of the guest's memory
row-bytes : (rs : List Region) (host : List ℕ) (addr from n : ℕ) → IsContiguous rs addr from n → from + n ≤ length host
    → bytes_at host from n ≡ bytes_from (image rs (byte_in host)) addr n
unfolding byte_in
row-bytes rs host addr from n run inside =
    sym (bytes_from-list host from n inside)
    ∙ sym (bytes_from-same (image rs (byte_in host)) (byte_in host) addr from n
    (λ i below. image-mapped rs (byte_in host) (addr + i) (from + i) (run.contiguous i below)))

-- how many bytes the next part has
pub part-length : (xs : List ℕ) (done k n : ℕ) → k ≡ n → n ≤ length xs - done → length (take k (drop done xs)) ≡ n
part-length xs done k n same most =
    let rest_len : length (drop done xs) ≡ length xs - done = length-drop done xs in
    length-take-le k (drop done xs) (omega arith) ∙ same

-- one more row is read
pub IsReadTo-next : (rs : List Region) (host : List ℕ) (addr len : ℕ) (out part : List ℕ) (done from k n : ℕ)
    → IsReadTo (image rs (byte_in host)) addr len out done → IsContiguous rs (addr + done) from n → n ≤ length out - done → from + n ≤ length host
    → k ≡ n → done < length out → part ≡ bytes_at host from (length (take k (drop done out)))
    → IsReadTo (image rs (byte_in host)) addr len (put_mid done k out part) (done + n)
IsReadTo-next rs host addr len out part done from k n so_far run most inside same some is =
    let within = so_far.within in
    let size = so_far.size in
    let whole : part ≡ bytes_at host from n = is ∙ ap (bytes_at host from) (part-length out done k n same most) in
    let part_len : length part ≡ n = ap (λ (xs : List ℕ). length xs) whole ∙ length-bytes_at host from n (λ _. inside) in
    let end : done + n ≡ done + length part = ap (λ (j : ℕ). done + j) (sym part_len) in
    record {
      front =
          take-put_mid done k out part (done + n) end (omega arith)
          ∙ ap (λ (xs : List ℕ). xs ++ part) so_far.front
          ∙ ap (λ (xs : List ℕ). bytes_from (image rs (byte_in host)) addr done ++ xs) (whole ∙ row-bytes rs host (addr + done) from n run inside)
          ∙ sym (bytes_from-append (image rs (byte_in host)) addr done n);
      size = same_len_mid done k out part (part_len ∙ sym (part-length out done k n same most)) ∙ size;
      within = omega arith;
    }

-- all is read
pub IsReadTo-end : (memory : ℕ → ℕ) (addr len : ℕ) (out : List ℕ) (done : ℕ) → length out ≤ done → IsReadTo memory addr len out done
    → out ≡ bytes_from memory addr len
IsReadTo-end memory addr len out done past so_far =
    let within = so_far.within in
    let size = so_far.size in
    let all : done ≡ len = omega arith in
    sym (take_all done out past) ∙ so_far.front ∙ ap (bytes_from memory addr) all

-- ---- writing

-- the front of what is written
pub record IsWrittenTo (rs : List Region) (before : List ℕ) (addr : ℕ) (bytes now : List ℕ) (done : ℕ) : Type 0 where
  pub written : byte_in now ≡ put_image rs (stored (image rs (byte_in before)) addr (take done bytes)) (byte_in before)
  pub size : length now ≡ length before
  pub within : done ≤ length bytes

-- nothing is written
pub IsWrittenTo-first : (rs : List Region) (before : List ℕ) (addr : ℕ) (bytes : List ℕ) → AllPairs IsApart rs
    → IsWrittenTo rs before addr bytes before 0
IsWrittenTo-first rs before addr bytes apart = record {
  written =
      sym (put_image-own rs (byte_in before) apart)
      ∙ ap (λ (g : ℕ → ℕ). put_image rs g (byte_in before)) (sym (stored-nil (image rs (byte_in before)) addr));
  size = refl;
  within = omega arith;
}

-- bytes that lie in a row in the host are put into the guest's memory
stored-row : (rs : List Region) (m : ℕ → ℕ) (addr host : ℕ) (bytes : List ℕ) → AllPairs IsApart rs → IsContiguous rs addr host (length bytes)
    → stored m host bytes ≡ put_image rs (stored (image rs m) addr bytes) m
stored-row rs m addr host bytes apart run = fun_ext (λ at. stored-row_at rs m addr host bytes at apart run)

-- such bytes behind those that are there already
stored-behind : (rs : List Region) (m : ℕ → ℕ) (addr : ℕ) (front piece : List ℕ) → AllPairs IsApart rs
    → put_image rs (stored (image rs (put_image rs (stored (image rs m) addr front) m)) (addr + length front) piece)
    (put_image rs (stored (image rs m) addr front) m)
    ≡ put_image rs (stored (image rs m) addr (front ++ piece)) m
stored-behind rs m addr front piece apart =
    let first : ℕ → ℕ = stored (image rs m) addr front in
    put_image-twice rs first (stored (image rs (put_image rs first m)) (addr + length front) piece) (stored first (addr + length front) piece) m apart
    (λ at there. stored-at (image rs (put_image rs first m)) first (addr + length front) piece at (image-put_image rs first m at apart there))
    ∙ ap (λ (g : ℕ → ℕ). put_image rs g m) (stored-append (image rs m) addr front piece)

-- one more row is written
pub IsWrittenTo-next : (rs : List Region) (before : List ℕ) (addr : ℕ) (bytes now new : List ℕ) (done to k n : ℕ) → AllPairs IsApart rs
    → IsWrittenTo rs before addr bytes now done → IsContiguous rs (addr + done) to n → n ≤ length bytes - done → to + n ≤ length now
    → k ≡ n → done < length bytes → new ≡ after_store now to (take k (drop done bytes)) → length new ≡ length now
    → IsWrittenTo rs before addr bytes new (done + n)
unfolding byte_in
IsWrittenTo-next rs before addr bytes now new done to k n apart so_far run most inside of_k some is same =
    let within = so_far.within in
    let piece : List ℕ = take n (drop done bytes) in
    let piece_len : length piece ≡ n = part-length bytes done n n refl most in
    let front_len : length (take done bytes) ≡ done = length-take-le done bytes within in
    let m : ℕ → ℕ = byte_in before in
    let first : ℕ → ℕ = put_image rs (stored (image rs m) addr (take done bytes)) m in
    let row : IsContiguous rs (addr + length (take done bytes)) to (length piece) =
    subst (λ (k : ℕ). IsContiguous rs (addr + k) to (length piece)) (sym front_len)
    (subst (λ (k : ℕ). IsContiguous rs (addr + done) to k) (sym piece_len) run) in
    record {
      written =
          ap byte_in (is ∙ ap (λ (j : ℕ). after_store now to (take j (drop done bytes))) of_k) ∙ sym (stored-list now to piece (omega arith))
          ∙ ap (λ (f : ℕ → ℕ). stored f to piece) so_far.written
          ∙ stored-row rs first (addr + length (take done bytes)) to piece apart row
          ∙ stored-behind rs m addr (take done bytes) piece apart
          ∙ ap (λ (xs : List ℕ). put_image rs (stored (image rs m) addr xs) m) (sym (take-add done n bytes));
      size = same ∙ so_far.size;
      within = omega arith;
    }

-- all is written
pub IsWrittenTo-end : (rs : List Region) (before : List ℕ) (addr : ℕ) (bytes now : List ℕ) (done : ℕ) → length bytes ≤ done
    → IsWrittenTo rs before addr bytes now done
    → byte_in now ≡ put_image rs (stored (image rs (byte_in before)) addr bytes) (byte_in before)
IsWrittenTo-end rs before addr bytes now done past so_far =
    so_far.written ∙ ap (λ (xs : List ℕ). put_image rs (stored (image rs (byte_in before)) addr xs) (byte_in before)) (take_all done bytes past)
