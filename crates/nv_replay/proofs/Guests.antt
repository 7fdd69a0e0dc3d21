-- The guests of a script, mapped one after another
use Rattle.std.proofs.Common.{◌≡◌, ℕ, ◌+◌, length, List, [], ◌∷◌, ◌++◌, Result, Ok, Err, refl, sym, ap, append_assoc, inl, inr}
use Rattle.std.proofs.lemmas.List.{append-nil}
use Rattle.std.specs.Prelude.{MatchResult}
use Rattle.std.specs.Result.{IsErrAnd}
use Rattle.nv_replay_script.specs.ReplaySetUp.{GuestValue}
use Rattle.nv_once_script.specs.OnceFault.{◌>>=◌}
use Rattle.nv_world_model.specs.Geometry.{Guest}
use Rattle.nv_replay.specs.Opening.{IsRefusalOf, guests_from, mapped_guest}
use Rattle.nv_replay.specs.declared.fault.ReplayFault.{ReplayFault}
use Rattle.nv_replay.specs.declared.fault.ReplayFault.TheVariants.{Refused}
use Rattle.nv_replay.specs.declared.refusal.SetUpRefusal.{SetUpRefusal}

-- guests behind those that were made
abbrev pub behind : List Guest → Result (List Guest) SetUpRefusal → Result (List Guest) SetUpRefusal
behind made (Ok guests) = Ok (made ++ guests)
behind made (Err refusal) = Err refusal

-- the guests that are left, behind those that were made
abbrev pub behind_from : (host : ℕ) → List Guest → List GuestValue → Result (List Guest) SetUpRefusal
behind_from host made left = behind made (guests_from host (length made) left)

abbrev all_of : List Guest → Result (List Guest) SetUpRefusal
all_of guests = Ok guests

-- a first guest behind them
behind-first : (made : List Guest) (first : Guest) (rest : Result (List Guest) SetUpRefusal)
    → behind made (rest >>= λ guests. all_of (first ∷ guests)) ≡ behind (made ++ first ∷ []) rest
behind-first made first (Ok guests) = ap all_of (sym (append_assoc made (first ∷ []) guests))
behind-first made first (Err refusal) = refl

-- none is left
pub guests_from-end : (host n : ℕ) (made : List Guest) → behind made (guests_from host n []) ≡ Ok made
unfolding guests_from
guests_from-end host n made = ap all_of (append-nil made)

-- all of them, before the first is made
pub behind-nothing : (rest : Result (List Guest) SetUpRefusal) → behind [] rest ≡ rest
behind-nothing (Ok guests) = refl
behind-nothing (Err refusal) = refl

-- one more guest that has a map
pub guests_from-mapped : (host n : ℕ) (made : List Guest) (guest : GuestValue) (left : List GuestValue) (first : Guest)
    → mapped_guest host n guest ≡ Ok first
    → behind made (guests_from host n (guest ∷ left)) ≡ behind (made ++ first ∷ []) (guests_from host (n + 1) left)
unfolding guests_from
guests_from-mapped host n made guest left first mapped = rw mapped (behind-first made first (guests_from host (n + 1) left))

refused-by : (first : Result Guest SetUpRefusal) (made : List Guest) (rest : Result (List Guest) SetUpRefusal) (fault : ReplayFault)
    → IsRefusalOf first fault → IsRefusalOf (behind made (first >>= λ guest. rest >>= λ guests. all_of (guest ∷ guests))) fault
refused-by first made rest fault (inl no_memory) = inl no_memory
refused-by (Ok guest) made rest fault (inr refused) = cc
refused-by (Err refusal) made rest fault (inr refused) = let same : Refused refusal ≡ fault = cc in inr (rw same refl)

-- a guest that is refused
pub guests_from-refused : (host n : ℕ) (made : List Guest) (guest : GuestValue) (left : List GuestValue) (fault : ReplayFault)
    → IsRefusalOf (mapped_guest host n guest) fault → IsRefusalOf (behind made (guests_from host n (guest ∷ left))) fault
unfolding guests_from
guests_from-refused host n made guest left fault refused = refused-by (mapped_guest host n guest) made (guests_from host (n + 1) left) fault refused

-- what holds of the one error that a result can be
pub MatchResult-err : {T E : Type 0} → (r : Result T E) (P : T → Type 0) (Q R : E → Type 0)
    → IsErrAnd r R → ((e : E) → R e → Q e) → MatchResult r P Q
MatchResult-err (Ok x) P Q R is holds = absurd is
MatchResult-err (Err e) P Q R is holds = holds e is
