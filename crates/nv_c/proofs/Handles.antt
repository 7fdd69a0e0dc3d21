-- The machine value of a handle, and what it owns. Assumes `Logic`.
use Rattle.std.proofs.Common.{◌≡◌, ℕ, List, [], ◌∷◌, ◌++◌, refl, subst, lit<}
use Rattle.std.specs.Prelude.{Option, None, Some}
use lib.Dec.{T}
use seplogic.Ra.Ura.{Ura}
use mir.Syntax.{impl, tnil, dnil}
use mir.Raw.{raw as bare}
use mir.Val.{Val, vstruct, vcons, vnil, of_list, has_ty, WT}
use base.Logic.{ent, via, never, never_e, id⊢, snd∗, guard, guard_i}
use base.Fml.{Fml, ftrue}
use types.Logic.{Logic, sem}
use types.Kit.{Item, Goal, Seq, Step, step, ‵, given, ◌$◌, drop, fsplit, fjoin, fpick, fpack, feq_i, feq_l, use1, learn}
use contract.Monad.{fact_use}
use denote.RattleType.{RattleType, Valss}
use denote.Builtin.{RawPtr}
use denote.Memory.{lone}
use denote.RawPtr.{Ptr, block_ptr, null_ptr, ptr_val, Testable, lies_at}
use base.Fraction.{full_share}
use denote.Steps.{nothing}
use denote.Struct.Struct.{within}
use denote.Struct.Owning.{shape}
use Rattle.std.specs.contracts.alloc.Global as global
use Rattle.std.proofs.alloc.Global.TheLaws as global_laws
use Rattle.std.specs.contracts.impls.GlobalAllocator.TheImpl.{ghosts, dict}
use Rattle.std.proofs.GlobalToken.{dealloc_token-Testable}
use Rattle.std_alloc.proofs.BoxSteps.Form.{Bx}
use Rattle.nv_c.specs.Held.{heap, boxed, hosts}
use Rattle.nv_c.specs.contracts.held.Held as hosted
use Rattle.nv_c.proofs.held.Held.TheLaws as hosted_laws
use Rattle.nv_c.specs.contracts.handle.Nvmed as handle

abbrev pub R : RattleType
R = hosted.the_row

abbrev pub Z : RattleType
Z = global.the_row

abbrev pub E : Bx
E = record { row = R; laws = hosted_laws.the_row_laws; al = record { row = Z; laws = global_laws.the_row_laws; g = ghosts; d = dict; drops = impl [] tnil dnil } }

abbrev pub Handle : RattleType
Handle = handle.the_row

-- a handle in the machine
abbrev pub word_of : Ptr → Val
word_of p = vstruct (vcons (ptr_val p) vnil)

pub word_typed : (p : Ptr) → T (has_ty (lone Handle.mir) (word_of p)) × WT (word_of p)
word_typed (block_ptr b o) = (tt, (tt, tt))
word_typed null_ptr = (tt, (record { fits = lit< tt }, tt))

module _ {M : Type 1} {𝓤 : Ura M} (𝓛 : Logic 𝓤) (x : R.Denot) where
  -- what may be freed may be compared with null
  pub tested : (p : Ptr) → ent 𝓤 (sem 𝓛 (boxed p x)) (guard 𝓤 (Testable p) (sem 𝓛 (boxed p x)))
  tested p = fact_use 𝓤 (Testable p) (via 𝓤 _ (snd∗ 𝓤 (sem 𝓛 (lies_at R full_share p x)) (sem 𝓛 (ghosts.dealloc_token heap (bare (lone R.mir)) p))) (dealloc_token-Testable 𝓛 heap (bare (lone R.mir)) p))
      (guard_i 𝓤 (Testable p) (sem 𝓛 (boxed p x)))

module _ {M : Type 1} {𝓤 : Ura M} {𝓛 : Logic 𝓤} {K : Type 0} {Γ : List (Item 𝓤)} {G : Goal 𝓤 𝓛.H} where
  -- a handle is taken apart: its machine value, and what it owns
  pub handle_out : K → (d : Handle.Denot) (vs : List Val) → (vs ≡ word_of d.at ∷ [] → Seq K 𝓛 (‵ (hosts d.at d.hosted) ∷ Γ) G) → Seq K 𝓛 (‵ (Handle.own_val d vs) ∷ Γ) G
  handle_out t d vs k =
      fsplit t $ fpick t (λ vss. fsplit t $ feq_l t (λ ev. fsplit t $ feq_l t (λ ep. drop t $ k (subst (λ (ps : List Val). vs ≡ vstruct (of_list (ps ++ [])) ∷ []) ep ev))))

  -- and put together
  pub handle_in : K → (p : Ptr) (x : Option R.Denot) → Step K 𝓛 (‵ (Handle.own_val (record { at = p; hosted = x }) (word_of p ∷ [])) ∷ Γ) G (‵ (hosts p x) ∷ Γ) G
  handle_in t p x = step (λ s.
      nothing t $ feq_i t (List Val) (ptr_val p ∷ []) (ptr_val p ∷ []) refl $ fjoin t $ feq_i t (List Val) (word_of p ∷ []) (word_of p ∷ []) refl $ fjoin t $
      fpack t (Valss (RawPtr ∷ [])) (within (shape handle.the_type) (p, tt) (word_of p ∷ [])) (ptr_val p ∷ [], tt) $ fjoin t $ s)

  absurd_at : K → {F : Fml} → ent 𝓤 (sem 𝓛 F) (never 𝓤) → Seq K 𝓛 (‵ F ∷ Γ) G
  absurd_at t h = use1 𝓛 (given ⊥ (‵ ftrue)) (via 𝓤 (never 𝓤) h (never_e 𝓤 _)) $ learn t (λ z. absurd z)

  -- a handle holds nothing and is null, or holds what is at its pointer
  pub either : K → (p : Ptr) (x : Option R.Denot) → (p ≡ null_ptr → x ≡ None → Seq K 𝓛 Γ G)
      → ((b o : ℕ) (y : R.Denot) → p ≡ block_ptr b o → x ≡ Some y → Testable (block_ptr b o) → Seq K 𝓛 (‵ (boxed (block_ptr b o) y) ∷ Γ) G) → Seq K 𝓛 (‵ (hosts p x) ∷ Γ) G
  either t null_ptr None none one = drop t $ none refl refl
  either t null_ptr (Some x) none one = absurd_at t (id⊢ 𝓤 (never 𝓤))
  either t (block_ptr b o) None none one = absurd_at t (id⊢ 𝓤 (never 𝓤))
  either t (block_ptr b o) (Some x) none one = use1 𝓛 (given (Testable (block_ptr b o)) (‵ (boxed (block_ptr b o) x))) (tested 𝓛 x (block_ptr b o)) $ learn t (λ low. one b o x refl refl low)
