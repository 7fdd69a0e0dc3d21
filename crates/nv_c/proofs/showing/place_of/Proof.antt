-- `place_of` returns the pointer that the slice has.
use Rattle.std.proofs.Common.{List, [], ◌∷◌, length, refl}
use mir.Syntax.{named}
use mir.Val.{Val, vptr}
use contract.Running.{tables}
use types.Kit.{‵, raw, ◌⊛◌, ◌$◌, ◌∵◌, !, qed, keep, move, split, join, fjoin, feq_i, suffices, done}
use types.Part.{sub, whole}
use types.Run.{stop, fld, hop, from, addr, returns, enter}
use types.ByLocal.{alloc_all, pass_all, free_all, look_at, look_in_at, sets}
use denote.Builtin.{u8}
use denote.Exit.{yes}
use denote.RattleType.{owns}
use denote.RawPtr.{block_ptr}
use denote.Signature.{plain, shr_slice_of, types_at}
use denote.Slice.{shr_slice_vals, shr_slice_Tells, slice_val}
use denote.Steps.{nothing}
use denote.Triple.Entry.{alive}
use denote.Triple.Walked.{says, Stays, stay_dropped, walk_of, ends_at, Goes-dropped}
use Rattle.std.proofs.raw_atomic.Walks.{proved}
use Rattle.nv_c.specs.contracts.showing.place_of as f
use Rattle.nv_c.proofs.showing.place_of.Statement.{statement}
use Rattle.nv_c.proofs.showing.place_of.Code as code

abbrev stayed : Stays f.ended.signature.params f.ended.kept
stayed = (stay_dropped (shr_slice_of (0 ∷ []) tt (plain (λ _. u8))) yes, tt)

pub place_of_spec : {M : Type 1} → statement M
place_of_spec 𝓤 𝓛 𝓜 𝓡 wired =
    let c = f.clauses 𝓛 𝓜.mem 𝓡.returns in let W = walk_of 𝓛 f.ended stayed c in let 𝓣 = tables 𝓤 𝓛.H 𝓜 𝓡 𝓡.env in
    proved 𝓛 f.ended stayed c 𝓜 𝓡 (Goes-dropped 𝓛 1 (shr_slice_of (0 ∷ []) tt (plain (λ _. u8))) yes (λ κs x w. refl), tt)
    f.Key.name code.function (code.unfolded 𝓤 𝓛.H 𝓜 𝓡 wired)
    (λ κs. (shr_slice_vals, tt)) (λ κs. (shr_slice_Tells (named 0) κs.0 u8, tt)) (λ κs qs bounds a n are.
    let b = a.0.ref_ptr.0 in let o = a.0.ref_ptr.1 in let v : Val = slice_val (b, o) (length a.0.now) in
    let y : W.Ghost = ((κs, qs, bounds, a, (v ∷ [], tt)), n) in
    qed 𝓛 ((raw (alive 𝓛 f.signature κs qs) ⊛ ‵ (owns (types_at f.signature.params κs) a (v ∷ [], tt))) ∷ raw ((c κs a).requires n) ∷ []) ∵
    split ! $ keep ! (0 ∷ []) $
    enter ! 𝓣.C 𝓣.Λ code.function (v ∷ []) _ $ alloc_all ! (λ l. pass_all ! refl ((tt, (tt, (record { fits = are.0.0.1.0 }, tt))), tt) $
    sets ! (addr ! (from ! (fld ! refl (hop ! (look_in_at ! 1 (sub ! 0 refl (whole !))) (stop !))))) refl (tt, tt) $
    returns ! (look_at ! 0 refl) $ free_all ! refl $ feq_i ! (List Val) (vptr b o ∷ []) (vptr b o ∷ []) refl $
    suffices ! _ (ends_at 𝓛 f.ended stayed c y (vptr b o) (block_ptr b o) (tt, tt) (tt, tt)) $ says ! refl $
    nothing ! $ nothing ! $ fjoin ! $ join ! $ move ! (1 ∷ 0 ∷ []) $ join ! $ done !))
