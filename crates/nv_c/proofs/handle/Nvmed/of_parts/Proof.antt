-- `of_parts` moves a pointer, and what it owns goes with it.
use Rattle.std.proofs.Common.{List, [], ◌∷◌, ◌++◌, refl, sym, subst}
use Rattle.std.specs.Prelude.{Some}
use mir.Val.{Val}
use base.Logic.{SProp, ent, emp, id⊢}
use base.Fml.{ftrue, fsep}
use prog.Wp.{WpFn}
use types.Kit.{‵, raw, ◌⊛◌, ◌$◌, ◌∵◌, !, qed, keep, drop, split, join, fsplit, fjoin, suffices, use1, done}
use types.Run.{stop, fld, of_opd, no_more, and_then, returns, enter}
use types.ByLocal.{alloc_all, pass_all, free_all, look_at, get, get_in, sets}
use types.Part.{agg, sub, whole}
use contract.Running.{tables}
use denote.Exit.{yes}
use denote.RattleType.{RattleType}
use denote.Signature.{plain}
use denote.RawPtr.{block_ptr}
use denote.Steps.{nothing}
use denote.Triple.Walked.{says, Stays, stay_dropped, walk_of, ends_at, Goes-dropped}
use Rattle.std_alloc.proofs.BoxSteps.Form.{D, B, word, box_typed}
use Rattle.std_alloc.proofs.BoxSteps.Steps.{box_out}
use Rattle.std.proofs.raw_atomic.Walks.{proved_at}
use Rattle.nv_c.specs.contracts.handle.parts.Parts as parts
use Rattle.nv_c.specs.Held.{hosts}
use Rattle.nv_c.proofs.Handles.{E, R, Z, Handle, word_of, word_typed, handle_in}
use Rattle.nv_c.specs.contracts.handle.Nvmed.of_parts as f
use Rattle.nv_c.proofs.handle.Nvmed.of_parts.Statement.{statement}
use Rattle.nv_c.proofs.handle.Nvmed.of_parts.Code as code

abbrev From : RattleType
From = parts.the_row R Z E.al.g

pub of_parts_spec : {M : Type 1} → statement M
of_parts_spec 𝓤 𝓛 𝓜 𝓡 wired =
    let H = 𝓛.H in let 𝓣 = tables 𝓤 H 𝓜 𝓡 𝓡.env in let En = f.ended in let c = f.clauses 𝓛 𝓜.mem 𝓡.returns in
    let hs : Stays En.signature.params En.kept = (stay_dropped (plain (λ _. From)) yes, tt) in
    proved_at 𝓛 En hs c 𝓜 𝓡 (Goes-dropped 𝓛 0 (plain (λ _. From)) yes (λ κs x w. refl), tt) f.Key.name code.function (code.unfolded 𝓤 H 𝓜 𝓡 wired) (λ z are.
    let Run : List Val → SProp 𝓤 = λ ws. WpFn 𝓤 H 𝓣.C 𝓣.Λ code.function ws ((walk_of 𝓛 En hs c).post z) in
    let v : D E = record { ptr = z.0.3.0.ptr; alloc = z.0.3.0.alloc; value = z.0.3.0.value } in
    qed 𝓛 ((‵ ftrue ⊛ ‵ (fsep ((B E).own_val v z.0.4.0) ftrue)) ∷ raw (emp 𝓤) ∷ []) ∵ split ! $ drop ! $ fsplit ! $
    box_out E ! v z.0.4.0 (λ b o hv e ws fa. fjoin ! $ use1 𝓛 (‵ (hosts (block_ptr b o) (Some v.value))) (id⊢ 𝓤 _) $
    let w : Val = word E hv b o in let made : Handle.Denot = record { at = block_ptr b o; hosted = Some v.value } in
    keep ! (0 ∷ []) $
    suffices ! (Run (w ∷ [])) (subst (λ (us : List Val). ent 𝓤 (Run (w ∷ [])) (Run us)) (sym (λ i. ws i ++ [])) (id⊢ 𝓤 (Run (w ∷ [])))) $
    enter ! 𝓣.C 𝓣.Λ code.function (w ∷ []) _ $ alloc_all ! (λ l. pass_all ! refl (box_typed E hv b o fa, tt) $
    sets ! (of_opd ! (get_in ! (fld ! refl (stop !)) (sub ! 0 refl (whole !)))) refl (tt, tt) $
    sets ! (of_opd ! (get ! refl)) refl (tt, tt) $
    sets ! (agg ! (and_then ! (get ! refl) (no_more !))) refl (word_typed (block_ptr b o)) $
    returns ! (look_at ! 0 refl) $ free_all ! refl $ handle_in ! (block_ptr b o) (Some v.value) $
    suffices ! _ (ends_at 𝓛 En hs c z (word_of (block_ptr b o)) made (tt, tt) (tt, tt)) $ says ! refl $
    nothing ! $ nothing ! $ fjoin ! $ join ! $ nothing ! $ join ! $ done !)))
