-- `empty` makes a handle that is null.
use Rattle.std.proofs.Common.{[], ◌∷◌, refl}
use Rattle.std.specs.Prelude.{None}
use base.Logic.{emp, id⊢}
use base.Fml.{ftrue}
use types.Kit.{‵, raw, ◌⊛◌, ◌$◌, ◌∵◌, !, qed, keep, join, suffices, use0, done}
use types.Run.{lit, no_more, and_then, returns, enter}
use types.ByLocal.{alloc_all, pass_all, free_all, look_at, sets}
use types.Part.{agg}
use contract.Running.{tables}
use denote.RawPtr.{null_ptr}
use denote.Steps.{nothing}
use denote.Triple.Walked.{says, Stays, ends_at}
use Rattle.std.proofs.raw_atomic.Walks.{proved_at}
use Rattle.nv_c.specs.Held.{hosts}
use Rattle.nv_c.proofs.Handles.{Handle, word_of, word_typed, handle_in}
use Rattle.nv_c.specs.contracts.handle.Nvmed.empty as f
use Rattle.nv_c.proofs.handle.Nvmed.empty.Statement.{statement}
use Rattle.nv_c.proofs.handle.Nvmed.empty.Code as code

pub empty_spec : {M : Type 1} → statement M
empty_spec 𝓤 𝓛 𝓜 𝓡 wired =
    let H = 𝓛.H in let 𝓣 = tables 𝓤 H 𝓜 𝓡 𝓡.env in let En = f.ended in let c = f.clauses 𝓛 𝓜.mem 𝓡.returns in
    let hs : Stays En.signature.params En.kept = tt in
    proved_at 𝓛 En hs c 𝓜 𝓡 tt f.Key.name code.function (code.unfolded 𝓤 H 𝓜 𝓡 wired) (λ z are.
    let made : Handle.Denot = record { at = null_ptr; hosted = None } in
    qed 𝓛 ((‵ ftrue ⊛ ‵ ftrue) ∷ raw (emp 𝓤) ∷ []) ∵ keep ! [] $
    enter ! 𝓣.C 𝓣.Λ code.function [] _ $ alloc_all ! (λ l. pass_all ! refl tt $
    sets ! (agg ! (and_then ! (lit ! tt) (no_more !))) refl (word_typed null_ptr) $
    returns ! (look_at ! 0 refl) $ free_all ! refl $ use0 𝓛 (‵ (hosts null_ptr None)) (id⊢ 𝓤 _) $ handle_in ! null_ptr None $ keep ! (0 ∷ []) $
    suffices ! _ (ends_at 𝓛 En hs c z (word_of null_ptr) made tt tt) $ says ! refl $
    nothing ! $ join ! $ nothing ! $ join ! $ done !))
