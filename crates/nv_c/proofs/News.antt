-- What is asked of a guest's completion queues, one after another.
use Rattle.std.proofs.Common.{◌≡◌, ◌∙◌, sym, ap, subst, ℕ, ◌+◌, ◌<◌, ◌≤◌, ◌⊎◌, inl, inr, List, length, Option, Some, slice_get, slice_index_or, slice_set, arith}
use Rattle.std.proofs.lemmas.Bool.{cases_eq, ne_eqb}
use Rattle.std.proofs.lemmas.Option.{get_or_from_slice_get}
use Rattle.std.specs.Prelude.{◌≢◌}
use Rattle.nv_c.specs.Posted.{IsAsked, new_vector, standing_of}
use Rattle.nv_c.specs.Serving.{vector_kept}
use Rattle.nv_c.specs.declared.posted.Standing.{Standing}
use Rattle.nv_core.proofs.TagLists.{get-set}
use Rattle.nv_model.specs.Controller.{Controller, completion_queue}
use Rattle.nv_model.specs.Queue.{CompletionQueue}
use Rattle.nv_world_model.proofs.Seats.{slice_get-set-other}

-- those below a number were asked, and where the others stood is as it was
pub record AreAsked (c : Controller) (before after : List Standing) (vectors : List ℕ) (count : ℕ) : Type 0 where
  pub each : (queue : ℕ) → queue < count → IsAsked c before after vectors queue
  pub rest : (queue : ℕ) → count ≤ queue → slice_get after queue ≡ slice_get before queue

-- one more is
module _ (c : Controller) (before after : List Standing) (vectors : List ℕ) (count : ℕ) (now : Option CompletionQueue) (stands none : Standing) (vector : ℕ)
    (below_one : count < length after) (below_other : count < length vectors) (is : now ≡ completion_queue c count) (kept : stands ≡ standing_of now)
    (told : vector ≡ vector_kept (new_vector now (slice_index_or after count none))) (are : AreAsked c before after vectors count) where
  here : IsAsked c before (slice_set after count stands) (slice_set vectors count vector) count
  here =
      record {
        kept = get-set after count stands below_one ∙ ap Some (kept ∙ ap standing_of is);
        told = λ stood was.
            get-set vectors count vector below_other
            ∙ ap Some (told ∙ ap (λ (x : Option CompletionQueue). vector_kept (new_vector x (slice_index_or after count none))) is
            ∙ ap (λ (x : Standing). vector_kept (new_vector (completion_queue c count) x))
            (get_or_from_slice_get after count stood none (are.rest count (omega arith) ∙ was)));
      }

  there : (queue : ℕ) → queue < count + 1 → (queue ≡ count) ⊎ (queue ≢ count)
      → IsAsked c before (slice_set after count stands) (slice_set vectors count vector) queue
  there queue below (inl same) = subst (IsAsked c before (slice_set after count stands) (slice_set vectors count vector)) (sym same) here
  there queue below (inr other) =
      let asked = are.each queue (omega (arith, below, other)) in
      record {
        kept = slice_get-set-other after count queue stands (ne_eqb queue count other) ∙ asked.kept;
        told = λ stood was. slice_get-set-other vectors count queue vector (ne_eqb queue count other) ∙ asked.told stood was;
      }

  pub asked-more : AreAsked c before (slice_set after count stands) (slice_set vectors count vector) (count + 1)
  asked-more =
      record {
        each = λ queue below. there queue below (cases_eq queue count);
        rest = λ queue beyond.
            slice_get-set-other after count queue stands (ne_eqb queue count (λ same. omega (arith, beyond, same)))
            ∙ are.rest queue (omega (arith, beyond));
      }
