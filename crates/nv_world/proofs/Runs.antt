-- Many steps, one more at the end.
use Rattle.std.proofs.Common.{◌≡◌, ℕ, ◌+◌, ◌<◌, List, [], ◌∷◌, ◌++◌, append-nil, append_assoc, get_or, length, take, refl, sym, subst, ap, ◌∙◌}
use Rattle.std.proofs.lemmas.List.{take_more}
use Rattle.nv_model.specs.declared.reply.Reply.{Reply}
use Rattle.nv_world.specs.Mediated.{AreAnswered, AreStepped, IsStepped, Mediated}
use Rattle.nv_world_model.specs.declared.event.Event.{Event}

steps-more : (es : List Event) (e : Event) (old mid new : Mediated) (rs : List Reply) (r : Reply) → AreStepped es old rs mid
    → IsStepped e mid r new → AreStepped (es ++ e ∷ []) old (rs ++ r ∷ []) new
unfolding AreStepped
steps-more [] e old mid new [] r so is = (new, (subst (λ (m : Mediated). IsStepped e m r new) so is, refl))
steps-more [] e old mid new (x ∷ rs) r so is = absurd so
steps-more (f ∷ es) e old mid new [] r so is = absurd so
steps-more (f ∷ es) e old mid new (x ∷ rs) r so is = (so.0, (so.1.0, steps-more es e so.0 mid new rs r so.1.1 is))

-- nothing yet
pub answered-none : (es : List Event) (m : Mediated) (before : List Reply) → AreAnswered (take 0 es) m before before m
unfolding AreStepped
answered-none es m before = record { replies = []; stepped = refl; joined = sym (append-nil before) }

pub answered-more : (es : List Event) (i : ℕ) (e : Event) (old mid new : Mediated) (before between after : List Reply) (r : Reply)
    → i < length es → e ≡ get_or es i e → AreAnswered (take i es) old before between mid → IsStepped e mid r new
    → after ≡ between ++ r ∷ [] → AreAnswered (take (i + 1) es) old before after new
answered-more es i e old mid new before between after r below at so is joined =
    record {
      replies = so.replies ++ r ∷ [];
      stepped =
          subst (λ (l : List Event). AreStepped l old (so.replies ++ r ∷ []) new)
          (sym (take_more es i e below ∙ ap (λ (x : Event). take i es ++ x ∷ []) (sym at)))
          (steps-more (take i es) e old mid new so.replies r so.stepped is);
      joined = joined ∙ ap (λ (l : List Reply). l ++ r ∷ []) so.joined ∙ append_assoc before so.replies (r ∷ []);
    }
