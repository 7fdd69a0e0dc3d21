-- Events that stand for no step of a guest's private controller, for one, and for blocks that become kept.
use Rattle.std.proofs.Common.{◌≡◌, ℕ, ◌<◌, Bool, true, false, cond, ◌&&◌, ◌||◌, List, [], ◌∷◌, All, filter, map, Some, None, refl, sym, ap, ◌∙◌}
use Rattle.std.proofs.lemmas.List.Elements.{All-cons, All-head, All-tail}
use Rattle.nv_model.specs.Private.{KeepStep, Private, Step, further, run_of, step as private_step, unseen}
use Rattle.nv_model.specs.declared.reply.Reply.{Reply}
use Rattle.nv_model.specs.declared.reply.Reply.TheVariants as reply
use Rattle.nv_ns.specs.Extents.{blocks_in}
use Rattle.nv_world_model.specs.declared.event.Event.{Event}
use Rattle.nv_world_model.specs.Geometry.{Geometry, Guest, shape_of}
use Rattle.nv_world_model.specs.PrivateSteps.{act_of, is_act, steps_done, steps_of, with_act}
use Rattle.nv_world_model.specs.Step.{After, is_done, is_telling, replied}
use Rattle.nv_world_model.specs.World.{World}
use Rattle.nv_laws.specs.Following.{GoesAlong}
use Rattle.nv_laws.specs.Related.{Related}
use Rattle.nv_laws.proofs.related.Keeping.{keep-run, keep_all}

-- ---- events without a step

either-none : (b : Bool) → ◌≡◌ {A = List Step} (cond b [] []) []
either-none true = refl
either-none false = refl

-- a reply that says nothing says of nothing that it is done
pub not-telling : (r : Reply) → is_telling r ≡ false → is_done r ≡ false
not-telling reply.Done dull = dull
not-telling (reply.Bytes bytes) dull = refl
not-telling reply.Idle dull = refl
not-telling reply.Busy dull = refl
not-telling reply.Held dull = refl
not-telling reply.Stale dull = refl
not-telling reply.Unmapped dull = refl
not-telling reply.Ignored dull = refl
not-telling reply.NoMemory dull = refl

-- what holds of all holds of some of them
pub filter-all : (P : ℕ → Type 0) (test : ℕ → Bool) (xs : List ℕ) → All P xs → All P (filter test xs)
filter-all P test [] each = each
filter-all P test (x ∷ xs) each =
    elim (test x) as (λ b. All P (cond b (x ∷ filter test xs) (filter test xs))) [
      | true ↦ All-cons P x (filter test xs) (All-head P x xs each) (filter-all P test xs (All-tail P x xs each))
      | false ↦ filter-all P test xs (All-tail P x xs each)
    ]

pub and-yes : (b : Bool) → (b && true) ≡ b
and-yes true = refl
and-yes false = refl

module _ (geometry : Geometry) (number : ℕ) (guest : Guest) (e : Event) (w : World) (p : Private) (no_act : act_of number e ≡ None) where
  -- no step is made
  pub quiet-goes : (done : After) → steps_of number guest w e done.reply ≡ [] → Related geometry number guest done.world p
      → GoesAlong geometry number guest e w p done
  unfolding run_of
  quiet-goes done none related =
      record {
        run = record { state = p; seen = [] };
        runs = ap (λ steps. run_of (shape_of guest) steps p) none;
        seen = sym (ap (λ a. with_act a done.reply []) no_act);
        related = related;
      }

  pub none-goes : (done : After) → steps_done number guest w e ≡ [] → Related geometry number guest done.world p
      → GoesAlong geometry number guest e w p done
  none-goes done none related =
      quiet-goes done (ap (λ steps. cond (is_act (act_of number e) || is_done done.reply) steps []) none ∙ either-none (is_act (act_of number e) || is_done done.reply)) related

  -- a reply that tells of no change
  pub dull-goes : Related geometry number guest w p → (r : Reply) → is_telling r ≡ false → GoesAlong geometry number guest e w p (replied r w)
  dull-goes related r dull =
      quiet-goes (replied r w)
      (ap (λ a. cond (is_act a || is_done r) (steps_done number guest w e) []) no_act ∙ ap (λ b. cond b (steps_done number guest w e) []) (not-telling r dull))
      related

  -- blocks become kept
  pub keep-goes : (lbas : List ℕ) (z : World) → All (λ lba. lba < blocks_in guest.namespace) lbas → steps_done number guest w e ≡ map KeepStep lbas
      → Related geometry number guest z (record p { kept = keep_all lbas p.kept }) → GoesAlong geometry number guest e w p (replied reply.Done z)
  keep-goes lbas z each steps related =
      record {
        run = record { state = record p { kept = keep_all lbas p.kept }; seen = [] };
        runs = ap (λ a. run_of (shape_of guest) (cond (is_act a || true) (steps_done number guest w e) []) p) no_act
            ∙ ap (λ ss. run_of (shape_of guest) ss p) steps ∙ keep-run (shape_of guest) lbas p each;
        seen = sym (ap (λ a. with_act a reply.Done []) no_act);
        related = related;
      }

-- ---- one step

pub one-run : (geometry : Geometry) (guest : Guest) (s : Step) (p q : Private) → private_step (shape_of guest) s p ≡ unseen q
    → run_of (shape_of guest) (s ∷ []) p ≡ Some (record { state = q; seen = [] })
unfolding run_of
one-run geometry guest s p q made = ap (λ o. further o (λ x. Some (record { state = x; seen = [] }))) made

pub one-goes : (geometry : Geometry) (number : ℕ) (guest : Guest) (e : Event) (w z : World) (p q : Private) (s : Step) → act_of number e ≡ None
    → steps_done number guest w e ≡ s ∷ [] → private_step (shape_of guest) s p ≡ unseen q → Related geometry number guest z q
    → GoesAlong geometry number guest e w p (replied reply.Done z)
one-goes geometry number guest e w z p q s no_act steps made related =
    record {
      run = record { state = q; seen = [] };
      runs = ap (λ a. run_of (shape_of guest) (cond (is_act a || true) (steps_done number guest w e) []) p) no_act
          ∙ ap (λ ss. run_of (shape_of guest) ss p) steps ∙ one-run geometry guest s p q made;
      seen = sym (ap (λ a. with_act a reply.Done []) no_act);
      related = related;
    }
