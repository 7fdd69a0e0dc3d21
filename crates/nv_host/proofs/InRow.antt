-- Events that are made in a row, over states of any kind.
use Rattle.std.proofs.Common.{◌≡◌, refl, subst, ◌∙◌, ℕ, ◌+◌, arith, List, [], ◌∷◌, ◌++◌, length, length-append}
use Rattle.nv_host.specs.InRow.{AreMadeBy, LeadsBy, LeadsUpBy}
use Rattle.nv_world_model.specs.declared.event.Event.{Event}

module _ (S : Type 0) (one : Event → S → S → Type 0) where
  joined : (es fs : List Event) (a b c : S) → AreMadeBy S one es a b → AreMadeBy S one fs b c → AreMadeBy S one (es ++ fs) a c
  unfolding AreMadeBy
  joined [] fs a b c first then = subst (λ (x : S). AreMadeBy S one fs x c) first then
  joined (e ∷ es) fs a b c first then = (first.0, first.1, joined es fs first.0 b c first.2 then)

  -- nothing was done
  pub none-by : (old new : S) → new ≡ old → LeadsBy S one 0 old new
  unfolding AreMadeBy
  none-by old new same = record { events = []; made = same; counted = refl }

  -- one event was made
  pub one-by : (e : Event) (old new : S) → one e old new → LeadsBy S one 1 old new
  unfolding AreMadeBy
  one-by e old new is = record { events = e ∷ []; made = (new, is, refl); counted = refl }

  -- and more after these
  pub more-by : (m n : ℕ) (a b c : S) → LeadsBy S one m a b → LeadsBy S one n b c → LeadsBy S one (m + n) a c
  more-by m n a b c first then =
      record {
        events = first.events ++ then.events;
        made = joined first.events then.events a b c first.made then.made;
        counted = length-append first.events then.events ∙ (let one = first.counted in let two = then.counted in omega (arith, one, two));
      }

  -- none lead nowhere
  pub zero-by : (count : ℕ) (a b : S) → LeadsBy S one count a b → count ≡ 0 → b ≡ a
  unfolding AreMadeBy
  zero-by count a b leads none = nowhere leads.events leads.made (leads.counted ∙ none)
    where
      nowhere : (es : List Event) → AreMadeBy S one es a b → length es ≡ 0 → b ≡ a
      nowhere [] made none = made
      nowhere (e ∷ es) made none = absurd (omega (arith, none))

  -- a command was given up after some
  pub up-by : (gives_up : S → S → Type 0) (m n : ℕ) (a b c : S) → LeadsBy S one m a b → LeadsUpBy S one gives_up n b c
      → LeadsUpBy S one gives_up (m + n) a c
  up-by gives_up m n a b c first up =
      record {
        less = m + up.less;
        before = up.before;
        leads = more-by m up.less a b up.before first up.leads;
        counted = (let one = up.counted in omega (arith, one));
        last = up.last;
      }

  pub give-by : (gives_up : S → S → Type 0) (a b : S) → gives_up a b → LeadsUpBy S one gives_up 1 a b
  give-by gives_up a b is = record { less = 0; before = a; leads = none-by a a refl; counted = refl; last = is }

-- what may be made one way may be made another
module _ (S : Type 0) (one other : Event → S → S → Type 0) (so : (e : Event) (a b : S) → one e a b → other e a b) where
  made-so : (es : List Event) (a b : S) → AreMadeBy S one es a b → AreMadeBy S other es a b
  unfolding AreMadeBy
  made-so [] a b made = made
  made-so (e ∷ es) a b made = (made.0, so e a made.0 made.1, made-so es made.0 b made.2)

  pub leads-so : (count : ℕ) (a b : S) → LeadsBy S one count a b → LeadsBy S other count a b
  leads-so count a b leads = record { events = leads.events; made = made-so leads.events a b leads.made; counted = leads.counted }
