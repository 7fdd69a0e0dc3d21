-- Events one after another
use Rattle.std.proofs.Common.{◌≡◌, ℕ, List, [], ◌∷◌, ◌++◌, length, Result, Ok, Err, refl}
use Rattle.std.specs.Prelude.{Some, None, MatchResult}
use Rattle.nv_once_script.specs.declared.once.fault.FaultKind.{FaultKind}
use Rattle.nv_once_script.specs.declared.once.fault.FaultKind.TheVariants.{OutOfPlace}
use Rattle.nv_once_script.specs.declared.once.fault.LineFault.{LineFault}
use Rattle.nv_once_script.specs.declared.once.fault.LineFault.TheVariants.{Faulty, NoMemory}
use Rattle.nv_once_script.specs.OnceFault.{◌>>=◌, Refuses}
use Rattle.nv_once_script.specs.OnceVocabulary.{count_check}
use Rattle.nv_world_model.specs.declared.event.Event.{Event}
use Rattle.nv_replay_script.specs.declared.sizes.Sizes.{Sizes}
use Rattle.nv_replay_script.specs.declared.vocabulary.EventKind.{EventKind}
use Rattle.nv_replay_script.specs.ReplayEvents.{counted_event, event_added, event_of}
use Rattle.nv_replay_script.specs.ReplayScript.{Progress, add_event}
use Rattle.nv_replay_script.specs.ReplaySetUp.{sizes_in}
use Rattle.nv_replay_script.specs.ReplayVocabulary.{event_arguments}

added-by : (e : Result Event FaultKind) (p : Progress)
    → (e >>= λ event. Ok (record p { events = p.events ++ event ∷ [] })) ≡ (event_added e p.events >>= λ events. Ok (record p { events = events }))
added-by (Ok event) p = refl
added-by (Err kind) p = refl

added-at : (c : Result (Unit {0}) FaultKind) (e : Result Event FaultKind) (p : Progress)
    → (c >>= λ u. (e >>= λ event. Ok (record p { events = p.events ++ event ∷ [] })))
    ≡ (event_added (c >>= λ u. e) p.events >>= λ events. Ok (record p { events = events }))
added-at (Ok u) e p = added-by e p
added-at (Err kind) e p = refl

-- where all sizes are there, an event joins those before it, or none is made
add_event-added : (p : Progress) (kind : EventKind) (words : List (List ℕ)) (sizes : Sizes) → sizes_in p.set_up.sizes ≡ Some sizes
    → add_event p kind words ≡ (event_added (counted_event kind words) p.events >>= λ events. Ok (record p { events = events }))
add_event-added p kind words sizes there = rw there (added-at (count_check (length words) (event_arguments kind)) (event_of kind words) p)

with_events-by : (x : Result (List Event) FaultKind) (p : Progress) (r : Result (Unit {0}) LineFault) (events : List Event)
    → MatchResult r (λ _. x ≡ Ok events) (Refuses x)
    → MatchResult r (λ _. (x >>= λ es. Ok (record p { events = es })) ≡ Ok (record p { events = events }))
    (Refuses (x >>= λ es. Ok (record p { events = es })))
with_events-by x p (Ok u) events h = rw h refl
with_events-by x p (Err (Faulty kind)) events h = rw h refl
with_events-by x p (Err NoMemory) events h = h

pub add_event-by : (p : Progress) (kind : EventKind) (words : List (List ℕ)) (sizes : Sizes) (r : Result (Unit {0}) LineFault) (events : List Event)
    → sizes_in p.set_up.sizes ≡ Some sizes
    → MatchResult r (λ _. event_added (counted_event kind words) p.events ≡ Ok events) (Refuses (event_added (counted_event kind words) p.events))
    → MatchResult r (λ _. add_event p kind words ≡ Ok (record p { events = events })) (Refuses (add_event p kind words))
add_event-by p kind words sizes r events there h =
    rw (add_event-added p kind words sizes there) (with_events-by (event_added (counted_event kind words) p.events) p r events h)

-- an event stands where sizes are still wanting
pub add_event-misplaced : (p : Progress) (kind : EventKind) (words : List (List ℕ)) (u : Unit {0})
    → count_check (length words) (event_arguments kind) ≡ Ok u → sizes_in p.set_up.sizes ≡ None
    → add_event p kind words ≡ Err OutOfPlace
add_event-misplaced p kind words u counted none = rw (counted, none) refl
