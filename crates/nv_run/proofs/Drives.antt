-- A port that is told more and more
use Rattle.std.proofs.Common.{◌≡◌, ◌≢◌, ℕ, ◌+◌, ◌<◌, ◌≤◌, List, [], ◌∷◌, ◌++◌, length, take, drop, get_or, refl, sym, ap, ◌∙◌, subst, append_assoc, arith, length-append}
use Rattle.std.proofs.lemmas.List.{append-nil, drop_more, take_all, take_more}
use Rattle.std.proofs.lemmas.List.Elements.{All-nil, All-push}
use Rattle.std.specs.Prelude.{All}
use lib.ListN.{drop_of_length-le}
use Rattle.nv_model.specs.declared.act.Act.{Act}
use Rattle.nv_model.specs.declared.reply.Reply.{Reply}
use Rattle.nv_run_script.specs.declared.line.Line.{Line}
use Rattle.nv_run_script.specs.declared.line.Task.{Task}
use Rattle.nv_run_script.specs.declared.line.Task.TheVariants as task
use Rattle.nv_run.specs.Driving.{AreGone, Follows, Grows, IsGone, IsLeft, IsMet, IsUnmet, polls, shown, told}
use Rattle.nv_world_model.specs.declared.event.Event.TheVariants as event
use Rattle.nv_world_model.specs.declared.logged.Logged.{Logged}

-- ---- lines

-- one more line
pub AreGone-then : (guest : ℕ) (before : List Line) (line : Line) (old new : List Logged)
    → AreGone guest before old → Grows old new (IsGone guest line.task) → AreGone guest (before ++ line ∷ []) new
unfolding AreGone
AreGone-then guest [] line old new gone grows =
    ([], refl, record { first = grows.more; holds = grows.holds; parted = grows.grown ∙ ap (λ xs. xs ++ grows.more) gone ∙ sym (append-nil grows.more) })
AreGone-then guest (first ∷ before) line old new gone grows =
    let rest = gone.0 in
    let all = gone.2 in
    let whole = AreGone-then guest before line rest (rest ++ grows.more) gone.1 (record { more = grows.more; grown = refl; holds = grows.holds }) in (
      rest ++ grows.more,
      whole,
      record {
        first = all.first;
        holds = all.holds;
        parted = grows.grown ∙ ap (λ xs. xs ++ grows.more) all.parted ∙ append_assoc all.first rest grows.more;
      },
    )

-- the same of the lines of a list up to one
pub AreGone-more : (guest : ℕ) (lines : List Line) (i : ℕ) (line : Line) (old new : List Logged)
    → i < length lines → line ≡ get_or lines i line
    → AreGone guest (take i lines) old → Grows old new (IsGone guest line.task) → AreGone guest (take (i + 1) lines) new
AreGone-more guest lines i line old new below at gone grows =
    subst (λ (ls : List Line). AreGone guest ls new) (sym (take_more lines i line below ∙ ap (λ it. take i lines ++ it ∷ []) (sym at)))
    (AreGone-then guest (take i lines) line old new gone grows)

-- before the first
pub AreGone-none : (guest : ℕ) (lines : List Line) (calls : List Logged) → calls ≡ [] → AreGone guest (take 0 lines) calls
unfolding AreGone
AreGone-none guest lines calls none = none

-- behind the last
pub AreGone-all : (guest : ℕ) (lines : List Line) (i : ℕ) (calls : List Logged)
    → length lines ≤ i → AreGone guest (take i lines) calls → AreGone guest lines calls
AreGone-all guest lines i calls all gone = subst (λ (ls : List Line). AreGone guest ls calls) (take_all i lines all) gone

-- one line before others
pub AreGone-front : (guest : ℕ) (lines : List Line) (i : ℕ) (line : Line) (calls rest : List Logged)
    → i < length lines → line ≡ get_or lines i line
    → AreGone guest (drop (i + 1) lines) rest → Follows (IsGone guest line.task) calls rest → AreGone guest (drop i lines) calls
unfolding AreGone
AreGone-front guest lines i line calls rest below at gone follows =
    subst (λ (ls : List Line). AreGone guest ls calls) (sym (drop_more lines i line below ∙ ap (λ it. it ∷ drop (i + 1) lines) (sym at)))
    (rest, gone, follows)

-- an act
pub IsGone-act : (guest : ℕ) (does : Task) (act : Act) (calls rest : List Logged) (call : Logged)
    → does ≡ task.Act act → calls ≡ call ∷ rest → call.event ≡ event.Guest guest act → Follows (IsGone guest does) calls rest
IsGone-act guest does act calls rest call is front acts =
    subst (λ (t : Task). Follows (IsGone guest t) calls rest) (sym is)
    (record { first = call ∷ []; holds = (call.reply, λ k. record { event = acts k; reply = call.reply } ∷ []); parted = front })

-- no lines, and no calls
pub AreGone-ended : (guest : ℕ) (lines : List Line) (i : ℕ) (calls : List Logged) → length lines ≤ i → calls ≡ [] → AreGone guest (drop i lines) calls
unfolding AreGone
AreGone-ended guest lines i calls all none = subst (λ (ls : List Line). AreGone guest ls calls) (sym (drop_of_length-le lines all)) none

-- ---- looks

-- a port was told so many looks, none of which found the value
pub record LooksSoFar (guest : ℕ) (look : Act) (value : ℕ) (old new : List Logged) (count : ℕ) : Type 0 where
  pub looks : List Logged
  pub grown : new ≡ old ++ looks
  pub unmet : All (IsUnmet guest look value) looks
  pub counted : length looks ≡ count

-- before the first look
pub LooksSoFar-none : (guest : ℕ) (look : Act) (value : ℕ) (old : List Logged) → LooksSoFar guest look value old old 0
LooksSoFar-none guest look value old =
    record { looks = []; grown = sym (append-nil old); unmet = All-nil (IsUnmet guest look value); counted = refl }

-- the list behind one more look
grown-then : (old now new looks : List Logged) (call : Logged) → now ≡ old ++ looks → new ≡ now ++ call ∷ [] → new ≡ old ++ (looks ++ call ∷ [])
grown-then old now new looks call grown is = is ∙ ap (λ xs. xs ++ call ∷ []) grown ∙ append_assoc old looks (call ∷ [])

-- one more that did not find the value
pub LooksSoFar-then : (guest : ℕ) (look : Act) (value : ℕ) (old now new : List Logged) (count : ℕ) (reply : Reply)
    → LooksSoFar guest look value old now count → new ≡ now ++ told guest look reply ∷ [] → reply ≢ shown value
    → LooksSoFar guest look value old new (count + 1)
LooksSoFar-then guest look value old now new count reply so_far is other =
    let call = told guest look reply in
    let unmet : IsUnmet guest look value call = record { event = refl; reply = other } in
    record {
      looks = so_far.looks ++ call ∷ [];
      grown = grown-then old now new so_far.looks call so_far.grown is;
      unmet = All-push (IsUnmet guest look value) so_far.looks call so_far.unmet unmet;
      counted = omega (arith, so_far.counted, length-append so_far.looks (call ∷ []));
    }

-- one more that did
pub LooksSoFar-met : (guest : ℕ) (look : Act) (value : ℕ) (old now new : List Logged) (count : ℕ) (reply : Reply)
    → LooksSoFar guest look value old now count → new ≡ now ++ told guest look reply ∷ [] → reply ≡ shown value
    → Grows old new (IsMet guest look value)
LooksSoFar-met guest look value old now new count reply so_far is found =
    let call = told guest look (shown value) in
    let is' : new ≡ now ++ call ∷ [] = is ∙ ap (λ r. now ++ told guest look r ∷ []) found in
    record {
      more = so_far.looks ++ call ∷ [];
      grown = grown-then old now new so_far.looks call so_far.grown is';
      holds = record { before = so_far.looks; unmet = so_far.unmet; last = refl };
    }

-- behind the last look
pub LooksSoFar-all : (guest : ℕ) (look : Act) (value : ℕ) (old now : List Logged) (count : ℕ)
    → LooksSoFar guest look value old now count → count ≡ polls → Grows old now (IsLeft guest look value)
LooksSoFar-all guest look value old now count so_far all =
    record {
      more = so_far.looks;
      grown = so_far.grown;
      holds = record { unmet = so_far.unmet; all = so_far.counted ∙ all };
    }

-- ---- looks that were told

-- of these calls those that are left come behind looks that did not find the value
pub record IsUnmetBefore (guest : ℕ) (look : Act) (value : ℕ) (calls left : List Logged) : Type 0 where
  pub before : List Logged
  pub parted : calls ≡ before ++ left
  pub unmet : All (IsUnmet guest look value) before

-- before the first
pub IsUnmetBefore-none : (guest : ℕ) (look : Act) (value : ℕ) (calls : List Logged) → IsUnmetBefore guest look value calls calls
IsUnmetBefore-none guest look value calls = record { before = []; parted = refl; unmet = All-nil (IsUnmet guest look value) }

-- one more that did not
pub IsUnmetBefore-then : (guest : ℕ) (look : Act) (value : ℕ) (calls left rest : List Logged) (call : Logged)
    → IsUnmetBefore guest look value calls left → left ≡ call ∷ rest → call.event ≡ event.Guest guest look → call.reply ≢ shown value
    → IsUnmetBefore guest look value calls rest
IsUnmetBefore-then guest look value calls left rest call so_far is acts other =
    let unmet : IsUnmet guest look value call = record { event = acts; reply = other } in
    record {
      before = so_far.before ++ call ∷ [];
      parted = so_far.parted ∙ ap (λ xs. so_far.before ++ xs) is ∙ sym (append_assoc so_far.before (call ∷ []) rest);
      unmet = All-push (IsUnmet guest look value) so_far.before call so_far.unmet unmet;
    }

-- one more that did
pub IsUnmetBefore-met : (guest : ℕ) (look : Act) (value : ℕ) (calls left rest : List Logged) (call : Logged)
    → IsUnmetBefore guest look value calls left → left ≡ call ∷ rest → call.event ≡ event.Guest guest look → call.reply ≡ shown value
    → Follows (IsMet guest look value) calls rest
IsUnmetBefore-met guest look value calls left rest call so_far is acts found =
    let same : call ≡ told guest look (shown value) = λ k. record { event = acts k; reply = found k } in
    record {
      first = so_far.before ++ told guest look (shown value) ∷ [];
      holds = record { before = so_far.before; unmet = so_far.unmet; last = refl };
      parted =
          so_far.parted ∙ ap (λ xs. so_far.before ++ xs) (is ∙ ap (λ it. it ∷ rest) same)
          ∙ sym (append_assoc so_far.before (told guest look (shown value) ∷ []) rest);
    }
