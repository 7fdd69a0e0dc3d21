-- Runs of joined steps.
use Rattle.std.proofs.Common.{◌≡◌, List, [], ◌∷◌, ◌++◌, Option, Some, None, refl, sym, ap, ◌∙◌}
use Rattle.nv_model.specs.Private.{After, Private, Run, Seen, Shape, Step, further, run_of, step, with_seen}
use Rattle.nv_laws_sound.proofs.Lists.{some-same}

-- what is seen of one run and then of another
abbrev pub run_behind : Run → Run → Run
run_behind r s = record { state = s.state; seen = r.seen ++ s.seen }

with_seen-joined : (a : Option Seen) (xs ys : List Seen) → with_seen a xs ++ ys ≡ with_seen a (xs ++ ys)
with_seen-joined None xs ys = refl
with_seen-joined (Some a) xs ys = refl

-- a step and a run behind it, and one more run
tail-joined : (a : After) (o : Option Run) (r s : Run) (all : Option Run) → further (Some a) (λ _. o) ≡ Some r
    → ((t : Run) → o ≡ Some t → r.state ≡ t.state → all ≡ Some (run_behind t s)) → further (Some a) (λ _. all) ≡ Some (run_behind r s)
tail-joined a None r s all e rest = cc
tail-joined a (Some t) r s all e rest =
    let same = some-same (record { state = t.state; seen = with_seen a.seen t.seen }) r e in
    ap (λ x. further (Some a) (λ _. x)) (rest t refl (sym (ap (λ (x : Run). x.state) same)))
    ∙ ap (λ (xs : List Seen). Some (record { state = s.state; seen = xs })) (sym (with_seen-joined a.seen t.seen s.seen) ∙ ap (λ (x : Run). x.seen ++ s.seen) same)

further-joined : (shape : Shape) (o : Option After) (xs ys : List Step) (r s : Run) → further o (λ q. run_of shape xs q) ≡ Some r
    → ((q : Private) (t : Run) → run_of shape xs q ≡ Some t → r.state ≡ t.state → run_of shape (xs ++ ys) q ≡ Some (run_behind t s))
    → further o (λ q. run_of shape (xs ++ ys) q) ≡ Some (run_behind r s)
further-joined shape None xs ys r s e rest = cc
further-joined shape (Some a) xs ys r s e rest =
    tail-joined a (run_of shape xs a.state) r s (run_of shape (xs ++ ys) a.state) e (λ t is same. rest a.state t is same)

-- one run, and another from where it ends
pub run_of-joined : (shape : Shape) (xs ys : List Step) (p : Private) (r s : Run) → run_of shape xs p ≡ Some r
    → run_of shape ys r.state ≡ Some s → run_of shape (xs ++ ys) p ≡ Some (run_behind r s)
unfolding run_of
run_of-joined shape [] ys p r s one other =
    let same = some-same (record { state = p; seen = [] }) r one in
    ap (λ (x : Run). run_of shape ys x.state) same ∙ other ∙ ap (λ (x : Run). Some (record { state = s.state; seen = x.seen ++ s.seen })) same
run_of-joined shape (x ∷ xs) ys p r s one other =
    further-joined shape (step shape x p) xs ys r s one
    (λ q t is same. run_of-joined shape xs ys q t s is (ap (run_of shape ys) (sym same) ∙ other))
