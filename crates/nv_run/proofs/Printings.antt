-- Lines printed one after another
use Rattle.std.proofs.Common.{◌≡◌, ℕ, ◌+◌, ◌<◌, ◌≤◌, zero, suc, List, [], ◌∷◌, ◌++◌, length, take, get_or, refl, sym, ap, ◌∙◌, append_assoc, arith}
use Rattle.std.proofs.lemmas.List.{append-nil, take_all, take_more}
use Rattle.nv_run.specs.Shown.{behind, guest_lines, line_of, lines_below}
use Rattle.nv_run_script.specs.declared.line.Line.{Line}
use Rattle.nv_world_model.specs.declared.logged.Logged.{Logged}

-- ---- the lines of a guest

-- the calls behind those that the answers of some lines take up
unfoldable pub behind_all : List Line → List Logged → List Logged
behind_all [] calls = calls
behind_all (line ∷ lines) calls = behind_all lines (behind line.task calls)

-- one more line
behind_all-then : (before : List Line) (line : Line) (calls : List Logged)
    → behind_all (before ++ line ∷ []) calls ≡ behind line.task (behind_all before calls)
unfolding behind_all
behind_all-then [] line calls = refl
behind_all-then (first ∷ before) line calls = behind_all-then before line (behind first.task calls)

guest_lines-then : (guest : ℕ) (before : List Line) (line : Line) (calls : List Logged)
    → guest_lines guest (before ++ line ∷ []) calls ≡ guest_lines guest before calls ++ line_of guest line.task (behind_all before calls)
unfolding behind_all guest_lines
guest_lines-then guest [] line calls = append-nil (line_of guest line.task calls)
guest_lines-then guest (first ∷ before) line calls =
    let after = behind first.task calls in
    ap (λ (text : List ℕ). line_of guest first.task calls ++ text) (guest_lines-then guest before line after)
    ∙ sym (append_assoc (line_of guest first.task calls) (guest_lines guest before after) (line_of guest line.task (behind_all before after)))

one-more : (lines : List Line) (i : ℕ) (line : Line) → i < length lines → line ≡ get_or lines i line → take (i + 1) lines ≡ take i lines ++ line ∷ []
one-more lines i line below at = take_more lines i line below ∙ ap (λ it. take i lines ++ it ∷ []) (sym at)

pub behind_all-more : (lines : List Line) (i : ℕ) (line : Line) (calls : List Logged) → i < length lines → line ≡ get_or lines i line
    → behind_all (take (i + 1) lines) calls ≡ behind line.task (behind_all (take i lines) calls)
behind_all-more lines i line calls below at =
    ap (λ (ls : List Line). behind_all ls calls) (one-more lines i line below at) ∙ behind_all-then (take i lines) line calls

pub guest_lines-more : (guest : ℕ) (lines : List Line) (i : ℕ) (line : Line) (calls : List Logged) → i < length lines → line ≡ get_or lines i line
    → guest_lines guest (take (i + 1) lines) calls ≡ guest_lines guest (take i lines) calls ++ line_of guest line.task (behind_all (take i lines) calls)
guest_lines-more guest lines i line calls below at =
    ap (λ (ls : List Line). guest_lines guest ls calls) (one-more lines i line below at) ∙ guest_lines-then guest (take i lines) line calls

-- behind the last
pub guest_lines-all : (guest : ℕ) (lines : List Line) (i : ℕ) (calls : List Logged) → length lines ≤ i
    → guest_lines guest (take i lines) calls ≡ guest_lines guest lines calls
guest_lines-all guest lines i calls all = ap (λ (ls : List Line). guest_lines guest ls calls) (take_all i lines all)

-- ---- the guests

-- the guests below one more number
pub lines_below-more : (n : ℕ) (lines : ℕ → List Line) (calls : ℕ → List Logged)
    → lines_below (n + 1) lines calls ≡ lines_below n lines calls ++ guest_lines n (lines n) (calls n)
unfolding lines_below
lines_below-more n lines calls =
    let same : n + 1 ≡ suc n = omega arith in
    rw same refl

-- what is printed of the guests below a number is by their lines and calls alone
pub lines_below-same : (n : ℕ) (lines others : ℕ → List Line) (calls told : ℕ → List Logged)
    → ((guest : ℕ) → guest < n → lines guest ≡ others guest) → ((guest : ℕ) → guest < n → calls guest ≡ told guest)
    → lines_below n lines calls ≡ lines_below n others told
unfolding lines_below
lines_below-same zero lines others calls told alike same = refl
lines_below-same (suc n) lines others calls told alike same =
    let before = lines_below-same n lines others calls told (λ guest below. alike guest (omega (arith, below))) (λ guest below. same guest (omega (arith, below))) in
    rw (before, alike n (omega arith), same n (omega arith)) refl
