use Rattle.std.proofs.Common.{ℕ, List, Bor, Option, rules, tests, sym, ap, ◌∙◌}
use Rattle.std.specs.Str.{bytes_eq}
use Rattle.std.specs.Option.{option_map}
use Rattle.std.proofs.lemmas.Iterator.{YieldsList-from_slice}
use Rattle.std.proofs.lemmas.Iterator.Search.{find_from_yields_List}
use Rattle.nv_once_script.proofs.OnceVocabularyLemmas.{lookup-none, lookup-some}
use Rattle.nv_once_script.proofs.once.vocabulary.keyword_in.Goals as goal

pub returns-in_err-keyword : goal.returns-in_err-keyword
returns-in_err-keyword over c =
    let found = find_from_yields_List (λ row. bytes_eq row.0.now c.args.word.now) _ _ c.find.result c.find.ensures.ran
    (YieldsList-from_slice c.args.rows.now (cc)) (λ x b q k. search (rules, tests)) in
    c.from_residual.ensures
    ∙ sym (lookup-none c.args.word.now c.args.rows.now
    (sym found
    ∙ ap (λ (o : Option (Bor (Bor (List ℕ) × over.row.K.Denot))). option_map (λ (r : Bor (Bor (List ℕ) × over.row.K.Denot)). r.now) o)
    (c.in_err-keyword.was)))

pub returns : goal.returns
returns over c =
    let found = find_from_yields_List (λ row. bytes_eq row.0.now c.args.word.now) _ _ c.find.result c.find.ensures.ran
    (YieldsList-from_slice c.args.rows.now (cc)) (λ x b q k. search (rules, tests)) in
    sym (lookup-some c.args.word.now c.args.rows.now c.in_ok-keyword.field-0.now
    (sym found
    ∙ ap (λ (o : Option (Bor (Bor (List ℕ) × over.row.K.Denot))). option_map (λ (r : Bor (Bor (List ℕ) × over.row.K.Denot)). r.now) o)
    (c.in_ok-keyword.was)))
