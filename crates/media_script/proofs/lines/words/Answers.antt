use Rattle.std.proofs.Common.{◌∷◌, ◌++◌, [], List, ℕ, Bor, map, sym, ap, ◌∙◌, append_assoc}
use Rattle.std.proofs.lemmas.List.{map-append}
use Rattle.media_script.specs.Spelling.{words_of}
use Rattle.media_script.proofs.Pieces.{first_word, last_word}
use Rattle.media_script.proofs.lines.words.Goals as goal

pub loop-word-preserved : goal.loop-word-preserved
loop-word-preserved c =
    let cut = c.in-Some.ensures in
    let now : Bor (List ℕ) → List ℕ = λ w. w.now in
    let before = c.loop-word.words.items in
    let after = words_of c.in-Some.after.now in
    ap (λ ws. map now ws ++ after) c.in_ok-push.ensures.items
    ∙ ap (λ ws. ws ++ after) (map-append now before (c.in-Some.word ∷ []))
    ∙ append_assoc (map now before) (c.in-Some.word.now ∷ []) after
    ∙ ap (λ ws. map now before ++ ws) (sym (first_word c.loop-word.rest.now c.in-Some.word.now c.in-Some.after.now cut.0 cut.1))
    ∙ c.loop-word.invariant

pub returns : goal.returns
returns c =
    let now : Bor (List ℕ) → List ℕ = λ w. w.now in
    let before = c.loop-word.words.items in
    ap (map now) c.in_ok-push-2.ensures.items
    ∙ map-append now before (c.loop-word.rest ∷ [])
    ∙ ap (λ ws. map now before ++ ws) (sym (last_word c.loop-word.rest.now c.in_default.ensures))
    ∙ c.loop-word.invariant
