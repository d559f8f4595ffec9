use Rattle.std.proofs.Common.{◌≡◌, ℕ, List, [], ◌∷◌, map, string_bytes, sym, ap, ◌∙◌, arith}
use Rattle.std.proofs.lemmas.Bool.Decides.{Decides-eqb}
use Rattle.std.proofs.lemmas.Slice.Eq.{slice_eq-Decides}
use Rattle.mediabench.proofs.Singles.{single, pair}
use Rattle.mediabench.proofs.command.command_of.Goals as goal

pub returns-in-len1 : goal.returns-in-len1
returns-in-len1 c =
    let one = single c.args.words.now c.word-item.result (omega arith) c.word-item.is in
    let decides = slice_eq-Decides Decides-eqb _ _ _ c.eq.ensures in
    let seen : map string_bytes c.args.words.now ≡ c.as_str.result.now ∷ [] = ap (map string_bytes) one ∙ ap (λ (l : List ℕ). l ∷ []) (sym c.as_str.ensures.value) in
    seen ∙ ap (λ (l : List ℕ). l ∷ []) (decides.0 c.if-eq.true)

pub returns-in-len1-2 : goal.returns-in-len1-2
returns-in-len1-2 c =
    let one = single c.args.words.now c.word-item-then-words-lt2.result (omega arith) c.word-item-then-words-lt2.is in
    let decides = slice_eq-Decides Decides-eqb _ _ _ c.eq-then-words-lt2.ensures in
    let seen : map string_bytes c.args.words.now ≡ c.as_str-then-words-lt2.result.now ∷ [] =
    ap (map string_bytes) one ∙ ap (λ (l : List ℕ). l ∷ []) (sym c.as_str-then-words-lt2.ensures.value) in
    seen ∙ ap (λ (l : List ℕ). l ∷ []) (decides.0 c.if-eq-2.true)

pub returns-in-len2 : goal.returns-in-len2
returns-in-len2 c =
    let two = pair c.args.words.now c.word-item-then-words-lt3.result c.name-item.result (omega arith) c.word-item-then-words-lt3.is c.name-item.is in
    let decides = slice_eq-Decides Decides-eqb _ _ _ c.eq-then-words-lt3.ensures in
    let seen : map string_bytes c.args.words.now ≡ c.as_str-then-words-lt3.result.now ∷ c.as_str-in-len2.result.now ∷ [] =
    ap (map string_bytes) two ∙ ap (λ (l : List ℕ). l ∷ string_bytes c.name-item.result ∷ []) (sym c.as_str-then-words-lt3.ensures.value) ∙ ap (λ (l : List ℕ). c.as_str-then-words-lt3.result.now ∷ l ∷ []) (sym c.as_str-in-len2.ensures.value) in
    seen ∙ ap (λ (l : List ℕ). l ∷ c.as_str-in-len2.result.now ∷ []) (decides.0 c.if-eq-3.true)
