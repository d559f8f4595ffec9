use Rattle.std.proofs.Common.{◌≡◌, ◌+◌, ◌<◌, ℕ, List, [], ◌∷◌, ◌++◌, length, take, get_or, Option, sym, ap, ◌∙◌, append_assoc}
use Rattle.std.specs.List.{filter_map, cons_option}
use Rattle.std.proofs.lemmas.List.{append-nil, take_more}
use Rattle.std.proofs.lemmas.List.Elements.{filter_map-append}
use Rattle.media_model.specs.declared.setup.Stream.{Stream}
use Rattle.media_model.specs.Setup.{main_in}
use Rattle.media_model.proofs.setup.add_streams.Goals as goal
use Rattle.media_model.proofs.setup.add_streams.Goals.{in-Some+in_ok-push, in_default}

one_more : (f : Stream → Option ℕ) (xs : List Stream) (i : ℕ) (x : Stream) → i < length xs → x ≡ get_or xs i x → filter_map f (take (i + 1) xs) ≡ filter_map f (take i xs) ++ cons_option (f x) []
one_more f xs i x lt is =
    ap (filter_map f) (take_more xs i x lt) ∙ ap (λ (y : Stream). filter_map f (take i xs ++ y ∷ [])) (sym is) ∙ filter_map-append f (take i xs) (x ∷ [])

pub loop-stream-preserved : goal.loop-stream-preserved
loop-stream-preserved c =
    let f = main_in c.args.of in
    let before = take c.loop-stream.stream-index c.args.streams.now in
    let more = one_more f c.args.streams.now c.loop-stream.stream-index c.stream-item.result c.loop-stream-test.true c.stream-item.is in
    elim c.match-main_of.branch [
      | in-Some+in_ok-push w ↦
          ap (λ v. v.items) w.ssrcs-is ∙ w.in_ok-push.ensures.items ∙ ap (λ (ys : List ℕ). ys ++ w.in-Some.ssrc ∷ []) c.loop-stream.invariant
          ∙ append_assoc c.args.ssrcs.now.items (filter_map f before) (w.in-Some.ssrc ∷ [])
          ∙ ap (λ (ys : List ℕ). c.args.ssrcs.now.items ++ ys) (ap (λ (o : Option ℕ). filter_map f before ++ cons_option o []) w.in-Some.ensures ∙ sym more)
      | in_default w ↦
          ap (λ v. v.items) w.ssrcs-is ∙ c.loop-stream.invariant
          ∙ ap (λ (ys : List ℕ). c.args.ssrcs.now.items ++ ys) (sym (append-nil (filter_map f before)) ∙ ap (λ (o : Option ℕ). filter_map f before ++ cons_option o []) w.in_default.ensures ∙ sym more)
    ]
