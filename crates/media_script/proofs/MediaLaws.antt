-- A stream is added to the first media of its mid.
use Rattle.std.proofs.Common.{◌≡◌, ℕ, suc, ◌+◌, Bool, true, false, cond, List, [], ◌∷◌, ◌++◌, Some, None, get_or, refl, sym, ap, ◌∙◌, arith}
use Rattle.std.specs.List.{position, position_from}
use Rattle.std.proofs.Math.ListN.{set}
use Rattle.std.proofs.lemmas.Iterator.Adapters.{position_from-zero}
use Rattle.media_model.specs.declared.setup.Media.{Media}
use Rattle.media_model.specs.declared.setup.Stream.{Stream}
use Rattle.media_script.specs.Draft.{is_of, with_stream}

abbrev pub more : Stream → Media → Media
more stream media = record media { streams = media.streams ++ stream ∷ [] }

record AddedAt (mid : List ℕ) (stream : Stream) (xs : List Media) (i k : ℕ) (d : Media) : Type 0 where
  place : ℕ
  is : k ≡ i + place
  added : with_stream mid stream xs ≡ set xs place (more stream (get_or xs place d))

added_from : (mid : List ℕ) (stream : Stream) (xs : List Media) (i k : ℕ) (d : Media) → position_from (is_of mid) i xs ≡ Some k → AddedAt mid stream xs i k d
added_from mid stream [] i k d e = absurd cc
added_from mid stream (x ∷ xs) i k d e = go (added_from mid stream xs (i + 1) k d) (is_of mid x) refl e where
  go : (position_from (is_of mid) (i + 1) xs ≡ Some k → AddedAt mid stream xs (i + 1) k d)
      → (b : Bool) → is_of mid x ≡ b → cond b (Some i) (position_from (is_of mid) (i + 1) xs) ≡ Some k → AddedAt mid stream (x ∷ xs) i k d
  go next true p e' = let same : i ≡ k = cc in record { place = 0; is = omega (arith, same); added = rw p refl }
  go next false p e' =
      let r = next e' in
      record { place = suc r.place; is = omega (arith, r.is); added = rw p (ap (λ (ms : List Media). x ∷ ms) r.added) }

pub added_at : (mid : List ℕ) (stream : Stream) (xs : List Media) (k : ℕ) (d m : Media) → position (is_of mid) xs ≡ Some k → m ≡ more stream (get_or xs k d)
    → set xs k m ≡ with_stream mid stream xs
added_at mid stream xs k d m e is =
    let r = added_from mid stream xs 0 k d (sym (position_from-zero (is_of mid) xs) ∙ e) in
    let same : r.place ≡ k = omega (arith, r.is) in
    rw (r.added, is, same) refl

none_from : (mid : List ℕ) (stream : Stream) (xs : List Media) (i : ℕ) → position_from (is_of mid) i xs ≡ None → with_stream mid stream xs ≡ xs
none_from mid stream [] i e = refl
none_from mid stream (x ∷ xs) i e = go (none_from mid stream xs (i + 1)) (is_of mid x) refl e where
  go : (position_from (is_of mid) (i + 1) xs ≡ None → with_stream mid stream xs ≡ xs) → (b : Bool) → is_of mid x ≡ b
      → cond b (Some i) (position_from (is_of mid) (i + 1) xs) ≡ None → with_stream mid stream (x ∷ xs) ≡ x ∷ xs
  go next true p e' = absurd cc
  go next false p e' = rw p (ap (λ (ms : List Media). x ∷ ms) (next e'))

pub none_at : (mid : List ℕ) (stream : Stream) (xs : List Media) → position (is_of mid) xs ≡ None → xs ≡ with_stream mid stream xs
none_at mid stream xs e = sym (none_from mid stream xs 0 (sym (position_from-zero (is_of mid) xs) ∙ e))
