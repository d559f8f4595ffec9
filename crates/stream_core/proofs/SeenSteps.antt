-- The windows of what was seen, step by step.
use Rattle.std.proofs.Common.{◌≡◌, ◌<◌, ◌^◌, ℕ, List, [], ◌∷◌, ◌++◌, Option, Some, None, slice_get, max, sym, ap, subst, ◌∙◌, arith}
use Rattle.std.specs.Prelude.{option_and_then, Bool, true, false, if◌then◌else◌}
use Rattle.std.specs.Map.{values_of}
use Rattle.std.specs.Option.{option_map_or}
use Rattle.indexmap.specs.IndexMap.{set_value_at}
use Rattle.rtp_base.specs.declared.window.SeqNoWindow.{SeqNoWindow}
use Rattle.rtp_base.specs.Window.{greatest, is_fresh_after, with_fresh, StandsFor as WindowStandsFor}
use Rattle.stream_core.specs.Seen.{Saw, SeenStandsFor, saw}
use Rattle.stream_core.specs.Tables.{place_of, value_under, change_place}
use Rattle.stream_core.proofs.Alongside.{place_along, value_along, change_along, along_more}

greatest_snoc : (l : List ℕ) (n : ℕ) → greatest (l ++ n ∷ []) ≡ max (greatest l) n
greatest_snoc [] n = omega arith
greatest_snoc (x ∷ l) n = omega (arith, greatest_snoc l n)

small_with : (l : List ℕ) (n : ℕ) → greatest l < 2 ^ 48 → n < 2 ^ 48 → greatest (with_fresh None l n) < 2 ^ 48
small_with l n h lt = pick (is_fresh_after None l n) where
  pick : (b : Bool) → greatest (if b then l ++ n ∷ [] else l) < 2 ^ 48
  pick true = omega (arith, greatest_snoc l n)
  pick false = h

-- a window after one more number
pub window_more : (w new : SeqNoWindow) (n : ℕ) → n < 2 ^ 48
    → ((floor : Option ℕ) (l : List ℕ) → WindowStandsFor w floor l → WindowStandsFor new floor (with_fresh floor l n))
    → (l : List ℕ) → Saw w l → Saw new (with_fresh None l n)
window_more w new n lt takes l h = (takes None l h.0, small_with l n h.1 lt)

module _ (ws : List (ℕ × SeqNoWindow)) (seen : List (ℕ × List ℕ)) (ssrc : ℕ) (h : SeenStandsFor ws seen) where
  -- nothing opened under an SSRC
  pub seen_none : place_of ssrc ws ≡ None → value_under ssrc seen ≡ None
  seen_none none = ap (option_and_then (slice_get (values_of seen))) (sym (place_along Saw ws seen ssrc h) ∙ none)

  -- these numbers opened under it
  pub seen_at : (i : ℕ) (w : SeqNoWindow) → place_of ssrc ws ≡ Some i → slice_get (values_of ws) i ≡ Some w
      → (l : List ℕ) × (value_under ssrc seen ≡ Some l) × Saw w l
  seen_at i w place at =
      let found = value_along Saw ws seen i w h at in
      (found.0, ap (option_and_then (slice_get (values_of seen))) (sym (place_along Saw ws seen ssrc h) ∙ place) ∙ found.1, found.2)

  -- one more number, under an SSRC under which some opened
  pub saw_there : (i n : ℕ) (w new : SeqNoWindow) → place_of ssrc ws ≡ Some i → slice_get (values_of ws) i ≡ Some w
      → ((l : List ℕ) → Saw w l → Saw new (with_fresh None l n)) → SeenStandsFor (set_value_at ws i new) (saw ssrc n seen)
  saw_there i n w new place at step =
      subst (SeenStandsFor (set_value_at ws i new))
      (ap (λ o. option_map_or (change_place (λ l. with_fresh None l n) seen) o (seen ++ (ssrc, n ∷ []) ∷ [])) (sym (sym (place_along Saw ws seen ssrc h) ∙ place)))
      (change_along Saw ws seen i w new (λ l. with_fresh None l n) h at step)

  -- and under one under which none did
  pub saw_new : (n : ℕ) (w : SeqNoWindow) → place_of ssrc ws ≡ None → Saw w (n ∷ []) → SeenStandsFor (ws ++ (ssrc, w) ∷ []) (saw ssrc n seen)
  saw_new n w none fits =
      subst (SeenStandsFor (ws ++ (ssrc, w) ∷ []))
      (ap (λ o. option_map_or (change_place (λ l. with_fresh None l n) seen) o (seen ++ (ssrc, n ∷ []) ∷ [])) (sym (sym (place_along Saw ws seen ssrc h) ∙ none)))
      (along_more Saw ws seen ssrc w (n ∷ []) h fits)
