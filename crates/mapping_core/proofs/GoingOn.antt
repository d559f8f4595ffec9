-- Streams go on whatever is taken up.
use Rattle.std.proofs.Common.{◌≡◌, ◌≢◌, ◌⊎◌, ℕ, ◌<◌, Bool, true, false, if◌then◌else◌, List, [], ◌∷◌, ◌++◌, length, get_or, Option, Some, None, slice_get, slice_set, position, refl, sym, ap, subst, inl, inr, ◌∙◌, eqb, arith, length-append}
use Rattle.std.proofs.lemmas.List.{length-set, get_or-set_same, get_or-set_other}
use Rattle.std.proofs.lemmas.Option.{slice_get_within, get_or_from_slice_get, slice_get-get_or}
use Rattle.std.proofs.Math.ListN.{get_or-append}
use Rattle.std.proofs.lemmas.Bool.Decides.{eqb_tells}
use Rattle.std.specs.Option.{option_map_or}
use Rattle.mapping_core.specs.Claims.{is_number}
use Rattle.mapping_core.specs.GoingOn.{GoesOn, GoOn}
use Rattle.mapping_core.specs.Streams.{has_main, is_main, fresh, moved, repaired_under, changed_at, changed, with_stream, with_main, with_repairs}
use Rattle.mapping_core.specs.declared.stream.IncomingStream.{IncomingStream}
use Rattle.mapping_core.specs.declared.mapping.MainChange.{MainChange}
use Rattle.mapping_core.specs.declared.mapping.RepairsChange.{RepairsChange}

goes_on_as_it_is : (s t : IncomingStream) → s ≡ t → GoesOn s t
goes_on_as_it_is s t e = subst (λ (u : IncomingStream). GoesOn s u) e (record { mid = refl; rid = refl; suppressed = refl; packets = inl refl })

goes_on_moved : (to : ℕ) (s : IncomingStream) → GoesOn s (moved to s)
goes_on_moved to s = cases (is_number s.previous to) refl where
  cases : (b : Bool) → is_number s.previous to ≡ b → GoesOn s (if b then s else record s { ssrc = to; previous = Some s.ssrc })
  cases true h = goes_on_as_it_is s s refl
  cases false h = record {
    mid = refl;
    rid = refl;
    suppressed = refl;
    packets = inr (record { remembers = refl; never_back = λ e. grind (arith, h, e) });
  }

-- what is at a place of two lists, where both have the same there
same_there : (xs ys : List IncomingStream) (i : ℕ) (s t : IncomingStream) → get_or ys i s ≡ get_or xs i s
    → slice_get xs i ≡ Some s → slice_get ys i ≡ Some t → s ≡ t
same_there xs ys i s t e h k = sym (get_or_from_slice_get xs i s s h) ∙ sym e ∙ get_or_from_slice_get ys i t s k

pub go_on_same : (xs ys : List IncomingStream) → ys ≡ xs → GoOn xs ys
go_on_same xs ys e = subst (λ (zs : List IncomingStream). GoOn xs zs) (sym e) (record {
  none_gone = omega arith;
  each = λ i s t h k. goes_on_as_it_is s t (same_there xs xs i s t refl h k);
})

go_on_more : (xs more : List IncomingStream) → GoOn xs (xs ++ more)
go_on_more xs more = record {
  none_gone = rw (length-append xs more) (omega arith);
  each = λ i s t h k. goes_on_as_it_is s t (same_there xs (xs ++ more) i s t (get_or-append xs more s i (slice_get_within xs i s h)) h k);
}

-- one stream goes on as another value
go_on_set : (xs : List IncomingStream) (j : ℕ) (u v : IncomingStream) → slice_get xs j ≡ Some u → GoesOn u v → GoOn xs (slice_set xs j v)
go_on_set xs j u v there goes = record {
  none_gone = rw (length-set xs j v) (omega arith);
  each = λ i s t h k. at i s t h k (eqb_tells i j);
} where
  at : (i : ℕ) (s t : IncomingStream) → slice_get xs i ≡ Some s → slice_get (slice_set xs j v) i ≡ Some t
      → ((eqb i j ≡ true) × (i ≡ j)) ⊎ ((eqb i j ≡ false) × (i ≢ j)) → GoesOn s t
  at i s t h k (inl e) =
      let before : slice_get xs j ≡ Some s = subst (λ (n : ℕ). slice_get xs n ≡ Some s) e.1 h in
      let after : slice_get (slice_set xs j v) j ≡ Some t = subst (λ (n : ℕ). slice_get (slice_set xs j v) n ≡ Some t) e.1 k in
      let same : u ≡ s = sym (get_or_from_slice_get xs j u s there) ∙ get_or_from_slice_get xs j s s before in
      let new : v ≡ t = sym (get_or-set_same xs j v s (slice_get_within xs j u there)) ∙ get_or_from_slice_get (slice_set xs j v) j t s after in
      subst (λ (x : IncomingStream). GoesOn x t) same (subst (λ (y : IncomingStream). GoesOn u y) new goes)
  at i s t h k (inr e) = goes_on_as_it_is s t (same_there xs (slice_set xs j v) i s t (get_or-set_other xs j i v s e.1) h k)

-- the stream at a place changes so
go_on_changed_at : (f : IncomingStream → IncomingStream) → ((s : IncomingStream) → GoesOn s (f s)) → (xs : List IncomingStream) (i : ℕ)
    → GoOn xs (changed_at f xs i)
go_on_changed_at f goes xs i = found (slice_get xs i) refl where
  found : (o : Option IncomingStream) → slice_get xs i ≡ o → GoOn xs (option_map_or (λ s. slice_set xs i (f s)) o xs)
  found None h = go_on_same xs xs refl
  found (Some s) h = go_on_set xs i s (f s) h (goes s)

-- the first stream of an SSRC does
go_on_changed : (f : IncomingStream → IncomingStream) → ((s : IncomingStream) → GoesOn s (f s)) → (ssrc : ℕ) (xs : List IncomingStream)
    → GoOn xs (changed f ssrc xs)
go_on_changed f goes ssrc xs = found (position (has_main ssrc) xs) where
  found : (o : Option ℕ) → GoOn xs (option_map_or (changed_at f xs) o xs)
  found None = go_on_same xs xs refl
  found (Some i) = go_on_changed_at f goes xs i

go_on_either : (b : Bool) (xs ys : List IncomingStream) → GoOn xs ys → GoOn xs (if b then xs else ys)
go_on_either true xs ys h = go_on_same xs xs refl
go_on_either false xs ys h = h

along : (xs ys zs : List IncomingStream) → ys ≡ zs → GoOn xs zs → GoOn xs ys
along xs ys zs e h = subst (λ (l : List IncomingStream). GoOn xs l) (sym e) h

pub go_on_with_stream : (s : IncomingStream) (xs ys : List IncomingStream) → ys ≡ with_stream s xs → GoOn xs ys
go_on_with_stream s xs ys e = along xs ys _ e (go_on_either (is_main xs s.ssrc) xs (xs ++ fresh s ∷ []) (go_on_more xs (fresh s ∷ [])))

pub go_on_with_main : (c : MainChange) (xs ys : List IncomingStream) → ys ≡ with_main c xs → GoOn xs ys
go_on_with_main c xs ys e =
    along xs ys _ e (go_on_either (is_main xs c.to) xs (changed (moved c.to) c.from xs) (go_on_changed (moved c.to) (goes_on_moved c.to) c.from xs))

pub go_on_with_repairs : (c : RepairsChange) (xs ys : List IncomingStream) → ys ≡ with_repairs c xs → GoOn xs ys
go_on_with_repairs c xs ys e = along xs ys _ e (go_on_changed (repaired_under c.rtx)
    (λ s. record { mid = refl; rid = refl; suppressed = refl; packets = inl refl }) c.main xs)

-- the packets of the stream at a place have moved
pub go_on_moved : (to : ℕ) (xs ys : List IncomingStream) (i : ℕ) (s t : IncomingStream) → ys ≡ xs → i < length xs → s ≡ get_or ys i s
    → t ≡ moved to s → GoOn xs (slice_set ys i t)
go_on_moved to xs ys i s t same within there e =
    let inside : i < length ys = subst (λ (zs : List IncomingStream). i < length zs) (sym same) within in
    let found : slice_get ys i ≡ Some s = slice_get-get_or ys i s inside ∙ ap (λ (x : IncomingStream). Some x) (sym there) in
    subst (λ (zs : List IncomingStream). GoOn zs (slice_set ys i t)) same
    (go_on_set ys i s t found (subst (λ (u : IncomingStream). GoesOn s u) (sym e) (goes_on_moved to s)))
