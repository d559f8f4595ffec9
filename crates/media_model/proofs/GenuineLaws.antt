-- The test of a genuine run tells what genuine means.
use Rattle.std.proofs.Common.{◌≡◌, ℕ, Bool, true, false, ◌&&◌, ◌||◌, List, [], ◌∷◌, ◌++◌, Option, Some, None, Result, Ok, Err, refl, sym, ap, ◌∙◌, subst, append_assoc}
use Rattle.std.specs.Prelude.{IsTrue, IfOk, ◌↔◌}
use Rattle.std.specs.declared.alloc.AllocError.{AllocError}
use Rattle.std.specs.List.{list_any}
use Rattle.std.proofs.lemmas.Bool.{eqb-true, eq-eqb}
use Rattle.std.proofs.lemmas.List.{append-nil}
use Rattle.std.proofs.lemmas.List.Folds.{list_any-append}
use Rattle.std.proofs.lemmas.Slice.Eq.{bytes_eq-Decides}
use Rattle.media_model.specs.declared.entry.Side.{Side}
use Rattle.media_model.specs.declared.entry.Side.TheVariants.{A, B}
use Rattle.rtp_base.specs.declared.kind.Kind.{Kind}
use Rattle.rtp_base.specs.declared.kind.Kind.TheVariants.{Rtp, Rtcp}
use Rattle.media_model.specs.declared.entry.Sealed.{Sealed as SealedEntry}
use Rattle.media_model.specs.declared.entry.Opened.{Opened as OpenedEntry}
use Rattle.media_model.specs.declared.entry.Entry.{Entry}
use Rattle.media_model.specs.declared.entry.Entry.TheVariants.{Wrote, Ticked, Called, Got, Sealed, Opened, Yielded}
use Rattle.rtp_base.specs.Kind.{same_kind}
use Rattle.media_model.specs.Sides.{peer_of, same_side}
use Rattle.media_model.specs.Entries.{last_got}
use Rattle.media_model.specs.Genuine.{IsPeersSeal, IsGenuine, seals, some_seals, is_genuine_after, genuine_from, is_genuine}

both : (a b : Bool) → (a && b) ≡ true → (a ≡ true) × (b ≡ true)
both true b e = (refl, e)
both false b e = absurd cc

record Found {X : Type 0} (test : X → Bool) (xs : List X) : Type 0 where
  one : X
  front : List X
  rest : List X
  split : xs ≡ front ++ one ∷ rest
  passes : test one ≡ true

found : {X : Type 0} (test : X → Bool) (xs : List X) → list_any test xs ≡ true → Found test xs
found test [] e = absurd cc
found test (x ∷ xs) e = go (λ h. found test xs h) (test x) refl e where
  go : (list_any test xs ≡ true → Found test xs) → (b : Bool) → test x ≡ b → (b || list_any test xs) ≡ true → Found test (x ∷ xs)
  go next true p e' = record { one = x; front = []; rest = xs; split = refl; passes = p }
  go next false p e' = let f = next e' in record { one = f.one; front = x ∷ f.front; rest = f.rest; split = ap (λ ys. x ∷ ys) f.split; passes = f.passes }

side_is : (a b : Side) → same_side a b ≡ true → a ≡ b
side_is A A e = refl
side_is A B e = absurd cc
side_is B A e = absurd cc
side_is B B e = refl

kind_is : (a b : Kind) → same_kind a b ≡ true → a ≡ b
kind_is Rtp Rtp e = refl
kind_is Rtp Rtcp e = absurd cc
kind_is Rtcp Rtp e = absurd cc
kind_is Rtcp Rtcp e = refl

same_side_refl : (a : Side) → same_side a a ≡ true
same_side_refl A = refl
same_side_refl B = refl

same_kind_refl : (a : Kind) → same_kind a a ≡ true
same_kind_refl Rtp = refl
same_kind_refl Rtcp = refl

-- an entry that passes is a seal
sealed_is : (o : OpenedEntry) (bytes : List ℕ) (e : Entry) → seals o bytes e ≡ true
    → (s : SealedEntry) × (e ≡ Sealed s) × (s.side ≡ peer_of o.side) × (s.kind ≡ o.kind) × (s.ssrc ≡ o.ssrc) × (s.index ≡ o.index) × (s.bytes ≡ bytes)
sealed_is o bytes (Sealed s) e =
    let p = both _ _ e in
    let q = both _ _ p.1 in
    let t = both _ _ q.1 in
    let u = both _ _ t.1 in
    (s, refl, side_is s.side (peer_of o.side) p.0, kind_is s.kind o.kind q.0, eqb-true s.ssrc o.ssrc t.0, eqb-true s.index o.index u.0, (bytes_eq-Decides s.bytes bytes).0 u.1)
sealed_is o bytes (Wrote s t w) e = absurd cc
sealed_is o bytes (Ticked s t) e = absurd cc
sealed_is o bytes (Called s t c) e = absurd cc
sealed_is o bytes (Got g) e = absurd cc
sealed_is o bytes (Opened p) e = absurd cc
sealed_is o bytes (Yielded s p) e = absurd cc

seals_it : (o : OpenedEntry) (s : SealedEntry) → s.side ≡ peer_of o.side → s.kind ≡ o.kind → s.ssrc ≡ o.ssrc → s.index ≡ o.index → seals o s.bytes (Sealed s) ≡ true
seals_it o s a b c d =
    rw (a, b, c, d, same_side_refl (peer_of o.side), same_kind_refl o.kind, eq-eqb o.ssrc o.ssrc refl, eq-eqb o.index o.index refl) ((bytes_eq-Decides s.bytes s.bytes).1 refl)

seal_told : (before : List Entry) (o : OpenedEntry) → some_seals before o (last_got o.side before) ≡ true → IsPeersSeal before o
seal_told before o e = go (last_got o.side before) refl e where
  go : (l : Option (List ℕ)) → last_got o.side before ≡ l → some_seals before o l ≡ true → IsPeersSeal before o
  go None p e' = absurd cc
  go (Some bytes) p e' =
      let f = found (seals o bytes) before e' in
      let s = sealed_is o bytes f.one f.passes in
      record {
        seal = s.0;
        front = f.front;
        rest = f.rest;
        sealed = f.split ∙ ap (λ x. f.front ++ x ∷ f.rest) s.1;
        side = s.2;
        kind = s.3;
        ssrc = s.4;
        index = s.5;
        came = p ∙ ap Some (sym s.6);
      }

or_true : (a : Bool) → (a || true) ≡ true
or_true true = refl
or_true false = refl

seal_passes : (before : List Entry) (o : OpenedEntry) → IsPeersSeal before o → some_seals before o (last_got o.side before) ≡ true
seal_passes before o s =
    let test = seals o s.seal.bytes in
    ap (some_seals before o) s.came ∙ ap (list_any test) s.sealed ∙ list_any-append test s.front (Sealed s.seal ∷ s.rest)
    ∙ ap (λ b. list_any test s.front || (b || list_any test s.rest)) (seals_it o s.seal s.side s.kind s.ssrc s.index) ∙ or_true (list_any test s.front)

genuine_told : (entries before : List Entry) → genuine_from before entries ≡ true → (front after : List Entry) (opened : OpenedEntry)
    → entries ≡ front ++ Opened opened ∷ after → IsPeersSeal (before ++ front) opened
unfolding genuine_from
genuine_told [] before e [] after opened split = absurd cc
genuine_told [] before e (f ∷ front) after opened split = absurd cc
genuine_told (x ∷ entries) before e [] after opened split =
    let is : x ≡ Opened opened = cc in
    subst (λ b. IsPeersSeal b opened) (sym (append-nil before))
    (seal_told before opened (sym (ap (is_genuine_after before) is) ∙ (both _ _ e).0))
genuine_told (x ∷ entries) before e (f ∷ front) after opened split =
    let same : x ≡ f = cc in
    let tail : entries ≡ front ++ Opened opened ∷ after = cc in
    subst (λ b. IsPeersSeal b opened) (append_assoc before (x ∷ []) front ∙ ap (λ y. before ++ y ∷ front) same)
    (genuine_told entries (before ++ x ∷ []) (both _ _ e).1 front after opened tail)

genuine_passes : (entries before : List Entry) → ((front after : List Entry) (opened : OpenedEntry)
    → entries ≡ front ++ Opened opened ∷ after → IsPeersSeal (before ++ front) opened) → genuine_from before entries ≡ true
unfolding genuine_from
genuine_passes [] before h = refl
genuine_passes (x ∷ entries) before h =
    ap (λ b. b && genuine_from (before ++ x ∷ []) entries) (here x refl)
    ∙ genuine_passes entries (before ++ x ∷ []) (λ front after opened split.
    subst (λ b. IsPeersSeal b opened) (sym (append_assoc before (x ∷ []) front)) (h (x ∷ front) after opened (ap (λ ys. x ∷ ys) split))) where
      here : (y : Entry) → x ≡ y → is_genuine_after before x ≡ true
      here (Opened opened) p =
          ap (is_genuine_after before) p
          ∙ seal_passes before opened (subst (λ b. IsPeersSeal b opened) (append-nil before) (h [] entries opened (ap (λ y. y ∷ entries) p)))
      here (Wrote s t w) p = ap (is_genuine_after before) p
      here (Ticked s t) p = ap (is_genuine_after before) p
      here (Called s t c) p = ap (is_genuine_after before) p
      here (Got g) p = ap (is_genuine_after before) p
      here (Sealed s) p = ap (is_genuine_after before) p
      here (Yielded s q) p = ap (is_genuine_after before) p

pub genuine_means : (entries : List Entry) (b : Bool) → b ≡ is_genuine entries → IsTrue b ↔ IsGenuine entries
genuine_means entries b is = (
  λ t. genuine_told entries [] (sym is ∙ t),
  λ g. is ∙ genuine_passes entries [] g,
)

pub genuine_means_of : (entries : List Entry) (r : Result Bool AllocError) → IfOk r (λ b. b ≡ is_genuine entries) → IfOk r (λ b. IsTrue b ↔ IsGenuine entries)
genuine_means_of entries (Ok b) is = genuine_means entries b is
genuine_means_of entries (Err e) is = tt
